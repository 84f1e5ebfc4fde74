-- Which rows a graph has, told by names, and which it lacks of another. SWIRLDS-TR-2016-01, section 3
use Rattle.std.specs.Prelude.{ℕ, Bool, not, nat_lt, List, length, filter}
use Rattle.hg_model.specs.declared.row.Row.{Row}
use Rattle.hg_model.specs.Links.{place_of}

-- some row has the name
abbrev pub is_held : List Row → List ℕ → Bool
is_held G name = nat_lt (place_of G name) (length G)

-- the rows of H whose names G lacks, in their order
abbrev pub lacking : List Row → List Row → List Row
lacking G H = filter (λ row. not (is_held G row.name)) H
