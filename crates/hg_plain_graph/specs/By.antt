-- Ancestors by all parents, or by self-parents alone
use Rattle.std.specs.Prelude.{ℕ, Bool, List, length}
use Rattle.std.specs.Global.{Vec}
use Rattle.hg_model.specs.Links.{Link, parents, self_parent}
use Rattle.hg_model.specs.Ancestry.{is_ancestor, is_self_ancestor}
use Rattle.hg_plain_graph.specs.declared.ancestry.By.{By}
use Rattle.hg_plain_graph.specs.declared.ancestry.By.TheVariants.{Parents, SelfParent}
use Rattle.hg_plain_graph.specs.Tables.{IsTableOfPairs}

abbrev pub parents_by : By → List Link → ℕ → List ℕ
parents_by Parents L = parents L
parents_by SelfParent L = self_parent L

abbrev pub is_ancestor_by : By → List Link → ℕ → ℕ → Bool
is_ancestor_by Parents L = is_ancestor L
is_ancestor_by SelfParent L = is_self_ancestor L

-- for each of these rows which rows have it as such an ancestor
abbrev pub IsAncestorTable : By → List Link → List (Vec Bool) → Type 0
IsAncestorTable by L columns = IsTableOfPairs (is_ancestor_by by L) (length L) (length L) columns
