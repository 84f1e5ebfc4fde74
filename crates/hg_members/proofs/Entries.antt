-- The entries of an array of values.
use Rattle.std.proofs.Common.{◌≡◌, suc, List, [], ◌∷◌, length, refl, ap}
use Rattle.toml.specs.View.{items_view}
use Rattle.toml.specs.declared.value.Value.{Value}
use Rattle.hg_members.specs.MemberFile.{count_of}

pub count_of_items : (values : List Value) → count_of (items_view values) ≡ length values
count_of_items [] = refl
count_of_items (v ∷ vs) = ap suc (count_of_items vs)
