-- What it is for two graphs to tell the same
use Rattle.std.specs.Prelude.{ℕ, ◌≡◌, ◌<◌, List, length}
use Rattle.hg_model.specs.Links.{creator, self_parent}
use Rattle.hg_model.specs.Ancestry.{is_ancestor}
use Rattle.hg_model.specs.Shape.{Shape}
use Rattle.hg_model.specs.Standings.{Standing, round_at, witness_at, greatest_in}
use Rattle.hg_model.specs.GraphWords.{strongly_sees_in, sees_in}

-- rows x and y see each other alike in both
pub record IsPairAlike (a b : Shape) (x y : ℕ) : Type 0 where
  pub ancestor : is_ancestor a.links x y ≡ is_ancestor b.links x y
  pub seen : sees_in a x y ≡ sees_in b x y
  pub strong : strongly_sees_in a x y ≡ strongly_sees_in b x y

-- row x has the same creator, self-parent and round in both, and is a witness in both or in neither
pub record IsRowAlike (a : Shape) (a_standings : List Standing) (b : Shape) (b_standings : List Standing) (x : ℕ) : Type 0 where
  pub maker : creator a.links x ≡ creator b.links x
  pub parent : self_parent a.links x ≡ self_parent b.links x
  pub round : round_at a_standings x ≡ round_at b_standings x
  pub witness : witness_at a_standings x ≡ witness_at b_standings x

-- both tell the same of each row, and of each pair of rows
pub record AreAlike (a : Shape) (a_standings : List Standing) (b : Shape) (b_standings : List Standing) : Type 0 where
  pub len : length a.links ≡ length b.links
  pub rows : (x : ℕ) → x < length a.links → IsRowAlike a a_standings b b_standings x
  pub pairs : (x y : ℕ) → x < length a.links → y < length a.links → IsPairAlike a b x y
  pub greatest : greatest_in a_standings ≡ greatest_in b_standings
