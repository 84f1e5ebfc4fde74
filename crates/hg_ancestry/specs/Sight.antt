-- What a graph of bit rows keeps to
use Rattle.std.specs.Prelude.{◌+◌, ◌≤◌, vec_len, vec_capacity}
use Rattle.hg_ancestry.specs.declared.sight.BitSight.TheInside.{Inside}
use Rattle.hg_ancestry.specs.Held.{HoldsSight, IsSpare, spare_room}

-- the rows hold what they are to, and where there is a spare row of bits there is memory for a row
pub record HoldsBitSight (s : Inside) : Type 0 where
  pub sight : HoldsSight s.stakes s.links.items s.ancestors.items s.forked.items
  pub spare : IsSpare (vec_len s.links) s.spare
  pub links_room : vec_len s.links + spare_room s.spare ≤ vec_capacity s.links
  pub ancestors_room : vec_len s.ancestors + spare_room s.spare ≤ vec_capacity s.ancestors
  pub forked_room : vec_len s.forked + spare_room s.spare ≤ vec_capacity s.forked
