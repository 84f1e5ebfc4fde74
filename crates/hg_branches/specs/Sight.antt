-- What a graph of branches keeps to
use Rattle.std.specs.Prelude.{◌≡◌, ℕ, ◌+◌, ◌<◌, ◌≤◌, length, vec_len, vec_capacity}
use Rattle.hg_model.specs.Stakes.{member_count}
use Rattle.hg_ancestry.specs.Held.{HoldsForks}
use Rattle.hg_branches.specs.declared.sight.BranchSight.TheInside.{Inside}
use Rattle.hg_branches.specs.Columns.{HoldsBranches, HoldsCounts, room_of}
use Rattle.hg_branches.specs.Firsts.{none_by}
use Rattle.hg_branches.specs.Lines.{AreSeveral}
use Rattle.hg_branches.specs.Landmarks.{landmark_at, HoldsLandmarks, HoldsTops, IsSpareLandmark, spare_room}

-- each column holds what it is to hold, and has memory for a row where that was taken
pub record HoldsBranchSight (s : Inside) : Type 0 where
  pub branches : HoldsBranches s.stakes s.links.items s.branches.items s.makers.items s.ends.items
  pub several : AreSeveral (member_count s.stakes) s.makers.items s.several
  pub counts : HoldsCounts s.stakes s.links.items s.branches.items s.makers.items s.counts.rows
  pub counts_members : s.counts.members ≡ member_count s.stakes
  pub forks : HoldsForks s.links.items s.forked.items
  pub landmarks : HoldsLandmarks s.stakes s.links.items s.branches.items s.makers.items s.landmarks.items s.newest.items s.numbers.items
  pub tops : HoldsTops s.landmarks.items s.tops.ends
  pub tops_all : length s.tops.ends ≡ length s.makers.items
  pub spare : IsSpareLandmark (member_count s.stakes) (none_by s.wide) s.spare
  pub widths : (i : ℕ) → i < length s.landmarks.items → none_by s.wide ≤ (landmark_at s.landmarks.items i).none
  pub rows_room : length s.links.items + room_of s.ready < none_by s.wide
  pub links_room : room_of s.ready ≤ s.links.room
  pub branches_room : room_of s.ready ≤ s.branches.room
  pub makers_room : vec_len s.makers + room_of s.ready ≤ vec_capacity s.makers
  pub ends_room : vec_len s.ends + room_of s.ready ≤ vec_capacity s.ends
  pub counts_room : room_of s.ready ≤ s.counts.room
  pub forked_room : room_of s.ready ≤ s.forked.room
  pub newest_room : vec_len s.newest + room_of s.ready ≤ vec_capacity s.newest
  pub tops_room : room_of s.ready ≤ s.tops.room
  pub numbers_room : vec_len s.numbers + room_of s.ready ≤ vec_capacity s.numbers
  pub landmarks_room : vec_len s.landmarks + spare_room s.spare ≤ vec_capacity s.landmarks
