-- Medians by a sweep: the line rows in the order of their times, and of each member one row, the next whose time is to be
-- found, with how many lines have it as ancestor. Of each line it keeps the counts of the last row that it went through. Both
-- are kept by how far they are from the lowest row of the round on
use Rattle.std.specs.Prelude.{ℕ, ◌≡◌, ◌<◌, ◌≤◌, ◌+◌, ◌-◌, ◌⊎◌, Bool, true, cond, ◌&&◌, nat_le, nat_lt, List, [], ◌∷◌, ◌++◌, zero, suc, length, count_by, map, replicate, slice_index, slice_index_or}
use Rattle.hg_model.specs.Stakes.{Stakes, member_count}
use Rattle.hg_model.specs.Links.{Link, creator}
use Rattle.hg_model.specs.Ancestry.{is_ancestor}
use Rattle.hg_order.specs.declared.timer.Timer.{Timer}
use Rattle.hg_order.specs.declared.timer.LineRow.{LineRow}
use Rattle.hg_order.specs.declared.timer.Wanted.{Wanted}
use Rattle.hg_order.specs.declared.lane.Lane.{Lane}
use Rattle.hg_order.specs.declared.lane.Course.{Course}
use Rattle.hg_order.specs.declared.sweep.Lanes.{Lanes}
use Rattle.hg_model.specs.Shape.{Shape}
use Rattle.hg_model.specs.Counts.{CountsMembersIn}
use Rattle.hg_order.specs.Counted.{IsBelow}
use Rattle.hg_order.specs.Timers.{timer_at, timer_of, is_gained_by, unticked}

-- one more than a place, by how far that is from `low` on, or 0
abbrev pub end_from : ℕ → ℕ → ℕ
end_from low zero = 0
end_from low (suc k) = low + suc k

abbrev pub ends_from : ℕ → List ℕ → List ℕ
ends_from low counts = map (end_from low) counts

abbrev pub lines_from : ℕ → List (List ℕ) → List (List ℕ)
lines_from low last = map (ends_from low) last

-- the first of these numbers are those of the others from `low` on
abbrev pub AreFrom : ℕ → List ℕ → List ℕ → Type 0
AreFrom low counts to = (m : ℕ) → m < length counts → slice_index to m ≡ slice_index counts m - low

-- the row just below `end` has x as ancestor; below 0 there is none
abbrev pub has_reached : List Link → ℕ → ℕ → Bool
has_reached L x «end» = nat_lt 0 «end» && is_ancestor L («end» - 1) x

-- these counts tell x as an ancestor
abbrev pub has_counted : List Link → ℕ → List ℕ → Bool
has_counted L x counts = nat_lt x (slice_index counts (creator L x))

-- how many of the lines have x as ancestor, by the counts of the last row of each
abbrev pub reached : List Link → List (List ℕ) → ℕ → ℕ
reached L last x = count_by (has_counted L x) last

abbrev pub counts_at : List (List ℕ) → ℕ → List ℕ
counts_at last m = slice_index_or last m []

-- one more than the place of the last row of m's line, which its own count tells, or 0
abbrev pub end_of : List (List ℕ) → ℕ → ℕ
end_of last m = slice_index (counts_at last m) m

-- of the rows from `low` on the counts of each line tell just those that its last row has as ancestor
abbrev pub AreLast : List Link → ℕ → List (List ℕ) → Type 0
AreLast L low last = (m x : ℕ) → low ≤ x → x < length L → has_counted L x (counts_at last m) ≡ has_reached L x (end_of last m)

-- one more than a self-parent's place, or 0 where there is none from `low` on
abbrev pub parent_end : ℕ → List ℕ → ℕ
parent_end low [] = 0
parent_end low (p ∷ ps) = cond (nat_lt p low) 0 (p + 1)

-- the row just below `next` is not below `before`, and is below `counts`
abbrev pub is_next_gained : ℕ → ℕ → ℕ → Bool
is_next_gained before counts next = nat_lt before next && nat_le next counts

-- each of the first numbers is one more where the row of its lane is gained
abbrev pub AreGained : List ℕ → List ℕ → List ℕ → List ℕ → List ℕ → Type 0
AreGained before counts next old new =
    (m : ℕ) → m < length counts → slice_index new m ≡ slice_index old m + cond (is_next_gained (slice_index before m) (slice_index counts m) (slice_index next m)) 1 0

-- the same where all but `counts` are from `low` on
abbrev pub AreGainedFrom : ℕ → List ℕ → List ℕ → List ℕ → List ℕ → List ℕ → Type 0
AreGainedFrom low before counts next old new =
    (m : ℕ) → m < length counts → slice_index new m ≡ slice_index old m + cond (is_next_gained (slice_index before m) (slice_index counts m - low) (slice_index next m)) 1 0

-- row x follows on a line: the lanes count what it gains, `top` is the greatest of the numbers then, and the line has its counts
pub record GainsFrom (s : Shape) (x low : ℕ) (before after next old new : List ℕ) (top : ℕ) : Type 0 where
  pub counts : List ℕ
  pub are : CountsMembersIn s x counts
  pub gained : AreGainedFrom low before counts next old new
  pub line : AreFrom low counts after
  pub rest : (m : ℕ) → length counts ≤ m → slice_index new m ≡ slice_index old m
  pub most : (m : ℕ) → m < length counts → slice_index new m ≤ top

-- the lane has come past row x
abbrev pub IsPast : ℕ → ℕ → Type 0
IsPast next x = (next ≡ 0) ⊎ (x + 1 < next)

-- `next` is one more than the place of the first row by m from `bottom` on and below `top`, or 0 where there is none
pub record IsNextFrom (L : List Link) (top m bottom next : ℕ) : Type 0 where
  pub from : 0 < next → bottom < next
  pub to : next ≤ top
  pub by : 0 < next → creator L (next - 1) ≡ m
  pub first : (x : ℕ) → creator L x ≡ m → bottom ≤ x → x < top → (0 < next) × (next ≤ x + 1)

-- each member's number tells the first of its rows
abbrev pub AreFirsts : List Link → ℕ → ℕ → List ℕ → Type 0
AreFirsts L low top next = (m : ℕ) → IsNextFrom L top m low (slice_index next m)

-- each timer has in `left` where the next row by the same member stands
abbrev pub AreLinked : List Link → ℕ → List Timer → Type 0
AreLinked L low ts = (k : ℕ) → k < length ts → IsNextFrom L (low + length ts) (creator L (low + k)) (low + k + 1) (timer_at ts k).left

-- a member's lane: where its row stands, and how many lines have that as ancestor
pub record IsLane (L : List Link) (last : List (List ℕ)) (low top m next above : ℕ) : Type 0 where
  pub from : 0 < next → low < next
  pub to : next ≤ top
  pub by : 0 < next → creator L (next - 1) ≡ m
  pub counted : 0 < next → above ≡ reached L last (next - 1)
  pub idle : next ≡ 0 → above ≡ 0

abbrev pub AreLanes : List Link → List (List ℕ) → ℕ → ℕ → List ℕ → List ℕ → Type 0
AreLanes L last low top next above = (m : ℕ) → IsLane L last low top m (slice_index next m) (slice_index above m)

abbrev pub AreLanesOver : Shape → ℕ → Lanes → List Timer → Type 0
AreLanesOver s low lanes ts = AreLanes s.links (lines_from low lanes.last.items) low (low + length ts) (ends_from low lanes.next) lanes.above

abbrev pub AreLastOver : Shape → ℕ → Lanes → Type 0
AreLastOver s low lanes = AreLast s.links low (lines_from low lanes.last.items)

-- of so many members: no line has a row, and no lane
pub record AreClear (members : ℕ) (lanes : Lanes) : Type 0 where
  pub last : lanes.last.items ≡ replicate members (replicate 128 0)
  pub next : lanes.next ≡ replicate 128 0
  pub above : lanes.above ≡ replicate 128 0

-- the row has this time, and enough lines have it as ancestor
pub record IsTimed (L : List Link) (last : List (List ℕ)) (need when x : ℕ) (t : Timer) : Type 0 where
  pub found : t.time ≡ when
  pub enough : need ≤ reached L last x

-- the lane of member m went on from one row to another, and those below `bound` that it came past have the time
pub record IsAdvanced (L : List Link) (bound : ℕ) (last : List (List ℕ)) (low need when m start next above : ℕ) (old new : List Timer) : Type 0 where
  pub lane : IsLane L last low (low + length new) m next above
  pub later : 0 < next → start ≤ next
  pub linked : AreLinked L low new
  pub kept : (k : ℕ) → (creator L (low + k) ≡ m → low + k + 1 < start) → timer_at new k ≡ timer_at old k
  pub timed : (k : ℕ) → low + k < bound → low + k < low + length new → creator L (low + k) ≡ m → start ≤ low + k + 1 → IsPast next (low + k) →
      IsTimed L last need when (low + k) (timer_at new k)
  pub long : length new ≡ length old

-- there is a row, and this many lines have it as ancestor
pub record IsLaneFrom (L : List Link) (last : List (List ℕ)) (low : ℕ) (ts : List Timer) (next above : ℕ) : Type 0 where
  pub from : low < next
  pub to : next ≤ low + length ts
  pub counted : above ≡ reached L last (next - 1)

-- the same of a lane, by the counts of the lines from the course's `low` on
abbrev pub StartsLane : Shape → List (List ℕ) → Course → Lane → List Timer → Type 0
StartsLane s last course start ts = IsLaneFrom s.links (lines_from course.low last) course.low ts start.next start.above

-- the lane went on like this: that of the member by whom its row was
abbrev pub AdvancesLane : Shape → List (List ℕ) → Course → Lane → Lane → List Timer → List Timer → Type 0
AdvancesLane s last course start lane old new =
    IsAdvanced s.links course.bound (lines_from course.low last) course.low course.need course.time (creator s.links (start.next - 1)) start.next lane.next lane.above old new

-- the same of all lanes
pub record AreAdvanced (L : List Link) (least : List ℕ) (last : List (List ℕ)) (low need when : ℕ) (start next above : List ℕ) (old new : List Timer) : Type 0 where
  pub lanes : AreLanes L last low (low + length new) next above
  pub linked : AreLinked L low new
  pub kept : (k : ℕ) → IsPast (slice_index start (creator L (low + k))) (low + k) → timer_at new k ≡ timer_at old k
  pub timed : (k : ℕ) → IsBelow L least (low + k) → low + k < low + length new → 0 < slice_index start (creator L (low + k)) →
      slice_index start (creator L (low + k)) ≤ low + k + 1 → IsPast (slice_index next (creator L (low + k))) (low + k) → IsTimed L last need when (low + k) (timer_at new k)
  pub long : length new ≡ length old

abbrev pub AdvancesLanes : Shape → Wanted → ℕ → Lanes → Lanes → List Timer → List Timer → Type 0
AdvancesLanes s wanted when start lanes old new =
    AreAdvanced s.links wanted.least (lines_from wanted.low lanes.last.items) wanted.low wanted.need when (ends_from wanted.low start.next) (ends_from wanted.low lanes.next) lanes.above old new

abbrev pub AreFew : ℕ → List ℕ → Type 0
AreFew need above = (m : ℕ) → slice_index above m < need

-- row z counts one more at each lane whose row, from `low` on, it gains; `top` is the greatest of the numbers then
pub record AreGainedBy (n : Stakes) (L : List Link) (low z : ℕ) (next old new : List ℕ) (top : ℕ) : Type 0 where
  pub each : (m : ℕ) → low < slice_index next m → creator L (slice_index next m - 1) ≡ m → slice_index next m ≤ length L →
      slice_index new m ≡ slice_index old m + cond (is_gained_by L z (slice_index next m - 1)) 1 0
  pub none : (m : ℕ) → slice_index next m ≡ 0 → slice_index new m ≡ slice_index old m
  pub most : (m : ℕ) → m < member_count n → slice_index new m ≤ top
  pub rest : (m : ℕ) → member_count n ≤ m → slice_index new m ≡ slice_index old m

-- after these line rows: the lanes count what they gained, and the rows that lanes came past have their time
pub record IsSwept (L : List Link) (least : List ℕ) (low need : ℕ) (line_rows : List LineRow) (last : List (List ℕ)) (next above : List ℕ) (ts : List Timer) : Type 0 where
  pub lanes : AreLanes L last low (low + length ts) next above
  pub linked : AreLinked L low ts
  pub few : AreFew need above
  pub counted : (x : ℕ) → low ≤ x → x < length L → count_by (λ h. is_gained_by L h.place x) line_rows ≡ reached L last x
  pub done : (k : ℕ) → IsBelow L least (low + k) → low + k < low + length ts → IsPast (slice_index next (creator L (low + k))) (low + k) →
      timer_of L (low + k) (unticked need) line_rows ≡ record { left = 0; time = (timer_at ts k).time }

abbrev pub IsSweptOver : Shape → Wanted → List LineRow → Lanes → List Timer → Type 0
IsSweptOver s wanted line_rows lanes ts =
    IsSwept s.links wanted.least wanted.low wanted.need line_rows (lines_from wanted.low lanes.last.items) (ends_from wanted.low lanes.next) lanes.above ts

abbrev pub IsSweptBySome : Shape → Wanted → Lanes → List Timer → Type 0
IsSweptBySome s wanted lanes ts = (line_rows : List LineRow) × IsSweptOver s wanted line_rows lanes ts

-- if it is swept, one line row more keeps it so
abbrev pub Sweeps : Bool → Shape → Wanted → LineRow → Lanes → Lanes → List Timer → List Timer → Type 0
Sweeps swept s wanted h old_lanes lanes old new =
    swept ≡ true → (line_rows : List LineRow) → IsSweptOver s wanted line_rows old_lanes old → IsSweptOver s wanted (line_rows ++ h ∷ []) lanes new

-- the rows below these numbers stand below `top`
abbrev pub ReachTo : List Link → List ℕ → ℕ → Type 0
ReachTo L least top = (x : ℕ) → x < length L → IsBelow L least x → x < top

-- the rows below these numbers have the times that these line rows leave of them
abbrev pub AreTimed : List Link → List ℕ → ℕ → ℕ → List LineRow → List Timer → Type 0
AreTimed L least low need line_rows ts = (k : ℕ) → low + k < length L → IsBelow L least (low + k) →
    (timer_at ts k).time ≡ (timer_of L (low + k) (unticked need) line_rows).time

-- if they are found, the timers have them
abbrev pub FindsTimes : Bool → Shape → Wanted → List LineRow → List Timer → Type 0
FindsTimes found s wanted line_rows ts = found ≡ true → AreTimed s.links wanted.least wanted.low wanted.need line_rows ts

-- none of the first lanes is left at a row below its bound
abbrev pub ArePast : ℕ → List ℕ → List ℕ → Type 0
ArePast members next least = (m : ℕ) → m < members → (slice_index next m ≡ 0) ⊎ (slice_index least m < slice_index next m)
