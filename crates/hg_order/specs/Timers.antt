-- Medians by counting: the rows on the lines of the unique famous witnesses, in the order of their times, each counted at
-- the rows that it has as ancestor and its self-parent has not
use Rattle.std.specs.Prelude.{ℕ, ◌≡◌, ◌<◌, ◌≤◌, ◌+◌, ◌-◌, Bool, true, cond, not, ◌&&◌, ◌==◌, nat_le, nat_lt, min, List, length, fold, slice_index, slice_index_or}
use Rattle.std.specs.declared.cmp.Ordering.{Ordering}
use Rattle.std.specs.List.{list_all, list_any}
use Rattle.std.specs.Ordering.{nat_cmp, ordering_then, is_lt}
use Rattle.hg_model.specs.declared.row.Row.{Row}
use Rattle.hg_model.specs.declared.row.Placed.{Placed}
use Rattle.hg_model.specs.Places.{list_below}
use Rattle.hg_order.specs.declared.timer.Timer.{Timer}
use Rattle.hg_order.specs.declared.timer.LineRow.{LineRow}
use Rattle.hg_order.specs.declared.timer.Wanted.{Wanted}
use Rattle.hg_model.specs.Links.{Link, creator, self_parent}
use Rattle.hg_model.specs.Ancestry.{is_ancestor, is_self_ancestor}
use Rattle.hg_model.specs.declared.counts.Counts.{Counts}
use Rattle.hg_model.specs.Counts.{numbers_of}
use Rattle.hg_model.specs.Shape.{Shape}
use Rattle.hg_model.specs.Prefix.{Graph, links_of}
use Rattle.hg_model.specs.Order.{median, time_at}
use Rattle.hg_order.specs.Famous.{times_of, IsBelowAll}
use Rattle.hg_order.specs.Counted.{IsBelow}

abbrev pub no_timer : Timer
no_timer = record { left = 0; time = 0 }

abbrev pub timer_at : List Timer → ℕ → Timer
timer_at timers k = slice_index_or timers k no_timer

-- one time more: that which leaves none to come is kept
abbrev pub ticked : ℕ → Timer → Timer
ticked time t = record { left = t.left - 1; time = cond (t.left == 1) time t.time }

-- z has x as ancestor, and its self-parent has not
abbrev pub is_gained_by : List Link → ℕ → ℕ → Bool
is_gained_by L z x = is_ancestor L z x && list_all (λ p. not (is_ancestor L p x)) (self_parent L z)

-- the timer of row x after one line row more, and after these
abbrev pub timer_by : List Link → ℕ → Timer → LineRow → Timer
timer_by L x t h = cond (is_gained_by L h.place x) (ticked h.time t) t

abbrev pub timer_of : List Link → ℕ → Timer → List LineRow → Timer
timer_of L x t line_rows = fold (timer_by L x) t line_rows

-- row x is by member m, from `bottom` on and below `top`
abbrev pub is_in_line : List Link → ℕ → ℕ → ℕ → ℕ → Bool
is_in_line L m bottom top x = creator L x == m && (nat_le bottom x && nat_lt x top)

-- row x is by the member whose row stands just below `top`
abbrev pub is_in_line_below : List Link → ℕ → ℕ → ℕ → Bool
is_in_line_below L bottom top x = is_in_line L (creator L (top - 1)) bottom top x

-- row x is not below the number `before` of its creator, and below both others
abbrev pub is_between : List Link → List ℕ → List ℕ → List ℕ → ℕ → Bool
is_between L before counts least x =
    let m = creator L x in
    nat_le (slice_index before m) x && nat_lt x (min (slice_index counts m) (slice_index least m))

-- of each member the lesser of these numbers is 0, or one more than the place of a row by that member
abbrev pub AreEnds : List Link → List ℕ → List ℕ → Type 0
AreEnds L counts least =
    (m : ℕ) → 0 < min (slice_index counts m) (slice_index least m) → (slice_index counts m ≤ length L) × (creator L (min (slice_index counts m) (slice_index least m) - 1) ≡ m)

-- of each member the lesser of these numbers is at most `top`
abbrev pub ReachesTop : List ℕ → List ℕ → ℕ → Type 0
ReachesTop counts least top = (m : ℕ) → min (slice_index counts m) (slice_index least m) ≤ top

-- the timers stand for the rows from `low` on: those of the rows that pass the test have one time more
pub record AreTicked (low time : ℕ) (test : ℕ → Bool) (old new : List Timer) : Type 0 where
  pub each : (k : ℕ) → timer_at new k ≡ cond (test (low + k)) (ticked time (timer_at old k)) (timer_at old k)
  pub long : length new ≡ length old

-- those of the rows below these numbers are so by one line row more, and by these
pub record AreTickedBy (L : List Link) (least : List ℕ) (low : ℕ) (h : LineRow) (old new : List Timer) : Type 0 where
  pub each : (k : ℕ) → low + k < length L → IsBelow L least (low + k) → timer_at new k ≡ timer_by L (low + k) (timer_at old k) h
  pub long : length new ≡ length old

pub record AreTickedByAll (L : List Link) (least : List ℕ) (low : ℕ) (line_rows : List LineRow) (old new : List Timer) : Type 0 where
  pub each : (k : ℕ) → low + k < length L → IsBelow L least (low + k) → timer_at new k ≡ timer_of L (low + k) (timer_at old k) line_rows
  pub long : length new ≡ length old

-- the rows that are not below the first number of their creator, and below both others, have one time more
abbrev pub TicksBetween : Shape → List ℕ → List ℕ → List ℕ → ℕ → ℕ → List Timer → List Timer → Type 0
TicksBetween s before counts least low time old new = AreTicked low time (is_between s.links before counts least) old new

-- the same, where the numbers are counts of either width
abbrev pub TicksAt : Shape → Counts → Counts → Wanted → ℕ → List Timer → List Timer → Type 0
TicksAt s before counts wanted time old new = TicksBetween s (numbers_of before) (numbers_of counts) wanted.least wanted.low time old new

-- if its ancestors are counted, this line row ticks
abbrev pub TicksBy : Bool → Shape → Wanted → LineRow → List Timer → List Timer → Type 0
TicksBy counted s wanted h old new = counted ≡ true → AreTickedBy s.links wanted.least wanted.low h old new

-- if all ancestors are counted, these line rows tick
abbrev pub TicksAll : Bool → Shape → Wanted → List LineRow → List Timer → List Timer → Type 0
TicksAll counted s wanted line_rows old new = counted ≡ true → AreTickedByAll s.links wanted.least wanted.low line_rows old new

-- there is a timer for each row below these numbers
abbrev pub ReachAll : List Link → List ℕ → ℕ → List Timer → Type 0
ReachAll L least low timers = (x : ℕ) → x < length L → IsBelow L least x → x < low + length timers

-- row z as a line row
abbrev pub line_row_at : List Row → ℕ → LineRow
line_row_at G z = record { time = time_at G z; place = z }

-- z stands on the line of some of these
abbrev pub is_on_some_line : List Link → List ℕ → ℕ → Bool
is_on_some_line L places z = list_any (λ w. is_self_ancestor L w z) places

-- z does not stand below `low`, and stands below the end of the line of its creator
abbrev pub is_line_row : List Link → List ℕ → ℕ → ℕ → Bool
is_line_row L ends low z = nat_le low z && nat_lt z (slice_index ends (creator L z))

-- these below `end`, by their places
abbrev pub line_rows_below : Graph → List ℕ → ℕ → ℕ → List LineRow
line_rows_below g ends low «end» = list_below (line_row_at g.rows) «end» (is_line_row (links_of g) ends low)

-- how line rows compare: by their times, and where these are the same by their places
abbrev pub line_row_cmp : LineRow → LineRow → Ordering
line_row_cmp a b = ordering_then (nat_cmp a.time b.time) (nat_cmp a.place b.place)

abbrev pub is_earlier : LineRow → LineRow → Bool
is_earlier a b = is_lt (line_row_cmp a b)

-- no time yet, of so many that are needed
abbrev pub unticked : ℕ → Timer
unticked need = record { left = need; time = 0 }

-- the timers have the consensus timestamps of the rows from `low` on that all of these have as ancestor
pub record HaveMedians (g : Graph) (famous : List ℕ) (low : ℕ) (timers : List Timer) : Type 0 where
  pub median : (k : ℕ) → IsBelowAll g famous (low + k) → (timer_at timers k).time ≡ median (times_of g.rows (links_of g) (low + k) famous)
  pub reach : (x : ℕ) → IsBelowAll g famous x → x < low + length timers

-- x as a round places it that these timers are of
abbrev pub placed_with : ℕ → ℕ → List Timer → ℕ → Placed
placed_with low round timers x = record { place = x; received = round; time = (timer_at timers (x - low)).time }
