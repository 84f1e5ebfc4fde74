-- Which rows wait to be received, by what a node keeps of them
use Rattle.std.specs.Prelude.{ℕ, ◌≡◌, ◌<◌, ◌≤◌, ◌+◌, ◌-◌, Bool, cond, ◌&&◌, nat_le, nat_lt, max, List, [], length, replicate, slice_index, sum_by}
use Rattle.hg_model.specs.Places.{count_below, list_below, weight_below}
use Rattle.hg_model.specs.Stakes.{Stakes, member_count}
use Rattle.hg_model.specs.Links.{Link, creator}
use Rattle.hg_order.specs.Counted.{AreLines}
use Rattle.hg_order.specs.Timers.{is_in_line_below}

pub record Waiting : Type 0 where
  -- of each member one more than the place of the last of its rows that was received, or 0
  pub ends : List ℕ
  -- the places below `looked`
  pub places : List ℕ
  pub looked : ℕ

-- no row was received
abbrev pub none_received : Waiting
none_received = record { ends = replicate 128 0; places = []; looked = 0 }

-- row x does not stand below the end of its creator
abbrev pub is_past : List Link → List ℕ → ℕ → Bool
is_past L ends x = nat_le (slice_index ends (creator L x)) x

-- the rows that pass the test wait: of those below `looked` just the listed ones, of the others just those past the end
-- of their creator
pub record AreWaiting (L : List Link) (w : Waiting) (waits : ℕ → Bool) : Type 0 where
  pub looked : w.looked ≤ length L
  pub below : w.places ≡ list_below (λ x. x) w.looked waits
  pub above : (x : ℕ) → w.looked ≤ x → x < length L → waits x ≡ is_past L w.ends x
  pub ends : (m : ℕ) → slice_index w.ends m ≤ length L

-- some rows wait by this
pub record HasWaiting (L : List Link) (w : Waiting) : Type 0 where
  pub waits : ℕ → Bool
  pub are : AreWaiting L w waits

-- row x stands between the end and the least count of its creator
abbrev pub is_newly_below : List Link → List ℕ → List ℕ → ℕ → Bool
is_newly_below L ends least x = is_past L ends x && nat_lt x (slice_index least (creator L x))

-- each member's rows are in one line, and its number is 0 or one more than the place of one of them
pub record AreLineEnds (n : Stakes) (L : List Link) (least : List ℕ) : Type 0 where
  pub lines : AreLines L
  pub within : (m : ℕ) → m < member_count n → slice_index least m ≤ length L
  pub last : (m : ℕ) → m < member_count n → 0 < slice_index least m → creator L (slice_index least m - 1) ≡ m

-- the numbers of the first members are raised to these
abbrev pub AreRaised : ℕ → List ℕ → List ℕ → List ℕ → Type 0
AreRaised count old least new =
    (m : ℕ) → slice_index new m ≡ cond (nat_lt m count) (max (slice_index old m) (slice_index least m)) (slice_index old m)

-- just the places below n that pass the test are here, each once, in any order: each weight has the same sum
abbrev pub HoldsJust : List ℕ → ℕ → (ℕ → Bool) → Type 0
HoldsJust places n test = (weight : ℕ → ℕ) → sum_by weight places ≡ weight_below weight n test

-- the rows between the ends and the least counts, by place; and they are just here
abbrev pub new_places : List Link → List ℕ → List ℕ → List ℕ
new_places L ends least = list_below (λ x. x) (length L) (is_newly_below L ends least)

abbrev pub HoldsNew : List Link → List ℕ → List ℕ → List ℕ → Type 0
HoldsNew L ends least places = HoldsJust places (length L) (is_newly_below L ends least)

-- the old list holds all that wait below `looked`; where those from there on are just those past the end of their
-- creator, the new one holds all that wait below `end`
abbrev pub ListsTo : List Link → List ℕ → ℕ → ℕ → List ℕ → List ℕ → Type 0
ListsTo L ends looked «end» old new =
    (waits : ℕ → Bool) → old ≡ list_below (λ x. x) looked waits → ((x : ℕ) → looked ≤ x → x < «end» → waits x ≡ is_past L ends x) →
    new ≡ list_below (λ x. x) «end» waits

-- behind the old places come those of the rows by the creator of the row just below `end`, from `low` on and below `end`
abbrev pub ListsLine : List Link → ℕ → ℕ → List ℕ → List ℕ → Type 0
ListsLine L low «end» old new =
    (weight : ℕ → ℕ) → sum_by weight new ≡ sum_by weight old + weight_below weight (length L) (is_in_line_below L low «end»)

-- how many these are
abbrev pub line_length : List Link → ℕ → ℕ → ℕ
line_length L low «end» = count_below (length L) (is_in_line_below L low «end»)
