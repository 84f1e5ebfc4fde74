-- The two counts of a mailbox: the rule of their words, and what its ports know of them
use Rattle.std.specs.Prelude.{◌≡◌, ℕ, ◌+◌, ◌-◌, ◌%◌, ◌^◌, ◌<◌, ◌≤◌, cond, List, [], ◌∷◌, ◌++◌, length, max, nat_le, sum_by, Option, slice_index}
use Rattle.std.specs.List.{AllByRecursion}
use mathlib.Core.Option.{some}
use lib.ListN.{get_elem?}
use Rattle.atomic_table.specs.Table.{State, Me, Step}
use Rattle.hg_mail.specs.declared.view.Finding.{Finding}
use Rattle.hg_mail.specs.declared.view.CountView.{CountView}

-- how many parts the first port has
abbrev pub all_parts : ℕ
all_parts = 65536

-- so many parts, by which nothing was counted, noted, seen or found
abbrev pub count_of : ℕ → ℕ → CountView
count_of room parts = record {
  room = room;
  parts = parts;
  mine = 0;
  out = 0;
  full = 0;
  collects = 0;
  seen = 0;
  counted = 0;
  dates = [];
  findings = [];
}

abbrev pub first_count : ℕ → CountView
first_count room = count_of room all_parts

abbrev pub spent_count : ℕ → CountView
spent_count room = count_of room 0

abbrev pub one_part : ℕ → CountView
one_part room = count_of room 1

-- one part is given away
abbrev pub after_part : CountView → CountView
after_part n = record n { parts = n.parts - 1 }

abbrev pub joined_count : CountView → CountView → CountView
joined_count n o = record {
  room = n.room;
  parts = n.parts + o.parts;
  mine = n.mine + o.mine;
  out = n.out + o.out;
  full = n.full + o.full;
  collects = n.collects + o.collects;
  seen = max n.seen o.seen;
  counted = max n.counted o.counted;
  dates = n.dates ++ o.dates;
  findings = n.findings ++ o.findings;
}

-- one more was counted by this port, after so many collects
abbrev pub counting : CountView → ℕ → CountView
counting n date = record n { mine = n.mine + 1; dates = n.dates ++ date ∷ [] }

-- so many were found to be counted
abbrev pub seeing : CountView → ℕ → CountView
seeing n found = record n { seen = max n.seen found; counted = found }

-- a message comes back where so many are noted as taken out: that counts just where the others that were counted fill the room
abbrev pub coming_back : CountView → ℕ → CountView
coming_back n found = record n { full = n.full + cond (nat_le (n.room + found) n.counted) 1 0 }

-- this port collects once more, and found this
abbrev pub collecting : CountView → Finding → CountView
collecting n f = record n { collects = n.collects + 1; findings = n.findings ++ f ∷ [] }

-- this port notes so many as taken out
abbrev pub noting : CountView → ℕ → CountView
noting n taken = record n { out = n.out + taken }

-- ---- what a collect finds

-- how many of these dates are before the collect that came after so many others
abbrev pub dated_by : ℕ → List ℕ → ℕ
dated_by number [] = 0
dated_by number (d ∷ ds) = cond (nat_le d number) 1 0 + dated_by number ds

-- so many of its own a port had counted before that collect
abbrev pub early : ℕ → CountView → ℕ
early number n = dated_by number n.dates

abbrev pub all_collects : List CountView → ℕ
all_collects views = sum_by (λ (n : CountView). n.collects) views

-- the collect was one of all, and found what all ports had counted before it
pub record IsFinding (views : List CountView) (f : Finding) : Type 0 where
  pub number : f.number < all_collects views
  pub counted : f.counted ≡ sum_by (early f.number) views

-- each message that a port has counted has its date, after no more collects than there were; and each of its collects has found
-- something
pub record IsDated (collects : ℕ) (n : CountView) : Type 0 where
  pub all : length n.dates ≡ n.mine
  pub past : AllByRecursion (λ d. d ≤ collects) n.dates
  pub each : length n.findings ≡ n.collects

-- ---- the rule, and its steps

-- the words, which wrap, are what all ports have counted and what they have noted as taken out; what any port has seen is at most
-- the first; and each collect of a port found all that was counted before it
pub record Counts (s : State (Option ℕ) CountView) : Type 0 where
  pub both : length s.words ≡ 2
  pub word : slice_index s.words 0 ≡ sum_by (λ (n : CountView). n.mine) s.views % 2 ^ 64
  pub out : slice_index s.words 1 ≡ sum_by (λ (n : CountView). n.out) s.views % 2 ^ 64
  pub seen : (j : ℕ) (n : CountView) → get_elem? s.views j ≡ some n → n.seen ≤ sum_by (λ (o : CountView). o.mine) s.views
  -- the parts of the ports are all, and one without parts has counted nothing
  pub parts : sum_by (λ (n : CountView). n.parts) s.views ≡ all_parts
  pub idle : (j : ℕ) (n : CountView) → get_elem? s.views j ≡ some n → n.parts ≡ 0 → n.mine ≡ 0
  pub dates : (j : ℕ) (n : CountView) → get_elem? s.views j ≡ some n → IsDated (all_collects s.views) n
  pub findings : (j : ℕ) (n : CountView) → get_elem? s.views j ≡ some n → AllByRecursion (IsFinding s.views) n.findings

-- what a port knows of the counts, and the slots that it has taken, which are none
abbrev pub CountHand : Type 0
CountHand = Me (Option ℕ) CountView

-- what a step on the first word tells: one more is counted
pub record HasRaised (m n : CountHand) : Type 0 where
  pub date : ℕ
  pub is : n ≡ (counting m.0 date, m.1)

abbrev pub raised : Step (Option ℕ) → CountHand → ℕ → CountHand → Type 0
raised step m found n = HasRaised m n

-- the port collects: the word is what it finds
pub record HasFound (m : CountHand) (found : ℕ) (n : CountHand) : Type 0 where
  pub finding : Finding
  pub is : n ≡ (collecting m.0 finding, m.1)
  pub next : m.0.collects ≤ finding.number
  pub word : finding.counted % 2 ^ 64 ≡ found

abbrev pub begun : Step (Option ℕ) → CountHand → ℕ → CountHand → Type 0
begun step m found n = HasFound m found n

-- each of these collects found as many as these dates tell
abbrev pub AreFoundBy : List ℕ → List Finding → Type 0
AreFoundBy dates findings = AllByRecursion (λ (f : Finding). f.counted ≡ dated_by f.number dates) findings

-- the count is read; with all parts it is what the port itself has counted, and its dates tell what each of its collects found
pub record HasLooked (m : CountHand) (found : ℕ) (n : CountHand) : Type 0 where
  pub seen : n ≡ (seeing m.0 found, m.1)
  pub whole : m.0.parts ≡ all_parts → max m.0.seen found ≤ m.0.mine
  pub exact : m.0.parts ≡ all_parts → found ≡ m.0.mine % 2 ^ 64
  pub findings : m.0.parts ≡ all_parts → AreFoundBy m.0.dates m.0.findings

abbrev pub looked : Step (Option ℕ) → CountHand → ℕ → CountHand → Type 0
looked step m found n = HasLooked m found n

-- what a step on the second word tells: how many are noted as taken out is read, where a message comes back
abbrev pub came_back : Step (Option ℕ) → CountHand → ℕ → CountHand → Type 0
came_back step m found n = n ≡ (coming_back m.0 found, m.1)

-- as many as the step adds are noted as taken out
abbrev pub noted : Step (Option ℕ) → CountHand → ℕ → CountHand → Type 0
noted step m found n = n ≡ (noting m.0 step.first, m.1)
