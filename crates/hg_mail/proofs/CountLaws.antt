-- Each step of a mailbox's counts keeps their rule, and tells what it tells
use Rattle.std.proofs.Common.{◌≡◌, ℕ, suc, ◌+◌, ◌%◌, ◌^◌, ◌<◌, ◌≤◌, max, Bool, true, false, cond, nat_le, List, [], Option, ◌∷◌, ◌++◌, length, length-append, set, slice_index, sum_by, refl, sym, ap, ◌∙◌, subst, ⊎_elim, arith, None, replicate}
use Rattle.std.specs.List.{AllByRecursion}
use Rattle.std.proofs.lemmas.Bool.{le-leb, lt-leb}
use Rattle.std.proofs.lemmas.List.Sums.{sum_by-cons}
use mathlib.Core.Option as home
use mathlib.Core.Option.{none, some}
use lib.ListN.{get_elem?}
use Rattle.atomic_table.specs.Table.{State, keeps, Allows, Splits, Joins, opening, step}
use Rattle.atomic_table.proofs.Lists.{at_set}
use Rattle.hg_mail.specs.declared.view.Finding.{Finding}
use Rattle.hg_mail.specs.declared.view.CountView.{CountView}
use Rattle.hg_mail.specs.Count.{CountHand, Counts, IsDated, IsFinding, after_part, all_collects, begun, came_back, collecting, coming_back, counting, dated_by, early, first_count, joined_count, looked, noted, noting, one_part, raised, seeing, spent_count}
use Rattle.hg_mail.proofs.ListLaws.{Each, all_append, all_map, alone_in_sum, each_one, each_push, each_set, length-set, one_in_sum, sum_push, sum_set}

abbrev parts_of : CountView → ℕ
parts_of n = n.parts

abbrev mine_of : CountView → ℕ
mine_of n = n.mine

abbrev out_of : CountView → ℕ
out_of n = n.out

abbrev collects_of : CountView → ℕ
collects_of n = n.collects

abbrev DatedUpTo : ℕ → ℕ → CountView → Type 0
DatedUpTo collects _ n = IsDated collects n

abbrev AreFindings : List CountView → List Finding → Type 0
AreFindings views fs = AllByRecursion (IsFinding views) fs

abbrev FindsIn : List CountView → ℕ → CountView → Type 0
FindsIn views _ n = AreFindings views n.findings

-- ---- dates

dated_append : (k : ℕ) (ds es : List ℕ) → dated_by k (ds ++ es) ≡ dated_by k ds + dated_by k es
dated_append k [] es = omega arith
dated_append k (d ∷ ds) es = omega (arith, dated_append k ds es)

dated_one : (b : Bool) → cond b 1 0 ≤ 1
dated_one true = omega arith
dated_one false = omega arith

dated_most : (k : ℕ) (ds : List ℕ) → dated_by k ds ≤ length ds
dated_most k [] = omega arith
dated_most k (d ∷ ds) = omega (arith, dated_one (nat_le d k), dated_most k ds)

dated_all : (k : ℕ) (ds : List ℕ) → AllByRecursion (λ d. d ≤ k) ds → dated_by k ds ≡ length ds
dated_all k [] all = refl
dated_all k (d ∷ ds) all = omega (arith, ap {B = ℕ} (λ (b : Bool). cond b 1 0) (le-leb d k all.0), dated_all k ds all.1)

-- one more, of a later date
dated_later : (k d : ℕ) (ds : List ℕ) → k < d → dated_by k (ds ++ d ∷ []) ≡ dated_by k ds
dated_later k d ds later = omega (arith, dated_append k ds (d ∷ []), ap {B = ℕ} (λ (b : Bool). cond b 1 0) (lt-leb d k later))

dated_still : (a b : ℕ) → a ≤ b → (n : CountView) → IsDated a n → IsDated b n
dated_still a b more n is = record { all = is.all; past = all_map (λ d. d ≤ a) (λ d. d ≤ b) (λ d past. omega (arith, past, more)) n.dates is.past; each = is.each }

-- where none is later, all are before
all_early : (k : ℕ) (views : List CountView) → Each (DatedUpTo k) views → sum_by (early k) views ≡ sum_by mine_of views
all_early k [] each = refl
all_early k (n ∷ ns) each =
    let here : IsDated k n = each 0 n refl in
    omega (arith, sum_by-cons (early k) n ns, sum_by-cons mine_of n ns, dated_all k n.dates here.past, here.all, all_early k ns (λ j m at. each (suc j) m at))

-- what was found is still so where the dates before it are as they were
findings_still : (vs ws : List CountView) → all_collects vs ≤ all_collects ws → ((k : ℕ) → k < all_collects vs → sum_by (early k) ws ≡ sum_by (early k) vs) →
    (fs : List Finding) → AreFindings vs fs → AreFindings ws fs
findings_still vs ws more same fs = all_map (IsFinding vs) (IsFinding ws)
    (λ f is. record { number = omega (arith, is.number, more); counted = is.counted ∙ sym (same f.number is.number) }) fs

-- without parts nothing is counted; no more is seen than all have counted
abbrev IsIdle : ℕ → CountView → Type 0
IsIdle _ n = n.parts ≡ 0 → n.mine ≡ 0

abbrev SeesUpTo : ℕ → ℕ → CountView → Type 0
SeesUpTo all _ n = n.seen ≤ all

pub begins : (room : ℕ) → Counts (opening (0 ∷ 0 ∷ []) (replicate 0 None) (first_count room))
begins room = record {
  both = refl;
  word = refl;
  out = refl;
  seen = each_one (SeesUpTo 0) (first_count room) (omega arith);
  parts = refl;
  idle = each_one IsIdle (first_count room) (λ _. refl);
  dates = each_one (DatedUpTo 0) (first_count room) (record { all = refl; past = tt; each = refl });
  findings = each_one (FindsIn (first_count room ∷ [])) (first_count room) tt;
}

-- of two words one becomes another
first_set : (words : List ℕ) (n : ℕ) → length words ≡ 2 → slice_index (set words 0 n) 0 ≡ n
first_set [] n two = absurd (omega (arith, two))
first_set (x ∷ xs) n two = refl

first_kept : (words : List ℕ) (n : ℕ) → length words ≡ 2 → slice_index (set words 1 n) 0 ≡ slice_index words 0
first_kept [] n two = absurd (omega (arith, two))
first_kept (x ∷ xs) n two = refl

second_set : (words : List ℕ) (n : ℕ) → length words ≡ 2 → slice_index (set words 1 n) 1 ≡ n
second_set [] n two = absurd (omega (arith, two))
second_set (x ∷ []) n two = absurd (omega (arith, two))
second_set (x ∷ y ∷ xs) n two = refl

second_kept : (words : List ℕ) (n : ℕ) → length words ≡ 2 → slice_index (set words 0 n) 1 ≡ slice_index words 1
second_kept [] n two = absurd (omega (arith, two))
second_kept (x ∷ []) n two = absurd (omega (arith, two))
second_kept (x ∷ y ∷ xs) n two = refl

low_part : (n : ℕ) → n % 2 ^ 64 ≤ n
low_part n = omega arith

abbrev wrapped : ℕ → ℕ
wrapped n = n % 2 ^ 64

wraps_more : (word all more by : ℕ) → word ≡ wrapped all → more ≡ all + by → wrapped (word + by) ≡ wrapped more
wraps_more word all more by is next = omega (arith, is, next)

-- a port that has as many parts as before knows more, and the words are what all know then
module _ (s : State (Option ℕ) CountView) (rule : Counts s) (id : ℕ) (old new : CountView) (at : get_elem? s.views id ≡ some old) (same_parts : new.parts ≡ old.parts) where
  holds_on : (words : List ℕ) (homes : List (home.Option (Option ℕ))) → length words ≡ 2 → slice_index words 0 ≡ wrapped (sum_by mine_of (set s.views id new))
      → slice_index words 1 ≡ wrapped (sum_by out_of (set s.views id new)) → old.mine ≤ new.mine → new.seen ≤ sum_by mine_of (set s.views id new) → (new.parts ≡ 0 → new.mine ≡ 0)
      → all_collects s.views ≤ all_collects (set s.views id new) → ((k : ℕ) → k < all_collects s.views → sum_by (early k) (set s.views id new) ≡ sum_by (early k) s.views)
      → IsDated (all_collects (set s.views id new)) new → AreFindings (set s.views id new) new.findings
      → Counts record { words = words; homes = homes; views = set s.views id new }
  holds_on words homes both word out more sees idle later same_early dated found =
      let views : List CountView = set s.views id new in
      let mine = sum_set mine_of s.views id old new at in
      let parts = sum_set parts_of s.views id old new at in record {
        both = both;
        word = word;
        out = out;
        seen = each_set (SeesUpTo (sum_by mine_of (set s.views id new))) s.views id new sees (λ k n _ there. omega (arith, mine, more, rule.seen k n there));
        parts = omega (arith, rule.parts, parts, same_parts);
        idle = each_set IsIdle s.views id new idle (λ k n _ there. rule.idle k n there);
        dates = each_set (DatedUpTo (all_collects views)) s.views id new dated (λ k n _ there. dated_still (all_collects s.views) (all_collects views) later n (rule.dates k n there));
        findings = each_set (FindsIn views) s.views id new found (λ k n _ there. findings_still s.views views later same_early n.findings (rule.findings k n there));
      }

pub raises : (slots id : ℕ) (me : CountHand) → 0 < me.0.parts → Allows Counts slots id me 0 (λ n. (n + 1) % 2 ^ 64) (raised (step slots 0 1 0 none) me)
raises slots id me some_part s rule _ at _ =
    let old = me.0 in
    let date : ℕ = all_collects s.views in
    let new = counting old date in
    let views : List CountView = set s.views id new in
    let found : ℕ = slice_index s.words 0 in
    let mine = sum_set mine_of s.views id old new at in
    let out = sum_set out_of s.views id old new at in
    let same_out : sum_by out_of s.views ≡ sum_by out_of (set s.views id new) = omega (arith, out) in
    let collects : all_collects views ≡ date = omega (arith, sum_set collects_of s.views id old new at) in
    let here = rule.dates id old at in
    let now : IsDated date new = record {
      all = omega (arith, length-append old.dates (date ∷ []), here.all);
      past = all_append (λ d. d ≤ date) old.dates (date ∷ []) here.past (omega arith, tt);
      each = here.each;
    } in
    let same_early : (k : ℕ) → k < date → sum_by (early k) views ≡ sum_by (early k) s.views =
    λ k low. omega (arith, sum_set (early k) s.views id old new at, dated_later k date old.dates low) in (
      new,
      keeps,
      tt,
      holds_on s rule id old new at refl (set s.words 0 (wrapped (found + 1))) s.homes (length-set s.words 0 (wrapped (found + 1)) ∙ rule.both)
          (first_set s.words (wrapped (found + 1)) rule.both ∙ wraps_more found (sum_by mine_of s.views) (sum_by mine_of (set s.views id new)) 1 rule.word (omega (arith, mine)))
          (second_kept s.words (wrapped (found + 1)) rule.both ∙ (rule.out ∙ ap wrapped same_out)) (omega arith) (omega (arith, mine, rule.seen id old at)) (λ z. absurd (omega (arith, z, some_part)))
          (omega (arith, collects)) same_early (dated_still date (all_collects views) (omega (arith, collects)) new now)
          (findings_still s.views views (omega (arith, collects)) same_early old.findings (rule.findings id old at)),
      record { date = date; is = refl },
    )

-- a word is read, and the port notes something: it has counted and noted no more
module _ (s : State (Option ℕ) CountView) (rule : Counts s) (id : ℕ) (old new : CountView) (at : get_elem? s.views id ≡ some old)
    (same_parts : new.parts ≡ old.parts) (same_mine : new.mine ≡ old.mine) (same_out : new.out ≡ old.out) (sees : new.seen ≤ sum_by mine_of s.views)
    (same_dates : new.dates ≡ old.dates) (collects : all_collects s.views ≤ all_collects (set s.views id new)) (each : length new.findings ≡ new.collects) (found_all : AreFindings (set s.views id new) new.findings) where
  same_early : (k : ℕ) → sum_by (early k) (set s.views id new) ≡ sum_by (early k) s.views
  same_early k = omega (arith, sum_set (early k) s.views id old new at, ap (dated_by k) same_dates)

  dated_on : IsDated (all_collects (set s.views id new)) new
  dated_on =
      let here = dated_still (all_collects s.views) (all_collects (set s.views id new)) collects old (rule.dates id old at) in record {
        all = ap length same_dates ∙ (here.all ∙ sym same_mine);
        past = subst (AllByRecursion (λ d. d ≤ all_collects (set s.views id new))) (sym same_dates) here.past;
        each = each;
      }

  same_sum : sum_by mine_of s.views ≡ sum_by mine_of (set s.views id new)
  same_sum = let mine = sum_set mine_of s.views id old new at in omega (arith, mine, same_mine)

  same_gone : sum_by out_of s.views ≡ sum_by out_of (set s.views id new)
  same_gone = let out = sum_set out_of s.views id old new at in omega (arith, out, same_out)

  idle_on : new.parts ≡ 0 → new.mine ≡ 0
  idle_on zero_parts = same_mine ∙ rule.idle id old at (omega (arith, zero_parts, same_parts))

  reads_first : (homes : List (home.Option (Option ℕ))) → Counts record { words = set s.words 0 (slice_index s.words 0); homes = homes; views = set s.views id new }
  reads_first homes =
      let found : ℕ = slice_index s.words 0 in
      holds_on s rule id old new at same_parts (set s.words 0 found) homes (length-set s.words 0 found ∙ rule.both) (first_set s.words found rule.both ∙ (rule.word ∙ ap wrapped same_sum))
      (second_kept s.words found rule.both ∙ (rule.out ∙ ap wrapped same_gone)) (omega (arith, same_mine)) (omega (arith, sees, same_sum)) idle_on collects (λ k _. same_early k) dated_on found_all

  reads_second : (homes : List (home.Option (Option ℕ))) → Counts record { words = set s.words 1 (slice_index s.words 1); homes = homes; views = set s.views id new }
  reads_second homes =
      let found : ℕ = slice_index s.words 1 in
      holds_on s rule id old new at same_parts (set s.words 1 found) homes (length-set s.words 1 found ∙ rule.both) (first_kept s.words found rule.both ∙ (rule.word ∙ ap wrapped same_sum))
      (second_set s.words found rule.both ∙ (rule.out ∙ ap wrapped same_gone)) (omega (arith, same_mine)) (omega (arith, sees, same_sum)) idle_on collects (λ k _. same_early k) dated_on found_all

-- .. it collects no more either
module _ (s : State (Option ℕ) CountView) (rule : Counts s) (id : ℕ) (old new : CountView) (at : get_elem? s.views id ≡ some old)
    (same_dates : new.dates ≡ old.dates) (same_collects : new.collects ≡ old.collects) (same_findings : new.findings ≡ old.findings) where
  still_collects : all_collects s.views ≤ all_collects (set s.views id new)
  still_collects = omega (arith, sum_set collects_of s.views id old new at, same_collects)

  still_each : length new.findings ≡ new.collects
  still_each = ap length same_findings ∙ ((rule.dates id old at).each ∙ sym same_collects)

  still_found : AreFindings (set s.views id new) new.findings
  still_found = subst (AreFindings (set s.views id new)) (sym same_findings)
      (findings_still s.views (set s.views id new) still_collects (λ k _. omega (arith, sum_set (early k) s.views id old new at, ap (dated_by k) same_dates)) old.findings (rule.findings id old at))

-- a port without parts has counted nothing before any collect
idle_early : (k : ℕ) (n : CountView) (collects : ℕ) → IsDated collects n → (n.parts ≡ 0 → n.mine ≡ 0) → n.parts ≡ 0 → early k n ≡ 0
idle_early k n collects is idle no_part = omega (arith, dated_most k n.dates, is.all, idle no_part)

pub looks : (slots id : ℕ) (me : CountHand) → Allows Counts slots id me 0 (λ n. n) (looked (step slots 0 0 0 none) me)
looks slots id me s rule _ at _ =
    let old = me.0 in
    let found : ℕ = slice_index s.words 0 in
    let new = seeing old found in
    let most : max old.seen found ≤ sum_by mine_of s.views = omega (arith, rule.word, low_part (sum_by mine_of s.views), rule.seen id old at) in (
      new,
      keeps,
      tt,
      reads_first s rule id old new at refl refl refl most refl (still_collects s rule id old new at refl refl refl) (still_each s rule id old new at refl refl refl)
          (still_found s rule id old new at refl refl refl) s.homes,
      record {
        seen = refl;
        whole = λ all. let whole = alone_in_sum parts_of mine_of s.views id old at (omega (arith, rule.parts, all)) rule.idle in omega (arith, most, whole);
        exact = λ all. rule.word ∙ ap wrapped (alone_in_sum parts_of mine_of s.views id old at (omega (arith, rule.parts, all)) rule.idle);
        findings = λ all. all_map (IsFinding s.views) (λ (f : Finding). f.counted ≡ dated_by f.number old.dates)
            (λ f is. is.counted ∙ alone_in_sum parts_of (early f.number) s.views id old at (omega (arith, rule.parts, all))
            (λ j n there. idle_early f.number n (all_collects s.views) (rule.dates j n there) (rule.idle j n there)))
            old.findings (rule.findings id old at);
      },
    )

-- a port collects: what all ports have counted is what it finds
pub begins_collecting : (slots id : ℕ) (me : CountHand) → Allows Counts slots id me 0 (λ n. n) (begun (step slots 0 0 0 none) me)
begins_collecting slots id me s rule _ at _ =
    let old = me.0 in
    let number : ℕ = all_collects s.views in
    let finding : Finding = record { number = number; counted = sum_by mine_of s.views } in
    let new = collecting old finding in
    let views : List CountView = set s.views id new in
    let more : all_collects views ≡ number + 1 = omega (arith, sum_set collects_of s.views id old new at) in
    let later : number ≤ all_collects views = omega (arith, more) in
    let early_same : (k : ℕ) → sum_by (early k) views ≡ sum_by (early k) s.views = λ k. omega (arith, sum_set (early k) s.views id old new at) in
    let is : IsFinding views finding = record { number = omega (arith, more); counted = sym (early_same number ∙ all_early number s.views rule.dates) } in
    let found_all : AreFindings views new.findings = all_append (IsFinding views) old.findings (finding ∷ [])
    (findings_still s.views views later (λ k _. early_same k) old.findings (rule.findings id old at)) (is, tt) in
    let each : length new.findings ≡ new.collects = omega (arith, length-append old.findings (finding ∷ []), (rule.dates id old at).each) in (
      new,
      keeps,
      tt,
      reads_first s rule id old new at refl refl refl (rule.seen id old at) refl later each found_all s.homes,
      record { finding = finding; is = refl; next = one_in_sum collects_of s.views id old at; word = sym rule.word },
    )

pub comes_back : (slots id : ℕ) (me : CountHand) → Allows Counts slots id me 1 (λ n. n) (came_back (step slots 1 0 0 none) me)
comes_back slots id me s rule _ at _ =
    let old = me.0 in
    let new = coming_back old (slice_index s.words 1) in (
      new,
      keeps,
      tt,
      reads_second s rule id old new at refl refl refl (rule.seen id old at) refl (still_collects s rule id old new at refl refl refl) (still_each s rule id old new at refl refl refl)
          (still_found s rule id old new at refl refl refl) s.homes,
      refl,
    )

pub notes_taken : (taken slots id : ℕ) (me : CountHand) → Allows Counts slots id me 1 (λ n. (n + taken) % 2 ^ 64) (noted (step slots 1 taken 0 none) me)
notes_taken taken slots id me s rule _ at _ =
    let old = me.0 in
    let new = noting old taken in
    let found : ℕ = slice_index s.words 1 in
    let mine = sum_set mine_of s.views id old new at in
    let out = sum_set out_of s.views id old new at in
    let same : sum_by mine_of s.views ≡ sum_by mine_of (set s.views id new) = omega (arith, mine) in
    let later = still_collects s rule id old new at refl refl refl in
    let here = dated_still (all_collects s.views) (all_collects (set s.views id new)) later old (rule.dates id old at) in (
      new,
      keeps,
      tt,
      holds_on s rule id old new at refl (set s.words 1 (wrapped (found + taken))) s.homes (length-set s.words 1 (wrapped (found + taken)) ∙ rule.both)
          (first_kept s.words (wrapped (found + taken)) rule.both ∙ (rule.word ∙ ap wrapped same))
          (second_set s.words (wrapped (found + taken)) rule.both ∙ wraps_more found (sum_by out_of s.views) (sum_by out_of (set s.views id new)) taken rule.out (omega (arith, out)))
          (omega arith) (omega (arith, same, rule.seen id old at)) (rule.idle id old at)
          later (λ k _. omega (arith, sum_set (early k) s.views id old new at)) (record { all = here.all; past = here.past; each = here.each })
          (still_found s rule id old new at refl refl refl),
      refl,
    )

-- a port is split: what the first one keeps and what the new one gets are together what was there
module _ (id : ℕ) (old left right : CountView) (parts : left.parts + right.parts ≡ old.parts) (mine : left.mine + right.mine ≡ old.mine) (out : left.out + right.out ≡ old.out)
    (left_idle : IsIdle 0 old → IsIdle 0 left) (right_idle : IsIdle 0 old → IsIdle 0 right) (left_sees : left.seen ≤ old.seen) (right_sees : right.seen ≤ old.seen)
    (collects : left.collects + right.collects ≡ old.collects) (early_too : (k : ℕ) → early k left + early k right ≡ early k old)
    (left_dated : (c : ℕ) → IsDated c old → IsDated c left) (right_dated : (c : ℕ) → IsDated c old → IsDated c right)
    (left_found : (vs : List CountView) → AreFindings vs old.findings → AreFindings vs left.findings)
    (right_found : (vs : List CountView) → AreFindings vs old.findings → AreFindings vs right.findings) where
  splits : Splits Counts id old left right
  splits s rule at =
      let views : List CountView = set s.views id left in
      let mine_set = sum_set mine_of s.views id old left at in
      let parts_set = sum_set parts_of s.views id old left at in
      let mine_push = sum_push mine_of views right in
      let parts_push = sum_push parts_of views right in
      let out_set = sum_set out_of s.views id old left at in
      let out_push = sum_push out_of views right in
      let same_out : sum_by out_of (views ++ right ∷ []) ≡ sum_by out_of s.views = omega (arith, out_set, out_push, out) in
      let all = sum_by mine_of (views ++ right ∷ []) in
      let same : all ≡ sum_by mine_of s.views = omega (arith, mine_set, mine_push, mine) in
      let sees = rule.seen id old at in
      let ends : List CountView = views ++ right ∷ [] in
      let collects_same : all_collects ends ≡ all_collects s.views = omega (arith, sum_set collects_of s.views id old left at, sum_push collects_of views right, collects) in
      let still : (fs : List Finding) → AreFindings s.views fs → AreFindings ends fs = findings_still s.views ends (omega (arith, collects_same))
      (λ k low. omega (arith, sum_set (early k) s.views id old left at, sum_push (early k) views right, early_too k)) in
      let dated = dated_still (all_collects s.views) (all_collects ends) (omega (arith, collects_same)) in
      let here = dated old (rule.dates id old at) in
      let own = still old.findings (rule.findings id old at) in
      let idle = rule.idle id old at in record {
        both = rule.both;
        word = rule.word ∙ ap wrapped (sym same);
        out = rule.out ∙ ap wrapped (sym same_out);
        seen = each_push (SeesUpTo all) views right
            (each_set (SeesUpTo all) s.views id left (omega (arith, same, sees, left_sees)) (λ k n _ there. omega (arith, same, rule.seen k n there)))
            (omega (arith, same, sees, right_sees));
        parts = omega (arith, rule.parts, parts_set, parts_push, parts);
        idle = each_push IsIdle views right (each_set IsIdle s.views id left (left_idle idle) (λ k n _ there. rule.idle k n there)) (right_idle idle);
        dates = each_push (DatedUpTo (all_collects ends)) views right
            (each_set (DatedUpTo (all_collects ends)) s.views id left (left_dated (all_collects ends) here) (λ k n _ there. dated n (rule.dates k n there)))
            (right_dated (all_collects ends) here);
        findings = each_push (FindsIn ends) views right
            (each_set (FindsIn ends) s.views id left (left_found ends own) (λ k n _ there. still n.findings (rule.findings k n there))) (right_found ends own);
      }

pub gives_part : (id : ℕ) (n : CountView) → 1 < n.parts → Splits Counts id n (after_part n) (one_part n.room)
gives_part id n more = splits id n (after_part n) (one_part n.room) (omega (arith, more)) (omega arith) (omega arith) (λ idle z. absurd (omega (arith, more, z))) (λ _ z. absurd (omega (arith, z))) (omega arith) (omega arith) (omega arith) (λ k. omega arith)
    (λ c is. record { all = is.all; past = is.past; each = is.each }) (λ c is. record { all = refl; past = tt; each = refl }) (λ vs so. so) (λ vs so. tt)

pub gives_all : (id : ℕ) (n : CountView) → Splits Counts id n (spent_count n.room) n
gives_all id n = splits id n (spent_count n.room) n (omega arith) (omega arith) (omega arith) (λ _ _. refl) (λ idle. idle) (omega arith) (omega arith) (omega arith) (λ k. omega arith)
    (λ c is. record { all = refl; past = tt; each = refl }) (λ c is. is) (λ vs so. tt) (λ vs so. so)

-- a port is absorbed
pub joins : (id : ℕ) (v : CountView) (other : ℕ) (w : CountView) → Joins Counts id v other w (joined_count v w) (spent_count 0)
joins id v other w s rule at two there =
    let spent = spent_count 0 in
    let both = joined_count v w in
    let views : List CountView = set s.views id both in
    let was : get_elem? s.views other ≡ some w = ⊎_elim (λ t. absurd (two t.0)) (λ t. t.1) (at_set s.views id other both w there) in
    let mine = sum_set mine_of s.views id v both at in
    let parts = sum_set parts_of s.views id v both at in
    let mine_again = sum_set mine_of views other w spent there in
    let parts_again = sum_set parts_of views other w spent there in
    let out = sum_set out_of s.views id v both at in
    let out_again = sum_set out_of views other w spent there in
    let same_out : sum_by out_of (set views other spent) ≡ sum_by out_of s.views = omega (arith, out, out_again) in
    let all = sum_by mine_of (set views other spent) in
    let same : all ≡ sum_by mine_of s.views = omega (arith, mine, mine_again) in
    let ends : List CountView = set views other spent in
    let collects_same : all_collects ends ≡ all_collects s.views = omega (arith, sum_set collects_of s.views id v both at, sum_set collects_of views other w spent there) in
    let still : (fs : List Finding) → AreFindings s.views fs → AreFindings ends fs = findings_still s.views ends (omega (arith, collects_same))
    (λ k low. omega (arith, sum_set (early k) s.views id v both at, sum_set (early k) views other w spent there, dated_append k v.dates w.dates)) in
    let dated = dated_still (all_collects s.views) (all_collects ends) (omega (arith, collects_same)) in
    let v_dated = dated v (rule.dates id v at) in
    let w_dated = dated w (rule.dates other w was) in
    let both_dated : IsDated (all_collects ends) both = record {
      all = omega (arith, length-append v.dates w.dates, v_dated.all, w_dated.all);
      past = all_append (λ d. d ≤ all_collects ends) v.dates w.dates v_dated.past w_dated.past;
      each = omega (arith, length-append v.findings w.findings, v_dated.each, w_dated.each);
    } in
    let both_found : AreFindings ends both.findings = all_append (IsFinding ends) v.findings w.findings (still v.findings (rule.findings id v at)) (still w.findings (rule.findings other w was)) in
    let v_idle = rule.idle id v at in
    let w_idle = rule.idle other w was in record {
      both = rule.both;
      word = rule.word ∙ ap wrapped (sym same);
      out = rule.out ∙ ap wrapped (sym same_out);
      seen = each_set (SeesUpTo all) views other spent (omega arith)
          (λ k n _. each_set (SeesUpTo all) s.views id both (omega (arith, same, rule.seen id v at, rule.seen other w was)) (λ j o _ where_. omega (arith, same, rule.seen j o where_)) k n);
      parts = omega (arith, rule.parts, parts, parts_again);
      idle = each_set IsIdle views other spent (λ _. refl)
          (λ k n _. each_set IsIdle s.views id both (λ z. omega (arith, v_idle (omega (arith, z)), w_idle (omega (arith, z)))) (λ j o _ where_. rule.idle j o where_) k n);
      dates = each_set (DatedUpTo (all_collects ends)) views other spent (record { all = refl; past = tt; each = refl })
          (λ k n _. each_set (DatedUpTo (all_collects ends)) s.views id both both_dated (λ j o _ where_. dated o (rule.dates j o where_)) k n);
      findings = each_set (FindsIn ends) views other spent tt
          (λ k n _. each_set (FindsIn ends) s.views id both both_found (λ j o _ where_. still o.findings (rule.findings j o where_)) k n);
    }
