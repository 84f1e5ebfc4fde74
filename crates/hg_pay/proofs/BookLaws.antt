-- What transfers leave, one after the other
use Rattle.std.proofs.Common.{◌≡◌, ℕ, ◌+◌, ◌-◌, ◌*◌, ◌^◌, ◌<◌, ◌≤◌, Bool, true, false, cond, List, [], ◌∷◌, ◌++◌, length, get_or, take, fold, set, Option, Some, None, refl, sym, ap, ap₂, subst, ◌∙◌, arith, inl, inr, count_by}
use Rattle.std.specs.Prelude.{bit_or, bit_and, count_ones, slice_get, slice_set}
use Rattle.std.specs.List.{sum}
use Rattle.std.specs.Simd.Lanes.{mask_l}
use Rattle.std.proofs.lemmas.Bool.{and_parts, cases_Bool, cases_lt, leb-true, ltb-true}
use Rattle.std.proofs.lemmas.List.{length-append, length-set, length-take-le, set_past, get_or_past}
use Rattle.std.proofs.lemmas.List.Sums.{fold_more, sum_by-set, sum_by-cons}
use Rattle.std.proofs.Math.Nat.{pow-suc}
use Rattle.std.proofs.lemmas.Nat.{ones_le_self, or_disjoint}
use Rattle.std.proofs.lemmas.Nat.Bits.{and_pow, bit_at_above}
use Rattle.std.proofs.lemmas.Option.{get_or_from_slice_get, slice_get_within}
use Rattle.std.proofs.lemmas.Simd.{ones-mask_l_cons}
use Rattle.hg_model.specs.declared.row.Row.{Row}
use Rattle.hg_model.specs.declared.row.Placed.{Placed}
use Rattle.hg_life.specs.declared.pay.Transfer.{Transfer}
use Rattle.hg_life.specs.declared.pay.Effect.TheVariants as effect
use Rattle.hg_life.specs.Pay.{Book, Paying, can_pay, moved, pay_one, paid, read_pay, with_payload, with_placed, with_pay, book_of}
use Rattle.hg_pay.specs.Applied.{Leaves, done_bits, book_with}
use Rattle.hg_pay.proofs.HasCome.{HasCome}

-- ---- the sum

sum-set : (balances : List ℕ) (m b : ℕ) → m < length balances → sum (slice_set balances m b) + get_or balances m 0 ≡ sum balances + b
sum-set balances m b there = sum_by-set (λ x. x) balances m b 0 there

-- a payer with the amount has it taken off the sum
sum-taken : (balances : List ℕ) (payer amount : ℕ) → amount ≤ get_or balances payer 0 → sum (slice_set balances payer (get_or balances payer 0 - amount)) + amount ≡ sum balances
sum-taken balances payer amount held =
    elim (cases_lt payer (length balances)) [
      | inl there ↦ omega (arith, sum-set balances payer (get_or balances payer 0 - amount) there)
      | inr past ↦
          (let none : get_or balances payer 0 ≡ 0 = get_or_past balances payer 0 past in
          rw (set_past balances payer (get_or balances payer 0 - amount) past) (omega arith))
    ]

pub sum-moved : (balances : List ℕ) (payer : ℕ) (t : Transfer) → can_pay balances payer t ≡ true → sum (moved balances payer t) ≡ sum balances
sum-moved balances payer t can =
    let both = and_parts _ _ can in
    let there : t.receiver < length balances = ltb-true _ _ both.0 in
    let held : t.amount ≤ get_or balances payer 0 = leb-true _ _ both.1 in
    let less = slice_set balances payer (get_or balances payer 0 - t.amount) in
    let inside : t.receiver < length less = rw (length-set balances payer (get_or balances payer 0 - t.amount)) there in
    omega (arith, sum-taken balances payer t.amount held, sum-set less t.receiver (get_or less t.receiver 0 + t.amount) inside)

pub length-moved : (balances : List ℕ) (payer : ℕ) (t : Transfer) → length (moved balances payer t) ≡ length balances
length-moved balances payer t = length-set _ _ _ ∙ length-set balances payer _

-- ---- one transfer after the other

abbrev pub at_first : List ℕ → Paying
at_first balances = record { balances = balances; done = [] }

pub paid_more : (balances : List ℕ) (payer : ℕ) (ts : List Transfer) (i : ℕ) (d : Transfer) → i < length ts → paid balances payer (take (i + 1) ts) ≡ pay_one payer (paid balances payer (take i ts)) (get_or ts i d)
unfolding paid
paid_more balances payer ts i d below = fold_more (pay_one payer) (at_first balances) ts i d below

-- what stays as it was, whatever was paid
record Stays (p q : Paying) (count : ℕ) : Type 0 where
  pub sum : sum q.balances ≡ sum p.balances
  pub members : length q.balances ≡ length p.balances
  pub done : length q.done ≡ length p.done + count

stays_one : (payer : ℕ) (p : Paying) (t : Transfer) → Stays p (pay_one payer p t) 1
stays_one payer p t =
    let longer : length (p.done ++ can_pay p.balances payer t ∷ []) ≡ length p.done + 1 = length-append p.done (can_pay p.balances payer t ∷ []) in
    elim (cases_Bool (can_pay p.balances payer t)) [
      | inl can ↦ record { sum = rw can (sum-moved p.balances payer t can); members = rw can (length-moved p.balances payer t); done = longer }
      | inr cannot ↦ record { sum = rw cannot refl; members = rw cannot refl; done = longer }
    ]

stays_all : (payer : ℕ) (p : Paying) (ts : List Transfer) → Stays p (fold (pay_one payer) p ts) (length ts)
stays_all payer p [] = record { sum = refl; members = refl; done = omega arith }
stays_all payer p (t ∷ ts) =
    let one = stays_one payer p t in
    let rest = stays_all payer (pay_one payer p t) ts in
    record { sum = rest.sum ∙ one.sum; members = rest.members ∙ one.members; done = omega (arith, rest.done, one.done) }

pub sum-paid : (balances : List ℕ) (payer : ℕ) (ts : List Transfer) → sum (paid balances payer ts).balances ≡ sum balances
unfolding paid
sum-paid balances payer ts = (stays_all payer (at_first balances) ts).sum

pub length-done : (balances : List ℕ) (payer : ℕ) (ts : List Transfer) → length (paid balances payer ts).done ≡ length ts
unfolding paid
length-done balances payer ts = omega (arith, (stays_all payer (at_first balances) ts).done)

-- ---- the bits

bits_below : (done : List Bool) → done_bits done < 2 ^ length done
bits_below [] = omega arith
bits_below (true ∷ done) = omega (arith, bits_below done, pow-suc 2 (length done))
bits_below (false ∷ done) = omega (arith, bits_below done, pow-suc 2 (length done))

bits_push_no : (done : List Bool) → done_bits (done ++ false ∷ []) ≡ done_bits done
bits_push_no [] = refl
bits_push_no (b ∷ done) = ap (λ (n : ℕ). cond b 1 0 + 2 * n) (bits_push_no done)

bits_push_yes : (done : List Bool) → done_bits (done ++ true ∷ []) ≡ done_bits done + 2 ^ length done
bits_push_yes [] = refl
bits_push_yes (b ∷ done) = omega (arith, bits_push_yes done, pow-suc 2 (length done))

pub bits_set : (done : List Bool) → bit_or (done_bits done) (2 ^ length done) ≡ done_bits (done ++ true ∷ [])
bits_set done =
    let apart : bit_and (done_bits done) (2 ^ length done) ≡ 0 =
    and_pow (done_bits done) (length done) ∙ rw (bit_at_above (done_bits done) (length done) (length done) (bits_below done) (omega arith)) (omega arith) in
    or_disjoint (done_bits done) (2 ^ length done) apart ∙ sym (bits_push_yes done)

bits-mask : (done : List Bool) → done_bits done ≡ mask_l done
bits-mask [] = refl
bits-mask (b ∷ done) = ap (λ (n : ℕ). cond b 1 0 + 2 * n) (bits-mask done)

pub ones_bits : (done : List Bool) → count_ones (done_bits done) ≡ count_by (λ d. d) done
ones_bits [] = omega (arith, ones_le_self 0)
ones_bits (b ∷ done) =
    ap count_ones (bits-mask (b ∷ done)) ∙ ones-mask_l_cons b done ∙ ap (λ (n : ℕ). cond b 1 0 + n) (ap count_ones (sym (bits-mask done)) ∙ ones_bits done) ∙ sym (sum_by-cons (λ (d : Bool). cond d 1 0) b done)

-- ---- the walk

pub none_so_far : (before : List ℕ) (payer : ℕ) → HasCome (paid before payer []) before 0
unfolding paid
none_so_far before payer = record { left = refl; matches = refl }

pub sum-so_far : (before : List ℕ) (payer : ℕ) (ts : List Transfer) (balances : List ℕ) (done : ℕ) → HasCome (paid before payer ts) balances done → sum balances ≡ sum before
sum-so_far before payer ts balances done so_far = ap sum so_far.left ∙ sum-paid before payer ts

-- after one of them, done or not
come_one : (payer : ℕ) (p : Paying) (t : Transfer) (balances after : List ℕ) (bits next i : ℕ) (is_done : Bool) → HasCome p balances bits → length p.done ≡ i → is_done ≡ can_pay balances payer t →
    after ≡ cond is_done (moved balances payer t) balances → next ≡ cond is_done (bit_or bits (2 ^ i)) bits → HasCome (pay_one payer p t) after next
come_one payer p t balances after bits next i is_done come place done left matches =
    let same : can_pay p.balances payer t ≡ is_done = ap (λ (b : List ℕ). can_pay b payer t) (sym come.left) ∙ sym done in
    elim (cases_Bool is_done) [
      | inl can ↦ record {
        left = left ∙ rw (same, can) (ap (λ (b : List ℕ). moved b payer t) come.left);
        matches = matches ∙ rw (same, can) (ap₂ (λ (b j : ℕ). bit_or b (2 ^ j)) come.matches (sym place) ∙ bits_set p.done);
      }
      | inr cannot ↦ record {
        left = left ∙ rw (same, cannot) come.left;
        matches = matches ∙ rw (same, cannot) (come.matches ∙ sym (bits_push_no p.done));
      }
    ]

-- a transfer is done or not, and its bit is set or not
pub one_more : (before : List ℕ) (payer : ℕ) (ts : List Transfer) (i : ℕ) (t : Transfer) (balances after : List ℕ) (bits next : ℕ) (is_done : Bool) →
    slice_get ts i ≡ Some t → HasCome (paid before payer (take i ts)) balances bits → is_done ≡ can_pay balances payer t →
    after ≡ cond is_done (moved balances payer t) balances → next ≡ cond is_done (bit_or bits (2 ^ i)) bits → HasCome (paid before payer (take (i + 1) ts)) after next
one_more before payer ts i t balances after bits next is_done found so_far done left matches =
    let p = paid before payer (take i ts) in
    let there : i < length ts = slice_get_within ts i t found in
    let more : paid before payer (take (i + 1) ts) ≡ pay_one payer p t = paid_more before payer ts i t there ∙ ap (pay_one payer p) (get_or_from_slice_get ts i t t found) in
    let place : length p.done ≡ i = length-done before payer (take i ts) ∙ length-take-le i ts (omega arith) in
    subst (λ (q : Paying). HasCome q after next) (sym more) (come_one payer p t balances after bits next i is_done so_far place done left matches)

-- ---- a payload

pub leaves_paid : (balances : List ℕ) (payer : ℕ) (payload : List ℕ) (ts : List Transfer) (after : List ℕ) (done : ℕ) → read_pay payload ≡ Some ts →
    after ≡ (paid balances payer ts).balances → done ≡ done_bits (paid balances payer ts).done → Leaves balances payer payload after (effect.Paid (count_ones done) (length ts))
unfolding read_pay
leaves_paid balances payer [] ts after done read left matches effects = absurd cc
leaves_paid balances payer (b ∷ payload) ts after done read left matches effects =
    ap (with_pay (book_with balances effects) payer) read
    ∙ ap₂ (λ (after : List ℕ) (count : ℕ). book_with after (effects ++ effect.Paid count (length ts) ∷ [])) (sym left) (sym (ap count_ones matches ∙ ones_bits (paid balances payer ts).done))

-- ---- the order

sum-with_pay : (book : Book) (payer : ℕ) (read : Option (List Transfer)) → sum (with_pay book payer read).balances ≡ sum book.balances
sum-with_pay book payer None = refl
sum-with_pay book payer (Some ts) = sum-paid book.balances payer ts

sum-with_payload : (book : Book) (payer : ℕ) (payload : List ℕ) → sum (with_payload book payer payload).balances ≡ sum book.balances
sum-with_payload book payer [] = refl
sum-with_payload book payer (b ∷ payload) = sum-with_pay book payer (read_pay (b ∷ payload))

sum-fold : (G : List Row) (book : Book) (order : List Placed) → sum (fold (with_placed G) book order).balances ≡ sum book.balances
sum-fold G book [] = refl
sum-fold G book (p ∷ order) = sum-fold G (with_placed G book p) order ∙ sum-with_payload book _ _

pub sum-book_of : (balances : List ℕ) (G : List Row) (order : List Placed) → sum (book_of balances G order).balances ≡ sum balances
unfolding book_of
sum-book_of balances G order = sum-fold G (book_with balances []) order
