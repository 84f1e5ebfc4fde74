-- What is made keeps to the rules of members and of lines
use Rattle.std.proofs.Common.{◌≡◌, ◌∙◌, ◌+◌, ◌-◌, ◌*◌, ◌%◌, ◌<◌, ◌≤◌, ◌++◌, ℕ, zero, suc, Bool, true, false, List, [], ◌∷◌, length, get_or, slice_get, cond, drop, All, sum_by, Some, refl, sym, ap, subst, inl, inr, arith, add-one, zero-add, mod-lt, append-nil, append_assoc}
use Rattle.std.specs.Prelude.{nat_lt}
use Rattle.std.specs.Fmt.{digits}
use Rattle.std.specs.List.{list_all, range_with_len}
use Rattle.std.proofs.lemmas.Bool.{cases_Bool, false≢true, ltb-true, ltb-false}
use Rattle.std.proofs.lemmas.Fmt.{decimal_injective}
use Rattle.std.proofs.lemmas.List.Elements.{All-append, All-cons, All-nil}
use Rattle.std.proofs.lemmas.List.Folds.{list_all_at}
use Rattle.std.proofs.lemmas.List.FromFn.{get_or-map-range_with_len, get_or-range_with_len, length-map-range_with_len, length-range_with_len}
use Rattle.std.proofs.lemmas.List.Sums.{sum_by-le}
use Rattle.std.proofs.lemmas.Option.{slice_get-get_or}
use Rattle.hg_life.specs.declared.members.MemberEntry.{MemberEntry}
use Rattle.hg_life.specs.declared.pay.Transfer.{Transfer}
use Rattle.hg_life.specs.Members.{IsEntry, IsMemberList, is_member_name}
use Rattle.hg_life.specs.Pay.{pay_bytes}
use Rattle.hg_model.specs.Places.{table}
use Rattle.hg_script.specs.declared.line.Gossip.TheVariants.{Create}
use Rattle.hg_script.specs.declared.line.Line.{Line}
use Rattle.hg_script.specs.Lawful.{HasNode, IsGossip, IsLine, IsShortPayload}
use Rattle.hg_made.specs.Draws.{drawn}
use Rattle.hg_made.specs.Made.{Making, first_lines, lines_from, made_gossip, made_line, made_member, made_members, made_sync, made_transfer, member_name, peer_of, state_behind, with_line}

-- ---- members

member_at : (seed n i : ℕ) (d : MemberEntry) → i < n → get_or (table (made_member seed) n) i d ≡ made_member seed i
member_at seed n i d inside = get_or-map-range_with_len (made_member seed) 0 n i i d inside (omega arith)

abbrev is_named : ℕ → Bool
is_named i = is_member_name (member_name i)

all_named : list_all is_named (range_with_len 0 128) ≡ true
unfolding digits
all_named = refl

named : (i : ℕ) → i < 128 → is_named i ≡ true
named i few = elim (cases_Bool (is_named i)) [
  | inl is ↦ is
  | inr is_not ↦ (let at : get_or (range_with_len 0 128) i 0 ≡ i = get_or-range_with_len 0 128 i 0 few ∙ zero-add i in
      absurd (false≢true (sym (list_all_at is_named (range_with_len 0 128) i 0 (rw (length-range_with_len 0 128) few) (rw at is_not)) ∙ all_named)))
]

entry_lawful : (seed i : ℕ) → i < 128 → IsEntry (made_member seed i)
entry_lawful seed i few = record { name = named i few; secret_some = omega arith; secret_fits = omega arith; stake_some = omega arith; stake_fits = omega arith }

named_apart : (i j : ℕ) → i < 128 → j < 128 → member_name i ≡ member_name j → i ≡ j
named_apart i j few_i few_j same = decimal_injective i j (omega arith) (omega arith) (ap (drop 1) same)

pub made_lawful : (seed n : ℕ) → 2 ≤ n → n ≤ 128 → IsMemberList (made_members seed n)
made_lawful seed n some few =
    let long : length (table (made_member seed) n) ≡ n = length-map-range_with_len (made_member seed) 0 n in
    record {
      some = rw long some;
      few = rw long few;
      coin_low = omega arith;
      coin_high = omega arith;
      entries = λ i d inside. let low : i < n = subst (λ k. i < k) long inside in rw (member_at seed n i d low) (entry_lawful seed i (omega arith));
      distinct = λ i j d before inside same.
          let low : j < n = subst (λ k. j < k) long inside in
          let is : i ≡ j = named_apart i j (omega arith) (omega arith) (sym (ap (λ (e : MemberEntry). e.name) (member_at seed n i d (omega arith))) ∙ same ∙ ap (λ (e : MemberEntry). e.name) (member_at seed n j d low)) in
          omega (arith, is, before);
      sum =
          let most : sum_by (λ (e : MemberEntry). e.balance) (table (made_member seed) n) ≤ length (table (made_member seed) n) * 1000 =
          sum_by-le (λ (e : MemberEntry). e.balance) 1000 (table (made_member seed) n)
          (λ i d inside. let low : i < n = subst (λ k. i < k) long inside in rw (member_at seed n i d low) (omega arith)) in
          omega (arith, most, long);
    }

pub with_node : (seed n m : ℕ) → m < n → HasNode (made_members seed n) m
with_node seed n m low =
    let long : length (table (made_member seed) n) ≡ n = length-map-range_with_len (made_member seed) 0 n in
    let at : slice_get (table (made_member seed) n) m ≡ Some (made_member seed m) =
    slice_get-get_or (table (made_member seed) n) m (made_member seed m) (rw long low) ∙ ap (λ (e : MemberEntry). Some e) (member_at seed n m (made_member seed m) low) in
    rw at refl

-- ---- lines

first_lines_next : (seed n j : ℕ) → first_lines seed n (j + 1) ≡ with_line n j (first_lines seed n j)
first_lines_next seed n j = ap (first_lines seed n) (add-one j)

-- the first lines, and so many behind them
made_so_far : (seed n j k : ℕ) → (first_lines seed n j).lines ++ lines_from n (first_lines seed n j).state j k ≡ (first_lines seed n (j + k)).lines
made_so_far seed n j zero =
    let count : j ≡ j + 0 = omega arith in
    append-nil (first_lines seed n j).lines ∙ ap (λ (i : ℕ). (first_lines seed n i).lines) count
made_so_far seed n j (suc k) =
    let now = first_lines seed n j in
    let line = made_line n now.state j in
    let next = λ (m : Making). m.lines ++ lines_from n m.state (j + 1) k in
    let count : (j + 1) + k ≡ j + suc k = omega arith in
    sym (append_assoc now.lines (line ∷ []) (lines_from n (state_behind n now.state j) (j + 1) k))
    ∙ (ap next (sym (first_lines_next seed n j)) ∙ (made_so_far seed n (j + 1) k ∙ ap (λ (i : ℕ). (first_lines seed n i).lines) count))

pub all_made : (seed n k : ℕ) → lines_from n seed 0 k ≡ (first_lines seed n k).lines
all_made seed n k = made_so_far seed n 0 k ∙ ap (λ (i : ℕ). (first_lines seed n i).lines) (zero-add k)

pub length_from : (n x j k : ℕ) → length (lines_from n x j k) ≡ k
length_from n x j zero = refl
length_from n x j (suc k) = ap suc (length_from n (state_behind n x j) (j + 1) k)

pub first_from : (n x j k : ℕ) → 0 < k → lines_from n x j k ≡ made_line n x j ∷ lines_from n (state_behind n x j) (j + 1) (k - 1)
first_from n x j zero some = absurd (omega (arith, some))
first_from n x j (suc k) some = (let one : k ≡ suc k - 1 = omega arith in ap (λ (i : ℕ). made_line n x j ∷ lines_from n (state_behind n x j) (j + 1) i) one)

other_than : (taker b : ℕ) → taker ≡ peer_of taker b → ⊥
other_than taker b same = go (nat_lt b taker) refl same
  where
    go : (c : Bool) → nat_lt b taker ≡ c → taker ≡ cond c b (b + 1) → ⊥
    go true less same = omega (arith, ltb-true b taker less, same)
    go false more same = omega (arith, ltb-false b taker more, same)

peer_low : (n taker b : ℕ) → taker < n → b < n - 1 → peer_of taker b < n
peer_low n taker b low below = go (nat_lt b taker) refl
  where
    go : (c : Bool) → nat_lt b taker ≡ c → cond c b (b + 1) < n
    go true less = omega (arith, low, below)
    go false more = omega (arith, below)

pay_short : (t : Transfer) → IsShortPayload (pay_bytes (t ∷ []))
unfolding pay_bytes
pay_short t = omega arith

sync_lawful : (seed n x time : ℕ) → 2 ≤ n → IsGossip (made_members seed n) (made_sync n x time)
sync_lawful seed n x time some =
    let taker = drawn x 1 % n in
    let b = drawn x 2 % (n - 1) in
    let low : taker < n = mod-lt (drawn x 1) (omega arith) in
    let below : b < n - 1 = mod-lt (drawn x 2) (omega arith) in
    (with_node seed n taker low, with_node seed n (peer_of taker b) (peer_low n taker b low below), other_than taker b, pay_short (made_transfer n x))

gossip_lawful : (seed n x j : ℕ) → 2 ≤ n → IsGossip (made_members seed n) (made_gossip n x j)
gossip_lawful seed n x j some = go (nat_lt j n) refl
  where
    go : (c : Bool) → nat_lt j n ≡ c → IsGossip (made_members seed n) (cond c (Create j (j + 1) []) (made_sync n x (j + 1)))
    go true low = (with_node seed n j (ltb-true j n low), omega arith)
    go false high = sync_lawful seed n x (j + 1) some

pub lines_lawful : (seed n workers k : ℕ) → 2 ≤ n → All (IsLine (made_members seed n) workers) (first_lines seed n k).lines
lines_lawful seed n workers zero some = All-nil (IsLine (made_members seed n) workers)
lines_lawful seed n workers (suc k) some =
    let before = first_lines seed n k in
    let line = made_line n before.state k in
    All-append (IsLine (made_members seed n) workers) before.lines (line ∷ []) (lines_lawful seed n workers k some)
    (All-cons (IsLine (made_members seed n) workers) line [] (gossip_lawful seed n before.state k some, tt) (All-nil (IsLine (made_members seed n) workers)))
