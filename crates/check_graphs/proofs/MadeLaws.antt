-- The members of a made graph are members
use Rattle.std.proofs.Common.{◌≡◌, ◌<◌, ◌≤◌, ◌+◌, ◌%◌, ◌^◌, ℕ, zero, suc, Bool, true, false, List, [], ◌∷◌, ◌++◌, get_or, length, sum_by, refl, sym, ap, ◌∙◌, subst, arith, mod-lt}
use Rattle.std.proofs.lemmas.List.FromFn.{length-map-range_with_len, get_or-map-range_with_len, map-range_with_len_more, sum_by-map-range_with_len_more}
use Rattle.hg_life.specs.declared.members.MemberEntry.{MemberEntry}
use Rattle.hg_life.specs.Members.{IsEntry, IsMemberList, is_member_name, listed}
use Rattle.check_graphs.specs.Made.{made_entries, made_entry, made_stake}

made_name : (k : ℕ) → k < 7 → is_member_name ((65 + k) ∷ []) ≡ true
made_name zero few = refl
made_name (suc zero) few = refl
made_name (suc (suc zero)) few = refl
made_name (suc (suc (suc zero))) few = refl
made_name (suc (suc (suc (suc zero)))) few = refl
made_name (suc (suc (suc (suc (suc zero))))) few = refl
made_name (suc (suc (suc (suc (suc (suc zero)))))) few = refl
made_name (suc (suc (suc (suc (suc (suc (suc k))))))) few = absurd (omega arith)

stake_some : (weighed : Bool) (k : ℕ) → 1 ≤ made_stake weighed k
stake_some true k = omega arith
stake_some false k = omega arith

stake_fits : (weighed : Bool) (k : ℕ) → made_stake weighed k < 2 ^ 32
stake_fits true k = let low : (k + 3) % 4 < 4 = mod-lt (k + 3) (omega arith) in omega (arith, low)
stake_fits false k = omega arith

made_is : (w : Bool) (k : ℕ) → k < 7 → IsEntry (made_entry w k)
made_is w k few = record {
  name = made_name k few;
  secret_some = omega arith;
  secret_fits = omega arith;
  stake_some = stake_some w k;
  stake_fits = stake_fits w k;
}

made_at : (w : Bool) (n k : ℕ) (d : MemberEntry) → k < n → get_or (made_entries w n) k d ≡ made_entry w k
made_at w n k d lt = get_or-map-range_with_len (made_entry w) 0 n k k d lt (omega arith)

made_length : (w : Bool) (n : ℕ) → length (made_entries w n) ≡ n
made_length w n = length-map-range_with_len (made_entry w) 0 n

distinct : (w : Bool) (n : ℕ) (i j : ℕ) (d : MemberEntry) → i < j → j < length (made_entries w n) → (get_or (made_entries w n) i d).name ≡ (get_or (made_entries w n) j d).name → ⊥
distinct w n i j d before within same =
    let first : get_or (made_entries w n) i d ≡ made_entry w i = made_at w n i d (omega (arith, made_length w n)) in
    let second : get_or (made_entries w n) j d ≡ made_entry w j = made_at w n j d (omega (arith, made_length w n)) in
    let names : (65 + i) ∷ [] ≡ (65 + j) ∷ [] = sym (ap (λ (e : MemberEntry). e.name) first) ∙ same ∙ ap (λ (e : MemberEntry). e.name) second in
    let letters : 65 + i ≡ 65 + j = ap (λ (t : List ℕ). get_or t 0 0) names in
    omega (arith, letters)

made_sum : (w : Bool) (n : ℕ) → sum_by (λ (e : MemberEntry). e.balance) (made_entries w n) ≡ 0
made_sum w zero = refl
made_sum w (suc n) =
    let more : sum_by (λ (e : MemberEntry). e.balance) (made_entries w (n + 1)) ≡ sum_by (λ (e : MemberEntry). e.balance) (made_entries w n) + 0
    = sum_by-map-range_with_len_more (λ (e : MemberEntry). e.balance) (made_entry w) 0 n n (omega arith) in
    let none : sum_by (λ (e : MemberEntry). e.balance) (made_entries w (n + 1)) ≡ 0 = omega (arith, more, made_sum w n) in
    let next : n + 1 ≡ suc n = omega arith in
    subst (λ (m : ℕ). sum_by (λ (e : MemberEntry). e.balance) (made_entries w m) ≡ 0) next none

pub made_members : (w : Bool) (n c : ℕ) → 4 ≤ n → n ≤ 7 → 3 ≤ c → c ≤ 6 → IsMemberList (listed (made_entries w n) c)
made_members w n c some few low high = record {
  some = omega (arith, made_length w n);
  few = omega (arith, made_length w n);
  coin_low = low;
  coin_high = omega arith;
  entries = λ k d lt. let here : k < n = omega (arith, made_length w n, lt) in subst IsEntry (sym (made_at w n k d here)) (made_is w k (omega arith));
  distinct = distinct w n;
  sum = omega (arith, made_sum w n);
}

pub made_more : (w : Bool) (n : ℕ) → made_entries w (n + 1) ≡ made_entries w n ++ made_entry w n ∷ []
made_more w n = map-range_with_len_more (made_entry w) 0 n n (omega arith)
