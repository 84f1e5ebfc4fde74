-- The test of a list of members passes just where the list keeps to its rules.
use Rattle.std.proofs.Common.{◌≡◌, ℕ, Bool, suc, ◌^◌, ◌<◌, ◌≤◌, true, not, ◌&&◌, List, [], ◌∷◌, length, get_or, sum_by, All, AllPairs, refl, sym, ◌∙◌, arith}
use Rattle.std.specs.Prelude.{nat_le, nat_lt}
use Rattle.std.specs.List.{list_all}
use Rattle.std.specs.Str.{bytes_eq}
use Rattle.std.proofs.lemmas.Bool.{and_parts, and_from, not-true, not_from_false, false_from_ne_true, leb-true, le-leb, ltb-true, lt-ltb, false≢true}
use Rattle.std.proofs.lemmas.List.{length-map, get_or-map}
use Rattle.std.proofs.lemmas.List.Elements.{All-cons, All-nil, All-head, All-tail}
use Rattle.std.proofs.lemmas.List.Folds.{list_any_at, list_any_none}
use Rattle.std.proofs.lemmas.List.Kept.{AllPairs-cons}
use Rattle.std.proofs.lemmas.Slice.Eq.{bytes_eq-Decides}
use Rattle.hg_model.specs.Stakes.{member_count, stake_of, total}
use Rattle.hg_model.proofs.StakeLaws.{total-low, total-some}
use Rattle.hg_life.specs.declared.members.MemberEntry.{MemberEntry}
use Rattle.hg_life.specs.Members.{MemberList, IsEntry, IsMemberList, listed, stakes_of, is_entry, has_name, are_named_apart, are_in_range, is_member_list, is_member_name}

-- the front of the test of an entry
abbrev has_secret : MemberEntry → Bool
has_secret e = is_member_name e.name && nat_le 1 (length e.secret) && nat_le (length e.secret) 128

entry_to : (e : MemberEntry) → is_entry e ≡ true → IsEntry e
entry_to e h =
    let (weighed, low) = and_parts (has_secret e && nat_le 1 e.stake) (nat_lt e.stake (2 ^ 32)) h in
    let (front, least) = and_parts (has_secret e) (nat_le 1 e.stake) weighed in
    let (begun, fits) = and_parts (is_member_name e.name && nat_le 1 (length e.secret)) (nat_le (length e.secret) 128) front in
    let (named, some) = and_parts (is_member_name e.name) (nat_le 1 (length e.secret)) begun in
    record {
      name = named;
      secret_some = leb-true 1 (length e.secret) some;
      secret_fits = leb-true (length e.secret) 128 fits;
      stake_some = leb-true 1 e.stake least;
      stake_fits = ltb-true e.stake (2 ^ 32) low;
    }

entry_from : (e : MemberEntry) → IsEntry e → is_entry e ≡ true
entry_from e is =
    and_from (has_secret e && nat_le 1 e.stake) (nat_lt e.stake (2 ^ 32))
    (and_from (has_secret e) (nat_le 1 e.stake)
    (and_from (is_member_name e.name && nat_le 1 (length e.secret)) (nat_le (length e.secret) 128)
    (and_from (is_member_name e.name) (nat_le 1 (length e.secret)) is.name (le-leb 1 (length e.secret) is.secret_some))
    (le-leb (length e.secret) 128 is.secret_fits))
    (le-leb 1 e.stake is.stake_some))
    (lt-ltb e.stake (2 ^ 32) is.stake_fits)

entries_to : (es : List MemberEntry) → list_all is_entry es ≡ true → All IsEntry es
entries_to [] h = All-nil IsEntry
entries_to (e ∷ es) h =
    let (first, rest) = and_parts (is_entry e) (list_all is_entry es) h in
    All-cons IsEntry e es (entry_to e first) (entries_to es rest)

entries_from : (es : List MemberEntry) → All IsEntry es → list_all is_entry es ≡ true
entries_from [] all = refl
entries_from (e ∷ es) all =
    and_from (is_entry e) (list_all is_entry es) (entry_from e (All-head IsEntry e es all)) (entries_from es (All-tail IsEntry e es all))

abbrev IsApart : MemberEntry → MemberEntry → Type 0
IsApart a b = a.name ≡ b.name → ⊥

apart_of_new : (es : List MemberEntry) (e : MemberEntry) → not (has_name es e.name) ≡ true → All (IsApart e) es
apart_of_new es e h k d inside same =
    false≢true (sym (not-true (has_name es e.name) h) ∙ list_any_at (λ (f : MemberEntry). bytes_eq f.name e.name) es k d inside ((bytes_eq-Decides (get_or es k d).name e.name).1 (sym same)))

new_of_apart : (es : List MemberEntry) (e : MemberEntry) → All (IsApart e) es → not (has_name es e.name) ≡ true
new_of_apart es e all =
    not_from_false (has_name es e.name)
    (list_any_none (λ (f : MemberEntry). bytes_eq f.name e.name) es
    (λ k d inside. false_from_ne_true (bytes_eq (get_or es k d).name e.name) (λ same. all k d inside (sym ((bytes_eq-Decides (get_or es k d).name e.name).0 same)))))

apart_to : (es : List MemberEntry) → are_named_apart es ≡ true → AllPairs IsApart es
apart_to [] h = λ i j d before inside. absurd (omega (arith, inside))
apart_to (e ∷ es) h =
    let (new, rest) = and_parts (not (has_name es e.name)) (are_named_apart es) h in
    AllPairs-cons IsApart e es (apart_of_new es e new) (apart_to es rest)

apart_from : (es : List MemberEntry) → AllPairs IsApart es → are_named_apart es ≡ true
apart_from [] all = refl
apart_from (e ∷ es) all =
    and_from (not (has_name es e.name)) (are_named_apart es)
    (new_of_apart es e (λ k d inside. all 0 (suc k) d (omega arith) (omega (arith, inside))))
    (apart_from es (λ i j d before inside. all (suc i) (suc j) d (omega (arith, before)) (omega (arith, inside))))

abbrev balance_sum : List MemberEntry → ℕ
balance_sum es = sum_by (λ (e : MemberEntry). e.balance) es

pub member_list_to : (es : List MemberEntry) (coin : ℕ) → is_member_list es coin ≡ true → IsMemberList (listed es coin)
member_list_to es coin h =
    let (front, sum) = and_parts (are_in_range es coin && list_all is_entry es && are_named_apart es) (nat_lt (balance_sum es) (2 ^ 63)) h in
    let (middle, apart) = and_parts (are_in_range es coin && list_all is_entry es) (are_named_apart es) front in
    let (range, entries) = and_parts (are_in_range es coin) (list_all is_entry es) middle in
    let (three, high) = and_parts (nat_le 2 (length es) && nat_le (length es) 128 && nat_le 3 coin) (nat_le coin 100) range in
    let (two, low) = and_parts (nat_le 2 (length es) && nat_le (length es) 128) (nat_le 3 coin) three in
    let (some, few) = and_parts (nat_le 2 (length es)) (nat_le (length es) 128) two in
    record {
      some = leb-true 2 (length es) some;
      few = leb-true (length es) 128 few;
      coin_low = leb-true 3 coin low;
      coin_high = leb-true coin 100 high;
      entries = entries_to es entries;
      distinct = apart_to es apart;
      sum = ltb-true (balance_sum es) (2 ^ 63) sum;
    }

pub member_list_from : (es : List MemberEntry) (coin : ℕ) → IsMemberList (listed es coin) → is_member_list es coin ≡ true
member_list_from es coin is =
    and_from (are_in_range es coin && list_all is_entry es && are_named_apart es) (nat_lt (balance_sum es) (2 ^ 63))
    (and_from (are_in_range es coin && list_all is_entry es) (are_named_apart es)
    (and_from (are_in_range es coin) (list_all is_entry es)
    (and_from (nat_le 2 (length es) && nat_le (length es) 128 && nat_le 3 coin) (nat_le coin 100)
    (and_from (nat_le 2 (length es) && nat_le (length es) 128) (nat_le 3 coin)
    (and_from (nat_le 2 (length es)) (nat_le (length es) 128) (le-leb 2 (length es) is.some) (le-leb (length es) 128 is.few))
    (le-leb 3 coin is.coin_low))
    (le-leb coin 100 is.coin_high))
    (entries_from es is.entries))
    (apart_from es is.distinct))
    (lt-ltb (balance_sum es) (2 ^ 63) is.sum)

-- The members' stakes

-- each member has one
pub length-stakes : (m : MemberList) → member_count (stakes_of m) ≡ length m.entries
length-stakes m = length-map m.entries (λ (e : MemberEntry). e.stake)

pub stake_of-stakes : (m : MemberList) (k : ℕ) (d : MemberEntry) → k < length m.entries → stake_of (stakes_of m) k ≡ (get_or m.entries k d).stake
stake_of-stakes m k d inside = get_or-map (λ (e : MemberEntry). e.stake) m.entries k d 0 inside

-- they are lawful stakes: of each at least 1 and less than 2^32, and of all at most 2^39
module _ (m : MemberList) (lawful : IsMemberList m) where
  entry_at : (k : ℕ) → k < length m.entries → (e : MemberEntry) × IsEntry e × (stake_of (stakes_of m) k ≡ e.stake)
  entry_at k inside =
      let d : MemberEntry = record { name = []; secret = []; balance = 0; stake = 0; has_node = true } in
      (get_or m.entries k d, lawful.entries k d inside, stake_of-stakes m k d inside)

  pub stakes_some : (k : ℕ) → k < length m.entries → 1 ≤ stake_of (stakes_of m) k
  stakes_some k inside = let (e, is, same) = entry_at k inside in omega (arith, is.stake_some, same)

  pub stakes_fit : (k : ℕ) → k < length m.entries → stake_of (stakes_of m) k < 2 ^ 32
  stakes_fit k inside = let (e, is, same) = entry_at k inside in rw same is.stake_fits

  pub stakes_low : total (stakes_of m) ≤ 2 ^ 39
  stakes_low =
      total-low (stakes_of m) (omega (arith, length-stakes m, lawful.few))
      (λ k member. stakes_fit k (omega (arith, length-stakes m, member)))

  pub total_some : 0 < total (stakes_of m)
  total_some = total-some (stakes_of m) 0 (stakes_some 0 (omega (arith, lawful.some)))
