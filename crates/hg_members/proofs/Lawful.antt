-- Members that are read keep to what every list of members keeps to.
use Rattle.std.proofs.Common.{◌≡◌, ℕ, ℤ, pos, negsuc, ◌+◌, ◌<◌, ◌≤◌, ◌^◌, true, false, nat_le, nat_lt, ◌&&◌, List, [], ◌∷◌, ◌++◌, length, get_or, Option, Some, None, option_and_then, unwrap_or, codes, Result, Ok, Err, sum_by, length-append, refl, arith, inl, inr}
use Rattle.std.proofs.lemmas.Bool.{and_parts, both_ways, cases_Bool, leb-true, ltb-true}
use Rattle.std.proofs.lemmas.List.Elements.{All-nil, All-push}
use Rattle.std.proofs.lemmas.List.Folds.{list_any_at}
use Rattle.std.proofs.lemmas.List.Quantifiers.{all_pairs_push}
use Rattle.std.proofs.lemmas.Slice.Eq.{bytes_eq-Decides}
use Rattle.std.specs.List.{All, AllPairs}
use Rattle.std.specs.Str.{bytes_eq}
use Rattle.std.specs.Option.{ok_or}
use Rattle.std.specs.Result.{result_ok}
use Rattle.hex.proofs.HexLemmas.{decode_of-ok}
use Rattle.toml.specs.Data.{Data, Items, no_items, item, as_integer, get}
use Rattle.hg_life.specs.declared.members.MemberEntry.{MemberEntry}
use Rattle.hg_life.specs.Members.{IsEntry, IsMemberList, is_member_name, listed, has_name}
use Rattle.hg_life.specs.Results.{◌>>=◌}
use Rattle.hg_members.specs.declared.fault.MemberFault.{MemberFault}
use Rattle.hg_members.specs.declared.fault.MemberFault.TheVariants.{BadCoin, Count, BadName, DoubleName, BadSecret, BadBalance, BadNode, BadStake}
use Rattle.hg_members.specs.MemberFile.{coin_number, coin_of, count_of, checked_count, name_form, entry_name, name_of, secret_form, entry_secret, balance_of, node_flag, stake_number, given_stake, text_at, checked_member, members_after}

-- what the first check gave, where both pass
bind_ok : {A B : Type 0} (r : Result A MemberFault) (next : A → Result B MemberFault) (y : B) → (r >>= next) ≡ Ok y → (x : A) × (r ≡ Ok x) × (next x ≡ Ok y)
bind_ok (Ok x) next y h = (x, refl, h)
bind_ok (Err fault) next y h = absurd cc

ok_or-ok : {A : Type 0} (o : Option A) (fault : MemberFault) (x : A) → ok_or o fault ≡ Ok x → o ≡ Some x
ok_or-ok None fault x h = absurd cc
ok_or-ok (Some y) fault x h = cc

and_then-some : {A B : Type 0} (f : A → Option B) (o : Option A) (y : B) → option_and_then f o ≡ Some y → (x : A) × (f x ≡ Some y)
and_then-some f None y h = absurd cc
and_then-some f (Some x) y h = (x, h)

result_ok-some : {A E : Type 0} (r : Result A E) (x : A) → result_ok r ≡ Some x → r ≡ Ok x
result_ok-some (Ok y) x h = cc
result_ok-some (Err e) x h = absurd cc

name_form-some : (text name : List ℕ) → name_form text ≡ Some name → is_member_name name ≡ true
name_form-some text name h =
    elim (cases_Bool (is_member_name text)) [
      | inl lawful ↦ let same : Some text ≡ Some name = rw lawful at h in let e : text ≡ name = cc in rw (← e) lawful
      | inr other ↦ absurd (let none : None ≡ Some name = rw other at h in cc)
    ]

secret_form-some : (text secret : List ℕ) → secret_form text ≡ Some secret → (1 ≤ length secret) × (length secret ≤ 128)
secret_form-some text secret h =
    elim (cases_Bool (nat_le 2 (length text) && nat_le (length text) 256)) [
      | inl lawful ↦
          let (low, high) = and_parts (nat_le 2 (length text)) (nat_le (length text) 256) lawful in
          let sized = decode_of-ok text secret (result_ok-some _ secret (rw lawful at h)) in
          (omega (arith, leb-true, sized.2), omega (arith, leb-true, sized.2))
      | inr other ↦ absurd (let none : None ≡ Some secret = rw other at h in cc)
    ]

coin_number-ok : (z : ℤ) (coin : ℕ) → coin_number z ≡ Ok coin → (3 ≤ coin) × (coin ≤ 100)
coin_number-ok (pos n) coin h =
    elim (cases_Bool (nat_le 3 n && nat_le n 100)) [
      | inl lawful ↦
          let (low, high) = and_parts (nat_le 3 n) (nat_le n 100) lawful in
          let same : Ok n ≡ Ok coin = rw lawful at h in
          let e : n ≡ coin = cc in
          (omega (arith, leb-true), omega (arith, leb-true))
      | inr other ↦ absurd (let none : Err (BadCoin (pos n)) ≡ Ok coin = rw other at h in cc)
    ]
coin_number-ok (negsuc n) coin h = absurd cc

coin_of-ok : (found : Option Data) (coin : ℕ) → coin_of found ≡ Ok coin → (3 ≤ coin) × (coin ≤ 100)
coin_of-ok None coin h = let e : 10 ≡ coin = cc in (omega arith, omega arith)
coin_of-ok (Some value) coin h = coin_number-ok (unwrap_or (as_integer value) (pos 0)) coin h

stake_number-some : (z : ℤ) (stake : ℕ) → stake_number z ≡ Some stake → (1 ≤ stake) × (stake < 2 ^ 32)
stake_number-some (pos n) stake h =
    elim (cases_Bool (nat_le 1 n && nat_lt n (2 ^ 32))) [
      | inl lawful ↦
          let (low, high) = and_parts (nat_le 1 n) (nat_lt n (2 ^ 32)) lawful in
          let same : Some n ≡ Some stake = rw lawful at h in
          let e : n ≡ stake = cc in
          rw (← e) (leb-true 1 n low, ltb-true n (2 ^ 32) high)
      | inr other ↦ absurd (let none : None ≡ Some stake = rw other at h in cc)
    ]
stake_number-some (negsuc n) stake h = absurd cc

given_stake-some : (found : Option Data) (stake : ℕ) → given_stake found ≡ Some stake → (1 ≤ stake) × (stake < 2 ^ 32)
given_stake-some None stake h = let e : 1 ≡ stake = cc in rw (← e) (omega arith, omega arith)
given_stake-some (Some value) stake h =
    let (number, given) = and_then-some stake_number (as_integer value) stake h in stake_number-some number stake given

counted-ok : (found entries : Items) → checked_count found ≡ Ok entries → (2 ≤ count_of entries) × (count_of entries ≤ 128)
counted-ok found entries h =
    elim (cases_Bool (nat_le 2 (count_of found) && nat_le (count_of found) 128)) [
      | inl lawful ↦
          let (low, high) = and_parts (nat_le 2 (count_of found)) (nat_le (count_of found) 128) lawful in
          let same : Ok found ≡ Ok entries = rw lawful at h in
          let e : found ≡ entries = cc in
          rw (← e) (leb-true 2 (count_of found) low, leb-true (count_of found) 128 high)
      | inr other ↦ absurd (let none : Err (Count (count_of found)) ≡ Ok entries = rw other at h in cc)
    ]

-- a name that was read has its form, and no earlier member has it
name_of-ok : (earlier : List MemberEntry) (entry : Data) (name : List ℕ) → name_of earlier entry ≡ Ok name
    → (is_member_name name ≡ true) × (has_name earlier name ≡ false)
name_of-ok earlier entry name h =
    let (form, named, last) = bind_ok (ok_or (entry_name entry) (BadName (length earlier))) _ name h in
    let (text, formed) = and_then-some name_form (text_at (codes "name") entry) form (ok_or-ok (entry_name entry) (BadName (length earlier)) form named) in
    elim (cases_Bool (has_name earlier form)) [
      | inl double ↦ absurd (let none : Err (DoubleName (length earlier)) ≡ Ok name = rw double at last in cc)
      | inr new ↦
          let same : Ok form ≡ Ok name = rw new at last in
          let e : form ≡ name = cc in
          rw (← e) (name_form-some text form formed, new)
    ]

secret_in-some : (entry : Data) (secret : List ℕ) → entry_secret entry ≡ Some secret → (1 ≤ length secret) × (length secret ≤ 128)
secret_in-some entry secret h = let (text, formed) = and_then-some secret_form (text_at (codes "secret") entry) secret h in secret_form-some text secret formed

member_of-ok : (earlier : List MemberEntry) (entry : Data) (m : MemberEntry) → checked_member earlier entry ≡ Ok m
    → IsEntry m × (has_name earlier m.name ≡ false)
member_of-ok earlier entry m h =
    let place = length earlier in
    let (name, named, with_name) = bind_ok (name_of earlier entry) _ m h in
    let (secret, read, with_secret) = bind_ok (ok_or (entry_secret entry) (BadSecret place)) _ m with_name in
    let (balance, given, with_balance) = bind_ok (ok_or (balance_of (get (codes "balance") entry)) (BadBalance place)) _ m with_secret in
    let (has_node, matches, with_node) = bind_ok (ok_or (node_flag (get (codes "node") entry)) (BadNode place)) _ m with_balance in
    let (stake, held, with_stake) = bind_ok (ok_or (given_stake (get (codes "stake") entry)) (BadStake place)) _ m with_node in
    let e : record { name = name; secret = secret; balance = balance; stake = stake; has_node = has_node } ≡ m = cc in
    let (form, new) = name_of-ok earlier entry name named in
    let (some, fits) = secret_in-some entry secret (ok_or-ok (entry_secret entry) (BadSecret place) secret read) in
    let (weighs, low) = given_stake-some (get (codes "stake") entry) stake (ok_or-ok (given_stake (get (codes "stake") entry)) (BadStake place) stake held) in
    rw (← e) (record { name = form; secret_some = some; secret_fits = fits; stake_some = weighs; stake_fits = low }, new)

-- members that are each lawful, and have names of their own
record AreMembers (members : List MemberEntry) : Type 0 where
  entries : All IsEntry members
  distinct : AllPairs (λ (a : MemberEntry) (b : MemberEntry). a.name ≡ b.name → ⊥) members

more_members : (earlier : List MemberEntry) (m : MemberEntry) → AreMembers earlier → IsEntry m → has_name earlier m.name ≡ false → AreMembers (earlier ++ m ∷ [])
more_members earlier m are lawful new = record {
  entries = All-push IsEntry earlier m are.entries lawful;
  distinct =
      all_pairs_push (λ (a : MemberEntry) (b : MemberEntry). a.name ≡ b.name → ⊥) earlier m are.distinct
      (λ k d below same. both_ways (has_name earlier m.name) new
      (list_any_at (λ (e : MemberEntry). bytes_eq e.name m.name) earlier k d below
      ((bytes_eq-Decides (get_or earlier k d).name m.name).1 same)));
}

members_after-ok : (earlier : List MemberEntry) (entries : Items) (members : List MemberEntry) → AreMembers earlier
    → members_after earlier entries ≡ Ok members → AreMembers members × (length members ≡ length earlier + count_of entries)
members_after-ok earlier no_items members are h = let e : earlier ≡ members = cc in rw (← e) (are, omega arith)
members_after-ok earlier (item entry rest) members are h =
    let (m, read, after) = bind_ok (checked_member earlier entry) _ members h in
    let (lawful, new) = member_of-ok earlier entry m read in
    let (all, count) = members_after-ok (earlier ++ m ∷ []) rest members (more_members earlier m are lawful new) after in
    (all, omega (arith, length-append earlier (m ∷ [])))

none_are : AreMembers []
none_are = record { entries = All-nil IsEntry; distinct = λ i j d before below. absurd (omega arith) }

-- what is read from 2 to 128 entries
pub members_few : (found entries : Items) (members : List MemberEntry) → checked_count found ≡ Ok entries → members_after [] entries ≡ Ok members
    → length members ≤ 128
members_few found entries members sized read =
    let (low, high) = counted-ok found entries sized in
    let (are, count) = members_after-ok [] entries members none_are read in
    omega arith

pub members_lawful : (given : Option Data) (coin : ℕ) (found entries : Items) (members : List MemberEntry)
    → coin_of given ≡ Ok coin → checked_count found ≡ Ok entries → members_after [] entries ≡ Ok members
    → sum_by (λ (e : MemberEntry). e.balance) members < 2 ^ 63 → IsMemberList (listed members coin)
members_lawful given coin found entries members tossed sized read sum =
    let (coin_low, coin_high) = coin_of-ok given coin tossed in
    let (low, high) = counted-ok found entries sized in
    let (are, count) = members_after-ok [] entries members none_are read in
    record {
      some = omega arith;
      few = omega arith;
      coin_low = coin_low;
      coin_high = coin_high;
      entries = are.entries;
      distinct = are.distinct;
      sum = sum;
    }
