-- What each field's reading takes is spelled so, and what is spelled so is read.
use Rattle.std.proofs.Common.{◌≡◌, ℕ, zero, suc, ◌+◌, ◌^◌, ◌<◌, ◌≤◌, Bool, true, false, cond, ltb, List, [], ◌∷◌, ◌++◌, length, get_or, take, drop, Some, None, Result, Ok, Err, refl, sym, ap, subst, ◌∙◌, append_assoc, arith, inl, inr}
use Rattle.std.specs.Prelude.{◌&&◌, ◌⊎◌, eqb, IfSome, nat_eq, nat_le, nat_lt}
use Rattle.std.specs.List.{AllByRecursion, concat, starts_with}
use Rattle.std.specs.Int.{Width, w16, w32, w64, byte_len, from_be_bytes, to_be_bytes}
use Rattle.std.proofs.lemmas.Bool.{and_from, and_parts, cases_lt, cond-true, eqb-true, leb-true, le-leb, le-ltb, lt-ltb, ltb-false}
use Rattle.std.proofs.lemmas.List.{take_at, drop_at, take-append-drop, length-append, length-take, get_or-drop, get_or-take, get_or_past}
use Rattle.std.proofs.lemmas.Nat.{be_bytes_2, be_bytes_4, be_bytes_8, from_be_bytes-to_be_bytes_2, from_be_bytes-to_be_bytes_4, from_be_bytes-to_be_bytes_8}
use Rattle.std.proofs.lemmas.Slice.Eq.{bytes_eq-Decides}
use Rattle.hg_model.specs.Links.{ParentNames, most_others}
use Rattle.hg_life.specs.declared.answers.ByteFault.{ByteFault}
use Rattle.hg_life.specs.declared.answers.ByteFault.TheVariants.{Short, BadMagic, BadKind, BadLength}
use Rattle.hg_life.specs.Spelling.{AreNames, form_byte, has_several, magic, others_of, parent_bytes, payload_bytes, payload_limit}
use Rattle.hg_life.specs.Results.{◌>>=◌}
use Rattle.hg_life.specs.Reading.{bytes_field, form_field, form_of, is_kind, names_field, number_field, parents_by, parents_field, payload_field}

-- ---- a reading that went on

-- a step that gave no fault
pub went_on : {A B : Type 0} (first : Result A ByteFault) (next : A → Result B ByteFault) (y : B) → (first >>= next) ≡ Ok y → (x : A) × (first ≡ Ok x) × (next x ≡ Ok y)
went_on (Ok x) next y e = (x, refl, e)
went_on (Err fault) next y e = absurd cc

-- a test that would have given a fault
pub was_false : {A : Type 0} (b : Bool) (fault : ByteFault) (r : Result A ByteFault) (y : A) → cond b (Err fault) r ≡ Ok y → (b ≡ false) × (r ≡ Ok y)
was_false true fault r y e = absurd cc
was_false false fault r y e = (refl, e)

-- a test that would have given a fault where it fails
pub was_true : {A : Type 0} (b : Bool) (fault : ByteFault) (r : Result A ByteFault) (y : A) → cond b r (Err fault) ≡ Ok y → (b ≡ true) × (r ≡ Ok y)
was_true true fault r y e = (refl, e)
was_true false fault r y e = absurd cc

abbrev pub done : {A : Type 0} → A → Result A ByteFault
done x = Ok x

pub same_done : {A : Type 0} (x y : A) → done x ≡ done y → x ≡ y
same_done x y e = cc

-- ---- bytes

abbrev pub AreBytes : List ℕ → Type 0
AreBytes bytes = (i : ℕ) → get_or bytes i 0 < 256

AreBytes-drop : (n : ℕ) (bytes : List ℕ) → AreBytes bytes → AreBytes (drop n bytes)
AreBytes-drop n bytes fit i = rw get_or-drop (fit (n + i))

AreBytes-take : (n : ℕ) (bytes : List ℕ) → AreBytes bytes → AreBytes (take n bytes)
AreBytes-take n bytes fit i =
    elim (cases_lt i n) [
      | inl below ↦ rw (get_or-take n bytes i 0 below) (fit i)
      | inr past ↦ rw (get_or_past (take n bytes) i 0 (omega (arith, length-take n bytes))) (omega arith)
    ]

-- the text stands in front of what is left, which is bytes too
pub record Took (bytes text left : List ℕ) : Type 0 where
  pub whole : bytes ≡ text ++ left
  pub left_fit : AreBytes left

-- one field after another
pub then_took : {bytes text left more : List ℕ} → Took bytes text left → left ≡ more → bytes ≡ text ++ more
then_took {text} took e = took.whole ∙ ap (λ (t : List ℕ). text ++ t) e

pub bytes_took : (size n : ℕ) (bytes : List ℕ) (x : List ℕ × List ℕ) → AreBytes bytes → bytes_field size n bytes ≡ Ok x → Took bytes x.0 x.1 × (length x.0 ≡ n) × AreBytes x.0
unfolding bytes_field
bytes_took size n bytes x fit e =
    let kept = was_false (ltb (length bytes) n) (Short size) (Ok (take n bytes, drop n bytes)) x e in
    let long : n ≤ length bytes = ltb-false _ _ kept.0 in
    subst (λ (x : List ℕ × List ℕ). Took bytes x.0 x.1 × (length x.0 ≡ n) × AreBytes x.0) (same_done (take n bytes, drop n bytes) x kept.1)
    (record { whole = sym (take-append-drop n bytes); left_fit = AreBytes-drop n bytes fit }, omega (arith, length-take n bytes), AreBytes-take n bytes fit)

pub bytes_again : (size n : ℕ) (text left : List ℕ) → length text ≡ n → bytes_field size n (text ++ left) ≡ Ok (text, left)
unfolding bytes_field
bytes_again size n text left len =
    let long : ltb (length (text ++ left)) n ≡ false = le-ltb _ _ (omega (arith, length-append text left)) in
    rw (long, take_at text left n len, drop_at text left n len) refl

-- ---- numbers

-- numbers below the limit are just what the width spells
pub record IsWidth (width : Width) (limit : ℕ) : Type 0 where
  pub len : (n : ℕ) → length (to_be_bytes width n) ≡ byte_len width
  pub spelled : (bytes : List ℕ) → length bytes ≡ byte_len width → AreBytes bytes → to_be_bytes width (from_be_bytes width bytes) ≡ bytes
  pub again : (n : ℕ) → n < limit → from_be_bytes width (to_be_bytes width n) ≡ n
  pub below : (bytes : List ℕ) → AreBytes bytes → from_be_bytes width bytes < limit

pub two_bytes : IsWidth w16 (2 ^ 16)
two_bytes = record {
  len = λ n. refl;
  spelled = λ bytes len fit. be_bytes_2 bytes _ len fit refl;
  again = λ n below. from_be_bytes-to_be_bytes_2 n below;
  below = λ bytes fit. omega (arith, fit 0, fit 1);
}

pub four_bytes : IsWidth w32 (2 ^ 32)
four_bytes = record {
  len = λ n. refl;
  spelled = λ bytes len fit. be_bytes_4 bytes _ len fit refl;
  again = λ n below. from_be_bytes-to_be_bytes_4 n below;
  below = λ bytes fit. omega (arith, fit 0, fit 1, fit 2, fit 3);
}

pub eight_bytes : IsWidth w64 (2 ^ 64)
eight_bytes = record {
  len = λ n. refl;
  spelled = λ bytes len fit. be_bytes_8 bytes _ len fit refl;
  again = λ n below. from_be_bytes-to_be_bytes_8 n below;
  below = λ bytes fit. omega (arith, fit 0, fit 1, fit 2, fit 3, fit 4, fit 5, fit 6, fit 7);
}

pub number_took : {width : Width} {limit : ℕ} → IsWidth width limit → (size : ℕ) (bytes : List ℕ) (x : ℕ × List ℕ) → AreBytes bytes → number_field size width bytes ≡ Ok x → Took bytes (to_be_bytes width x.0) x.1 × (x.0 < limit)
unfolding number_field
number_took {width} {limit} is_width size bytes x fit e =
    let digits = went_on (bytes_field size (byte_len width) bytes) (λ digits. Ok (from_be_bytes width digits.0, digits.1)) x e in
    let took = bytes_took size (byte_len width) bytes digits.0 fit digits.1 in
    let spelled : to_be_bytes width (from_be_bytes width digits.0.0) ≡ digits.0.0 = is_width.spelled digits.0.0 took.1 took.2 in
    subst (λ (x : ℕ × List ℕ). Took bytes (to_be_bytes width x.0) x.1 × (x.0 < limit)) (same_done (from_be_bytes width digits.0.0, digits.0.1) x digits.2)
    (rw spelled took.0, is_width.below digits.0.0 took.2)

pub number_again : {width : Width} {limit : ℕ} → IsWidth width limit → (size n : ℕ) (left : List ℕ) → n < limit → number_field size width (to_be_bytes width n ++ left) ≡ Ok (n, left)
unfolding number_field
number_again {width} {limit} is_width size n left below =
    rw (bytes_again size (byte_len width) (to_be_bytes width n) left (is_width.len n), is_width.again n below) refl

-- ---- the form

-- the first four bytes of an event of the form
abbrev pub form_text : Bool → List ℕ
form_text several = magic ++ form_byte several ∷ []

magic_found : {A : Type 0} (found part : Bool) (short bad : ByteFault) (r : Result A ByteFault) (y : A) → cond found r (cond part (Err short) (Err bad)) ≡ Ok y → (found ≡ true) × (r ≡ Ok y)
magic_found true part short bad r y e = (refl, e)
magic_found false true short bad r y e = absurd cc
magic_found false false short bad r y e = absurd cc

digit_found : (one two : Bool) (rest : List ℕ) (x : Bool × List ℕ) → cond one (done (false, rest)) (cond two (Ok (true, rest)) (Err BadMagic)) ≡ Ok x
    → ((one ≡ true) × ((false, rest) ≡ x)) ⊎ ((two ≡ true) × ((true, rest) ≡ x))
digit_found true two rest x e = inl (refl, same_done (false, rest) x e)
digit_found false true rest x e = inr (refl, same_done (true, rest) x e)
digit_found false false rest x e = absurd cc

digit_took : (size : ℕ) (bytes : List ℕ) (x : Bool × List ℕ) → AreBytes bytes → form_of size bytes ≡ Ok x → Took bytes (form_byte x.0 ∷ []) x.1
unfolding form_of
digit_took size [] x fit e = absurd cc
digit_took size (digit ∷ rest) x fit e = elim (digit_found (eqb digit 0x31) (eqb digit 0x32) rest x e) [
  | inl one ↦ subst (λ (x : Bool × List ℕ). Took (digit ∷ rest) (form_byte x.0 ∷ []) x.1) one.1
      (record { whole = ap (λ (d : ℕ). d ∷ rest) (eqb-true digit 0x31 one.0); left_fit = λ i. fit (suc i) })
  | inr two ↦ subst (λ (x : Bool × List ℕ). Took (digit ∷ rest) (form_byte x.0 ∷ []) x.1) two.1
      (record { whole = ap (λ (d : ℕ). d ∷ rest) (eqb-true digit 0x32 two.0); left_fit = λ i. fit (suc i) })
]

pub form_took : (size : ℕ) (bytes : List ℕ) (x : Bool × List ℕ) → AreBytes bytes → form_field size bytes ≡ Ok x → Took bytes (form_text x.0) x.1
unfolding form_field
form_took size bytes x fit e =
    let found = magic_found (starts_with nat_eq bytes magic) (starts_with nat_eq magic bytes) (Short size) BadMagic (form_of size (drop 3 bytes)) x e in
    let front : magic ≡ take 3 bytes = (bytes_eq-Decides magic (take 3 bytes)).0 found.0 in
    let digit = digit_took size (drop 3 bytes) x (AreBytes-drop 3 bytes fit) found.1 in
    record {
      whole = sym (take-append-drop 3 bytes) ∙ ap (λ (t : List ℕ). t ++ drop 3 bytes) (sym front) ∙ ap (λ (t : List ℕ). magic ++ t) digit.whole;
      left_fit = digit.left_fit;
    }

pub form_again : (size : ℕ) (several : Bool) (left : List ℕ) → form_field size (form_text several ++ left) ≡ Ok (several, left)
unfolding form_field form_of
form_again size true left = refl
form_again size false left = refl

-- ---- the parents

abbrev AreLong : List (List ℕ) → Type 0
AreLong names = AllByRecursion (λ name. length name ≡ 48) names

names_took : (size k : ℕ) (bytes : List ℕ) (x : List (List ℕ) × List ℕ) → AreBytes bytes → names_field size k bytes ≡ Ok x → Took bytes (concat x.0) x.1 × (length x.0 ≡ k) × AreLong x.0
unfolding names_field
names_took size zero bytes x fit e =
    subst (λ (x : List (List ℕ) × List ℕ). Took bytes (concat x.0) x.1 × (length x.0 ≡ 0) × AreLong x.0) (same_done ([], bytes) x e)
    (record { whole = refl; left_fit = fit }, refl, tt)
names_took size (suc k) bytes x fit e =
    let a = went_on (bytes_field size 48 bytes) (λ name. names_field size k name.1 >>= λ names. Ok (name.0 ∷ names.0, names.1)) x e in
    let b = went_on (names_field size k a.0.1) (λ names. Ok (a.0.0 ∷ names.0, names.1)) x a.2 in
    let t = bytes_took size 48 bytes a.0 fit a.1 in
    let u = names_took size k a.0.1 b.0 t.0.left_fit b.1 in
    let both : bytes ≡ (a.0.0 ++ concat b.0.0) ++ b.0.1 = then_took t.0 u.0.whole ∙ sym (append_assoc a.0.0 (concat b.0.0) b.0.1) in
    subst (λ (x : List (List ℕ) × List ℕ). Took bytes (concat x.0) x.1 × (length x.0 ≡ suc k) × AreLong x.0) (same_done (a.0.0 ∷ b.0.0, b.0.1) x b.2)
    (record { whole = both; left_fit = u.0.left_fit }, ap suc u.1, (t.1, u.2))

names_again : (size : ℕ) (names : List (List ℕ)) (left : List ℕ) → AreLong names → names_field size (length names) (concat names ++ left) ≡ Ok (names, left)
unfolding names_field
names_again size [] left are = refl
names_again size (name ∷ names) left are =
    ap (names_field size (suc (length names))) (append_assoc name (concat names) left)
    ∙ rw (bytes_again size 48 name (concat names ++ left) are.0, names_again size names left are.1) refl

-- what the forms let through
pub kind_few : (several : Bool) (kind : ℕ) → is_kind several kind ≡ true → kind ≤ most_others
kind_few true kind is = leb-true kind 4 (and_parts (nat_lt 1 kind) (nat_le kind 4) is).1
kind_few false kind is = let one = leb-true kind 1 is in omega arith

kind_several : (several : Bool) (kind : ℕ) → is_kind several kind ≡ true → nat_lt 1 kind ≡ several
kind_several true kind is = (and_parts (nat_lt 1 kind) (nat_le kind 4) is).0
kind_several false kind is = le-ltb 1 kind (leb-true kind 1 is)

kind_again : (kind : ℕ) → (nat_lt 0 kind && nat_le kind most_others) ≡ true → is_kind (nat_lt 1 kind) kind ≡ true
kind_again kind few = elim (cases_lt 1 kind) [
  | inl several ↦ rw (lt-ltb 1 kind several) (and_parts (nat_lt 0 kind) (nat_le kind 4) few).1
  | inr one ↦ rw (le-ltb 1 kind one) (le-leb kind 1 one)
]

abbrev AreNamed : ParentNames → Type 0
AreNamed parents = IfSome parents AreNames

-- names of that many other-parents, behind the kind
by_took : (size kind : ℕ) (bytes : List ℕ) (x : ParentNames × List ℕ) → kind ≤ most_others → AreBytes bytes → parents_by size kind bytes ≡ Ok x
    → Took (kind ∷ bytes) (parent_bytes x.0) x.1 × AreNamed x.0 × (others_of x.0 ≡ kind)
unfolding parents_by
by_took size zero bytes x few fit e =
    subst (λ (x : ParentNames × List ℕ). Took (0 ∷ bytes) (parent_bytes x.0) x.1 × AreNamed x.0 × (others_of x.0 ≡ 0)) (same_done (None, bytes) x e)
    (record { whole = refl; left_fit = fit }, tt, refl)
by_took size (suc k) bytes x few fit e =
    let a = went_on (bytes_field size 48 bytes) (λ self_parent. names_field size (suc k) self_parent.1 >>= λ others. Ok (Some (self_parent.0, others.0), others.1)) x e in
    let b = went_on (names_field size (suc k) a.0.1) (λ others. Ok (Some (a.0.0, others.0), others.1)) x a.2 in
    let t = bytes_took size 48 bytes a.0 fit a.1 in
    let u = names_took size (suc k) a.0.1 b.0 t.0.left_fit b.1 in
    let both : bytes ≡ (a.0.0 ++ concat b.0.0) ++ b.0.1 = then_took t.0 u.0.whole ∙ sym (append_assoc a.0.0 (concat b.0.0) b.0.1) in
    let some : nat_lt 0 (length b.0.0) ≡ true = lt-ltb 0 (length b.0.0) (omega (arith, u.1)) in
    let most : nat_le (length b.0.0) 4 ≡ true = le-leb (length b.0.0) 4 (omega (arith, u.1)) in
    subst (λ (x : ParentNames × List ℕ). Took (suc k ∷ bytes) (parent_bytes x.0) x.1 × AreNamed x.0 × (others_of x.0 ≡ suc k)) (same_done (Some (a.0.0, b.0.0), b.0.1) x b.2) (
      record { whole = ap (λ (n : ℕ). n ∷ bytes) (sym u.1) ∙ ap (λ (t : List ℕ). length b.0.0 ∷ t) both; left_fit = u.0.left_fit },
      record { few = and_from _ _ some most; first = t.1; others = u.2 },
      u.1,
    )

by_again : (size : ℕ) (name : List ℕ) (others : List (List ℕ)) (left : List ℕ) → AreNames (name, others) → parents_by size (length others) ((name ++ concat others) ++ left) ≡ Ok (Some (name, others), left)
unfolding parents_by
by_again size name [] left are = let few = are.few in absurd cc
by_again size name (other ∷ others) left are =
    ap (parents_by size (suc (length others))) (append_assoc name (concat (other ∷ others)) left)
    ∙ rw (bytes_again size 48 name (concat (other ∷ others) ++ left) are.first, names_again size (other ∷ others) left are.others) refl

pub parents_took : (size : ℕ) (several : Bool) (bytes : List ℕ) (x : ParentNames × List ℕ) → AreBytes bytes → parents_field size several bytes ≡ Ok x
    → Took bytes (parent_bytes x.0) x.1 × AreNamed x.0 × (has_several x.0 ≡ several)
unfolding parents_field
parents_took size several [] x fit e = absurd cc
parents_took size several (kind ∷ bytes) x fit e =
    let kept = was_true (is_kind several kind) (BadKind kind) (parents_by size kind bytes) x e in
    let took = by_took size kind bytes x (kind_few several kind kept.0) (λ i. fit (suc i)) kept.1 in
    (took.0, took.1, ap (nat_lt 1) took.2 ∙ kind_several several kind kept.0)

pub parents_again : (size : ℕ) (parents : ParentNames) (left : List ℕ) → AreNamed parents → parents_field size (has_several parents) (parent_bytes parents ++ left) ≡ Ok (parents, left)
unfolding parents_field parents_by
parents_again size None left are = refl
parents_again size (Some names) left are =
    cond-true (is_kind (nat_lt 1 (length names.1)) (length names.1)) _ _ (kind_again (length names.1) are.few) ∙ by_again size names.0 names.1 left are

-- ---- the payload

pub payload_took : (size : ℕ) (bytes : List ℕ) (x : List ℕ × List ℕ) → AreBytes bytes → payload_field size bytes ≡ Ok x → Took bytes (payload_bytes x.0) x.1 × (length x.0 ≤ payload_limit)
unfolding payload_field
payload_took size bytes x fit e =
    let len = went_on (number_field size w16 bytes) (λ len. cond (ltb payload_limit len.0) (Err (BadLength len.0)) (bytes_field size len.0 len.1)) x e in
    let kept = was_false (ltb payload_limit len.0.0) (BadLength len.0.0) (bytes_field size len.0.0 len.0.1) x len.2 in
    let small : len.0.0 ≤ payload_limit = ltb-false _ _ kept.0 in
    let t = number_took two_bytes size bytes len.0 fit len.1 in
    let u = bytes_took size len.0.0 len.0.1 x t.0.left_fit kept.1 in
    let both : bytes ≡ (to_be_bytes w16 len.0.0 ++ x.0) ++ x.1 = then_took t.0 u.0.whole ∙ sym (append_assoc (to_be_bytes w16 len.0.0) x.0 x.1) in
    (record { whole = subst (λ (n : ℕ). bytes ≡ (to_be_bytes w16 n ++ x.0) ++ x.1) (sym u.1) both; left_fit = u.0.left_fit }, omega (arith, u.1))

pub payload_again : (size : ℕ) (payload left : List ℕ) → length payload ≤ payload_limit → payload_field size (payload_bytes payload ++ left) ≡ Ok (payload, left)
unfolding payload_field
payload_again size payload left small =
    let fits : length payload < 2 ^ 16 = omega arith in
    let passes : ltb payload_limit (length payload) ≡ false = le-ltb _ _ small in
    ap (payload_field size) (append_assoc (to_be_bytes w16 (length payload)) payload left)
    ∙ rw (number_again two_bytes size (length payload) (payload ++ left) fits, passes, bytes_again size (length payload) payload left refl) refl
