-- How many bytes an event has at least, as its first ones tell
use Rattle.std.proofs.Common.{◌≡◌, ℕ, ◌+◌, ◌*◌, ◌^◌, ◌<◌, ◌≤◌, eqb, List, [], ◌∷◌, ◌++◌, length, drop, Some, None, refl, sym, ap, ◌∙◌, append_assoc, arith, inl, inr}
use Rattle.std.specs.Prelude.{IfSome, nat_le, nat_lt}
use Rattle.std.specs.List.{AllByRecursion, concat}
use Rattle.std.specs.Int.{w16, w64, from_be_bytes, to_be_bytes}
use Rattle.std.proofs.lemmas.Bool.{and_parts, cases_Bool, eqb-true, ltb-true}
use Rattle.std.proofs.lemmas.List.{length-append}
use Rattle.std.proofs.lemmas.Nat.{from_be_bytes-to_be_bytes_2}
use Rattle.hg_model.specs.declared.row.Row.{Row}
use Rattle.hg_model.specs.Links.{ParentNames}
use Rattle.hg_life.specs.Spelling.{AreNames, Spells, body_of, form_bytes, others_of, parent_bytes, spelling}
use Rattle.hg_event.specs.First.{least_size}
use Rattle.hg_event.proofs.FrontSizes.{spelling_size}
use Rattle.hg_wire.specs.Sizes.{least_behind, least_told, parents_size, payload_told}

pub same_head : (x y : ℕ) (a b : List ℕ) → x ∷ a ≡ y ∷ b → x ≡ y
same_head x y a b e = cc

same_tail : (x y : ℕ) (a b : List ℕ) → x ∷ a ≡ y ∷ b → a ≡ b
same_tail x y a b e = cc

-- the length that two bytes tell, where some of them are there
told_first : (front more rest : List ℕ) (high low : ℕ) → front ++ more ≡ high ∷ low ∷ rest → payload_told front ≤ from_be_bytes w16 (high ∷ low ∷ [])
told_first [] more rest high low e = omega arith
told_first (x ∷ []) more rest high low e = omega arith
told_first (x ∷ y ∷ front) more rest high low e =
    let first : x ≡ high = same_head x high (y ∷ (front ++ more)) (low ∷ rest) e in
    let second : y ≡ low = same_head y low (front ++ more) rest (same_tail x high (y ∷ (front ++ more)) (low ∷ rest) e) in
    let same : from_be_bytes w16 (x ∷ y ∷ []) ≡ from_be_bytes w16 (high ∷ low ∷ []) = ap (λ (x : ℕ). from_be_bytes w16 (x ∷ y ∷ [])) first ∙ ap (λ (y : ℕ). from_be_bytes w16 (high ∷ y ∷ [])) second in
    omega (arith, same)

-- the same behind others
told_behind : (before front more rest : List ℕ) (high low : ℕ) → front ++ more ≡ before ++ (high ∷ low ∷ rest) → payload_told (drop (length before) front) ≤ from_be_bytes w16 (high ∷ low ∷ [])
told_behind [] front more rest high low e = told_first front more rest high low e
told_behind (x ∷ before) [] more rest high low e = omega arith
told_behind (x ∷ before) (y ∷ front) more rest high low e =
    told_behind before front more rest high low (same_tail y x (front ++ more) (before ++ (high ∷ low ∷ rest)) e)

regrouped : (a b c d e f g h : List ℕ) → ((a ++ (b ++ (c ++ (d ++ (e ++ f))))) ++ g) ++ h ≡ a ++ (b ++ (c ++ (d ++ (e ++ (f ++ (g ++ h))))))
regrouped a b c d e f g h = simp append_assoc

names_len : (names : List (List ℕ)) → AllByRecursion (λ name. length name ≡ 48) names → length (concat names) ≡ 48 * length names
names_len [] are = refl
names_len (name ∷ names) are = omega (arith, length-append name (concat names), are.0, names_len names are.1)

some_size : (k : ℕ) → 0 < k → parents_size k ≡ 48 + 48 * k
some_size k some = elim (cases_Bool (eqb k 0)) [
  | inl is ↦ (let none : k ≡ 0 = eqb-true k 0 is in absurd (omega (arith, none, some)))
  | inr isnt ↦ rw isnt (omega arith)
]

some_others : (names : List ℕ × List (List ℕ)) → AreNames names → 0 < length names.1
some_others names are = ltb-true 0 (length names.1) (and_parts (nat_lt 0 (length names.1)) (nat_le (length names.1) 4) are.few).0

parents_len : (parents : ParentNames) → IfSome parents AreNames → length (parent_bytes parents) ≡ 1 + parents_size (others_of parents)
parents_len None are = refl
parents_len (Some names) are =
    omega (arith, length-append names.0 (concat names.1), are.first, names_len names.1 are.others, some_size (length names.1) (some_others names are))

-- behind the creator
behind_told : (parents : ParentNames) (time front more rest : List ℕ) (high low : ℕ) → IfSome parents AreNames → length time ≡ 8 → front ++ more ≡ parent_bytes parents ++ (time ++ (high ∷ low ∷ rest))
    → least_behind front ≤ least_size + parents_size (others_of parents) + from_be_bytes w16 (high ∷ low ∷ [])
behind_told parents time [] more rest high low are eight e = omega arith
behind_told None time (kind ∷ front) more rest high low are eight e =
    let none : kind ≡ 0 = same_head kind 0 (front ++ more) (time ++ (high ∷ low ∷ rest)) e in
    let told = told_behind time front more rest high low (same_tail kind 0 (front ++ more) (time ++ (high ∷ low ∷ rest)) e) in
    let same : least_behind (kind ∷ front) ≡ least_size + 0 + payload_told (drop (length time) front) =
    ap (λ (k : ℕ). least_size + parents_size k + payload_told (drop (parents_size k + 8) front)) none ∙ ap (λ (n : ℕ). least_size + 0 + payload_told (drop n front)) (sym eight) in
    omega (arith, told, same)
behind_told (Some names) time (kind ∷ front) more rest high low are eight e =
    let all = names.0 ++ concat names.1 in
    let k = length names.1 in
    let is : kind ≡ k = same_head kind k (front ++ more) (all ++ (time ++ (high ∷ low ∷ rest))) e in
    let text : front ++ more ≡ (all ++ time) ++ (high ∷ low ∷ rest) =
    same_tail kind k (front ++ more) (all ++ (time ++ (high ∷ low ∷ rest))) e ∙ sym (append_assoc all time (high ∷ low ∷ rest)) in
    let told = told_behind (all ++ time) front more rest high low text in
    let size : parents_size k + 8 ≡ length (all ++ time) =
    omega (arith, eight, length-append all time, length-append names.0 (concat names.1), are.first, names_len names.1 are.others, some_size k (some_others names are)) in
    let same : least_behind (kind ∷ front) ≡ least_size + parents_size k + payload_told (drop (length (all ++ time)) front) =
    ap (λ (k : ℕ). least_size + parents_size k + payload_told (drop (parents_size k + 8) front)) is ∙ ap (λ (n : ℕ). least_size + parents_size k + payload_told (drop n front)) size in
    omega (arith, told, same)

-- an event is no shorter than its first bytes tell
pub told_least : (text rest front more : List ℕ) (row : Row) → Spells text row → front ++ more ≡ text ++ rest → least_told front ≤ length text
unfolding spelling body_of
told_least text rest (a ∷ b ∷ c ∷ d ∷ f ∷ g ∷ front) more row spells e =
    let has = spells.sized in
    let creator = to_be_bytes w16 row.creator in
    let parents = parent_bytes row.parents in
    let time = to_be_bytes w64 row.time in
    let len = to_be_bytes w16 (length row.payload) in
    let fields : (a ∷ b ∷ c ∷ d ∷ f ∷ g ∷ front) ++ more ≡ form_bytes row.parents ++ (creator ++ (parents ++ (time ++ (len ++ (row.payload ++ (row.sig ++ rest)))))) =
    e ∙ ap (λ (t : List ℕ). t ++ rest) spells.spelled ∙ regrouped (form_bytes row.parents) creator parents time len row.payload row.sig rest in
    let fits : length row.payload < 2 ^ 16 = omega (arith, has.payload) in
    let eight : length (to_be_bytes w64 row.time) ≡ 8 = refl in
    let two : length (to_be_bytes w16 (length row.payload)) ≡ 2 = refl in
    let also_two : length (to_be_bytes w16 row.creator) ≡ 2 = refl in
    let four : length (form_bytes row.parents) ≡ 4 = refl in
    let told = behind_told row.parents time front more (row.payload ++ (row.sig ++ rest)) _ _ has.parents eight (ap (drop 6) fields) in
    let size : length text ≡ 4 + (2 + (length parents + (8 + (2 + length row.payload)))) + 64 =
    ap length spells.spelled
    ∙ omega (
      arith,
      has.sig,
      eight,
      two,
      also_two,
      four,
      length-append (form_bytes row.parents ++ (creator ++ (parents ++ (time ++ (len ++ row.payload))))) row.sig,
      length-append (form_bytes row.parents) (creator ++ (parents ++ (time ++ (len ++ row.payload)))),
      length-append creator (parents ++ (time ++ (len ++ row.payload))),
      length-append parents (time ++ (len ++ row.payload)),
      length-append time (len ++ row.payload),
      length-append len row.payload,
    ) in
    omega (arith, told, size, parents_len row.parents has.parents, from_be_bytes-to_be_bytes_2 (length row.payload) fits)
told_least text rest [] more row spells e = (spelling_size text row spells).0
told_least text rest (a ∷ []) more row spells e = (spelling_size text row spells).0
told_least text rest (a ∷ b ∷ []) more row spells e = (spelling_size text row spells).0
told_least text rest (a ∷ b ∷ c ∷ []) more row spells e = (spelling_size text row spells).0
told_least text rest (a ∷ b ∷ c ∷ d ∷ []) more row spells e = (spelling_size text row spells).0
told_least text rest (a ∷ b ∷ c ∷ d ∷ f ∷ []) more row spells e = (spelling_size text row spells).0
