-- Tails: what is read of them, one more, and the first ones
use Rattle.std.proofs.Common.{◌≡◌, ℕ, suc, zero, ◌+◌, ◌-◌, ◌<◌, ◌≤◌, cond, min, List, [], ◌∷◌, ◌++◌, length, get_or, take, drop, sym, ap, ◌∙◌, inl, inr, arith, refl, slice_range}
use Rattle.std.proofs.Math.Seq.{drop-append_seam, take-length}
use Rattle.std.proofs.lemmas.Bool.{cases_lt, lt-ltb, le-ltb}
use Rattle.std.proofs.lemmas.List.{get_or_append_left, get_or_push, length_push, take-append-le, take-append-drop, drop-append-le, length-append, length-drop, length-take-le, get_or-take}
use Rattle.hg_branches.specs.declared.tails.Part.{Part}
use Rattle.hg_branches.specs.Tails.{Tail, no_part, no_tail, part_at, end_before, tail_of, tails_of, tail_at, KeepsParts}
use Rattle.hg_model.specs.Places.{table}
use Rattle.hg_branches.proofs.TableLaws.{get_or-table, length-table, table_grown, table_cut}

module _ (numbers : List ℕ) (parts : List Part) (before : ℕ) where
  pub tails_many : length (tails_of numbers parts before) ≡ before + length parts
  tails_many = length-table (λ x. tail_of numbers (part_at parts before x)) (before + length parts)

  pub tail_known : (x : ℕ) → x < before + length parts → tail_at (tails_of numbers parts before) x ≡ tail_of numbers (part_at parts before x)
  tail_known x h = get_or-table (λ x. tail_of numbers (part_at parts before x)) (before + length parts) x no_tail h

  pub part_before : (x : ℕ) → x < before → part_at parts before x ≡ no_part
  part_before x h = ap (λ b. cond b no_part (get_or parts (x - before) no_part)) (lt-ltb x before h)

  pub part_after : (x : ℕ) → before ≤ x → part_at parts before x ≡ get_or parts (x - before) no_part
  part_after x h = ap (λ b. cond b no_part (get_or parts (x - before) no_part)) (le-ltb x before h)

  -- each part is one of the numbers
  pub part_start : KeepsParts numbers parts → (x : ℕ) → x < before + length parts → (part_at parts before x).start ≤ (part_at parts before x).end
  part_start keeps x h = elim (cases_lt x before) [
    | inl low ↦ (let is = part_before x low in rw is (omega arith))
    | inr past ↦ (let is = part_after x past in rw is (keeps.start (x - before) (omega arith)))
  ]

  pub part_end : KeepsParts numbers parts → (x : ℕ) → x < before + length parts → (part_at parts before x).end ≤ length numbers
  part_end keeps x h = elim (cases_lt x before) [
    | inl low ↦ (let is = part_before x low in rw is (omega arith))
    | inr past ↦ (let is = part_after x past in rw is (keeps.end (x - before) (omega arith)))
  ]

pub ruleset tail_reads = (tails_many, tail_known, part_start, part_end)

-- the part of a longer list
range_left : (xs ys : List ℕ) (a b : ℕ) → a ≤ b → b ≤ length xs → slice_range (xs ++ ys) a b ≡ slice_range xs a b
range_left xs ys a b h inside =
    ap (take (b - a)) (drop-append-le a xs ys (omega arith)) ∙ take-append-le (b - a) (drop a xs) ys (omega (arith, length-drop a xs))

-- the part behind the first list
range_right : (xs ys : List ℕ) (a b : ℕ) → a ≡ length xs → b ≡ length xs + length ys → slice_range (xs ++ ys) a b ≡ ys
range_right xs ys a b h k =
    let long : b - a ≡ length ys = omega arith in
    ap (λ i. take (b - a) (drop i (xs ++ ys))) h ∙ (ap (take (b - a)) (drop-append_seam xs ys) ∙ (ap (λ i. take i ys) long ∙ take-length ys))

-- the part of the first numbers
range_cut : (xs : List ℕ) (e a b : ℕ) → e ≤ length xs → a ≤ b → b ≤ e → slice_range (take e xs) a b ≡ slice_range xs a b
range_cut xs e a b inside h below =
    sym (range_left (take e xs) (drop e xs) a b h (omega (arith, length-take-le e xs inside))) ∙ ap (λ l. slice_range l a b) (take-append-drop e xs)

tail_same : (xs ys : List ℕ) (p q : Part) → q ≡ p → slice_range ys p.start p.end ≡ slice_range xs p.start p.end → tail_of ys q ≡ tail_of xs p
tail_same xs ys p q is same = ap (tail_of ys) is ∙ ap (λ l. record { own = p.own; numbers = l }) same

pub no_items : (xs : List ℕ) → length xs ≡ 0 → xs ≡ []
no_items [] h = refl
no_items (x ∷ xs) h = absurd (omega arith)

-- one row more, without numbers, where none has any
pub tails_plain : (numbers : List ℕ) (parts : List Part) (before : ℕ) → length parts ≡ 0 →
    tails_of numbers parts (before + 1) ≡ tails_of numbers parts before ++ no_tail ∷ []
tails_plain numbers parts before none =
    let old : ℕ → Tail = λ x. tail_of numbers (part_at parts before x) in
    let new : ℕ → Tail = λ x. tail_of numbers (part_at parts (before + 1) x) in
    let plain : (b x : ℕ) → x < b → tail_of numbers (part_at parts b x) ≡ no_tail = λ b x h. ap (tail_of numbers) (part_before numbers parts b x h) in
    let many : before + 1 + length parts ≡ before + length parts + 1 = omega arith in
    ap (table new) many
    ∙ (table_grown no_tail old new (before + length parts) (λ i h. plain (before + 1) i (omega arith) ∙ sym (plain before i (omega arith)))
    ∙ ap (λ t. tails_of numbers parts before ++ t ∷ []) (plain (before + 1) (before + length parts) (omega arith)))

module _ (numbers more : List ℕ) (parts : List Part) (before own : ℕ) (keeps : KeepsParts numbers parts) where
  abbrev part_new : ℕ → ℕ → Part
  part_new start end = record { start = start; end = end; own = own }

  -- one row more
  pub tails_more : (start end : ℕ) → start ≡ length numbers → end ≡ length (numbers ++ more) →
      tails_of (numbers ++ more) (parts ++ part_new start end ∷ []) before ≡ tails_of numbers parts before ++ record { own = own; numbers = more } ∷ []
  tails_more start end is_start is_end =
      let n : ℕ = before + length parts in
      let p : Part = part_new start end in
      let old : ℕ → Tail = λ x. tail_of numbers (part_at parts before x) in
      let new : ℕ → Tail = λ x. tail_of (numbers ++ more) (part_at (parts ++ p ∷ []) before x) in
      let many : before + length (parts ++ p ∷ []) ≡ n + 1 = omega (arith, length_push parts p) in
      let earlier : (x : ℕ) → x < n → part_at (parts ++ p ∷ []) before x ≡ part_at parts before x =
      λ x h. elim (cases_lt x before) [
        | inl low ↦ part_before numbers (parts ++ p ∷ []) before x low ∙ sym (part_before numbers parts before x low)
        | inr past ↦
            (let inside : x - before < length parts = omega arith in
            part_after numbers (parts ++ p ∷ []) before x past ∙ (get_or_append_left parts (p ∷ []) no_part (x - before) inside ∙ sym (part_after numbers parts before x past)))
      ] in
      let last : part_at (parts ++ p ∷ []) before n ≡ p =
      part_after numbers (parts ++ p ∷ []) before n (omega arith) ∙ get_or_push parts p no_part (n - before) (omega arith) in
      ap (table new) many
      ∙ (table_grown no_tail old new n (λ x h. tail_same numbers (numbers ++ more) (part_at parts before x) (part_at (parts ++ p ∷ []) before x) (earlier x h)
      (range_left numbers more (part_at parts before x).start (part_at parts before x).end (part_start numbers parts before keeps x h) (part_end numbers parts before keeps x h)))
      ∙ ap (λ t. tails_of numbers parts before ++ t ∷ []) (ap (tail_of (numbers ++ more)) last
      ∙ ap (λ l. record { own = own; numbers = l }) (range_right numbers more start end is_start (omega (arith, length-append numbers more)))))

  pub parts_more : (start end : ℕ) → start ≡ length numbers → end ≡ length (numbers ++ more) → KeepsParts (numbers ++ more) (parts ++ part_new start end ∷ [])
  parts_more start end is_start is_end =
      let p : Part = part_new start end in
      let long = length_push parts p in
      let longer = length-append numbers more in
      let earlier : (i : ℕ) → i < length parts → get_or (parts ++ p ∷ []) i no_part ≡ get_or parts i no_part = λ i h. get_or_append_left parts (p ∷ []) no_part i h in
      let last : (i : ℕ) → length parts ≡ i → get_or (parts ++ p ∷ []) i no_part ≡ p = λ i h. get_or_push parts p no_part i h in
      record {
        start = λ i h. elim (cases_lt i (length parts)) [
          | inl low ↦ (let is = earlier i low in rw is (keeps.start i low))
          | inr past ↦ (let is = last i (omega arith) in rw is (omega arith))
        ];
        end = λ i h. elim (cases_lt i (length parts)) [
          | inl low ↦ (let is = earlier i low in let was = keeps.end i low in rw is (omega arith))
          | inr past ↦ (let is = last i (omega arith) in rw is (omega arith))
        ];
        ordered = λ i j h k. elim (cases_lt j (length parts)) [
          | inl low ↦ (let one = earlier i (omega arith) in let other = earlier j low in rw (one, other) (keeps.ordered i j h low))
          | inr past ↦ (let other = last j (omega arith) in elim (cases_lt i (length parts)) [
            | inl before_it ↦ (let one = earlier i before_it in let was = keeps.end i before_it in rw (one, other) (omega arith))
            | inr past_too ↦ (let one = last i (omega arith) in rw (one, other) (omega arith))
          ])
        ];
      }

-- where the first parts end

end_holds : (numbers : List ℕ) (parts : List Part) → KeepsParts numbers parts → (many : ℕ) → many ≤ length parts → end_before parts many ≤ length numbers
end_holds numbers parts keeps zero h = omega arith
end_holds numbers parts keeps (suc i) h = keeps.end i (omega arith)

end_last : (numbers : List ℕ) (parts : List Part) → KeepsParts numbers parts → (many : ℕ) → many ≤ length parts → (i : ℕ) → i < many → (get_or parts i no_part).end ≤ end_before parts many
end_last numbers parts keeps zero h i low = absurd (omega arith)
end_last numbers parts keeps (suc k) h i low = keeps.ordered i k (omega arith) (omega arith)

-- the first rows
module _ (numbers : List ℕ) (parts : List Part) (before : ℕ) (keeps : KeepsParts numbers parts) (len first many end : ℕ) (inside : len ≤ before + length parts)
    (is_first : first ≡ min before len) (is_many : many ≡ len - first) (is_end : end ≡ end_before parts many) where
  within : many ≤ length parts
  within = omega arith

  pub end_within : end ≤ length numbers
  end_within = (let low = end_holds numbers parts keeps many within in omega arith)

  ends : (i : ℕ) → i < many → (get_or parts i no_part).end ≤ end
  ends i h = (let low = end_last numbers parts keeps many within i h in omega arith)

  pub tails_cut : tails_of (take end numbers) (take many parts) first ≡ take len (tails_of numbers parts before)
  tails_cut =
      let old : ℕ → Tail = λ x. tail_of numbers (part_at parts before x) in
      let new : ℕ → Tail = λ x. tail_of (take end numbers) (part_at (take many parts) first x) in
      let long : length (take many parts) ≡ many = length-take-le many parts (omega arith) in
      let is_len : first + length (take many parts) ≡ len = omega arith in
      ap (table new) is_len ∙ table_cut no_tail old new (before + length parts) len inside
      (λ x h. elim (cases_lt x before) [
        | inl low ↦
            (let here : x < first = omega arith in
            ap (tail_of (take end numbers)) (part_before numbers (take many parts) first x here) ∙ sym (ap (tail_of numbers) (part_before numbers parts before x low)))
        | inr past ↦
            (let same : first ≡ before = omega arith in
            let at : x - first < many = omega arith in
            let read : part_at (take many parts) first x ≡ part_at parts before x =
            part_after numbers (take many parts) first x (omega arith) ∙ (get_or-take many parts (x - first) no_part at ∙ (ap (λ b. get_or parts (x - b) no_part) same ∙ sym (part_after numbers parts before x past))) in
            let is : part_at parts before x ≡ get_or parts (x - first) no_part = part_after numbers parts before x past ∙ ap (λ b. get_or parts (x - b) no_part) (sym same) in
            let low : (part_at parts before x).end ≤ end = (rw is (ends (x - first) at)) in
            tail_same numbers (take end numbers) (part_at parts before x) (part_at (take many parts) first x) read
            (range_cut numbers end (part_at parts before x).start (part_at parts before x).end end_within (part_start numbers parts before keeps x (omega arith)) low))
      ])

  pub parts_cut : KeepsParts (take end numbers) (take many parts)
  parts_cut =
      let long : length (take many parts) ≡ many = length-take-le many parts (omega arith) in
      let holds_now : length (take end numbers) ≡ end = length-take-le end numbers end_within in
      let read : (i : ℕ) → i < many → get_or (take many parts) i no_part ≡ get_or parts i no_part = λ i h. get_or-take many parts i no_part h in
      record {
        start = λ i h. (let low : i < many = omega arith in let is = read i low in rw is (keeps.start i (omega arith)));
        end = λ i h. (let low : i < many = omega arith in let is = read i low in let was = ends i low in rw (is, holds_now) was);
        ordered = λ i j h k. (let low : j < many = omega arith in let one = read i (omega arith) in let other = read j low in rw (one, other) (keeps.ordered i j h (omega arith)));
      }

pub parts_none : (numbers : List ℕ) → KeepsParts numbers []
parts_none numbers = record { start = λ i h. absurd (omega arith); end = λ i h. absurd (omega arith); ordered = λ i j h k. absurd (omega arith) }
