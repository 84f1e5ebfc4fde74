-- Hashed rows in their buckets, when one more is entered
use Rattle.std.proofs.Common.{◌≡◌, ℕ, ◌+◌, ◌-◌, ◌<◌, ◌≤◌, List, [], ◌∷◌, ◌++◌, length, take, drop, get_or, replicate, slice_index, slice_set, sym, ap, ◌∙◌, subst, refl, inl, inr, arith}
use Rattle.std.proofs.lemmas.Bool.{cases_eq, cases_lt}
use Rattle.std.proofs.lemmas.List.{get_or-set_same, get_or-set_other, get_or_past, get_or-replicate, length_push, get_or_append_left, get_or_push}
use Rattle.std.proofs.Math.ListN.{get_or-map as map_read}
use Rattle.std.proofs.Math.Seq.{take-append_seam}
use Rattle.hg_graph.specs.declared.names.HashedRow.{HashedRow}
use Rattle.hg_graph.specs.Names.{AreLater, AreLinked, Enters, Hangs, HoldsIndex, IsFound, IsUnlinked, below, bucket_of, bucket_at, hashed_at, hashes_of}
use Rattle.hg_graph.proofs.WayLaws.{found_alike, found_here, found_kept, none_found, unlinked_below, ways_stay}

abbrev no_row : HashedRow
no_row = record { hash = 0; even = 0; odd = 0 }

-- where the hashes are the same, each row's is
pub hash_same : (old new : List HashedRow) → hashes_of new ≡ hashes_of old → (x : ℕ) → (hashed_at new x).hash ≡ (hashed_at old x).hash
hash_same old new same x =
    sym (map_read (λ (e : HashedRow). e.hash) new x no_row) ∙ (ap (λ (hs : List ℕ). get_or hs x 0) same ∙ map_read (λ (e : HashedRow). e.hash) old x no_row)

-- an empty bucket takes the row
pub enters_first : (heads : List ℕ) (hashed : List HashedRow) (hash number bucket : ℕ) → bucket ≡ bucket_of (length heads) hash → bucket < length heads → 0 < number →
    AreLater heads hashed (number - 1) → slice_index heads bucket ≡ 0 → Enters heads hashed hash number (slice_set heads bucket number) hashed
enters_first heads hashed hash number bucket is inside some later empty = record {
  ways = ways_stay hashed;
  later = record {
    first = λ b. elim (cases_eq b bucket) [
      | inl here ↦ (let read : slice_index (slice_set heads bucket number) b ≡ number = ap (slice_index (slice_set heads bucket number)) here ∙ get_or-set_same heads bucket number 0 inside in omega arith)
      | inr other ↦ (let read : slice_index (slice_set heads bucket number) b ≡ slice_index heads b = get_or-set_other heads bucket b number 0 other in let was = later.first b in omega arith)
    ];
    below = λ x digits. elim (later.below x digits) [ inl none ↦ inl none | inr old ↦ inr (old.0, omega (arith, old.1)) ];
  };
  found = subst (λ b. IsFound hashed (number - 1) (slice_index (slice_set heads bucket number) b) hash) is
      (subst (λ n. IsFound hashed (number - 1) n hash) (sym (get_or-set_same heads bucket number 0 inside ∙ (let same : number ≡ number - 1 + 1 = omega arith in same))) (found_here hashed (number - 1) hash));
  kept = λ b. elim (cases_eq b bucket) [
    | inl here ↦ inl (ap (slice_index heads) here ∙ empty)
    | inr other ↦ inr (get_or-set_other heads bucket b number 0 other)
  ];
}

-- any other one has it below its first
pub enters_below : (heads : List ℕ) (hashed : List HashedRow) (hash number bucket first : ℕ) (hashed' : List HashedRow) → bucket ≡ bucket_of (length heads) hash → first + 1 ≡ slice_index heads bucket →
    AreLater heads hashed (number - 1) → Hangs first hash number hashed hashed' → Enters heads hashed hash number heads hashed'
enters_below heads hashed hash number bucket first hashed' is begins later hangs = record {
  ways = hangs.ways;
  later = record { first = λ b. (let was = later.first b in omega arith); below = hangs.later };
  found = subst (λ n. IsFound hashed' (number - 1) n hash) (begins ∙ ap (slice_index heads) is) hangs.found;
  kept = λ b. inr refl;
}

-- one more of the rows is entered
pub linked_entered : (heads : List ℕ) (hashed : List HashedRow) (many hash : ℕ) (heads' : List ℕ) (hashed' : List HashedRow) → length heads' ≡ length heads → AreLinked heads hashed many →
    Enters heads hashed hash (many + 1) heads' hashed' → (hashed_at hashed' many).hash ≡ hash → AreLinked heads' hashed' (many + 1)
linked_entered heads hashed many hash heads' hashed' long linked enters last = record {
  later = enters.later;
  found = λ x low. elim (cases_lt x many) [
    | inl earlier ↦
        (let same = hash_same hashed hashed' enters.ways.hashes x in
        let bucket : bucket_at (length heads') hashed' x ≡ bucket_at (length heads) hashed x = ap (λ n. bucket_of n (hashed_at hashed' x).hash) long ∙ ap (bucket_of (length heads)) same in
        let was = found_kept hashed hashed' enters.ways x (slice_index heads (bucket_at (length heads) hashed x)) (hashed_at hashed x).hash (linked.found x earlier) in
        subst (λ b. IsFound hashed' x (slice_index heads' b) (hashed_at hashed' x).hash) (sym bucket)
        (subst (λ h. IsFound hashed' x (slice_index heads' (bucket_at (length heads) hashed x)) h) (sym same)
        (elim (enters.kept (bucket_at (length heads) hashed x)) [
          | inl none ↦ absurd (none_found hashed' x (hashed_at hashed x).hash (subst (λ n. IsFound hashed' x n (hashed_at hashed x).hash) none was))
          | inr kept ↦ subst (λ n. IsFound hashed' x n (hashed_at hashed x).hash) (sym kept) was
        ])))
    | inr here ↦
        (let is : x ≡ many = omega arith in
        subst (λ k. IsFound hashed' k (slice_index heads' (bucket_at (length heads') hashed' k)) (hashed_at hashed' k).hash) (sym is)
        (subst (λ h. IsFound hashed' many (slice_index heads' (bucket_of (length heads') h)) h) (sym last)
        (subst (λ n. IsFound hashed' many (slice_index heads' (bucket_of n hash)) hash) (sym long)
        (subst (λ k. IsFound hashed' k (slice_index heads' (bucket_of (length heads) hash)) hash) (let one : many + 1 - 1 ≡ many = omega arith in one) enters.found))))
  ];
}

-- no rows are in empty buckets
pub linked_none : (heads : List ℕ) (hashed : List HashedRow) → heads ≡ replicate (length heads) 0 → ((x : ℕ) → x < length hashed → IsUnlinked (hashed_at hashed x)) → AreLinked heads hashed 0
linked_none heads hashed empty unlinked = record {
  later = record {
    first = λ b. (let none : slice_index heads b ≡ 0 = elim (cases_lt b (length heads)) [
      | inl inside ↦ ap (λ hs. slice_index hs b) empty ∙ get_or-replicate (length heads) b 0 0 inside
      | inr past ↦ get_or_past heads b 0 past
    ] in omega arith);
    below = λ x digits. inl (elim (cases_lt x (length hashed)) [
      | inl inside ↦ unlinked_below (hashed_at hashed x) (unlinked x inside) digits
      | inr past ↦ ap (λ (r : HashedRow). below r digits) (get_or_past hashed x no_row past) ∙ unlinked_below no_row (record { even = refl; odd = refl }) digits
    ]);
  };
  found = λ x low. absurd (omega arith);
}

-- a row that stands above none, at the end
module _ (hashed : List HashedRow) (row : HashedRow) (none : IsUnlinked row) where
  past_below : (x digits : ℕ) → length hashed ≤ x → below (hashed_at hashed x) digits ≡ 0
  past_below x digits past = ap (λ (r : HashedRow). below r digits) (get_or_past hashed x no_row past) ∙ unlinked_below no_row (record { even = refl; odd = refl }) digits

  pub behind_below : (x digits : ℕ) → below (hashed_at (hashed ++ row ∷ []) x) digits ≡ below (hashed_at hashed x) digits
  behind_below x digits = elim (cases_lt x (length hashed)) [
    | inl inside ↦ ap (λ (r : HashedRow). below r digits) (get_or_append_left hashed (row ∷ []) no_row x inside)
    | inr past ↦ elim (cases_eq x (length hashed)) [
      | inl here ↦ ap (λ (r : HashedRow). below r digits) (get_or_push hashed row no_row x (sym here)) ∙ (unlinked_below row none digits ∙ sym (past_below x digits past))
      | inr other ↦ ap (λ (r : HashedRow). below r digits) (get_or_past (hashed ++ row ∷ []) x no_row (omega (arith, length_push hashed row)))
          ∙ (unlinked_below no_row (record { even = refl; odd = refl }) digits ∙ sym (past_below x digits past))
    ]
  ]

  pub linked_behind : (heads : List ℕ) → AreLinked heads hashed (length hashed) → AreLinked heads (hashed ++ row ∷ []) (length hashed)
  linked_behind heads linked = record {
    later = record {
      first = linked.later.first;
      below = λ x digits. (let same = behind_below x digits in elim (linked.later.below x digits) [ inl none ↦ inl (same ∙ none) | inr old ↦ inr (omega (arith, same, old.0), omega (arith, same, old.1)) ]);
    };
    found = λ x low.
        let is : hashed_at (hashed ++ row ∷ []) x ≡ hashed_at hashed x = get_or_append_left hashed (row ∷ []) no_row x low in
        subst (λ (r : HashedRow). IsFound (hashed ++ row ∷ []) x (slice_index heads (bucket_of (length heads) r.hash)) r.hash) (sym is)
        (found_alike hashed (hashed ++ row ∷ []) behind_below x (slice_index heads (bucket_at (length heads) hashed x)) (hashed_at hashed x).hash (linked.found x low));
  }

-- a hashed row at the end, once it is entered
pub index_pushed : (heads : List ℕ) (hashed : List HashedRow) (hash : ℕ) (heads' : List ℕ) (hashed' : List HashedRow) → length hashed < length heads → length heads' ≡ length heads →
    HoldsIndex heads hashed → Enters heads (hashed ++ record { hash = hash; even = 0; odd = 0 } ∷ []) hash (length hashed + 1) heads' hashed' → HoldsIndex heads' hashed'
index_pushed heads hashed hash heads' hashed' room long holds enters =
    let row : HashedRow = record { hash = hash; even = 0; odd = 0 } in
    let longer : length hashed' ≡ length hashed + 1 = enters.ways.long ∙ length_push hashed row in
    let low = holds.low in
    let last = hash_same (hashed ++ row ∷ []) hashed' enters.ways.hashes (length hashed) ∙ ap (λ (r : HashedRow). r.hash) (get_or_push hashed row no_row (length hashed) refl) in
    record {
      linked = subst (AreLinked heads' hashed') (sym longer)
          (linked_entered heads (hashed ++ row ∷ []) (length hashed) hash heads' hashed' long (linked_behind hashed row (record { even = refl; odd = refl }) heads holds.linked) enters last);
      few = omega arith;
      low = omega arith;
    }

-- all of a list that is written over another of no more items
pub written_all : {T : Type 0} (many : ℕ) (xs ys : List T) → length xs ≡ many → take many (xs ++ drop (length xs) ys) ≡ xs
written_all many xs ys long = ap (λ n. take n (xs ++ drop (length xs) ys)) (sym long) ∙ take-append_seam xs (drop (length xs) ys)
