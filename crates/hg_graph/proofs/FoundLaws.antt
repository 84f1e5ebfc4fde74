-- Rows of an index, looked for by a name down its bucket
use Rattle.std.proofs.Common.{◌≡◌, ◌≢◌, ℕ, ◌<◌, false, None, List, [], ◌∷◌, ◌++◌, length, get_or, slice_index, sym, ap, ◌∙◌, subst, refl, arith}
use Rattle.std.specs.Prelude.{nat_lt}
use Rattle.std.proofs.lemmas.Bool.{le-ltb, false_from_ne_true}
use Rattle.std.proofs.lemmas.List.Sums.{position_or_len_is}
use Rattle.std.proofs.lemmas.List.{length-map, map-append, get_or-map}
use Rattle.std.proofs.Math.ListN.{get_or-map as map_read}
use Rattle.hg_model.specs.declared.row.Row.{Row}
use Rattle.hg_model.specs.Links.{is_named, place_of, no_row}
use Rattle.hg_model.specs.Graph.{name_at}
use Rattle.hg_model.proofs.NameLaws.{bytes_same, distinct-push, name-at}
use Rattle.hg_graph.specs.declared.names.HashedRow.{HashedRow}
use Rattle.hg_graph.specs.Names.{AreLinked, HoldsNames, IsFound, bucket_of, hashed_at, hash_of, hashes_of, row_hash}
use Rattle.hg_graph.specs.RowsWithRoom.{found_place}

-- one more row, with a name that no other has
pub names_pushed : (G : List Row) (hashes : List ℕ) (row : Row) → HoldsNames G hashes → place_of G row.name ≡ length G → HoldsNames (G ++ row ∷ []) (hashes ++ hash_of row.name ∷ [])
names_pushed G hashes row names new = record {
  same = ap (λ (hs : List ℕ). hs ++ hash_of row.name ∷ []) names.same ∙ sym (map-append row_hash G (row ∷ []));
  distinct = distinct-push G row names.distinct (omega arith);
}

module _ (G : List Row) (hashed : List HashedRow) (names : HoldsNames G (hashes_of hashed)) where
  pub many_rows : length hashed ≡ length G
  many_rows = sym (length-map hashed (λ (e : HashedRow). e.hash)) ∙ (ap length names.same ∙ length-map G row_hash)

  hash_at : (x : ℕ) → x < length G → (hashed_at hashed x).hash ≡ hash_of (name_at G x)
  hash_at x low =
      sym (map_read (λ (e : HashedRow). e.hash) hashed x (record { hash = 0; even = 0; odd = 0 }))
      ∙ (ap (λ (hs : List ℕ). get_or hs x 0) names.same ∙ (get_or-map row_hash G x no_row 0 low ∙ ap hash_of (sym (name-at G x low))))

  -- a row of this name is found in the bucket of its hash
  pub found_first : (heads : List ℕ) → AreLinked heads hashed (length hashed) → (name : List ℕ) (x : ℕ) → x < length G → name_at G x ≡ name →
      IsFound hashed x (slice_index heads (bucket_of (length heads) (hash_of name))) (hash_of name)
  found_first heads linked name x low is =
      subst (λ h. IsFound hashed x (slice_index heads (bucket_of (length heads) h)) h) (hash_at x low ∙ ap hash_of is) (linked.found x (omega (arith, many_rows)))

  -- another hash is that of another name
  pub other_hash : (x : ℕ) (name : List ℕ) → x < length G → (hashed_at hashed x).hash ≢ hash_of name → name_at G x ≢ name
  other_hash x name low other is = other (hash_at x low ∙ ap hash_of is)

-- where no row has the name, none is found
pub found_none : (G : List Row) (name : List ℕ) → ((x : ℕ) → x < length G → name_at G x ≢ name) → found_place G name ≡ None
found_none G name none =
    let place : place_of G name ≡ length G = position_or_len_is (is_named name) G (length G) no_row (omega arith)
    (λ k low. false_from_ne_true (is_named name (get_or G k no_row)) (λ same. none k low (name-at G k low ∙ bytes_same (get_or G k no_row).name name same)))
    (λ low. absurd (omega arith)) in
    let past : nat_lt (length G) (length G) ≡ false = le-ltb (length G) (length G) (omega arith) in
    rw (place, past) refl
