-- The rows of a node, by their names
use Rattle.std.specs.Prelude.{IfOk}
use Rattle.std.specs.Global.{Vec}
use Rattle.std.proofs.Common.{◌≡◌, Result, Ok, Err, inl, inr, ℕ, suc, ◌+◌, ◌<◌, Bool, true, false, not, cond, ◌||◌, List, [], ◌∷◌, ◌++◌, length, map, take, drop, get_or, slice_get, Some, option_map, sym, refl, ap, ◌∙◌, subst, add-one, append_assoc, ltb, lt-ltb, arith}
use Rattle.std.specs.List.{list_any}
use Rattle.std.specs.Str.{bytes_eq}
use Rattle.std.proofs.lemmas.Bool.{cases_Bool, false_from_ne_true, ltb-true, true≢false}
use Rattle.std.proofs.lemmas.List.Folds.{list_any-append}
use Rattle.std.proofs.lemmas.List.{map-append}
use Rattle.std.proofs.lemmas.Option.{slice_get-get_or, slice_get_within, get_or_from_slice_get}
use Rattle.std.proofs.lemmas.Slice.Eq.{bytes_eq-Decides}
use Rattle.std.proofs.Math.Seq.{drop-cons, take-suc}
use Rattle.indexmap.specs.IndexSet.{insert_key}
use Rattle.hg_model.specs.declared.row.Row.{Row}
use Rattle.hg_model.specs.Links.{is_named, no_row, place_of}
use Rattle.hg_model.specs.Held.{is_held}
use Rattle.hg_life.specs.Spelling.{spelling}
use Rattle.hg_gossip.specs.Holding.{HaveSame, row_names, unnamed, unnamed_bytes}
use Rattle.hg_gossip.specs.Nodes.{UnnamedAreLacking}

-- the name of one row more
pub names_more : (G : List Row) (k : ℕ) (row : Row) (names more : List (List ℕ)) → slice_get G k ≡ Some row → names ≡ row_names (take k G) → more ≡ names ++ row.name ∷ [] → more ≡ row_names (take (k + 1) G)
names_more G k row names more at before grown =
    let within : k < length G = slice_get_within G k row at in
    let first : take (k + 1) G ≡ take k G ++ row ∷ [] =
    ap (λ (n : ℕ). take n G) (add-one k) ∙ (take-suc G k row within ∙ ap (λ (r : Row). take k G ++ r ∷ []) (get_or_from_slice_get G k row row at)) in
    grown ∙ (ap (λ (ns : List (List ℕ)). ns ++ row.name ∷ []) before ∙ sym (ap row_names first ∙ map-append (λ (r : Row). r.name) (take k G) (row ∷ [])))

-- a name that is there already is there once more
same_or : (keys : List (List ℕ)) (name k : List ℕ) → list_any (bytes_eq name) keys ≡ true → list_any (bytes_eq k) keys ≡ (list_any (bytes_eq k) keys || (bytes_eq k name || false))
same_or keys name k there = elim (cases_Bool (bytes_eq k name)) [
  | inl same ↦ (
      let is : k ≡ name = (bytes_eq-Decides k name).0 same in
      let found : list_any (bytes_eq k) keys ≡ true = subst (λ (n : List ℕ). list_any (bytes_eq n) keys ≡ true) (sym is) there in
      rw (found) refl)
  | inr apart ↦ rw (apart) (by (list_any (bytes_eq k) keys))
]
  where
    by : (b : Bool) → b ≡ (b || (false || false))
    by true = refl
    by false = refl

-- one more name was entered
pub entered : (keys : List (List ℕ)) (name : List ℕ) → HaveSame (insert_key bytes_eq keys name) (keys ++ name ∷ [])
entered keys name k = elim (cases_Bool (list_any (bytes_eq name) keys)) [
  | inl there ↦ rw there (same_or keys name k there ∙ sym (list_any-append (bytes_eq k) keys (name ∷ [])))
  | inr new ↦ rw new refl
]

pub same_more : (keys names more : List (List ℕ)) (name : List ℕ) → HaveSame keys names → HaveSame more (keys ++ name ∷ []) → HaveSame more (names ++ name ∷ [])
same_more keys names more name same grown k =
    grown k
    ∙ (list_any-append (bytes_eq k) keys (name ∷ [])
    ∙ (ap (λ (b : Bool). b || list_any (bytes_eq k) (name ∷ [])) (same k) ∙ sym (list_any-append (bytes_eq k) names (name ∷ []))))

-- only what the names are counts
pub unnamed_same : (names others : List (List ℕ)) (G : List Row) → HaveSame names others → unnamed names G ≡ unnamed others G
unnamed_same names others [] same = refl
unnamed_same names others (row ∷ G) same =
    ap (λ (b : Bool). cond (not b) (row ∷ unnamed names G) (unnamed names G)) (same row.name)
    ∙ ap (λ (H : List Row). cond (not (list_any (bytes_eq row.name) others)) (row ∷ H) H) (unnamed_same names others G same)

-- the bytes of one row more
bytes_at : (names : List (List ℕ)) (rows : List Row) (k : ℕ) (d : Row) → k < length rows →
    unnamed_bytes names (get_or rows k d) ++ map spelling (unnamed names (drop (k + 1) rows)) ≡ map spelling (unnamed names (drop k rows))
bytes_at names rows k d inside = rw (add-one, drop-cons rows k d inside) (one (list_any (bytes_eq (get_or rows k d).name) names) (get_or rows k d) (unnamed names (drop (suc k) rows)))
  where
    one : (b : Bool) (row : Row) (rest : List Row) → cond b [] (spelling row ∷ []) ++ map spelling rest ≡ map spelling (cond (not b) (row ∷ rest) rest)
    one true row rest = refl
    one false row rest = refl

pub bytes_more : (names : List (List ℕ)) (rows : List Row) (k : ℕ) (before after all : List (List ℕ)) → k < length rows → option_map (λ (row : Row). before ++ unnamed_bytes names row) (slice_get rows k) ≡ Some after →
    before ++ map spelling (unnamed names (drop k rows)) ≡ all → after ++ map spelling (unnamed names (drop (k + 1) rows)) ≡ all
bytes_more names rows k before after all inside grown is =
    let row : Row = get_or rows k no_row in
    let rest : List (List ℕ) = map spelling (unnamed names (drop (k + 1) rows)) in
    let some : Some (before ++ unnamed_bytes names row) ≡ Some after = sym (ap (option_map (λ (r : Row). before ++ unnamed_bytes names r)) (slice_get-get_or rows k no_row inside)) ∙ grown in
    let same : before ++ unnamed_bytes names row ≡ after = cc in
    ap (λ (xs : List (List ℕ)). xs ++ rest) (sym same)
    ∙ (append_assoc before (unnamed_bytes names row) rest
    ∙ (ap (λ (xs : List (List ℕ)). before ++ xs) (bytes_at names rows k no_row inside) ∙ is))

turned : (a b : List ℕ) → bytes_eq a b ≡ bytes_eq b a
turned a b =
    let one = bytes_eq-Decides a b in
    let other = bytes_eq-Decides b a in
    elim (cases_Bool (bytes_eq b a)) [
      | inl same ↦ one.1 (sym (other.0 same)) ∙ sym same
      | inr apart ↦ false_from_ne_true (bytes_eq a b) (λ same. true≢false (sym (other.1 (sym (one.0 same))) ∙ apart)) ∙ sym apart
    ]

below_next : (a b : ℕ) → ltb (1 + a) (suc b) ≡ ltb a b
below_next a b = elim (cases_Bool (ltb a b)) [
  | inl is ↦ (let low : a < b = ltb-true a b is in lt-ltb (1 + a) (suc b) (omega arith) ∙ sym is)
  | inr is ↦ (false_from_ne_true (ltb (1 + a) (suc b)) (λ up.
      let low : 1 + a < suc b = ltb-true (1 + a) (suc b) up in
      true≢false (sym (lt-ltb a b (omega arith)) ∙ is)) ∙ sym is)
]

-- a name is among those of rows where one of the rows has it
pub held_is : (G : List Row) (name : List ℕ) → list_any (bytes_eq name) (row_names G) ≡ is_held G name
held_is [] name = refl
held_is (row ∷ G) name = elim (cases_Bool (is_named name row)) [
  | inl here ↦ rw (turned name row.name, here) (sym (lt-ltb 0 (suc (length G)) (omega arith)))
  | inr other ↦ rw (turned name row.name, other) (held_is G name ∙ sym (below_next (place_of G name) (length G)))
]

pub unnamed_lacks : UnnamedAreLacking
unnamed_lacks G [] = refl
unnamed_lacks G (row ∷ H) =
    ap (λ (b : Bool). cond (not b) (row ∷ unnamed (row_names G) H) (unnamed (row_names G) H)) (held_is G row.name)
    ∙ ap (λ (rest : List Row). cond (not (is_held G row.name)) (row ∷ rest) rest) (unnamed_lacks G H)

-- rows outside a set of the names
pub outside_is_beyond : {E : Type 0} (keys names : List (List ℕ)) (G : List Row) (result : Result (Vec (List ℕ)) E) → HaveSame keys names →
    IfOk result (λ rows. rows.items ≡ map spelling (unnamed keys G)) → IfOk result (λ rows. rows.items ≡ map spelling (unnamed names G))
outside_is_beyond keys names G (Ok rows) same is = is ∙ ap (map spelling) (unnamed_same keys names G same)
outside_is_beyond keys names G (Err e) same is = tt
