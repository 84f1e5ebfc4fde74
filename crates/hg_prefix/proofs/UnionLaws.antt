-- What is joined of two graphs is their union
use Rattle.std.proofs.Common.{◌≡◌, inl, inr, ℕ, ◌+◌, zero, suc, ◌<◌, ◌≤◌, Bool, true, false, not, cond, ◌||◌, List, [], ◌∷◌, ◌++◌, length, take, get_or, sym, refl, ap, ◌∙◌, subst, append_assoc, append-nil, ltb, lt-ltb, arith}
use Rattle.std.specs.List.{filter, list_any}
use Rattle.std.proofs.lemmas.Bool.{cases_Bool, false_from_ne_true, ltb-true, true≢false}
use Rattle.std.proofs.lemmas.List.Elements.{filter-append}
use Rattle.std.proofs.lemmas.List.Folds.{list_any-append}
use Rattle.std.proofs.Math.Seq.{take-suc, take-length}
use Rattle.hg_model.specs.declared.row.Row.{Row}
use Rattle.hg_model.specs.Stakes.{Stakes}
use Rattle.hg_model.specs.Links.{is_named, place_of}
use Rattle.hg_model.specs.Graph.{HasDistinctNames, IsGraph}
use Rattle.hg_model.specs.Held.{is_held, lacking}
use Rattle.hg_model.proofs.NameLaws.{bytes_same, name-at}
use Rattle.hg_model.proofs.PushLaws.{nobody}
use Rattle.hg_prefix.specs.Chains.{HaveEqualRows, union}
use Rattle.hg_prefix.proofs.JoinLaws.{joined, IsJoined, joined_whole}

below_next : (a b : ℕ) → ltb (1 + a) (suc b) ≡ ltb a b
below_next a b = elim (cases_Bool (ltb a b)) [
  | inl is ↦ (let low : a < b = ltb-true a b is in lt-ltb (1 + a) (suc b) (omega arith) ∙ sym is)
  | inr is ↦ (false_from_ne_true (ltb (1 + a) (suc b)) (λ up.
      let low : 1 + a < suc b = ltb-true (1 + a) (suc b) up in
      true≢false (sym (lt-ltb a b (omega arith)) ∙ is)) ∙ sym is)
]

-- rows have a name where some row has it
held_by_some : (name : List ℕ) (G : List Row) → is_held G name ≡ list_any (is_named name) G
held_by_some name [] = refl
held_by_some name (row ∷ G) = elim (cases_Bool (is_named name row)) [
  | inl here ↦ rw here (lt-ltb 0 (suc (length G)) (omega arith))
  | inr other ↦ rw other (below_next (place_of G name) (length G) ∙ held_by_some name G)
]

or_false : (a b : Bool) → b ≡ false → (a || b) ≡ a
or_false true b is = refl
or_false false b is = is

-- what fails at each of the first rows fails at those of them that are kept
module _ (keeps : Row → Bool) (H : List Row) (distinct : HasDistinctNames H) (k : ℕ) (inside : k < length H) where
  abbrev has_name : Row → Bool
  has_name = is_named (get_or H k nobody).name

  kept_one : (row : Row) → has_name row ≡ false → list_any has_name (filter keeps (row ∷ [])) ≡ false
  kept_one row other = elim (cases_Bool (keeps row)) [
    | inl is ↦ rw is (rw other refl)
    | inr is ↦ rw is refl
  ]

  other_name : (j : ℕ) → j < k → has_name (get_or H j nobody) ≡ false
  other_name j low = false_from_ne_true (has_name (get_or H j nobody)) (λ same.
      let inside_j : j < length H = omega arith in
      let names = bytes_same (get_or H j nobody).name (get_or H k nobody).name same in
      let places = distinct.one j k inside_j inside (name-at H j inside_j ∙ (names ∙ sym (name-at H k inside))) in
      absurd (omega arith))

  pub new_name : (j : ℕ) → j ≤ k → list_any has_name (filter keeps (take j H)) ≡ false
  new_name zero le = refl
  new_name (suc j) le =
      let row : Row = get_or H j nobody in
      ap (λ (rows : List Row). list_any has_name (filter keeps rows)) (take-suc H j nobody (omega arith))
      ∙ (ap (list_any has_name) (filter-append keeps (take j H) (row ∷ []))
      ∙ (list_any-append has_name (filter keeps (take j H)) (filter keeps (row ∷ []))
      ∙ (or_false (list_any has_name (filter keeps (take j H))) (list_any has_name (filter keeps (row ∷ []))) (kept_one row (other_name j (omega arith)))
      ∙ new_name j (omega arith))))

one_more : (G more : List Row) (row : Row) (held : Bool) → cond held (G ++ more) ((G ++ more) ++ row ∷ []) ≡ G ++ (more ++ cond (not held) (row ∷ []) [])
one_more G more row true = ap (λ (rows : List Row). G ++ rows) (sym (append-nil more))
one_more G more row false = append_assoc G more (row ∷ [])

module _ (G H : List Row) (distinct : HasDistinctNames H) where
  abbrev lacked : ℕ → List Row
  lacked k = lacking G (take k H)

  same_held : (k : ℕ) → k < length H → is_held (G ++ lacked k) (get_or H k nobody).name ≡ is_held G (get_or H k nobody).name
  same_held k inside =
      let name : List ℕ = (get_or H k nobody).name in
      held_by_some name (G ++ lacked k)
      ∙ (list_any-append (is_named name) G (lacked k)
      ∙ (or_false (list_any (is_named name) G) (list_any (is_named name) (lacked k)) (new_name (λ row. not (is_held G row.name)) H distinct k inside k (omega arith))
      ∙ sym (held_by_some name G)))

  joined_is_union : (k : ℕ) → k ≤ length H → joined G H k ≡ G ++ lacked k
  unfolding joined
  joined_is_union zero le = sym (append-nil G)
  joined_is_union (suc k) le =
      let row : Row = get_or H k nobody in
      let next : lacked (suc k) ≡ lacked k ++ lacking G (row ∷ []) =
      ap (lacking G) (take-suc H k nobody (omega arith)) ∙ filter-append (λ r. not (is_held G r.name)) (take k H) (row ∷ []) in
      ap (λ (U : List Row). cond (is_held U row.name) U (U ++ row ∷ [])) (joined_is_union k (omega arith))
      ∙ (ap (λ (b : Bool). cond b (G ++ lacked k) ((G ++ lacked k) ++ row ∷ [])) (same_held k (omega arith))
      ∙ (one_more G (lacked k) row (is_held G row.name)
      ∙ ap (λ (rows : List Row). G ++ rows) (sym next)))

  pub whole_is_union : joined G H (length H) ≡ union G H
  whole_is_union = joined_is_union (length H) (omega arith) ∙ ap (λ (rows : List Row). G ++ lacking G rows) (take-length H)

-- the union has the rows of both, and no other
pub union_joined : (n : Stakes) (G H : List Row) → IsGraph n G → IsGraph n H → HaveEqualRows G H → IsJoined n G H (length H) (union G H)
union_joined n G H graph_G graph_H equal = subst (IsJoined n G H (length H)) (whole_is_union G H graph_H.distinct) (joined_whole n G H graph_G graph_H equal)
