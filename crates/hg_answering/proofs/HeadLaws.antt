-- A node has the rows whose names it tells as heads
use Rattle.std.proofs.Common.{◌≡◌, ◌⊎◌, inl, inr, ⊎_elim, ℕ, zero, suc, Bool, true, false, cond, ◌||◌, eqb, List, [], ◌∷◌, ◌++◌, fold, Option, Some, None, is_some, sym, refl, ◌∙◌}
use Rattle.std.specs.Prelude.{unwrap_or}
use Rattle.std.specs.List.{AllByRecursion, list_any}
use Rattle.std.specs.Str.{bytes_eq}
use Rattle.std.proofs.lemmas.Bool.{true≢false}
use Rattle.std.proofs.lemmas.Slice.Eq.{bytes_eq-Decides}
use Rattle.hg_model.specs.declared.row.Row.{Row}
use Rattle.hg_model.specs.Held.{is_held}
use Rattle.hg_model.specs.Places.{list_below}
use Rattle.hg_model.specs.Stakes.{member_count}
use Rattle.hg_life.specs.NodeView.{NodeView, node_rows}
use Rattle.hg_life.specs.Verdict.{last_name, later_name}
use Rattle.hg_gossip.specs.Holding.{row_names}
use Rattle.hg_gossip.proofs.RowLaws.{held_is}
use Rattle.hg_answering.specs.Telling.{heads}

either_first : (a b : Bool) → a ≡ true → (a || b) ≡ true
either_first true b is = refl
either_first false b is = absurd (true≢false (sym is))

either_second : (a b : Bool) → b ≡ true → (a || b) ≡ true
either_second true b is = refl
either_second false b is = is

all_and : {A : Type 0} (Is : A → Type 0) (xs ys : List A) → AllByRecursion Is xs → AllByRecursion Is ys → AllByRecursion Is (xs ++ ys)
all_and Is [] ys first next = next
all_and Is (x ∷ xs) ys (is, first) next = (is, all_and Is xs ys first next)

all_listed : {A : Type 0} (Is : A → Type 0) (value : ℕ → A) (n : ℕ) (test : ℕ → Bool) → ((x : ℕ) → test x ≡ true → Is (value x))
    → AllByRecursion Is (list_below value n test)
unfolding list_below
all_listed Is value zero test each = tt
all_listed Is value (suc n) test each = all_and Is (list_below value n test) _ (all_listed Is value n test each) (last (test n) refl)
  where
    last : (b : Bool) → test n ≡ b → AllByRecursion Is (cond b (value n ∷ []) [])
    last true is = (each n is, tt)
    last false is = tt

-- a later name is that of one of the rows
later_in : (m : ℕ) (G : List Row) (before : Option (List ℕ)) (name : List ℕ) → fold (later_name m) before G ≡ Some name
    → (before ≡ Some name) ⊎ (list_any (bytes_eq name) (row_names G) ≡ true)
later_in m [] before name is = inl is
later_in m (row ∷ G) before name is =
    ⊎_elim (by_row (eqb row.creator m) refl) (λ there. inr (either_second (bytes_eq name row.name) _ there)) (later_in m G (later_name m before row) name is)
  where
    by_row : (b : Bool) → eqb row.creator m ≡ b → cond b (Some row.name) before ≡ Some name
        → (before ≡ Some name) ⊎ (list_any (bytes_eq name) (row_names (row ∷ G)) ≡ true)
    by_row true own one =
        let same : row.name ≡ name = cc in
        inr (either_first (bytes_eq name row.name) _ ((bytes_eq-Decides name row.name).1 (sym same)))
    by_row false own one = inl one

pub last_held : (m : ℕ) (G : List Row) (name : List ℕ) → last_name m G ≡ Some name → is_held G name ≡ true
last_held m G name is = sym (held_is G name) ∙ ⊎_elim (λ none. absurd cc) (λ there. there) (later_in m G None name is)

some_held : (m : ℕ) (G : List Row) (found : Option (List ℕ)) → last_name m G ≡ found → is_some found ≡ true → is_held G (unwrap_or found []) ≡ true
some_held m G None is some = absurd (true≢false (sym some))
some_held m G (Some name) is some = last_held m G name is

pub heads_held : {K : Type 0} (v : NodeView K) → AllByRecursion (λ (name : List ℕ). is_held (node_rows v) name ≡ true) (heads v)
unfolding heads
heads_held v =
    all_listed (λ (name : List ℕ). is_held (node_rows v) name ≡ true) (λ m. unwrap_or (last_name m (node_rows v)) []) (member_count v.start.members)
    (λ m. is_some (last_name m (node_rows v))) (λ m is. some_held m (node_rows v) (last_name m (node_rows v)) refl is)
