-- What was found in the first rows stays so
use Rattle.std.proofs.Common.{◌≡◌, inl, inr, ℕ, zero, suc, ◌<◌, ◌≤◌, Bool, true, cond, List, [], ◌∷◌, ◌++◌, length, take, Option, Some, None, is_some, sym, refl, ap, ap₂, ◌∙◌, subst, arith, length-append}
use Rattle.std.specs.Prelude.{All, Contains}
use Rattle.std.proofs.lemmas.Bool.{cases_lt, cases_eq, true≢false}
use Rattle.std.proofs.lemmas.List.{take-append-le}
use Rattle.std.proofs.lemmas.List.Elements.{All-weaker, All-from_recursion, Contains-append_left, Contains-append_right}
use Rattle.hg_model.specs.declared.row.Row.{Row}
use Rattle.hg_model.specs.Places.{list_below}
use Rattle.hg_model.specs.Stakes.{Stakes}
use Rattle.hg_model.specs.Links.{Link}
use Rattle.hg_model.specs.Fame.{mark_at, is_yes}
use Rattle.hg_model.specs.Shares.{Share, Speaks, share_fame, early_fame, found_in}
use Rattle.hg_life.specs.History.{Change, replay}
use Rattle.hg_model.specs.Orders.{IsPrefix}
use Rattle.hg_model.proofs.ListLaws.{all_list_below}
use Rattle.hg_history.specs.Laws.{FoundIsNews, NewsLasts}
use Rattle.hg_history.proofs.AddLaws.{found_below}
use Rattle.hg_history.proofs.StateLaws.{even_after, rows_grow, links_grow, marks_stay}

pub same_first : {A : Type 0} (len : ℕ) (xs ys : List A) → IsPrefix xs ys → len ≤ length xs → take len ys ≡ take len xs
same_first {A} len xs ys first le = subst (λ (zs : List A). take len zs ≡ take len xs) (sym first.1) (take-append-le len xs first.0 le)

pub found_lasts : (n : Stakes) (c : ℕ) (a b : List Change) (len : ℕ) (share : Share) (marks : List (ℕ × Bool)) →
    Speaks n c (replay n c a).rows (replay n c a).links len share marks → Speaks n c (replay n c (a ++ b)).rows (replay n c (a ++ b)).links len share marks
found_lasts n c a b len share marks speaks =
    let s = replay n c a in
    let t = replay n c (a ++ b) in
    let rows = rows_grow n c a b in
    let links = links_grow n c a b in
    let even = even_after n c a in
    let longer = ap length rows.1 in
    let within = speaks.within in
    record {
      within = omega (arith, longer, length-append s.rows rows.0);
      matches = speaks.matches ∙ ap₂ (λ (G : List Row) (L : List Link). found_in n c G L share)
          (sym (same_first len s.rows t.rows rows within)) (sym (same_first len s.links t.links links (omega (arith, even.links))));
    }

contains_list_below : {A : Type 0} (value : ℕ → A) (n : ℕ) (test : ℕ → Bool) (k : ℕ) → k < n → test k ≡ true → Contains (list_below value n test) (value k)
unfolding list_below
contains_list_below value zero test k below passes = absurd (omega arith)
contains_list_below value (suc n) test k below passes = elim (cases_eq k n) [
  | inl last ↦ Contains-append_right (list_below value n test) (cond (test n) (value n ∷ []) []) (value k)
      (subst (λ (b : Bool). Contains (cond b (value n ∷ []) []) (value k)) (sym (ap test (sym last) ∙ passes)) (0, omega arith, ap value (sym last)))
  | inr other ↦ Contains-append_left (list_below value n test) (cond (test n) (value n ∷ []) []) (value k) (contains_list_below value n test k (omega arith) passes)
]

yes_value : (o : Option Bool) (v : Bool) → o ≡ Some v → is_yes o ≡ v
yes_value o v is = ap is_yes is

some_yes : (o : Option Bool) → is_some o ≡ true → o ≡ Some (is_yes o)
some_yes None some = absurd (true≢false (sym some))
some_yes (Some v) some = refl

-- all that a share found may be published
pub found_is_news : FoundIsNews
unfolding found_in
found_is_news n c s len share found speaks =
    let fame : ℕ → Option Bool = early_fame n c s.rows s.links len share in
    let places : List (ℕ × Bool) = list_below (λ x. (x, is_yes (fame x))) (length (take len s.links)) (λ x. is_some (fame x)) in
    record {
      within = speaks.within;
      fame = subst (All (λ (f : ℕ × Bool). fame f.0 ≡ Some f.1)) (sym speaks.matches)
          (All-from_recursion (λ (f : ℕ × Bool). fame f.0 ≡ Some f.1) places
          (all_list_below (λ (f : ℕ × Bool). fame f.0 ≡ Some f.1) (λ x. (x, is_yes (fame x))) (length (take len s.links)) (λ x. is_some (fame x))
          (λ x inside passes. some_yes (fame x) passes)));
      news = λ x v is none.
          subst (λ (xs : List (ℕ × Bool)). Contains xs (x, v)) (sym speaks.matches)
          (subst (λ (w : Bool). Contains places (x, w)) (yes_value (fame x) v is)
          (contains_list_below (λ x. (x, is_yes (fame x))) (length (take len s.links)) (λ x. is_some (fame x)) x
          (elim (cases_lt x (length (take len s.links))) [
            | inl low ↦ low
            | inr past ↦ absurd (true≢false (sym (ap is_some is) ∙ ap is_some (found_below n c (take len s.rows) (take len s.links) share x past)))
          ])
          (ap is_some is)));
    }

still_none : (o p : Option Bool) → ((v : Bool) → o ≡ Some v → p ≡ Some v) → p ≡ None → o ≡ None
still_none None p stays none = refl
still_none (Some v) p stays none = absurd (true≢false (sym (ap is_some (stays v refl)) ∙ ap is_some none))

-- what may be published at one moment may be at each later one
pub news_lasts : NewsLasts
news_lasts n c a b len share found finds =
    let s = replay n c a in
    let t = replay n c (a ++ b) in
    let rows = rows_grow n c a b in
    let more = links_grow n c a b in
    let even = even_after n c a in
    let within = finds.within in
    let longer = ap length rows.1 in
    let same : (x : ℕ) → early_fame n c t.rows t.links len share x ≡ early_fame n c s.rows s.links len share x = λ x.
    ap₂ (λ (G : List Row) (L : List Link). share_fame n c G L share x) (same_first len s.rows t.rows rows within) (same_first len s.links t.links more (omega (arith, even.links))) in
    record {
      within = omega (arith, longer, length-append s.rows rows.0);
      fame = All-weaker (λ (f : ℕ × Bool). early_fame n c s.rows s.links len share f.0 ≡ Some f.1) (λ (f : ℕ × Bool). early_fame n c t.rows t.links len share f.0 ≡ Some f.1)
          (λ f is. same f.0 ∙ is) found finds.fame;
      news = λ x v is none. finds.news x v (sym (same x) ∙ is)
          (still_none (mark_at s.marks x) (mark_at t.marks x) (marks_stay n c a b x) none);
    }
