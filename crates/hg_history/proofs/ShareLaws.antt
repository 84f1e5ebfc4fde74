-- All shares of the whole graph, published one after the other
use Rattle.std.proofs.Common.{◌≡◌, inl, inr, ℕ, zero, suc, ◌<◌, ◌≤◌, Bool, true, List, [], ◌∷◌, ◌++◌, length, fold, Option, Some, None, is_some, append_assoc, sym, refl, ap, ap₂, ◌∙◌, subst, arith}
use Rattle.std.specs.Prelude.{is_none}
use Rattle.std.specs.Option.{option_or}
use Rattle.std.proofs.lemmas.Bool.{cases_eq, and_parts, true≢false}
use Rattle.std.proofs.lemmas.List.Sums.{fold-append}
use Rattle.hg_model.specs.declared.row.Row.{Row}
use Rattle.hg_model.specs.Stakes.{Stakes}
use Rattle.hg_model.specs.Links.{Link, links}
use Rattle.hg_model.specs.Graph.{IsGraph}
use Rattle.hg_model.specs.Fame.{mark_at, fame_marks}
use Rattle.hg_model.specs.Order.{coin_at}
use Rattle.hg_model.specs.Shares.{share_fame, early_fame}
use Rattle.hg_life.specs.History.{Change, State, is_news, news, new_mark, with_marks, step, replay}
use Rattle.hg_life.specs.History.Change.{Marked}
use Rattle.hg_model.specs.Orders.{AreFame}
use Rattle.hg_history.specs.Laws.{shares_published, SharesAreAll, PublishedIsNoNews}
use Rattle.hg_history.proofs.StateLaws.{IsEven, even_step, even_after, rows_grow, links_grow, marks_stay, mark_of_table, replay-append, replay-push}
use Rattle.hg_history.proofs.FoundLaws.{same_first}
use Rattle.hg_model.proofs.PlacesLaws.{weight_below_none}
use Rattle.hg_history.proofs.MarkLaws.{fame_with_marks}
use Rattle.hg_history.proofs.SettleLaws.{share, HasNoNews, marks_are_all, published, still_no_news}
use Rattle.hg_history.proofs.SoundLaws.{sound}

-- t comes from s by publishing the first j of m shares
record IsPublished (n : Stakes) (c : ℕ) (s : State) (m j : ℕ) (t : State) : Type 0 where
  rows : t.rows ≡ s.rows
  links : t.links ≡ s.links
  even : IsEven t
  fame : AreFame n c t.rows t.marks
  quiet : (k : ℕ) → k < j → news n c t (length s.rows) (share k m) ≡ 0

module _ (n : Stakes) (c : ℕ) (s : State) (g : IsGraph n s.rows) (linked : s.links ≡ links s.rows) (m : ℕ) where
  next : (j : ℕ) (t : State) → IsPublished n c s m j t → IsPublished n c s m (suc j) (with_marks n c t (length s.rows) (share j m))
  next j t is =
      let le : length s.rows ≤ length t.rows = (let e = ap length is.rows in omega (arith, e)) in
      let h = subst (IsGraph n) (sym is.rows) g in
      let linked_t : t.links ≡ links t.rows = is.links ∙ (linked ∙ ap links (sym is.rows)) in
      record {
        rows = is.rows;
        links = is.links;
        even = even_step n c t (Marked (length s.rows) (share j m)) is.even;
        fame = fame_with_marks n c t h linked_t (length s.rows) (share j m) le is.fame;
        quiet = λ k low. elim (cases_eq k j) [
          | inl same ↦ subst (λ (i : ℕ). news n c (with_marks n c t (length s.rows) (share j m)) (length s.rows) (share i m) ≡ 0) (sym same)
              (published n c t (length s.rows) (share j m) le)
          | inr other ↦ still_no_news n c t (length s.rows) (share j m) (share k m) le (is.quiet k (omega arith))
        ];
      }

  after : IsEven s → AreFame n c s.rows s.marks → (j : ℕ) → IsPublished n c s m j (fold (step n c) s (shares_published (length s.rows) m j))
  after even fame zero = record { rows = refl; links = refl; even = even; fame = fame; quiet = λ k low. absurd (omega arith) }
  after even fame (suc j) =
      subst (IsPublished n c s m (suc j)) (sym (fold-append (step n c) s (shares_published (length s.rows) m j) (Marked (length s.rows) (share j m) ∷ [])))
      (next j (fold (step n c) s (shares_published (length s.rows) m j)) (after even fame j))

  all_marked : IsEven s → AreFame n c s.rows s.marks → 0 < m →
      let t = fold (step n c) s (shares_published (length s.rows) m m) in
      (t.rows ≡ s.rows) × (t.marks ≡ fame_marks n c (links s.rows) (coin_at s.rows))
  all_marked even fame pos =
      let t = fold (step n c) s (shares_published (length s.rows) m m) in
      let is = after even fame m in
      let linked_t : t.links ≡ links t.rows = is.links ∙ (linked ∙ ap links (sym is.rows)) in
      let none : HasNoNews n c t m = record { none = λ k low. ap (λ (G : List Row). news n c t (length G) (share k m)) is.rows ∙ is.quiet k low } in (
        is.rows,
        marks_are_all n c t is.even linked_t m pos none is.fame ∙ ap (λ (G : List Row). fame_marks n c (links G) (coin_at G)) is.rows,
      )

some_value : (o : Option Bool) → is_some o ≡ true → (v : Bool) × (o ≡ Some v)
some_value None h = absurd (true≢false (sym h))
some_value (Some v) h = (v, refl)

marked_value : (mark fame : Option Bool) (v : Bool) → fame ≡ Some v → (w : Bool) × (option_or mark fame ≡ Some w)
marked_value None fame v is = (v, is)
marked_value (Some w) fame v is = (w, refl)

pub shares_are_all : SharesAreAll
shares_are_all terms n c own h three is m pos =
    let s = replay n c h in
    let now = sound terms n c own h three is in
    subst (λ (t : State). (t.rows ≡ s.rows) × (t.marks ≡ fame_marks n c (links s.rows) (coin_at s.rows)))
    (sym (replay-append n c h (shares_published (length s.rows) m m))) (all_marked n c s now.graph now.linked m now.even now.fame pos)

-- what was published is no news at any later state
pub published_is_no_news : PublishedIsNoNews
unfolding news
published_is_no_news n c a b len one le =
    let s = replay n c a in
    let t = replay n c (a ++ Marked len one ∷ b) in
    let rows = rows_grow n c a (Marked len one ∷ b) in
    let first = links_grow n c a (Marked len one ∷ b) in
    let even = even_after n c a in
    let same : (x : ℕ) → early_fame n c t.rows t.links len one x ≡ early_fame n c s.rows s.links len one x = λ x.
    ap₂ (λ (G : List Row) (L : List Link). share_fame n c G L one x) (same_first len s.rows t.rows rows le) (same_first len s.links t.links first (omega (arith, even.links))) in
    weight_below_none (λ _. 1) len (is_news n c t len one) (λ x low h.
    let parts = and_parts (is_none (mark_at t.marks x)) (is_some (early_fame n c t.rows t.links len one x)) h in
    let found = some_value (early_fame n c s.rows s.links len one x) (sym (ap is_some (same x)) ∙ parts.1) in
    let here = marked_value (mark_at s.marks x) (early_fame n c s.rows s.links len one x) found.0 found.1 in
    let marked : mark_at (replay n c (a ++ Marked len one ∷ [])).marks x ≡ Some here.0 =
    ap (λ (u : State). mark_at u.marks x) (replay-push n c a (Marked len one)) ∙ (mark_of_table (new_mark n c s len one) (length s.rows) x (omega arith) ∙ here.1) in
    let later : mark_at t.marks x ≡ Some here.0 =
    ap (λ (h' : List Change). mark_at (replay n c h').marks x) (sym (append_assoc a (Marked len one ∷ []) b)) ∙ marks_stay n c (a ++ Marked len one ∷ []) b x here.0 marked in
    true≢false (sym parts.0 ∙ ap is_none later))
