-- When all fame of the graph is published, the marks are that fame
use Rattle.std.proofs.Common.{◌≡◌, inl, inr, ℕ, zero, suc, ◌+◌, ◌%◌, ◌<◌, ◌≤◌, Bool, true, false, cond, ◌&&◌, ltb, eqb, List, length, take, Option, Some, None, is_some, sym, refl, ap, ap₂, ◌∙◌, subst, arith, mod-lt, add-one}
use Rattle.std.specs.Prelude.{is_none}
use Rattle.std.specs.Option.{option_or}
use Rattle.std.proofs.Math.Seq.{take-length}
use Rattle.std.proofs.lemmas.Bool.{and_from, cases_Bool, cases_eq, lt-ltb, eq-eqb, true≢false, both_ways}
use Rattle.std.proofs.lemmas.List.{ext_get_or}
use Rattle.std.proofs.lemmas.List.FromFn.{length-map-range_with_len}
use Rattle.hg_model.specs.declared.row.Row.{Row}
use Rattle.hg_model.specs.Places.{count_below, table}
use Rattle.hg_model.specs.Stakes.{Stakes}
use Rattle.hg_model.specs.Links.{Link, links}
use Rattle.hg_model.specs.Rounds.{is_witness}
use Rattle.hg_model.specs.Fame.{mark_at, fame_of, fame_marks}
use Rattle.hg_model.specs.Order.{coin_at}
use Rattle.hg_model.specs.Shares.{Share, is_of_share, share_fame, early_fame}
use Rattle.hg_life.specs.History.{State, is_news, news, new_mark, with_marks}
use Rattle.hg_model.specs.Orders.{AreFame}
use Rattle.hg_model.proofs.FameLaws.{fame_of_other}
use Rattle.hg_model.proofs.LinkLaws.{length-links}
use Rattle.hg_model.proofs.PlacesLaws.{weight_below_none, count_below_passes, count_below_fails}
use Rattle.hg_history.proofs.StateLaws.{IsEven, mark_of_table}

abbrev pub share : ℕ → ℕ → Share
share k m = record { k = k; «of» = m }

-- each witness is of one share, which tells its fame
share_of : Stakes → List Link → ℕ → ℕ → ℕ
share_of n L m x = count_below x (is_witness n L) % m

fame_of_its_share : (n : Stakes) (c : ℕ) (G : List Row) (L : List Link) (m x : ℕ) → x < length L → is_witness n L x ≡ true →
    share_fame n c G L (share (share_of n L m x) m) x ≡ fame_of n c L (coin_at G) x
unfolding share_fame share_of
fame_of_its_share n c G L m x inside witness =
    let k = count_below x (is_witness n L) % m in
    let here : is_of_share n L (share k m) x ≡ true =
    and_from (ltb x (length L) && is_witness n L x) (eqb (count_below x (is_witness n L) % m) k)
    (and_from (ltb x (length L)) (is_witness n L x) (lt-ltb x (length L) inside) witness) (eq-eqb (count_below x (is_witness n L) % m) k refl) in
    ap (λ (b : Bool). cond b (fame_of n c L (coin_at G) x) None) here

-- a mark that is none, and no news, means no fame
none_if_no_news : (mark fame : Option Bool) → mark ≡ None → (is_none mark && is_some fame) ≡ false → fame ≡ None
none_if_no_news mark None none no_news = refl
none_if_no_news mark (Some v) none no_news = absurd (true≢false (sym (ap (λ (o : Option Bool). is_none o && true) none) ∙ no_news))

-- where a count is 0 no place passes
pub not_counted : (len x : ℕ) (test : ℕ → Bool) → count_below len test ≡ 0 → x < len → test x ≡ false
not_counted zero x test none low = absurd (omega arith)
not_counted (suc len) x test none low =
    let whole : count_below (len + 1) test ≡ 0 = ap (λ (k : ℕ). count_below k test) (add-one len) ∙ none in
    elim (cases_Bool (test len)) [
      | inl passes ↦ absurd (omega (arith, count_below_passes len test passes))
      | inr fails ↦ elim (cases_eq x len) [
        | inl same ↦ ap test same ∙ fails
        | inr other ↦ not_counted len x test (omega (arith, count_below_fails len test fails)) (omega arith)
      ]
    ]

-- no share of the m finds fame of an unmarked witness in the whole graph
pub record HasNoNews (n : Stakes) (c : ℕ) (s : State) (m : ℕ) : Type 0 where
  pub none : (k : ℕ) → k < m → news n c s (length s.rows) (share k m) ≡ 0

module _ (n : Stakes) (c : ℕ) (s : State) (even : IsEven s) (linked : s.links ≡ links s.rows) where
  whole_fame : (one : Share) (x : ℕ) → early_fame n c s.rows s.links (length s.rows) one x ≡ share_fame n c s.rows s.links one x
  whole_fame one x =
      ap₂ (λ (G : List Row) (L : List Link). share_fame n c G L one x) (take-length s.rows)
      (ap (λ (len : ℕ). take len s.links) (sym even.links) ∙ take-length s.links)

  -- then a row without a mark has no fame
  unmarked_is_undecided : (m : ℕ) → 0 < m → HasNoNews n c s m → (x : ℕ) → x < length s.rows → mark_at s.marks x ≡ None → fame_of n c s.links (coin_at s.rows) x ≡ None
  unfolding news share_of
  unmarked_is_undecided m pos none x inside unmarked = elim (cases_Bool (is_witness n s.links x)) [
    | inr other ↦ fame_of_other n c s.links (coin_at s.rows) x other
    | inl witness ↦ (
        let k = share_of n s.links m x in
        let low : k < m = mod-lt (count_below x (is_witness n s.links)) pos in
        let quiet = not_counted (length s.rows) x (is_news n c s (length s.rows) (share k m)) (none.none k low) inside in
        let no_fame = none_if_no_news (mark_at s.marks x) (early_fame n c s.rows s.links (length s.rows) (share k m) x) unmarked quiet in
        sym (fame_of_its_share n c s.rows s.links m x (rw even.links inside) witness) ∙ (sym (whole_fame (share k m) x) ∙ no_fame))
  ]

  mark_is_fame : (m : ℕ) → 0 < m → HasNoNews n c s m → AreFame n c s.rows s.marks → (x : ℕ) → x < length s.rows → (mark : Option Bool) → mark_at s.marks x ≡ mark → mark ≡ fame_of n c s.links (coin_at s.rows) x
  mark_is_fame m pos none fame x inside None is = sym (unmarked_is_undecided m pos none x inside is)
  mark_is_fame m pos none fame x inside (Some v) is = sym (ap (λ (L : List Link). fame_of n c L (coin_at s.rows) x) linked ∙ fame.fame x v is)

  -- so the marks are the fame
  pub marks_are_all : (m : ℕ) → 0 < m → HasNoNews n c s m → AreFame n c s.rows s.marks → s.marks ≡ fame_marks n c (links s.rows) (coin_at s.rows)
  unfolding fame_marks
  marks_are_all m pos none fame =
      let L = links s.rows in
      let sized = length-map-range_with_len (fame_of n c L (coin_at s.rows)) 0 (length L) in
      let len = length-links s.rows in
      let rows : length s.marks ≡ length s.rows = even.marks in
      ext_get_or None s.marks (table (fame_of n c L (coin_at s.rows)) (length L)) (omega (arith, sized)) (λ x inside.
      mark_is_fame m pos none fame x (omega arith) (mark_at s.marks x) refl
      ∙ (ap (λ (M : List Link). fame_of n c M (coin_at s.rows) x) linked ∙ sym (mark_of_table (fame_of n c L (coin_at s.rows)) (length L) x (omega arith))))

-- publishing

-- what a mark and fame give is news no more
no_news_left : (mark fame : Option Bool) → (is_none (option_or mark fame) && is_some fame) ≡ true → ⊥
no_news_left None None h = true≢false (sym h)
no_news_left None (Some v) h = true≢false (sym h)
no_news_left (Some o) fame h = true≢false (sym h)

module _ (n : Stakes) (c : ℕ) (s : State) (len : ℕ) (one : Share) (le : len ≤ length s.rows) where
  -- what was published is no news
  pub published : news n c (with_marks n c s len one) len one ≡ 0
  unfolding news
  published = weight_below_none (λ _. 1) len (is_news n c (with_marks n c s len one) len one) (λ x low h.
      no_news_left (mark_at s.marks x) (early_fame n c s.rows s.links len one x)
      (subst (λ (o : Option Bool). (is_none o && is_some (early_fame n c s.rows s.links len one x)) ≡ true)
      (mark_of_table (new_mark n c s len one) (length s.rows) x (omega arith)) h))

some_stays : (mark fame other : Option Bool) → (is_none (option_or mark other) && is_some fame) ≡ true → (is_none mark && is_some fame) ≡ true
some_stays None fame None h = h
some_stays None fame (Some v) h = absurd (true≢false (sym h))
some_stays (Some o) fame other h = absurd (true≢false (sym h))

module _ (n : Stakes) (c : ℕ) (s : State) (len : ℕ) (other one : Share) (le : len ≤ length s.rows) where
  -- and what is no news does not become news by further marks
  pub still_no_news : news n c s len one ≡ 0 → news n c (with_marks n c s len other) len one ≡ 0
  unfolding news
  still_no_news none = weight_below_none (λ _. 1) len (is_news n c (with_marks n c s len other) len one) (λ x low h.
      let before = not_counted len x (is_news n c s len one) none low in
      both_ways (is_news n c s len one x) before
      (some_stays (mark_at s.marks x) (early_fame n c s.rows s.links len one x) (early_fame n c s.rows s.links len other x)
      (subst (λ (o : Option Bool). (is_none o && is_some (early_fame n c s.rows s.links len one x)) ≡ true)
      (mark_of_table (new_mark n c s len other) (length s.rows) x (omega arith)) h)))
