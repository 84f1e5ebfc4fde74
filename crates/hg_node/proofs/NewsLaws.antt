-- What the news of a share leave: as many marks more, and the same marks where there are none
use Rattle.std.proofs.Common.{◌≡◌, ℕ, ◌+◌, ◌<◌, ◌≤◌, Bool, true, false, not, ◌&&◌, [], ◌∷◌, ◌++◌, length, take, Option, Some, None, is_some, sym, refl, ap, ◌∙◌, inl, inr, arith}
use Rattle.std.specs.Prelude.{is_none}
use Rattle.std.specs.Option.{option_or}
use Rattle.std.proofs.lemmas.Bool.{cases_lt, true≢false}
use Rattle.std.proofs.lemmas.List.{ext_get_or, length_push, get_or_append_left, length-take-le}
use Rattle.std.proofs.lemmas.List.FromFn.{length-map-range_with_len}
use Rattle.hg_model.specs.Stakes.{Stakes}
use Rattle.hg_model.specs.Fame.{Marks, mark_at}
use Rattle.hg_model.specs.Shares.{Share, early_fame}
use Rattle.hg_life.specs.History.{State, is_news, news, new_mark, with_marks}
use Rattle.hg_model.proofs.WeightLaws.{weight_below_split}
use Rattle.hg_model.proofs.PlacesLaws.{weight_below_grows}
use Rattle.hg_history.proofs.AddLaws.{found_below}
use Rattle.hg_history.proofs.SettleLaws.{not_counted}
use Rattle.hg_history.proofs.StateLaws.{IsEven, mark_of_table}
use Rattle.hg_node.specs.ChronicleView.{marked}

-- a row that comes takes no mark
pub marked_push : (marks : Marks) (first : Option Bool) → marked marks ≤ marked (marks ++ first ∷ [])
unfolding marked
marked_push marks first =
    weight_below_grows (λ _. 1) (length marks) (length (marks ++ first ∷ [])) (λ x. is_some (mark_at marks x)) (λ x. is_some (mark_at (marks ++ first ∷ []) x))
    (omega (arith, length_push marks first)) (λ x low is. ap is_some (get_or_append_left marks (first ∷ []) None x low) ∙ is)

keeps_some : (a b : Option Bool) → is_some a ≡ true → (is_some (option_or a b) && is_some a) ≡ true
keeps_some None b e = absurd (true≢false (sym e))
keeps_some (Some v) b e = refl

news_some : (a b : Option Bool) → (is_none a && is_some b) ≡ true → (is_some (option_or a b) && not (is_some a)) ≡ true
news_some None None e = absurd (true≢false (sym e))
news_some None (Some v) e = refl
news_some (Some v) b e = absurd (true≢false (sym e))

nothing_new : (a b : Option Bool) → (is_none a && is_some b) ≡ false → option_or a b ≡ a
nothing_new None None e = refl
nothing_new None (Some v) e = absurd (true≢false e)
nothing_new (Some v) b e = refl

or_none : (a b : Option Bool) → b ≡ None → option_or a b ≡ a
or_none a None e = keeps a
  where
    keeps : (a : Option Bool) → option_or a None ≡ a
    keeps None = refl
    keeps (Some v) = refl
or_none a (Some v) e = cc

module _ (n : Stakes) (c : ℕ) (s : State) (even : IsEven s) (len : ℕ) (share : Share) (within : len ≤ length s.rows) where
  after : Marks
  after = (with_marks n c s len share).marks

  fame : ℕ → Option Bool
  fame x = early_fame n c s.rows s.links len share x

  sized : length after ≡ length s.rows
  unfolding after
  sized = length-map-range_with_len (new_mark n c s len share) 0 (length s.rows)

  mark_after : (x : ℕ) → x < length s.rows → mark_at after x ≡ option_or (mark_at s.marks x) (fame x)
  unfolding after fame
  mark_after x inside = mark_of_table (new_mark n c s len share) (length s.rows) x inside

  -- each of the news is a mark more
  pub marked_news : marked s.marks + news n c s len share ≤ marked (with_marks n c s len share).marks
  unfolding marked news after fame
  marked_news =
      let is_old : ℕ → Bool = λ x. is_some (mark_at s.marks x) in
      let is_now : ℕ → Bool = λ x. is_some (mark_at after x) in
      let split = weight_below_split (λ _. 1) (length after) is_now is_old in
      let old = weight_below_grows (λ _. 1) (length s.marks) (length after) is_old (λ x. is_now x && is_old x) (omega (arith, sized, even.marks))
      (λ x low is. ap (λ (o : Option Bool). is_some o && is_old x) (mark_after x (omega (arith, even.marks))) ∙ keeps_some (mark_at s.marks x) (fame x) is) in
      let fresh = weight_below_grows (λ _. 1) len (length after) (is_news n c s len share) (λ x. is_now x && not (is_old x)) (omega (arith, sized))
      (λ x low is. ap (λ (o : Option Bool). is_some o && not (is_old x)) (mark_after x (omega arith)) ∙ news_some (mark_at s.marks x) (fame x) is) in
      omega (arith, split, old, fresh)

  -- no news leave the marks
  pub same_marks : news n c s len share ≡ 0 → (with_marks n c s len share).marks ≡ s.marks
  unfolding news after fame
  same_marks none =
      ext_get_or None after s.marks (sized ∙ sym even.marks) (λ x inside.
      mark_after x (omega (arith, sized))
      ∙ elim (cases_lt x len) [
        | inl low ↦ nothing_new (mark_at s.marks x) (fame x) (not_counted len x (is_news n c s len share) none low)
        | inr past ↦ or_none (mark_at s.marks x) (fame x) (found_below n c (take len s.rows) (take len s.links) share x (omega (arith, length-take-le len s.links (omega (arith, even.links)))))
      ])
