-- From what a seat has seen to the whole history
use Rattle.std.proofs.Common.{◌≡◌, ⊎_elim, inl, inr, ℕ, ◌<◌, List, [], ◌∷◌, ◌++◌, length, Some, slice_get, sym, ap, ◌∙◌, subst, arith}
use mathlib.Core.Logic.{dite}
use native.Mathlib.Decide.{ℕ_discrete}
use Rattle.std.specs.List.{AllByRecursion}
use Rattle.std.proofs.lemmas.Option.{slice_get_within}
use Rattle.hg_model.specs.declared.row.Row.{Row}
use Rattle.hg_life.specs.History.{Change}
use Rattle.hg_life.specs.History.Change.{Took, Made, Marked}
use Rattle.hg_mail.specs.declared.message.Message.{Message}
use Rattle.hg_board.specs.Positions.{times}
use Rattle.hg_board.proofs.PositionLaws.{times_apart, times_cons, times_none}
use Rattle.hg_crowd.specs.Crowd.{IsMark}
use Rattle.hg_storm.specs.Fates.{CameBy, IsMade, IsOfMessage, IsTaken, Refuses, bytes_at}
use Rattle.hg_storm.specs.Ends.{FatesLast}
use Rattle.hg_storm.proofs.FateLaws.{all_map, get_later, holds_later, refuses_still}

-- what is so of each position is so of one that stands there
at_position : (P : ℕ → Type 0) (q : ℕ) (positions : List ℕ) → AllByRecursion P positions → 0 < times q positions → P q
at_position P q [] all some = absurd (omega (arith, some, times_none q))
at_position P q (p ∷ positions) all some = dite (ℕ_discrete p q)
    (λ same. subst P same all.0)
    (λ ne. at_position P q positions all.1 (omega (arith, some, times_cons q p positions, times_apart q p ne)))

no_made : (a b : Row) → Some (Made a) ≡ Some (Took b) → ⊥
no_made a b e = cc

one_took : (a b : Row) → Some (Took a) ≡ Some (Took b) → a ≡ b
one_took a b e = cc

no_mark : (h : List Change) (q : ℕ) (row : Row) → slice_get h q ≡ Some (Took row) → IsMark h q → ⊥
no_mark h q row is mark = let e : Some (Marked mark.0 mark.1) ≡ Some (Took row) = sym mark.2 ∙ is in cc

-- of the changes that came so, one that took a row took that of a message
by_message : (seen history : List Change) (taken : List Message) (q : ℕ) (row : Row) → (rest : List Change) → history ≡ seen ++ rest →
    slice_get history q ≡ Some (Took row) → CameBy seen taken q → IsOfMessage taken row
by_message seen history taken q row rest later is came = ⊎_elim
    (λ (m : IsMade seen q). absurd (no_made m.row row (sym (get_later seen history q (Made m.row) (rest, later) m.at) ∙ is)))
    (λ (t : IsTaken seen taken q). subst (IsOfMessage taken) (one_took t.row row (sym (get_later seen history q (Took t.row) (rest, later) t.at) ∙ is)) t.message)
    came

pub fates_last : (V : Type 0) → FatesLast V
fates_last V accepts p s node taken refused none ended fates = record {
  held = λ j inside. ⊎_elim (λ x. inl x) (λ e. inr (holds_later p.start s.seen node.history (bytes_at taken j) ended.later e)) (fates.held j inside);
  refusals = all_map (Refuses accepts p s.seen taken refused) (Refuses accepts p node.history taken refused)
      (λ r was. refuses_still accepts p s.seen node.history taken refused r ended.later was) refused fates.refusals;
  once = fates.once;
  took = λ q row is. dite (ℕ_discrete (times q s.mine) 0)
      (λ other. absurd (no_mark node.history q row is (ended.marks q (omega (arith, ap length none)) (slice_get_within node.history q (Took row) is) other)))
      (λ own. by_message s.seen node.history taken q row ended.later.0 ended.later.1 is (at_position (CameBy s.seen taken) q s.mine fates.came (omega (arith, own))));
}
