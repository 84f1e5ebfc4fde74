-- What came of the messages stands when the node goes on, and when rows are made through the seat
use Rattle.std.proofs.Common.{◌≡◌, ⊎_elim, inl, inr, ℕ, suc, List, [], ◌∷◌, ◌++◌, append_assoc, length, length-append, Option, Some, None, slice_get, refl, sym, ap, ◌∙◌, subst, arith}
use Rattle.std.specs.List.{AllByRecursion}
use Rattle.std.proofs.lemmas.List.{append-nil}
use Rattle.hg_model.specs.Orders.{IsPrefix}
use Rattle.hg_model.specs.declared.row.Row.{Row}
use Rattle.hg_life.specs.declared.answers.MakeAnswer.{MakeAnswer}
use Rattle.hg_life.specs.declared.answers.MakeAnswer.TheVariants as answer
use Rattle.hg_life.specs.Verdict.{made_row}
use Rattle.hg_life.specs.History.{Change}
use Rattle.hg_life.specs.History.Change.{Made}
use Rattle.hg_life.specs.NodeView.{NodeView, node_rows}
use Rattle.hg_life.specs.Calls.{make_answer, make_changes, made_by}
use Rattle.hg_life.specs.Signing.{Accepts}
use Rattle.hg_node.specs.Next.{MakesNext}
use Rattle.hg_gossip.specs.Holding.{Seen, positions_from}
use Rattle.hg_mail.specs.declared.message.Message.{Message}
use Rattle.hg_board.specs.Seats.{SharedNode, SeatView, seen_by}
use Rattle.hg_storm.specs.declared.taking.RefusedMessage.{RefusedMessage}
use Rattle.hg_storm.specs.Fates.{CameBy, HasFates, IsMade, Refuses, bytes_at}
use Rattle.hg_storm.specs.Keeping.{MakingKeepsFates, WaitingKeepsFates}
use Rattle.hg_storm.proofs.FateLaws.{all_append, all_map, came_still, holds_later, refuses_still}

abbrev IsMaking : Change → Type 0
IsMaking e = (row : Row) × (e ≡ Made row)

-- a position at which a row was made, in a longer history
made_at : (h rest : List Change) (row : Row) → IsMade (h ++ Made row ∷ rest) (length h)
made_at h rest row = record { row = row; at = there h }
  where
    there : (xs : List Change) → slice_get (xs ++ Made row ∷ rest) (length xs) ≡ Some (Made row)
    there [] = refl
    there (x ∷ xs) = there xs

-- rows alone were made at these positions
made_from : (taken : List Message) (h es : List Change) → AllByRecursion IsMaking es → AllByRecursion (CameBy (h ++ es) taken) (positions_from (length h) es)
made_from taken h [] made = tt
made_from taken h (e ∷ es) made = (
  inl (subst (λ (c : Change). IsMade (h ++ c ∷ es) (length h)) (sym made.0.1) (made_at h es made.0.0)),
  subst (λ (y : List Change × ℕ). AllByRecursion (CameBy y.0 taken) (positions_from y.1 es)) (λ i. (pushed h e es i, long h e i)) (made_from taken (h ++ e ∷ []) es made.1),
)
  where
    pushed : (xs : List Change) (x : Change) (ys : List Change) → (xs ++ x ∷ []) ++ ys ≡ xs ++ x ∷ ys
    pushed [] x ys = refl
    pushed (z ∷ xs) x ys = ap (λ (l : List Change). z ∷ l) (pushed xs x ys)

    long : (xs : List Change) (x : Change) → length (xs ++ x ∷ []) ≡ suc (length xs)
    long xs x = omega (arith, length-append xs (x ∷ []))

module _ {V : Type 0} (accepts : V → Accepts) (p : SharedNode V) (s t : SeatView V) (more : List Change) (seen : t.seen ≡ s.seen ++ more) where
  keeps : (taken : List Message) (refused : List RefusedMessage) → AllByRecursion (CameBy t.seen taken) t.mine → HasFates accepts p s taken refused → HasFates accepts p t taken refused
  keeps taken refused came fates = record {
    refusals = all_map (Refuses accepts p s.seen taken refused) (Refuses accepts p t.seen taken refused) (λ r was. refuses_still accepts p s.seen t.seen taken refused r (more, seen) was) refused fates.refusals;
    once = fates.once;
    held = λ j inside. ⊎_elim (λ x. inl x) (λ e. inr (holds_later p.start s.seen t.seen (bytes_at taken j) (more, seen) e)) (fates.held j inside);
    came = came;
  }

  still : (taken : List Message) (refused : List RefusedMessage) → HasFates accepts p s taken refused → AllByRecursion (CameBy t.seen taken) s.mine
  still taken refused fates = all_map (CameBy s.seen taken) (CameBy t.seen taken) (λ q was. came_still s.seen t.seen taken q (more, seen) was) s.mine fates.came

pub waiting_keeps : (V : Type 0) → WaitingKeepsFates V
waiting_keeps V accepts p s t waits taken refused fates =
    let seen : t.seen ≡ s.seen ++ waits.others = ap (λ (x : Seen V). x.node.history) waits.later in
    let mine : t.mine ≡ s.mine = ap (λ (x : Seen V). x.positions) waits.later in
    keeps accepts p s t waits.others seen taken refused (subst (AllByRecursion (CameBy t.seen taken)) (sym mine) (still accepts p s t waits.others seen taken refused fates)) fates

-- the node went on, and the seat added nothing
pub still_keeps : {V : Type 0} (accepts : V → Accepts) (p : SharedNode V) (s t : SeatView V) → IsPrefix s.seen t.seen → t.mine ≡ s.mine → (taken : List Message) (refused : List RefusedMessage) →
    HasFates accepts p s taken refused → HasFates accepts p t taken refused
still_keeps accepts p s t first mine taken refused fates =
    keeps accepts p s t first.0 first.1 taken refused (subst (AllByRecursion (CameBy t.seen taken)) (sym mine) (still accepts p s t first.0 first.1 taken refused fates)) fates

-- what a call that makes the next row adds is made
by_answer : (a : MakeAnswer) (row : Row) → AllByRecursion IsMaking (made_by a row)
by_answer (answer.Made place) row = ((row, refl), tt)
by_answer (answer.Refused fault) row = tt

by_making : {V : Type 0} (v : NodeView V) (others : List (List ℕ)) (time : ℕ) (payload sig : List ℕ) → AllByRecursion IsMaking (make_changes v others time payload sig)
unfolding make_changes
by_making v others time payload sig = by_answer (make_answer v others time payload sig) (made_row v.start.own (node_rows v) others time payload sig)

cancelled : (h xs ys : List Change) → h ++ xs ≡ h ++ ys → xs ≡ ys
cancelled [] xs ys e = e
cancelled (x ∷ h) xs ys e = cancelled h xs ys (tails e)
  where
    tails : (x ∷ (h ++ xs)) ≡ (x ∷ (h ++ ys)) → h ++ xs ≡ h ++ ys
    tails f = cc f

by_next : {V : Type 0} (accepts : V → Accepts) (v w : NodeView V) (time : ℕ) (made : Option MakeAnswer) (more : List Change) → w.history ≡ v.history ++ more → MakesNext accepts v time made w → AllByRecursion IsMaking more
by_next accepts v w time None more grown next =
    subst (AllByRecursion IsMaking) (sym (cancelled v.history more [] (sym grown ∙ (ap (λ (x : NodeView _). x.history) next.0 ∙ sym (append-nil v.history))))) tt
by_next accepts v w time (Some a) more grown next =
    let m = next.2.making in
    subst (AllByRecursion IsMaking) (sym (cancelled v.history more (make_changes v next.0 time [] m.sig) (sym grown ∙ ap (λ (x : NodeView _). x.history) m.grown))) (by_making v next.0 time [] m.sig)

pub making_keeps : (V : Type 0) → MakingKeepsFates V
making_keeps V accepts p s t time made next taken refused fates =
    let reached : List Change = next.reached.node.history in
    let begun : reached ≡ s.seen ++ next.waits.others = ap (λ (x : Seen V). x.node.history) next.waits.later in
    let grown : t.seen ≡ reached ++ next.more = ap (λ (x : Seen V). x.node.history) next.grown in
    let seen : t.seen ≡ s.seen ++ (next.waits.others ++ next.more) = grown ∙ (ap (λ (h : List Change). h ++ next.more) begun ∙ append_assoc s.seen next.waits.others next.more) in
    let mine : t.mine ≡ s.mine ++ positions_from (length reached) next.more =
    ap (λ (x : Seen V). x.positions) next.grown ∙ ap (λ (l : List ℕ). l ++ positions_from (length reached) next.more) (ap (λ (x : Seen V). x.positions) next.waits.later) in
    let made_all = by_next accepts next.reached.node (seen_by p t).node time made next.more grown next.makes in
    let rows : AllByRecursion (CameBy t.seen taken) (positions_from (length reached) next.more) =
    subst (λ (h : List Change). AllByRecursion (CameBy h taken) (positions_from (length reached) next.more)) (sym grown) (made_from taken reached next.more made_all) in
    keeps accepts p s t (next.waits.others ++ next.more) seen taken refused
    (subst (AllByRecursion (CameBy t.seen taken)) (sym mine) (all_append (CameBy t.seen taken) s.mine (positions_from (length reached) next.more) (still accepts p s t (next.waits.others ++ next.more) seen taken refused fates) rows))
    fates
