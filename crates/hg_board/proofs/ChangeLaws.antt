-- A call that may change a shared node, by what it added
use Rattle.std.proofs.Common.{◌≡◌, ℕ, ◌<◌, Bool, cond, eqb, List, [], ◌∷◌, ◌++◌, length, None, sym, ap, ◌∙◌, subst, arith}
use Rattle.std.proofs.lemmas.Bool.{ne_eqb}
use Rattle.std.proofs.lemmas.List.{append-nil}
use Rattle.hg_life.specs.declared.answers.MakeFault.{MakeFault}
use Rattle.hg_life.specs.declared.answers.MakeAnswer.TheVariants as made
use Rattle.hg_model.specs.Orders.{IsPrefix}
use Rattle.hg_life.specs.Verdict.{made_row}
use Rattle.hg_life.specs.History.{Change}
use Rattle.hg_life.specs.History.Change.{Made, Marked}
use Rattle.hg_life.specs.NodeView.{NodeView, Start, node_rows}
use Rattle.hg_life.specs.Calls.{make_answer, make_changes, make_draft, publish_answer, publish_changes, put_answer, put_changes}
use Rattle.hg_model.specs.Shares.{Share}
use Rattle.hg_life.specs.Signing.{Accepts}
use Rattle.hg_history.proofs.CallLaws as node
use Rattle.hg_history.proofs.RuleLaws.{made_draft}
use Rattle.hg_gossip.specs.Holding.{Seen, Waits, positions_from, with_own}
use Rattle.hg_board.specs.Table.{node_at}
use Rattle.hg_board.specs.Seats.{SharedNode, SeatView, seen_by}
use Rattle.hg_board.specs.Calls.{rules_shared}
use Rattle.hg_board.specs.Laws.{AddsNone, AddsOne, IsSignedBy, MakesAddOne, OtherMakesAddNone, OtherPublishesAddNone, OtherPutsAddNone, PublishesAddOne, PutsAddOne}

module _ {V : Type 0} (accepts : V → Accepts) (p : SharedNode V) (old new : SeatView V) (reached : Seen V) (waits : Waits (rules_shared accepts) (seen_by p old) reached) where
  node_reached : reached.node ≡ node_at p.start reached.node.history
  node_reached = ap at (ap (λ (s : Seen V). s.node.start) waits.later)
    where
      at : Start V → NodeView V
      at start = record { start = start; history = reached.node.history }

  begins_reached : IsPrefix old.seen reached.node.history
  begins_reached = (waits.others, ap (λ (s : Seen V). s.node.history) waits.later)

  mine_reached : reached.positions ≡ old.mine
  mine_reached = ap (λ (s : Seen V). s.positions) waits.later

  module _ (es : List Change) (seen : new.seen ≡ reached.node.history ++ es) (mine : new.mine ≡ reached.positions ++ positions_from (length reached.node.history) es) where
    adds_one : (e : Change) → es ≡ e ∷ [] → AddsOne old new reached.node.history e
    adds_one e is = record {
      begins = begins_reached;
      grown = seen ∙ ap (λ (xs : List Change). reached.node.history ++ xs) is;
      mine = mine ∙ (λ i. mine_reached i ++ positions_from (length reached.node.history) (is i));
    }

    seen_none : es ≡ [] → reached.node.history ≡ new.seen
    seen_none is = sym (seen ∙ (ap (λ (xs : List Change). reached.node.history ++ xs) is ∙ append-nil reached.node.history))

    adds_none : es ≡ [] → AddsNone old new
    adds_none is = record {
      begins = subst (IsPrefix old.seen) (seen_none is) begins_reached;
      mine = mine ∙ ((λ i. mine_reached i ++ positions_from (length reached.node.history) (is i)) ∙ append-nil old.mine);
    }

    node_none : es ≡ [] → reached.node ≡ node_at p.start new.seen
    node_none is = node_reached ∙ ap (λ (h : List Change). node_at p.start h) (seen_none is)

  own_seen : (es : List Change) → seen_by p new ≡ with_own reached es → new.seen ≡ reached.node.history ++ es
  own_seen es grown = ap (λ (s : Seen V). s.node.history) grown

  own_mine : (es : List Change) → seen_by p new ≡ with_own reached es → new.mine ≡ reached.positions ++ positions_from (length reached.node.history) es
  own_mine es grown = ap (λ (s : Seen V). s.positions) grown

pub puts_add_one : (V : Type 0) → PutsAddOne V
puts_add_one V accepts p old new bytes place puts =
    let r : Seen V = puts.reached in
    let es : List Change = put_changes accepts r.node bytes in
    let one = node.puts_add_one V accepts r.node bytes place (sym puts.answers) in (
      r.node.history,
      one.1.0,
      adds_one accepts p old new r puts.waits es (own_seen accepts p old new r puts.waits es puts.grown) (own_mine accepts p old new r puts.waits es puts.grown) _ one.1.2,
      one.1.1,
      ap (λ (v : NodeView V). put_answer accepts v bytes) (sym (node_reached accepts p old new r puts.waits)) ∙ sym puts.answers,
    )

pub other_puts_add_none : (V : Type 0) → OtherPutsAddNone V
other_puts_add_none V accepts p old new bytes answer puts other =
    let r : Seen V = puts.reached in
    let es : List Change = put_changes accepts r.node bytes in
    let none_new : es ≡ [] = node.other_puts_add_none V accepts r.node bytes (λ place e. other place (puts.answers ∙ e)) in
    let seen = own_seen accepts p old new r puts.waits es puts.grown in
    let mine = own_mine accepts p old new r puts.waits es puts.grown in (
      adds_none accepts p old new r puts.waits es seen mine none_new,
      puts.answers ∙ ap (λ (v : NodeView V). put_answer accepts v bytes) (node_none accepts p old new r puts.waits es seen mine none_new),
    )

-- an event that is made has no fault before it is signed
drafted : {V : Type 0} (v : NodeView V) (others : List (List ℕ)) (time : ℕ) (payload sig : List ℕ) (place : ℕ) → make_answer v others time payload sig ≡ made.Made place → make_draft v others payload ≡ None
unfolding make_draft make_answer
drafted v others time payload sig place is = made_draft v.start.limit v.start.own (node_rows v) others time payload sig place is

refused_made : (fault : MakeFault) (place : ℕ) → made.Refused fault ≡ made.Made place → ⊥
refused_made fault place e = cc

pub makes_add_one : (V : Type 0) → MakesAddOne V
makes_add_one V accepts p old new others time payload place makes =
    let r : Seen V = makes.reached in
    let sig = makes.making.sig in
    let es : List Change = make_changes r.node others time payload sig in
    let one = node.makes_add_one V r.node others time payload sig place (sym makes.making.answers) in
    let is = node_reached accepts p old new r makes.waits in (
      r.node.history,
      sig,
      subst (λ (v : NodeView V). AddsOne old new r.node.history (Made (made_row v.start.own (node_rows v) others time payload sig))) is
          (adds_one accepts p old new r makes.waits es (ap (λ (v : NodeView V). v.history) makes.making.grown) makes.positions (Made (made_row r.node.start.own (node_rows r.node) others time payload sig)) one.1),
      subst (λ (v : NodeView V). IsSignedBy accepts v others time payload sig) is (makes.making.signed (drafted r.node others time payload sig place (sym makes.making.answers))),
      ap (λ (v : NodeView V). make_answer v others time payload sig) (sym is) ∙ sym makes.making.answers,
    )

pub other_makes_add_none : (V : Type 0) → OtherMakesAddNone V
other_makes_add_none V accepts p old new others time payload fault makes =
    let r : Seen V = makes.reached in
    let sig = makes.making.sig in
    let es : List Change = make_changes r.node others time payload sig in
    let none_new : es ≡ [] = node.other_makes_add_none V r.node others time payload sig (λ place e. refused_made fault place (makes.making.answers ∙ e)) in
    let seen : new.seen ≡ r.node.history ++ es = ap (λ (v : NodeView V). v.history) makes.making.grown in
    let is = node_none accepts p old new r makes.waits es seen makes.positions none_new in (
      adds_none accepts p old new r makes.waits es seen makes.positions none_new,
      sig,
      subst (λ (v : NodeView V). make_draft v others payload ≡ None → IsSignedBy accepts v others time payload sig) is makes.making.signed,
      ap (λ (v : NodeView V). make_answer v others time payload sig) (sym is) ∙ sym makes.making.answers,
    )

-- what is published, where it marks some witnesses, and where it marks none
some_published : {V : Type 0} (v : NodeView V) (len : ℕ) (share : Share) → 0 < publish_answer v len share → publish_changes v len share ≡ Marked len share ∷ []
unfolding publish_changes
some_published v len share some = ap (λ (b : Bool). cond b [] (Marked len share ∷ [])) (ne_eqb (publish_answer v len share) 0 (λ e. absurd (omega (arith, some, e))))

none_published : {V : Type 0} (v : NodeView V) (len : ℕ) (share : Share) → publish_answer v len share ≡ 0 → publish_changes v len share ≡ []
unfolding publish_changes
none_published v len share is = ap (λ (k : ℕ). cond (eqb k 0) [] (Marked len share ∷ [])) is

pub publishes_add_one : (V : Type 0) → PublishesAddOne V
publishes_add_one V accepts p old new len share count some publishes =
    let r : Seen V = publishes.reached in
    let es : List Change = publish_changes r.node len share in (
      r.node.history,
      adds_one accepts p old new r publishes.waits es (own_seen accepts p old new r publishes.waits es publishes.grown) (own_mine accepts p old new r publishes.waits es publishes.grown) (Marked len share)
          (some_published r.node len share (omega (arith, publishes.answers, some))),
      publishes.answers ∙ ap (λ (v : NodeView V). publish_answer v len share) (node_reached accepts p old new r publishes.waits),
    )

pub other_publishes_add_none : (V : Type 0) → OtherPublishesAddNone V
other_publishes_add_none V accepts p old new len share publishes =
    let r : Seen V = publishes.reached in
    let es : List Change = publish_changes r.node len share in
    let none_new : es ≡ [] = none_published r.node len share (sym publishes.answers) in
    let seen = own_seen accepts p old new r publishes.waits es publishes.grown in
    let mine = own_mine accepts p old new r publishes.waits es publishes.grown in (
      adds_none accepts p old new r publishes.waits es seen mine none_new,
      ap (λ (v : NodeView V). publish_answer v len share) (sym (node_none accepts p old new r publishes.waits es seen mine none_new)) ∙ sym publishes.answers,
    )
