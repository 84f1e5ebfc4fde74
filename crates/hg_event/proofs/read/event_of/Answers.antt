use Rattle.std.proofs.Common.{◌∙◌, sym, arith}
use Rattle.std.proofs.lemmas.Bool.{eqb-true}
use Rattle.hg_event.specs.View.{row_of}
use Rattle.hg_event.proofs.Spells.{trailing_read, whole_read}
use Rattle.hg_event.proofs.read.event_of.Goals as goal

pub returns-then-not-is_empty : goal.returns-then-not-is_empty
returns-then-not-is_empty c =
    trailing_read c.args.bytes.now (row_of c.in_ok-view.view, c.in_ok-view.rest.now) c.in_ok-view.ensures (sym c.is_empty.ensures ∙ c.if-not-is_empty.true)

pub returns : goal.returns
returns c =
    whole_read c.args.bytes.now (row_of c.in_ok-view.view, c.in_ok-view.rest.now) (λ i. omega (arith, c.type_inv.bytes i)) c.in_ok-view.ensures
    (eqb-true _ _ (sym c.is_empty.ensures ∙ c.if-not-is_empty.false))
