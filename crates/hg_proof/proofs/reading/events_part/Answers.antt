use Rattle.std.proofs.Common.{ℕ, ◌∙◌, ◌+◌, ◌-◌, List, [], ◌∷◌, Ok, ap, sym, arith}
use Rattle.std.proofs.lemmas.List.{append-nil, map-append}
use Rattle.hg_model.specs.declared.row.Row.{Row}
use Rattle.hg_graph.specs.RowsWithRoom.{rows_of}
use Rattle.hg_proof.specs.Reading.{row_part, rows_part}
use Rattle.hg_proof.specs.Want.{HasFirst, IsRead}
use Rattle.hg_proof.proofs.PartLaws.{after, parts_end, parts_next, parts_stop, stopped}
use Rattle.hg_proof.proofs.WantLaws.{first_read, is_read, so_anyhow, so_handed}
use Rattle.hg_proof.proofs.reading.events_part.Goals as goal

pub returns-in_err-event-clause-parts : goal.returns-in_err-event-clause-parts
returns-in_err-event-clause-parts c =
    stopped {X = Row × List ℕ} (λ x. x) _ c.in_err-event.field-0.0 (row_part c.args.size c.loop.left.now) (rows_part c.args.size c.args.count c.args.bytes.now)
    (λ why e. c.loop.invariant.parts ∙ parts_stop (row_part c.args.size) c.args.count c.loop.counter c.loop.left.now (rows_of c.loop.events.items) why (omega arith) e)
    c.in_err-event.ensures.part c.from_residual.result c.from_residual.ensures.1

pub loop-preserved : goal.loop-preserved
loop-preserved c = record {
  parts = c.loop.invariant.parts
      ∙ (parts_next (row_part c.args.size) c.args.count c.loop.counter c.loop.left.now (rows_of c.loop.events.items) (c.in_ok-event.event.value, c.in_ok-event.rest.now) (omega arith) c.in_ok-event.ensures.part
      ∙ ap (λ (done : List Row). after done (rows_part c.args.size (c.args.count - (c.loop.counter + 1)) c.in_ok-event.rest.now))
      (sym (ap rows_of c.in_ok-push.ensures.items ∙ map-append (λ e. e.value) c.loop.events.items (c.in_ok-event.event ∷ []))));
  begun = λ some. first_read c.args.size c.loop.counter c.args.bytes.now c.loop.left.now c.loop.invariant.begun c.loop.invariant.start
      (is_read _ _ c.in_ok-event.ensures.part);
  start = λ none. absurd (omega (arith, none));
}

pub returns-clause-parts : goal.returns-clause-parts
returns-clause-parts c =
    c.loop.invariant.parts
    ∙ (parts_end (row_part c.args.size) c.args.count c.loop.counter c.loop.left.now (rows_of c.loop.events.items) (omega arith)
    ∙ ap (λ (done : List Row). Ok (done, c.loop.left.now)) (append-nil (rows_of c.loop.events.items)))

pub returns-in_err-event-clause-free : goal.returns-in_err-event-clause-free
returns-in_err-event-clause-free c =
    so_handed c.in_err-event.field-0.0 (IsRead (row_part c.args.size c.loop.left.now)) (HasFirst c.args.size c.args.count c.args.bytes.now)
    (λ here some. first_read c.args.size c.loop.counter c.args.bytes.now c.loop.left.now c.loop.invariant.begun c.loop.invariant.start here)
    c.in_err-event.ensures.free c.from_residual.result c.from_residual.ensures.1

pub returns-in_err-push-clause-free : goal.returns-in_err-push-clause-free
returns-in_err-push-clause-free c =
    so_anyhow c.from_residual-in_err-push.result _
    (λ some. first_read c.args.size c.loop.counter c.args.bytes.now c.loop.left.now c.loop.invariant.begun c.loop.invariant.start
    (is_read _ _ c.in_ok-event.ensures.part))
