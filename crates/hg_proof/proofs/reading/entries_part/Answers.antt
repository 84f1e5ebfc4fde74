use Rattle.std.proofs.Common.{◌∙◌, ◌+◌, ◌-◌, List, Ok, ap, sym, arith}
use Rattle.std.proofs.lemmas.List.{append-nil}
use Rattle.hg_model.specs.declared.row.Placed.{Placed}
use Rattle.hg_proof.specs.Reading.{entries_part, entry_part}
use Rattle.hg_proof.proofs.PartLaws.{after, faulted, parts_end, parts_next, parts_stop}
use Rattle.hg_proof.proofs.reading.entries_part.Goals as goal

pub returns-in_err-entry : goal.returns-in_err-entry
returns-in_err-entry c =
    faulted _ c.in_err-entry.field-0.0 (entries_part c.args.size c.args.count c.args.bytes.now)
    (c.loop.invariant ∙ parts_stop (entry_part c.args.size) c.args.count c.loop.counter c.loop.left.now c.loop.entries.items c.in_err-entry.field-0.0 (omega arith) c.in_err-entry.ensures)
    c.from_residual.result c.from_residual.ensures.1

pub loop-preserved : goal.loop-preserved
loop-preserved c =
    c.loop.invariant
    ∙ (parts_next (entry_part c.args.size) c.args.count c.loop.counter c.loop.left.now c.loop.entries.items (c.in_ok-entry.entry, c.in_ok-entry.rest.now) (omega arith) c.in_ok-entry.ensures
    ∙ ap (λ (done : List Placed). after done (entries_part c.args.size (c.args.count - (c.loop.counter + 1)) c.in_ok-entry.rest.now)) (sym c.in_ok-push.ensures.items))

pub returns : goal.returns
returns c =
    c.loop.invariant
    ∙ (parts_end (entry_part c.args.size) c.args.count c.loop.counter c.loop.left.now c.loop.entries.items (omega arith)
    ∙ ap (λ (done : List Placed). Ok (done, c.loop.left.now)) (append-nil c.loop.entries.items))
