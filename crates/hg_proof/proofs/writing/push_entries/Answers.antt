use Rattle.std.proofs.Common.{◌++◌, ◌∙◌, List, ap, subst, arith}
use Rattle.std.specs.List.{AllByRecursion}
use Rattle.std.proofs.lemmas.List.{take_all}
use Rattle.hg_model.specs.declared.row.Placed.{Placed}
use Rattle.hg_proof.specs.Certificate.{IsEntry, entries_bytes}
use Rattle.hg_proof.proofs.WriteLaws.{entries_fit, entries_more}
use Rattle.hg_proof.proofs.writing.push_entries.Goals as goal

pub push_entry-requires : goal.push_entry-requires
push_entry-requires c = c.requires c.loop-p.p-index _ (omega arith)

pub loop-p-preserved : goal.loop-p-preserved
loop-p-preserved c =
    let order = c.args.order.now in
    let i = c.loop-p.p-index in
    record {
      bytes = entries_more c.args.bytes.now.items c.loop-p.bytes.items _ order i _ (omega arith) c.in_ok-push_entry.ensures.bytes c.loop-p.invariant.bytes;
      sized = entries_fit order i _ (omega arith) c.in_ok-push_entry.ensures.sized c.loop-p.invariant.sized;
    }

pub returns-clause-bytes : goal.returns-clause-bytes
returns-clause-bytes c =
    c.loop-p.invariant.bytes ∙ ap (λ (order : List Placed). c.args.bytes.now.items ++ entries_bytes order) (take_all c.loop-p.p-index c.args.order.now (omega arith))

pub returns-clause-sized : goal.returns-clause-sized
returns-clause-sized c = subst (AllByRecursion IsEntry) (take_all c.loop-p.p-index c.args.order.now (omega arith)) c.loop-p.invariant.sized
