use Rattle.std.proofs.Common.{◌<◌, rules}
use Rattle.std.specs.Vec.{vec_capacity}
use Rattle.hg_model.specs.Stakes.{total}
use Rattle.hg_node.proofs.BookLaws.{book_none}
use Rattle.hg_node.proofs.TableLaws.{carries_none}
use Rattle.hg_node.proofs.KeepLaws.{record_none}
use Rattle.hg_node.proofs.chronicle.Chronicle.new.Goals as goal

pub invariant_of-result : goal.invariant_of-result
invariant_of-result c =
    let n = c.as_slice.result.now in
    let some : 0 < total n = search rules in
    rw (c.in_ok-graph.ensures, c.new-4.ensures.items) (
      record_none c.args.own n c.coin.result c.new-3.result.published (vec_capacity c.new-4.result) (c.new-3.ensures.keeps n c.coin.result some),
      rw c.new-3.ensures.none (book_none c.in_ok-ledger.ledger _ c.in_ok-ledger.ensures.opening c.in_ok-ledger.ensures.book),
      carries_none n c.coin.result _ (c.empty.ensures n c.coin.result),
      c.requires,
    )
