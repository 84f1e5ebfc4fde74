use Rattle.std.proofs.Common.{sym, subst}
use Rattle.hg_node.specs.Beyond.{AreBehindFlagged}
use Rattle.hg_node.proofs.FlagLaws.{beyond_listed}
use Rattle.hg_node.proofs.beyond.rows_beyond.Goals as goal

pub returns : goal.returns
returns c =
    let G = c.args.graph.now.graph.rows in
    beyond_listed (λ rows. rows.items) G c.args.names.now c.deref.result.now c.bytes_unflagged.result (subst (AreBehindFlagged G c.args.names.now) (sym c.deref.ensures.value) c.in_ok-flags.ensures) c.bytes_unflagged.ensures
