use Rattle.std.proofs.Common.{sym, subst}
use Rattle.hg_node.specs.Beyond.{AreParentsFlagged}
use Rattle.hg_node.proofs.FlagLaws.{tips_listed}
use Rattle.hg_node.proofs.beyond.tip_names.Goals as goal

pub returns : goal.returns
returns c =
    let G = c.args.graph.now.graph.rows in
    tips_listed G c.deref.result.now c.names_unflagged.result (subst (AreParentsFlagged G) (sym c.deref.ensures.value) c.in_ok-flags.ensures) c.names_unflagged.ensures
