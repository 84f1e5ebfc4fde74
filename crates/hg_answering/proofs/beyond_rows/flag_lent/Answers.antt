use Rattle.hg_node.proofs.FlagLaws.{flag_lent_more}
use Rattle.hg_answering.proofs.beyond_rows.flag_lent.Goals as goal

pub loop-name-preserved : goal.loop-name-preserved
loop-name-preserved c =
    flag_lent_more c.args.graph.now.graph.rows c.args.flags.now c.loop-name.flags c.flag_named.new.flags c.args.names.now c.loop-name.name-index _ c.loop-name-test.true c.loop-name.invariant c.flag_named.ensures
