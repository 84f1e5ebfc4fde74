use Rattle.std.proofs.Common.{rules}
use Rattle.hg_keep.proofs.WayLaws.{settles}
use Rattle.hg_keep.proofs.staging.stage_settled.Goals as goal

pub returns-clause-settles : goal.returns-clause-settles
returns-clause-settles g c =
    settles g.V.Verifier.accepts c.args.stored.now.node c.stage_remark.new.self.node c.unwrap-node.result.now c.rows-rows.result c.new.result (search rules) c.is_node.ensures c.rows-rows.ensures c.new.ensures
    c.in_ok-stage_remark.ensures.ok
