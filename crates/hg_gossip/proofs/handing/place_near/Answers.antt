use Rattle.std.proofs.Common.{rules, ◌≡◌, sym}
use Rattle.hg_life.specs.NodeView.{node_rows}
use Rattle.hg_gossip.proofs.HandLaws.{held_at}
use Rattle.hg_gossip.proofs.handing.place_near.Goals as goal

pub returns-then-eq : goal.returns-then-eq
returns-then-eq g c =
    let named : c.row.result.now.name ≡ c.args.name.now = search rules in
    sym (held_at (node_rows c.args.taker.now) c.args.marked c.row.result.now c.args.name.now c.row.ensures named)
