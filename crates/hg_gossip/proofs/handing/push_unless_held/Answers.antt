use Rattle.std.proofs.Common.{rules, ◌≡◌, false}
use Rattle.hg_model.specs.Held.{is_held}
use Rattle.hg_life.specs.NodeView.{node_rows}
use Rattle.hg_gossip.proofs.HandLaws.{pushes_place}
use Rattle.hg_gossip.proofs.handing.push_unless_held.Goals as goal

pub returns-in_ok-push-clause-pushed : goal.returns-in_ok-push-clause-pushed
returns-in_ok-push-clause-pushed g c =
    let lacked : is_held (node_rows c.args.taker.now) c.row.result.now.name ≡ false = search rules in
    pushes_place (node_rows c.args.taker.now) (node_rows c.args.peer.now) c.args.places.now.items c.push.new.self.items c.args.place c.row.result.now c.row.ensures lacked c.in_ok-push.ensures.items
