use Rattle.std.proofs.Common.{◌≡◌, ◌∙◌, ap}
use Rattle.hg_gossip.specs.Gossip.{none_taken}
use Rattle.hg_gossip.specs.Holding.{seen_whole}
use Rattle.hg_life.specs.NodeView.{NodeView}
use Rattle.hg_wire.specs.Exchange.{rows_in}
use Rattle.hg_world.specs.World.{Secrets}
use Rattle.hg_exchange.specs.Exchanges.{rules}
use Rattle.hg_exchange.proofs.TakingLaws.{holds_answer, is_shown, made_still, takes_start}
use Rattle.hg_exchange.proofs.exchange.take_all.Goals as goal

pub block_of-requires : goal.block_of-requires
block_of-requires c =
    let v : NodeView Secrets = c.args.node in
    let a : NodeView Secrets = c.take.new.taker in
    let w : NodeView Secrets = c.settle.new.self in
    let taken : a.start ≡ v.start = takes_start rules (rows_in c.args.rows.now) (seen_whole v) (seen_whole a) none_taken c.in_ok-counts.counts c.in_ok-counts.ensures.ok in
    made_still c.args.members.now v w (ap (λ (x : NodeView Secrets). x.start) c.in_ok-settle.ensures.ok ∙ taken) c.requires.made

pub returns : goal.returns
returns c =
    let v : NodeView Secrets = c.args.node in
    let a : NodeView Secrets = c.take.new.taker in
    let w : NodeView Secrets = c.settle.new.self in
    let m = c.args.rows.now in
    let taken : a.start ≡ v.start = takes_start rules (rows_in m) (seen_whole v) (seen_whole a) none_taken c.in_ok-counts.counts c.in_ok-counts.ensures.ok in
    let still : w.start ≡ a.start = ap (λ (x : NodeView Secrets). x.start) c.in_ok-settle.ensures.ok in
    record {
      after = a;
      takes = c.in_ok-counts.ensures.ok;
      holds = holds_answer v a m c.in_ok-counts.counts c.in_ok-counts.ensures.ok c.taking_beyond_holds.ensures.beyond c.is_node.ensures;
      outcome = is_shown c.args.members.now v a w c.in_ok-outcome.outcome taken still c.requires.made c.in_ok-settle.ensures.settled c.in_ok-outcome.ensures;
    }
