use Rattle.std.proofs.Common.{◌∙◌, ap}
use Rattle.hg_outcome.specs.Summary.{summary_of}
use Rattle.hg_play.proofs.SummaryLaws.{IsSummed, played_sites, summed}
use Rattle.hg_play.proofs.playing.summary.Given as given
use Rattle.hg_play.proofs.playing.summary.Goals as goal
use Rattle.hg_play.proofs.playing.summary.Goals.{After-is_world}

-- the world once its nodes are settled
last : (g : given.Over) (c : After-is_world g) → IsSummed c.args.members.now (g.L.LineSource.rest c.args.lines.now) c.settle_all.new.world
last g c =
    summed c.args.members.now c.args.workers (g.L.LineSource.rest c.args.lines.now) c.in_ok-world.world c.settle_all.new.world c.requires.lines c.in_ok-world.ensures.new c.in_ok-world.ensures.played
    c.in_ok-settle_all.ensures.after c.in_ok-settle_all.ensures.settled c.is_world.ensures.world

pub settle_all-requires : goal.settle_all-requires
settle_all-requires g c = played_sites c.args.members.now (g.L.LineSource.rest c.args.lines.now) c.in_ok-world.world c.in_ok-world.ensures.played

pub summary_of-requires-clause-made : goal.summary_of-requires-clause-made
summary_of-requires-clause-made g c = (last g (goal.at.summary_of-requires-clause-made g c).After-is_world).made

pub summary_of-requires-clause-count : goal.summary_of-requires-clause-count
summary_of-requires-clause-count g c = (last g (goal.at.summary_of-requires-clause-count g c).After-is_world).count

pub returns-clause-outcome : goal.returns-clause-outcome
returns-clause-outcome g c = c.in_ok-summary.ensures ∙ ap summary_of (last g (goal.at.returns-clause-outcome g c).After-is_world).told

pub returns-clause-safe : goal.returns-clause-safe
returns-clause-safe g c = (last g (goal.at.returns-clause-safe g c).After-is_world).safely
