use Rattle.std.proofs.Common.{◌∙◌}
use Rattle.hg_top.proofs.StormLaws.{storm_count, storm_made, storm_shown}
use Rattle.hg_top.proofs.storming.storm_outcome.Goals as goal

pub outcome_of-requires-clause-made : goal.outcome_of-requires-clause-made
outcome_of-requires-clause-made g c =
    let r = c.args.asked.now in
    storm_made c.args.members.now r.turns r.room r.seed c.in_ok-storm.storm c.in_ok-storm.ensures

pub outcome_of-requires-clause-count : goal.outcome_of-requires-clause-count
outcome_of-requires-clause-count g c =
    let r = c.args.asked.now in
    storm_count c.args.members.now r.turns r.room r.seed c.in_ok-storm.storm c.in_ok-storm.ensures

pub returns : goal.returns
returns g c =
    let r = c.args.asked.now in
    record {
      one = c.in_ok-storm.storm;
      is = c.in_ok-storm.ensures;
      shows = c.in_ok-outcome.ensures ∙ storm_shown c.args.members.now r.turns r.room r.seed c.in_ok-storm.storm c.in_ok-storm.ensures;
    }
