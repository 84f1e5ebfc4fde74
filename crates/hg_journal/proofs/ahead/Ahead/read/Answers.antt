use Rattle.std.proofs.Common.{rules, drop, ◌∙◌}
use Rattle.hg_journal.proofs.AheadLaws.{ahead_is, cut_ahead, cut_short, four_is, record_ahead, whole_body}
use Rattle.hg_journal.proofs.ahead.Ahead.read.Goals as goal

pub returns-in_default : goal.returns-in_default
returns-in_default g c = record {
  ahead = λ bytes told.
      ahead_is (drop c.args.at bytes) _ c.args.buf.now c.of-ahead.result
      (four_is c.in_ok-count.count c.fill_from.new.buf (drop c.args.at bytes) (search rules) c.in_ok-count.ensures.within (c.in_ok-count.ensures.filled bytes told))
      (search rules) c.of-ahead.ensures;
  stays = search rules;
  started = search rules;
  cause = tt;
  counts = search rules;
}

pub returns-then-count-size-clause-ahead : goal.returns-then-count-size-clause-ahead
returns-then-count-size-clause-ahead g c bytes told =
    let four = four_is c.in_ok-count.count c.fill_from.new.buf (drop c.args.at bytes) (search rules) c.in_ok-count.ensures.within (c.in_ok-count.ensures.filled bytes told) in
    let says = c.in-Record.ensures in
    let filled = c.in_ok-count-2.ensures.filled bytes (c.fill_from.ensures.stays.reads ∙ told) in
    cut_ahead (drop c.args.at bytes) _ four c.in-Record.field-0 c.in-Record.size says.0 says.1 says.2 says.3 says.4 says.5
    (cut_short c.in_ok-count-2.count c.in-Record.size c.args.at c.fill_from-2.new.buf bytes (search rules) filled (search rules))

pub returns-clause-ahead : goal.returns-clause-ahead
returns-clause-ahead g c bytes told =
    let four = four_is c.in_ok-count.count c.fill_from.new.buf (drop c.args.at bytes) (search rules) c.in_ok-count.ensures.within (c.in_ok-count.ensures.filled bytes told) in
    let says = c.in-Record.ensures in
    let filled = c.in_ok-count-2.ensures.filled bytes (c.fill_from.ensures.stays.reads ∙ told) in
    let body = whole_body c.in_ok-count-2.count c.in-Record.size c.args.at c.fill_from-2.new.buf bytes (search rules) filled _ (search rules) (search rules) in (
      record_ahead (drop c.args.at bytes) _ four c.in-Record.field-0 c.in-Record.size says.0 says.1 says.2 says.3 says.4 says.5 _ body.0 body.1,
      search rules,
    )
