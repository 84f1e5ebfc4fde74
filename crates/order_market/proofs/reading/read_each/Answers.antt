use Rattle.order_market.proofs.ReadLaws.{few_read, none_read, one_read}
use Rattle.order_market.proofs.reading.read_each.Goals as goal

pub loop-placed-init : goal.loop-placed-init
loop-placed-init c = none_read c.args.book.now

pub read_at-requires-clause-few : goal.read_at-requires-clause-few
read_at-requires-clause-few c = few_read _ _ _ _ _ c.loop-placed-test.true c.requires.few c.loop-placed.invariant

pub loop-placed-preserved : goal.loop-placed-preserved
loop-placed-preserved c = one_read _ _ _ _ _ _ _ c.loop-placed-test.true c.loop-placed.invariant c.in_ok-read_at.ensures
