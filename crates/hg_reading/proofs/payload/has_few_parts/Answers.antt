use Rattle.hg_reading.proofs.PayloadLaws.{few_parts}
use Rattle.hg_reading.proofs.payload.has_few_parts.Goals as goal

pub returns : goal.returns
returns c = few_parts c.args.text.now _ c.commas_in.ensures
