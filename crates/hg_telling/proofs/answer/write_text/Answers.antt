use Rattle.hg_telling.proofs.PartLaws.{parts_whole}
use Rattle.hg_telling.proofs.answer.write_text.Goals as goal

pub returns : goal.returns
returns g c = rw (← parts_whole c.args.members.now c.args.answer.now) c.write_parts.ensures
