use Rattle.hg_io.proofs.PrintLaws.{printed_by_page}
use Rattle.hg_telling.proofs.answer.write_answer.Goals as goal

pub returns : goal.returns
returns g c = printed_by_page g.K.Sink _ _ _ _ _ _ _ c.new-page.ensures c.in_ok-write_text.ensures c.send.ensures.matches
