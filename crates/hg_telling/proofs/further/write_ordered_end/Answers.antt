use Rattle.std.proofs.Common.{◌++◌, List, ℕ, codes, subst}
use Rattle.hg_io.specs.Printing.{Puts, desk}
use Rattle.hg_outcome.specs.Report.{effect_text}
use Rattle.hg_pieces.proofs.Steps.{four_then}
use Rattle.hg_telling.proofs.further.write_ordered_end.Goals as goal

pub returns : goal.returns
returns g c =
    let sink = g.K.Sink in
    subst (λ (t : List ℕ). Puts (desk sink c.args.sink.now c.args.page.now) (desk sink c.write_pieces.new.sink c.write_pieces.new.page) t c.write_pieces.result)
    (four_then c.effect_pieces.result _ (codes " " ++ effect_text c.args.line.now.effect) (codes "\n") c.effect_pieces.ensures.four c.effect_pieces.ensures.text)
    c.write_pieces.ensures
