use Rattle.std.proofs.Common.{◌∙◌, ◌++◌, List, ℕ, ap, codes, subst, sym, append_assoc}
use Rattle.std.specs.Fmt.{decimal}
use Rattle.hg_io.specs.Printing.{Puts, desk}
use Rattle.hg_outcome.specs.Report.{with_number}
use Rattle.hg_pieces.specs.Pieces.{piece_text}
use Rattle.hg_report.proofs.printed.write_sync.Goals as goal

pub returns : goal.returns
returns g c =
    let sink = g.K.Sink in
    let p = c.sync_made_phrase-phrase.result in
    let r = c.args.report.now in
    let end : List ℕ = codes "\n" in
    let whole = sym (append_assoc (p.first.now ++ p.second.now) (piece_text p.detail) end ∙ append_assoc p.first.now p.second.now (piece_text p.detail ++ end))
    ∙ ap (λ (t : List ℕ). t ++ end) c.sync_made_phrase-phrase.ensures in
    subst (λ (t : List ℕ). Puts (desk sink c.args.sink.now c.args.page.now)
    (desk sink c.write_pieces.new.sink c.write_pieces.new.page)
    (decimal c.args.line ++ (with_number (codes " sync taken") r.taken ++ (with_number (codes " refused") r.refused ++ (codes " made " ++ t)))) c.write_pieces.result)
    whole c.write_pieces.ensures
