use Rattle.std.proofs.Common.{ap, ◌∙◌, Bor}
use Rattle.clap.specs.Words.{Text, found_of}
use Rattle.hg_command.proofs.Readings.{text_found}
use Rattle.relay.proofs.request.text_at.Goals as goal

pub returns : goal.returns
returns c =
    ap (λ (s : Bor Text). s.now) c.unwrap_or.ensures
    ∙ text_found (found_of c.args.options.now) c.args.option.now c.get_str.result _ c.get_str.ensures
