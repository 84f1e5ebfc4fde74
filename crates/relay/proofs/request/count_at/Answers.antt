use Rattle.std.proofs.Common.{ℕ, Option, ap, arith, ◌∙◌, unwrap_or}
use Rattle.clap.specs.Words.{found_of}
use Rattle.hg_command.proofs.Readings.{number_found}
use Rattle.relay.proofs.request.count_at.Goals as goal

pub returns : goal.returns
returns c =
    c.unwrap_or.ensures ∙ ap (λ (o : Option ℕ). unwrap_or o 0)
    (number_found 32 (omega arith, omega arith) (found_of c.args.options.now) c.args.option.now c.get_one.result c.get_one.ensures.none c.get_one.ensures.value)
