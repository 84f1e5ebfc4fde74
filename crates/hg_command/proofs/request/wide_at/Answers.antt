use Rattle.std.proofs.Common.{arith}
use Rattle.clap.specs.Words.{found_of}
use Rattle.hg_command.proofs.Readings.{number_found}
use Rattle.hg_command.proofs.request.wide_at.Goals as goal

pub returns : goal.returns
returns c =
    number_found 64 (omega arith, omega arith) (found_of c.args.matches.now) c.args.option.now c.get_one.result c.get_one.ensures.none c.get_one.ensures.value
