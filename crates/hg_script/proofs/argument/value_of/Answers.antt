use Rattle.std.proofs.Common.{sym, ◌∙◌, arith}
use Rattle.hg_script.proofs.Numbers.{below_stops}
use Rattle.hg_script.proofs.argument.value_of.Goals as goal

pub returns-in_default : goal.returns-in_default
returns-in_default c =
    below_stops c.args.word.now c.loop-digit.digit-index c.loop-digit.value (omega arith) c.loop-digit.invariant.spelled
    (sym c.is_digit.ensures ∙ c.if-not-is_digit.false) (omega (arith, c.in_default.ensures))
