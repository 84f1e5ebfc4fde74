use Rattle.std.proofs.Common.{◌≡◌, ◌<◌, ◌^◌, drop}
use Rattle.hg_script.specs.Argument.{value_after}
use Rattle.hg_script.proofs.argument.value_of.Given as goal

abbrev pub invariant-loop-digit : goal.invariant-loop-digit
invariant-loop-digit l = record {
  spelled : value_after 0 l.word ≡ value_after l.value (drop l.digit-index l.word);
  fits : l.value < 2 ^ 64;
}
