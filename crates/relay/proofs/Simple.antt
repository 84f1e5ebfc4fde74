-- The program's definition keeps to what clap decides by words alone
use Rattle.std.proofs.Common.{◌≡◌, true, refl}
use Rattle.clap.proofs.OnLiterals.{clap_on_literals}
use Rattle.clap.specs.Words.{is_simple, is_simple_and_free}
use Rattle.relay.specs.Words.{command}

pub command_is_free : is_simple_and_free command ≡ true
unfolding clap_on_literals command
command_is_free = refl

pub command_is_simple : is_simple command ≡ true
unfolding clap_on_literals command
command_is_simple = refl
