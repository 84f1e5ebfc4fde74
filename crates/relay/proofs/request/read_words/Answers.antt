use Rattle.std.proofs.Common.{◌≡◌, [], ◌∷◌, Option, None, option_map, refl, arith}
use Rattle.std.proofs.lemmas.Grind.{common_steps}
use Rattle.clap.specs.Words.{Kinds, fault_of, subcommand_of}
use Rattle.hg_command.specs.Asked.{texts}
use Rattle.relay.specs.Words.{Asked, asked_by, command, unless_faulty}
use Rattle.relay.proofs.request.read_words.Goals as goal

-- nothing is asked for where there is a fault
none_asked : (kinds : Kinds) (found : Option Asked) → (kinds ≡ [] → ⊥) → None ≡ unless_faulty kinds found
none_asked [] found some = absurd (some refl)
none_asked (kind ∷ kinds) found some = refl

pub returns-in_default : goal.returns-in_default
returns-in_default c =
    let words = texts c.args.words.now in
    none_asked (fault_of command words) (option_map asked_by (subcommand_of command words))
    (λ none. let there = c.in_ok-matches.ensures.accepted.1 none in grind (arith, common_steps))
