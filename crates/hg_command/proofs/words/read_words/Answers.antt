use Rattle.std.proofs.Common.{◌≡◌, [], ◌∷◌, Option, None, option_and_then, refl, arith}
use Rattle.std.proofs.lemmas.Grind.{common_steps}
use Rattle.clap.specs.Words.{Kinds, fault_of, subcommand_of}
use Rattle.hg_command.specs.Asked.{Asked, asked_in, command, texts, unless_faulty, within_ranges}
use Rattle.hg_command.proofs.words.read_words.Goals as goal

-- nothing is asked for where there is a fault
none_asked : (kinds : Kinds) (found : Option Asked) → (kinds ≡ [] → ⊥) → None ≡ option_and_then within_ranges (unless_faulty kinds found)
none_asked [] found some = absurd (some refl)
none_asked (kind ∷ kinds) found some = refl

pub returns-in_default-clause-request : goal.returns-in_default-clause-request
returns-in_default-clause-request c =
    let words = texts c.args.words.now in
    none_asked (fault_of command words) (option_and_then asked_in (subcommand_of command words))
    (λ none. let there = c.in_ok-matches.ensures.accepted.1 none in grind (arith, common_steps))
