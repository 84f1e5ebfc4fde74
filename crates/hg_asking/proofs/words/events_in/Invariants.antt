use Rattle.std.proofs.Common.{◌≡◌, map}
use Rattle.hg_script.specs.Words.{read_each}
use Rattle.hg_service.specs.Asking.{event_in}
use Rattle.hg_reading.proofs.WalkLaws.{and_then, left_of}
use Rattle.hg_asking.proofs.words.events_in.Given as goal

abbrev pub invariant-loop-word : goal.invariant-loop-word
invariant-loop-word l =
    read_each event_in (map (λ word. word.now) l.words) ≡ and_then l.events.items (left_of (λ word. word.now) event_in l.words l.word-index)
