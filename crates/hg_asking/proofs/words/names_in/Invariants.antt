use Rattle.std.proofs.Common.{◌≡◌, ◌≤◌, length, map}
use Rattle.std.specs.Prelude.{vec_capacity}
use Rattle.hg_script.specs.Words.{read_each}
use Rattle.hg_service.specs.Asking.{name_in}
use Rattle.hg_reading.proofs.WalkLaws.{and_then, left_of}
use Rattle.hg_asking.proofs.words.names_in.Given as goal

abbrev pub invariant-loop-word : goal.invariant-loop-word
invariant-loop-word l = record {
  read : read_each name_in (map (λ word. word.now) l.words) ≡ and_then l.names.items (left_of (λ word. word.now) name_in l.words l.word-index);
  many : length l.names.items ≡ l.word-index;
  room : length l.words ≤ vec_capacity l.names;
}
