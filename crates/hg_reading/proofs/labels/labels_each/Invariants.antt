use Rattle.std.proofs.Common.{◌≡◌, ◌≤◌, length, map}
use Rattle.std.specs.Prelude.{vec_capacity}
use Rattle.hg_script.specs.Argument.{label_of}
use Rattle.hg_script.specs.Words.{read_each}
use Rattle.hg_reading.proofs.WalkLaws.{and_then, left_of}
use Rattle.hg_reading.proofs.labels.labels_each.Given as goal

abbrev pub invariant-loop-word : goal.invariant-loop-word
invariant-loop-word l = record {
  read : read_each (label_of l.above.labels) (map (λ word. word.now) l.words) ≡ and_then l.labels.items (left_of (λ word. word.now) (label_of l.above.labels) l.words l.word-index);
  many : length l.labels.items ≡ l.word-index;
  room : length l.words ≤ vec_capacity l.labels;
}
