use Rattle.std.proofs.Common.{◌≡◌, ℕ, ◌<◌, ◌≤◌, length, get_or}
use Rattle.std.specs.Prelude.{bit_or}
use Rattle.hg_bits.proofs.words.join.Given as goal

abbrev pub invariant-loop-k : goal.invariant-loop-k
invariant-loop-k l = record {
  len : length l.words ≡ length l.fn.words;
  joined : (j : ℕ) → j < l.k → get_or l.words j 0 ≡ bit_or (get_or l.fn.words j 0) (get_or l.others j 0);
  kept : (j : ℕ) → l.k ≤ j → get_or l.words j 0 ≡ get_or l.fn.words j 0;
}
