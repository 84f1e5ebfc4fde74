use Rattle.std.proofs.Common.{◌≡◌, ℕ, ◌&&◌, nat_lt, get_or, length}
use Rattle.hg_model.specs.GraphWords.{strongly_sees_in}
use Rattle.hg_bits.specs.Words.{has_bit}
use Rattle.hg_votes.proofs.slots.mark_seen.Given as goal

abbrev pub invariant-loop-slot : goal.invariant-loop-slot
invariant-loop-slot g l = record {
  len : length l.words ≡ length l.fn.words;
  bits : (i : ℕ) → has_bit l.words i ≡ (nat_lt i l.slot && strongly_sees_in (g.S.Sight.shape l.sight) l.y (get_or l.rows i 0));
}
