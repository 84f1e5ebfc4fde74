use Rattle.std.proofs.Common.{◌≡◌, ℕ, ◌&&◌, nat_lt, get_or, length, take}
use Rattle.hg_model.specs.GraphWords.{vote_in}
use Rattle.hg_bits.specs.Words.{has_bit}
use Rattle.hg_votes.proofs.CountLaws.{HoldsRound}
use Rattle.hg_votes.proofs.ballots.count_round.Given as goal

abbrev pub invariant-loop-slot : goal.invariant-loop-slot
invariant-loop-slot g l = record {
  len : length l.next ≡ length l.voted;
  ballots : HoldsRound (g.P.Prefix.graph l.p) l.x l.r (take l.slot l.witnesses) l.ballots;
  bits : (i : ℕ) → has_bit l.next i ≡ (nat_lt i l.slot && vote_in (g.P.Prefix.graph l.p) l.x (get_or l.witnesses i 0));
}
