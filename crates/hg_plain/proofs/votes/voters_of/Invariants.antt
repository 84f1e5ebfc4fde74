use Rattle.std.proofs.Common.{◌≡◌}
use Rattle.hg_model.specs.Places.{list_below}
use Rattle.hg_model.specs.Prefix.{links_of}
use Rattle.hg_model.specs.Votes.{is_voter}
use Rattle.hg_plain.proofs.votes.voters_of.Given as goal

abbrev pub invariant-loop-w : goal.invariant-loop-w
invariant-loop-w l = l.voters.items ≡ list_below (λ w. w) l.w (is_voter l.p.members (links_of l.p) l.y)
