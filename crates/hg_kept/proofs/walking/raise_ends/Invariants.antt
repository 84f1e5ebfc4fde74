use Rattle.std.proofs.Common.{◌≡◌, length, vec_capacity}
use Rattle.hg_model.specs.Prefix.{links_of}
use Rattle.hg_kept.specs.Waiting.{AreRaised, HoldsJust}
use Rattle.hg_kept.proofs.WalkLaws.{is_below_by}
use Rattle.hg_kept.proofs.walking.raise_ends.Given as goal

abbrev pub invariant-loop-m : goal.invariant-loop-m
invariant-loop-m g l = let L = links_of (g.P.Prefix.graph l.p) in record {
  raised : AreRaised l.m l.fn.ends l.least l.ends;
  listed : HoldsJust l.fresh.items (length L) (is_below_by L l.fn.ends l.least l.m);
  room : vec_capacity l.fresh ≡ vec_capacity l.fn.fresh;
}
