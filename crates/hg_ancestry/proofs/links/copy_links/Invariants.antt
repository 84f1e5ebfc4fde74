use Rattle.std.proofs.Common.{◌≡◌, take}
use Rattle.hg_ancestry.proofs.links.copy_links.Given as goal

abbrev pub invariant-loop-link : goal.invariant-loop-link
invariant-loop-link l = l.copy.items ≡ take l.link-index l.links
