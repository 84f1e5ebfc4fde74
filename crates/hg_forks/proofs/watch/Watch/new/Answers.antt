use Rattle.std.proofs.Common.{arith, refl}
use Rattle.hg_forks.proofs.WatchLaws.{keeps_none}
use Rattle.hg_forks.proofs.watch.Watch.new.Goals as goal

pub invariant_of-result : goal.invariant_of-result
invariant_of-result c =
    rw (c.new.ensures.items, c.in_ok-from_slice.ensures.items, c.in_ok-vec.ensures.items_if_clones_equal (λ y h. h)) (keeps_none c.args.stakes.now _ refl c.requires (λ m h. omega (arith, c.type_inv.stakes m)))
