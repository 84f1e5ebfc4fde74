use Rattle.std.proofs.Common.{◌≡◌, false, slice_index_or, take}
use Rattle.std.specs.List.{list_any}
use Rattle.hg_plain_graph.proofs.ancestry.holds_any.Given as goal

abbrev pub invariant-loop-place : goal.invariant-loop-place
invariant-loop-place l = list_any (λ p. slice_index_or l.column p false) (take l.place-index l.places) ≡ false
