use Rattle.std.proofs.Common.{rules, [], ℕ, List, Some, ap, ◌∙◌}
use Rattle.hg_io.specs.Recorded.{calls_of}
use Rattle.hg_io.proofs.Recording.{recorded_at_rest}
use Rattle.hg_io.proofs.Tearing.{reads_first, rests_with}
use Rattle.hg_io.proofs.disk_mem.DiskMem.new.Goals as goal

pub invariant_of-result : goal.invariant_of-result
invariant_of-result c = (
  rw (c.in_ok-with_capacity.ensures.items, c.in_ok-with_capacity-2.ensures.items, c.in_ok-with_capacity-3.ensures.items, c.in_ok-with_capacity-4.ensures.items, c.in_ok-with_capacity-5.ensures.items)
      (recorded_at_rest []),
  search rules,
  search rules,
  search rules,
  search rules,
  search rules,
  search rules,
  search rules,
  search rules,
)

pub returns-clause-empty : goal.returns-clause-empty
returns-clause-empty c =
    ap (λ (l : List ℕ). Some l)
    (reads_first _ _ (ap (calls_of c.in_ok-with_capacity-4.field-0.items) c.in_ok-with_capacity-5.ensures.items) ∙ c.in_ok-with_capacity.ensures.items)

pub returns-clause-synced : goal.returns-clause-synced
returns-clause-synced c = rests_with _ _ (ap (calls_of c.in_ok-with_capacity-4.field-0.items) c.in_ok-with_capacity-5.ensures.items)
