use Rattle.std.proofs.Common.{rules, arith, ◌≡◌, ℕ, List, Some, length, ap, sym, ◌∙◌}
use Rattle.hg_io.specs.DiskState.{left_of}
use Rattle.hg_io.specs.Recorded.{calls_of}
use Rattle.hg_io.proofs.Recording.{recorded_at_rest}
use Rattle.hg_io.proofs.Tearing.{left_is_image, reads_first, rests_with}
use Rattle.hg_io.proofs.disk_mem.DiskMem.stopped.Goals as goal

pub invariant_of-self : goal.invariant_of-self
invariant_of-self c =
    let first : c.set_to.new.bytes.items ≡ c.set_both.new.bytes.items = search rules in
    let synced : c.set_both.new.synced.items ≡ c.set_both.new.bytes.items = c.set_both.ensures.synced ∙ sym c.set_both.ensures.bytes in (
      rw (first, synced, c.clear.ensures.items, c.clear-2.ensures.items) (recorded_at_rest c.set_both.new.bytes.items),
      omega (arith, ap length synced),
      omega (arith, ap length first),
      omega (arith, ap length first, ap length c.clear.ensures.items, c.set_both.ensures.short, c.self.invariant.2, c.self.invariant.3),
      search rules,
      search rules,
      search rules,
      search rules,
      search rules,
    )

pub returns-clause-may : goal.returns-clause-may
returns-clause-may c = left_is_image c.args.self c.args.all

pub returns-clause-synced : goal.returns-clause-synced
returns-clause-synced c = rests_with _ _ (ap (calls_of c.clear.new.self.items) c.clear-2.ensures.items)

pub returns-clause-left : goal.returns-clause-left
returns-clause-left c =
    let first : c.set_to.new.bytes.items ≡ left_of c.args.self c.args.all = search rules in
    ap (λ (l : List ℕ). Some l) (reads_first _ _ (ap (calls_of c.clear.new.self.items) c.clear-2.ensures.items) ∙ first)
