use Rattle.std.proofs.Common.{ap, inl, refl, ◌∙◌}
use Rattle.hg_wire.specs.declared.progress.Stage.TheVariants.{AtHead}
use Rattle.hg_wire.specs.Progress.{field_at}
use Rattle.hg_wire.proofs.Settled.{means_waits, new_means}
use Rattle.hg_wire.proofs.Turning.{open_waits}
use Rattle.hg_wire.proofs.ear.Ear.new.Goals as goal

pub invariant_of-result : goal.invariant_of-result
invariant_of-result c = inl (ap (field_at _ AtHead) c.new-3.ensures.items ∙ open_waits _ AtHead refl)

pub returns-clause-heard : goal.returns-clause-heard
returns-clause-heard c =
    new_means (record { progress = record { alloc = c.args.alloc; want = c.args.want; stage = AtHead; names = c.new.result; rows = c.new-2.result }; pending = c.new-3.result })
    refl c.new.ensures.items c.new-2.ensures.items c.new-3.ensures.items

pub returns-clause-waits : goal.returns-clause-waits
returns-clause-waits c =
    means_waits (record { progress = record { alloc = c.args.alloc; want = c.args.want; stage = AtHead; names = c.new.result; rows = c.new-2.result }; pending = c.new-3.result })
    (ap (field_at _ AtHead) c.new-3.ensures.items ∙ open_waits _ AtHead refl)
