use Rattle.std.proofs.Common.{◌∙◌, ◌-◌, ap, ℕ}
use Rattle.hg_answering.proofs.TellLaws.{waiting_noted}
use Rattle.hg_answering.proofs.telling.waiting.Goals as goal

pub returns : goal.returns
returns g c = waiting_noted c.args.members.now c.args.node.now c.args.notes.now c.requires c.saturating_sub.result
    (c.saturating_sub.ensures ∙ ap (λ (k : ℕ). k - c.args.notes.now.order.payloads) c.payloads.ensures)
