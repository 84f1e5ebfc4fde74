use Rattle.std.proofs.Common.{◌∙◌}
use Rattle.hg_event.proofs.Spells.{parts_again}
use Rattle.hg_event.proofs.event.Event.view.Goals as goal

pub invariant_of-result : goal.invariant_of-result
invariant_of-result c =
    let again = parts_again _ _ _ _ _ _ c.self.invariant c.as_slice-bytes.ensures c.saturating_sub.ensures c.names_of.ensures c.as_slice.ensures in
    record { spelled = again.0 }

pub returns : goal.returns
returns c =
    let again = parts_again _ _ _ _ _ _ c.self.invariant c.as_slice-bytes.ensures c.saturating_sub.ensures c.names_of.ensures c.as_slice.ensures in
    again.1 ∙ c.self.view_is
