use Rattle.std.proofs.Common.{◌≡◌, ◌-◌, ◌∙◌, ap, ap₂, length, ℕ, List, sym}
use Rattle.hg_service.specs.declared.answer.OrderedEvent.{OrderedEvent}
use Rattle.hg_service.specs.declared.answer.Answer.TheVariants as answer
use Rattle.hg_answering.specs.Telling.{ordered_events, window}
use Rattle.hg_answering.proofs.WindowLaws.{window_is}
use Rattle.hg_answering.proofs.ordering.order.Goals as goal

pub returns : goal.returns
returns g c =
    let all = ap length c.kept-all.ensures.order in
    let found = window_is (length c.kept-all.result.now) c.saturating_sub.result c.args.limit c.window_of-start.result (ordered_events c.args.node.now)
    (c.in_ok-events.ensures.each ∙ sym all) c.window_of-start.ensures in
    let events : c.from_vec.result ≡ window (c.args.first - 1) c.args.limit (ordered_events c.args.node.now) =
    c.from_vec.ensures ∙ (c.in_ok-events.ensures.events ∙ (found ∙ ap (λ (k : ℕ). window k c.args.limit (ordered_events c.args.node.now)) c.saturating_sub.ensures)) in
    ap₂ (λ (n : ℕ) (xs : List OrderedEvent). answer.Order n c.args.first xs) all events
