use Rattle.std.proofs.Common.{[], ◌∷◌, map, ap, ◌∙◌, arith}
use Rattle.std.proofs.lemmas.List.{map-append}
use Rattle.hg_storm.specs.Refusals.{refusal_of, refusals_of}
use Rattle.hg_storm.proofs.NameLaws.{items_of}
use Rattle.hg_storm.proofs.WorldLaws.{mapped_all, mapped_more}
use Rattle.hg_storm.proofs.refusals.refused_of.Goals as goal

pub loop-log-init : goal.loop-log-init
loop-log-init c = ap (map items_of) c.new-refused.ensures.items

pub loop-log-preserved : goal.loop-log-preserved
loop-log-preserved c =
    mapped_more (refusals_of c.args.nodes.now) c.args.logs.now c.loop-log.log-index c.log-item.result c.in_ok-named.named.items (map items_of c.loop-log.refused.items)
    (map items_of c.push.new.self.items) (omega arith) c.log-item.is c.loop-log.invariant
    (c.in_ok-named.ensures ∙ (λ i. map (refusal_of c.args.nodes.now (c.as_slice.ensures.value i)) (c.as_slice-in-loop-log.ensures.value i)))
    (ap (map items_of) c.in_ok-push.ensures.items ∙ map-append items_of c.loop-log.refused.items (c.in_ok-named.named ∷ []))

pub returns : goal.returns
returns c = mapped_all (refusals_of c.args.nodes.now) c.args.logs.now c.loop-log.log-index (map items_of c.loop-log.refused.items) (omega arith) c.loop-log.invariant
