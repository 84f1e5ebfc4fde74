use Rattle.std.proofs.Common.{◌≡◌, ◌∙◌, length, ap, subst, sym}
use Rattle.std.proofs.lemmas.Bool.{eqb-true}
use Rattle.hg_model.specs.GraphWords.{fame_in}
use Rattle.hg_fame.specs.Decisions.{AreWitnesses, fames_among}
use Rattle.hg_workers.specs.Turns.{IsElectable}
use Rattle.hg_workers.proofs.ElectionLaws.{none_decided}
use Rattle.hg_workers.proofs.voters.elected.Goals as goal

pub elect_open-requires-clause-places : goal.elect_open-requires-clause-places
elect_open-requires-clause-places c =
    let some = c.in-Some.field-0 in
    let items = c.in-Some.places-is in
    let all = c.as_slice.ensures.value in
    let same : some.places.items ≡ c.as_slice.result.now = cc in
    let electable = subst IsElectable c.in-Some.is c.requires in
    subst (AreWitnesses some.graph.graph (length some.graph.graph.rows)) same electable.1

pub returns-then-is_empty : goal.returns-then-is_empty
returns-then-is_empty c =
    let found = c.in_ok-found.found.marks in
    let some = c.in-Some.field-0 in
    let graph = c.in-Some.graph-is in
    let items = c.in-Some.places-is in
    let all = c.as_slice.ensures.value in
    let fames = c.in_ok-found.ensures.fames in
    let decided : found ≡ fames_among (fame_in some.graph.graph) some.places.items = cc in
    none_decided c.args.share c.args.opened some c.in-Some.is found decided
    (ap length (sym c.as_slice-2.ensures) ∙ eqb-true (length c.as_slice-2.result.now) 0 (sym c.is_empty.ensures ∙ c.if-is_empty.true))
