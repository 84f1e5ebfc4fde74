use Rattle.std.proofs.Common.{◌∙◌, sym, ap, subst, arith, length, slice_index, List, ℕ}
use Rattle.hg_model.specs.Places.{maximum_below}
use Rattle.hg_model.specs.Graph.{IsShaped}
use Rattle.hg_model.specs.Forks.{forkers}
use Rattle.hg_model.proofs.LinkLaws.{length-links}
use Rattle.hg_model.specs.Shape.{Shape}
use Rattle.hg_plain_graph.proofs.StepLaws.{last_round_known}
use Rattle.hg_plain_graph.proofs.sight.PlainSight.new.Goals as goal

pub rounds_of-requires-clause-short : goal.rounds_of-requires-clause-short
rounds_of-requires-clause-short c =
    let same = ap (λ (s : Shape). length s.links) c.in_ok-seeing.ensures in
    let len = length-links c.args.rows.now in
    omega (arith, same, len)

pub invariant_of-result : goal.invariant_of-result
invariant_of-result c = record {
  shaped = subst (λ (s : Shape). IsShaped s.members s.links) (sym c.in_ok-seeing.ensures) c.requires.shaped;
  strongly_sees = c.in_ok-strong.ensures;
  round_of = c.in_ok-rounds.ensures;
  forkers = c.plain_forkers.ensures ∙ ap (λ (s : Shape). forkers s.members s.links) (sym c.in_ok-seeing.ensures);
  last_round = c.greatest_of-greatest.ensures
      ∙ (ap (λ (rounds : List ℕ). maximum_below (λ x. slice_index rounds x) (length rounds)) c.deref-2.ensures.value
      ∙ last_round_known c.in_ok-seeing.seeing.members c.in_ok-seeing.seeing.links c.in_ok-rounds.rounds.items c.in_ok-rounds.ensures);
}
