use Rattle.std.proofs.Common.{◌≡◌, ◌∙◌, ◌+◌, ℕ, option_map, arith, refl, sym, subst, ap}
use Rattle.hg_model.proofs.PrefixLaws.{round_read}
use Rattle.hg_fame.specs.Decisions.{IsUndecided, decision_by, decider_in}
use Rattle.hg_fame.proofs.DecisionLaws.{decided_by, decided_not, undecided_at_first, undecided_after, greatest_read}
use Rattle.hg_fame.proofs.electing.elect_within.Goals as goal

pub loop-round-init : goal.loop-round-init
loop-round-init g c =
    let graph = g.P.Prefix.graph c.args.p.now in
    let read = c.round-round.ensures ∙ round_read graph _ c.args.x (g.met.P.Prefix.has_rounds c.args.p.now) (omega (arith, c.requires.within, c.requires.place)) in
    record {
      made = c.open.ensures.made;
      candidate = c.open.ensures.candidate;
      counted = c.open.ensures.counted ∙ sym read;
      opened = omega (arith, c.open.ensures.opened, c.open.ensures.counted, read);
      above = omega (arith, read);
      undecided = subst (λ (r : ℕ). IsUndecided graph c.args.len c.args.x r) (sym read) (undecided_at_first graph c.args.len c.args.x);
    }

pub returns-then-is_some-clause-fame : goal.returns-then-is_some-clause-fame
returns-then-is_some-clause-fame g c =
    let graph = g.P.Prefix.graph c.args.p.now in
    let candidate = c.advance.ensures.candidate ∙ c.loop-round.invariant.candidate in
    let matches = subst (λ (x : ℕ). c.decision_in-decision.result ≡ option_map (decision_by graph x) (decider_in graph c.args.len x (c.loop-round.round + 1))) candidate c.decision_in-decision.ensures in
    (decided_by graph c.is_of_graph.ensures.shaped c.args.len c.args.x c.requires.within c.requires.place c.requires.witness c.loop-round.round _ c.decision_in-decision.result c.loop-round.invariant.undecided refl matches (sym c.is_some.ensures ∙ c.if-is_some.true)).fame

pub returns-then-is_some-clause-decider : goal.returns-then-is_some-clause-decider
returns-then-is_some-clause-decider g c =
    let graph = g.P.Prefix.graph c.args.p.now in
    let candidate = c.advance.ensures.candidate ∙ c.loop-round.invariant.candidate in
    let matches = subst (λ (x : ℕ). c.decision_in-decision.result ≡ option_map (decision_by graph x) (decider_in graph c.args.len x (c.loop-round.round + 1))) candidate c.decision_in-decision.ensures in
    (decided_by graph c.is_of_graph.ensures.shaped c.args.len c.args.x c.requires.within c.requires.place c.requires.witness c.loop-round.round _ c.decision_in-decision.result c.loop-round.invariant.undecided refl matches (sym c.is_some.ensures ∙ c.if-is_some.true)).decider

pub loop-round-preserved : goal.loop-round-preserved
loop-round-preserved g c =
    let graph = g.P.Prefix.graph c.args.p.now in
    let candidate = c.advance.ensures.candidate ∙ c.loop-round.invariant.candidate in
    let matches = subst (λ (x : ℕ). c.decision_in-decision.result ≡ option_map (decision_by graph x) (decider_in graph c.args.len x (c.loop-round.round + 1))) candidate c.decision_in-decision.ensures in
    record {
      made = c.advance.ensures.made;
      candidate = candidate;
      counted = c.advance.ensures.counted ∙ ap (λ (k : ℕ). k + 1) c.loop-round.invariant.counted;
      opened = omega arith;
      above = omega (arith, c.loop-round.invariant.above);
      undecided = undecided_after graph c.args.len c.args.x c.loop-round.round _ c.decision_in-decision.result refl matches (sym c.is_some.ensures ∙ c.if-is_some.false) c.loop-round.invariant.undecided;
    }

pub returns-clause-fame : goal.returns-clause-fame
returns-clause-fame g c =
    let graph = g.P.Prefix.graph c.args.p.now in
    (decided_not graph c.is_of_graph.ensures.shaped c.args.len c.args.x c.requires.within c.requires.place c.requires.witness c.loop-round.round
    (greatest_read graph _ c.greatest.result c.loop-round.round (g.met.P.Prefix.has_rounds c.args.p.now) c.greatest.ensures c.loop-round-test.false) c.loop-round.invariant.undecided).fame

pub returns-clause-decider : goal.returns-clause-decider
returns-clause-decider g c =
    let graph = g.P.Prefix.graph c.args.p.now in
    (decided_not graph c.is_of_graph.ensures.shaped c.args.len c.args.x c.requires.within c.requires.place c.requires.witness c.loop-round.round
    (greatest_read graph _ c.greatest.result c.loop-round.round (g.met.P.Prefix.has_rounds c.args.p.now) c.greatest.ensures c.loop-round-test.false) c.loop-round.invariant.undecided).decider
