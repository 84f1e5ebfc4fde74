use Rattle.std.proofs.Common.{◌≡◌, ◌∙◌, ◌+◌, ap, arith}
use Rattle.std.proofs.lemmas.List.Elements.{All-from_recursion}
use Rattle.hg_model.specs.Prefix.{links_of}
use Rattle.hg_model.specs.GraphWords.{last_round_in}
use Rattle.hg_model.specs.Standings.{greatest_in}
use Rattle.hg_model.proofs.PrefixLaws.{IsWitnessOf, witnesses_are}
use Rattle.hg_model.proofs.StandingLaws.{greatest_in-standings}
use Rattle.hg_node.specs.Opening.{is_open}
use Rattle.hg_node.proofs.OpenLaws.{opens_all, opens_more}
use Rattle.hg_node.proofs.open.open_places.Goals as goal

pub push_open-requires-clause-marked : goal.push_open-requires-clause-marked
push_open-requires-clause-marked g c = λ k d h.
    let graph = g.P.Prefix.graph c.args.p.now in
    let r = c.loop-before.before + 1 in
    let ws = c.witnesses-witnesses.result.now in
    let w = All-from_recursion (IsWitnessOf graph r) ws (witnesses_are graph r _ ws (g.met.P.Prefix.has_rounds c.args.p.now) c.witnesses-witnesses.ensures) k d h in
    omega (arith, w.place, c.requires.keeps.even)

pub push_open-requires-clause-numbered : goal.push_open-requires-clause-numbered
push_open-requires-clause-numbered g c = λ k d h.
    let graph = g.P.Prefix.graph c.args.p.now in
    let r = c.loop-before.before + 1 in
    let ws = c.witnesses-witnesses.result.now in
    let w = All-from_recursion (IsWitnessOf graph r) ws (witnesses_are graph r _ ws (g.met.P.Prefix.has_rounds c.args.p.now) c.witnesses-witnesses.ensures) k d h in
    omega (arith, w.place, c.requires.made.voters.long)

pub loop-before-preserved : goal.loop-before-preserved
loop-before-preserved g c =
    opens_more (g.P.Prefix.graph c.args.p.now) (is_open c.args.votes.now c.args.kept.now.published.marks c.args.share c.args.len) c.args.kept.now.published.closed c.loop-before.before
    c.loop-before.places.items c.push_open.new.places.items c.loop-before.invariant _ c.witnesses-witnesses.result.now (g.met.P.Prefix.has_rounds c.args.p.now) c.witnesses-witnesses.ensures c.in_ok-push_open.ensures

pub returns : goal.returns
returns g c =
    let graph = g.P.Prefix.graph c.args.p.now in
    let top : c.greatest.result ≡ last_round_in graph = c.greatest.ensures ∙ (ap greatest_in (g.met.P.Prefix.has_rounds c.args.p.now) ∙ greatest_in-standings graph.members (links_of graph)) in
    opens_all graph c.args.votes.now c.args.kept.now.published.marks c.args.share c.args.len c.args.kept.now.published.closed c.loop-before.before c.loop-before.places.items
    c.loop-before.invariant c.requires.made c.requires.keeps.closed (omega (arith, top, c.loop-before-test.false, c.loop-before.auto.before-end, c.saturating_sub-before-end.ensures)) c.requires.within
