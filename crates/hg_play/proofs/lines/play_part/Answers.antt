use Rattle.std.proofs.Common.{◌∙◌, List, ℕ, ap, subst}
use Rattle.hg_outcome.specs.declared.outcome.Printed.{Printed}
use Rattle.hg_script.specs.declared.line.Part.{Part}
use Rattle.hg_script.specs.declared.line.Part.TheVariants as part
use Rattle.hg_script.specs.declared.line.Action.TheVariants as action
use Rattle.hg_play.specs.Lines.{part_line}
use Rattle.hg_play.specs.Nodes.{MatchesGossip}
use Rattle.hg_play.specs.Tape.{with_piece}
use Rattle.hg_play.proofs.NodesLaws.{line_told}
use Rattle.hg_play.proofs.lines.play_part.Goals as goal

pub returns-in_ok-print-in-Gossip-clause-told : goal.returns-in_ok-print-in-Gossip-clause-told
returns-in_ok-print-in-Gossip-clause-told g c =
    let old = g.N.Nodes.seen c.args.nodes.now in
    let new = g.N.Nodes.seen c.play_gossip.new.nodes in
    line_told old new c.args.game.now.members.now (part_line c.args.line c.args.part.now) (action.Part (part.Gossip c.in-Gossip.gossip)) c.args.tape.now c.print.new.self (ap (λ (p : Part). action.Part p) c.in-Gossip.is)
    (λ alone w agrees.
    let told : MatchesGossip old new c.args.tape.now.labels c.args.line c.in-Gossip.gossip c.in_ok-piece-in-Gossip.piece =
    subst (λ (ls : List (List ℕ)). MatchesGossip old new ls c.args.line c.in-Gossip.gossip c.in_ok-piece-in-Gossip.piece) c.labels.ensures c.in_ok-piece-in-Gossip.ensures.told in
    let t = told alone w agrees in ((λ begun. c.in_ok-print-in-Gossip.ensures ∙ ap (λ (p : Printed). with_piece c.args.tape.now p) t.0), t.1))
