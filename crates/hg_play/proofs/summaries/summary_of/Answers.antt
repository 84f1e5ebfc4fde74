use Rattle.std.proofs.Common.{◌≡◌, ◌∙◌, List, ℕ, ap₂, arith, length, sym, subst}
use Rattle.std.specs.Prelude.{All}
use Rattle.std.proofs.lemmas.List.Elements.{All-nil}
use Rattle.hg_life.specs.Members.{has_node}
use Rattle.hg_model.specs.Places.{list_below}
use Rattle.hg_outcome.specs.declared.outcome.NodeSummary.{NodeSummary}
use Rattle.hg_outcome.specs.declared.outcome.Summary.{Summary}
use Rattle.hg_play.specs.Summaries.{IsTold, told_at}
use Rattle.hg_play.proofs.SummaryLaws.{all_told, told_more, told_none}
use Rattle.hg_play.proofs.summaries.summary_of.Goals as goal

pub loop-member-init : goal.loop-member-init
loop-member-init c = record {
  told = c.new-nodes.ensures.items ∙ told_none c.args.members.now c.args.world.now;
  each = subst (All (IsTold c.args.world.now)) (sym c.new-nodes.ensures.items) (All-nil (IsTold c.args.world.now));
}

pub loop-member-preserved : goal.loop-member-preserved
loop-member-preserved c = record {
  told = told_more c.args.members.now c.args.world.now c.loop-member.nodes.items c.push_told.new.nodes.items c.loop-member.member c.loop-member.invariant.told c.in_ok-push_told.ensures.pushed;
  each = c.in_ok-push_told.ensures.told;
}

pub returns : goal.returns
returns c =
    let members = c.args.members.now in
    let w = c.args.world.now in
    let all : c.loop-member.member ≡ length members.entries = omega (arith, c.count-member-end.ensures.value, c.loop-member-test.false, c.loop-member.auto.member-end) in
    let told : c.loop-member.nodes.items ≡ list_below (told_at w) (length members.entries) (has_node members) =
    subst (λ (k : ℕ). c.loop-member.nodes.items ≡ list_below (told_at w) k (has_node members)) all c.loop-member.invariant.told in
    ap₂ (λ (names : List (List ℕ)) (nodes : List NodeSummary). let s : Summary = record { names = names; nodes = nodes } in s) c.in_ok-names.ensures
    (c.from_vec.ensures ∙ (told ∙ all_told members w c.is_world.ensures.world c.requires.made (length members.entries) (omega (arith, c.requires.count))))
