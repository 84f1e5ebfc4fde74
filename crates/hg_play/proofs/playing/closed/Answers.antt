use Rattle.std.proofs.Common.{◌∙◌, List, subst, sym}
use Rattle.hg_outcome.specs.declared.outcome.Printed.{Printed}
use Rattle.hg_play.specs.Nodes.{MatchesBlocks, seen_alone}
use Rattle.hg_play.proofs.playing.closed.Goals as goal

pub returns : goal.returns
returns c = record {
  names = c.in_ok-names.ensures;
  last = c.push_blocks.new.world;
  blocks = subst (λ (ps : List Printed). MatchesBlocks (seen_alone c.args.world) (seen_alone c.push_blocks.new.world) c.args.game.now.members.now c.args.tape.printed ps)
      (sym (c.from_vec.ensures ∙ c.into_printed.ensures)) c.in_ok-push_blocks.ensures.told;
  lawful = c.is_world.ensures.world;
}
