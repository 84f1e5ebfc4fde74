use Rattle.std.proofs.Common.{◌∙◌, [], ap, refl}
use Rattle.hg_play.specs.Labels.{last_bytes}
use Rattle.hg_play.proofs.NodesLaws.{kept_same, told_by}
use Rattle.hg_play.proofs.nodes.WorldNodes.last_bytes.Goals as goal

pub returns-clause-kept : goal.returns-clause-kept
returns-clause-kept c = kept_same _

pub returns-clause-told : goal.returns-clause-told
returns-clause-told c = told_by c.last_bytes.result c.args.self.now c.args.self.now (λ w. []) _ _ (λ bytes is. (is ∙ ap last_bytes c.node.ensures.value, refl)) c.last_bytes.ensures
