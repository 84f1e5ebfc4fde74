use Rattle.std.proofs.Common.{◌∙◌, List, ℕ, ap, ap₂}
use Rattle.hg_model.specs.Stakes.{stake_where}
use Rattle.hg_model.specs.Seeing.{is_supermajority, strongly_sees}
use Rattle.hg_plain_graph.specs.Tables.{cell_at}
use Rattle.hg_plain_graph.proofs.StepLaws.{weight_of_columns}
use Rattle.hg_plain_graph.proofs.strongly_seeing.is_strong.Goals as goal

pub returns : goal.returns
unfolding strongly_sees
returns c =
    let n = c.args.seeing.now.members in
    let L = c.args.seeing.now.links in
    c.is_supermajority.ensures
    ∙ ap₂ is_supermajority c.total.ensures.value
    (c.weigh_through.ensures ∙ (ap (λ (stakes : List ℕ). stake_where stakes (cell_at c.args.through.now c.args.x)) c.stakes.ensures.value
    ∙ weight_of_columns L n c.args.x c.args.y c.args.through.now c.requires.known c.requires.place))
