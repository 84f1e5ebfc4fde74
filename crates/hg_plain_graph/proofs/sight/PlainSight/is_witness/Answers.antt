use Rattle.std.proofs.Common.{◌<◌, ◌∙◌, ap₂, length, slice_index, List, ℕ}
use Rattle.hg_model.specs.Links.{Link}
use Rattle.hg_model.specs.Rounds.{is_witness_by}
use Rattle.hg_plain_graph.proofs.StepLaws.{is_witness_known}
use Rattle.hg_plain_graph.proofs.sight.PlainSight.is_witness.Goals as goal

pub returns : goal.returns
returns c =
    let n = c.self.inside.seeing.members in
    let L = c.self.inside.seeing.links in
    let inside : c.args.x < length L = rw c.self.view_is c.requires in
    let same = ap₂ (λ (rounds : List ℕ) (links : List Link). is_witness_by (λ p. slice_index rounds p) links c.args.x) c.deref.ensures.value (c.links.ensures ∙ c.ancestry.ensures.value) in
    rw (← c.self.view_is) (c.is_witness_by.ensures ∙ (same ∙ is_witness_known n L c.self.invariant.shaped.earlier _ c.args.x c.self.invariant.round_of inside))
