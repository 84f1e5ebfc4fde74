use Rattle.std.proofs.Common.{◌≡◌, ◌<◌, ◌∙◌, length, refl, ap}
use Rattle.std.specs.Prelude.{vec_capacity}
use Rattle.hg_life.specs.Calls.{make_changes}
use Rattle.hg_world.specs.World.{Site, WorldView, node_at, with_node_at}
use Rattle.hg_world.specs.Steps.{node_made, own_signature}
use Rattle.hg_world.specs.Parts.{world_like}
use Rattle.hg_world.proofs.NodeLaws.{makes}
use Rattle.hg_world.proofs.PartLaws.{changed, low_in}
use Rattle.hg_world.proofs.WorldLaws.{set_node, site_here}
use Rattle.hg_world.proofs.world.World.make.Goals as goal

pub invariant_of-self-2 : goal.invariant_of-self-2
invariant_of-self-2 c =
    let w : WorldView = world_like c.self.inside.first.value c.self.inside.sites.items in
    let low : c.args.member < length w.sites = low_in w c.args.self.now c.args.member c.self.view_is c.requires.member in
    let v = c.index_mut.result.now.node in
    let others = c.args.others.now in (
      changed w c.self.inside.known (vec_capacity c.self.inside.spare) c.self.invariant.0 c.args.member low c.index_mut.result.now c.index_mut.ensures.value
          c.make.new.self (make_changes v others c.args.time c.args.payload.now (own_signature v others c.args.time c.args.payload.now))
          (makes v v c.make.new.self others c.args.time c.args.payload.now c.in_ok-answer.answer refl c.in_ok-answer.ensures.ok).1 c.is_node.ensures,
      c.self.invariant.1,
    )

pub returns-clause-answer : goal.returns-clause-answer
returns-clause-answer c =
    let w : WorldView = world_like c.self.inside.first.value c.self.inside.sites.items in
    let low : c.args.member < length w.sites = low_in w c.args.self.now c.args.member c.self.view_is c.requires.member in
    let here : c.index_mut.result.now.node ≡ node_at c.args.self.now c.args.member =
    ap (λ (s : Site). s.node) (site_here w c.args.member low c.index_mut.result.now c.index_mut.ensures.value) ∙ ap (λ (u : WorldView). node_at u c.args.member) c.self.view_is in
    (makes (node_at c.args.self.now c.args.member) c.index_mut.result.now.node c.make.new.self c.args.others.now c.args.time c.args.payload.now c.in_ok-answer.answer here c.in_ok-answer.ensures.ok).0

pub returns-clause-ok : goal.returns-clause-ok
returns-clause-ok c =
    let w : WorldView = world_like c.self.inside.first.value c.self.inside.sites.items in
    let low : c.args.member < length w.sites = low_in w c.args.self.now c.args.member c.self.view_is c.requires.member in
    let others = c.args.others.now in
    let here : c.index_mut.result.now.node ≡ node_at w c.args.member = ap (λ (s : Site). s.node) (site_here w c.args.member low c.index_mut.result.now c.index_mut.ensures.value) in
    set_node w c.args.member low c.index_mut.result.now c.index_mut.ensures.value c.make.new.self
    ∙ (ap (with_node_at w c.args.member) (makes (node_at w c.args.member) c.index_mut.result.now.node c.make.new.self others c.args.time c.args.payload.now c.in_ok-answer.answer here c.in_ok-answer.ensures.ok).1
    ∙ ap (λ (u : WorldView). with_node_at u c.args.member (node_made (node_at u c.args.member) others c.args.time c.args.payload.now)) c.self.view_is)
