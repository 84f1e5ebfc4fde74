use Rattle.std.proofs.Common.{◌≡◌, ◌<◌, ◌∙◌, length, subst, sym}
use Rattle.std.specs.Prelude.{vec_capacity}
use Rattle.hg_life.specs.Signing.{accepts_by}
use Rattle.hg_gossip.proofs.AloneLaws.{made_alone, waits_alone}
use Rattle.hg_world.specs.World.{Secrets, WorldView, site_of, with_site}
use Rattle.hg_world.specs.Syncs.{HasMadeAfter}
use Rattle.hg_world.specs.Parts.{KeepsParts, world_like}
use Rattle.hg_world.proofs.PartLaws.{changed, low_in}
use Rattle.hg_world.proofs.PullLaws.{errs}
use Rattle.hg_world.proofs.TookLaws.{made_changes, made_so, same_is, would_make}
use Rattle.hg_world.proofs.world.World.make_after.Goals as goal

pub invariant_of-self : goal.invariant_of-self
invariant_of-self c =
    let w : WorldView = world_like c.self.inside.first.value c.self.inside.sites.items in
    let low : c.args.member < length w.sites = low_in w c.args.self.now c.args.member c.self.view_is c.requires in
    let same : c.make_after.new.taker ≡ c.index_mut.result.now.node = waits_alone Secrets accepts_by c.index_mut.result.now.node c.make_after.new.taker c.in_err-made.ensures.err in
    (subst (λ (u : WorldView). KeepsParts u c.self.inside.known (vec_capacity c.self.inside.spare)) (sym (same_is w c.args.member low c.index_mut.result.now c.index_mut.ensures.value c.make_after.new.taker same)) c.self.invariant.0, c.self.invariant.1)

pub returns-in_err-made-clause-err : goal.returns-in_err-made-clause-err
returns-in_err-made-clause-err c =
    let w : WorldView = world_like c.self.inside.first.value c.self.inside.sites.items in
    let low : c.args.member < length w.sites = low_in w c.args.self.now c.args.member c.self.view_is c.requires in
    let same : c.make_after.new.taker ≡ c.index_mut.result.now.node = waits_alone Secrets accepts_by c.index_mut.result.now.node c.make_after.new.taker c.in_err-made.ensures.err in
    errs c.from_residual.result _ (same_is w c.args.member low c.index_mut.result.now c.index_mut.ensures.value c.make_after.new.taker same ∙ c.self.view_is)

pub returns-in_err-made-clause-free : goal.returns-in_err-made-clause-free
returns-in_err-made-clause-free c =
    let w : WorldView = world_like c.self.inside.first.value c.self.inside.sites.items in
    let low : c.args.member < length w.sites = low_in w c.args.self.now c.args.member c.self.view_is c.requires in
    let site = c.index_mut.result.now in
    let same : c.make_after.new.taker ≡ site.node = waits_alone Secrets accepts_by site.node c.make_after.new.taker c.in_err-made.ensures.err in
    errs c.from_residual.result _
    (would_make w c.args.member low site c.index_mut.ensures.value c.make_after.new.taker c.args.self.now c.self.view_is same c.args.other c.args.payload.now c.in_err-made.ensures.free)

pub invariant_of-self-2 : goal.invariant_of-self-2
invariant_of-self-2 c =
    let w : WorldView = world_like c.self.inside.first.value c.self.inside.sites.items in
    let low : c.args.member < length w.sites = low_in w c.args.self.now c.args.member c.self.view_is c.requires in
    let v = c.index_mut.result.now.node in
    let on = made_alone accepts_by v c.make_after.new.taker c.args.other c.args.time c.args.payload.now c.in_ok-made.made c.in_ok-made.ensures.ok in
    let some = made_changes v c.make_after.new.taker c.args.other c.args.time c.args.payload.now c.in_ok-made.made on in
    (changed w c.self.inside.known (vec_capacity c.self.inside.spare) c.self.invariant.0 c.args.member low c.index_mut.result.now c.index_mut.ensures.value c.make_after.new.taker some.0 some.1 c.is_node.ensures, c.self.invariant.1)

pub returns-clause-ok : goal.returns-clause-ok
returns-clause-ok c =
    let w : WorldView = world_like c.self.inside.first.value c.self.inside.sites.items in
    let low : c.args.member < length w.sites = low_in w c.args.self.now c.args.member c.self.view_is c.requires in
    let v = c.index_mut.result.now.node in
    let on = made_alone accepts_by v c.make_after.new.taker c.args.other c.args.time c.args.payload.now c.in_ok-made.made c.in_ok-made.ensures.ok in
    subst (λ (u : WorldView). HasMadeAfter u c.args.member c.args.other c.args.time c.args.payload.now c.in_ok-made.made (with_site w c.args.member (site_of c.make_after.new.taker c.index_mut.result.now.frozen))) c.self.view_is
    (made_so w c.args.member low c.index_mut.result.now c.index_mut.ensures.value c.make_after.new.taker c.args.other c.args.time c.args.payload.now c.in_ok-made.made on)
