use Rattle.std.proofs.Common.{◌<◌, length, subst}
use Rattle.std.specs.Prelude.{IfOk, OnErr, vec_capacity}
use Rattle.hg_gossip.specs.Taking.{bytes_of}
use Rattle.hg_world.specs.World.{WorldView, site_of, with_site}
use Rattle.hg_world.specs.Steps.{RanFirst}
use Rattle.hg_world.specs.Syncs.{HasTaken, deliver_steps}
use Rattle.hg_world.specs.Parts.{world_like}
use Rattle.hg_world.proofs.PartLaws.{changed, low_in}
use Rattle.hg_world.proofs.TookLaws.{all_of, grown, some_of, took_all, took_some}
use Rattle.hg_world.proofs.world.World.take.Goals as goal

pub invariant_of-self : goal.invariant_of-self
invariant_of-self c =
    let w : WorldView = world_like c.self.inside.first.value c.self.inside.sites.items in
    let low : c.args.member < length w.sites = low_in w c.args.self.now c.args.member c.self.view_is c.requires.member in
    let some = grown c.index_mut.result.now.node c.take_events-counts.new.taker (bytes_of c.args.events.now) c.take_events-counts.result c.take_events-counts.ensures.ok c.take_events-counts.ensures.err in (
      changed w c.self.inside.known (vec_capacity c.self.inside.spare) c.self.invariant.0 c.args.member low c.index_mut.result.now c.index_mut.ensures.value
          c.take_events-counts.new.taker some.0 some.1 c.is_node.ensures,
      c.self.invariant.1,
    )

pub returns-clause-ok : goal.returns-clause-ok
returns-clause-ok c =
    let w : WorldView = world_like c.self.inside.first.value c.self.inside.sites.items in
    let low : c.args.member < length w.sites = low_in w c.args.self.now c.args.member c.self.view_is c.requires.member in
    let new = with_site w c.args.member (site_of c.take_events-counts.new.taker c.index_mut.result.now.frozen) in
    subst (λ (u : WorldView). IfOk c.take_events-counts.result (λ counts. HasTaken u c.args.member (bytes_of c.args.events.now) counts new)) c.self.view_is
    (all_of c.take_events-counts.result _ _ (took_all w c.args.member low c.index_mut.result.now c.index_mut.ensures.value c.take_events-counts.new.taker (bytes_of c.args.events.now)) c.take_events-counts.ensures.ok)

pub returns-clause-err : goal.returns-clause-err
returns-clause-err c =
    let w : WorldView = world_like c.self.inside.first.value c.self.inside.sites.items in
    let low : c.args.member < length w.sites = low_in w c.args.self.now c.args.member c.self.view_is c.requires.member in
    let new = with_site w c.args.member (site_of c.take_events-counts.new.taker c.index_mut.result.now.frozen) in
    subst (λ (u : WorldView). OnErr c.take_events-counts.result (RanFirst u (deliver_steps c.args.member (bytes_of c.args.events.now)) new)) c.self.view_is
    (some_of c.take_events-counts.result _ _ (took_some w c.args.member low c.index_mut.result.now c.index_mut.ensures.value c.take_events-counts.new.taker (bytes_of c.args.events.now)) c.take_events-counts.ensures.err)
