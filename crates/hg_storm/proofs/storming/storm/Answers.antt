use Rattle.std.proofs.Common.{◌∙◌, ℕ, List, All, ap, arith, length, map, refl, subst, sym}
use Rattle.hg_life.specs.NodeView.{NodeView}
use Rattle.hg_world.specs.World.{Secrets, WorldView, nodes_of}
use Rattle.hg_storm.specs.declared.desk.Log.{Log}
use Rattle.hg_storm.specs.declared.plan.Plan.{Plan}
use Rattle.hg_storm.specs.Joins.{AreTold, HasSession}
use Rattle.hg_storm.specs.Mails.{AreMailsOf}
use Rattle.hg_storm.specs.Refusals.{HaveRows, refusals_of}
use Rattle.hg_storm.specs.Storm.{gathered, world_again}
use Rattle.hg_storm.proofs.NameLaws.{have_rows, idle_long, refused_long, taken_names}
use Rattle.hg_storm.proofs.SentLaws.{are_collected, are_mails}
use Rattle.hg_storm.proofs.WorldLaws.{begun_count, begun_empty, begun_room, circle_members, ends_again, ends_many, ends_members, ends_of_one_list, ends_start, is_circle, world_count}
use Rattle.hg_storm.proofs.storming.storm.Goals as goal

pub run_threads-requires-clause-few : goal.run_threads-requires-clause-few
run_threads-requires-clause-few g c κs within =
    let members = c.args.members.now in
    let are = c.into_nodes-first.ensures.nodes ∙ ap nodes_of c.in_ok-begun.ensures in
    omega (arith, ap length are, begun_count members, c.is_lawful.ensures.few)

pub run_threads-requires-clause-new : goal.run_threads-requires-clause-new
run_threads-requires-clause-new g c κs within =
    begun_empty c.args.members.now c.into_nodes-first.result.items (c.into_nodes-first.ensures.nodes ∙ ap nodes_of c.in_ok-begun.ensures)

pub run_threads-requires-clause-limits : goal.run_threads-requires-clause-limits
run_threads-requires-clause-limits g c κs within =
    begun_room c.args.members.now c.into_nodes-first.result.items (c.into_nodes-first.ensures.nodes ∙ ap nodes_of c.in_ok-begun.ensures)

pub run_threads-requires-clause-circle : goal.run_threads-requires-clause-circle
run_threads-requires-clause-circle g c κs within =
    let members = c.args.members.now in
    let are = c.into_nodes-first.ensures.nodes ∙ ap nodes_of c.in_ok-begun.ensures in
    is_circle members (record { circle = c.in_ok-circle_of.field-0; turns = c.args.turns; seed = c.args.seed }) (length c.into_nodes-first.result.items)
    c.is_lawful.ensures c.in_ok-circle_of.ensures (ap length are ∙ begun_count members)

pub mails_of-requires-clause-circle : goal.mails_of-requires-clause-circle
mails_of-requires-clause-circle g c =
    let are = c.into_nodes-first.ensures.nodes ∙ ap nodes_of c.in_ok-begun.ensures in
    ends_members c.into_nodes-first.result.items c.in_ok-joined.joined.nodes.items c.in_ok-joined.ensures.session c.args.members.now c.is_lawful.ensures are
    c.as_slice.result.now (c.as_slice.ensures.value ∙ c.in_ok-circle_of.ensures)

pub refused_of-requires : goal.refused_of-requires
refused_of-requires g c =
    let joined = c.in_ok-joined.joined in
    subst (λ (x : List (NodeView Secrets) × List Log). All (HaveRows x.0) x.1) (λ i. (sym c.as_slice-2.ensures.value i, sym c.as_slice-3.ensures.value i))
    (have_rows (record { circle = c.in_ok-circle_of.field-0; turns = c.args.turns; seed = c.args.seed }) c.args.room joined.nodes.items joined.logs.items joined.left.items c.in_ok-joined.ensures.told)

pub from_nodes-requires : goal.from_nodes-requires
from_nodes-requires g c =
    ends_of_one_list c.into_nodes-first.result.items c.in_ok-joined.joined.nodes.items c.in_ok-joined.ensures.session c.into_nodes-first.ensures.lawful

pub gather-requires : goal.gather-requires
gather-requires g c =
    let members = c.args.members.now in
    let are = c.into_nodes-first.ensures.nodes ∙ ap nodes_of c.in_ok-begun.ensures in
    circle_members members c.in-Ok.world c.as_slice-6.result.now (c.as_slice-6.ensures.value ∙ c.in_ok-circle_of.ensures)
    (world_count c.into_nodes-first.result.items c.in_ok-joined.joined.nodes.items c.in_ok-joined.ensures.session members c.is_lawful.ensures are c.in-Ok.world c.in-Ok.ensures.ok)

pub returns : goal.returns
returns g c =
    let members = c.args.members.now in
    let first = c.into_nodes-first.result.items in
    let ends = c.in_ok-joined.joined.nodes.items in
    let are = c.into_nodes-first.ensures.nodes ∙ ap nodes_of c.in_ok-begun.ensures in
    let session = c.in_ok-joined.ensures.session in
    let joined = ends_again first ends session members c.is_lawful.ensures are c.in-Ok.world c.in-Ok.ensures.ok c.in-Ok.ensures.members c.in-Ok.ensures.coin in
    let all = c.in_ok-joined.joined in
    let plan : Plan = record { circle = c.in_ok-circle_of.field-0; turns = c.args.turns; seed = c.args.seed } in
    let told : AreTold plan c.args.room all.nodes.items all.logs.items all.left.items = c.in_ok-joined.ensures.told in
    let mails : AreMailsOf all plan.circle.items c.in_ok-mail.mail.items = subst (λ (circle : List ℕ). AreMailsOf all circle c.in_ok-mail.mail.items) c.as_slice.ensures.value c.in_ok-mail.ensures in
    let below = ends_members first ends session members c.is_lawful.ensures are plan.circle.items c.in_ok-circle_of.ensures in
    let idle = c.in_ok-idle.ensures ∙ ap (map (λ (h : Log). h.idle)) c.as_slice-4.ensures.value in
    let refused = c.in_ok-refused.ensures ∙ (λ i. map (refusals_of (c.as_slice-2.ensures.value i)) (c.as_slice-3.ensures.value i)) in
    record {
      plan = record { circle = c.in_ok-circle_of.field-0; turns = c.args.turns; seed = c.args.seed };
      circle = c.in_ok-circle_of.ensures;
      turns = refl;
      seed = refl;
      ends = ends;
      count = ends_many first ends session members c.is_lawful.ensures are;
      starts = ends_start first ends session members c.is_lawful.ensures are;
      session = subst (λ (nodes : List (NodeView Secrets)). HasSession nodes ends) are session;
      mail = are_mails members c.args.room all plan told c.in_ok-circle_of.ensures below c.in_ok-mail.mail.items mails c.in_ok-idle.idle.items idle;
      ports_count = c.in_ok-joined.ensures.collected.count;
      collected = are_collected members c.args.room all plan told c.in_ok-circle_of.ensures below c.in_ok-mail.mail.items mails all.ports.items c.in_ok-joined.ensures.collected;
      idle_count = idle_long members c.args.room all plan told c.in_ok-circle_of.ensures c.in_ok-mail.mail.items mails c.in_ok-idle.idle.items c.in_ok-refused.refused.items idle refused;
      refused_count = refused_long members c.args.room all plan told c.in_ok-circle_of.ensures c.in_ok-mail.mail.items mails c.in_ok-idle.idle.items c.in_ok-refused.refused.items idle refused;
      each = taken_names members c.args.room all plan told c.in_ok-circle_of.ensures c.in_ok-mail.mail.items mails c.in_ok-idle.idle.items c.in_ok-refused.refused.items idle refused;
      ended = c.in_ok-ended.ensures ∙ ap (map (λ (v : NodeView Secrets). length v.history)) c.as_slice-5.ensures.value;
      world = c.in_ok-gather.ensures ∙ (ap (λ (w : WorldView). gathered w c.as_slice-6.result.now) joined ∙ ap (gathered (world_again members ends)) c.as_slice-6.ensures.value);
      lawful = c.is_world.ensures.world;
      safe = c.is_world.ensures.safe;
    }
