use Rattle.std.proofs.Common.{◌<◌, ◌∙◌, length, refl, rules, arith}
use Rattle.hg_model.specs.Prefix.{links_of}
use Rattle.hg_model.specs.Stakes.{member_count}
use Rattle.hg_kept.proofs.WalkLaws.{members_none, raised_none, raised_next, members_next, members_room, members_done}
use Rattle.hg_kept.proofs.walking.raise_ends.Goals as goal

pub loop-m-init : goal.loop-m-init
loop-m-init g c = let graph = g.P.Prefix.graph c.args.p.now in record {
  raised = raised_none graph.members (links_of graph) c.args.least.now c.requires.ends c.args.ends.now;
  listed = rw c.requires.none (members_none graph.members (links_of graph) c.args.least.now c.requires.ends c.args.ends.now);
  room = refl;
}

pub list_line-requires-clause-room : goal.list_line-requires-clause-room
list_line-requires-clause-room g c =
    let graph = g.P.Prefix.graph c.args.p.now in
    let count = rw c.is_of_graph.ensures.matches.shaped at c.members-m-end.ensures.value in
    let test = c.loop-m-test.true in
    let inside : c.loop-m.m < member_count graph.members = omega arith in
    let room = members_room graph.members (links_of graph) c.args.least.now c.requires.ends c.args.ends.now c.loop-m.m inside c.loop-m.ends c.loop-m.invariant.raised c.loop-m.fresh.items c.loop-m.invariant.listed in
    omega (arith, c.loop-m.invariant.room, c.requires.room)

pub loop-m-preserved : goal.loop-m-preserved
loop-m-preserved g c =
    let graph = g.P.Prefix.graph c.args.p.now in
    let count = rw c.is_of_graph.ensures.matches.shaped at c.members-m-end.ensures.value in
    let test = c.loop-m-test.true in
    let inside : c.loop-m.m < member_count graph.members = omega arith in
    let room : c.loop-m.m < length c.loop-m.ends = search rules in
    record {
      raised = raised_next graph.members (links_of graph) c.args.least.now c.requires.ends c.args.ends.now c.loop-m.m inside c.loop-m.ends c.loop-m.invariant.raised c.max.result room c.max.ensures;
      listed = members_next graph.members (links_of graph) c.args.least.now c.requires.ends c.args.ends.now c.loop-m.m inside c.loop-m.ends c.loop-m.invariant.raised c.loop-m.fresh.items c.list_line.new.fresh.items c.loop-m.invariant.listed
          c.list_line.ensures.listed;
      room = c.list_line.ensures.room ∙ c.loop-m.invariant.room;
    }

pub returns-clause-listed : goal.returns-clause-listed
returns-clause-listed g c =
    let graph = g.P.Prefix.graph c.args.p.now in
    let count = rw c.is_of_graph.ensures.matches.shaped at c.members-m-end.ensures.value in
    let test = c.loop-m-test.false in
    members_done graph.members (links_of graph) c.args.least.now c.requires.ends c.args.ends.now c.is_of_graph.ensures.shaped c.loop-m.m (omega arith) c.loop-m.fresh.items c.loop-m.invariant.listed
