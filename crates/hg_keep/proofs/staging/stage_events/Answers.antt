use Rattle.std.proofs.Common.{rules, ◌≡◌, ◌+◌, length, refl, ◌∙◌, ap, subst, sym, arith, length-drop}
use Rattle.std.specs.Prelude.{IsSome, take}
use Rattle.std.proofs.lemmas.List.{take_rest}
use Rattle.hg_keep.specs.Keeping.{IsPutSome, PutsAll}
use Rattle.hg_keep.proofs.UnderWayLaws.{came_puts, staged_on, way_begins, way_on, way_stops}
use Rattle.hg_keep.proofs.WayLaws.{part_there, puts_part, puts_none, stops_none}
use Rattle.hg_keep.proofs.staging.stage_events.Goals as goal

pub returns-in_err-answers-clause-stops : goal.returns-in_err-answers-clause-stops
returns-in_err-answers-clause-stops g c = stops_none g.V.Verifier.accepts (g.D.Disk.file c.args.disk.now) c.args.stored.now c.args.events.now c.requires.stored

pub parts-init : goal.parts-init
parts-init g c = record {
  there = c.requires.there;
  within = omega arith;
  room = search rules;
  puts = puts_none g.V.Verifier.accepts c.args.stored.now.node;
  few = omega arith;
  way = way_begins g.V.Verifier.accepts (IsPutSome g.V.Verifier.accepts c.args.events.now) c.args.stored.now.node (g.D.Disk.file c.args.disk.now) c.args.stored.now refl (λ v. (0, refl)) c.requires.stored;
  shown = refl;
  name = refl;
  started = c.requires.started;
  counts = λ other. omega arith;
}

pub returns-in_err-make_room-clause-stops : goal.returns-in_err-make_room-clause-stops
returns-in_err-make_room-clause-stops g c =
    let now = c.parts in
    way_stops g.V.Verifier.accepts (IsPutSome g.V.Verifier.accepts c.args.events.now) c.args.stored.now.node (g.D.Disk.file c.args.disk.now) (g.D.Disk.file now.disk) (g.D.Disk.file c.make_room.new.disk) now.stored
    now.invariant.way now.invariant.shown c.make_room.ensures.stops

pub returns-in_err-stage_puts-clause-stops : goal.returns-in_err-stage_puts-clause-stops
returns-in_err-stage_puts-clause-stops g c =
    let now = c.parts in
    way_stops g.V.Verifier.accepts (IsPutSome g.V.Verifier.accepts c.args.events.now) c.args.stored.now.node (g.D.Disk.file c.args.disk.now) (g.D.Disk.file now.disk) (g.D.Disk.file c.make_room.new.disk) now.stored
    now.invariant.way now.invariant.shown c.make_room.ensures.stops

pub parts-preserved : goal.parts-preserved
parts-preserved g c =
    let accepts = g.V.Verifier.accepts in
    let now = c.parts in
    let first = c.args.stored.now.node in
    let events = c.args.events.now in
    let old = g.D.Disk.file c.args.disk.now in
    let answers = c.stage_puts.new.answers.items in
    let room = c.in_ok-make_room.ensures.room in
    let front = c.stage_puts.ensures.puts in
    let here = subst (λ o. PutsAll accepts (take now.done events) first o now.counts) (sym room.node) now.invariant.puts in
    let was_there = subst (λ o. IsSome o) (sym room.node) now.invariant.there in
    let there = part_there accepts c.make_room.new.stored.node _ answers c.stage_puts.new.self.node was_there front in
    let many : length answers ≡ c.len-done.result = search rules in
    let puts = subst (λ n. PutsAll accepts (take (now.done + n) events) first c.stage_puts.new.self.node c.count_all.new.self) many
    (puts_part accepts first events _ now.done c.make_room.new.stored.node now.counts (take_rest events now.done) here c.stage_puts.new.self.node answers c.count_all.new.self front (search rules)) in
    record {
      there = there.0;
      within = omega (arith, there.1, ap length (take_rest events now.done), many, now.invariant.within, length-drop now.done events);
      room = search rules;
      puts = puts;
      few = search rules;
      way = way_on accepts (IsPutSome accepts events) first old (g.D.Disk.file now.disk) (g.D.Disk.file c.make_room.new.disk) now.stored now.invariant.way now.invariant.shown c.stage_puts.new.self c.make_room.ensures.stops
          (staged_on accepts (g.D.Disk.file c.make_room.new.disk) now.stored c.make_room.new.stored c.stage_puts.new.self room.moves c.stage_puts.ensures.frame.written c.stage_puts.ensures.frame.gate)
          (came_puts accepts events _ first c.stage_puts.new.self.node _ puts);
      shown = c.make_room.ensures.frame.shown ∙ now.invariant.shown;
      name = search rules;
      started = search rules;
      counts = search rules;
    }
