use Rattle.std.proofs.Common.{rules, ◌-◌, ◌<◌, ◌≤◌, length, arith}
use Rattle.hg_keep.specs.Events.{events_of}
use Rattle.hg_keep.proofs.EventLaws.{begun, more}
use Rattle.hg_keep.proofs.events.read_events.Goals as goal

pub loop-rest-init : goal.loop-rest-init
loop-rest-init c = record {
  within = omega arith;
  read = begun c.args.bytes.now c.new-events.result.items (length c.args.bytes.now - length c.args.bytes.now) c.new-events.ensures.items (omega arith);
}

pub loop-rest-preserved : goal.loop-rest-preserved
loop-rest-preserved c =
    let rest = c.loop-rest.rest.now in
    let len = c.in-Ok.len in
    let within : len ≤ length rest = search rules in
    let some : 0 < length rest = search (rules, arith) in
    record {
      within = search rules;
      read = more (events_of c.args.bytes.now) c.loop-rest.events.items c.push.new.self.items (length c.args.bytes.now) len rest c.split_at.result.1.now _ c.in-Ok.ensures.exact some (omega (arith, c.in-Ok.ensures.sized.0)) within
          c.loop-rest.invariant.within c.split_at.ensures.back (search rules) c.loop-rest.invariant.read;
    }
