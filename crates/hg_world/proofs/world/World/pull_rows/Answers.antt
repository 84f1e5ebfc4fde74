use Rattle.std.proofs.Common.{◌∙◌, ap, map, arith}
use Rattle.hg_life.specs.Spelling.{spelling}
use Rattle.hg_graph.specs.RowsWithRoom.{rows_of}
use Rattle.hg_gossip.specs.Taking.{bytes_of}
use Rattle.hg_gossip.proofs.TakingLaws.{bytes_length}
use Rattle.hg_world.specs.Syncs.{deliver_steps}
use Rattle.hg_world.proofs.PutsLaws.{noted, rest_noted}
use Rattle.hg_world.proofs.SignedLaws.{lacked_signed}
use Rattle.hg_world.proofs.StepLaws.{still_member}
use Rattle.hg_world.proofs.world.World.pull_rows.Goals as goal

pub note_all-requires-clause-taker : goal.note_all-requires-clause-taker
note_all-requires-clause-taker c = still_member c.args.self.now c.take.new.self (deliver_steps c.args.taker (bytes_of c.as_slice.result.now)) c.args.taker c.in_ok-counts.ensures.ok.after c.requires.taker

pub note_all-requires-clause-peer : goal.note_all-requires-clause-peer
note_all-requires-clause-peer c = still_member c.args.self.now c.take.new.self (deliver_steps c.args.taker (bytes_of c.as_slice.result.now)) c.args.peer c.in_ok-counts.ensures.ok.after c.requires.peer

pub note_all-requires-clause-all : goal.note_all-requires-clause-all
note_all-requires-clause-all c =
    noted c.args.self.now c.take.new.self c.args.taker c.args.peer (bytes_of c.in_ok-events.events.items) (bytes_of c.as_slice.result.now) c.in_ok-counts.counts c.is_world.ensures.world c.requires.peer
    (ap (map spelling) c.in_ok-events.ensures) (ap (λ events. bytes_of events) c.as_slice.ensures.value) c.in_ok-counts.ensures.ok
    (omega (arith, c.if-counts-number.true, c.len-number.ensures, c.in_ok-events.events.ok.0, bytes_length c.in_ok-events.events.items))

pub take-requires-clause-signed : goal.take-requires-clause-signed
take-requires-clause-signed c =
    lacked_signed c.args.self.now c.args.taker c.args.peer (rows_of c.as_slice.result.now) c.is_world.ensures.world c.requires.taker c.requires.peer
    (ap (λ events. rows_of events) c.as_slice.ensures.value ∙ c.in_ok-events.ensures)

pub note_rest-requires-clause-taker : goal.note_rest-requires-clause-taker
note_rest-requires-clause-taker c = still_member c.args.self.now c.take.new.self (deliver_steps c.args.taker (bytes_of c.as_slice.result.now)) c.args.taker c.in_ok-counts.ensures.ok.after c.requires.taker

pub note_rest-requires-clause-peer : goal.note_rest-requires-clause-peer
note_rest-requires-clause-peer c = still_member c.args.self.now c.take.new.self (deliver_steps c.args.taker (bytes_of c.as_slice.result.now)) c.args.peer c.in_ok-counts.ensures.ok.after c.requires.peer

pub note_rest-requires-clause-rest : goal.note_rest-requires-clause-rest
note_rest-requires-clause-rest c =
    rest_noted c.args.self.now c.take.new.self c.args.taker c.args.peer (rows_of c.as_slice-else-counts-number.result.now) (bytes_of c.as_slice.result.now) c.in_ok-counts.counts
    (ap (λ events. rows_of events) c.as_slice-else-counts-number.ensures.value ∙ c.in_ok-events.ensures) c.in_ok-counts.ensures.ok
