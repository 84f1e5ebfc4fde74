use Rattle.std.proofs.Common.{List, map, sym, subst, take}
use Rattle.std.specs.Prelude.{All}
use Rattle.hg_model.specs.declared.row.Row.{Row}
use Rattle.hg_life.specs.Signing.{accepts_by}
use Rattle.hg_gossip.specs.Known.{KeepsKnown}
use Rattle.hg_board.specs.Seats.{SeatView}
use Rattle.hg_board.specs.Calls.{split_off}
use Rattle.hg_world.specs.World.{Secrets}
use Rattle.hg_crowd.specs.Crowd.{AreSeats}
use Rattle.hg_crowd.specs.Party.{PartyView, party_view}
use Rattle.hg_crowd.specs.Laws.{IsSession}
use Rattle.hg_crowd.specs.Workers.{AreWhole, HasAll}
use Rattle.hg_crowd.proofs.CrowdLaws.{all_started, seats_started}
use Rattle.hg_play.specs.Batch.{PlaysBeside}
use Rattle.hg_play.specs.Heard.{KeepsNodes}
use Rattle.hg_play.proofs.BatchLaws.{batch_count, batch_marked, batch_told, ends_of_one_list, first_nodes, rows_ended, the_run, whole_again}
use Rattle.hg_play.proofs.batch.play_batch.Given as given
use Rattle.hg_play.proofs.batch.play_batch.Goals as goal
use Rattle.hg_play.proofs.batch.play_batch.Goals.{In_ok-nodes, In_ok-party}

pub new-party-requires : goal.new-party-requires
new-party-requires g c =
    subst (λ l. AreSeats accepts_by l c.in_ok-shared.seats.items) (sym c.as_slice.ensures.value)
    (seats_started accepts_by c.into_parts-nodes.result.0.items c.in_ok-shared.shared.items c.in_ok-shared.seats.items c.in_ok-shared.ensures)

pub play_beside-requires-clause-parts : goal.play_beside-requires-clause-parts
play_beside-requires-clause-parts g c κs within =
    subst (λ (v : PartyView Secrets). All HasAll v.seats) (sym c.new-party.ensures)
    (all_started accepts_by c.into_parts-nodes.result.0.items c.in_ok-shared.shared.items c.in_ok-shared.seats.items c.in_ok-shared.ensures)

pub play_beside-requires-clause-nodes : goal.play_beside-requires-clause-nodes
play_beside-requires-clause-nodes g c κs within =
    subst (λ (v : PartyView Secrets). KeepsNodes (party_view v.places (map split_off v.seats)) c.into_parts-nodes.result.1) (sym c.new-party.ensures)
    (first_nodes c.into_parts-nodes.result.0.items c.in_ok-shared.shared.items c.as_slice.result.now c.in_ok-shared.seats.items c.into_parts-nodes.result.1 c.as_slice.ensures.value c.in_ok-shared.ensures
    c.into_parts-nodes.ensures.lawful c.into_parts-nodes.ensures.known)

-- what was played beside the workers, from the first seats on
played : (g : given.Over) (c : In_ok-party g) → PlaysBeside c.args.game.now.members.now c.args.lines.now (party_view c.as_slice.result.now c.in_ok-shared.seats.items) c.args.tape c.in_ok-party.party c.in_ok-party.known
    c.in_ok-party.tape c.in_ok-party.count
played g c =
    subst (λ (v : PartyView Secrets). PlaysBeside c.args.game.now.members.now c.args.lines.now v c.args.tape c.in_ok-party.party c.in_ok-party.known c.in_ok-party.tape c.in_ok-party.count) c.new-party.ensures
    c.in_ok-party.ensures

pub finish_all-requires-clause-parts : goal.finish_all-requires-clause-parts
finish_all-requires-clause-parts g c =
    let beside = played g (goal.at.finish_all-requires-clause-parts g c).In_ok-party in
    subst (All HasAll) (sym c.into_seats-seats.ensures.same)
    (whole_again c.into_parts-nodes.result.0.items c.in_ok-shared.shared.items c.as_slice.result.now c.in_ok-shared.seats.items beside.called c.in_ok-party.party.seats c.as_slice.ensures.value c.in_ok-shared.ensures beside.calls)

-- the run that the batch is
run : (g : given.Over) (c : In_ok-nodes g) (beside : PlaysBeside c.args.game.now.members.now c.args.lines.now (party_view c.as_slice.result.now c.in_ok-shared.seats.items) c.args.tape c.in_ok-party.party c.in_ok-party.known
    c.in_ok-party.tape c.in_ok-party.count) → IsSession accepts_by c.into_parts-nodes.result.0.items c.as_slice.result.now beside.called c.in_ok-nodes.nodes.items
run g c beside =
    let shared = c.in_ok-shared.shared.items in
    the_run c.into_parts-nodes.result.0.items shared c.as_slice.result.now c.in_ok-shared.seats.items beside.called c.in_ok-party.party.seats c.in_ok-nodes.nodes.items c.as_slice.ensures.value c.in_ok-shared.ensures
    beside.calls (subst (λ (l : List (SeatView Secrets)). AreWhole shared l c.in_ok-nodes.nodes.items) c.into_seats-seats.ensures.same c.in_ok-nodes.ensures)

pub from_parts-requires-clause-nodes : goal.from_parts-requires-clause-nodes
from_parts-requires-clause-nodes g c =
    let at = goal.at.from_parts-requires-clause-nodes g c in
    let beside = played g at.In_ok-party in
    ends_of_one_list c.into_parts-nodes.result.0.items c.as_slice.result.now beside.called c.in_ok-nodes.nodes.items (run g at.In_ok-nodes beside) c.into_parts-nodes.ensures.lawful

pub from_parts-requires-clause-known : goal.from_parts-requires-clause-known
from_parts-requires-clause-known g c =
    let at = goal.at.from_parts-requires-clause-known g c in
    let beside = played g at.In_ok-party in
    subst (λ (rows : List (List Row)). KeepsKnown rows c.in_ok-party.known)
    (rows_ended c.into_parts-nodes.result.0.items c.as_slice.result.now beside.called c.in_ok-nodes.nodes.items (run g at.In_ok-nodes beside)) beside.heard

pub returns-clause-count : goal.returns-clause-count
returns-clause-count g c =
    let at = goal.at.returns-clause-count g c in
    let beside = played g at.In_ok-party in
    batch_count c.args.world c.in-Ok.world c.into_parts-nodes.result.0.items c.as_slice.result.now beside.called c.in_ok-nodes.nodes.items c.into_parts-nodes.ensures.nodes (run g at.In_ok-nodes beside) c.in-Ok.ensures.ok

pub returns-clause-marked : goal.returns-clause-marked
unfolding run played
returns-clause-marked g c =
    let at = goal.at.returns-clause-marked g c in
    let beside = played g at.In_ok-party in
    batch_marked c.in-Ok.world c.into_parts-nodes.result.0.items c.as_slice.result.now beside.called c.in_ok-nodes.nodes.items (run g at.In_ok-nodes beside) c.in-Ok.ensures.ok beside.marked

pub returns-clause-told : goal.returns-clause-told
unfolding run
returns-clause-told g c =
    let at = goal.at.returns-clause-told g c in
    let beside = played g at.In_ok-party in
    batch_told c.args.game.now.members.now (take c.in_ok-party.count c.args.lines.now) c.args.world c.in-Ok.world c.into_parts-nodes.result.0.items c.as_slice.result.now beside.called c.in_ok-nodes.nodes.items
    c.args.tape c.in_ok-party.tape c.into_parts-nodes.ensures.nodes (run g at.In_ok-nodes beside) c.in-Ok.ensures.ok beside.told

pub returns-clause-batch : goal.returns-clause-batch
returns-clause-batch g c = (played g (goal.at.returns-clause-batch g c).In_ok-party).batch
