use Rattle.std.proofs.Common.{subst}
use Rattle.hg_board.specs.Table.{node_at}
use Rattle.hg_workers.specs.Turns.{Elects}
use Rattle.hg_workers.proofs.ElectionLaws.{electable, elected_none, elected_whole}
use Rattle.hg_workers.proofs.LoopLaws.{IsTurn, is_quiet_turn, is_turn, only_of}
use Rattle.hg_workers.proofs.voters.Voters.take_turn.Given as given
use Rattle.hg_workers.proofs.voters.Voters.take_turn.Goals as goal

pub elected-requires : goal.elected-requires
elected-requires g c =
    electable g.V.Verifier.accepts (node_at c.args.shared.now.start c.open.new.seat.seen) c.open.ensures.stays.node c.args.share c.in_ok-opened.opened c.in_ok-opened.ensures.opens

pub publish-requires-clause-found : goal.publish-requires-clause-found
publish-requires-clause-found g c =
    (elected_whole g.V.Verifier.accepts (node_at c.args.shared.now.start c.open.new.seat.seen) c.open.ensures.stays.node c.args.share c.in_ok-opened.opened c.in-Some.found c.in_ok-opened.ensures.opens
    (subst (Elects c.args.share c.in_ok-opened.opened) c.in-Some.is c.in_ok-found.ensures)).news

-- the turn that published what was found
turn : (g : given.Over) (c : goal.After-drop-found g) → IsTurn c.args.shared.now c.args.share c.args.seat.now c.publish.new.seat c.publish.result
turn g c =
    is_turn g.V.Verifier.accepts c.args.shared.now c.args.seat.now c.open.new.seat c.publish.new.seat c.in-Some.found c.args.share c.publish.result
    c.open.ensures.stays c.open.ensures.waits
    (elected_whole g.V.Verifier.accepts (node_at c.args.shared.now.start c.open.new.seat.seen) c.open.ensures.stays.node c.args.share c.in_ok-opened.opened c.in-Some.found c.in_ok-opened.ensures.opens
    (subst (Elects c.args.share c.in_ok-opened.opened) c.in-Some.is c.in_ok-found.ensures))
    c.publish.ensures.stays c.publish.ensures.marks

pub returns-in-Some-clause-marks : goal.returns-in-Some-clause-marks
returns-in-Some-clause-marks g c = only_of c.args.shared.now c.args.share c.args.seat.now c.publish.new.seat c.publish.result (turn g c).of

pub returns-in-Some-clause-counted : goal.returns-in-Some-clause-counted
returns-in-Some-clause-counted g c = (turn g c).of

pub returns-in-Some-clause-all : goal.returns-in-Some-clause-all
returns-in-Some-clause-all g c = (turn g c).all

pub returns-in-Some-clause-few : goal.returns-in-Some-clause-few
returns-in-Some-clause-few g c = (turn g c).few

-- the turn that found nothing
quiet : (g : given.Over) (c : goal.In-None g) → IsTurn c.args.shared.now c.args.share c.args.seat.now c.open.new.seat 0
quiet g c =
    is_quiet_turn g.V.Verifier.accepts c.args.shared.now c.args.seat.now c.open.new.seat c.args.share c.open.ensures.stays c.open.ensures.waits
    (elected_none g.V.Verifier.accepts (node_at c.args.shared.now.start c.open.new.seat.seen) c.open.ensures.stays.node c.args.share c.in_ok-opened.opened c.in_ok-opened.ensures.opens
    (subst (Elects c.args.share c.in_ok-opened.opened) c.in-None.is c.in_ok-found.ensures))

pub returns-in-None-clause-all : goal.returns-in-None-clause-all
returns-in-None-clause-all g c = (quiet g c).all

pub returns-in-None-clause-few : goal.returns-in-None-clause-few
returns-in-None-clause-few g c = (quiet g c).few
