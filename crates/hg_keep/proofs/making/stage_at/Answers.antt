use Rattle.std.proofs.Common.{rules, ℕ, Option, Some, None, sym, subst}
use Rattle.hg_keep.specs.Keeping.{MakesOf}
use Rattle.hg_keep.proofs.UnderWayLaws.{stops_idle}
use Rattle.hg_keep.proofs.WayLaws.{makes_none, makes_told}
use Rattle.hg_keep.proofs.making.stage_at.Goals as goal

pub returns-in_default-clause-makes : goal.returns-in_default-clause-makes
returns-in_default-clause-makes g c =
    let before = c.args.stored.now.node in
    subst (λ (time : Option ℕ). MakesOf g.V.Verifier.accepts time before before None) (sym c.in_default.is) (makes_none g.V.Verifier.accepts before)

pub returns-in_default-clause-stops : goal.returns-in_default-clause-stops
returns-in_default-clause-stops g c = stops_idle g.V.Verifier.accepts (g.D.Disk.file c.args.disk.now) c.args.stored.now c.requires.written c.requires.there

pub returns-clause-makes : goal.returns-clause-makes
returns-clause-makes g c =
    let accepts = g.V.Verifier.accepts in
    let after = c.stage_next.new.stored.node in
    let made = makes_told accepts c.in-Some.time c.make_room.new.stored.node after c.unwrap.result.now c.in_ok-answer.answer c.in_ok-told.told (search rules) c.in_ok-told.ensures c.in_ok-answer.ensures.turn in
    subst (λ (time : Option ℕ). MakesOf accepts time c.args.stored.now.node after (Some c.in_ok-told.told)) (sym c.in-Some.is)
    (subst (λ before. MakesOf accepts (Some c.in-Some.time) before after (Some c.in_ok-told.told)) c.in_ok-make_room.ensures.room.node made)
