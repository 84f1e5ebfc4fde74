use Rattle.std.proofs.Common.{◌≡◌, true, arith, sym, ap, ◌∙◌, subst}
use Rattle.crossbeam_queue.specs.Passes.{view}
use Rattle.hg_mail.specs.declared.view.View.{View}
use Rattle.hg_mail.specs.Messages.{IsEmptied, KnowsSenders, after_taking}
use Rattle.hg_mail.specs.Rule.{HeldAt}
use Rattle.hg_mail.proofs.MessageLaws.{all_held, emptied, from_senders, learns}
use Rattle.hg_mail.proofs.collecting.drain_by.Goals as goal

pub len_as-requires-clause-rule : goal.len_as-requires-clause-rule
len_as-requires-clause-rule g c = learns _ _

pub returns-in-None-take_one-clause-known : goal.returns-in-None-take_one-clause-known
returns-in-None-take_one-clause-known g c =
    let may : (view c.loop.pass).takes ≡ true = ap (λ (v : View). v.takes) c.loop.invariant.view ∙ c.requires.takes in
    subst KnowsSenders (sym c.in-None-take_one.ensures.none.0) (from_senders (view c.loop.pass) may c.in-None-take_one.ensures.none.2)

pub returns-in-None-take_one-clause-whole : goal.returns-in-None-take_one-clause-whole
returns-in-None-take_one-clause-whole g c =
    let may : (view c.loop.pass).takes ≡ true = ap (λ (v : View). v.takes) c.loop.invariant.view ∙ c.requires.takes in
    subst IsEmptied (sym c.in-None-take_one.ensures.none.0) (emptied (view c.loop.pass) may c.in-None-take_one.ensures.none.2)

pub returns-in-None-take_one-clause-room : goal.returns-in-None-take_one-clause-room
returns-in-None-take_one-clause-room g c =
    let first = c.len_as.ensures.rule in
    λ whole.
    let last : HeldAt (after_taking (view c.args.pass.now) c.loop.left.items) 0 = subst (λ (v : View). HeldAt v 0) c.loop.invariant.view c.in-None-take_one.ensures.none.2 in
    omega (arith, first.0, all_held (view c.args.pass.now) c.loop.left.items c.len_as.result whole first.1 last)
