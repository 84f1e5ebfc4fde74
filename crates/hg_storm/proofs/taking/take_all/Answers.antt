use Rattle.std.proofs.Common.{[], ◌∷◌, ◌++◌, List, sym, ap, ◌∙◌, append_assoc, arith}
use Rattle.hg_mail.specs.declared.message.Message.{Message}
use Rattle.hg_storm.proofs.MadeLaws.{no_row_on}
use Rattle.hg_storm.proofs.SendLaws.{still_on}
use Rattle.hg_storm.proofs.TakeLaws.{on_err}
use Rattle.hg_storm.proofs.taking.take_all.Goals as goal

pub messages-preserved : goal.messages-preserved
messages-preserved g c =
    let was = c.messages.invariant in
    let before = c.messages.intake.taken.items in
    let later = c.next.new.self.rest.items in
    let one = c.in_ok-take_one.ensures in
    record {
      of = c.take_one.ensures.of;
      still = still_on c.args.seat.now c.messages.seat c.take_one.new.seat was.still c.take_one.ensures.still;
      seat = λ is. c.take_one.ensures.seat (was.seat is);
      made = no_row_on c.args.seat.now c.messages.seat c.take_one.new.seat was.still.seen was.made c.take_one.ensures.made;
      fates = c.take_one.ensures.fates;
      first = record {
        more = was.first.more ++ c.in-Some.message ∷ [];
        grown = one.taken
            ∙ (ap (λ (ms : List Message). ms ++ c.in-Some.message ∷ []) was.first.grown ∙ append_assoc c.args.intake.now.taken.items was.first.more (c.in-Some.message ∷ []));
        whole = was.first.whole
            ∙ (ap (λ (ms : List Message). was.first.more ++ ms) c.in-Some.ensures.steps.0 ∙ sym (append_assoc was.first.more (c.in-Some.message ∷ []) later));
      };
      taken = ap (λ (ms : List Message). ms ++ later) one.taken
          ∙ (append_assoc before (c.in-Some.message ∷ []) later ∙ (ap (λ (ms : List Message). before ++ ms) (sym c.in-Some.ensures.steps.0) ∙ was.taken));
    }

pub returns-in_err-take_one-clause-made : goal.returns-in_err-take_one-clause-made
returns-in_err-take_one-clause-made g c =
    let was = c.messages.invariant in
    no_row_on c.args.seat.now c.messages.seat c.take_one.new.seat was.still.seen was.made c.take_one.ensures.made

pub returns-in_err-take_one-clause-lost : goal.returns-in_err-take_one-clause-lost
returns-in_err-take_one-clause-lost g c =
    let was = c.messages.invariant.first in
    on_err c.from_residual.result _ (record {
      lost = c.in-Some.message ∷ c.next.new.self.rest.items;
      some = omega arith;
      first = record {
        more = was.more;
        grown = c.in_err-take_one.ensures.dropped ∙ was.grown;
        whole = was.whole ∙ ap (λ (ms : List Message). was.more ++ ms) c.in-Some.ensures.steps.0;
      };
    })
