use Rattle.std.proofs.Common.{◌≡◌, ℕ, ◌+◌, List, ◌∷◌, length, take, drop, sym, ◌∙◌, subst, arith}
use Rattle.std.proofs.lemmas.List.{length-take-le}
use Rattle.hg_mail.specs.Mailboxes.{IsPosted}
use Rattle.hg_storm.specs.Sending.{Sends}
use Rattle.hg_storm.proofs.SendLaws.{drop_next, drop_some, its_port, sends_one, still_sender, take_next}
use Rattle.hg_storm.proofs.sending.send_piece.Goals as goal

pub post-requires-clause-sender : goal.post-requires-clause-sender
post-requires-clause-sender g c = its_port _ _ (still_sender _ _ _ _ _ c.rows.invariant.sends c.requires.sender)

pub rows-preserved : goal.rows-preserved
rows-preserved g c =
    let rows = c.args.rows.items in
    let sent = c.rows.sent in
    let rest = c.next.new.self.rest.items in
    let next : drop sent rows ≡ c.in-Some.bytes ∷ rest = sym c.rows.invariant.rest ∙ c.in-Some.ensures.steps.0 in
    let number : c.args.place + sent ≡ c.args.place + length (take sent rows) = omega (arith, length-take-le sent rows c.rows.invariant.within) in
    let posted = subst (λ (n : ℕ). IsPosted c.rows.port (record { from = c.args.from; number = n; bytes = c.in-Some.bytes }) c.post.new.port) number c.in-Posted.ensures.1 in
    record {
      of = c.in-Posted.ensures.0;
      within = omega (arith, drop_some sent rows c.in-Some.bytes rest next);
      rest = sym (drop_next sent rows c.in-Some.bytes rest next);
      sends = subst (λ (xs : List (List ℕ)). Sends c.args.from c.args.place xs c.args.port.now c.post.new.port) (sym (take_next sent rows c.in-Some.bytes rest next))
          (sends_one c.args.from c.args.place (take sent rows) c.in-Some.bytes c.args.port.now c.rows.port c.post.new.port c.rows.invariant.sends posted);
      back = posted.full ∙ c.rows.invariant.back;
    }
