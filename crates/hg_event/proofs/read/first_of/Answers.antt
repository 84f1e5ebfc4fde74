use Rattle.std.proofs.Common.{◌≡◌, ◌∙◌, ◌-◌, ap, arith, length, take, ℕ}
use Rattle.hg_event.proofs.Spells.{fields_read}
use Rattle.hg_event.proofs.read.first_of.Goals as goal

pub invariant_of-view : goal.invariant_of-view
invariant_of-view c =
    let body = fields_read c.args.bytes.now _ _ _ _ _ _ (λ i. omega (arith, c.type_inv.bytes i)) c.in_ok-several.ensures c.in_ok-creator.ensures c.in_ok-parents.ensures
    c.in_ok-time.ensures c.in_ok-payload.ensures c.in_ok-sig.ensures in
    let n : c.saturating_sub.result ≡ length c.args.bytes.now - length c.in_ok-sig.rest.now - 64 = omega (arith, c.saturating_sub.ensures, c.saturating_sub-len.ensures) in
    record { spelled = ap (λ (n : ℕ). take n c.args.bytes.now) n ∙ body }
