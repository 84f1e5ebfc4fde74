use Rattle.std.proofs.Common.{◌≡◌, ◌≤◌, ◌∙◌, sym, ap, arith, length, List, ℕ, map}
use Rattle.std.specs.Borrow.{Bor}
use Rattle.std.proofs.lemmas.Bool.{leb-true}
use Rattle.std.proofs.lemmas.List.{length-map}
use Rattle.hg_life.specs.Pay.{transfer_limit}
use Rattle.hg_script.specs.Argument.{parts_of}
use Rattle.hg_reading.proofs.PayloadLaws.{pay_refused, pay_taken}
use Rattle.hg_reading.proofs.payload.pay_of.Goals as goal

abbrev texts : List (Bor (List ℕ)) → List (List ℕ)
texts parts = map (λ part. part.now) parts

pub pay_in-requires : goal.pay_in-requires
pay_in-requires c =
    let few : length (parts_of c.args.text.now) ≤ transfer_limit = leb-true _ _ (sym c.has_few_parts.ensures ∙ c.if-not-has_few_parts.false) in
    let same : length (texts c.in_ok-parts.parts.items) ≡ length (parts_of c.args.text.now) = ap (λ (ps : List (List ℕ)). length ps) c.in_ok-parts.ensures in
    omega (arith, few, same, length-map c.in_ok-parts.parts.items (λ (part : Bor (List ℕ)). part.now), ap (λ (ps : List (Bor (List ℕ))). length ps) c.deref-2.ensures.value)

pub returns-then-not-are_items-clause-value : goal.returns-then-not-are_items-clause-value
returns-then-not-are_items-clause-value c =
    pay_refused (λ part. part.now) c.args.members.now c.args.text.now c.deref.result.now (ap texts c.deref.ensures.value ∙ c.in_ok-parts.ensures) (sym c.are_items.ensures ∙ c.if-not-are_items.true)

pub returns-clause-value : goal.returns-clause-value
returns-clause-value c =
    let taken = pay_taken (λ part. part.now) c.args.members.now c.args.text.now c.deref.result.now (ap texts c.deref.ensures.value ∙ c.in_ok-parts.ensures)
    (sym c.has_few_parts.ensures ∙ c.if-not-has_few_parts.false) (sym c.are_items.ensures ∙ c.if-not-are_items.false) in
    rw (← taken) (rw (c.deref-2.ensures.value, ← c.deref.ensures.value) at c.pay_in.ensures.value)
