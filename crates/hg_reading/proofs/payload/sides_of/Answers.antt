use Rattle.std.proofs.Common.{◌+◌, ◌∙◌, ap, sym, take, drop, arith, ℕ, length}
use Rattle.std.specs.List.{position_or_len}
use Rattle.std.proofs.lemmas.List.{drop_all, take_all, take_rest}
use Rattle.hg_script.specs.Payload.{is_equals}
use Rattle.hg_reading.proofs.LineLaws.{found_first, none_before}
use Rattle.hg_reading.proofs.payload.sides_of.Goals as goal

pub returns-in-Some-clause-before : goal.returns-in-Some-clause-before
returns-in-Some-clause-before c = ap (λ (k : ℕ). take k c.args.part.now) (sym (found_first is_equals c.args.part.now c.in-Some.end (sym c.in-Some.ensures)).0)

pub returns-in-Some-clause-after : goal.returns-in-Some-clause-after
returns-in-Some-clause-after c =
    take_rest c.args.part.now (c.in-Some.end + 1) ∙ ap (λ (k : ℕ). drop (k + 1) c.args.part.now) (sym (found_first is_equals c.args.part.now c.in-Some.end (sym c.in-Some.ensures)).0)

pub returns-in-None-clause-before : goal.returns-in-None-clause-before
returns-in-None-clause-before c = sym (take_all _ c.args.part.now (none_before is_equals c.args.part.now (sym c.in-None.ensures)))

pub returns-in-None-clause-after : goal.returns-in-None-clause-after
returns-in-None-clause-after c =
    let part = c.args.part.now in
    let past = none_before is_equals part (sym c.in-None.ensures) in
    take_rest part (length part) ∙ drop_all (length part) part (omega arith) ∙ sym (drop_all (position_or_len is_equals part + 1) part (omega (arith, past)))
