use Rattle.std.proofs.Common.{◌≡◌, ◌+◌, ◌∙◌, ◌-◌, ap, arith, length, length-drop}
use Rattle.hg_service.specs.Text.{cut}
use Rattle.hg_telling.proofs.DigitLaws.{cut_left, cut_none, none_left, some_left}
use Rattle.hg_telling.proofs.digits.cut_count.Goals as goal

pub parts-preserved : goal.parts-preserved
parts-preserved c =
    let rest = c.parts.rest.now in
    let some = some_left rest _ c.is_empty.ensures c.parts-test.true in
    let one : length (cut rest) ≡ length (cut c.split_at.result.1.now) + 1 =
    rw c.split_at.ensures.back (ap length (cut_left c.min.result rest c.min.ensures some) ∙ omega arith) in
    let fewer : length c.split_at.result.1.now ≡ length rest - c.min.result = rw c.split_at.ensures.back (length-drop c.min.result rest) in
    record {
      counted = omega (arith, one, c.parts.invariant.counted);
      few = omega (arith, fewer, some, c.min.ensures, c.parts.invariant.few);
    }

pub returns : goal.returns
returns c =
    let none = cut_none c.parts.rest.now (none_left c.parts.rest.now _ c.is_empty.ensures c.parts-test.false) in
    omega (arith, c.parts.invariant.counted, ap length none)
