use Rattle.std.proofs.Common.{◌≡◌, ◌++◌}
use Rattle.hex.specs.Hex.{encode_lower}
use Rattle.hg_io.proofs.PrintLaws.{all_put, failed, more_put, stopped_within}
use Rattle.hg_telling.proofs.DigitLaws.{digits_left, digits_none, none_left}
use Rattle.hg_telling.proofs.digits.write_digits.Goals as goal

pub returns-in_err-write_part : goal.returns-in_err-write_part
returns-in_err-write_part g c =
    let split : encode_lower c.parts.rest.now ≡ encode_lower c.split_at.result.0.now ++ encode_lower c.split_at.result.1.now =
    rw (c.split_at.ensures.front, c.split_at.ensures.back) (digits_left c.min.result c.parts.rest.now) in
    failed _ _ _ _ c.from_residual.ensures.0 (stopped_within _ _ _ _ _ _ _ split c.parts.invariant c.in_err-write_part.ensures)

pub parts-preserved : goal.parts-preserved
parts-preserved g c =
    let split : encode_lower c.parts.rest.now ≡ encode_lower c.split_at.result.0.now ++ encode_lower c.split_at.result.1.now =
    rw (c.split_at.ensures.front, c.split_at.ensures.back) (digits_left c.min.result c.parts.rest.now) in
    more_put _ _ _ _ _ _ _ split c.parts.invariant c.in_ok-write_part.ensures

pub returns : goal.returns
returns g c =
    let none = digits_none c.parts.rest.now (none_left c.parts.rest.now _ c.is_empty.ensures c.parts-test.false) in
    all_put _ _ _ (rw none at c.parts.invariant)
