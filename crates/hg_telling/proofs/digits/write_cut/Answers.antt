use Rattle.std.proofs.Common.{◌≡◌, ◌++◌, codes}
use Rattle.hex.specs.Hex.{encode_lower}
use Rattle.hg_io.proofs.PrintLaws.{all_put, failed, more_put, stopped_within}
use Rattle.hg_service.specs.Text.{cut, digits_each, lines_text}
use Rattle.hg_telling.proofs.DigitLaws.{cut_lines_left, cut_none, none_left, some_left}
use Rattle.hg_telling.proofs.digits.write_cut.Goals as goal

pub returns-in_err-write_line : goal.returns-in_err-write_line
returns-in_err-write_line g c =
    let some = some_left c.parts.rest.now _ c.is_empty.ensures c.parts-test.true in
    let split : lines_text (digits_each (cut c.parts.rest.now)) ≡ encode_lower c.split_at.result.0.now ++ codes "\n" ++ lines_text (digits_each (cut c.split_at.result.1.now)) =
    rw (c.split_at.ensures.front, c.split_at.ensures.back) (cut_lines_left c.min.result c.parts.rest.now c.min.ensures some) in
    failed _ _ _ _ c.from_residual.ensures.0 (stopped_within _ _ _ _ _ _ _ split c.parts.invariant c.in_err-write_line.ensures)

pub parts-preserved : goal.parts-preserved
parts-preserved g c =
    let some = some_left c.parts.rest.now _ c.is_empty.ensures c.parts-test.true in
    let split : lines_text (digits_each (cut c.parts.rest.now)) ≡ encode_lower c.split_at.result.0.now ++ codes "\n" ++ lines_text (digits_each (cut c.split_at.result.1.now)) =
    rw (c.split_at.ensures.front, c.split_at.ensures.back) (cut_lines_left c.min.result c.parts.rest.now c.min.ensures some) in
    more_put _ _ _ _ _ _ _ split c.parts.invariant c.in_ok-write_line.ensures

pub returns : goal.returns
returns g c =
    let none = cut_none c.parts.rest.now (none_left c.parts.rest.now _ c.is_empty.ensures c.parts-test.false) in
    all_put _ _ _ (rw none at c.parts.invariant)
