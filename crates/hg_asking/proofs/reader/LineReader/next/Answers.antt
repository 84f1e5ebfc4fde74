use Rattle.std.proofs.Common.{◌≡◌, ◌∙◌, Some, None, sym, ap, take}
use Rattle.std.specs.List.{position}
use Rattle.hg_script.specs.Script.{is_line_feed}
use Rattle.hg_asking.specs.Lines.{front_in, with_part}
use Rattle.hg_asking.proofs.ReaderLaws.{finds_line, line_in_line, no_line_found}
use Rattle.hg_asking.proofs.reader.LineReader.next.Goals as goal

pub returns-in_err-end-clause-finds : goal.returns-in_err-end-clause-finds
returns-in_err-end-clause-finds c =
    let reader = c.self.inside in
    let none : position is_line_feed reader.piece ≡ None = ap (position is_line_feed) (sym c.as_slice.ensures) ∙ sym c.in_err-end.ensures in
    rw (c.from_residual.ensures, ← c.self.view_is) (no_line_found reader.is_found reader.front reader.piece c.self.invariant none)

pub invariant_of-self : goal.invariant_of-self
invariant_of-self c =
    let reader = c.self.inside in
    let at : position is_line_feed reader.piece ≡ Some c.in_ok-end.end = ap (position is_line_feed) (sym c.as_slice.ensures) ∙ sym c.in_ok-end.ensures in
    let put : c.push.new.self ≡ with_part (front_in reader.is_found reader.front) (take c.in_ok-end.end reader.piece) = rw (c.begin.ensures, c.as_slice-2.ensures) at c.push.ensures in
    rw put (line_in_line reader.is_found reader.front reader.piece c.self.invariant c.in_ok-end.end at)

pub returns-clause-finds : goal.returns-clause-finds
returns-clause-finds c =
    let reader = c.self.inside in
    let at : position is_line_feed reader.piece ≡ Some c.in_ok-end.end = ap (position is_line_feed) (sym c.as_slice.ensures) ∙ sym c.in_ok-end.ensures in
    let put : c.push.new.self ≡ with_part (front_in reader.is_found reader.front) (take c.in_ok-end.end reader.piece) = rw (c.begin.ensures, c.as_slice-2.ensures) at c.push.ensures in
    rw (c.heard.ensures, c.skip.ensures, put, ← c.self.view_is) (finds_line reader.is_found reader.front reader.piece c.self.invariant c.in_ok-end.end at)
