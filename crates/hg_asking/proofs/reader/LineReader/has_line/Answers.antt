use Rattle.std.proofs.Common.{◌∙◌, sym, ap}
use Rattle.std.specs.Prelude.{is_some}
use Rattle.std.specs.List.{position}
use Rattle.hg_script.specs.Script.{is_line_feed}
use Rattle.hg_asking.specs.Lines.{has_line}
use Rattle.hg_asking.proofs.ReaderLaws.{has_line-is}
use Rattle.hg_asking.proofs.reader.LineReader.has_line.Goals as goal

pub returns : goal.returns
returns c =
    let reader = c.self.inside in
    c.is_some.ensures ∙ ap is_some (c.line_feed_in.ensures ∙ ap (position is_line_feed) c.as_slice.ensures)
    ∙ sym (has_line-is reader.is_found reader.front reader.piece c.self.invariant) ∙ ap has_line c.self.view_is
