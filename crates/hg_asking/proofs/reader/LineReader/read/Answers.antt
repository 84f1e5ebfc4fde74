use Rattle.std.proofs.Common.{◌≡◌, ◌∙◌, false, sym, ap}
use Rattle.hg_asking.specs.Lines.{front_in, has_line, reader_of, with_part}
use Rattle.hg_asking.proofs.ReaderLaws.{hears, rest_in_line}
use Rattle.hg_asking.proofs.reader.LineReader.read.Goals as goal

pub invariant_of-self : goal.invariant_of-self
invariant_of-self g c =
    let reader = c.self.inside in
    let none : has_line (reader_of reader.is_found reader.front reader.piece) ≡ false = ap has_line c.self.view_is ∙ sym c.has_line.ensures ∙ c.if-has_line.false in
    let put : c.push.new.self ≡ with_part (front_in reader.is_found reader.front) reader.piece = rw (c.begin.ensures, c.as_slice.ensures) at c.push.ensures in
    rw put (rest_in_line reader.is_found reader.front reader.piece c.self.invariant none)

pub returns-clause-hears : goal.returns-clause-hears
returns-clause-hears g c =
    let reader = c.self.inside in
    let none : has_line (reader_of reader.is_found reader.front reader.piece) ≡ false = ap has_line c.self.view_is ∙ sym c.has_line.ensures ∙ c.if-has_line.false in
    let put : c.push.new.self ≡ with_part (front_in reader.is_found reader.front) reader.piece = rw (c.begin.ensures, c.as_slice.ensures) at c.push.ensures in
    rw (put, ← c.self.view_is) (hears reader.is_found reader.front reader.piece c.self.invariant _ _ c.read.new.self c.read.result none c.read.ensures.next c.read.ensures.some c.read.ensures.end c.read.ensures.none c.read.ensures.failed)
