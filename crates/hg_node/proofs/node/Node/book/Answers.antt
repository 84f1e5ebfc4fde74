use Rattle.std.proofs.Common.{◌∙◌, ap, sym}
use Rattle.hg_life.specs.Pay.{Book}
use Rattle.hg_node.specs.ChronicleView.{ChronicleView, book_in}
use Rattle.hg_node.proofs.RecordLaws.{book_is}
use Rattle.hg_node.proofs.node.Node.book.Goals as goal

pub returns : goal.returns
returns g c =
    rw (← c.self.view_is) (c.book.ensures
    ∙ (ap (λ (r : ChronicleView). (book_in r).balances) c.deref.ensures
    ∙ ap (λ (b : Book). b.balances) (sym (book_is g.V.Verifier.accepts c.self.inside.keys c.self.inside.chronicle.value c.self.invariant))))
