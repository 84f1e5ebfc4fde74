use Rattle.std.proofs.Common.{◌∙◌, ◌-◌, ap₂, drop, length, take, List, ℕ}
use Rattle.std.proofs.lemmas.List.{take_rest}
use Rattle.hg_model.specs.declared.row.Placed.{Placed}
use Rattle.order_market.proofs.ReadLaws.{rest_read}
use Rattle.order_market.proofs.reading.read_rest.Goals as goal

pub returns : goal.returns
returns c =
    let kept = c.kept-kept.result.now in
    let from = c.events-from.result in
    rest_read c.args.book.now _ c.args.node.now (take (length kept - from) (drop from kept)) c.books_go_on.ensures.count c.books_go_on.ensures.more c.requires
    c.in_ok-read_each.ensures (take_rest kept from ∙ ap₂ (λ (k : ℕ) (order : List Placed). drop k order) c.events-from.ensures c.kept-kept.ensures.order)
