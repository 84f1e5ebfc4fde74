use Rattle.std.proofs.Common.{◌≡◌, ◌∙◌, ◌<◌, List, ℕ, ap, length, slice_index_or, subst, sym}
use Rattle.std.proofs.lemmas.List.FromFn.{length-map-range_with_len}
use Rattle.hg_model.specs.declared.row.Placed.{Placed}
use Rattle.hg_model.specs.Places.{table}
use Rattle.hg_model.specs.Shape.{Shape}
use Rattle.hg_model.specs.Links.{Link}
use Rattle.hg_model.specs.Order.{sequence_of}
use Rattle.hg_model.specs.Prefix.{links_of}
use Rattle.hg_play.proofs.printing.order_lines.Given as given
use Rattle.hg_play.proofs.printing.order_lines.Goals as goal

-- as many are counted as there are rows up to the last one that is printed
counted : (g : given.Over) (c : goal.After-order_line-arg-1 g) → length c.as_slice.result.now ≡ c.end_of-end.result
counted g c = ap length (c.as_slice.ensures.value ∙ c.in_ok-sequences.ensures) ∙ length-map-range_with_len (sequence_of (g.P.Sight.shape c.args.p.now).links) 0 c.end_of-end.result

pub order_line-requires-clause-counted : goal.order_line-requires-clause-counted
order_line-requires-clause-counted g c =
    let first : Placed = record { place = 0; received = 0; time = 0 } in
    subst (λ (k : ℕ). (slice_index_or c.args.order.now c.loop-i.i first).place < k) (sym (counted g c))
    (c.end_of-end.ensures.places c.loop-i.i first c.loop-i-test.true)

pub order_line-requires-clause-sequences : goal.order_line-requires-clause-sequences
order_line-requires-clause-sequences g c =
    let same = ap (λ (s : Shape). s.links) c.is_of_graph.ensures.matches.shaped in
    c.as_slice.ensures.value
    ∙ (c.in_ok-sequences.ensures
    ∙ (ap (λ (L : List Link). table (sequence_of L) c.end_of-end.result) same
    ∙ ap (table (sequence_of (links_of (g.P.Prefix.graph c.args.p.now)))) (sym (counted g c))))
