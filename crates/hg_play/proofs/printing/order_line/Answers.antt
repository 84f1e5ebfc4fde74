use Rattle.std.proofs.Common.{◌≡◌, ◌∙◌, ap, arith, length, zero-add}
use Rattle.std.proofs.lemmas.List.FromFn.{get_or-map-range_with_len}
use Rattle.hg_model.specs.Shape.{Shape}
use Rattle.hg_model.specs.Order.{sequence_of}
use Rattle.hg_model.specs.Prefix.{links_of}
use Rattle.hg_play.proofs.SequenceLaws.{line_is}
use Rattle.hg_play.proofs.printing.order_line.Goals as goal

pub returns : goal.returns
returns g c =
    let rows = (g.P.Prefix.graph c.args.p.now).rows in
    let place = c.args.placed.now.place in
    line_is rows (links_of (g.P.Prefix.graph c.args.p.now)) (g.P.Sight.shape c.args.p.now).links c.args.placed.now c.args.effect _ _ c.row.result.now (ap (λ (s : Shape). s.links) c.is_of_graph.ensures.matches.shaped)
    c.creator.ensures.value
    (ap (λ xs. Rattle.std.proofs.Common.slice_index_or xs place 0) c.requires.sequences ∙ get_or-map-range_with_len (sequence_of (links_of (g.P.Prefix.graph c.args.p.now))) 0 (length c.args.sequences.now) place place 0 c.requires.counted (zero-add place))
    c.row.ensures
