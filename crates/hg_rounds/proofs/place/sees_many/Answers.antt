use Rattle.std.proofs.Common.{◌∙◌, sym, ap}
use Rattle.hg_model.specs.Rounds.{stake_at}
use Rattle.hg_model.specs.Seeing.{is_supermajority, strongly_sees}
use Rattle.hg_rounds.specs.Tabled.{seen_count, seen_weight}
use Rattle.hg_rounds.proofs.SeenLaws.{stake-even, stakes-even, supermajority-even, weight_among-even}
use Rattle.hg_rounds.proofs.place.sees_many.Goals as goal

pub returns-then-unwrap_or-gt0 : goal.returns-then-unwrap_or-gt0
returns-then-unwrap_or-gt0 g c =
    let shape = g.S.Sight.shape c.args.sight.now in
    let count = seen_count shape c.args.x c.args.rows.now in
    let even = stake-even shape.members c.even.result c.unwrap_or.result c.even.ensures c.unwrap_or.ensures c.if-unwrap_or-gt0.true in
    let weight = weight_among-even (stake_at shape.members shape.links) (strongly_sees shape.members shape.links c.args.x) c.unwrap_or.result c.args.rows.now
    (stakes-even shape c.unwrap_or.result c.args.rows.now c.args.x c.is_shaped.ensures.shaped c.requires.place even c.requires.places) in
    c.sees_count.ensures
    ∙ (sym (c.least_supermajority.ensures count)
    ∙ (ap (λ all. is_supermajority all count) (c.from.ensures ∙ c.members.ensures.value)
    ∙ sym (supermajority-even shape.members c.unwrap_or.result (seen_weight shape c.args.x c.args.rows.now) count even c.if-unwrap_or-gt0.true weight)))
