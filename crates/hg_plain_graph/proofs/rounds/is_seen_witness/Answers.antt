use Rattle.std.proofs.Common.{◌∙◌, ◌≡◌, ◌<◌, ◌&&◌, ◌==◌, ℕ, slice_index, true, ap, sym, refl, arith, length}
use Rattle.hg_model.specs.Rounds.{is_witness_by}
use Rattle.hg_plain_graph.proofs.TableLaws.{cell_known}
use Rattle.hg_plain_graph.proofs.StepLaws.{and_given}
use Rattle.hg_plain_graph.proofs.rounds.is_seen_witness.Goals as goal

pub returns-then-is_witness_in : goal.returns-then-is_witness_in
returns-then-is_witness_in c =
    let round : ℕ → ℕ = λ p. slice_index c.args.rounds.now p in
    let L = c.args.seeing.now.links in
    let same = c.links.ensures ∙ c.ancestry.ensures.value in
    let witness : (is_witness_by round L c.args.y && round c.args.y == c.args.r) ≡ true =
    ap (λ links. is_witness_by round links c.args.y && round c.args.y == c.args.r) (sym same) ∙ (sym c.is_witness_in.ensures ∙ c.if-is_witness_in.true) in
    let before : c.args.y < length L = omega arith in
    and_given _ _ _ witness (cell_known _ _ _ _ _ _ _ _ c.requires.strong refl c.cell.ensures c.requires.place before)
