use Rattle.std.proofs.Common.{◌∙◌, ◌-◌, ℕ, Bool, ◌&&◌, ap, ap₂, sym, arith, leb}
use Rattle.hg_model.specs.Standings.{round_at}
use Rattle.hg_kept.proofs.GraphFacts.{late_known}
use Rattle.hg_kept.proofs.kept.is_last_late.Goals as goal

pub overflow_sub-x : goal.overflow_sub-x
overflow_sub-x g c = omega (arith, c.is_of_graph.ensures.links, c.rows-x.ensures.value, c.requires.some)

pub is_witness-requires : goal.is_witness-requires
is_witness-requires g c =
    omega (arith, c.is_of_graph.ensures.links, c.is_of_graph.ensures.standings, c.rows-x.ensures.value, c.requires.some)

pub round-requires : goal.round-requires
round-requires g c =
    omega (arith, c.is_of_graph.ensures.links, c.is_of_graph.ensures.standings, c.rows-x.ensures.value, c.requires.some)

pub returns-then-is_witness : goal.returns-then-is_witness
returns-then-is_witness g c =
    let S = g.P.Rounds.standings c.args.p.now in
    let x = c.rows-x.result - 1 in
    ap₂ (λ (b : Bool) (r : ℕ). b && leb r c.args.closed) (sym c.if-is_witness.true ∙ c.is_witness.ensures) c.round.ensures
    ∙ late_known _ _ _ c.is_of_graph.ensures.matches c.requires.some x c.args.closed (ap (λ (k : ℕ). k - 1) c.rows-x.ensures.value)

pub returns-else-is_witness : goal.returns-else-is_witness
returns-else-is_witness g c =
    let S = g.P.Rounds.standings c.args.p.now in
    let x = c.rows-x.result - 1 in
    c.if-is_witness.false
    ∙ (ap (λ (b : Bool). b && leb (round_at S x) c.args.closed) (sym c.if-is_witness.false ∙ c.is_witness.ensures)
    ∙ late_known _ _ _ c.is_of_graph.ensures.matches c.requires.some x c.args.closed (ap (λ (k : ℕ). k - 1) c.rows-x.ensures.value))
