use Rattle.std.proofs.Common.{◌-◌, ◌∙◌, ℕ, map, ap, arith, subst, sym}
use Rattle.std.specs.Prelude.{List, Bool}
use Rattle.hg_model.specs.Links.{place_of}
use Rattle.hg_node.specs.Beyond.{flagged}
use Rattle.hg_node.proofs.FlagLaws.{WalksDown, walk_starts, walk_more, walk_ends}
use Rattle.hg_node.proofs.beyond.flag_behind.Goals as goal

pub rows-init : goal.rows-init
rows-init c =
    let G = c.args.graph.now.graph.rows in
    let names = c.args.names.now in
    subst (λ (x : ℕ). WalksDown G names x c.flag_all.new.flags) (sym c.len-x.ensures.value)
    (walk_starts G names c.len-x.ensures.lawful.graph.shaped.earlier c.flag_all.new.flags (c.flag_all.ensures ∙ ap (λ (flags : List Bool). flagged flags (map (place_of G) names)) c.requires))

pub flag_parents_of_flagged-requires-clause-place : goal.flag_parents_of_flagged-requires-clause-place
flag_parents_of_flagged-requires-clause-place c = omega (arith, c.rows.invariant.inside, c.rows-test.true)

pub rows-preserved : goal.rows-preserved
rows-preserved c =
    let G = c.args.graph.now.graph.rows in
    let names = c.args.names.now in
    walk_more G names c.len-x.ensures.lawful.graph.shaped.earlier (c.rows.x - 1) c.rows.flags c.flag_parents_of_flagged.new.flags (omega (arith, c.rows.invariant.inside, c.rows-test.true)) c.flag_parents_of_flagged.ensures
    (subst (λ (x : ℕ). WalksDown G names x c.rows.flags) (omega (arith, c.rows-test.true)) c.rows.invariant)

pub returns : goal.returns
returns c =
    walk_ends c.args.graph.now.graph.rows c.args.names.now c.len-x.ensures.lawful.graph.shaped.earlier c.rows.x c.rows.flags (omega (arith, c.rows-test.false)) c.rows.invariant
