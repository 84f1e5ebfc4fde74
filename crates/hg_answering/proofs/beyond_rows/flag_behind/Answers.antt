use Rattle.std.proofs.Common.{◌-◌, ◌∙◌, ℕ, map, ap, arith, subst, sym}
use Rattle.std.specs.Prelude.{List, Bool}
use Rattle.hg_model.specs.Links.{place_of}
use Rattle.hg_node.specs.Beyond.{flagged}
use Rattle.hg_node.proofs.FlagLaws.{WalksDown, walk_starts, walk_more}
use Rattle.hg_answering.proofs.BeyondLaws.{flagged_from}
use Rattle.hg_answering.proofs.beyond_rows.flag_behind.Goals as goal

pub rows-init : goal.rows-init
rows-init c =
    let G = c.args.graph.now.graph.rows in
    let names = c.args.names.now in (
      omega (arith, c.requires.start, c.len-x.ensures.value),
      subst (λ (x : ℕ). WalksDown G names x c.flag_all.new.flags) (sym c.len-x.ensures.value)
          (walk_starts G names c.len-x.ensures.lawful.graph.shaped.earlier c.flag_all.new.flags (c.flag_all.ensures ∙ ap (λ (flags : List Bool). flagged flags (map (place_of G) names)) c.requires.none)),
    )

pub flag_parents_of_flagged-requires-clause-place : goal.flag_parents_of_flagged-requires-clause-place
flag_parents_of_flagged-requires-clause-place c = let walks = c.rows.invariant.1 in omega (arith, walks.inside, c.rows-test.true)

pub rows-preserved : goal.rows-preserved
rows-preserved c =
    let G = c.args.graph.now.graph.rows in
    let names = c.args.names.now in
    let walks = c.rows.invariant.1 in (
      omega (arith, c.rows-test.true),
      walk_more G names c.len-x.ensures.lawful.graph.shaped.earlier (c.rows.x - 1) c.rows.flags c.flag_parents_of_flagged.new.flags (omega (arith, walks.inside, c.rows-test.true)) c.flag_parents_of_flagged.ensures
          (subst (λ (x : ℕ). WalksDown G names x c.rows.flags) (omega (arith, c.rows-test.true)) walks),
    )

pub returns : goal.returns
returns c =
    let G = c.args.graph.now.graph.rows in
    let names = c.args.names.now in
    flagged_from G names c.len-x.ensures.lawful.graph.shaped.earlier c.args.start c.rows.flags
    (subst (λ (x : ℕ). WalksDown G names x c.rows.flags) (omega (arith, c.rows-test.false, c.rows.invariant.0)) c.rows.invariant.1)
