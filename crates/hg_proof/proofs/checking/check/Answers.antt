use Rattle.std.proofs.Common.{◌∙◌, arith}
use Rattle.hg_model.specs.Prefix.{Graph}
use Rattle.hg_proof.proofs.CheckLaws.{answered_shows, full_rows}
use Rattle.hg_proof.proofs.JudgeLaws.{shown_accepted}
use Rattle.hg_proof.proofs.checking.check.Goals as goal

pub returns-clause-yes : goal.returns-clause-yes
returns-clause-yes g c =
    let old : Graph = c.args.graph.now.graph in
    answered_shows (g.V.Verifier.accepts c.args.keys.now) old.members old.coin c.args.bytes.now c.in_ok-checked.checked (λ i. omega (arith, c.type_inv.bytes i))
    c.len.ensures.lawful.some_stake c.in_ok-checked.ensures.told

pub returns-clause-only : goal.returns-clause-only
returns-clause-only g c = λ shown shows.
    let old : Graph = c.args.graph.now.graph in
    c.in_ok-checked.ensures.told ∙ shown_accepted (g.V.Verifier.accepts c.args.keys.now) old.members old.coin c.args.bytes.now shown shows

pub returns-clause-all : goal.returns-clause-all
returns-clause-all g c =
    full_rows (g.V.Verifier.accepts c.args.keys.now) c.args.graph.now.graph c.args.bytes.now c.in_ok-checked.checked c.answered.new.graph.graph c.requires c.in_ok-checked.ensures.told c.in_ok-checked.ensures.passed
