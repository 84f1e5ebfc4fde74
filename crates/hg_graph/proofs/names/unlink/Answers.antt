use Rattle.std.proofs.Common.{◌<◌, ◌∙◌, ℕ, length, refl, rules, inl, inr, arith}
use Rattle.std.proofs.lemmas.Bool.{cases_eq}
use Rattle.std.proofs.lemmas.List.{get_or-set_same, get_or-set_other}
use Rattle.std.proofs.Math.Seq.{map-set_same}
use Rattle.hg_graph.specs.declared.names.HashedRow.{HashedRow}
use Rattle.hg_graph.specs.Names.{hashed_at}
use Rattle.hg_graph.proofs.names.unlink.Goals as goal

pub loop-x-preserved : goal.loop-x-preserved
loop-x-preserved c =
    let i = c.loop-x.invariant in
    let x : ℕ = c.loop-x.x in
    let hashed = c.loop-x.hashed in
    let no_row : HashedRow = record { hash = 0; even = 0; odd = 0 } in
    let alone : HashedRow = record { hash = (hashed_at hashed x).hash; even = 0; odd = 0 } in
    let room : x < length hashed = search rules in
    record {
      same = map-set_same (λ (e : HashedRow). e.hash) hashed x alone no_row refl ∙ i.same;
      long = search rules;
      done = λ k below. elim (cases_eq k x) [
        | inl here ↦ rw (here, get_or-set_same hashed x alone no_row room) (record { even = refl; odd = refl })
        | inr other ↦ rw (get_or-set_other hashed x k alone no_row other) (i.done k (omega arith))
      ];
    }
