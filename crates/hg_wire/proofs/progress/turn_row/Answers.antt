use Rattle.std.proofs.Common.{◌≡◌, ◌-◌, ◌∷◌, ◌++◌, [], ℕ, List, length, ap, arith, refl, sym, ◌∙◌}
use Rattle.hg_wire.specs.declared.progress.Stage.TheVariants.{AtLast, AtRow}
use Rattle.hg_wire.specs.Outcome.{Finished}
use Rattle.hg_wire.specs.Progress.{Next, Into}
use Rattle.hg_wire.specs.Views.{state_of}
use Rattle.hg_wire.proofs.Turning.{at_row, row_done, row_on, stops_row}
use Rattle.hg_wire.proofs.progress.turn_row.Goals as goal

pub stop_at-requires : goal.stop_at-requires
stop_at-requires c =
    let s = state_of c.args.progress.now in
    let here : c.len.result ≡ length s.rows = omega (arith, c.len.ensures) in
    stops_row s c.args.more c.len.result c.args.bytes.now c.in-Err.stop c.requires here c.in-Err.ensures

pub returns-then-more-eq0-clause-turns : goal.returns-then-more-eq0-clause-turns
returns-then-more-eq0-clause-turns c =
    let s = state_of c.args.progress.now in
    let row = c.in-Ok.row.now in
    let here : c.len.result ≡ length s.rows = omega (arith, c.len.ensures) in
    let grown : s.rows ++ row ∷ [] ≡ c.push.new.self.items =
    ap (λ (t : List ℕ). s.rows ++ t ∷ []) (sym (c.from_vec-row.ensures ∙ c.in_ok-from_slice-in-Ok.ensures.items)) ∙ sym c.in_ok-push-in-Ok.ensures.items in (
      at_row s c.args.more c.len.result c.args.bytes.now (Finished row c.in-Ok.rest.now) c.requires here c.in-Ok.ensures
          ∙ ap (λ (n : Next). Finished n c.in-Ok.rest.now)
          (row_done s c.args.more row c.if-more-eq0.true ∙ ap (λ (rows : List (List ℕ)). Into (record s { stage = AtLast; rows = rows })) grown),
      refl,
    )

pub returns-else-more-eq0-clause-turns : goal.returns-else-more-eq0-clause-turns
returns-else-more-eq0-clause-turns c =
    let s = state_of c.args.progress.now in
    let row = c.in-Ok.row.now in
    let here : c.len.result ≡ length s.rows = omega (arith, c.len.ensures) in
    let grown : s.rows ++ row ∷ [] ≡ c.push.new.self.items =
    ap (λ (t : List ℕ). s.rows ++ t ∷ []) (sym (c.from_vec-row.ensures ∙ c.in_ok-from_slice-in-Ok.ensures.items)) ∙ sym c.in_ok-push-in-Ok.ensures.items in (
      at_row s c.args.more c.len.result c.args.bytes.now (Finished row c.in-Ok.rest.now) c.requires here c.in-Ok.ensures
          ∙ ap (λ (n : Next). Finished n c.in-Ok.rest.now)
          (row_on s c.args.more row c.if-more-eq0.false ∙ ap (λ (rows : List (List ℕ)). Into (record s { stage = AtRow (c.args.more - 1); rows = rows })) grown),
      refl,
    )
