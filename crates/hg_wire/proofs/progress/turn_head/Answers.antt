use Rattle.std.proofs.Common.{ap, refl, sym, ◌∙◌}
use Rattle.hg_wire.specs.Outcome.{Finished}
use Rattle.hg_wire.specs.Progress.{Next, Done}
use Rattle.hg_wire.specs.Views.{state_of}
use Rattle.hg_wire.proofs.Turning.{at_head, counted_names, counted_no_names, counted_no_rows, counted_rows, stops_head}
use Rattle.hg_wire.proofs.progress.turn_head.Goals as goal

pub stop_at-requires : goal.stop_at-requires
stop_at-requires c = stops_head (state_of c.args.progress.now) c.args.bytes.now c.in-Err.stop c.requires c.in-Err.ensures

pub returns-then-count-eq0 : goal.returns-then-count-eq0
returns-then-count-eq0 c =
    let s = state_of c.args.progress.now in (
      at_head s c.args.bytes.now (Finished c.in-Ok.count c.in-Ok.rest.now) c.requires c.in-Ok.ensures
          ∙ ap (λ (n : Next). Finished n c.in-Ok.rest.now) (counted_no_names s s.want c.in-Ok.count c.in-Have.is c.if-count-eq0.true ∙ ap Done (sym c.take_names.ensures.message)),
      c.take_names.ensures.over,
    )

pub returns-else-count-eq0 : goal.returns-else-count-eq0
returns-else-count-eq0 c =
    let s = state_of c.args.progress.now in (
      at_head s c.args.bytes.now (Finished c.in-Ok.count c.in-Ok.rest.now) c.requires c.in-Ok.ensures
          ∙ ap (λ (n : Next). Finished n c.in-Ok.rest.now) (counted_names s s.want c.in-Ok.count c.in-Have.is c.if-count-eq0.false),
      refl,
    )

pub returns-then-count-eq0-2 : goal.returns-then-count-eq0-2
returns-then-count-eq0-2 c =
    let s = state_of c.args.progress.now in (
      at_head s c.args.bytes.now (Finished c.in-Ok.count c.in-Ok.rest.now) c.requires c.in-Ok.ensures
          ∙ ap (λ (n : Next). Finished n c.in-Ok.rest.now) (counted_no_rows s s.want c.in-Ok.count c.in-Rows.is c.if-count-eq0-2.true),
      refl,
    )

pub returns-else-count-eq0-2 : goal.returns-else-count-eq0-2
returns-else-count-eq0-2 c =
    let s = state_of c.args.progress.now in (
      at_head s c.args.bytes.now (Finished c.in-Ok.count c.in-Ok.rest.now) c.requires c.in-Ok.ensures
          ∙ ap (λ (n : Next). Finished n c.in-Ok.rest.now) (counted_rows s s.want c.in-Ok.count c.in-Rows.is c.if-count-eq0-2.false),
      refl,
    )
