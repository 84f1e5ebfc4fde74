use Rattle.std.proofs.Common.{ℕ, List, Option, ap, sym, ◌∙◌}
use Rattle.hg_wire.specs.Outcome.{Finished}
use Rattle.hg_wire.specs.Progress.{Next, Done}
use Rattle.hg_wire.specs.Views.{state_of}
use Rattle.hg_wire.proofs.Turning.{at_last, stops_last}
use Rattle.hg_wire.proofs.progress.turn_last.Goals as goal

pub stop_at-requires : goal.stop_at-requires
stop_at-requires c = stops_last (state_of c.args.progress.now) c.args.bytes.now c.in-Err.stop c.requires c.in-Err.ensures

pub returns-in-Ok : goal.returns-in-Ok
returns-in-Ok c =
    let s = state_of c.args.progress.now in (
      at_last s c.args.bytes.now (Finished c.copied.result c.in-Ok.rest.now) c.requires (c.in-Ok.ensures ∙ ap (λ (last : Option (List ℕ)). Finished last c.in-Ok.rest.now) (sym c.copied.ensures))
          ∙ ap (λ (n : Next). Finished n c.in-Ok.rest.now) (ap Done (sym c.take_rows.ensures.message)),
      c.take_rows.ensures.over,
    )
