use Rattle.std.proofs.Common.{◌-◌, ℕ, List, ap, refl, sym, ◌∙◌}
use Rattle.hg_wire.specs.declared.message.Message.TheVariants.{Have}
use Rattle.hg_wire.specs.declared.progress.Stage.TheVariants.{AtName}
use Rattle.hg_wire.specs.Outcome.{Finished}
use Rattle.hg_wire.specs.Progress.{Next, Done, Into}
use Rattle.hg_wire.specs.Views.{state_of}
use Rattle.hg_wire.proofs.Turning.{at_name, name_done, name_on, stops_name}
use Rattle.hg_wire.proofs.progress.turn_name.Goals as goal

pub stop_at-requires : goal.stop_at-requires
stop_at-requires c = stops_name (state_of c.args.progress.now) c.args.more c.args.bytes.now c.in-Err.stop c.requires c.in-Err.ensures

pub returns-then-more-eq0-clause-turns : goal.returns-then-more-eq0-clause-turns
returns-then-more-eq0-clause-turns c =
    let s = state_of c.args.progress.now in (
      at_name s c.args.more c.args.bytes.now (Finished c.in-Ok.name.now c.in-Ok.rest.now) c.requires c.in-Ok.ensures
          ∙ ap (λ (n : Next). Finished n c.in-Ok.rest.now)
          (name_done s c.args.more c.in-Ok.name.now c.if-more-eq0.true ∙ ap (λ (names : List (List ℕ)). Done (Have names)) (sym c.in_ok-push-in-Ok.ensures.items) ∙ ap Done (sym c.take_names.ensures.message)),
      c.take_names.ensures.over,
    )

pub returns-else-more-eq0-clause-turns : goal.returns-else-more-eq0-clause-turns
returns-else-more-eq0-clause-turns c =
    let s = state_of c.args.progress.now in (
      at_name s c.args.more c.args.bytes.now (Finished c.in-Ok.name.now c.in-Ok.rest.now) c.requires c.in-Ok.ensures
          ∙ ap (λ (n : Next). Finished n c.in-Ok.rest.now)
          (name_on s c.args.more c.in-Ok.name.now c.if-more-eq0.false ∙ ap (λ (names : List (List ℕ)). Into (record s { stage = AtName (c.args.more - 1); names = names })) (sym c.in_ok-push-in-Ok.ensures.items)),
      refl,
    )
