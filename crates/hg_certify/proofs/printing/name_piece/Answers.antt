use Rattle.std.proofs.Common.{◌∙◌, None, Option, ap, refl, sym, arith}
use Rattle.std.proofs.lemmas.Option.{slice_get_past, slice_get_read}
use Rattle.hex.specs.Hex.{encode_lower}
use Rattle.hg_model.specs.declared.row.Row.{Row}
use Rattle.hg_certify.specs.Text.{name_text}
use Rattle.hg_certify.proofs.Names.{row_found}
use Rattle.hg_certify.proofs.printing.name_piece.Goals as goal

pub returns-in-Some : goal.returns-in-Some
returns-in-Some c =
    let found = slice_get_read c.args.events.now _ c.args.place c.in-Some.event.now refl c.in-Some.ensures.lookup.3.0 c.in-Some.ensures.lookup.1 in
    ap (λ (row : Row). encode_lower row.name) (c.row.ensures.value ∙ c.deref.ensures)
    ∙ sym (ap (λ (row : Option Row). name_text row) (row_found c.args.events.now c.args.place _ found))

pub returns-in-None : goal.returns-in-None
returns-in-None c =
    sym (ap (λ (row : Option Row). name_text row) (row_found c.args.events.now c.args.place None (slice_get_past c.args.events.now c.args.place (omega (arith, c.in-None.ensures.lookup)))))
