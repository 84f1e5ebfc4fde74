-- What is said of bytes that no node has seen
use Rattle.std.proofs.Common.{◌≡◌, List, ℕ, Option, Some, Result, Ok, Err, ap, sym, ◌∙◌}
use Rattle.std.specs.Prelude.{OnErr}
use Rattle.hg_model.specs.declared.row.Row.{Row}
use Rattle.hg_life.specs.declared.answers.ByteFault.{ByteFault}
use Rattle.hg_life.specs.declared.answers.Fault.TheVariants as fault
use Rattle.hg_life.specs.declared.answers.PutAnswer.{PutAnswer}
use Rattle.hg_life.specs.declared.answers.PutAnswer.TheVariants.{Refused}
use Rattle.hg_life.specs.Reading.{read_event}
use Rattle.hg_life.specs.Signing.{Accepts}
use Rattle.hg_model.specs.Stakes.{Stakes}
use Rattle.hg_node.specs.Checked.{unfit, unfit_read, unfit_row}

module _ (accepts : Accepts) (n : Stakes) (bytes : List ℕ) where
  -- that they are no event's
  pub faulty : (e : ByteFault) → read_event bytes ≡ Err e → Some (Refused (fault.Bytes e)) ≡ unfit accepts n bytes
  unfolding unfit
  faulty e read = sym (ap (unfit_read accepts n) read)

  -- or what is said of the row
  pub told : (row : Row) (o : Option PutAnswer) → read_event bytes ≡ Ok row → o ≡ unfit_row accepts n row → o ≡ unfit accepts n bytes
  unfolding unfit
  told row o read says = says ∙ sym (ap (unfit_read accepts n) read)

-- memory ran out
pub errs : {A E : Type 0} (result : Result A E) {P : Type 0} → P → OnErr result P
errs (Ok a) p = tt
errs (Err e) p = p
