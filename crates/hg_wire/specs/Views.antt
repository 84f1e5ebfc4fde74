-- What the code's values show
use Rattle.std.specs.Prelude.{◌≡◌, ℕ, List, Result, Ok, Err}
use Rattle.hg_wire.specs.declared.fields.Stop.{Stop}
use Rattle.hg_wire.specs.declared.fields.Stop.TheVariants.{Waits, Wrong}
use Rattle.hg_wire.specs.declared.progress.Progress.{Progress}
use Rattle.hg_wire.specs.Outcome.{Outcome, Unfinished, Faulty, Finished}
use Rattle.hg_wire.specs.Progress.{State}

-- the outcome that stopped a reading
abbrev pub stopped : {A : Type 0} → Stop → Outcome A
stopped Waits = Unfinished
stopped (Wrong fault) = Faulty fault

-- what a call returned is what reading a field gives: its value, as it is shown, and the bytes behind it
abbrev pub Tells : {A B : Type 0} → (A → B) → (A → List ℕ) → Result A Stop → Outcome B → Type 0
Tells shown behind (Ok x) read = read ≡ Finished (shown x) (behind x)
Tells shown behind (Err stop) read = read ≡ stopped stop

abbrev pub state_of : Progress → State
state_of p = record { want = p.want; stage = p.stage; names = p.names.items; rows = p.rows.items }
