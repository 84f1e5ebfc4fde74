-- What readers of formats answer: a value, or the first fault
use Rattle.std.specs.Prelude.{◌≡◌, Result, Ok, Err, ⊤}
use Rattle.hg_model.specs.declared.stop.Stop.{Stop}
use Rattle.hg_model.specs.declared.stop.Stop.TheVariants.{Memory, Fault}

-- one check after the other, up to the first that fails
infixl 10 ◌>>=◌
abbrev pub ◌>>=◌ : {E A B : Type 0} → Result A E → (A → Result B E) → Result B E
Ok x >>= next = next x
Err fault >>= next = Err fault

-- the value that is read, as it is seen, or the same fault
abbrev pub Reads : {X Y E : Type 0} → (X → Y) → Result X E → Result Y E → Type 0
Reads view (Ok x) read = read ≡ Ok (view x)
Reads view (Err fault) read = read ≡ Err fault

-- the same, unless memory runs out
abbrev pub Gives : {X Y E : Type 0} → (X → Y) → Result X (Stop E) → Result Y E → Type 0
Gives view (Ok x) read = read ≡ Ok (view x)
Gives view (Err Memory) read = ⊤
Gives view (Err (Fault fault)) read = read ≡ Err fault
