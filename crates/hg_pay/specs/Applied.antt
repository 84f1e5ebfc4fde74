-- What applying a payload to the balances leaves and answers
use Rattle.std.specs.Prelude.{ℕ, zero, ◌+◌, ◌*◌, ◌≡◌, Bool, cond, List, [], ◌∷◌, ◌++◌, get_or}
use Rattle.hg_model.specs.declared.row.Row.{Row}
use Rattle.hg_life.specs.declared.pay.Effect.{Effect}
use Rattle.hg_model.specs.Links.{no_row}
use Rattle.hg_life.specs.Pay.{Book, with_payload}

-- the number whose bit i, counted from the lowest, is set just where entry i is true
abbrev pub done_bits : List Bool → ℕ
done_bits [] = 0
done_bits (done ∷ rest) = cond done 1 0 + 2 * done_bits rest

abbrev pub book_with : List ℕ → List Effect → Book
book_with balances effects = record { balances = balances; effects = effects }

-- whatever came of the events before, the payload leaves these balances, and this effect behind the others
abbrev pub Leaves : List ℕ → ℕ → List ℕ → List ℕ → Effect → Type 0
Leaves before payer payload after e =
    (effects : List Effect) → with_payload (book_with before effects) payer payload ≡ book_with after (effects ++ e ∷ [])

-- so does the payload of the event at a place
abbrev pub LeavesAt : List Row → List ℕ → ℕ → List ℕ → Effect → Type 0
LeavesAt G before place after e = let row = get_or G place no_row in Leaves before row.creator row.payload after e
