-- Lists of names that grow by one.
use Rattle.std.proofs.Common.{◌≡◌, ℕ, suc, ◌+◌, ◌-◌, ◌<◌, ◌≤◌, List, [], ◌∷◌, ◌++◌, length, get_or, take, set, Ok, Err, refl, ap, sym, ◌∙◌, append_assoc, arith}
use Rattle.std.specs.Borrow.{Bor}
use Rattle.std.specs.List.{AllByRecursion, concat}
use Rattle.std.proofs.lemmas.List.{append-nil, map-append, take_more, take_more_set}
use Rattle.std.proofs.lemmas.List.Folds.{concat-append}
use Rattle.hg_life.specs.declared.answers.ByteFault.{ByteFault}
use Rattle.hg_life.specs.Results.{◌>>=◌}
use Rattle.hg_life.specs.Reading.{Field, bytes_field, names_field}
use Rattle.hg_event.specs.Names.{lent_names}

-- ---- names that are lent

-- one more name in the next place
pub lent_more : (names : List (Bor (List ℕ))) (place : ℕ) (name : Bor (List ℕ)) → place < length names → lent_names (take (place + 1) (set names place name)) ≡ lent_names (take place names) ++ name.now ∷ []
lent_more names place name inside = ap lent_names (take_more_set names place name inside) ∙ map-append (λ (n : Bor (List ℕ)). n.now) (take place names) (name ∷ [])

-- ---- names that are read

-- the names that were read, and those that are read behind them
abbrev pub names_behind : List (List ℕ) → List (List ℕ) × List ℕ → Field (List (List ℕ))
names_behind names field = Ok (names ++ field.0, field.1)

-- where none was read all are
behind_none : (read : Field (List (List ℕ))) → read ≡ (read >>= names_behind [])
behind_none (Ok field) = refl
behind_none (Err fault) = refl

-- so many names are these and those that are read behind them
abbrev pub IsReadTo : (size len : ℕ) (bytes : List ℕ) (place : ℕ) (names : List (List ℕ)) (rest : List ℕ) → Type 0
IsReadTo size len bytes place names rest = names_field size len bytes ≡ (names_field size (len - place) rest >>= names_behind names)

pub read_none : (size len : ℕ) (bytes : List ℕ) → IsReadTo size len bytes 0 [] bytes
read_none size len bytes = behind_none (names_field size len bytes) ∙ ap (λ (k : ℕ). names_field size k bytes >>= names_behind []) (omega arith)

behind_more : (size k : ℕ) (names : List (List ℕ)) (rest : List ℕ) (name : List ℕ × List ℕ) → bytes_field size 48 rest ≡ Ok name
    → (names_field size (suc k) rest >>= names_behind names) ≡ (names_field size k name.1 >>= names_behind (names ++ name.0 ∷ []))
unfolding names_field
behind_more size k names rest name e = rw e (joined (names_field size k name.1))
  where
    joined : (read : Field (List (List ℕ))) → ((read >>= λ others. Ok (name.0 ∷ others.0, others.1)) >>= names_behind names) ≡ (read >>= names_behind (names ++ name.0 ∷ []))
    joined (Ok others) = ap (λ (all : List (List ℕ)). Ok (all, others.1)) (sym (append_assoc names (name.0 ∷ []) others.0))
    joined (Err fault) = refl

behind_fault : (size k : ℕ) (names : List (List ℕ)) (rest : List ℕ) (fault : ByteFault) → bytes_field size 48 rest ≡ Err fault → (names_field size (suc k) rest >>= names_behind names) ≡ Err fault
unfolding names_field
behind_fault size k names rest fault e = rw e refl

behind_all : (size : ℕ) (names : List (List ℕ)) (rest : List ℕ) → (names_field size 0 rest >>= names_behind names) ≡ Ok (names, rest)
unfolding names_field
behind_all size names rest = ap (λ (all : List (List ℕ)). Ok (all, rest)) (append-nil names)

one_left : (len place : ℕ) → place < len → len - place ≡ suc (len - (place + 1))
one_left len place below = omega (arith, below)

-- one more was read
pub read_more : (size len : ℕ) (bytes : List ℕ) (place : ℕ) (names more : List (List ℕ)) (rest : List ℕ) (name : List ℕ × List ℕ) → place < len → IsReadTo size len bytes place names rest
    → bytes_field size 48 rest ≡ Ok name → more ≡ names ++ name.0 ∷ [] → IsReadTo size len bytes (place + 1) more name.1
read_more size len bytes place names more rest name below read e is =
    read ∙ ap (λ (k : ℕ). names_field size k rest >>= names_behind names) (one_left len place below) ∙ behind_more size (len - (place + 1)) names rest name e
    ∙ ap (λ (all : List (List ℕ)). names_field size (len - (place + 1)) name.1 >>= names_behind all) (sym is)

-- the next one cannot be read
pub read_fault : (size len : ℕ) (bytes : List ℕ) (place : ℕ) (names : List (List ℕ)) (rest : List ℕ) (fault : ByteFault) → place < len → IsReadTo size len bytes place names rest
    → bytes_field size 48 rest ≡ Err fault → names_field size len bytes ≡ Err fault
read_fault size len bytes place names rest fault below read e =
    read ∙ ap (λ (k : ℕ). names_field size k rest >>= names_behind names) (one_left len place below) ∙ behind_fault size (len - (place + 1)) names rest fault e

-- all were read
pub read_all : (size len : ℕ) (bytes : List ℕ) (place : ℕ) (names : List (List ℕ)) (rest : List ℕ) → len ≤ place → IsReadTo size len bytes place names rest → names_field size len bytes ≡ Ok (names, rest)
read_all size len bytes place names rest past read =
    read ∙ ap (λ (k : ℕ). names_field size k rest >>= names_behind names) (omega (arith, past)) ∙ behind_all size names rest

-- ---- names that are written

pub concat_more : (names : List (List ℕ)) (i : ℕ) → i < length names → concat (take (i + 1) names) ≡ concat (take i names) ++ get_or names i []
concat_more names i inside =
    ap concat (take_more names i [] inside) ∙ concat-append (take i names) (get_or names i [] ∷ []) ∙ ap (λ (t : List ℕ). concat (take i names) ++ t) (append-nil (get_or names i []))

pub are_long : (names : List (List ℕ)) → ((i : ℕ) → i < length names → length (get_or names i []) ≡ 48) → AllByRecursion (λ name. length name ≡ 48) names
are_long [] long = tt
are_long (name ∷ names) long = (long 0 (omega arith), are_long names (λ i inside. long (suc i) (omega (arith, inside))))
