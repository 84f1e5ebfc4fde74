-- What is still to be read is the field at the place, and then what is to be read from where it leads to
use Rattle.std.proofs.Common.{◌≡◌, ℕ, zero, suc, ◌+◌, List, [], ◌∷◌, ◌++◌, length, refl, sym, ap, ◌∙◌, append_assoc, arith}
use Rattle.std.proofs.lemmas.List.{append-nil, length-append}
use Rattle.hg_wire.specs.declared.message.Want.{Want}
use Rattle.hg_wire.specs.declared.message.Want.TheVariants as want
use Rattle.hg_wire.specs.declared.message.Message.{Message}
use Rattle.hg_wire.specs.declared.message.Message.TheVariants.{Have, Rows}
use Rattle.hg_wire.specs.declared.progress.Stage.{Stage}
use Rattle.hg_wire.specs.declared.progress.Stage.TheVariants.{AtHead, AtName, AtRow, AtLast, Shut, Over}
use Rattle.hg_wire.specs.Outcome.{Outcome, Unfinished, Faulty, Finished, Reader, ◌>>=◌}
use Rattle.hg_wire.specs.Reading.{body, head_field, last_field, many, name_field, parcel_of, read, row_field}
use Rattle.hg_wire.specs.Progress.{State, Next, Done, after_count, after_name, after_row, body_on, field, field_at, finish, rest_at, rest_of, start}

-- a field, and then what it leads to
leads : {A : Type 0} (o : Outcome A) (f : A → Reader Message) (make : A → Next)
    → ((x : A) (rest : List ℕ) → f x rest ≡ finish (make x) rest) → (o >>= f) ≡ ((o >>= (λ x rest. Finished (make x) rest)) >>= finish)
leads Unfinished f make same = refl
leads (Faulty fault) f make same = refl
leads (Finished x rest) f make same = same x rest

-- the same of a field that stands before others
leads_on : {A B : Type 0} (o : Outcome A) (f : A → Reader B) (g : B → Reader Message) (make : A → Next)
    → ((x : A) (rest : List ℕ) → (f x rest >>= g) ≡ finish (make x) rest) → ((o >>= f) >>= g) ≡ ((o >>= (λ x rest. Finished (make x) rest)) >>= finish)
leads_on Unfinished f g make same = refl
leads_on (Faulty fault) f g make same = refl
leads_on (Finished x rest) f g make same = same x rest

-- the first of a list, put behind those before
shift : (o : Outcome (List (List ℕ))) (x : List ℕ) (front : List (List ℕ)) (end : List (List ℕ) → Reader Message)
    → ((o >>= (λ xs rest. Finished (x ∷ xs) rest)) >>= (λ xs rest. end (front ++ xs) rest)) ≡ (o >>= (λ xs rest. end ((front ++ x ∷ []) ++ xs) rest))
shift Unfinished x front end = refl
shift (Faulty fault) x front end = refl
shift (Finished xs rest) x front end = ap (λ (t : List (List ℕ)). end t rest) (sym (append_assoc front (x ∷ []) xs))

longer : (front : List (List ℕ)) (x : List ℕ) → length front + 1 ≡ length (front ++ x ∷ [])
longer front x = omega (arith, length-append front (x ∷ []))

abbrev names_end : List (List ℕ) → Reader Message
names_end names rest = Finished (Have names) rest

abbrev rows_end : List (List ℕ) → Reader Message
rows_end rows rest = last_field rest >>= (λ last rest. Finished (Rows (parcel_of rows last)) rest)

name_next : (s : State) (k : ℕ) (x rest : List ℕ)
    → ((many name_field (length s.names + 1) k rest >>= (λ xs rest. Finished (x ∷ xs) rest)) >>= (λ xs rest. names_end (s.names ++ xs) rest)) ≡ finish (after_name s k x) rest
unfolding many rest_at body_on
name_next s zero x rest = refl
name_next s (suc k) x rest =
    shift (many name_field (length s.names + 1) (suc k) rest) x s.names names_end
    ∙ ap (λ (i : ℕ). many name_field i (suc k) rest >>= (λ xs rest. names_end ((s.names ++ x ∷ []) ++ xs) rest)) (longer s.names x)

row_next : (s : State) (k : ℕ) (x rest : List ℕ)
    → ((many row_field (length s.rows + 1) k rest >>= (λ xs rest. Finished (x ∷ xs) rest)) >>= (λ xs rest. rows_end (s.rows ++ xs) rest)) ≡ finish (after_row s k x) rest
unfolding many rest_at body_on
row_next s zero x rest = refl
row_next s (suc k) x rest =
    shift (many row_field (length s.rows + 1) (suc k) rest) x s.rows rows_end
    ∙ ap (λ (i : ℕ). many row_field i (suc k) rest >>= (λ xs rest. rows_end ((s.rows ++ x ∷ []) ++ xs) rest)) (longer s.rows x)

count_next : (s : State) (w : Want) (n : ℕ) (rest : List ℕ) → body_on s w n rest ≡ finish (after_count s w n) rest
unfolding body_on many rest_at
count_next s want.Have zero rest = ap (λ (t : List (List ℕ)). Finished (Have t) rest) (append-nil s.names)
count_next s want.Have (suc k) rest = refl
count_next s want.Rows zero rest = ap (λ (t : List (List ℕ)). rows_end t rest) (append-nil s.rows)
count_next s want.Rows (suc k) rest = refl

rest_field_at : (s : State) (stage : Stage) (bytes : List ℕ) → rest_at s stage bytes ≡ (field_at s stage bytes >>= finish)
unfolding rest_at field_at
rest_field_at s AtHead bytes = leads (head_field s.want bytes) (body_on s s.want) (after_count s s.want) (count_next s s.want)
rest_field_at s (AtName k) bytes = unfold many body_on in leads_on (name_field (length s.names) bytes) _ _ (after_name s k) (name_next s k)
rest_field_at s (AtRow k) bytes = unfold many body_on in leads_on (row_field (length s.rows) bytes) _ _ (after_row s k) (row_next s k)
rest_field_at s AtLast bytes = leads (last_field bytes) _ (λ last. Done (Rows (parcel_of s.rows last))) (λ last rest. refl)
rest_field_at s (Shut fault) bytes = refl
rest_field_at s Over bytes = refl

pub rest_field : (s : State) (bytes : List ℕ) → rest_of s bytes ≡ (field s bytes >>= finish)
rest_field s bytes = rest_field_at s s.stage bytes

-- at the head all of the message is to be read
pub rest_start : (w : Want) (bytes : List ℕ) → rest_of (start w) bytes ≡ read w bytes
unfolding rest_at read
rest_start want.Have bytes = unfold body_on body in refl
rest_start want.Rows bytes = unfold body_on body in refl
