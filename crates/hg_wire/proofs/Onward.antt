-- What was read is kept while more is read, and what was added is taken off again
use Rattle.std.proofs.Common.{◌≡◌, ℕ, zero, suc, ◌+◌, ◌-◌, List, [], ◌∷◌, ◌++◌, length, take, drop, refl, sym, ap, subst, ◌∙◌, append_assoc, arith}
use Rattle.std.proofs.lemmas.List.{append-nil, drop-drop, take_at}
use Rattle.hg_model.specs.Orders.{IsPrefix}
use Rattle.hg_wire.specs.declared.message.Want.{Want}
use Rattle.hg_wire.specs.declared.message.Want.TheVariants as want
use Rattle.hg_wire.specs.declared.message.Message.TheVariants.{Rows}
use Rattle.hg_wire.specs.declared.progress.Stage.{Stage}
use Rattle.hg_wire.specs.declared.progress.Stage.TheVariants.{AtHead, AtName, AtRow, AtLast, Shut, Over}
use Rattle.hg_wire.specs.Outcome.{Finished}
use Rattle.hg_wire.specs.Reading.{head_field, last_field, name_field, parcel_of, row_field}
use Rattle.hg_wire.specs.Progress.{State, Into, Done, after_count, after_name, after_row, field_at}
use Rattle.hg_wire.specs.Ears.{IsBehind, IsBeyond, IsLeftOf, IsOnward, Place}
use Rattle.hg_wire.proofs.Steps.{same_value, went_on}

all_kept : {A : Type 0} (xs : List A) → IsPrefix xs xs
all_kept xs = ([], sym (append-nil xs))

kept_on : {A : Type 0} (xs ys zs : List A) → IsPrefix xs ys → IsPrefix ys zs → IsPrefix xs zs
kept_on xs ys zs (more, e) (others, f) = (more ++ others, f ∙ ap (λ t. t ++ others) e ∙ append_assoc xs more others)

taken_off : {A : Type 0} (xs ys : List A) → IsPrefix xs ys → take (length xs) ys ≡ xs
taken_off xs ys (more, e) = ap (take (length xs)) e ∙ take_at xs more (length xs) refl

pub same_onward : (s : State) → IsOnward s s
same_onward s = record { want = refl; names = all_kept s.names; rows = all_kept s.rows }

pub onward_on : (a b c : State) → IsOnward a b → IsOnward b c → IsOnward a c
onward_on a b c ab bc = record {
  want = bc.want ∙ ab.want;
  names = kept_on a.names b.names c.names ab.names bc.names;
  rows = kept_on a.rows b.rows c.rows ab.rows bc.rows;
}

into_same : (a b : State) → Into a ≡ Into b → a ≡ b
into_same a b e = cc

count_onward : (s : State) (w : Want) (n : ℕ) (next : State) → after_count s w n ≡ Into next → IsOnward s next
count_onward s want.Have zero next e = absurd cc
count_onward s want.Have (suc k) next e = subst (λ (t : State). IsOnward s t) (into_same _ next e) (record { want = refl; names = all_kept s.names; rows = all_kept s.rows })
count_onward s want.Rows zero next e = subst (λ (t : State). IsOnward s t) (into_same _ next e) (record { want = refl; names = all_kept s.names; rows = all_kept s.rows })
count_onward s want.Rows (suc k) next e = subst (λ (t : State). IsOnward s t) (into_same _ next e) (record { want = refl; names = all_kept s.names; rows = all_kept s.rows })

name_onward : (s : State) (k : ℕ) (name : List ℕ) (next : State) → after_name s k name ≡ Into next → IsOnward s next
name_onward s zero name next e = absurd cc
name_onward s (suc k) name next e = subst (λ (t : State). IsOnward s t) (into_same _ next e) (record { want = refl; names = (name ∷ [], refl); rows = all_kept s.rows })

row_onward : (s : State) (k : ℕ) (row : List ℕ) (next : State) → after_row s k row ≡ Into next → IsOnward s next
row_onward s zero row next e = subst (λ (t : State). IsOnward s t) (into_same _ next e) (record { want = refl; names = all_kept s.names; rows = (row ∷ [], refl) })
row_onward s (suc k) row next e = subst (λ (t : State). IsOnward s t) (into_same _ next e) (record { want = refl; names = all_kept s.names; rows = (row ∷ [], refl) })

-- a field that leads on keeps what was read
pub into_onward : (s : State) (stage : Stage) (bytes : List ℕ) (next : State) (rest : List ℕ) → field_at s stage bytes ≡ Finished (Into next) rest → IsOnward s next
unfolding field_at
into_onward s AtHead bytes next rest e =
    let w = went_on (head_field s.want bytes) _ (Into next) rest e in
    count_onward s s.want w.0 next (same_value (after_count s s.want w.0) (Into next) w.1 rest w.3)
into_onward s (AtName k) bytes next rest e =
    let w = went_on (name_field (length s.names) bytes) _ (Into next) rest e in
    name_onward s k w.0 next (same_value (after_name s k w.0) (Into next) w.1 rest w.3)
into_onward s (AtRow k) bytes next rest e =
    let w = went_on (row_field (length s.rows) bytes) _ (Into next) rest e in
    row_onward s k w.0 next (same_value (after_row s k w.0) (Into next) w.1 rest w.3)
into_onward s AtLast bytes next rest e =
    let w = went_on (last_field bytes) _ (Into next) rest e in
    let f = same_value (Done (Rows (parcel_of s.rows w.0))) (Into next) w.1 rest w.3 in
    absurd (cc f)
into_onward s (Shut fault) bytes next rest e = absurd cc
into_onward s Over bytes next rest e = absurd cc

-- where bytes were put behind those of the field, and nothing else came of them
pub bytes_beyond : (old new : Place) (part : List ℕ) → new.state ≡ old.state → new.pending ≡ old.pending ++ part → IsBeyond old new
bytes_beyond old new part same grown = (subst (λ (s : State). IsOnward old.state s) (sym same) (same_onward old.state), (part, grown))

-- where no bytes of the field were there
pub none_beyond : (old new : Place) → old.pending ≡ [] → IsOnward old.state new.state → IsBeyond old new
none_beyond old new none onward = (onward, (new.pending, ap (λ (t : List ℕ). t ++ new.pending) (sym none)))

-- ---- what is left of a piece

pub whole_left : (piece : List ℕ) → IsLeftOf piece piece
whole_left piece = let none : length piece - length piece ≡ 0 = omega arith in (omega arith, ap (λ n. drop n piece) none)

pub less_left : (piece rest behind : List ℕ) → IsLeftOf piece rest → IsBehind rest behind → IsLeftOf piece behind
less_left piece rest behind (within, left) (less, off) =
    let both : length piece - length behind ≡ (length piece - length rest) + (length rest - length behind) = omega (arith, within, less) in (
      omega (arith, within, less),
      ap (λ n. drop n piece) both ∙ sym (drop-drop (length rest - length behind) (length piece - length rest) piece) ∙ ap (drop (length rest - length behind)) left ∙ off,
    )

-- ---- what was added is taken off

pub turned_back : (old new : Place) (names rows : List (List ℕ)) (pending : List ℕ) → IsBeyond old new → names ≡ take (length old.state.names) new.state.names
    → rows ≡ take (length old.state.rows) new.state.rows → pending ≡ take (length old.pending) new.pending
    → record { state = record { want = new.state.want; stage = old.state.stage; names = names; rows = rows }; pending = pending } ≡ old
turned_back old new names rows pending (onward, bytes) n r p =
    let names_back : names ≡ old.state.names = n ∙ taken_off old.state.names new.state.names onward.names in
    let rows_back : rows ≡ old.state.rows = r ∙ taken_off old.state.rows new.state.rows onward.rows in
    let bytes_back : pending ≡ old.pending = p ∙ taken_off old.pending new.pending bytes in
    ap (λ (w : Want). record { state = record { want = w; stage = old.state.stage; names = names; rows = rows }; pending = pending }) onward.want
    ∙ ap (λ (names : List (List ℕ)). record { state = record { want = old.state.want; stage = old.state.stage; names = names; rows = rows }; pending = pending }) names_back
    ∙ ap (λ (rows : List (List ℕ)). record { state = record old.state { rows = rows }; pending = pending }) rows_back
    ∙ ap (λ (pending : List ℕ). record { state = old.state; pending = pending }) bytes_back
