-- What reading the field at a place leads to
use Rattle.std.proofs.Common.{◌≡◌, ℕ, zero, suc, ◌-◌, true, List, [], ◌∷◌, ◌++◌, length, Option, refl, sym, ap, ◌∙◌, arith}
use Rattle.hg_wire.specs.declared.message.Want.{Want}
use Rattle.hg_wire.specs.declared.message.Want.TheVariants as want
use Rattle.hg_wire.specs.declared.message.Message.TheVariants.{Have, Rows}
use Rattle.hg_wire.specs.declared.progress.Stage.{Stage}
use Rattle.hg_wire.specs.declared.progress.Stage.TheVariants.{AtHead, AtName, AtRow, AtLast, Shut, Over}
use Rattle.hg_wire.specs.declared.fields.Stop.{Stop}
use Rattle.hg_wire.specs.declared.fields.Stop.TheVariants.{Waits, Wrong}
use Rattle.hg_event.specs.First.{read_first}
use Rattle.hg_life.specs.Reading.{form_field, form_of}
use Rattle.hg_wire.specs.Outcome.{Outcome, Unfinished, Finished, Reader, ◌>>=◌}
use Rattle.hg_wire.specs.Reading.{cut, head_field, last_field, magic_byte, magic_field, name_field, parcel_of, row_field}
use Rattle.hg_wire.specs.Progress.{State, Next, Into, Done, after_count, after_name, after_row, field_at, is_open}
use Rattle.hg_wire.specs.Views.{stopped}

stopped_stays : {A : Type 0} (stop : Stop) (next : A → Reader Next) → (stopped stop >>= next) ≡ stopped stop
stopped_stays Waits next = refl
stopped_stays (Wrong fault) next = refl

-- ---- the field of each stage

pub at_head : (s : State) (bytes : List ℕ) (o : Outcome ℕ) → s.stage ≡ AtHead → head_field s.want bytes ≡ o
    → field_at s s.stage bytes ≡ (o >>= (λ n rest. Finished (after_count s s.want n) rest))
unfolding field_at
at_head s bytes o stage e = ap (λ t. field_at s t bytes) stage ∙ ap (λ o. o >>= (λ n rest. Finished (after_count s s.want n) rest)) e

pub at_name : (s : State) (k : ℕ) (bytes : List ℕ) (o : Outcome (List ℕ)) → s.stage ≡ AtName k → cut 48 bytes ≡ o
    → field_at s s.stage bytes ≡ (o >>= (λ name rest. Finished (after_name s k name) rest))
unfolding field_at name_field
at_name s k bytes o stage e = ap (λ t. field_at s t bytes) stage ∙ ap (λ o. o >>= (λ name rest. Finished (after_name s k name) rest)) e

pub at_row : (s : State) (k i : ℕ) (bytes : List ℕ) (o : Outcome (List ℕ)) → s.stage ≡ AtRow k → i ≡ length s.rows → row_field i bytes ≡ o
    → field_at s s.stage bytes ≡ (o >>= (λ row rest. Finished (after_row s k row) rest))
unfolding field_at
at_row s k i bytes o stage here e = ap (λ t. field_at s t bytes) stage
    ∙ ap (λ (i : ℕ). row_field i bytes >>= (λ row rest. Finished (after_row s k row) rest)) (sym here) ∙ ap (λ o. o >>= (λ row rest. Finished (after_row s k row) rest)) e

pub at_last : (s : State) (bytes : List ℕ) (o : Outcome (Option (List ℕ))) → s.stage ≡ AtLast → last_field bytes ≡ o
    → field_at s s.stage bytes ≡ (o >>= (λ last rest. Finished (Done (Rows (parcel_of s.rows last))) rest))
unfolding field_at
at_last s bytes o stage e = ap (λ t. field_at s t bytes) stage ∙ ap (λ o. o >>= (λ last rest. Finished (Done (Rows (parcel_of s.rows last))) rest)) e

-- ---- where it stops

pub stops_head : (s : State) (bytes : List ℕ) (stop : Stop) → s.stage ≡ AtHead → head_field s.want bytes ≡ stopped stop → field_at s s.stage bytes ≡ stopped stop
stops_head s bytes stop stage e = at_head s bytes (stopped stop) stage e ∙ stopped_stays stop _

pub stops_name : (s : State) (k : ℕ) (bytes : List ℕ) (stop : Stop) → s.stage ≡ AtName k → cut 48 bytes ≡ stopped stop → field_at s s.stage bytes ≡ stopped stop
stops_name s k bytes stop stage e = at_name s k bytes (stopped stop) stage e ∙ stopped_stays stop _

pub stops_row : (s : State) (k i : ℕ) (bytes : List ℕ) (stop : Stop) → s.stage ≡ AtRow k → i ≡ length s.rows → row_field i bytes ≡ stopped stop → field_at s s.stage bytes ≡ stopped stop
stops_row s k i bytes stop stage here e = at_row s k i bytes (stopped stop) stage here e ∙ stopped_stays stop _

pub stops_last : (s : State) (bytes : List ℕ) (stop : Stop) → s.stage ≡ AtLast → last_field bytes ≡ stopped stop → field_at s s.stage bytes ≡ stopped stop
stops_last s bytes stop stage e = at_last s bytes (stopped stop) stage e ∙ stopped_stays stop _

-- ---- where the count leads

pub counted_names : (s : State) (w : Want) (n : ℕ) → w ≡ want.Have → (n ≡ 0 → ⊥) → after_count s w n ≡ Into (record s { stage = AtName (n - 1) })
counted_names s w zero e some = absurd (some refl)
counted_names s w (suc k) e some = let one : k ≡ suc k - 1 = omega arith in ap (λ w. after_count s w (suc k)) e ∙ ap (λ (n : ℕ). Into (record s { stage = AtName n })) one

pub counted_rows : (s : State) (w : Want) (n : ℕ) → w ≡ want.Rows → (n ≡ 0 → ⊥) → after_count s w n ≡ Into (record s { stage = AtRow (n - 1) })
counted_rows s w zero e some = absurd (some refl)
counted_rows s w (suc k) e some = let one : k ≡ suc k - 1 = omega arith in ap (λ w. after_count s w (suc k)) e ∙ ap (λ (n : ℕ). Into (record s { stage = AtRow n })) one

pub counted_no_names : (s : State) (w : Want) (n : ℕ) → w ≡ want.Have → n ≡ 0 → after_count s w n ≡ Done (Have s.names)
counted_no_names s w n e none = ap (λ w. after_count s w n) e ∙ ap (after_count s want.Have) none

pub counted_no_rows : (s : State) (w : Want) (n : ℕ) → w ≡ want.Rows → n ≡ 0 → after_count s w n ≡ Into (record s { stage = AtLast })
counted_no_rows s w n e none = ap (λ w. after_count s w n) e ∙ ap (after_count s want.Rows) none

pub name_on : (s : State) (k : ℕ) (x : List ℕ) → (k ≡ 0 → ⊥) → after_name s k x ≡ Into (record s { stage = AtName (k - 1); names = s.names ++ x ∷ [] })
name_on s zero x some = absurd (some refl)
name_on s (suc k) x some = let one : k ≡ suc k - 1 = omega arith in ap (λ (n : ℕ). Into (record s { stage = AtName n; names = s.names ++ x ∷ [] })) one

pub name_done : (s : State) (k : ℕ) (x : List ℕ) → k ≡ 0 → after_name s k x ≡ Done (Have (s.names ++ x ∷ []))
name_done s k x e = ap (λ (k : ℕ). after_name s k x) e

pub row_on : (s : State) (k : ℕ) (x : List ℕ) → (k ≡ 0 → ⊥) → after_row s k x ≡ Into (record s { stage = AtRow (k - 1); rows = s.rows ++ x ∷ [] })
row_on s zero x some = absurd (some refl)
row_on s (suc k) x some = let one : k ≡ suc k - 1 = omega arith in ap (λ (n : ℕ). Into (record s { stage = AtRow n; rows = s.rows ++ x ∷ [] })) one

pub row_done : (s : State) (k : ℕ) (x : List ℕ) → k ≡ 0 → after_row s k x ≡ Into (record s { stage = AtLast; rows = s.rows ++ x ∷ [] })
row_done s k x e = ap (λ (k : ℕ). after_row s k x) e

-- ---- where nothing of the field is there

waits_head : (s : State) → field_at s AtHead [] ≡ Unfinished
unfolding field_at head_field magic_field magic_byte
waits_head s = refl

waits_name : (s : State) (k : ℕ) → field_at s (AtName k) [] ≡ Unfinished
unfolding field_at name_field cut
waits_name s k = refl

waits_row : (s : State) (k : ℕ) → field_at s (AtRow k) [] ≡ Unfinished
unfolding field_at row_field read_first form_field form_of
waits_row s k = refl

waits_last : (s : State) → field_at s AtLast [] ≡ Unfinished
unfolding field_at last_field
waits_last s = refl

-- an open field of which nothing is there is not whole
pub open_waits : (s : State) (stage : Stage) → is_open stage ≡ true → field_at s stage [] ≡ Unfinished
open_waits s AtHead open_stage = waits_head s
open_waits s (AtName k) open_stage = waits_name s k
open_waits s (AtRow k) open_stage = waits_row s k
open_waits s AtLast open_stage = waits_last s
open_waits s (Shut fault) open_stage = absurd cc
open_waits s Over open_stage = absurd cc
