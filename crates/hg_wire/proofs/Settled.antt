-- What an ear that has settled makes of the bytes to come
use Rattle.std.proofs.Common.{◌≡◌, ◌⊎◌, ℕ, ◌+◌, ◌≤◌, List, [], ◌++◌, length, drop, refl, sym, ap, subst, ◌∙◌, arith, inl, inr}
use Rattle.std.proofs.lemmas.List.{append-nil, length-append}
use Rattle.hg_wire.specs.declared.message.Message.{Message}
use Rattle.hg_wire.specs.declared.message.Message.TheVariants.{Have}
use Rattle.hg_wire.specs.declared.message.Fed.{Fed}
use Rattle.hg_wire.specs.declared.message.Fed.TheVariants.{More, Whole, Refused}
use Rattle.hg_wire.specs.declared.message.WireFault.{WireFault}
use Rattle.hg_wire.specs.declared.progress.Stage.{Stage}
use Rattle.hg_wire.specs.declared.progress.Stage.TheVariants.{AtHead, Shut, Over}
use Rattle.hg_wire.specs.declared.hearing.Hearing.{Hearing}
use Rattle.hg_wire.specs.Outcome.{Unfinished, Faulty, Finished, Reader, ◌>>=◌}
use Rattle.hg_wire.specs.Reading.{read}
use Rattle.hg_wire.specs.Grammar.{AreBytes}
use Rattle.hg_wire.specs.Progress.{field, finish, rest_at, rest_of, start}
use Rattle.hg_wire.specs.Sizes.{behind, least_of}
use Rattle.hg_wire.specs.Views.{state_of}
use Rattle.hg_wire.specs.Ears.{Answers, GoesOn, Hears, HearsAs, IsOn, IsSettled, IsWaiting, Place, WaitsIfMore, hears, place_of}
use Rattle.hg_wire.proofs.Bytes.{both_fit, rest_fits}
use Rattle.hg_wire.proofs.Places.{rest_field, rest_start}
use Rattle.hg_wire.proofs.Steps.{went_on}
use Rattle.hg_wire.proofs.Took.{behind_least, crosses, field_took, waits_open}

pub means_waits : (h : Hearing) → IsWaiting h → hears h [] ≡ Unfinished
means_waits h waits =
    let s = state_of h.progress in
    rest_field s (h.pending.items ++ []) ∙ ap (λ (t : List ℕ). field s t >>= finish) (append-nil h.pending.items) ∙ ap (λ o. o >>= finish) waits

pub means_shut : (h : Hearing) (fault : WireFault) → h.progress.stage ≡ Shut fault → (more : List ℕ) → hears h more ≡ Faulty fault
unfolding rest_at
means_shut h fault e more = ap (λ stage. rest_at (state_of h.progress) stage (h.pending.items ++ more)) e

means_over : (h : Hearing) → h.progress.stage ≡ Over → hears h [] ≡ Finished (Have []) (h.pending.items ++ [])
unfolding rest_at
means_over h e = ap (λ stage. rest_at (state_of h.progress) stage (h.pending.items ++ [])) e

-- an ear that may be fed and has refused nothing waits
pub on_waits : (h : Hearing) → IsSettled h → ((fault : WireFault) → h.progress.stage ≡ Shut fault → ⊥) → IsOn (place_of h) → IsWaiting h
on_waits h settled shuts on = elim settled [
  | inl waits ↦ waits
  | inr (inl shut) ↦ absurd (shuts shut.0 shut.1)
  | inr (inr over) ↦ absurd (on (Have []) (h.pending.items ++ []) (means_over h over))
]

pub unfinished_waits : (h : Hearing) → IsSettled h → hears h [] ≡ Unfinished → IsWaiting h
unfinished_waits h settled waits = elim settled [
  | inl waiting ↦ waiting
  | inr (inl shut) ↦ (let e = sym (means_shut h shut.0 shut.1 []) ∙ waits in absurd (cc e))
  | inr (inr over) ↦ (let e = sym (means_over h over) ∙ waits in absurd (cc e))
]

-- the same outcomes
pub heard_as : (a b : Reader Message) (new : Hearing) (piece : List ℕ) (answer : Fed) → ((more : List ℕ) → a more ≡ b more) → HearsAs a new piece answer → HearsAs b new piece answer
heard_as a b new piece More same (waits, means) = (waits, λ more. means more ∙ same more)
heard_as a b new piece (Whole m used) same (within, over, means) = (within, over, λ more. sym (same more) ∙ means more)
heard_as a b new piece (Refused fault) same (shut, means) = (shut, λ more. sym (same more) ∙ means more)

pub heard_answers : (old new : Hearing) (piece : List ℕ) (answer : Fed) → Hears old new piece answer → Answers piece (hears old piece) answer
heard_answers old new piece More (waits, same) =
    ap (hears old) (sym (append-nil piece)) ∙ sym (same []) ∙ means_waits new waits
heard_answers old new piece (Whole m used) (within, over, same) =
    (within, ap (hears old) (sym (append-nil piece)) ∙ same [] ∙ ap (Finished m) (append-nil (drop used piece)))
heard_answers old new piece (Refused fault) (shut, same) = ap (hears old) (sym (append-nil piece)) ∙ same []

pub heard_goes_on : (old new : Hearing) (piece : List ℕ) (answer : Fed) → Hears old new piece answer → GoesOn (place_of old) (place_of new) piece answer
heard_goes_on old new piece More (waits, same) = same
heard_goes_on old new piece (Whole m used) h = tt
heard_goes_on old new piece (Refused fault) (shut, same) = means_shut new fault shut

pub heard_waits : (old new : Hearing) (piece : List ℕ) (answer : Fed) → Hears old new piece answer → WaitsIfMore (place_of new) answer
heard_waits old new piece More (waits, same) = means_waits new waits
heard_waits old new piece (Whole m used) h = tt
heard_waits old new piece (Refused fault) h = tt

pub heard_settles : (old new : Hearing) (piece : List ℕ) (answer : Fed) → Hears old new piece answer → IsSettled new
heard_settles old new piece More (waits, same) = inl waits
heard_settles old new piece (Whole m used) (within, over, same) = inr (inr over)
heard_settles old new piece (Refused fault) (shut, same) = inr (inl (fault, shut))

-- and one that is as another is as settled
pub settled_as : (a b : Hearing) → place_of a ≡ place_of b → IsSettled b → IsSettled a
settled_as a b same settled =
    subst (λ (p : Place). (field p.state p.pending ≡ Unfinished) ⊎ ((fault : WireFault) × (p.state.stage ≡ Shut fault)) ⊎ (p.state.stage ≡ Over)) (sym same) settled

-- an ear that was not used hears all of the message
pub new_means : (h : Hearing) → h.progress.stage ≡ AtHead → h.progress.names.items ≡ [] → h.progress.rows.items ≡ [] → h.pending.items ≡ []
    → (more : List ℕ) → hears h more ≡ read h.progress.want more
new_means h stage names rows pending more =
    let s = state_of h.progress in
    ap (λ (t : List ℕ). rest_of s (t ++ more)) pending
    ∙ ap (λ (stage : Stage). rest_of (record s { stage = stage }) more) stage
    ∙ ap (λ (names : List (List ℕ)). rest_of (record s { stage = AtHead; names = names }) more) names
    ∙ ap (λ (rows : List (List ℕ)). rest_of (record (start h.progress.want) { rows = rows }) more) rows
    ∙ rest_start h.progress.want more

-- the message has the bytes of the field at the place, of which some are missing, and those behind it
pub record Needs (h : Hearing) (more rest : List ℕ) : Type 0 where
  pub some : 1 + behind h.progress.stage + length rest ≤ length more
  pub least : least_of h.progress.stage h.pending.items + behind h.progress.stage + length rest ≤ length h.pending.items + length more

pub needs : (h : Hearing) → AreBytes h.pending.items → IsWaiting h → (more rest : List ℕ) (m : Message) → AreBytes more → hears h more ≡ Finished m rest → Needs h more rest
needs h fit waits more rest m more_fit e =
    let s = state_of h.progress in
    let pending = h.pending.items in
    let all_fit = both_fit pending more fit more_fit in
    let w = went_on (field s (pending ++ more)) finish m rest (sym (rest_field s (pending ++ more)) ∙ e) in
    let took = field_took s s.stage (pending ++ more) w.0 w.1 all_fit (waits_open s s.stage pending waits) w.2 in
    let less = crosses s s.stage pending more w.0 w.1 waits took in
    let left = behind_least s s.stage (pending ++ more) w.0 w.1 m rest (rest_fits took.text w.1 all_fit took.whole) w.2 w.3 in
    let sizes : length pending + length more ≡ length took.text + length w.1 = sym (length-append pending more) ∙ ap length took.whole ∙ length-append took.text w.1 in
    record { some = omega (arith, less, left); least = omega (arith, left, took.least pending more refl, sizes) }
