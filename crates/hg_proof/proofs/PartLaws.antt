-- Parts that are read in a loop, one behind the other, and the event in front
use Rattle.std.proofs.Common.{◌≡◌, ℕ, suc, ◌-◌, ◌+◌, ◌<◌, ◌≤◌, List, [], ◌∷◌, ◌++◌, length, take, drop, Result, Ok, Err, sym, refl, ap, ◌∙◌, subst, append_assoc, arith}
use Rattle.std.specs.Result.{IsErrAnd}
use Rattle.std.proofs.lemmas.List.{take-append-drop}
use Rattle.hg_model.specs.declared.row.Row.{Row}
use Rattle.hg_model.specs.declared.stop.Stop.{Stop}
use Rattle.hg_model.specs.declared.stop.Stop.TheVariants.{Memory, Fault}
use Rattle.hg_life.specs.declared.answers.ByteFault.{ByteFault}
use Rattle.hg_life.specs.Reading.{Field}
use Rattle.hg_life.specs.Results.{Gives, ◌>>=◌}
use Rattle.hg_life.specs.Spelling.{Spells}
use Rattle.hg_event.specs.First.{counted, first_event, read_first}
use Rattle.hg_event.proofs.Fronts.{first_again}
use Rattle.hg_proof.specs.declared.why.Why.{Why}
use Rattle.hg_proof.specs.Reading.{Part, breaks_at, part_of, parts, row_part}

-- these come before those of a part
abbrev pub after : {A : Type 0} → List A → Part (List A) → Part (List A)
after done (Ok x) = Ok (done ++ x.0, x.1)
after done (Err why) = Err why

after_one : {A : Type 0} (done : List A) (x : A) (more : Part (List A)) →
    after done (more >>= (λ (xs : List A × List ℕ). Ok (x ∷ xs.0, xs.1))) ≡ after (done ++ x ∷ []) more
after_one done x (Ok xs) = ap (λ zs. Ok (zs, xs.1)) (sym (append_assoc done (x ∷ []) xs.0))
after_one done x (Err why) = refl

pub after_none : {A : Type 0} (part : Part (List A)) → part ≡ after [] part
after_none (Ok x) = refl
after_none (Err why) = refl

one_less : (n i : ℕ) → i < n → n - i ≡ suc (n - (i + 1))
one_less n i low = omega arith

no_more : (n i : ℕ) → n ≤ i → n - i ≡ 0
no_more n i past = omega arith

pub parts_next : {A : Type 0} (one : List ℕ → Part A) (n i : ℕ) (left : List ℕ) (done : List A) (x : A × List ℕ) → i < n → one left ≡ Ok x →
    after done (parts one (n - i) left) ≡ after (done ++ x.0 ∷ []) (parts one (n - (i + 1)) x.1)
unfolding parts
parts_next one n i left done x low is = rw (one_less n i low, is) (after_one done x.0 (parts one (n - (i + 1)) x.1))

pub parts_stop : {A : Type 0} (one : List ℕ → Part A) (n i : ℕ) (left : List ℕ) (done : List A) (why : Why) → i < n → one left ≡ Err why → after done (parts one (n - i) left) ≡ Err why
unfolding parts
parts_stop one n i left done why low is = rw (one_less n i low, is) refl

pub parts_end : {A : Type 0} (one : List ℕ → Part A) (n i : ℕ) (left : List ℕ) (done : List A) → n ≤ i → after done (parts one (n - i) left) ≡ Ok (done ++ [], left)
unfolding parts
parts_end one n i left done past = rw (no_more n i past) refl

-- what ends the reading of one part ends that of all
stopped_at : {X Y U V : Type 0} (view : X → U) (all_view : Y → V) (stop : Stop Why) (one : Result U Why) (all : Result V Why) → ((why : Why) → one ≡ Err why → all ≡ Err why) →
    Gives view (Err stop) one → Gives all_view (Err stop) all
stopped_at view all_view Memory one all so gives = tt
stopped_at view all_view (Fault why) one all so gives = so why gives

pub stopped : {X Y U V : Type 0} (view : X → U) (all_view : Y → V) (stop : Stop Why) (one : Result U Why) (all : Result V Why) → ((why : Why) → one ≡ Err why → all ≡ Err why) →
    Gives view (Err stop) one → (result : Result Y (Stop Why)) → IsErrAnd result (λ e. e ≡ stop) → Gives all_view result all
stopped view all_view stop one all so gives (Ok x) is = absurd is
stopped view all_view stop one all so gives (Err e) is =
    subst (λ (e : Stop Why). Gives all_view (Err e) all) (sym is) (stopped_at view all_view stop one all so gives)

-- and so does the reason against a part that takes no memory
pub faulted : {Y V : Type 0} (all_view : Y → V) (why : Why) (all : Result V Why) → all ≡ Err why → (result : Result Y (Stop Why)) → IsErrAnd result (λ e. e ≡ Fault why) → Gives all_view result all
faulted all_view why all so (Ok x) is = absurd is
faulted all_view why all so (Err e) is = subst (λ (e : Stop Why). Gives all_view (Err e) all) (sym is) so

-- ---- the event in front

-- its bytes, and those behind it
pub row_front : (size len : ℕ) (bytes : List ℕ) (row : Row) → Spells (take len bytes) row → row_part size bytes ≡ Ok (row, drop len bytes)
row_front size len bytes row spells =
    ap (part_of size bytes) (ap read_first (sym (take-append-drop len bytes)) ∙ first_again (take len bytes) (drop len bytes) row spells)

refused : (size all : ℕ) (bytes : List ℕ) (read : Field Row) (fault : ByteFault) → counted all read ≡ Err fault → part_of size bytes read ≡ Err (breaks_at size bytes)
refused size all bytes (Ok first) fault e = absurd cc
refused size all bytes (Err other) fault e = refl

-- where there is none the form breaks
pub no_front : (size : ℕ) (bytes : List ℕ) (fault : ByteFault) → first_event bytes ≡ Err fault → row_part size bytes ≡ Err (breaks_at size bytes)
no_front size bytes fault e = refused size (length bytes) bytes (read_first bytes) fault e
