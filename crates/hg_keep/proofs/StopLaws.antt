-- What stops leave through one piece of work after another.
use Rattle.std.proofs.Common.{◌≡◌, inl, inr, ℕ, List, Option, Some, None, is_some, option_map, refl, sym, ◌∙◌, ap, subst}
use Rattle.std.specs.Prelude.{Result, Ok, Err, IfErr, IsErrAnd, IsErrOf, IsSome}
use Rattle.hg_io.specs.FileView.{FileView}
use Rattle.hg_io.proofs.Going.{goes_on, weaker}
use Rattle.hg_life.specs.NodeView.{NodeView, Start}
use Rattle.hg_life.specs.Signing.{Accepts}
use Rattle.hg_journal.specs.Journal.{KeepsEither, journal}
use Rattle.hg_journal.specs.Stored.{IsStored, StopsKeep}
use Rattle.hg_journal.proofs.Steps.{still_keeps}
use Rattle.hg_keep.specs.Stops.{KeepsSome, StopsLeave}

pub some_is : {A : Type 0} (x y : A) → (let a : Option A = Some x in a) ≡ Some y → x ≡ y
some_is x y same = cc

pub some_value : {A : Type 0} (o : Option A) → IsSome o → (x : A) × (o ≡ Some x)
some_value None some = absurd cc
some_value (Some x) some = (x, refl)

-- an answer that is no error, and one that is
pub no_error : {T E : Type 0} (x : T) (e : E) → IsErrOf (let r : Result T E = Ok x in r) e → ⊥
no_error x e is = absurd cc

pub error_is : {T E : Type 0} (d e : E) → IsErrOf (let r : Result T E = Err d in r) e → d ≡ e
error_is d e is = cc

-- what a `?` hands on
pub errs : {T E : Type 0} (r : Result T E) (e : E) (P : E → Type 0) → IsErrAnd r (λ x. x ≡ e) → P e → IfErr r P
errs (Ok x) e P is p = absurd is
errs (Err x) e P is p = subst P (sym is) p

pub err_of : {T U E : Type 0} (r : Result T E) (e d : E) → IsErrAnd r (λ x. x ≡ e) → IsErrOf (let q : Result U E = Err e in q) d → IsErrOf r d
err_of (Ok x) e d is of = absurd is
err_of {T} {U} {E} (Err x) e d is of = ap (λ (y : E). (let q : Result T E = Err y in q)) (is ∙ error_is {T = U} e d of)

-- an error that was handed on
pub same_error : {T U E : Type 0} (r : Result T E) (s : Result U E) (e k : E) → r ≡ Err e → IsErrAnd s (λ x. x ≡ e) → IsErrOf s k → IsErrOf r k
same_error r (Ok x) e k was is of = absurd is
same_error {T} {U} {E} r (Err y) e k was is of = was ∙ ap (λ (x : E). (let q : Result T E = Err x in q)) (sym is ∙ error_is {T = U} y k of)

-- what is there was there before it was mapped
pub some_mapped : {A B : Type 0} (f : A → B) (o : Option A) (p : Option B) → option_map f o ≡ p → IsSome p → IsSome o
some_mapped f None p is some = rw (← is) at some
some_mapped f (Some x) p is some = refl

pub told_still : {A : Type 0} (a b : Option A) → is_some b ≡ is_some a → IsSome a → IsSome b
told_still a b same told = same ∙ told

module _ {K : Type 0} (accepts : K → Accepts) where
  module _ (start : Start K) where
    one_of : (Is : NodeView K → Type 0) (v w : NodeView K) → v.start ≡ start → w.start ≡ start → Is v → Is w → (left : List ℕ) → KeepsEither accepts v w left → KeepsSome accepts start Is left
    one_of Is v w first second is also left (inl keeps) = (v, is, subst (λ (s : Start K). journal accepts s left ≡ Some v) first keeps)
    one_of Is v w first second is also left (inr keeps) = (w, also, subst (λ (s : Start K). journal accepts s left ≡ Some w) second keeps)

    pub leaves_either : (Is : NodeView K → Type 0) (a b : FileView) (v w : NodeView K) → v.start ≡ start → w.start ≡ start → Is v → Is w → StopsKeep accepts a b v w → StopsLeave accepts start Is a b
    leaves_either Is a b v w first second is also keeps = record {
      meanwhile = weaker keeps.meanwhile (one_of Is v w first second is also);
      now = λ left may. one_of Is v w first second is also left (keeps.now left may);
    }

    pub leaves_on : (Is : NodeView K → Type 0) (a b c : FileView) → StopsLeave accepts start Is a b → StopsLeave accepts start Is b c → StopsLeave accepts start Is a c
    leaves_on Is a b c before after = record { meanwhile = goes_on before.meanwhile after.meanwhile; now = after.now }

    wider : (Was Is : NodeView K → Type 0) → ((w : NodeView K) → Was w → Is w) → (left : List ℕ) → KeepsSome accepts start Was left → KeepsSome accepts start Is left
    wider Was Is then left some = (some.0, then some.0 some.1, some.2)

    pub leaves_wider : (Was Is : NodeView K → Type 0) (a b : FileView) → ((w : NodeView K) → Was w → Is w) → StopsLeave accepts start Was a b → StopsLeave accepts start Is a b
    leaves_wider Was Is a b then leaves = record {
      meanwhile = weaker leaves.meanwhile (wider Was Is then);
      now = λ left may. wider Was Is then left (leaves.now left may);
    }

    -- without a call on the disk
    pub leaves_still : (Is : NodeView K → Type 0) (a : FileView) (v : NodeView K) (gate : ℕ) → v.start ≡ start → Is v → IsStored accepts a v gate → IsSome a.reads → StopsLeave accepts start Is a a
    leaves_still Is a v gate first is stored told = leaves_either Is a a v v first first is is (still_keeps accepts a v v gate stored told)
