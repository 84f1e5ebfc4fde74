-- Fields one after the other: what a reading that went on has read, and what stands of it once more bytes came
use Rattle.std.proofs.Common.{◌≡◌, ℕ, Bool, true, false, cond, List, refl, sym, ap, subst}
use Rattle.hg_wire.specs.declared.message.WireFault.{WireFault}
use Rattle.hg_wire.specs.Outcome.{Outcome, Unfinished, Faulty, Finished, Reader, ◌>>=◌, Stands, IsStable}

-- the field before, where the next one is whole
pub went_on : {A B : Type 0} (o : Outcome A) (next : A → Reader B) (y : B) (rest : List ℕ) → (o >>= next) ≡ Finished y rest
    → (x : A) × (mid : List ℕ) × (o ≡ Finished x mid) × (next x mid ≡ Finished y rest)
went_on Unfinished next y rest e = absurd cc
went_on (Faulty fault) next y rest e = absurd cc
went_on (Finished x mid) next y rest e = (x, mid, refl, e)

pub same_rest : {A : Type 0} (x y : A) (rest left : List ℕ) → Finished x rest ≡ Finished y left → rest ≡ left
same_rest x y rest left e = cc

pub same_value : {A : Type 0} (x y : A) (rest left : List ℕ) → Finished x rest ≡ Finished y left → x ≡ y
same_value x y rest left e = cc

-- a test that would have given a fault
pub passed : {A : Type 0} (b : Bool) (fault : WireFault) (o : Outcome A) (y : A) (rest : List ℕ) → cond b (Faulty fault) o ≡ Finished y rest → (b ≡ false) × (o ≡ Finished y rest)
passed true fault o y rest e = absurd cc
passed false fault o y rest e = (refl, e)

-- a test that would have given a fault where it fails
pub matched : {A : Type 0} (b : Bool) (fault : WireFault) (o : Outcome A) (y : A) (rest : List ℕ) → cond b o (Faulty fault) ≡ Finished y rest → (b ≡ true) × (o ≡ Finished y rest)
matched true fault o y rest e = (refl, e)
matched false fault o y rest e = absurd cc

-- a test that would have waited
pub whole : {A : Type 0} (b : Bool) (o : Outcome A) (y : A) (rest : List ℕ) → cond b Unfinished o ≡ Finished y rest → (b ≡ false) × (o ≡ Finished y rest)
whole true o y rest e = absurd cc
whole false o y rest e = (refl, e)

-- what is made of a field's value waits where the field does
pub made_waits : {A B : Type 0} (o : Outcome A) (make : A → B) → (o >>= (λ x rest. Finished (make x) rest)) ≡ Unfinished → o ≡ Unfinished
made_waits Unfinished make e = refl
made_waits (Faulty fault) make e = absurd cc
made_waits (Finished x rest) make e = absurd cc

-- ---- more bytes

pub bind_stands : {A B : Type 0} (more : List ℕ) (o later : Outcome A) (next : A → Reader B)
    → Stands more o later → ((x : A) → IsStable (next x)) → Stands more (o >>= next) (later >>= next)
bind_stands more Unfinished later next stands stable = tt
bind_stands more (Faulty fault) later next stands stable = ap (λ o. o >>= next) stands
bind_stands {B = B} more (Finished x rest) later next stands stable =
    subst (λ o. Stands more (next x rest) (o >>= next)) (sym stands) (stable x rest more)

-- a field, and what is made of its value
pub made_stands : {A B : Type 0} (more : List ℕ) (o later : Outcome A) (make : A → B)
    → Stands more o later → Stands more (o >>= (λ x rest. Finished (make x) rest)) (later >>= (λ x rest. Finished (make x) rest))
made_stands more o later make stands = bind_stands more o later (λ x rest. Finished (make x) rest) stands (λ x bytes more. refl)

-- a test that gives a fault
pub test_stands : {A : Type 0} (more : List ℕ) (b : Bool) (fault : WireFault) (o later : Outcome A)
    → Stands more o later → Stands more (cond b (Faulty fault) o) (cond b (Faulty fault) later)
test_stands more true fault o later stands = refl
test_stands more false fault o later stands = stands

-- a test without which there is a fault
pub match_stands : {A : Type 0} (more : List ℕ) (b : Bool) (fault : WireFault) (o later : Outcome A)
    → Stands more o later → Stands more (cond b o (Faulty fault)) (cond b later (Faulty fault))
match_stands more true fault o later stands = stands
match_stands more false fault o later stands = refl
