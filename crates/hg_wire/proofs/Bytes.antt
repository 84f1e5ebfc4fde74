-- Lists of bytes, and their parts
use Rattle.std.proofs.Common.{◌≡◌, ℕ, zero, suc, List, [], ◌∷◌, ◌++◌, sym, ap, subst, ◌∙◌, append_assoc, arith}
use Rattle.hg_wire.specs.Grammar.{AreBytes}

fit_behind : (a b : List ℕ) → AreBytes (a ++ b) → AreBytes b
fit_behind [] b fit = fit
fit_behind (x ∷ a) b fit = fit_behind a b (λ i. fit (suc i))

fit_before : (a b : List ℕ) → AreBytes (a ++ b) → AreBytes a
fit_before [] b fit i = omega arith
fit_before (x ∷ a) b fit zero = fit zero
fit_before (x ∷ a) b fit (suc i) = fit_before a b (λ j. fit (suc j)) i

pub both_fit : (a b : List ℕ) → AreBytes a → AreBytes b → AreBytes (a ++ b)
both_fit [] b fit then i = then i
both_fit (x ∷ a) b fit then zero = fit zero
both_fit (x ∷ a) b fit then (suc i) = both_fit a b (λ j. fit (suc j)) then i

pub none_fit : AreBytes []
none_fit i = omega arith

pub rest_fits : {bytes : List ℕ} (text rest : List ℕ) → AreBytes bytes → bytes ≡ text ++ rest → AreBytes rest
rest_fits text rest fit e = fit_behind text rest (subst (λ (t : List ℕ). AreBytes t) e fit)

pub text_fits : {bytes : List ℕ} (text rest : List ℕ) → AreBytes bytes → bytes ≡ text ++ rest → AreBytes text
text_fits text rest fit e = fit_before text rest (subst (λ (t : List ℕ). AreBytes t) e fit)

-- one text after another
pub behind : {bytes mid : List ℕ} (text more rest : List ℕ) → bytes ≡ text ++ mid → mid ≡ more ++ rest → bytes ≡ (text ++ more) ++ rest
behind text more rest e f = e ∙ ap (λ (t : List ℕ). text ++ t) f ∙ sym (append_assoc text more rest)
