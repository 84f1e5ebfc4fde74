use Rattle.std.proofs.Common.{[], arith, ap, subst, ℕ, List, length, ◌≡◌, ◌+◌, ◌∙◌}
use Rattle.hg_wire.specs.Grammar.{AreBytes}
use Rattle.hg_wire.specs.Sizes.{least_of}
use Rattle.hg_wire.specs.Ears.{Place, means, place_of, wanted}
use Rattle.hg_wire.proofs.Settled.{needs, unfinished_waits}
use Rattle.hg_wire.proofs.ear.Ear.wants.Goals as goal

pub returns-clause-value : goal.returns-clause-value
returns-clause-value c =
    let h = c.self.inside.hearing in
    let told = c.least_of.ensures.value ∙ ap (least_of h.progress.stage) c.as_slice-pending.ensures.value in
    let is : c.max.result + c.behind.result ≡ wanted (place_of h) =
    omega (arith, c.behind.ensures.value, told, c.max.ensures, c.saturating_sub-missing.ensures, ap length c.as_slice-pending.ensures.value) in
    is ∙ ap wanted c.self.view_is

pub returns-clause-some : goal.returns-clause-some
returns-clause-some c = omega (arith, c.max.ensures)

pub returns-clause-least : goal.returns-clause-least
returns-clause-least c = λ more rest m fit e.
    let h = c.self.inside.hearing in
    let waits = unfinished_waits h c.self.invariant (ap (λ (p : Place). means p []) c.self.view_is ∙ c.requires) in
    let pending_fit = subst (λ (t : List ℕ). AreBytes t) c.as_slice-pending.ensures.value c.are_bytes.ensures in
    let least = needs h pending_fit waits more rest m fit (ap (λ (p : Place). means p more) c.self.view_is ∙ e) in
    let told = c.least_of.ensures.value ∙ ap (least_of c.self.inside.hearing.progress.stage) c.as_slice-pending.ensures.value in
    omega (arith, least.some, least.least, c.behind.ensures.value, told, c.max.ensures, c.saturating_sub-missing.ensures, ap length c.as_slice-pending.ensures.value)
