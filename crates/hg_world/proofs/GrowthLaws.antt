-- Steps only add to the history of each node
use Rattle.std.proofs.Common.{◌≡◌, inl, inr, ℕ, ◌<◌, List, [], ◌∷◌, ◌++◌, length, sym, refl, ap, ◌∙◌, subst, append_assoc, arith}
use Rattle.std.proofs.lemmas.Bool.{cases_eq}
use Rattle.std.proofs.lemmas.List.{append-nil, get_or-set_same, get_or-set_other}
use Rattle.hg_life.specs.History.{Change}
use Rattle.hg_world.specs.declared.step.Step.{Step}
use Rattle.hg_world.specs.declared.step.Step.TheVariants.{Make, Deliver, Freeze, Publish}
use Rattle.hg_world.specs.World.{Site, WorldView, no_site, node_at, with_site}
use Rattle.hg_world.specs.Steps.{after_step}
use Rattle.hg_world.specs.Laws.{Grows, StepsKeepMembers, StepsOnlyAdd}
use Rattle.hg_world.proofs.StepLaws.{step_sites}

site_grown : (w : WorldView) (m : ℕ) (site : Site) (k : ℕ) → k < length w.sites → Grows (node_at w m).history site.node.history → Grows (node_at w k).history (node_at (with_site w m site) k).history
site_grown w m site k low grows = elim (cases_eq k m) [
  | inl here ↦ subst (λ (j : ℕ). Grows (node_at w j).history (node_at (with_site w m site) j).history) (sym here)
      (grows.0, ap (λ (s : Site). s.node.history) (get_or-set_same w.sites m site no_site (omega (arith, low, here))) ∙ grows.1)
  | inr other ↦ ([], ap (λ (s : Site). s.node.history) (get_or-set_other w.sites m k site no_site other) ∙ sym (append-nil (node_at w k).history))
]

step_grown : (w : WorldView) (step : Step) (k : ℕ) → k < length w.sites → Grows (node_at w k).history (node_at (after_step w step) k).history
step_grown w (Make m others time payload) k low = site_grown w m _ k low (_, refl)
step_grown w (Deliver m bytes) k low = site_grown w m _ k low (_, refl)
step_grown w (Freeze m worker) k low = site_grown w m _ k low ([], sym (append-nil (node_at w m).history))
step_grown w (Publish m worker share) k low = site_grown w m _ k low (_, refl)

pub steps_grown : StepsOnlyAdd
steps_grown w [] k low = ([], sym (append-nil (node_at w k).history))
steps_grown w (step ∷ steps) k low =
    let one = step_grown w step k low in
    let more = steps_grown (after_step w step) steps k (omega (arith, low, step_sites w step)) in
    (one.0 ++ more.0, more.1 ∙ (ap (λ (h : List Change). h ++ more.0) one.1 ∙ append_assoc (node_at w k).history one.0 more.0))

step_members : (w : WorldView) (step : Step) → ((after_step w step).members ≡ w.members) × ((after_step w step).coin ≡ w.coin)
step_members w (Make m others time payload) = (refl, refl)
step_members w (Deliver m bytes) = (refl, refl)
step_members w (Freeze m worker) = (refl, refl)
step_members w (Publish m worker share) = (refl, refl)

pub steps_members : StepsKeepMembers
steps_members w [] = (refl, refl)
steps_members w (step ∷ steps) =
    let one = step_members w step in
    let more = steps_members (after_step w step) steps in
    (more.0 ∙ one.0, more.1 ∙ one.1)
