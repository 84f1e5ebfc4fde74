-- Steps one after the other
use Rattle.std.proofs.Common.{append_assoc, inl, inr, ◌≡◌, ℕ, zero, suc, ◌+◌, ◌<◌, List, [], ◌∷◌, ◌++◌, length, take, drop, get_or, sym, refl, ap, ap₂, ◌∙◌, subst, add-one, arith}
use Rattle.std.specs.Prelude.{All}
use Rattle.std.proofs.lemmas.List.{length-set, take-append-drop}
use Rattle.std.proofs.lemmas.List.Sums.{fold-append}
use Rattle.std.proofs.Math.Seq.{take-suc}
use Rattle.hg_world.specs.declared.step.Step.{Step}
use Rattle.hg_world.specs.declared.step.Step.TheVariants.{Make, Deliver, Freeze, Publish}
use Rattle.hg_world.specs.declared.step.Reply.{Reply}
use Rattle.hg_world.specs.World.{WorldView}
use Rattle.hg_world.specs.Steps.{HasRun, HasStepped, IsStepOf, NeedsMemory, RanSome, after_step, after_steps, replies_to, reply_to}

-- there are as many sites after a step
pub step_sites : (w : WorldView) (step : Step) → length (after_step w step).sites ≡ length w.sites
step_sites w (Make m others time payload) = length-set w.sites m _
step_sites w (Deliver m bytes) = length-set w.sites m _
step_sites w (Freeze m worker) = length-set w.sites m _
step_sites w (Publish m worker share) = length-set w.sites m _

pub steps_sites : (w : WorldView) (steps : List Step) → length (after_steps w steps).sites ≡ length w.sites
steps_sites w [] = refl
steps_sites w (step ∷ steps) = steps_sites (after_step w step) steps ∙ step_sites w step

-- so what was a step of the world is one still
pub still_step : (w : WorldView) (steps : List Step) (step : Step) → IsStepOf w step → IsStepOf (after_steps w steps) step
still_step w steps step is = (omega (arith, is.0, steps_sites w steps), is.1)

-- what they answer, one step more
replies_more : (w : WorldView) (steps : List Step) (step : Step) → replies_to w (steps ++ step ∷ []) ≡ replies_to w steps ++ reply_to (after_steps w steps) step ∷ []
replies_more w [] step = refl
replies_more w (s ∷ steps) step = ap (λ (rest : List Reply). reply_to w s ∷ rest) (replies_more (after_step w s) steps step)

pub after_more : (w : WorldView) (steps : List Step) (step : Step) → after_steps w (steps ++ step ∷ []) ≡ after_step (after_steps w steps) step
after_more w steps step = fold-append after_step w steps (step ∷ [])

pub after_both : (w : WorldView) (first rest : List Step) → after_steps w (first ++ rest) ≡ after_steps (after_steps w first) rest
after_both w first rest = fold-append after_step w first rest

-- one item more
pub taken_more : {A : Type 0} (xs : List A) (i : ℕ) (x : A) → i < length xs → x ≡ get_or xs i x → take (i + 1) xs ≡ take i xs ++ x ∷ []
taken_more xs i x low is = ap (λ (n : ℕ). take n xs) (add-one i) ∙ (take-suc xs i x low ∙ ap (λ y. take i xs ++ y ∷ []) (sym is))

-- one step more of a run
pub run_more : (old now new : WorldView) (steps : List Step) (i : ℕ) (step : Step) (before after : List Reply) (reply : Reply) → i < length steps → step ≡ get_or steps i step →
    HasRun old (take i steps) before now → HasStepped now step reply new → after ≡ before ++ reply ∷ [] → HasRun old (take (i + 1) steps) after new
run_more old now new steps i step before after reply low is run stepped more =
    let first = take i steps in
    let all = taken_more steps i step low is in (
      more
          ∙ (ap₂ (λ (rs : List Reply) (r : Reply). rs ++ r ∷ []) run.0 (stepped.0 ∙ ap (λ (w : WorldView). reply_to w step) run.1)
          ∙ (sym (replies_more old first step) ∙ ap (replies_to old) (sym all))),
      stepped.1 ∙ (ap (λ (w : WorldView). after_step w step) run.1 ∙ (sym (after_more old first step) ∙ ap (after_steps old) (sym all))),
    )

drop_next : {A : Type 0} (xs : List A) (i : ℕ) (x : A) → i < length xs → x ≡ get_or xs i x → drop i xs ≡ x ∷ drop (suc i) xs
drop_next [] i x low is = absurd (omega (arith, low))
drop_next (y ∷ ys) zero x low is = ap (λ (z : _). z ∷ ys) (sym is)
drop_next (y ∷ ys) (suc i) x low is = drop_next ys i x (omega (arith, low)) is

-- memory ran out at the next step
pub ran_first : (old now new : WorldView) (steps : List Step) (i : ℕ) (step : Step) (replies : List Reply) → i < length steps → step ≡ get_or steps i step →
    HasRun old (take i steps) replies now → new ≡ now → NeedsMemory now step → RanSome old steps new
ran_first old now new steps i step replies low is run same needs = inr (record {
  first = take i steps;
  next = step;
  rest = drop (suc i) steps;
  whole = sym (take-append-drop i steps) ∙ ap (λ (rest : List Step). take i steps ++ rest) (drop_next steps i step low is);
  after = same ∙ run.1;
  needs = subst (λ (w : WorldView). NeedsMemory w step) (sym same) needs;
})

-- the first of some steps are the first of those and more
pub ran_before : (old new : WorldView) (steps more : List Step) → RanSome old steps new → RanSome old (steps ++ more) new
ran_before old new steps more (inl same) = inl same
ran_before old new steps more (inr ran) = inr (record {
  first = ran.first;
  next = ran.next;
  rest = ran.rest ++ more;
  whole = ap (λ (s : List Step). s ++ more) ran.whole ∙ append_assoc ran.first (ran.next ∷ ran.rest) more;
  after = ran.after;
  needs = ran.needs;
})

-- the step at a place
pub step_at : (old now : WorldView) (steps : List Step) (i : ℕ) (step : Step) (replies : List Reply) → All (IsStepOf old) steps → i < length steps → step ≡ get_or steps i step →
    HasRun old (take i steps) replies now → IsStepOf now step
step_at old now steps i step replies all low is run =
    subst (λ (w : WorldView). IsStepOf w step) (sym run.1) (still_step old (take i steps) step (subst (IsStepOf old) (sym is) (all i step low)))

-- a member is one still
pub still_member : (w now : WorldView) (steps : List Step) (m : ℕ) → now ≡ after_steps w steps → m < length w.sites → m < length now.sites
still_member w now steps m is low = omega (arith, low, ap (λ (u : WorldView). length u.sites) is, steps_sites w steps)
