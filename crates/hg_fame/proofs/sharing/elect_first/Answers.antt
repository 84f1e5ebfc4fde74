use Rattle.std.proofs.Common.{◌∙◌, ◌++◌, ◌∷◌, [], Bool, ℕ, List, Vec, Global, get_or, option_map, ap, sym}
use Rattle.hg_fame.specs.Decisions.{fame_within}
use Rattle.hg_fame.proofs.ShareLaws.{fames_some, fames_none}
use Rattle.hg_fame.proofs.sharing.elect_first.Goals as goal
use Rattle.hg_fame.proofs.sharing.elect_first.Goals.{in-Some+in_ok-push, in_default}

pub loop-x-preserved : goal.loop-x-preserved
loop-x-preserved g c =
    let fame = fame_within (g.P.Prefix.graph c.args.p.now) c.args.len in
    let places = c.args.places.now in
    let i = c.loop-x.x-index in
    record {
      made = c.elect_within.ensures.made;
      found = elim c.match-elect_within.branch [
        | in-Some+in_ok-push w ↦
            ap (λ (v : Vec (ℕ × Bool) Global). v.items) w.found-is
            ∙ (w.in_ok-push.ensures.items
            ∙ (ap (λ (found : List (ℕ × Bool)). found ++ (get_or places i 0, w.in-Some.fame) ∷ []) c.loop-x.invariant.found
            ∙ sym (fames_some fame places i w.in-Some.fame c.loop-x-test.true (sym (ap (option_map (λ (decision : Bool × ℕ). decision.0)) w.in-Some.is) ∙ c.elect_within.ensures.fame))))
        | in_default w ↦
            ap (λ (v : Vec (ℕ × Bool) Global). v.items) w.found-is
            ∙ (c.loop-x.invariant.found
            ∙ sym (fames_none fame places i c.loop-x-test.true (sym (ap (option_map (λ (decision : Bool × ℕ). decision.0)) w.in_default.is) ∙ c.elect_within.ensures.fame)))
      ];
    }
