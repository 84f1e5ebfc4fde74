-- An event that is made under the one accepted signature
use Rattle.std.proofs.Common.{◌≡◌, ℕ, List, [], length, Option, Some, None, sym, refl, ap, ◌∙◌}
use Rattle.hg_life.specs.declared.answers.MakeAnswer.{MakeAnswer}
use Rattle.hg_life.specs.declared.answers.MakeAnswer.TheVariants as answer
use Rattle.hg_life.specs.declared.answers.MakeFault.{MakeFault}
use Rattle.std.specs.Option.{option_or}
use Rattle.hg_life.specs.Verdict.{made_row, made_or, collision_rule, room_rule}
use Rattle.hg_life.specs.History.{Change}
use Rattle.hg_life.specs.NodeView.{NodeView, with_changes, node_rows}
use Rattle.hg_life.specs.Calls.{IsMaking, make_answer, make_changes, make_body, make_draft, made_by}
use Rattle.hg_life.specs.Signing.{Accepts, AcceptOne}
use Rattle.hg_node.specs.Laws.{signature_made, MakingIsOne}

module _ {K : Type 0} (v : NodeView K) (others : List (List ℕ)) (time : ℕ) (payload : List ℕ) where
  -- a draft that is refused has one answer under all signatures, and adds nothing
  refused_answer : (sig : List ℕ) (f : MakeFault) → make_draft v others payload ≡ Some f → make_answer v others time payload sig ≡ answer.Refused f
  unfolding make_draft make_answer
  refused_answer sig f refuses =
      ap (λ (o : Option MakeFault). made_or (option_or o (option_or (collision_rule (node_rows v) (made_row v.start.own (node_rows v) others time payload sig)) (room_rule v.start.limit (node_rows v)))) (length (node_rows v))) refuses

  refused_changes : (sig : List ℕ) (f : MakeFault) → make_draft v others payload ≡ Some f → make_changes v others time payload sig ≡ []
  unfolding make_changes
  refused_changes sig f refuses = ap (λ (a : MakeAnswer). made_by a (made_row v.start.own (node_rows v) others time payload sig)) (refused_answer sig f refuses)

module _ {K : Type 0} (accepts : K → Accepts) (sign : ℕ → List ℕ → List ℕ) (old new : NodeView K) (others : List (List ℕ)) (time : ℕ) (payload : List ℕ) (answered : MakeAnswer)
    (one : AcceptOne accepts old.start.keys sign) (making : IsMaking accepts old others time payload answered new) where
  by_draft : (draft : Option MakeFault) → make_draft old others payload ≡ draft →
      (answered ≡ make_answer old others time payload (signature_made sign old others time payload))
      × (new ≡ with_changes old (make_changes old others time payload (signature_made sign old others time payload)))
  by_draft None silent =
      let sig_is = one old.start.own (make_body old others time payload) making.sig (making.signed silent) in (
        making.answers ∙ ap (make_answer old others time payload) sig_is,
        making.grown ∙ ap (λ (sig : List ℕ). with_changes old (make_changes old others time payload sig)) sig_is,
      )
  by_draft (Some f) refuses =
      let sig = signature_made sign old others time payload in (
        making.answers ∙ (refused_answer old others time payload making.sig f refuses ∙ sym (refused_answer old others time payload sig f refuses)),
        making.grown ∙ ap (λ (cs : List Change). with_changes old cs) (refused_changes old others time payload making.sig f refuses ∙ sym (refused_changes old others time payload sig f refuses)),
      )

pub making_is_one : (K : Type 0) → MakingIsOne K
making_is_one K accepts sign old new others time payload answered one making = by_draft accepts sign old new others time payload answered one making (make_draft old others payload) refl
