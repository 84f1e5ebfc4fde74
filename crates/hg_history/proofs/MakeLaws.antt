-- An event that a node makes is a change of its history
use Rattle.std.proofs.Common.{◌≡◌, ℕ, ◌^◌, ◌<◌, ◌≤◌, true, List, [], ◌∷◌, length, Option, Some, None, sym, refl, ap, ◌∙◌, subst, arith, lt-ltb}
use Rattle.std.specs.Prelude.{IfSome, nat_le, nat_lt}
use Rattle.std.specs.List.{AllByRecursion}
use Rattle.std.proofs.lemmas.Bool.{and_from, le-leb}
use Rattle.hg_model.specs.declared.row.Row.{Row}
use Rattle.hg_life.specs.declared.answers.MakeAnswer.{MakeAnswer}
use Rattle.hg_life.specs.declared.answers.MakeAnswer.TheVariants as answer
use Rattle.hg_model.specs.Links.{has_few_others, most_others, ParentNames, parent_names, place_of}
use Rattle.hg_model.specs.Stakes.{Stakes, member_count}
use Rattle.hg_model.specs.Fits.{AreHeld}
use Rattle.hg_life.specs.Spelling.{AreNames, body_of, spelling, Spells}
use Rattle.hg_life.specs.Verdict.{last_name, parents_on, made_row, making}
use Rattle.hg_life.specs.History.{Change, IsMade}
use Rattle.hg_life.specs.History.Change.{Made}
use Rattle.hg_life.specs.NodeView.{NodeView, with_changes, node_rows, IsNode, terms_of}
use Rattle.hg_life.specs.Calls.{make_answer, make_changes, make_body, make_draft, made_by}
use Rattle.hg_life.specs.Signing.{Accepts}
use Rattle.hg_model.specs.Orders.{HasNameSizes}
use Rattle.hg_life.proofs.RuleLaws.{Drafted, drafted}
use Rattle.hg_prefix.proofs.StandingLaws.{name_at_place}
use Rattle.hg_history.specs.Laws.{MakesLeaveANode}
use Rattle.hg_history.proofs.RuleLaws.{made_draft, made_place}
use Rattle.hg_history.proofs.SoundLaws.{sound, node_graph}
use Rattle.hg_history.proofs.CallLaws.{with_none, node_with}

-- names of held rows have their size
held_size : (G : List Row) (name : List ℕ) → HasNameSizes 48 G → place_of G name < length G → length name ≡ 48
held_size G name sizes held = ap length (sym (name_at_place G name held)) ∙ sizes.sized (place_of G name) held

held_sizes : (G : List Row) (names : List (List ℕ)) → HasNameSizes 48 G → AreHeld G names → AllByRecursion (λ name. length name ≡ 48) names
held_sizes G [] sizes held = tt
held_sizes G (name ∷ names) sizes held = (held_size G name sizes held.0, held_sizes G names sizes held.1)

parent_sizes : (G : List Row) (parents : ParentNames) → has_few_others parents ≡ true → HasNameSizes 48 G → AreHeld G (parent_names parents) → IfSome parents AreNames
parent_sizes G None few sizes held = tt
parent_sizes G (Some names) few sizes held = record { few = few; first = held_size G names.0 sizes held.0; others = held_sizes G names.1 sizes held.1 }

few_made : (last : Option (List ℕ)) (others : List (List ℕ)) → length others ≤ most_others → has_few_others (parents_on last others) ≡ true
few_made last [] few = refl
few_made None (other ∷ others) few = refl
few_made (Some last) (other ∷ others) few =
    let len : ℕ = length (other ∷ others) in
    and_from (nat_lt 0 len) (nat_le len most_others) (lt-ltb 0 len (omega arith)) (le-leb len most_others few)

made_spells : (n : Stakes) (own : ℕ) (G : List Row) (others : List (List ℕ)) (time : ℕ) (payload sig : List ℕ) → length others ≤ most_others →
    own < 2 ^ 16 → time < 2 ^ 64 → length sig ≡ 64 → HasNameSizes 48 G → Drafted n own G others payload → Spells (spelling (made_row own G others time payload sig)) (made_row own G others time payload sig)
unfolding spelling body_of
made_spells n own G others time payload sig few small early sized sizes draft = record {
  sized = record {
    creator = small;
    parents = parent_sizes G (parents_on (last_name own G) others) (few_made (last_name own G) others few) sizes draft.held;
    time = early;
    payload = draft.short;
    sig = sized;
  };
  spelled = refl;
  named = refl;
}

module _ (K : Type 0) (accepts : K → Accepts) (v : NodeView K) (others : List (List ℕ)) (time : ℕ) (payload sig : List ℕ) (few_others : length others ≤ most_others)
    (early : time < 2 ^ 64) (sized : length sig ≡ 64) (signed : make_draft v others payload ≡ None → accepts v.start.keys v.start.own (make_body v others time payload) sig ≡ true) (node : IsNode accepts v) where
  is_made : (place : ℕ) → making v.start.limit v.start.own (node_rows v) others time payload sig ≡ answer.Made place →
      IsMade (terms_of accepts v.start) v.start.own (node_rows v) (made_row v.start.own (node_rows v) others time payload sig)
  unfolding make_body make_draft body_of
  is_made place is =
      let own = v.start.own in
      let G : List Row = node_rows v in
      let s = sound (terms_of accepts v.start) v.start.members v.start.coin own v.history node.coin node.history in
      let sizes = (node_graph (terms_of accepts v.start) v.start.members v.start.coin own v.history node.coin node.history).sizes in
      let none = made_draft v.start.limit own G others time payload sig place is in
      let draft = drafted v.start.members own G others payload s.graph.distinct none in
      let low : own < member_count v.start.members = node.history.member in
      let few : member_count v.start.members ≤ 128 = node.few_members in
      record {
        others = others;
        time = time;
        payload = payload;
        sig = sig;
        fields = refl;
        spelled = made_spells v.start.members own G others time payload sig few_others (omega arith) early sized sizes draft;
        signed = signed none;
        made = is ∙ ap (λ (k : ℕ). answer.Made k) (made_place _ (length G) place is);
      }

  node_made : (a : MakeAnswer) → make_answer v others time payload sig ≡ a → IsNode accepts (with_changes v (make_changes v others time payload sig))
  unfolding make_answer make_changes
  node_made (answer.Refused f) is =
      subst (IsNode accepts) (sym (with_none v (make_changes v others time payload sig) (ap (λ (a : MakeAnswer). made_by a (made_row v.start.own (node_rows v) others time payload sig)) is))) node
  node_made (answer.Made place) is =
      subst (λ (es : List Change). IsNode accepts (with_changes v es)) (sym (ap (λ (a : MakeAnswer). made_by a (made_row v.start.own (node_rows v) others time payload sig)) is))
      (node_with accepts v (Made (made_row v.start.own (node_rows v) others time payload sig)) node (is_made place is))

pub makes_leave_a_node : (K : Type 0) → MakesLeaveANode K
makes_leave_a_node K accepts v others time payload sig few early sized signed node = node_made K accepts v others time payload sig few early sized signed node (make_answer v others time payload sig) refl
