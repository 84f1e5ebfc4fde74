-- A row that is accepted when it comes back is one that the member might have made
use Rattle.std.proofs.Common.{◌≡◌, inl, inr, ℕ, ◌*◌, ◌<◌, ◌≤◌, Bool, true, eqb, List, [], ◌∷◌, ◌++◌, length, Option, Some, None, option_map, sym, refl, ap, ap₂, ◌∙◌, subst, arith}
use Rattle.std.specs.Prelude.{nat_le, nat_lt}
use Rattle.std.specs.Option.{option_or}
use Rattle.std.proofs.lemmas.Bool.{cases_Bool, and_parts, eqb-true, le-ltb, true≢false}
use Rattle.hg_model.specs.declared.row.Row.{Row}
use Rattle.hg_life.specs.declared.answers.PutAnswer.TheVariants.{Accepted}
use Rattle.hg_life.specs.declared.answers.MakeFault.{MakeFault}
use Rattle.hg_life.specs.declared.answers.MakeFault.TheVariants as make_fault
use Rattle.hg_model.specs.Stakes.{Stakes, total}
use Rattle.hg_model.specs.Links.{ParentNames, has_few_others, links, parent_names, place_of}
use Rattle.hg_model.specs.Graph.{IsGraph}
use Rattle.hg_model.specs.Fits.{AreHeld, ParentsFit}
use Rattle.hg_life.specs.Spelling.{body_of, spelling, Spells, payload_limit}
use Rattle.hg_model.specs.Held.{is_held}
use Rattle.hg_life.specs.Verdict.{first_missing, first_by, row_verdict, last_name, parents_on, signed_row, made_row, first_rule, other_rule, payload_rule, draft_rule, collision_rule, room_rule, made_or}
use Rattle.hg_life.specs.History.{IsMade}
use Rattle.hg_life.specs.Terms.{Terms}
use Rattle.hg_history.proofs.RuleLaws.{Comes, TakenIs, MadeIs, made_is, taken_is, accepted_place}
use Rattle.hg_history.proofs.OwnLaws.{chain_own, chain_forking}
use Rattle.hg_model.proofs.PushLaws.{shaped-push}
use Rattle.hg_model.proofs.NameLaws.{distinct-push}
use Rattle.hg_model.specs.Chains.{IsChain}
use Rattle.hg_model.specs.Forks.{forking}
use Rattle.hg_node.specs.ReplayLaws.{RestoresAreMakes}
use Rattle.hg_node.specs.Restore.{self_name, is_same_name, is_next_own, restore_verdict}
use Rattle.hg_node.proofs.RestoreLaws.{none_of_both, none_where_false, none_is_missing, none_is_by, not_le, same_from, made_comes_back, other_than, restore_is_put}

-- the row's name is that of its fields
named_signed : (row : Row) → Spells (spelling row) row → row ≡ signed_row row.creator row.parents row.time row.payload row.sig
unfolding spelling body_of
named_signed row spells = ap (λ (name : List ℕ). record row { name = name }) spells.named

-- the names of the other-parents
abbrev pub other_names : ParentNames → List (List ℕ)
other_names None = []
other_names (Some names) = names.1

-- the parents again, and that they are of a first event just where there is no last one

on_others : (last : List ℕ) (others : List (List ℕ)) → has_few_others (Some (last, others)) ≡ true → (parents_on (Some last) others ≡ Some (last, others)) × (first_rule (Some last) others ≡ None)
on_others last [] few = absurd (true≢false (sym few))
on_others last (other ∷ others) few = (refl, refl)

parents_back : (parents : ParentNames) (last : Option (List ℕ)) → has_few_others parents ≡ true → self_name parents ≡ last → parents_on last (other_names parents) ≡ parents
parents_back None last few is = refl
parents_back (Some names) last few is = ap (λ (o : Option (List ℕ)). parents_on o names.1) (sym is) ∙ (on_others names.0 names.1 few).0

first_silent : (parents : ParentNames) (last : Option (List ℕ)) → has_few_others parents ≡ true → self_name parents ≡ last → first_rule last (other_names parents) ≡ None
first_silent None last few is = ap (λ (o : Option (List ℕ)). first_rule o []) (sym is)
first_silent (Some names) last few is = ap (λ (o : Option (List ℕ)). first_rule o names.1) (sym is) ∙ (on_others names.0 names.1 few).1

other_silent : (G : List Row) (m : ℕ) (parents : ParentNames) → AreHeld G (parent_names parents) → ParentsFit G m (parent_names parents) → other_rule m G (other_names parents) ≡ None
other_silent G m None held fit = refl
other_silent G m (Some names) held fit =
    none_of_both (option_map (λ name. make_fault.MissingOther name) (first_missing G names.1)) (option_map (λ place. make_fault.OtherCreator place) (first_by G m names.1))
    (ap (λ (o : Option (List ℕ)). option_map (λ name. make_fault.MissingOther name) o) (none_is_missing G names.1 held.1))
    (ap (λ (o : Option ℕ). option_map (λ place. make_fault.OtherCreator place) o) (none_is_by G m names.1 fit.1))

payload_silent : (payload : List ℕ) → length payload ≤ payload_limit → payload_rule payload ≡ None
payload_silent payload short = none_where_false (nat_lt payload_limit (length payload)) _ None (le-ltb payload_limit (length payload) short) refl

collision_silent : (G : List Row) (row : Row) → length G ≤ place_of G row.name → collision_rule G row ≡ None
collision_silent G row past = none_where_false (is_held G row.name) _ None (le-ltb (place_of G row.name) (length G) past) refl

room_silent : (limit : ℕ) (G : List Row) → length G < limit → room_rule limit G ≡ None
room_silent limit G room = none_where_false (nat_le limit (length G)) _ None (not_le _ _ room) refl

module _ (terms : Terms) (n : Stakes) (own : ℕ) (G : List Row) (row : Row) where
  -- a row that comes, by the member and on its last row
  pub made_of : Spells (spelling row) row → Comes terms n G row → row.creator ≡ own → self_name row.parents ≡ last_name own G → IsMade terms own G row
  made_of spells comes by last =
      let others = other_names row.parents in
      let parents = parents_back row.parents (last_name own G) comes.fits.few last in
      let fields : row ≡ made_row own G others row.time row.payload row.sig =
      named_signed row spells ∙ ap₂ (λ (m : ℕ) (names : ParentNames). signed_row m names row.time row.payload row.sig) by (sym parents) in
      let fit = subst (λ (m : ℕ). ParentsFit G m (parent_names row.parents)) by comes.fits.parents_fit in
      let draft = none_of_both (first_rule (last_name own G) others) _ (first_silent row.parents (last_name own G) comes.fits.few last)
      (none_of_both (other_rule own G others) (payload_rule row.payload) (other_silent G own row.parents comes.fits.present.held fit) (payload_silent row.payload spells.sized.payload)) in
      let end = none_of_both (collision_rule G row) (room_rule terms.limit G) (collision_silent G row comes.new_name) (room_silent terms.limit G comes.room) in
      record {
        others = others;
        time = row.time;
        payload = row.payload;
        sig = row.sig;
        fields = fields;
        spelled = spells;
        signed = subst (λ (m : ℕ). terms.accepts m (body_of row) row.sig ≡ true) by comes.signed;
        made = ap (λ (o : Option MakeFault). made_or o (length G))
            (none_of_both (draft_rule own G others row.payload) _ draft
            (subst (λ (r : Row). option_or (collision_rule G r) (room_rule terms.limit G) ≡ None) fields end));
      }

  module _ (spells : Spells (spelling row) row) (place : ℕ) (again : restore_verdict terms n own G row ≡ Accepted place) where
    verdict_is : row_verdict terms n (other_than (is_next_own own G row) row.creator) G row ≡ Accepted place
    verdict_is = sym (restore_is_put terms n own G row) ∙ again

    pub restored_place : place ≡ length G
    restored_place = accepted_place terms n (other_than (is_next_own own G row) row.creator) G row place verdict_is

    taken : TakenIs terms n (other_than (is_next_own own G row) row.creator) G row
    taken =
        taken_is terms n (other_than (is_next_own own G row) row.creator) G row
        (record { spelled = spells; accepted = verdict_is ∙ ap (λ (k : ℕ). Accepted k) restored_place })

    is_next : is_next_own own G row ≡ true
    is_next = elim (cases_Bool (is_next_own own G row)) [
      | inl goes ↦ goes
      | inr fails ↦ absurd (taken.by_other (sym (ap (λ (b : Bool). other_than b row.creator) fails)))
    ]

    pub restored_is_made : IsMade terms own G row
    restored_is_made =
        let parts = and_parts (eqb row.creator own) (is_same_name (self_name row.parents) (last_name own G)) is_next in
        made_of spells taken.comes (eqb-true row.creator own parts.0) (same_from (self_name row.parents) (last_name own G) parts.1)

-- no fork comes with a row that the member might have made
no_more_forks : (terms : Terms) (n : Stakes) (own : ℕ) (G : List Row) (row : Row) → IsGraph n G → IsChain own G → MadeIs terms n own G row → 3 * forking n (links (G ++ row ∷ [])) < total n
no_more_forks terms n own G row graph chain is =
    let distinct = distinct-push G row graph.distinct is.comes.new_name in
    let shaped = shaped-push n G row graph.shaped is.comes.fits in
    let longer = subst (λ (m : ℕ). IsChain m (G ++ row ∷ [])) (sym is.by_own) (chain_own own G row chain distinct is.after_last) in
    let le = chain_forking n G row graph.shaped distinct shaped longer in
    omega (arith, le, graph.few_forkers)

pub restores_are_makes : RestoresAreMakes
restores_are_makes terms n own G row graph chain member spells = (
  λ again. restored_is_made terms n own G row spells (length G) again,
  λ made. (let is = made_is terms n own G row member graph.distinct made in made_comes_back terms n own G row is (no_more_forks terms n own G row graph chain is)),
)
