-- Two graphs that stand in one graph, with marks that are their fame: what they share, and what they judge alike
use Rattle.std.proofs.Common.{◌≡◌, ℕ, ◌+◌, ◌<◌, ◌≤◌, Bool, true, List, length, Some, sym, ap, ap₂, ◌∙◌, subst, inl, inr, arith}
use Rattle.std.proofs.lemmas.Bool.{cases_Bool, true≢false}
use Rattle.hg_model.specs.declared.row.Row.{Row}
use Rattle.hg_model.specs.Stakes.{Stakes}
use Rattle.hg_model.specs.Links.{links, creator}
use Rattle.hg_model.specs.Ancestry.{is_ancestor, is_self_ancestor}
use Rattle.hg_model.specs.Graph.{name_at, IsGraph}
use Rattle.hg_model.specs.Rounds.{round_of, is_witness}
use Rattle.hg_model.specs.Fame.{Marks, mark_at, is_closed, is_unique_famous}
use Rattle.hg_model.specs.Order.{coin_at}
use Rattle.hg_agree.proofs.AgreeLaws.{decider_is, deciders_agree}
use Rattle.hg_agree.proofs.LateLaws.{IsDecision, decider_of_fame, late_witness, closed_mark}
use Rattle.hg_model.proofs.LinkLaws.{length-links}
use Rattle.hg_prefix.specs.Standing.{place_in, IsMarkedPart, HasUniqueFamous}
use Rattle.hg_prefix.proofs.MovedLaws.{IsMoved, is_ancestor-moved, is_ancestor_back, is_self_ancestor-moved, round_of-moved, is_witness-moved, vote_of-moved, decides-moved}
use Rattle.hg_prefix.proofs.StandingLaws.{links_moved, name_there, coin_there}
use Rattle.hg_prefix.proofs.FamousLaws.{witness_of_closed, IsFamous, unique_is, unique_from}

-- one graph that stands in U
module _ (n : Stakes) (c : ℕ) (U : List Row) (u : IsGraph n U) (G : List Row) (f : Marks) (part : IsMarkedPart n c U G f) where
  pub moved_in : IsMoved (links G) (links U) (place_in U G)
  moved_in = links_moved G U part.graph.distinct u.distinct part.stands n part.graph.shaped

  pub ancestor_in : (x y : ℕ) → x < length (links G) → y < length (links G) → is_ancestor (links U) (place_in U G x) (place_in U G y) ≡ is_ancestor (links G) x y
  ancestor_in = is_ancestor-moved n (links G) (links U) part.graph.shaped.earlier u.shaped.earlier (place_in U G) moved_in

  pub ancestor_back : (x w : ℕ) → x < length (links G) → is_ancestor (links U) (place_in U G x) w ≡ true → (y : ℕ) × (y ≤ x) × (place_in U G y ≡ w) × (is_ancestor (links G) x y ≡ true)
  ancestor_back = is_ancestor_back n (links G) (links U) part.graph.shaped.earlier u.shaped.earlier (place_in U G) moved_in

  pub self_ancestor_in : (x y : ℕ) → x < length (links G) → y < length (links G) → is_self_ancestor (links U) (place_in U G x) (place_in U G y) ≡ is_self_ancestor (links G) x y
  self_ancestor_in = is_self_ancestor-moved n (links G) (links U) part.graph.shaped.earlier u.shaped.earlier (place_in U G) moved_in

  pub round_in : (x : ℕ) → x < length (links G) → round_of n (links U) (place_in U G x) ≡ round_of n (links G) x
  round_in = round_of-moved n (links G) (links U) part.graph.shaped.earlier u.shaped.earlier (place_in U G) moved_in

  pub witness_in : (x : ℕ) → x < length (links G) → is_witness n (links U) (place_in U G x) ≡ is_witness n (links G) x
  witness_in = is_witness-moved n (links G) (links U) part.graph.shaped.earlier u.shaped.earlier (place_in U G) moved_in

  coins : (x : ℕ) → x < length (links G) → coin_at U (place_in U G x) ≡ coin_at G x
  coins x inside = coin_there G U part.graph.distinct u.distinct part.stands x (rw (← length-links G) inside)

  -- who decided a mark decides it in U, with the same vote
  pub decision_in : (x : ℕ) (v : Bool) → x < length (links G) → mark_at f x ≡ Some v →
      (y : ℕ) × (round_of n (links G) x + 2 ≤ round_of n (links G) y) × (y < length (links G)) × IsDecision n c (links U) (coin_at U) (place_in U G x) v (place_in U G y)
  decision_in x v inside mark =
      let d = decider_of_fame n c (links G) (coin_at G) x v (part.fame.fame x v mark) in (
        d.0,
        (decider_is n (links G) c (coin_at G) x d.0 d.1.decides).far,
        d.1.by_row,
        record {
          of_row = moved_in.inside x inside;
          of_witness = witness_in x inside ∙ d.1.of_witness;
          by_row = moved_in.inside d.0 d.1.by_row;
          decides = decides-moved n (links G) (links U) part.graph.shaped.earlier u.shaped.earlier (place_in U G) moved_in c (coin_at U) (coin_at G) coins x d.0 inside d.1.by_row ∙ d.1.decides;
          vote = vote_of-moved n (links G) (links U) part.graph.shaped.earlier u.shaped.earlier (place_in U G) moved_in c (coin_at U) (coin_at G) coins x d.0 inside d.1.by_row ∙ d.1.vote;
        },
      )

-- row y of H is row x of G
abbrev pub HasRowIn : List Row → List Row → ℕ → List Row → ℕ → Type 0
HasRowIn U G x H y = (y < length (links H)) × (place_in U H y ≡ place_in U G x)

module _ (n : Stakes) (c : ℕ) (U : List Row) (u : IsGraph n U) (three : 2 < c) (G H : List Row) (f h : Marks) (g : IsMarkedPart n c U G f) (k : IsMarkedPart n c U H h) where
  pub ancestor_both : (x y x' y' : ℕ) → x < length (links G) → y < length (links G) → HasRowIn U G x H x' → HasRowIn U G y H y' → is_ancestor (links H) x' y' ≡ is_ancestor (links G) x y
  ancestor_both x y x' y' hx hy at_x at_y =
      sym (ancestor_in n c U u H h k x' y' at_x.0 at_y.0) ∙ (ap₂ (is_ancestor (links U)) at_x.1 at_y.1 ∙ ancestor_in n c U u G f g x y hx hy)

  pub self_ancestor_both : (x y x' y' : ℕ) → x < length (links G) → y < length (links G) → HasRowIn U G x H x' → HasRowIn U G y H y' → is_self_ancestor (links H) x' y' ≡ is_self_ancestor (links G) x y
  self_ancestor_both x y x' y' hx hy at_x at_y =
      sym (self_ancestor_in n c U u H h k x' y' at_x.0 at_y.0) ∙ (ap₂ (is_self_ancestor (links U)) at_x.1 at_y.1 ∙ self_ancestor_in n c U u G f g x y hx hy)

  -- what stands in G below a row of both is in H too
  pub ancestor_shared : (x y x' : ℕ) → x < length (links G) → y < length (links G) → HasRowIn U G x H x' → is_ancestor (links G) x y ≡ true → (y' : ℕ) × HasRowIn U G y H y'
  ancestor_shared x y x' hx hy at_x up =
      let above = subst (λ w. is_ancestor (links U) w (place_in U G y) ≡ true) (sym at_x.1) (ancestor_in n c U u G f g x y hx hy ∙ up) in
      let y' = ancestor_back n c U u H h k x' (place_in U G y) at_x.0 above in
      let le : y'.0 ≤ x' = y'.1 in
      let inside : x' < length (links H) = at_x.0 in
      (y'.0, (omega arith, y'.2))

  creator_both : (x x' : ℕ) → x < length (links G) → HasRowIn U G x H x' → creator (links H) x' ≡ creator (links G) x
  creator_both x x' hx at_x =
      sym ((moved_in n c U u H h k).creator_there x' at_x.0) ∙ (ap (creator (links U)) at_x.1 ∙ (moved_in n c U u G f g).creator_there x hx)

  -- a witness that G knows to be famous, H knows too, where it has closed the round
  pub famous_shared : (r x : ℕ) → x < length (links G) → IsFamous n (links G) f r x → is_closed n (links H) h r ≡ true → (y : ℕ) × HasRowIn U G x H y × IsFamous n (links H) h r y
  famous_shared r x inside famous closed =
      let judge = decision_in n c U u G f g x true inside famous.marked in
      let w = witness_of_closed n (links H) h r closed in
      let mark_w = closed_mark n (links H) h r closed w.0 w.1.inside w.1.witness (let is = w.1.in_round in omega arith) in
      let later = decision_in n c U u H h k w.0 mark_w.0 w.1.inside mark_w.1 in
      let round_x = round_in n c U u G f g x inside ∙ famous.in_round in
      let round_later = round_in n c U u H h k later.0 later.2 in
      let round_w = w.1.in_round in
      let far = later.1 in
      elim (cases_Bool (is_ancestor (links U) (place_in U H later.0) (place_in U G x))) [
        | inr apart ↦ (
            let no = late_witness n (links U) u.shaped u.few_forkers c (coin_at U) (place_in U G x) (place_in U H later.0) (place_in U G judge.0) ((moved_in n c U u H h k).inside later.0 later.2) three (omega arith) apart judge.3.by_row judge.3.decides in
            absurd (true≢false (sym judge.3.vote ∙ no)))
        | inl above ↦ (
            let y = ancestor_back n c U u H h k later.0 (place_in U G x) later.2 above in
            let le : y.0 ≤ later.0 = y.1 in
            let later_in : later.0 < length (links H) = later.2 in
            let y_in : y.0 < length (links H) = omega arith in
            let witness_y = sym (witness_in n c U u H h k y.0 y_in) ∙ (ap (is_witness n (links U)) y.2 ∙ (witness_in n c U u G f g x inside ∙ famous.witness)) in
            let round_y : round_of n (links H) y.0 ≡ r = sym (round_in n c U u H h k y.0 y_in) ∙ (ap (round_of n (links U)) y.2 ∙ round_x) in
            let mark_y = closed_mark n (links H) h r closed y.0 y_in witness_y (omega arith) in
            let other = decision_in n c U u H h k y.0 mark_y.0 y_in mark_y.1 in
            let other_judge = subst (λ p. IsDecision n c (links U) (coin_at U) p mark_y.0 (place_in U H other.0)) y.2 other.3 in
            let same = deciders_agree n (links U) u.shaped u.few_forkers c (coin_at U) (place_in U G x) (place_in U G judge.0) (place_in U H other.0) judge.3.by_row other_judge.by_row judge.3.decides other_judge.decides in
            let aye : mark_y.0 ≡ true = sym other_judge.vote ∙ (sym same ∙ judge.3.vote) in
            (y.0, (y_in, y.2), record { witness = witness_y; in_round = round_y; marked = mark_y.1 ∙ ap (λ (b : Bool). Some b) aye }))
      ]

-- a unique famous witness of a round that both have closed
pub unique_shared : (n : Stakes) (c : ℕ) (U : List Row) (u : IsGraph n U) (three : 2 < c) (G H : List Row) (f h : Marks) (g : IsMarkedPart n c U G f) (k : IsMarkedPart n c U H h)
    (r x : ℕ) → x < length (links G) → is_closed n (links G) f r ≡ true → is_closed n (links H) h r ≡ true → is_unique_famous n (links G) f r x ≡ true →
    (y : ℕ) × HasRowIn U G x H y × (is_unique_famous n (links H) h r y ≡ true)
unique_shared n c U u three G H f h g k r x inside closed_G closed_H unique =
    let in_G = unique_is n (links G) f r x unique in
    let y = famous_shared n c U u three G H f h g k r x inside in_G.famous closed_H in
    let by_x = creator_both n c U u three G H f h g k x y.0 inside y.1 in (
      y.0,
      y.1,
      unique_from n (links H) h r y.0 (record {
        famous = y.2;
        only = λ z z_in rival same.
            let w = famous_shared n c U u three H G h f k g r z z_in rival closed_G in
            let by_z = creator_both n c U u three H G h f k g z w.0 z_in w.1 in
            let is_x = in_G.only w.0 w.1.0 w.2 (by_z ∙ (same ∙ by_x)) in
            (moved_in n c U u H h k).apart z y.0 z_in y.1.0 (sym w.1.1 ∙ (ap (place_in U G) is_x ∙ sym y.1.1));
      }),
    )

pub same_famous : (n : Stakes) (c : ℕ) (U : List Row) (u : IsGraph n U) (three : 2 < c) (G H : List Row) (f h : Marks) (g : IsMarkedPart n c U G f) (k : IsMarkedPart n c U H h)
    (r : ℕ) → is_closed n (links G) f r ≡ true → is_closed n (links H) h r ≡ true → (name : List ℕ) → HasUniqueFamous n G f r name → HasUniqueFamous n H h r name
same_famous n c U u three G H f h g k r closed_G closed_H name unique =
    let x : ℕ = unique.0 in
    let x_in : x < length G = unique.1 in
    let y = unique_shared n c U u three G H f h g k r x (rw (length-links G) x_in) closed_G closed_H unique.3 in
    let y_in : y.0 < length H = rw (← length-links H) y.1.0 in (
      y.0,
      y_in,
      sym (name_there H U k.graph.distinct u.distinct k.stands y.0 y_in) ∙ (ap (name_at U) y.1.1 ∙ (name_there G U g.graph.distinct u.distinct g.stands x x_in ∙ unique.2)),
      y.2,
    )
