-- Which links fit, and the shape of the first links
use Rattle.std.proofs.Common.{◌≡◌, ◌≢◌, inl, inr, ℕ, ◌<◌, ◌≤◌, true, eqb, List, [], ◌∷◌, length, take, refl, sym, subst, arith}
use Rattle.std.proofs.lemmas.Bool.{cases_lt, eqb-true, or_cases}
use Rattle.std.specs.List.{AllByRecursion}
use Rattle.hg_model.specs.Places.{has_place}
use Rattle.hg_model.specs.Stakes.{Stakes, member_count}
use Rattle.hg_model.specs.Links.{Link, most_others, first_place, later_places, parents, self_parent, other_parents, creator}
use Rattle.hg_model.specs.Graph.{IsShaped}
use Rattle.hg_model.specs.Shape.{FitsLink, link_of}
use Rattle.hg_model.proofs.ReachLaws.{none_there, one_there}
use Rattle.hg_model.proofs.LinkLaws.{parents_past}
use Rattle.hg_model.proofs.LongerLaws.{IsLonger, longer-take, parents-longer, creator-longer}
use Rattle.hg_model.proofs.PushLaws.{first_of_places, later_of_places}

all_places : (P : ℕ → Type 0) (ps : List ℕ) (p : ℕ) → AllByRecursion P ps → has_place ps p ≡ true → P p
all_places P [] p all h = absurd (none_there p h)
all_places P (q ∷ ps) p all h = elim (or_cases (eqb q p) (has_place ps p) h) [
  | inl first ↦ subst P (eqb-true q p first) all.0
  | inr later ↦ all_places P ps p all.1 later
]

-- a row without parents fits where its creator is a member
pub fits_alone : (n : Stakes) (L : List Link) (m : ℕ) → m < member_count n → FitsLink n L (link_of m [])
fits_alone n L m member = record {
  member = member;
  few = omega arith;
  earlier = λ p h. absurd (none_there p h);
  self_by_same = λ p h. absurd (none_there p h);
  others_by_others = λ p h. absurd (none_there p h);
}

-- a row with parents fits where they are few and there, the first by its creator and the later ones by others
pub fits_on : (n : Stakes) (L : List Link) (m own : ℕ) (others : List ℕ) → m < member_count n → length others ≤ most_others → own < length L →
    AllByRecursion (λ p. p < length L) others → creator L own ≡ m → AllByRecursion (λ p. creator L p ≢ m) others → FitsLink n L (link_of m (own ∷ others))
fits_on n L m own others member few own_there there by_same by_others = record {
  member = member;
  few = omega arith;
  earlier = λ p h. elim (or_cases (eqb own p) (has_place others p) h) [
    | inl first ↦ (let same : own ≡ p = eqb-true own p first in omega arith)
    | inr later ↦ all_places (λ p. p < length L) others p there later
  ];
  self_by_same = λ p h. subst (λ k. creator L k ≡ m) (one_there own p h) by_same;
  others_by_others = λ p h. all_places (λ p. creator L p ≢ m) others p by_others h;
}

pub ruleset fits_links = (fits_alone, fits_on)

module _ (n : Stakes) (L M : List Link) (longer : IsLonger L M) (s : IsShaped n M) where
  -- who has parents in the shorter list stands there, and has these parents in the longer one
  parents_kept : (pick : List ℕ → List ℕ) → (pick [] ≡ []) → (x p : ℕ) → has_place (pick (parents L x)) p ≡ true → (x < length L) × (has_place (pick (parents M x)) p ≡ true)
  parents_kept pick none x p h = elim (cases_lt x (length L)) [
    | inl inside ↦ (inside, subst (λ ps. has_place (pick ps) p ≡ true) (sym (parents-longer L M longer x inside)) h)
    | inr past ↦ (let gone = subst (λ ps. has_place (pick ps) p ≡ true) (parents_past L x past) h in
        absurd (none_there p (subst (λ ps. has_place ps p ≡ true) none gone)))
  ]

  -- a list whose links are the first of a shaped one is shaped
  pub shaped-shorter : IsShaped n L
  unfolding self_parent other_parents
  shaped-shorter = record {
    members = λ x inside. (let more = longer.more in rw (← creator-longer L M longer x inside) (s.members x (omega arith)));
    earlier = record { earlier = λ x p h. s.earlier.earlier x p (parents_kept (λ ps. ps) refl x p h).1 };
    self_by_same = λ x p h.
        let at = parents_kept first_place refl x p h in
        let low : p < x = s.earlier.earlier x p (first_of_places (parents M x) p at.1) in
        let here : x < length L = at.0 in
        rw (← creator-longer L M longer x here, ← creator-longer L M longer p (omega arith)) (s.self_by_same x p at.1);
    others_by_others = λ x p h.
        let at = parents_kept later_places refl x p h in
        let low : p < x = s.earlier.earlier x p (later_of_places (parents M x) p at.1) in
        let here : x < length L = at.0 in
        rw (← creator-longer L M longer x here, ← creator-longer L M longer p (omega arith)) (s.others_by_others x p at.1);
  }

pub shaped-take : (n : Stakes) (L : List Link) (len : ℕ) → len ≤ length L → IsShaped n L → IsShaped n (take len L)
shaped-take n L len le s = shaped-shorter n (take len L) L (longer-take L len le) s
