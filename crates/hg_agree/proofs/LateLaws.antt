-- The laws of fame and of witnesses that come late
use Rattle.std.proofs.Common.{◌≡◌, ℕ, ◌+◌, ◌-◌, ◌*◌, ◌%◌, ◌<◌, ◌≤◌, Bool, true, false, ◌&&◌, not, ltb, leb, eqb, max, List, length, Option, Some, None, IfSome, option_map, sym, refl, ap, ◌∙◌, subst, inl, inr, arith, mod-eq_of_lt}
use Rattle.std.specs.Prelude.{is_none}
use Rattle.std.proofs.lemmas.List.{get_or_past}
use Rattle.std.proofs.lemmas.List.FromFn.{get_or-map-range_with_len, length-map-range_with_len}
use Rattle.std.proofs.lemmas.Bool.{cases_lt, and_parts, and_from, false_from_ne_true, both_ways, eqb-true, ltb-true, lt-ltb, le-leb, lt-leb, not-true}
use Rattle.hg_model.specs.Places.{least_below, some_below, table}
use Rattle.hg_model.specs.Stakes.{Stakes, total}
use Rattle.hg_model.specs.Links.{Link}
use Rattle.hg_model.specs.Ancestry.{is_ancestor}
use Rattle.hg_model.specs.Forks.{forking}
use Rattle.hg_model.specs.Seeing.{sees}
use Rattle.hg_model.specs.Rounds.{is_seen_witness, round_of, is_witness, stake_at, weight_of}
use Rattle.hg_model.specs.Votes.{weighed_decides, is_voter, yes_votes, no_votes, majority, is_strong, is_normal, rounds_above, vote_of, decides}
use Rattle.hg_model.specs.Fame.{is_decider, fame_of, Marks, mark_at, fame_marks, is_witness_of_round, is_unmarked, is_closed}
use Rattle.hg_model.specs.Graph.{IsShaped}
use Rattle.hg_model.proofs.SeenLaws.{seen_witness_is}
use Rattle.hg_model.proofs.PlacesLaws.{some_below_from, some_below_found, weight_below_none}
use Rattle.hg_model.proofs.SearchLaws.{IsFoundBelow, least_below_found, least_below_some}
use Rattle.hg_model.proofs.AncestryLaws.{is_ancestor-le, is_ancestor-trans}
use Rattle.hg_model.proofs.FameLaws.{fame_of_witness}
use Rattle.hg_model.proofs.SightLaws.{sees-is_ancestor, strongly_sees-is_ancestor}
use Rattle.hg_agree.proofs.WitnessLaws.{round_quorum, witness_below}
use Rattle.hg_agree.proofs.AgreeLaws.{AllVote, decider_is, vote_of_next, vote_of_normal, voters_many, unanimity_lasts, swayed, deciders_agree}

-- fame is the vote of some decider
module _ (n : Stakes) (c : ℕ) (L : List Link) (coin : ℕ → Bool) (x : ℕ) where
  -- y decides the fame of the witness x, as v
  pub record IsDecision (v : Bool) (y : ℕ) : Type 0 where
    pub of_row : x < length L
    pub of_witness : is_witness n L x ≡ true
    pub by_row : y < length L
    pub decides : decides n c L coin x y ≡ true
    pub vote : vote_of n c L coin x y ≡ v

  decision_of : (v : Bool) (found : Option ℕ) → IfSome found (IsFoundBelow (is_decider n c L coin x) (length L)) → option_map (vote_of n c L coin x) found ≡ Some v → (y : ℕ) × IsDecision v y
  decision_of v None h is = cc
  decision_of v (Some y) h is =
      let one = and_parts (ltb x (length L) && is_witness n L x) (decides n c L coin x y) h.1 in
      let two = and_parts (ltb x (length L)) (is_witness n L x) one.0 in
      (y, record { of_row = ltb-true x (length L) two.0; of_witness = two.1; by_row = h.0; decides = one.1; vote = cc })

  -- there is no fame without a decider
  pub decider_of_fame : (v : Bool) → fame_of n c L coin x ≡ Some v → (y : ℕ) × IsDecision v y
  unfolding fame_of
  decider_of_fame v is =
      decision_of v (least_below (round_of n L) (length L) (is_decider n c L coin x)) (least_below_found (round_of n L) (length L) (is_decider n c L coin x)) is

module _ (n : Stakes) (L : List Link) (s : IsShaped n L) (few : 3 * forking n L < total n) (c : ℕ) (coin : ℕ → Bool) (x : ℕ) where
  -- and any decider's vote is the fame
  pub fame_of_decider : (v : Bool) (y : ℕ) → IsDecision n c L coin x v y → fame_of n c L coin x ≡ Some v
  fame_of_decider v y d =
      let vote = vote_of n c L coin x in
      let decide = decides n c L coin x in
      let first = least_below_some (round_of n L) (length L) decide y d.by_row d.decides in
      let found : IsFoundBelow decide (length L) first.0 = subst (λ o. IfSome o (IsFoundBelow decide (length L))) first.1 (least_below_found (round_of n L) (length L) decide) in
      fame_of_witness n c L coin x d.of_row d.of_witness
      ∙ (ap (option_map vote) first.1
      ∙ ap (λ b. Some b) (deciders_agree n L s few c coin x first.0 y found.0 d.by_row found.1 d.decides ∙ d.vote))

  -- where a row two rounds above x does not have x as ancestor, no voter below it says yes
  apart_below : (y w : ℕ) → is_ancestor L y x ≡ false → is_ancestor L y w ≡ true → round_of n L w ≡ round_of n L x + 1 → vote_of n c L coin x w ≡ false
  apart_below y w apart up is =
      vote_of_next n L c coin x w is
      ∙ false_from_ne_true (sees L w x) (λ seen. both_ways (is_ancestor L y x) apart (is_ancestor-trans L s.earlier y w x up (sees-is_ancestor L s.earlier w x seen)))

  two_is_normal : 2 < c → (y : ℕ) → round_of n L y ≡ round_of n L x + 2 → is_normal c (rounds_above n L x y) ≡ true
  two_is_normal hc y is =
      let two : rounds_above n L x y ≡ 2 = omega arith in
      let same : 2 % c ≡ 2 = mod-eq_of_lt hc in
      rw two (lt-ltb 0 (2 % c) (omega arith))

  -- all witnesses two rounds above x vote no
  pub late_round : (y : ℕ) → y < length L → 2 < c → round_of n L x + 2 ≤ round_of n L y → is_ancestor L y x ≡ false →
      AllVote n L c coin x (round_of n L x + 2) false
  late_round y hy hc far apart =
      let r = round_of n L x + 1 in
      let z = witness_below n L s.earlier y (r + 1) (omega arith) (omega arith) in
      let low : z.0 ≤ y = is_ancestor-le L s.earlier y z.0 z.1 in
      let voters : ℕ → Bool = is_seen_witness (round_of n L) n L r z.0 in
      let many : 2 * total n < 3 * weight_of n L z.0 voters = ltb-true (2 * total n) (3 * weight_of n L z.0 voters) (round_quorum n L s.earlier z.0 r (omega arith) z.3) in
      record {
        votes = λ w hw ww is.
            vote_of_normal n L c coin x w (omega arith) (two_is_normal hc w is)
            ∙ swayed n L s few c coin x false r z.0 z.0 w voters (omega arith) (omega arith) (omega arith) hw (omega arith)
            (λ v hv t. seen_witness_is n L r z.0 v t)
            (λ v hv t.
            let seen = seen_witness_is n L r z.0 v t in
            apart_below y v apart (is_ancestor-trans L s.earlier y z.0 v z.1 (strongly_sees-is_ancestor L s.earlier n z.0 v seen.seen)) seen.in_round)
            many;
      }

  -- so each decider of x says no
  pub late_witness : (y b : ℕ) → y < length L → 2 < c → round_of n L x + 2 ≤ round_of n L y → is_ancestor L y x ≡ false →
      b < length L → decides n c L coin x b ≡ true → vote_of n c L coin x b ≡ false
  late_witness y b hy hc far apart hb h =
      let d = decider_is n L c coin x b h in
      let far_b = d.far in
      let later = unanimity_lasts n L c coin x s.earlier (round_of n L b - (round_of n L x + 2)) (round_of n L x + 2) false (omega arith) (late_round y hy hc far apart) in
      later.votes b hb d.is_witness (omega arith)

  -- and a witness just two rounds above x, without x among its ancestors, is itself such a decider
  pub late_decided : (y : ℕ) → y < length L → 2 < c → is_witness n L y ≡ true → round_of n L y ≡ round_of n L x + 2 → is_ancestor L y x ≡ false →
      (decides n c L coin x y ≡ true) × (vote_of n c L coin x y ≡ false)
  unfolding decides
  late_decided y hy hc wy is apart =
      let vote = vote_of n c L coin x in
      let ayes = yes_votes n L vote y in
      let nays = no_votes n L vote y in
      let d = rounds_above n L x y in
      let normal = two_is_normal hc y is in
      let none : ayes ≡ 0 = weight_below_none (stake_at n L) y (λ w. is_voter n L y w && vote w) (λ w hw t.
      let parts = and_parts (is_voter n L y w) (vote w) t in
      let seen = seen_witness_is n L (round_of n L y - 1) y w parts.0 in
      let up = strongly_sees-is_ancestor L s.earlier n y w seen.seen in
      both_ways (vote w) (apart_below y w apart up (omega (arith, seen.in_round, is))) parts.1) in
      let many = voters_many n L s.earlier vote y (round_of n L x + 1) (omega arith) (omega arith) in
      let far : ltb 1 d ≡ true = lt-ltb 1 d (omega arith) in
      let strong : is_strong (total n) ayes nays ≡ true = lt-ltb (2 * total n) (3 * max ayes nays) (omega arith) in
      let nay : majority ayes nays ≡ false = lt-leb nays ayes (omega arith) in (
        and_from (is_witness n L y) (weighed_decides (total n) c d ayes nays) wy (and_from (ltb 1 d && is_normal c d) (is_strong (total n) ayes nays) (and_from (ltb 1 d) (is_normal c d) far normal) strong),
        vote_of_normal n L c coin x y (omega arith) normal ∙ nay,
      )

  -- a witness that some row two rounds above it does not have as ancestor is not famous, at once
  pub late_fame : (y : ℕ) → x < length L → y < length L → 2 < c → is_witness n L x ≡ true → round_of n L x + 2 ≤ round_of n L y → is_ancestor L y x ≡ false →
      fame_of n c L coin x ≡ Some false
  late_fame y hx hy hc wx far apart =
      let z = witness_below n L s.earlier y (round_of n L x + 2) (omega arith) far in
      let low : z.0 ≤ y = is_ancestor-le L s.earlier y z.0 z.1 in
      let apart_z = false_from_ne_true (is_ancestor L z.0 x) (λ up. both_ways (is_ancestor L y x) apart (is_ancestor-trans L s.earlier y z.0 x z.1 up)) in
      let d = late_decided z.0 (omega arith) hc z.2 z.3 apart_z in
      fame_of_decider false z.0 (record { of_row = hx; of_witness = wx; by_row = omega arith; decides = d.0; vote = d.1 })

-- closed rounds

some_mark : (mark : Option Bool) → is_none mark ≡ false → (v : Bool) × (mark ≡ Some v)
some_mark None h = cc
some_mark (Some v) h = (v, refl)

module _ (n : Stakes) (L : List Link) (marks : Marks) (r : ℕ) (closed : is_closed n L marks r ≡ true) where
  -- a closed round has a witness
  pub closed_witness : (w : ℕ) × (w < length L) × (is_witness_of_round n L r w ≡ true)
  unfolding is_closed
  closed_witness = some_below_found (length L) (is_witness_of_round n L r) (and_parts (some_below (length L) (is_witness_of_round n L r)) (not (some_below (length L) (is_unmarked n L marks r))) closed).0

  -- and each witness of a round no later has a mark
  pub closed_mark : (w : ℕ) → w < length L → is_witness n L w ≡ true → round_of n L w ≤ r → (v : Bool) × (mark_at marks w ≡ Some v)
  unfolding is_closed
  closed_mark w hw ww le =
      let none = not-true (some_below (length L) (is_unmarked n L marks r)) (and_parts (some_below (length L) (is_witness_of_round n L r)) (not (some_below (length L) (is_unmarked n L marks r))) closed).1 in
      some_mark (mark_at marks w) (false_from_ne_true (is_none (mark_at marks w)) (λ no_mark.
      both_ways (some_below (length L) (is_unmarked n L marks r)) none
      (some_below_from (length L) (is_unmarked n L marks r) w hw
      (and_from (is_witness n L w && leb (round_of n L w) r) (is_none (mark_at marks w)) (and_from (is_witness n L w) (leb (round_of n L w) r) ww (le-leb (round_of n L w) r le)) no_mark))))

-- the marks of a graph's fame are its fame

pub mark_of_fame : (n : Stakes) (c : ℕ) (L : List Link) (coin : ℕ → Bool) (x : ℕ) (v : Bool) → x < length L → fame_of n c L coin x ≡ Some v → mark_at (fame_marks n c L coin) x ≡ Some v
unfolding fame_marks
mark_of_fame n c L coin x v inside is = get_or-map-range_with_len (fame_of n c L coin) 0 (length L) x x None inside (omega arith) ∙ is

pub fame_of_mark : (n : Stakes) (c : ℕ) (L : List Link) (coin : ℕ → Bool) (x : ℕ) (v : Bool) → mark_at (fame_marks n c L coin) x ≡ Some v → fame_of n c L coin x ≡ Some v
unfolding fame_marks
fame_of_mark n c L coin x v is =
    let fame = fame_of n c L coin in
    elim (cases_lt x (length L)) [
      | inl inside ↦ sym (get_or-map-range_with_len fame 0 (length L) x x None inside (omega arith)) ∙ is
      | inr past ↦ (let none : mark_at (table fame (length L)) x ≡ None = get_or_past (table fame (length L)) x None (omega (arith, length-map-range_with_len fame 0 (length L))) in cc)
    ]

-- where round r is closed by marks that are fame, some witness stands two rounds above it
pub closed_has_above : (n : Stakes) (c : ℕ) (L : List Link) (coin : ℕ → Bool) (marks : Marks) (r : ℕ) →
    ((x : ℕ) (v : Bool) → mark_at marks x ≡ Some v → fame_of n c L coin x ≡ Some v) → is_closed n L marks r ≡ true →
    (y : ℕ) × (y < length L) × (is_witness n L y ≡ true) × (r + 2 ≤ round_of n L y)
closed_has_above n c L coin marks r marked closed =
    let w = closed_witness n L marks r closed in
    let parts = and_parts (is_witness n L w.0) (eqb (round_of n L w.0) r) w.2 in
    let here : round_of n L w.0 ≡ r = eqb-true (round_of n L w.0) r parts.1 in
    let mark = closed_mark n L marks r closed w.0 w.1 parts.0 (omega arith) in
    let y = decider_of_fame n c L coin w.0 mark.0 (marked w.0 mark.0 mark.1) in
    let d = decider_is n L c coin w.0 y.0 y.1.decides in
    let far = d.far in
    (y.0, y.1.by_row, d.is_witness, omega arith)
