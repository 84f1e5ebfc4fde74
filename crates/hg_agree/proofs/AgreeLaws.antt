-- The laws of votes: a quorum is not outvoted, unanimity lasts, and all deciders agree
use Rattle.std.proofs.Common.{◌≡◌, ℕ, zero, suc, ◌+◌, ◌-◌, ◌*◌, ◌%◌, ◌<◌, ◌≤◌, Bool, true, false, cond, ◌||◌, ◌&&◌, not, ltb, leb, eqb, max, List, length, sym, refl, ap, ◌∙◌, subst, inl, inr, arith, zero-add}
use Rattle.std.proofs.lemmas.Bool.{and_parts, cases_lt, eq-eqb, eqb-true, ne_eqb, ltb-true, lt-ltb, le-leb, lt-leb, leb-true, leb-false, not-true, not_from_true, both_ways}
use Rattle.hg_model.specs.Places.{IsEarlier}
use Rattle.hg_model.specs.Stakes.{Stakes, member_count, stake_of, stake_where, total}
use Rattle.hg_model.specs.Links.{Link, parents, creator}
use Rattle.hg_model.specs.Forks.{forking}
use Rattle.hg_model.specs.Seeing.{sees}
use Rattle.hg_model.specs.Rounds.{is_seen_witness, round_of, is_witness, stake_at, weight_of}
use Rattle.hg_model.specs.Votes.{weighed_vote, weighed_decides, is_voter, yes_votes, no_votes, majority, is_strong, is_normal, rounds_above, vote_of, decides}
use Rattle.hg_model.specs.Graph.{IsShaped}
use Rattle.hg_model.proofs.SeenLaws.{SeenWitness, seen_witness_is}
use Rattle.hg_model.proofs.WeightLaws.{weight_below_both, weight_below_split}
use Rattle.hg_model.proofs.PlacesLaws.{some_below_found, weight_below_none, weight_below-all, total-all}
use Rattle.hg_quorum.proofs.QuorumLaws.{members_with}
use Rattle.hg_model.proofs.VoteLaws.{vote_of-at}
use Rattle.hg_agree.proofs.WitnessLaws.{round_quorum, one_witness_seen, seen_witnesses-le}

-- the vote is v, and the vote is not v

abbrev says : Bool → Bool → Bool
says v vote = cond v vote (not vote)

abbrev denies : Bool → Bool → Bool
denies v vote = cond v (not vote) vote

says_is : (v vote : Bool) → says v vote ≡ true → vote ≡ v
says_is true vote h = h
says_is false vote h = not-true vote h

denies_not : (v vote : Bool) → vote ≡ v → denies v vote ≡ false
denies_not true vote h = not_from_true vote h
denies_not false vote h = h

either_way : {A : Type 0} (b : Bool) (v : A) → cond b v v ≡ v
either_way true v = refl
either_way false v = refl

-- where few deny v, the majority says v
majority_is : (n : ℕ) (v : Bool) (ayes nays : ℕ) → 2 * n < 3 * (ayes + nays) → 3 * cond v nays ayes < n → majority ayes nays ≡ v
majority_is n true ayes nays many low = le-leb nays ayes (omega arith)
majority_is n false ayes nays many low = lt-leb nays ayes (omega arith)

-- where none deny v, the vote is v whatever the coin
unanimous_vote : (n c d : ℕ) (v : Bool) (ayes nays : ℕ) (coin : Bool) → 2 * n < 3 * (ayes + nays) → cond v nays ayes ≡ 0 → weighed_vote n c d ayes nays coin ≡ v
unanimous_vote n c d true ayes nays coin many none =
    let most : leb nays ayes ≡ true = le-leb nays ayes (omega arith) in
    let strong : ltb (2 * n) (3 * max ayes nays) ≡ true = lt-ltb (2 * n) (3 * max ayes nays) (omega arith) in
    rw (most, strong) (either_way (ltb 0 (d % c)) true)
unanimous_vote n c d false ayes nays coin many none =
    let most : leb nays ayes ≡ false = lt-leb nays ayes (omega arith) in
    let strong : ltb (2 * n) (3 * max ayes nays) ≡ true = lt-ltb (2 * n) (3 * max ayes nays) (omega arith) in
    rw (most, strong) (either_way (ltb 0 (d % c)) false)

-- a strong majority is of those who say what it says
strong_is : (n : ℕ) (v : Bool) (ayes nays : ℕ) → majority ayes nays ≡ v → is_strong n ayes nays ≡ true → 2 * n < 3 * cond v ayes nays
strong_is n true ayes nays most strong =
    let le = leb-true nays ayes most in
    let many : 2 * n < 3 * max ayes nays = ltb-true (2 * n) (3 * max ayes nays) strong in
    omega arith
strong_is n false ayes nays most strong =
    let lt = leb-false nays ayes most in
    let many : 2 * n < 3 * max ayes nays = ltb-true (2 * n) (3 * max ayes nays) strong in
    omega arith

-- the weights of those who say v, and of those who deny it

weight_says : (n : Stakes) (L : List Link) (vote : ℕ → Bool) (y : ℕ) (v : Bool) →
    weight_of n L y (λ w. is_voter n L y w && says v (vote w)) ≡ cond v (yes_votes n L vote y) (no_votes n L vote y)
weight_says n L vote y true = refl
weight_says n L vote y false = refl

weight_denies : (n : Stakes) (L : List Link) (vote : ℕ → Bool) (y : ℕ) (v : Bool) →
    weight_of n L y (λ w. is_voter n L y w && denies v (vote w)) ≡ cond v (no_votes n L vote y) (yes_votes n L vote y)
weight_denies n L vote y true = refl
weight_denies n L vote y false = refl

-- the votes of more than two thirds of the stake are heard
pub voters_many : (n : Stakes) (L : List Link) (e : IsEarlier (parents L)) (vote : ℕ → Bool) (y r : ℕ) → 0 < r → round_of n L y ≡ r + 1 →
    2 * total n < 3 * (yes_votes n L vote y + no_votes n L vote y)
voters_many n L e vote y r pos is =
    let before : round_of n L y - 1 ≡ r = omega arith in
    let split = weight_below_split (stake_at n L) y (is_voter n L y) vote in
    let seen : ℕ → ℕ = λ k. weight_of n L y (is_seen_witness (round_of n L) n L k y) in
    let many : 2 * total n < 3 * seen r = ltb-true (2 * total n) (3 * seen r) (round_quorum n L e y r pos is) in
    let heard : 2 * total n < 3 * weight_of n L y (is_voter n L y) = subst (λ k. 2 * total n < 3 * seen k) (sym before) many in
    omega (arith, split, heard)

module _ (n : Stakes) (L : List Link) (c : ℕ) (coin : ℕ → Bool) (x : ℕ) where
  -- the vote of a row one round above x
  pub vote_of_next : (y : ℕ) → round_of n L y ≡ round_of n L x + 1 → vote_of n c L coin x y ≡ sees L y x
  vote_of_next y is =
      let ayes = yes_votes n L (vote_of n c L coin x) y in
      let nays = no_votes n L (vote_of n c L coin x) y in
      let d = rounds_above n L x y in
      let one : eqb d 1 ≡ true = eq-eqb d 1 (omega arith) in
      vote_of-at n c L coin x y ∙ ap (λ b. cond b (sees L y x) (weighed_vote (total n) c d ayes nays (coin y))) one

  -- the vote of a row further above x
  pub vote_of_weighed : (y : ℕ) → round_of n L x + 2 ≤ round_of n L y →
      vote_of n c L coin x y ≡ weighed_vote (total n) c (rounds_above n L x y) (yes_votes n L (vote_of n c L coin x) y) (no_votes n L (vote_of n c L coin x) y) (coin y)
  vote_of_weighed y far =
      let ayes = yes_votes n L (vote_of n c L coin x) y in
      let nays = no_votes n L (vote_of n c L coin x) y in
      let d = rounds_above n L x y in
      let more : eqb d 1 ≡ false = ne_eqb d 1 (λ is. absurd (omega arith)) in
      vote_of-at n c L coin x y ∙ ap (λ b. cond b (sees L y x) (weighed_vote (total n) c d ayes nays (coin y))) more

  -- and in a normal round
  pub vote_of_normal : (y : ℕ) → round_of n L x + 2 ≤ round_of n L y → is_normal c (rounds_above n L x y) ≡ true →
      vote_of n c L coin x y ≡ majority (yes_votes n L (vote_of n c L coin x) y) (no_votes n L (vote_of n c L coin x) y)
  vote_of_normal y far normal =
      let ayes = yes_votes n L (vote_of n c L coin x) y in
      let nays = no_votes n L (vote_of n c L coin x) y in
      vote_of_weighed y far ∙ ap (λ b. cond b (majority ayes nays) (cond (is_strong (total n) ayes nays) (majority ayes nays) (coin y))) normal

  -- every witness of round r votes v on x
  pub record AllVote (r : ℕ) (v : Bool) : Type 0 where
    pub votes : (w : ℕ) → w < length L → is_witness n L w ≡ true → round_of n L w ≡ r → vote_of n c L coin x w ≡ v

  -- what a decider knows
  pub record Decider (y : ℕ) : Type 0 where
    pub is_witness : is_witness n L y ≡ true
    pub far : round_of n L x + 2 ≤ round_of n L y
    pub normal : is_normal c (rounds_above n L x y) ≡ true
    pub strong : is_strong (total n) (yes_votes n L (vote_of n c L coin x) y) (no_votes n L (vote_of n c L coin x) y) ≡ true

  pub decider_is : (y : ℕ) → decides n c L coin x y ≡ true → Decider y
  unfolding decides
  decider_is y h =
      let ayes = yes_votes n L (vote_of n c L coin x) y in
      let nays = no_votes n L (vote_of n c L coin x) y in
      let d = rounds_above n L x y in
      let one = and_parts (is_witness n L y) (weighed_decides (total n) c d ayes nays) h in
      let two = and_parts (ltb 1 d && is_normal c d) (is_strong (total n) ayes nays) one.1 in
      let three = and_parts (ltb 1 d) (is_normal c d) two.0 in
      let above : 1 < d = ltb-true 1 d three.0 in
      record { is_witness = one.0; far = omega arith; normal = three.1; strong = two.1 }

  module _ (e : IsEarlier (parents L)) where
    -- where all voters say v, none denies it
    none_denies : (v : Bool) (r y : ℕ) → y < length L → round_of n L y ≡ r + 1 → AllVote r v →
        cond v (no_votes n L (vote_of n c L coin x) y) (yes_votes n L (vote_of n c L coin x) y) ≡ 0
    none_denies v r y hy is all =
        let vote = vote_of n c L coin x in
        sym (weight_denies n L vote y v)
        ∙ weight_below_none (stake_at n L) y (λ w. is_voter n L y w && denies v (vote w)) (λ w hw t.
        let parts = and_parts (is_voter n L y w) (denies v (vote w)) t in
        let seen = seen_witness_is n L (round_of n L y - 1) y w parts.0 in
        let here : round_of n L w ≡ r = omega (arith, seen.in_round, is) in
        both_ways (denies v (vote w)) (denies_not v (vote w) (all.votes w (omega arith) seen.is_witness here)) parts.1)

    unanimity_next : (r : ℕ) (v : Bool) → round_of n L x < r → AllVote r v → AllVote (r + 1) v
    unanimity_next r v above all = record {
      votes = λ y hy wy is.
          let vote = vote_of n c L coin x in
          vote_of_weighed y (omega arith)
          ∙ unanimous_vote (total n) c (rounds_above n L x y) v (yes_votes n L vote y) (no_votes n L vote y) (coin y) (voters_many n L e vote y r (omega arith) is) (none_denies v r y hy is all);
    }

    -- where every witness of a round above x votes v, so does every witness of each later round, in coin rounds too
    pub unanimity_lasts : (k r : ℕ) (v : Bool) → round_of n L x < r → AllVote r v → AllVote (k + r) v
    unanimity_lasts zero r v above all = rw zero-add all
    unanimity_lasts (suc k) r v above all =
        let later = unanimity_next (k + r) v (omega arith) (unanimity_lasts k r v above all) in
        let same : k + r + 1 ≡ suc k + r = omega arith in
        subst (λ t. AllVote t v) same later

module _ (n : Stakes) (L : List Link) (s : IsShaped n L) (few : 3 * forking n L < total n) where
  -- against a quorum of witnesses of round r outside a set the voters in that set weigh less than a third of the stake
  pub outvoted : (r x bound y : ℕ) (quorum other : ℕ → Bool) → x < length L → bound ≤ length L → y < length L →
      ((w : ℕ) → w < bound → quorum w ≡ true → SeenWitness n L r x w) → ((w : ℕ) → w < bound → quorum w ≡ true → other w ≡ false) →
      2 * total n < 3 * weight_of n L bound quorum →
      3 * weight_of n L y (λ w. is_seen_witness (round_of n L) n L r y w && other w) < total n
  outvoted r x bound y quorum other hx hbound hy seen out many =
      let by = creator L in
      let voters : ℕ → Bool = λ w. is_seen_witness (round_of n L) n L r y w && other w in
      let ours : ℕ → Bool = members_with by bound quorum in
      let theirs : ℕ → Bool = members_with by y voters in
      let heard = λ (w : ℕ) (h : w < y) (t : voters w ≡ true). seen_witness_is n L r y w (and_parts (is_seen_witness (round_of n L) n L r y w) (other w) t).0 in
      let le_ours = seen_witnesses-le n L s few r x bound quorum hx hbound seen in
      let le_theirs = seen_witnesses-le n L s few r y y voters hy (omega arith) heard in
      let apart : stake_where n (λ m. ours m && theirs m) ≡ 0 = weight_below_none (stake_of n) (member_count n) (λ m. ours m && theirs m) (λ m hm t.
      let parts = and_parts (ours m) (theirs m) t in
      let a = some_below_found bound (λ w. quorum w && eqb (by w) m) parts.0 in
      let b = some_below_found y (λ w. voters w && eqb (by w) m) parts.1 in
      let in_a = and_parts (quorum a.0) (eqb (by a.0) m) a.2 in
      let in_b = and_parts (voters b.0) (eqb (by b.0) m) b.2 in
      let one : a.0 ≡ b.0 = one_witness_seen n L s few r x y a.0 b.0 hx hy (seen a.0 a.1 in_a.0) (heard b.0 b.1 in_b.0) (eqb-true (by a.0) m in_a.1 ∙ sym (eqb-true (by b.0) m in_b.1)) in
      let inside = (and_parts (is_seen_witness (round_of n L) n L r y b.0) (other b.0) in_b.0).1 in
      both_ways (other a.0) (out a.0 a.1 in_a.0) (subst (λ k. other k ≡ true) (sym one) inside)) in
      let sum = weight_below_both (stake_of n) (member_count n) ours theirs in
      let fits = weight_below-all (stake_of n) (member_count n) (λ m. ours m || theirs m) in
      let all = total-all n in
      omega (arith, le_ours, le_theirs, apart, sum, fits, all, many)

  module _ (c : ℕ) (coin : ℕ → Bool) (x : ℕ) where
    -- where a quorum of witnesses says v, so does the majority of the voters of each row of the next round
    pub swayed : (v : Bool) (r z bound y : ℕ) (quorum : ℕ → Bool) → 0 < r → z < length L → bound ≤ length L → y < length L → round_of n L y ≡ r + 1 →
        ((w : ℕ) → w < bound → quorum w ≡ true → SeenWitness n L r z w) → ((w : ℕ) → w < bound → quorum w ≡ true → vote_of n c L coin x w ≡ v) →
        2 * total n < 3 * weight_of n L bound quorum →
        majority (yes_votes n L (vote_of n c L coin x) y) (no_votes n L (vote_of n c L coin x) y) ≡ v
    swayed v r z bound y quorum pos hz hbound hy is seen votes many =
        let vote = vote_of n c L coin x in
        let before : r ≡ round_of n L y - 1 = omega arith in
        let deniers : ℕ → ℕ = λ k. weight_of n L y (λ w. is_seen_witness (round_of n L) n L k y w && denies v (vote w)) in
        let low : 3 * deniers r < total n = outvoted r z bound y quorum (λ w. denies v (vote w)) hz hbound hy seen (λ w h t. denies_not v (vote w) (votes w h t)) many in
        let deny : 3 * cond v (no_votes n L vote y) (yes_votes n L vote y) < total n =
        subst (λ k. 3 * k < total n) (weight_denies n L vote y v) (subst (λ k. 3 * deniers k < total n) before low) in
        majority_is (total n) v (yes_votes n L vote y) (no_votes n L vote y) (voters_many n L s.earlier vote y r pos is) deny

    -- where y decides, every witness of its round votes as y does
    pub decided_round : (y : ℕ) → y < length L → decides n c L coin x y ≡ true → AllVote n L c coin x (round_of n L y) (vote_of n c L coin x y)
    decided_round y hy h =
        let vote = vote_of n c L coin x in
        let d = decider_is n L c coin x y h in
        let far = d.far in
        let r = round_of n L y - 1 in
        let v = vote y in
        let most = sym (vote_of_normal n L c coin x y far d.normal) in
        let quorum : ℕ → Bool = λ w. is_voter n L y w && says v (vote w) in
        let many : 2 * total n < 3 * weight_of n L y quorum = rw (weight_says n L vote y v) (strong_is (total n) v (yes_votes n L vote y) (no_votes n L vote y) most d.strong) in
        record {
          votes = λ w hw ww is.
              vote_of_normal n L c coin x w (omega arith) (rw is d.normal)
              ∙ swayed v r y y w quorum (omega arith) hy (omega arith) hw (omega arith)
              (λ u hu t. seen_witness_is n L r y u (and_parts (is_voter n L y u) (says v (vote u)) t).0)
              (λ u hu t. says_is v (vote u) (and_parts (is_voter n L y u) (says v (vote u)) t).1)
              many;
        }

    -- and every witness of each later round
    pub decision_lasts : (y z : ℕ) → y < length L → z < length L → decides n c L coin x y ≡ true → is_witness n L z ≡ true → round_of n L y ≤ round_of n L z →
        vote_of n c L coin x z ≡ vote_of n c L coin x y
    decision_lasts y z hy hz h wz le =
        let d = decider_is n L c coin x y h in
        let far = d.far in
        let later = unanimity_lasts n L c coin x s.earlier (round_of n L z - round_of n L y) (round_of n L y) (vote_of n c L coin x y) (omega arith) (decided_round y hy h) in
        later.votes z hz wz (omega arith)

    -- all deciders of a row decide alike
    pub deciders_agree : (a b : ℕ) → a < length L → b < length L → decides n c L coin x a ≡ true → decides n c L coin x b ≡ true →
        vote_of n c L coin x a ≡ vote_of n c L coin x b
    deciders_agree a b ha hb da db = elim (cases_lt (round_of n L a) (round_of n L b)) [
      | inl lower ↦ sym (decision_lasts a b ha hb da (decider_is n L c coin x b db).is_witness (omega arith))
      | inr higher ↦ decision_lasts b a hb ha db (decider_is n L c coin x a da).is_witness higher
    ]
