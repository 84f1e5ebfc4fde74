-- The first decider, found round by round
use Rattle.std.proofs.Common.{◌≡◌, ℕ, ◌+◌, ◌<◌, ◌≤◌, Bool, true, false, ◌&&◌, eqb, ltb, List, length, get_or, find, take, Option, Some, None, option_map, IsTrue, is_some, lt-ltb, refl, sym, ap, ap₂, ◌∙◌, inl, inr, arith, le-ltb}
use Rattle.std.proofs.lemmas.Bool.{cases_Bool, cases_lt, eq-eqb, and_left, and_right, false_from_ne_true, both_ways, true≢false}
use Rattle.std.proofs.lemmas.List.{length-take-le, take_all}
use Rattle.hg_model.specs.declared.ballot.Ballot.{Ballot}
use Rattle.hg_model.specs.Places.{IsEarlier, least_below}
use Rattle.hg_model.specs.Stakes.{Stakes}
use Rattle.hg_model.specs.Links.{Link, parents}
use Rattle.hg_model.specs.Graph.{IsShaped}
use Rattle.hg_model.specs.Rounds.{round_of, is_witness, last_round}
use Rattle.hg_model.specs.Votes.{rounds_above, vote_of, decides}
use Rattle.hg_model.specs.Fame.{fame_of, is_decider}
use Rattle.hg_model.specs.Order.{coin_at}
use Rattle.hg_model.specs.Standings.{Standing, standings_of, witnesses_in, greatest_in}
use Rattle.hg_model.specs.Prefix.{Graph, IsCounted, ballot_of, links_of}
use Rattle.hg_model.specs.GraphWords.{decides_in, fame_in, vote_in}
use Rattle.hg_model.proofs.FameLaws.{fame_of_witness}
use Rattle.hg_model.proofs.LinkLaws.{length-links}
use Rattle.hg_model.proofs.LongerLaws.{IsLonger, coin_at-take, decides-longer, is_witness-longer, longer-take, round_of-longer, vote_of-longer}
use Rattle.hg_model.proofs.PlacesLaws.{maximum_below_bounds}
use Rattle.hg_model.proofs.PrefixLaws.{IsWitnessOf, witness_read}
use Rattle.hg_model.proofs.SearchLaws.{least_below_none, least_below_some, least_below-same, option_map-least_below}
use Rattle.hg_model.proofs.ShapeLaws.{shaped-take}
use Rattle.hg_model.proofs.StandingLaws.{witnesses_in-standings, greatest_in-standings}
use Rattle.hg_fame.specs.Decisions.{IsUndecided, decider_in, decider_within, decides_within, decision_by, fame_within, first_decider}
use Rattle.hg_fame.proofs.FirstLaws.{find_here, find_none_more, find-list_below, in_key, first_by_key, least_below-keys, least_below-longer, some_not_none}

last_round-bounds : (n : Stakes) (L : List Link) (y : ℕ) → y < length L → round_of n L y ≤ last_round n L
unfolding last_round
last_round-bounds n L y h = maximum_below_bounds (round_of n L) (length L) y h

-- who is no witness, or of no later round, decides nothing
decides_other : (n : Stakes) (c : ℕ) (L : List Link) (coin : ℕ → Bool) (x y : ℕ) → is_witness n L y ≡ false → decides n c L coin x y ≡ false
unfolding decides
decides_other n c L coin x y other = and_left (is_witness n L y) _ other

decides_below : (n : Stakes) (c : ℕ) (L : List Link) (coin : ℕ → Bool) (x y : ℕ) → round_of n L y ≤ round_of n L x → decides n c L coin x y ≡ false
unfolding decides
decides_below n c L coin x y low =
    let none : ltb 1 (rounds_above n L x y) ≡ false = le-ltb 1 (rounds_above n L x y) (omega arith) in
    and_right (is_witness n L y) _ (rw none refl)

pub undecided_at_first : (g : Graph) (len x : ℕ) → IsUndecided g len x (round_of g.members (links_of g) x)
undecided_at_first g len x = record { none = λ y h low. and_right (ltb y len) (decides_in g x y) (decides_below g.members g.coin (links_of g) (coin_at g.rows) x y low) }

-- of the witnesses of a round the first by place
decider_is : (g : Graph) (len x r : ℕ) → decider_in g len x r ≡ least_below (λ _. 0) (length (links_of g)) (in_key (round_of g.members (links_of g)) (decides_within g len x) r)
decider_is g len x r =
    let n = g.members in
    let L = links_of g in
    ap (find (decides_within g len x)) (witnesses_in-standings n L r)
    ∙ (find-list_below (decides_within g len x) (length L) (λ y. is_witness n L y && eqb (round_of n L y) r)
    ∙ least_below-same (λ _. 0) (length L) (λ y. (is_witness n L y && eqb (round_of n L y) r) && decides_within g len x y) (in_key (round_of n L) (decides_within g len x) r) (λ y h. elim (cases_Bool (is_witness n L y)) [
      | inl witness ↦ rw witness (swapped (eqb (round_of n L y) r) (decides_within g len x y))
      | inr other ↦ rw (other, and_right (ltb y len) (decides_in g x y) (decides_other n g.coin L (coin_at g.rows) x y other)) refl
    ]))
  where
    swapped : (a b : Bool) → (a && b) ≡ (b && a)
    swapped true true = refl
    swapped true false = refl
    swapped false true = refl
    swapped false false = refl

-- where the round has no decider
pub undecided_on : (g : Graph) (len x round : ℕ) → decider_in g len x (round + 1) ≡ None → IsUndecided g len x round → IsUndecided g len x (round + 1)
undecided_on g len x round none before =
    let key = round_of g.members (links_of g) in
    record {
      none = λ y h low. elim (cases_lt round (key y)) [
        | inr earlier ↦ before.none y h earlier
        | inl late ↦ false_from_ne_true (decides_within g len x y) (λ decides.
            let passes : in_key key (decides_within g len x) (round + 1) y ≡ true = rw decides (eq-eqb (key y) (round + 1) (omega arith)) in
            let some = least_below_some (λ _. 0) (length (links_of g)) (in_key key (decides_within g len x) (round + 1)) y (omega (arith, length-links g.rows)) passes in
            absurd (some_not_none some.1 (sym (decider_is g len x (round + 1)) ∙ none)))
      ];
    }

-- where x is a witness, the decider is the first of the first `len` rows who decides
module _ (g : Graph) (shaped : IsShaped g.members (links_of g)) (len x : ℕ) (within : len ≤ length g.rows) (place : x < len) (witness : IsTrue (is_witness g.members (links_of g) x)) where
  size : length (take len (links_of g)) ≡ len
  size = length-take-le len (links_of g) (omega (arith, length-links g.rows))

  longer : IsLonger (take len (links_of g)) (links_of g)
  longer = longer-take (links_of g) len (omega (arith, length-links g.rows))

  earlier : IsEarlier (parents (take len (links_of g)))
  earlier = (shaped-take g.members (links_of g) len (omega (arith, length-links g.rows)) shaped).earlier

  same_coin : (y : ℕ) → y < length (take len (links_of g)) → coin_at g.rows y ≡ coin_at (take len g.rows) y
  same_coin y h = coin_at-take g.rows len y (omega (arith, size, length-take-le len g.rows within))

  witness_there : is_witness g.members (take len (links_of g)) x ≡ true
  witness_there = sym (is_witness-longer (take len (links_of g)) (links_of g) longer g.members earlier x (omega (arith, size))) ∙ witness

  -- who decides in the first rows does in all
  decides_same : (y : ℕ) → y < len → decides g.members g.coin (take len (links_of g)) (coin_at (take len g.rows)) x y ≡ decides_within g len x y
  decides_same y h =
      sym (decides-longer (take len (links_of g)) (links_of g) longer g.members earlier g.coin (coin_at (take len g.rows)) (coin_at g.rows) same_coin x (omega (arith, size)) y (omega (arith, size)))
      ∙ ap (λ b. b && decides_in g x y) (sym (lt-ltb y len h))

  least_same : least_below (round_of g.members (take len (links_of g))) (length (take len (links_of g))) (decides g.members g.coin (take len (links_of g)) (coin_at (take len g.rows)) x)
      ≡ least_below (round_of g.members (links_of g)) (length (links_of g)) (decides_within g len x)
  least_same =
      let n = g.members in
      let L = links_of g in
      let test = decides n g.coin (take len L) (coin_at (take len g.rows)) x in
      ap (λ (k : ℕ). least_below (round_of n (take len L)) k test) size
      ∙ (least_below-keys (round_of n (take len L)) (round_of n L) len test (λ k h. sym (round_of-longer (take len L) L longer n k (omega (arith, size))))
      ∙ (least_below-same (round_of n L) len test (decides_within g len x) decides_same
      ∙ sym (least_below-longer (round_of n L) len (length L) (decides_within g len x) (omega (arith, length-links g.rows))
      (λ k past h. and_left (ltb k len) (decides_in g x k) (le-ltb k len past)))))

  decider_of_first : decider_within g len x ≡ least_below (round_of g.members (links_of g)) (length (links_of g)) (decides_within g len x)
  decider_of_first =
      let n = g.members in
      let L : List Link = take len (links_of g) in
      least_below-same (round_of n L) (length L) (is_decider n g.coin L (coin_at (take len g.rows)) x) (decides n g.coin L (coin_at (take len g.rows)) x)
      (λ y h. rw (lt-ltb x (length L) (omega (arith, size)), witness_there) refl)
      ∙ least_same

  fame_of_first : fame_within g len x ≡ option_map (vote_in g x) (least_below (round_of g.members (links_of g)) (length (links_of g)) (decides_within g len x))
  fame_of_first =
      let n = g.members in
      let L : List Link = take len (links_of g) in
      let coin : ℕ → Bool = coin_at (take len g.rows) in
      fame_of_witness n g.coin L coin x (omega (arith, size)) witness_there
      ∙ (option_map-least_below (vote_of n g.coin L coin x) (vote_in g x) (round_of n L) (length L) (decides n g.coin L coin x)
      (λ y h passes. sym (vote_of-longer L (links_of g) longer n earlier g.coin coin (coin_at g.rows) same_coin x (omega (arith, size)) y h))
      ∙ ap (option_map (vote_in g x)) least_same)

  -- the first decider of the first round that has one
  first_of_round : (round y : ℕ) → IsUndecided g len x round → decider_in g len x (round + 1) ≡ Some y → least_below (round_of g.members (links_of g)) (length (links_of g)) (decides_within g len x) ≡ Some y
  first_of_round round y before is =
      first_by_key (round_of g.members (links_of g)) (decides_within g len x) (round + 1) (length (links_of g)) y
      (λ k h decides. elim (cases_lt round (round_of g.members (links_of g) k)) [
        | inl late ↦ omega arith
        | inr low ↦ absurd (both_ways (decides_within g len x k) (before.none k (omega (arith, length-links g.rows)) low) decides)
      ]) (sym (decider_is g len x (round + 1)) ∙ is)

  -- no decider in any round
  none_of_all : (round : ℕ) → last_round g.members (links_of g) ≤ round → IsUndecided g len x round → least_below (round_of g.members (links_of g)) (length (links_of g)) (decides_within g len x) ≡ None
  none_of_all round all before =
      least_below_none (round_of g.members (links_of g)) (length (links_of g)) (decides_within g len x)
      (λ y h. before.none y (omega (arith, length-links g.rows)) (omega (arith, all, last_round-bounds g.members (links_of g) y h)))

  -- what an election answers
  pub record Decided (answer : Option (Bool × ℕ)) : Type 0 where
    pub fame : option_map (λ decision. decision.0) answer ≡ fame_within g len x
    pub decider : option_map (λ decision. decision.1) answer ≡ decider_within g len x

  pub decided_by : (round : ℕ) (found : Option ℕ) (answer : Option (Bool × ℕ)) → IsUndecided g len x round → decider_in g len x (round + 1) ≡ found → answer ≡ option_map (decision_by g x) found → is_some answer ≡ true → Decided answer
  decided_by round None answer before found is some = absurd (true≢false (sym some ∙ ap is_some is))
  decided_by round (Some y) answer before found is some =
      let first = first_of_round round y before found in
      record {
        fame = ap (option_map (λ decision. decision.0)) is ∙ sym (fame_of_first ∙ ap (option_map (vote_in g x)) first);
        decider = ap (option_map (λ decision. decision.1)) is ∙ sym (decider_of_first ∙ first);
      }

  pub decided_not : (round : ℕ) → last_round g.members (links_of g) ≤ round → IsUndecided g len x round → Decided None
  decided_not round all before =
      let none = none_of_all round all before in
      record {
        fame = sym (fame_of_first ∙ ap (option_map (vote_in g x)) none);
        decider = sym (decider_of_first ∙ none);
      }

module _ (g : Graph) (len x r : ℕ) (S : List Standing) (ws : List ℕ) (matches : S ≡ standings_of g.members (links_of g)) (is : ws ≡ witnesses_in S r) where
  decider_listed : find (decides_within g len x) ws ≡ decider_in g len x r
  decider_listed = ap (find (decides_within g len x)) (is ∙ ap (λ standings. witnesses_in standings r) matches)

  -- the ballot of a round's witness decides, where those before it do not
  pub decides_here : (i : ℕ) (ballot : Ballot) → i < length ws → find (decides_within g len x) (take i ws) ≡ None → ballot ≡ ballot_of g x (get_or ws i 0) → get_or ws i 0 < len → ballot.decides ≡ true →
      Some (ballot.vote, get_or ws i 0) ≡ option_map (decision_by g x) (decider_in g len x r)
  decides_here i ballot h none ballot_is inside decides =
      let y = get_or ws i 0 in
      let here : decides_within g len x y ≡ true = ap₂ (λ (a b : Bool). a && b) (lt-ltb y len inside) (sym (ap (λ (b : Ballot). b.decides) ballot_is) ∙ decides) in
      ap (λ vote. Some (vote, y)) (ap (λ (b : Ballot). b.vote) ballot_is)
      ∙ ap (option_map (decision_by g x)) (sym (find_here (decides_within g len x) ws i 0 h none here) ∙ decider_listed)

  -- or it does not
  pub passes_on : (i : ℕ) (ballot : Ballot) → i < length ws → find (decides_within g len x) (take i ws) ≡ None → ballot ≡ ballot_of g x (get_or ws i 0) → ballot.decides ≡ false →
      find (decides_within g len x) (take (i + 1) ws) ≡ None
  passes_on i ballot h none ballot_is fails =
      find_none_more (decides_within g len x) ws i 0 h none (and_right (ltb (get_or ws i 0) len) (decides_in g x (get_or ws i 0)) (sym (ap (λ (b : Ballot). b.decides) ballot_is) ∙ fails))

  -- or it is a later row
  pub passes_late : (i : ℕ) → i < length ws → find (decides_within g len x) (take i ws) ≡ None → len ≤ get_or ws i 0 → find (decides_within g len x) (take (i + 1) ws) ≡ None
  passes_late i h none late =
      find_none_more (decides_within g len x) ws i 0 h none (and_left (ltb (get_or ws i 0) len) (decides_in g x (get_or ws i 0)) (le-ltb (get_or ws i 0) len late))

  -- or none does
  pub none_decides : (i : ℕ) → find (decides_within g len x) (take i ws) ≡ None → length ws ≤ i → None ≡ option_map (decision_by g x) (decider_in g len x r)
  none_decides i none all = ap (option_map (decision_by g x)) (sym none ∙ (ap (find (decides_within g len x)) (take_all i ws all) ∙ decider_listed))

-- the votes of the last counted round's witnesses are counted
pub witness_counted : (g : Graph) (x r : ℕ) (S : List Standing) (ws : List ℕ) → S ≡ standings_of g.members (links_of g) → ws ≡ witnesses_in S r →
    (counted : ℕ) → counted ≡ r → round_of g.members (links_of g) x < r → (i : ℕ) → i < length ws → IsCounted g x counted (get_or ws i 0)
witness_counted g x r S ws matches is counted counted_is later i h =
    let w : IsWitnessOf g r (get_or ws i 0) = witness_read g r S ws i matches is h in
    record { place = w.place; witness = w.witness; above = omega (arith, later, w.round); counted = omega (arith, counted_is, w.round) }

-- an election goes on where the answer of a round is none
pub undecided_after : (g : Graph) (len x round : ℕ) (found : Option ℕ) (answer : Option (Bool × ℕ)) → decider_in g len x (round + 1) ≡ found → answer ≡ option_map (decision_by g x) found → is_some answer ≡ false →
    IsUndecided g len x round → IsUndecided g len x (round + 1)
undecided_after g len x round None answer found is none before = undecided_on g len x round found before
undecided_after g len x round (Some y) answer found is none before = absurd (true≢false (sym (ap is_some is) ∙ none))

-- the greatest round that a prefix tells
pub greatest_read : (g : Graph) (S : List Standing) (greatest round : ℕ) → S ≡ standings_of g.members (links_of g) → greatest ≡ greatest_in S → greatest ≤ round → last_round g.members (links_of g) ≤ round
greatest_read g S greatest round matches is le = omega (arith, le, is ∙ (ap greatest_in matches ∙ greatest_in-standings g.members (links_of g)))

-- the first rows may be all
module _ (g : Graph) (len x : ℕ) (all : len ≡ length g.rows) where
  all_rows : take len g.rows ≡ g.rows
  all_rows = take_all len g.rows (omega arith)

  all_links : take len (links_of g) ≡ links_of g
  all_links = take_all len (links_of g) (omega (arith, length-links g.rows))

  pub whole_fame : fame_within g len x ≡ fame_in g x
  whole_fame = ap₂ (λ L G. fame_of g.members g.coin L (coin_at G) x) all_links all_rows

  pub whole_decider : decider_within g len x ≡ first_decider g x
  whole_decider = ap₂ (λ L G. least_below (round_of g.members L) (length L) (is_decider g.members g.coin L (coin_at G) x)) all_links all_rows
