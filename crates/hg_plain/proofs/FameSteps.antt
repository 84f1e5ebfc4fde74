-- The steps of the loops that look for the first decision and that make the marks
use Rattle.std.proofs.Common.{◌≡◌, ℕ, ◌+◌, ◌<◌, true, false, List, length, Option, Some, None, option_map, leb, sym, refl, ap, ◌∙◌, inl, inr}
use Rattle.std.proofs.lemmas.Bool.{cases_Bool}
use Rattle.hg_model.specs.declared.ballot.Ballot.{Ballot}
use Rattle.hg_model.specs.Places.{lesser_of, least_below}
use Rattle.hg_model.specs.Stakes.{Stakes}
use Rattle.hg_model.specs.Links.{Link}
use Rattle.hg_model.specs.Rounds.{round_of, is_witness}
use Rattle.hg_model.specs.Votes.{vote_of, decides}
use Rattle.hg_model.specs.Fame.{fame_of}
use Rattle.hg_model.specs.Order.{coin_at}
use Rattle.hg_model.specs.Prefix.{Graph, ballot_of, links_of}
use Rattle.hg_model.proofs.PlacesLaws.{least_below_zero, least_below_passes, least_below_fails}
use Rattle.hg_model.proofs.SearchLaws.{least_below-same, option_map-least_below}
use Rattle.hg_model.proofs.FameLaws.{fame_of_witness}
use Rattle.hg_votes.specs.Tallies.{no_ballot, vote_at}
use Rattle.hg_plain_graph.specs.Tables.{IsTableOf}
use Rattle.hg_plain.specs.declared.fame.Decision.{Decision}
use Rattle.hg_plain.specs.Elections.{decides_at, decision_at, earlier_of, decided_vote}

first_of-decision_at : (n : Stakes) (L : List Link) (ballots : List Ballot) (earlier : Option ℕ) (y : ℕ) →
    earlier_of (option_map (decision_at n L ballots) earlier) (decision_at n L ballots y) ≡ decision_at n L ballots (lesser_of (round_of n L) earlier y)
first_of-decision_at n L ballots None y = refl
first_of-decision_at n L ballots (Some z) y = elim (cases_Bool (leb (round_of n L z) (round_of n L y))) [
  | inl le ↦ rw le refl
  | inr later ↦ rw later refl
]

-- the first decision below y
pub first_decision_zero : (n : Stakes) (L : List Link) (ballots : List Ballot) → option_map (decision_at n L ballots) (least_below (round_of n L) 0 (decides_at ballots)) ≡ None
first_decision_zero n L ballots = ap (option_map (decision_at n L ballots)) (least_below_zero (round_of n L) (decides_at ballots))

pub first_decision_fails : (n : Stakes) (L : List Link) (ballots : List Ballot) (y : ℕ) → decides_at ballots y ≡ false →
    option_map (decision_at n L ballots) (least_below (round_of n L) (y + 1) (decides_at ballots)) ≡ option_map (decision_at n L ballots) (least_below (round_of n L) y (decides_at ballots))
first_decision_fails n L ballots y fails = ap (option_map (decision_at n L ballots)) (least_below_fails (round_of n L) y (decides_at ballots) fails)

pub first_decision_passes : (n : Stakes) (L : List Link) (ballots : List Ballot) (y : ℕ) → decides_at ballots y ≡ true →
    option_map (decision_at n L ballots) (least_below (round_of n L) (y + 1) (decides_at ballots))
    ≡ Some (earlier_of (option_map (decision_at n L ballots) (least_below (round_of n L) y (decides_at ballots))) (decision_at n L ballots y))
first_decision_passes n L ballots y passes =
    ap (option_map (decision_at n L ballots)) (least_below_passes (round_of n L) y (decides_at ballots) passes)
    ∙ ap (λ d. Some d) (sym (first_of-decision_at n L ballots (least_below (round_of n L) y (decides_at ballots)) y))

twice_mapped : {A B C : Type 0} (g : B → C) (f : A → B) (o : Option A) → option_map g (option_map f o) ≡ option_map (λ x. g (f x)) o
twice_mapped g f None = refl
twice_mapped g f (Some x) = refl

-- the vote of the first decision is the fame
pub fame_from_ballots : (g : Graph) (x : ℕ) (ballots : List Ballot) → x < length (links_of g) → is_witness g.members (links_of g) x ≡ true →
    IsTableOf no_ballot (ballot_of g x) (length (links_of g)) ballots →
    decided_vote (option_map (decision_at g.members (links_of g) ballots) (least_below (round_of g.members (links_of g)) (length (links_of g)) (decides_at ballots)))
    ≡ fame_of g.members g.coin (links_of g) (coin_at g.rows) x
fame_from_ballots g x ballots h witness matches =
    let n = g.members in
    let c = g.coin in
    let L = links_of g in
    let coin = coin_at g.rows in
    let key = round_of n L in
    twice_mapped (λ (d : Decision). d.vote) (decision_at n L ballots) (least_below key (length L) (decides_at ballots))
    ∙ (ap (option_map (vote_at ballots)) (least_below-same key (length L) (decides_at ballots) (decides n c L coin x) (λ y k. ap (λ (b : Ballot). b.decides) (matches.at y k)))
    ∙ (option_map-least_below (vote_at ballots) (vote_of n c L coin x) key (length L) (decides n c L coin x) (λ y k e. ap (λ (b : Ballot). b.vote) (matches.at y k))
    ∙ sym (fame_of_witness n c L coin x h witness)))

pub ruleset decision_steps = (first_decision_zero, first_decision_fails, first_decision_passes)
