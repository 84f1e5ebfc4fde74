-- A table without a candidate
use Rattle.std.proofs.Common.{◌≡◌, ℕ, ◌+◌, ◌-◌, ◌<◌, ◌≤◌, ◌^◌, ◌&&◌, eqb, List, [], length, sym, ap, ap₂, ◌∙◌, inl, inr, arith}
use Rattle.std.proofs.lemmas.Bool.{and_right, cases_lt, ne_eqb}
use Rattle.hg_model.specs.declared.ballot.Ballot.{Ballot}
use Rattle.hg_model.specs.Rounds.{is_witness, round_of}
use Rattle.hg_model.specs.Standings.{Standing, witnesses_in}
use Rattle.hg_model.specs.Prefix.{Graph, graph_of, links_of}
use Rattle.hg_model.specs.Stakes.{Stakes}
use Rattle.hg_model.proofs.LinkLaws.{length-links}
use Rattle.hg_model.proofs.PushLaws.{shaped-none}
use Rattle.hg_votes.proofs.VoterLaws.{entered_none}
use Rattle.hg_model.specs.GraphWords.{round_in, shape_in, standings_in, IsShapedIn}
use Rattle.hg_model.proofs.PlacesLaws.{list_below_none}
use Rattle.hg_model.proofs.StandingLaws.{witnesses_in-standings}
use Rattle.hg_votes.specs.Counting.{Entered, HasMost, HasRoom, HoldsVoters, IsMadeFor, witnesses_of}

-- a round without rows has no witnesses
none_listed : (g : Graph) (r : ℕ) → ((x : ℕ) → x < length (links_of g) → round_of g.members (links_of g) x ≡ r → ⊥) → length (witnesses_of g r) ≡ 0
none_listed g r none =
    let n = g.members in
    let L = links_of g in
    ap (λ (ws : List ℕ). length ws) (witnesses_in-standings n L r
    ∙ list_below_none (λ x. x) (length L) (λ x. is_witness n L x && eqb (round_of n L x) r) (λ x h. and_right (is_witness n L x) (eqb (round_of n L x) r) (ne_eqb (round_of n L x) r (none x h))))

pub most_more : (g : Graph) (S : List Standing) (from y r most : ℕ) (ws : List ℕ) → S ≡ standings_in (shape_in g) → r ≡ round_in g y → ws ≡ witnesses_in S r → HasMost g from y most → (higher : ℕ) → most ≤ higher → length ws ≤ higher →
    HasMost g from (y + 1) higher
most_more g S from y r most ws matches round is held higher more here z late h = elim (cases_lt z y) [
  | inl before ↦ omega (arith, held z late before)
  | inr past ↦ (let at : z ≡ y = omega arith in
      omega (arith, here, ap (λ (xs : List ℕ). length xs) (is ∙ ap₂ witnesses_in matches round), ap (λ k. length (witnesses_of g (round_in g k))) at))
]

pub made_new : (g : Graph) (entered : Entered) (ballots : List Ballot) (voted : List ℕ) → IsShapedIn (shape_in g) → length g.rows < 2 ^ 32 - 1 → HoldsVoters g (length g.rows) entered →
    length ballots ≡ length entered.sets → HasRoom g (length voted) → IsMadeFor (record { voters = entered; ballots = ballots; voted = voted; candidate = 0; counted = 0 }) g
made_new g entered ballots voted shaped short held long room = record {
  shaped = shaped;
  short = short;
  voters = held;
  room = room;
  ballots = record {
    len = long ∙ held.many;
    at = λ y known. absurd (omega (arith, known.above, known.counted));
  };
  voted = record { slots = λ above. absurd (omega arith) };
  opened = λ some. absurd (omega arith);
}

-- the table of no rows
pub made_empty : (n : Stakes) (c : ℕ) (entered : Entered) (ballots : List Ballot) (voted : List ℕ) → entered.numbers ≡ [] → entered.sets ≡ [] → ballots ≡ [] → voted ≡ [] →
    IsMadeFor (record { voters = entered; ballots = ballots; voted = voted; candidate = 0; counted = 0 }) (graph_of n c [])
made_empty n c entered ballots voted numbers sets no_ballots no_votes =
    let empty : Graph = graph_of n c [] in
    made_new empty entered ballots voted (shaped-none n) (omega arith) (entered_none empty entered numbers sets)
    (ap (λ (xs : List Ballot). length xs) no_ballots ∙ sym (ap (λ (xs : List (List ℕ)). length xs) sets))
    (record { room = λ r. omega (arith, none_listed empty r (λ x h is. absurd (omega (arith, length-links empty.rows)))) })
