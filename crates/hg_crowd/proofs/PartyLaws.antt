-- A call of one node of a party, through the seat at its place
use Rattle.std.proofs.Common.{◌≡◌, ℕ, ◌+◌, ◌<◌, List, length, map, get_or, set, refl, sym, ap, ◌∙◌, subst, arith, length-set}
use Rattle.std.proofs.lemmas.List.{get_or_default}
use Rattle.std.specs.Prelude.{All}
use Rattle.hg_model.specs.Shares.{Share}
use Rattle.hg_life.specs.Signing.{Accepts}
use Rattle.hg_board.specs.Seats.{SharedNode, SeatView}
use Rattle.hg_board.specs.Calls.{Stays, after_split, split_off}
use Rattle.hg_crowd.specs.Crowd.{AreSeats, Each, IsSeat}
use Rattle.hg_crowd.specs.Workers.{AllAbsorb, AllMark, AllMarkUpTo, HasMore, Worked}
use Rattle.hg_crowd.specs.Party.{MovesOne, PartyView, party_view}
use Rattle.hg_crowd.proofs.CrowdLaws.{mark_beside_all, worked_beside_all}
use Rattle.hg_crowd.proofs.ListLaws.{pair_at, set_at}
use Rattle.hg_crowd.proofs.WorkLaws.{seat_of_call}

module _ {V : Type 0} (accepts : V → Accepts) {places : List (SharedNode V)} {seats : List (SeatView V)} {old : PartyView V} {k : ℕ} {p : SharedNode V} {m : SeatView V}
    (is : party_view places seats ≡ old) (are : AreSeats accepts places seats) (low : k < length old.seats) (p_is : p ≡ get_or places k p) (m_is : m ≡ get_or seats k m) where
  within : k < length places
  within = omega (arith, low, ap (λ (v : PartyView V). length v.seats) is, are.count)

  pub seat_at : IsSeat accepts p m
  seat_at = pair_at (IsSeat accepts) places seats k p m are within p_is m_is

  pub seats_after : (n : SeatView V) → Stays accepts p m n → AreSeats accepts places (set seats k n)
  seats_after n stays =
      let here : (q : SharedNode V) → IsSeat accepts (get_or places k q) n = λ q. subst (λ (x : SharedNode V). IsSeat accepts x n) (p_is ∙ get_or_default places k p q within) (seat_of_call accepts p m n stays) in
      record {
        count = length-set seats k n ∙ are.count;
        each = λ j a b inside. set_at (λ i s. (q : SharedNode V) → IsSeat accepts (get_or places i q) s) seats k n here (λ i d below other q. are.each i q d (omega (arith, below, are.count))) j b (omega (arith, inside, are.count)) a;
      }

  pub moves : {IsTold : SharedNode V → SeatView V → SeatView V → Type 0} (n : SeatView V) → IsTold p m n → MovesOne accepts IsTold k old (party_view places (set seats k n))
  moves {IsTold} n told = subst (λ (v : PartyView V). MovesOne accepts IsTold k v (party_view places (set seats k n))) is
      (record { within = within; place = p; before = m; after = n; is_place = p_is; is_before = m_is; seat = seat_at; moved = refl; told = told })

-- the seats of another party of the same nodes are seats of these
pub seats_beside : {V : Type 0} (accepts : V → Accepts) {places others : List (SharedNode V)} {seats : List (SeatView V)} {there here : PartyView V} {mine : List (SeatView V)} →
    party_view others seats ≡ there → party_view places mine ≡ here → there.places ≡ here.places → AreSeats accepts others seats → AreSeats accepts places seats
seats_beside {V} accepts {places} {others} {seats} {there} {here} {mine} is_there is_here same are =
    let place : there.places ≡ others = sym (ap (λ (v : PartyView V). v.places) is_there) in
    subst (λ (l : List (SharedNode V)). AreSeats accepts l seats) (sym place ∙ (same ∙ sym (ap (λ (v : PartyView V). v.places) is_here))) are

-- workers beside each other: one had these seats after a split, and one those that were split off
module _ {V : Type 0} (accepts : V → Accepts) (old split other first second back : PartyView V) (split_is : split ≡ party_view old.places (map after_split old.seats)) (other_is : other ≡ party_view old.places (map split_off old.seats))
    (first_same : first.places ≡ split.places) (first_worked : Each Worked split.seats first.seats) (second_worked : Each Worked other.seats second.seats) (absorbed : AllAbsorb accepts first.places first.seats second.seats back.seats) where
  first_places : first.places ≡ old.places
  first_places = first_same ∙ ap (λ (v : PartyView V). v.places) split_is

  one : Each Worked (map after_split old.seats) first.seats
  one = subst (λ (v : PartyView V). Each Worked v.seats first.seats) split_is first_worked

  two : Each Worked (map split_off old.seats) second.seats
  two = subst (λ (v : PartyView V). Each Worked v.seats second.seats) other_is second_worked

  both : AllAbsorb accepts old.places first.seats second.seats back.seats
  both = subst (λ (l : List (SharedNode V)). AllAbsorb accepts l first.seats second.seats back.seats) first_places absorbed

  pub both_worked : AreSeats accepts old.places old.seats → All (HasMore 1) old.seats → Each Worked old.seats back.seats
  both_worked seats parts = worked_beside_all accepts old.places old.seats first.seats second.seats back.seats seats parts one two both

  pub both_marked : (before last shares : ℕ) (share : Share) → last ≡ before + 1 → share ≡ record { k = last; «of» = shares } → AllMarkUpTo split.places before shares split.seats first.seats → AllMark other.places share other.seats second.seats →
      AllMarkUpTo old.places last shares old.seats back.seats
  both_marked before last shares share is share_is marked_first marked_second =
      mark_beside_all accepts old.places old.seats first.seats second.seats back.seats before last shares is one both
      (subst (λ (v : PartyView V). AllMarkUpTo v.places before shares v.seats first.seats) split_is marked_first)
      (subst (λ (s : Share). AllMark old.places s (map split_off old.seats) second.seats) share_is (subst (λ (v : PartyView V). AllMark v.places share v.seats second.seats) other_is marked_second))
