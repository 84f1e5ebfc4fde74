-- Rounds close one after the other: where those up to a round are closed, the next one is where its witnesses have marks
use Rattle.std.proofs.Common.{◌≡◌, inl, inr, ℕ, ◌+◌, ◌<◌, ◌≤◌, Bool, true, false, ◌&&◌, not, leb, eqb, List, length, Option, Some, None, is_some, is_none, sym, refl, ap, ap₂, ◌∙◌, arith}
use Rattle.std.specs.List.{list_all}
use Rattle.std.proofs.lemmas.Bool.{cases_Bool, cases_lt, cases_eq, eq-eqb, ne_eqb, le-leb, lt-leb, both_ways}
use Rattle.hg_model.specs.Places.{list_below, IsEarlier}
use Rattle.hg_model.specs.Links.{parents}
use Rattle.hg_model.specs.Rounds.{round_of, is_witness}
use Rattle.hg_model.specs.Standings.{standings_of, witnesses_in}
use Rattle.hg_model.specs.Fame.{Marks, mark_at, is_closed, is_witness_of_round, is_unmarked}
use Rattle.hg_model.specs.Order.{last_closed}
use Rattle.hg_model.specs.Prefix.{Graph, links_of}
use Rattle.hg_agree.proofs.LateLaws.{closed_mark}
use Rattle.hg_model.proofs.ListLaws.{list_all-list_below, none-list_below}
use Rattle.hg_model.proofs.PlacesLaws.{some_below-same}
use Rattle.hg_model.proofs.RoundLaws.{round_of-pos}
use Rattle.hg_model.proofs.StandingLaws.{witnesses_in-standings}
use Rattle.hg_prefix.proofs.ClosedLaws.{closed_last, closed_up_to}
use Rattle.hg_kept.specs.Published.{IsReached}

no_mark : (o : Option Bool) → is_none o ≡ not (is_some o)
no_mark None = refl
no_mark (Some v) = refl

never : (b c : Bool) → ((b && false) && c) ≡ false
never true c = refl
never false c = refl

module _ (g : Graph) (marks : Marks) (e : IsEarlier (parents (links_of g))) (m : ℕ) (reached : IsReached g marks m) where
  -- a witness of a round up to a closed one has a mark
  marked : (y : ℕ) → y < length (links_of g) → is_witness g.members (links_of g) y ≡ true → round_of g.members (links_of g) y ≤ m → (v : Bool) × (mark_at marks y ≡ Some v)
  marked y inside witness le = elim reached [
    | inl zero ↦ absurd (let pos = round_of-pos g.members (links_of g) e y in omega arith)
    | inr closed ↦ closed_mark g.members (links_of g) marks m closed y inside witness le
  ]

  unmarked_next : (y : ℕ) → y < length (links_of g) → is_unmarked g.members (links_of g) marks (m + 1) y ≡ (is_witness_of_round g.members (links_of g) (m + 1) y && not (is_some (mark_at marks y)))
  unmarked_next y inside =
      let n = g.members in
      let L = links_of g in
      let r = round_of n L y in
      elim (cases_Bool (is_witness n L y)) [
        | inr other ↦ (rw other refl)
        | inl witness ↦ elim (cases_lt r (m + 1)) [
          | inl low ↦ (
              let mark = marked y inside witness (omega arith) in
              let le : leb r (m + 1) ≡ true = le-leb r (m + 1) (omega arith) in
              let ne : eqb r (m + 1) ≡ false = ne_eqb r (m + 1) (λ same. absurd (omega arith)) in
              rw (witness, le, ne, mark.1) refl)
          | inr high ↦ elim (cases_eq r (m + 1)) [
            | inl same ↦ (
                let le : leb r (m + 1) ≡ true = le-leb r (m + 1) (omega arith) in
                let eq : eqb r (m + 1) ≡ true = eq-eqb r (m + 1) same in
                rw (witness, le, eq) (no_mark (mark_at marks y)))
            | inr other ↦ (
                let gt : leb r (m + 1) ≡ false = lt-leb r (m + 1) (omega arith) in
                let ne : eqb r (m + 1) ≡ false = ne_eqb r (m + 1) other in
                rw (witness, gt, ne) refl)
          ]
        ]
      ]

  -- the next round is closed where it has witnesses and all have marks
  pub next_closed : (witnesses : List ℕ) → witnesses ≡ witnesses_in (standings_of g.members (links_of g)) (m + 1) →
      (not (eqb (length witnesses) 0) && list_all (λ w. is_some (mark_at marks w)) witnesses) ≡ is_closed g.members (links_of g) marks (m + 1)
  unfolding is_closed
  next_closed witnesses are =
      let n = g.members in
      let L = links_of g in
      let listed : witnesses ≡ list_below (λ x. x) (length L) (is_witness_of_round n L (m + 1)) = are ∙ witnesses_in-standings n L (m + 1) in
      ap (λ (ws : List ℕ). not (eqb (length ws) 0) && list_all (λ w. is_some (mark_at marks w)) ws) listed
      ∙ ap₂ (λ (a b : Bool). a && b) (none-list_below (λ x. x) (length L) (is_witness_of_round n L (m + 1)))
      (list_all-list_below (λ w. is_some (mark_at marks w)) (length L) (is_witness_of_round n L (m + 1))
      ∙ ap not (sym (some_below-same (length L) (is_unmarked n L marks (m + 1)) (λ y. is_witness_of_round n L (m + 1) y && not (is_some (mark_at marks y))) unmarked_next)))

  -- a round after which the next one is not closed is the last
  pub last_here : is_closed g.members (links_of g) marks (m + 1) ≡ false → m ≡ last_closed g.members (links_of g) marks
  last_here fails =
      let n = g.members in
      let L = links_of g in
      let low : m ≤ last_closed n L marks = elim reached [
        | inl zero ↦ omega arith
        | inr closed ↦ (closed_last n L e marks m closed).1
      ] in
      elim (cases_lt m (last_closed n L marks)) [
        | inl more ↦ absurd (both_ways (is_closed n L marks (m + 1)) fails (closed_up_to n L e marks (m + 1) (omega arith) (omega arith)))
        | inr none ↦ omega arith
      ]

  -- a closed round is a round of the graph
  pub reached_low : m ≤ length (links_of g)
  reached_low = elim reached [
    | inl zero ↦ omega arith
    | inr closed ↦ (Rattle.hg_prefix.proofs.FamousLaws.closed_bounds g.members (links_of g) marks e m closed).1
  ]

-- the last closed round, if there is one, is closed
pub last_reached : (g : Graph) (marks : Marks) → IsEarlier (parents (links_of g)) → IsReached g marks (last_closed g.members (links_of g) marks)
last_reached g marks e =
    let n = g.members in
    let L = links_of g in
    elim (cases_lt 0 (last_closed n L marks)) [
      | inl some ↦ inr (closed_up_to n L e marks (last_closed n L marks) some (omega arith))
      | inr none ↦ inl (omega arith)
    ]

-- the rounds up to one that is reached are closed
pub closed_to_reached : (g : Graph) (marks : Marks) → IsEarlier (parents (links_of g)) → (m : ℕ) → IsReached g marks m → (r : ℕ) → 0 < r → r ≤ m → is_closed g.members (links_of g) marks r ≡ true
closed_to_reached g marks e m reached r pos le = elim reached [
  | inl zero ↦ absurd (omega arith)
  | inr closed ↦ Rattle.hg_prefix.proofs.ClosedLaws.closed_below g.members (links_of g) e marks m r closed pos le
]
