-- Who the voters of a witness are
use Rattle.std.proofs.Common.{◌≡◌, ℕ, ◌+◌, ◌-◌, ◌<◌, ◌≤◌, true, false, ◌&&◌, eqb, List, [], ◌∷◌, ◌++◌, length, get_or, IsTrue, sym, ap, ap₂, ◌∙◌, subst, inl, inr, arith}
use Rattle.std.specs.List.{AllByRecursion}
use Rattle.std.proofs.lemmas.Bool.{both_ways, cases_lt, cases_order}
use Rattle.std.proofs.lemmas.List.{get_or_append_left, get_or_push, length_push}
use Rattle.hg_model.specs.Places.{IsEarlier}
use Rattle.hg_model.specs.Stakes.{Stakes}
use Rattle.hg_model.specs.Links.{Link, parents}
use Rattle.hg_model.specs.Rounds.{round_of, is_witness}
use Rattle.hg_model.specs.Votes.{is_voter}
use Rattle.hg_model.specs.Shape.{Shape}
use Rattle.hg_model.specs.GraphWords.{is_witness_in, round_in, shape_in, standings_in, strongly_sees_in}
use Rattle.hg_model.proofs.PlacesLaws.{count_below-le, count_below_fails, count_below_passes, count_below_zero, weight_below_grows}
use Rattle.hg_model.specs.Standings.{Standing, standings_of, witnesses_in}
use Rattle.hg_model.specs.Prefix.{Graph, links_of}
use Rattle.hg_model.proofs.SeenLaws.{seen_witness_is}
use Rattle.hg_model.proofs.LinkLaws.{length-links}
use Rattle.hg_model.proofs.ListLaws.{all_list_below, length-list_below-le}
use Rattle.hg_model.proofs.StandingLaws.{witnesses_in-standings}
use Rattle.hg_model.proofs.AncestryLaws.{is_ancestor-le}
use Rattle.hg_model.proofs.RoundLaws.{round_of-pos}
use Rattle.hg_model.proofs.SightLaws.{strongly_sees-is_ancestor}
use Rattle.hg_votes.specs.Slots.{IsSetOf}
use Rattle.hg_votes.specs.Counting.{Entered, HoldsVoters, IsVotersOf, number_of}

-- the witnesses of a round are places of the graph
pub witnesses_there : (n : Stakes) (L : List Link) (r m : ℕ) (S : List Standing) (ws : List ℕ) → S ≡ standings_of n L → ws ≡ witnesses_in S r → length L ≡ m → AllByRecursion (λ w. w < m) ws
witnesses_there n L r m S ws matches is long =
    rw (is, matches, witnesses_in-standings n L r) (all_list_below (λ w. w < m) (λ w. w) (length L) (λ w. is_witness n L w && eqb (round_of n L w) r) (λ k h e. omega arith))

-- a voter stands below who it votes for
pub voter_below : (n : Stakes) (L : List Link) → IsEarlier (parents L) → (y w : ℕ) → is_voter n L y w ≡ true → w < y
voter_below n L e y w h =
    let seen = seen_witness_is n L (round_of n L y - 1) y w h in
    let le = is_ancestor-le L e y w (strongly_sees-is_ancestor L e n y w seen.seen) in
    let pos = round_of-pos n L e y in
    elim (cases_lt w y) [
      | inl below ↦ below
      | inr past ↦ (let same : w ≡ y = omega arith in absurd (omega (arith, pos, ap (round_of n L) same, seen.in_round)))
    ]

-- witnesses by number

pub number-below : (g : Graph) (y z : ℕ) → y < z → IsTrue (is_witness_in g y) → number_of g y < number_of g z
number-below g y z h witness = omega (arith, weight_below_grows (λ _. 1) (y + 1) z (is_witness_in g) (is_witness_in g) (omega arith) (λ k hk passes. passes), count_below_passes y (is_witness_in g) witness)

pub number-same : (g : Graph) (y z : ℕ) → IsTrue (is_witness_in g y) → IsTrue (is_witness_in g z) → number_of g y ≡ number_of g z → y ≡ z
number-same g y z one two same = elim (cases_order y z) [
  | inl is ↦ is
  | inr (inl less) ↦ absurd (omega (arith, number-below g y z less one))
  | inr (inr more) ↦ absurd (omega (arith, number-below g z y more two))
]

pub number-le : (g : Graph) (y : ℕ) → number_of g y ≤ y
number-le g y = count_below-le y (is_witness_in g)

pub witnesses_few : (g : Graph) (r : ℕ) (S : List Standing) (ws : List ℕ) → S ≡ standings_of g.members (links_of g) → ws ≡ witnesses_in S r → length ws ≤ length g.rows
witnesses_few g r S ws matches is =
    let n = g.members in
    let L = links_of g in
    rw (is, matches, witnesses_in-standings n L r) (omega (arith, length-links g.rows, length-list_below-le (λ (w : ℕ). w) (length L) (λ w. is_witness n L w && eqb (round_of n L w) r)))

-- the rows that are entered, and one more

pub entered_none : (g : Graph) (entered : Entered) → entered.numbers ≡ [] → entered.sets ≡ [] → HoldsVoters g 0 entered
entered_none g entered numbers sets = record {
  long = ap (λ (xs : List ℕ). length xs) numbers;
  number = λ y h. absurd (omega arith);
  many = ap (λ (xs : List (List ℕ)). length xs) sets ∙ sym (count_below_zero (is_witness_in g));
  voters = λ y h witness. absurd (omega arith);
}

-- the set that was made of what the prefix tells
pub voters_made : (g : Graph) (y r : ℕ) (shape : Shape) (S : List Standing) (ws set : List ℕ) → shape ≡ shape_in g → S ≡ standings_in (shape_in g) → r ≡ round_in g y - 1 → ws ≡ witnesses_in S r →
    IsSetOf set ws (strongly_sees_in shape y) → IsVotersOf g y set
voters_made g y r shape S ws set shaped matches before is made =
    subst (λ (xs : List ℕ). IsSetOf set xs (strongly_sees_in (shape_in g) y)) (is ∙ ap₂ witnesses_in matches before) (subst (λ (s : Shape). IsSetOf set ws (strongly_sees_in s y)) shaped made)

module _ (g : Graph) (y : ℕ) (entered grown : Entered) (number : ℕ) (held : HoldsVoters g y entered) (is : number ≡ length entered.sets) (numbers : grown.numbers ≡ entered.numbers ++ number ∷ []) where
  long_more : length grown.numbers ≡ y + 1
  long_more = ap (λ (xs : List ℕ). length xs) numbers ∙ (length_push entered.numbers number ∙ ap (λ k. k + 1) held.long)

  number_more : (z : ℕ) → z < y + 1 → get_or grown.numbers z 0 ≡ number_of g z
  number_more z h =
      let long = held.long in
      ap (λ (xs : List ℕ). get_or xs z 0) numbers
      ∙ elim (cases_lt z y) [
        | inl before ↦ get_or_append_left entered.numbers (number ∷ []) 0 z (omega arith) ∙ held.number z before
        | inr past ↦ (let last : z ≡ y = omega arith in get_or_push entered.numbers number 0 z (omega arith) ∙ (is ∙ (held.many ∙ ap (number_of g) (sym last))))
      ]

  pub entered_other : is_witness_in g y ≡ false → grown.sets ≡ entered.sets → HoldsVoters g (y + 1) grown
  entered_other other sets = record {
    long = long_more;
    number = number_more;
    many = ap (λ (xs : List (List ℕ)). length xs) sets ∙ (held.many ∙ sym (count_below_fails y (is_witness_in g) other));
    voters = λ z h witness. elim (cases_lt z y) [
      | inl before ↦ subst (λ (xs : List (List ℕ)). IsVotersOf g z (get_or xs (number_of g z) [])) (sym sets) (held.voters z before witness)
      | inr past ↦ (let last : z ≡ y = omega arith in absurd (both_ways (is_witness_in g y) other (subst (λ k. is_witness_in g k ≡ true) last witness)))
    ];
  }

  pub entered_witness : (set : List ℕ) → IsTrue (is_witness_in g y) → IsVotersOf g y set → grown.sets ≡ entered.sets ++ set ∷ [] → HoldsVoters g (y + 1) grown
  entered_witness set witness voters sets =
      let many : length entered.sets ≡ number_of g y = held.many in
      record {
        long = long_more;
        number = number_more;
        many = ap (λ (xs : List (List ℕ)). length xs) sets ∙ (length_push entered.sets set ∙ (ap (λ k. k + 1) many ∙ sym (count_below_passes y (is_witness_in g) witness)));
        voters = λ z h passes. elim (cases_lt z y) [
          | inl before ↦ subst (IsVotersOf g z)
              (sym (ap (λ (xs : List (List ℕ)). get_or xs (number_of g z) []) sets ∙ get_or_append_left entered.sets (set ∷ []) [] (number_of g z) (omega (arith, number-below g z y before passes))))
              (held.voters z before passes)
          | inr past ↦ (let last : z ≡ y = omega arith in subst (λ k. IsVotersOf g k (get_or grown.sets (number_of g k) [])) (sym last)
              (subst (IsVotersOf g y) (sym (ap (λ (xs : List (List ℕ)). get_or xs (number_of g y) []) sets ∙ get_or_push entered.sets set [] (number_of g y) many)) voters))
        ];
      }
