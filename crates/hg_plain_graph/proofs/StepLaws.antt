-- The next value of a column, from those before it
use Rattle.std.proofs.Common.{◌≡◌, ◌≢◌, ℕ, ◌+◌, ◌<◌, Bool, true, false, cond, ◌||◌, ◌&&◌, eqb, List, [], ◌∷◌, ◌++◌, length, get_or, take, max, sym, refl, ap, ◌∙◌, arith}
use Rattle.std.specs.List.{list_any}
use Rattle.std.specs.Global.{Vec}
use Rattle.std.proofs.lemmas.Bool.{eq-eqb, ne_eqb}
use Rattle.std.proofs.lemmas.List.{take_more}
use Rattle.hg_model.specs.Places.{maximum_below, IsEarlier}
use Rattle.hg_model.specs.Stakes.{Stakes, member_count, stake_of, stake_where, total}
use Rattle.hg_model.specs.Links.{Link, creator, parents, self_parent}
use Rattle.hg_model.specs.Ancestry.{is_ancestor, is_self_ancestor}
use Rattle.hg_model.specs.Seeing.{sees, sees_through, is_supermajority}
use Rattle.hg_model.specs.Rounds.{parent_round, is_witness_by, is_seen_witness, round_of, is_witness, last_round, weight_of}
use Rattle.hg_model.proofs.RoundLaws.{is_witness_by-same, round_of-at, round_from-same}
use Rattle.hg_model.proofs.PlacesLaws.{weight_below-same, maximum_below-same}
use Rattle.hg_model.proofs.ReachLaws.{list_any-same}
use Rattle.hg_model.proofs.AncestryLaws.{self_parent_earlier, is_ancestor-at, is_ancestor_self, is_self_ancestor-at, is_self_ancestor_self, some_ancestor-at}
use Rattle.hg_plain_graph.specs.By.{is_ancestor_by, parents_by}
use Rattle.hg_plain_graph.specs.declared.ancestry.By.{By}
use Rattle.hg_plain_graph.specs.declared.ancestry.By.TheVariants.{Parents, SelfParent}
use Rattle.hg_plain_graph.specs.Tables.{IsTableOf, cell_at, IsTableOfPairs}
use Rattle.hg_plain_graph.proofs.TableLaws.{cell_read}

-- what a column tells of earlier places
pub table_of_earlier : (next : ℕ → List ℕ) (test : ℕ → Bool) (x : ℕ) (column : List Bool) → IsEarlier next → IsTableOf false test x column →
    list_any (λ p. get_or column p false) (next x) ≡ list_any test (next x)
table_of_earlier next test x column e matches = list_any-same (λ p. get_or column p false) test (next x) (λ p h. matches.at p (e.earlier x p h))

module _ (L : List Link) (e : IsEarlier (parents L)) (x y : ℕ) where
  pub ancestor_here : (by : By) → x ≡ y → eqb x y ≡ is_ancestor_by by L x y
  ancestor_here Parents same = eq-eqb x y same ∙ sym (rw same (is_ancestor_self L e y))
  ancestor_here SelfParent same = eq-eqb x y same ∙ sym (rw same (is_self_ancestor_self L e y))

  pub ancestor_above : (by : By) (column : List Bool) (above : Bool) → IsTableOf false (λ k. is_ancestor_by by L k y) x column → x ≢ y →
      above ≡ list_any (λ p. get_or column p false) (parents_by by L x) → above ≡ is_ancestor_by by L x y
  ancestor_above Parents column above matches apart is =
      is ∙ (table_of_earlier (parents L) (λ k. is_ancestor L k y) x column e matches
      ∙ sym (rw (is_ancestor-at L e x y, ne_eqb x y apart)))
  ancestor_above SelfParent column above matches apart is =
      is ∙ (table_of_earlier (self_parent L) (λ k. is_self_ancestor L k y) x column (self_parent_earlier L e) matches
      ∙ sym (rw (is_self_ancestor-at L e x y, ne_eqb x y apart)))

-- members with an event that sees y
module _ (L : List Link) (e : IsEarlier (parents L)) (x y m : ℕ) (here : Bool) (here_is : here ≡ (eqb (creator L x) m && sees L x y)) where
  through-at : sees_through L x y m ≡ (here || list_any (λ p. sees_through L p y m) (parents L x))
  unfolding sees_through
  through-at = rw here_is (some_ancestor-at L e x (λ z. eqb (creator L z) m && sees L z y))

  pub through_here : here ≡ true → here ≡ sees_through L x y m
  through_here found = sym (rw (through-at, found))

  pub through_above : (column : List Bool) (above : Bool) → IsTableOf false (λ k. sees_through L k y m) x column → here ≡ false →
      above ≡ list_any (λ p. get_or column p false) (parents L x) → above ≡ sees_through L x y m
  through_above column above matches missed is =
      is ∙ (table_of_earlier (parents L) (λ k. sees_through L k y m) x column e matches ∙ sym (rw (through-at, missed)))

-- what the members weigh that are found in their columns
pub weight_of_columns : (L : List Link) (n : Stakes) (x y : ℕ) (through : List (Vec Bool)) → IsTableOfPairs (λ x m. sees_through L x y m) (length L) (member_count n) through → x < length L →
    stake_where n (cell_at through x) ≡ stake_where n (sees_through L x y)
weight_of_columns L n x y through matches hx =
    weight_below-same (stake_of n) (member_count n) (cell_at through x) (sees_through L x y) (λ m h. cell_read (λ x m. sees_through L x y m) (length L) (member_count n) through x m matches hx h)

-- what is seen where the first test passes
pub and_given : (a s v : Bool) → a ≡ true → v ≡ s → v ≡ (a && s)
and_given a s v passes is = is ∙ sym (ap (λ b. b && s) passes)

-- the greatest of the rounds, one place more

parent_round-push : (round : ℕ → ℕ) (ps : List ℕ) (p : ℕ) → parent_round round (ps ++ p ∷ []) ≡ max (round p) (parent_round round ps)
parent_round-push round [] p = refl
parent_round-push round (q ∷ ps) p = omega (arith, parent_round-push round ps p)

pub parent_round_none : (round : ℕ → ℕ) (ps : List ℕ) → parent_round round (take 0 ps) ≡ 1
parent_round_none round [] = refl
parent_round_none round (p ∷ ps) = refl

pub parent_round_more : (round : ℕ → ℕ) (ps : List ℕ) (i : ℕ) → i < length ps →
    parent_round round (take (i + 1) ps) ≡ max (round (get_or ps i 0)) (parent_round round (take i ps))
parent_round_more round ps i inside = ap (parent_round round) (take_more ps i 0 inside) ∙ parent_round-push round (take i ps) (get_or ps i 0)

pub ruleset parent_round_steps = (parent_round_none, parent_round_more)

-- the next round, from the rounds before it
pub round_next : (n : Stakes) (L : List Link) → IsEarlier (parents L) → (rounds : List ℕ) (x r weight : ℕ) (many : Bool) → IsTableOf 0 (round_of n L) x rounds →
    r ≡ parent_round (λ p. get_or rounds p 0) (parents L x) → weight ≡ weight_of n L x (is_seen_witness (λ k. get_or rounds k 0) n L r x) →
    many ≡ is_supermajority (total n) weight → cond many (r + 1) r ≡ round_of n L x
round_next n L e rounds x r weight many matches r_is weighs over =
    sym (round_of-at n L e x
    ∙ (round_from-same n L e (round_of n L) (λ k. get_or rounds k 0) x (λ p h. sym (matches.at p h))
    ∙ rw (← r_is, ← weighs, ← over) refl))

pub last_round_known : (n : Stakes) (L : List Link) (rounds : List ℕ) → IsTableOf 0 (round_of n L) (length L) rounds →
    maximum_below (λ x. get_or rounds x 0) (length rounds) ≡ last_round n L
unfolding last_round
last_round_known n L rounds matches =
    ap (λ k. maximum_below (λ x. get_or rounds x 0) k) matches.len ∙ maximum_below-same (λ x. get_or rounds x 0) (round_of n L) (length L) (λ x h. matches.at x h)

pub is_witness_known : (n : Stakes) (L : List Link) → IsEarlier (parents L) → (rounds : List ℕ) (x : ℕ) → IsTableOf 0 (round_of n L) (length L) rounds → x < length L →
    is_witness_by (λ p. get_or rounds p 0) L x ≡ is_witness n L x
unfolding is_witness
is_witness_known n L e rounds x matches h = is_witness_by-same n L e (λ p. get_or rounds p 0) (round_of n L) x (λ p le. matches.at p (omega arith))
