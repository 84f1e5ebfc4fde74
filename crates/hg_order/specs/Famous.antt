-- The unique famous witnesses of one round, and what they tell of a row. SWIRLDS-TR-2016-01, section 4, procedure findOrder
use Rattle.std.specs.Prelude.{ℕ, ◌≡◌, ◌<◌, Bool, true, not, ◌&&◌, ◌==◌, List, length, count_by, filter, fold, replicate, map, unwrap_or, suc}
use Rattle.std.specs.List.{list_any, list_all}
use Rattle.hg_model.specs.declared.row.Row.{Row}
use Rattle.hg_model.specs.Places.{least_below}
use Rattle.hg_model.specs.Links.{Link, creator}
use Rattle.hg_model.specs.Ancestry.{is_ancestor, is_self_ancestor}
use Rattle.hg_model.specs.Fame.{Marks, mark_at, is_yes}
use Rattle.hg_model.specs.Prefix.{Graph, links_of}
use Rattle.hg_model.specs.Order.{sig_at, time_at, xor_bytes}
use Rattle.hg_model.specs.GraphWords.{famous_of, is_closed_in, can_receive_in}

-- these places are the unique famous witnesses of some round by some marks, in the order of their places
pub record AreFamous (g : Graph) (places : List ℕ) : Type 0 where
  pub marks : Marks
  pub round : ℕ
  pub are : places ≡ famous_of g marks round

-- all of these have x as ancestor
abbrev pub all_have : List Link → List ℕ → ℕ → Bool
all_have L places x = list_all (λ w. is_ancestor L w x) places

-- x is a row, and all of these have it as ancestor
abbrev pub IsBelowAll : Graph → List ℕ → ℕ → Type 0
IsBelowAll g places x = (x < length (links_of g)) × (all_have (links_of g) places x ≡ true)

-- z is marked famous, by the creator of y, and is not y
abbrev pub is_rival_to : List Link → Marks → ℕ → ℕ → Bool
is_rival_to L marks y z = is_yes (mark_at marks z) && creator L z == creator L y && not (z == y)

-- among these witnesses y is famous, and no other by its creator is
abbrev pub is_lone : List Link → Marks → List ℕ → ℕ → Bool
is_lone L marks witnesses y = is_yes (mark_at marks y) && not (list_any (is_rival_to L marks y) witnesses)

-- those of these witnesses, and how many there are
abbrev pub lone_of : List Link → Marks → List ℕ → List ℕ
lone_of L marks witnesses = filter (is_lone L marks witnesses) witnesses

abbrev pub count_lone : List Link → Marks → List ℕ → ℕ
count_lone L marks witnesses = count_by (is_lone L marks witnesses) witnesses

-- the first of the line of w that has x as ancestor
unfoldable pub first_holder : List Link → ℕ → ℕ → ℕ
first_holder L x w = unwrap_or (least_below (λ z. z) (suc w) (λ z. is_self_ancestor L w z && is_ancestor L z x)) w

-- the times at which the lines of these first had x as ancestor
abbrev pub times_of : List Row → List Link → ℕ → List ℕ → List ℕ
times_of G L x places = map (λ w. time_at G (first_holder L x w)) places

-- the signatures of these, XORed
unfoldable pub whitening_of : List Row → List ℕ → List ℕ
whitening_of G places = fold (λ white w. xor_bytes white (sig_at G w)) (replicate 64 0) places

-- where these are the unique famous witnesses of a round that some marks close, it says whether that round can receive x
abbrev pub SaysReceived : Graph → List ℕ → ℕ → Bool → Type 0
SaysReceived g famous x result =
    (marks : Marks) (r : ℕ) → famous ≡ famous_of g marks r → is_closed_in g marks r ≡ true → result ≡ can_receive_in g marks x r
