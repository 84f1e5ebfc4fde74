-- Who decides the fame of a witness
use Rattle.std.specs.Prelude.{ℕ, ◌≡◌, ◌<◌, ◌≤◌, Bool, false, ◌&&◌, nat_lt, List, All, length, take, Option, find, filter_map, option_map, IsTrue}
use Rattle.hg_model.specs.Places.{least_below}
use Rattle.hg_model.specs.Fame.{Marks, fame_of, is_decider}
use Rattle.hg_model.specs.Orders.{AreFame}
use Rattle.hg_model.specs.Order.{coin_at}
use Rattle.hg_model.specs.Rounds.{round_of}
use Rattle.hg_model.specs.Standings.{witnesses_in}
use Rattle.hg_model.specs.Prefix.{Graph, links_of}
use Rattle.hg_model.specs.GraphWords.{vote_in, decides_in, is_witness_in, round_in, standings_in, shape_in}
use Rattle.hg_model.specs.declared.share.Found.{Found}
use Rattle.hg_model.specs.Shares.{Share, Speaks}

-- the first decider of x, by round and then by place
abbrev pub first_decider : Graph → ℕ → Option ℕ
first_decider g x =
    least_below (round_in g) (length (links_of g)) (is_decider g.members g.coin (links_of g) (coin_at g.rows) x)

-- the fame of x in the graph of the first `len` rows, and its first decider there
abbrev pub fame_within : Graph → ℕ → ℕ → Option Bool
fame_within g len x = fame_of g.members g.coin (take len (links_of g)) (coin_at (take len g.rows)) x

abbrev pub decider_within : Graph → ℕ → ℕ → Option ℕ
decider_within g len x =
    let L = take len (links_of g) in
    least_below (round_of g.members L) (length L) (is_decider g.members g.coin L (coin_at (take len g.rows)) x)

-- x is one of the first `len` rows, and a witness
pub record IsWitnessWithin (g : Graph) (len x : ℕ) : Type 0 where
  pub place : x < len
  pub witness : IsTrue (is_witness_in g x)

-- each of these places is
abbrev pub AreWitnesses : Graph → ℕ → List ℕ → Type 0
AreWitnesses g len places = All (IsWitnessWithin g len) places

-- those of these places that have fame, in their order, each with it
abbrev pub fames_among : (ℕ → Option Bool) → List ℕ → List (ℕ × Bool)
fames_among fame places = filter_map (λ x. option_map (λ v. (x, v)) (fame x)) places

-- y is one of the first `len` rows, and decides the fame of x
abbrev pub decides_within : Graph → ℕ → ℕ → ℕ → Bool
decides_within g len x y = nat_lt y len && decides_in g x y

-- of the witnesses of round r the first by place that does
abbrev pub decider_in : Graph → ℕ → ℕ → ℕ → Option ℕ
decider_in g len x r = find (decides_within g len x) (witnesses_in (standings_in (shape_in g)) r)

-- none of the first `len` rows of a round up to this one decides the fame of x
pub record IsUndecided (g : Graph) (len x last : ℕ) : Type 0 where
  pub none : (y : ℕ) → y < length g.rows → round_in g y ≤ last → decides_within g len x y ≡ false

-- the vote of y on x, and y
abbrev pub decision_by : Graph → ℕ → ℕ → Bool × ℕ
decision_by g x y = (vote_in g x y, y)

-- the decision of round r on the fame of x, by its first decider among the first `len` rows
abbrev pub decision_of : Graph → ℕ → ℕ → ℕ → Option (Bool × ℕ)
decision_of g len x r = option_map (decision_by g x) (decider_in g len x r)

-- what was found is what this share finds in so many first rows
abbrev pub SpeaksFor : Graph → Share → Found → Type 0
SpeaksFor g share found = Speaks g.members g.coin g.rows (links_of g) found.len share found.marks

-- the marks are the fame of the graph, where there are some
abbrev pub AreFameIn : Graph → Marks → Type 0
AreFameIn g marks = AreFame g.members g.coin g.rows marks
