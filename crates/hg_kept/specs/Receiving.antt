-- What the round at hand receives of the rows that wait
use Rattle.std.specs.Prelude.{ℕ, ◌≡◌, Bool, ◌&&◌, not, List, ◌++◌, length, filter}
use Rattle.hg_model.specs.declared.row.Placed.{Placed}
use Rattle.hg_model.specs.Places.{list_below}
use Rattle.hg_model.specs.Fame.{Marks}
use Rattle.hg_model.specs.Prefix.{Graph, links_of}
use Rattle.hg_model.specs.GraphWords.{famous_of, received_order}
use Rattle.hg_order.specs.Counted.{JustBelow}
use Rattle.hg_order.specs.Famous.{all_have}
use Rattle.hg_order.specs.Round.{received_places}
use Rattle.hg_kept.specs.Published.{Published}
use Rattle.hg_kept.specs.Waiting.{Waiting, AreWaiting, AreLineEnds}

-- which rows wait, the places of those that the round at hand receives, and for how many rows there is memory
pub record Parted : Type 0 where
  pub waiting : Waiting
  pub fresh : List ℕ
  pub room : ℕ

-- these marks and this order, of the rounds up to `closed`
abbrev pub published_as : Marks → ℕ → List Placed → Parted → Published
published_as marks closed order w = record { marks = marks; closed = closed; order = order; waiting = w.waiting }

-- of the rows that wait those that all of these have as ancestor, by place, and the others
abbrev pub received_of : Graph → List ℕ → (ℕ → Bool) → List ℕ
received_of g famous waits = list_below (λ x. x) (length (links_of g)) (λ x. waits x && all_have (links_of g) famous x)

abbrev pub is_left_of : Graph → List ℕ → (ℕ → Bool) → ℕ → Bool
is_left_of g famous waits x = waits x && not (all_have (links_of g) famous x)

pub record AreParted (g : Graph) (famous : List ℕ) (waits : ℕ → Bool) (new : Parted) : Type 0 where
  pub fresh : new.fresh ≡ received_of g famous waits
  pub left : AreWaiting (links_of g) new.waiting (is_left_of g famous waits)

-- the rows that wait by the old are so parted by the new
abbrev pub Receives : Graph → List ℕ → Waiting → Parted → Type 0
Receives g famous old new = (waits : ℕ → Bool) → AreWaiting (links_of g) old waits → AreParted g famous waits new

-- the rows that all of these have as ancestor are just those below the number of their creator, which ends its line
pub record AreLeastEnds (g : Graph) (famous least : List ℕ) : Type 0 where
  pub just : JustBelow (links_of g) least (all_have (links_of g) famous)
  pub lines : AreLineEnds g.members (links_of g) least

-- of these places those that not all of these have as ancestor
abbrev pub others_of : Graph → List ℕ → List ℕ → List ℕ
others_of g famous places = filter (λ x. not (all_have (links_of g) famous x)) places

-- where these are the unique famous witnesses of a round by some marks, and these places the rows that it receives, what
-- comes behind this order is the round's order
abbrev pub AppendsRound : Graph → List ℕ → List ℕ → List Placed → List Placed → Type 0
AppendsRound g famous fresh before after =
    (marks : Marks) (r : ℕ) → famous ≡ famous_of g marks r → fresh ≡ received_places g marks r → after ≡ before ++ received_order g marks r
