-- Safety: no two nodes ever order otherwise. SWIRLDS-TR-2016-01, section 5
use Rattle.std.specs.Prelude.{ℕ, ◌*◌, ◌<◌, ◌⊎◌, List}
use Rattle.hg_model.specs.Stakes.{Stakes, total}
use Rattle.hg_life.specs.History.{Change, replay}
use Rattle.hg_life.specs.Kept.{kept_by_names}
use Rattle.hg_model.specs.Order.{Ordered}
use Rattle.hg_model.specs.Orders.{IsPrefix}
use Rattle.hg_runs.specs.Run.{Run, IsMoment}
use Rattle.hg_runs.specs.Honest.{dishonest, AreApart}

-- the order that a node with this history keeps: of each event its name, round received and consensus timestamp
abbrev pub order_after : Stakes → ℕ → List Change → List Ordered
order_after n c h = kept_by_names n (replay n c h)

-- of the two lists one is a prefix of the other
abbrev pub IsOnePrefix : List Ordered → List Ordered → Type 0
IsOnePrefix xs ys = IsPrefix xs ys ⊎ IsPrefix ys xs

-- of the orders of any two nodes, or of one, at any two moments, one is a prefix of the other
abbrev pub OrdersAgree : Stakes → ℕ → Run → Type 0
OrdersAgree n c run = (j k : ℕ) (a b : List Change) → IsMoment n run j a → IsMoment n run k b → IsOnePrefix (order_after n c a) (order_after n c b)

-- so where the dishonest members have less than a third of the stake and names do not collide: whatever was lost,
-- repeated or forged, and whenever fame was published
abbrev pub IsSafe : Stakes → ℕ → Run → Type 0
IsSafe n c run = 3 * dishonest n c run < total n → AreApart n c run → OrdersAgree n c run
