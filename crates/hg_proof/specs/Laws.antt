-- What holds of certificates, as public functions state it
use Rattle.std.specs.Prelude.{ℕ, ◌*◌, ◌≡◌, ◌<◌, List, map, get_or, Ok}
use Rattle.hg_model.specs.Stakes.{Stakes, total}
use Rattle.hg_model.specs.Order.{Ordered, named_in}
use Rattle.hg_life.specs.Signing.{Accepts}
use Rattle.hg_life.specs.Terms.{Terms}
use Rattle.hg_life.specs.History.{Change}
use Rattle.hg_runs.specs.Run.{Run, IsRun, IsMoment}
use Rattle.hg_runs.specs.Safety.{order_after, IsOnePrefix}
use Rattle.hg_runs.specs.Further.{dishonest_beside, IsApart}
use Rattle.hg_proof.specs.Certificate.{Certificate}
use Rattle.hg_proof.specs.Judging.{judged}
use Rattle.hg_proof.specs.Shows.{Shows}

-- what a checker accepts is shown
abbrev pub AcceptedIsShown : Type 0
AcceptedIsShown = (accepts : Accepts) (n : Stakes) (c : ℕ) (bytes : List ℕ) (shown : Certificate) → ((i : ℕ) → get_or bytes i 0 < 256) → 0 < total n →
    judged accepts n c bytes ≡ Ok shown → Shows accepts n c bytes shown

-- and what is shown it accepts
abbrev pub ShownIsAccepted : Type 0
ShownIsAccepted = (accepts : Accepts) (n : Stakes) (c : ℕ) (bytes : List ℕ) (shown : Certificate) → Shows accepts n c bytes shown → judged accepts n c bytes ≡ Ok shown

-- so bytes show at most one graph and order
abbrev pub ShownIsOne : Type 0
ShownIsOne = (accepts : Accepts) (n : Stakes) (c : ℕ) (bytes : List ℕ) (one other : Certificate) → Shows accepts n c bytes one → Shows accepts n c bytes other → one ≡ other

-- the order that is shown, by names, which mean the same event everywhere
abbrev pub shown_order : Certificate → List Ordered
shown_order shown = map (named_in shown.rows) shown.order

-- where less than a third of the stake is dishonest in a run or in the graph that is shown beside it, and names do not
-- collide, the order that is shown and one that a node ever kept do not part, one being a prefix of the other; by whose
-- keys the certificate was checked does not matter
abbrev pub ShownIsSafe : Type 0
ShownIsSafe = (terms : ℕ → Terms) (keys : Accepts) (n : Stakes) (c : ℕ) (run : Run) (bytes : List ℕ) (shown : Certificate) → IsRun terms n c run →
    Shows keys n c bytes shown → 3 * dishonest_beside n c run shown.rows < total n → IsApart n c run shown.rows →
    (k : ℕ) (h : List Change) → IsMoment n run k h → IsOnePrefix (shown_order shown) (order_after n c h)
