-- What a file shows as a certificate to members, who check signatures by their secrets
use Rattle.std.specs.Prelude.{ℕ, ◌*◌, ◌<◌, List, Result}
use Rattle.hg_model.specs.Stakes.{total}
use Rattle.hg_life.specs.History.{Change}
use Rattle.hg_life.specs.Members.{MemberList, stakes_of}
use Rattle.hg_life.specs.Signing.{accepts_signature}
use Rattle.hg_life.specs.Terms.{Terms}
use Rattle.hg_runs.specs.Further.{IsApart, dishonest_beside}
use Rattle.hg_runs.specs.Run.{IsMoment, IsRun, Run}
use Rattle.hg_runs.specs.Safety.{IsOnePrefix, order_after}
use Rattle.hg_proof.specs.Certificate.{Certificate}
use Rattle.hg_proof.specs.Judging.{judged}
use Rattle.hg_proof.specs.Laws.{shown_order}
use Rattle.hg_proof.specs.Shows.{Shows}
use Rattle.hg_proof.specs.declared.why.Why.{Why}

-- what the bytes show them, or the first reason against it
abbrev pub judged_by : MemberList → List ℕ → Result Certificate Why
judged_by members bytes = judged (accepts_signature members) (stakes_of members) members.coin bytes

-- the bytes show them this: a graph of signed events, and its whole order
abbrev pub ShowsTo : MemberList → List ℕ → Certificate → Type 0
ShowsTo members bytes shown = Shows (accepts_signature members) (stakes_of members) members.coin bytes shown

-- with this graph as a further one of a run less than a third of the members' stake is dishonest, and names do not collide
pub record IsSound (members : MemberList) (shown : Certificate) (run : Run) : Type 0 where
  pub few : 3 * dishonest_beside (stakes_of members) members.coin run shown.rows < total (stakes_of members)
  pub apart : IsApart (stakes_of members) members.coin run shown.rows

-- the order that is shown and one that a node of the run ever kept do not part: one is a prefix of the other
abbrev pub Agrees : MemberList → Certificate → Run → Type 0
Agrees members shown run =
    (k : ℕ) (h : List Change) → IsMoment (stakes_of members) run k h
    → IsOnePrefix (shown_order shown) (order_after (stakes_of members) members.coin h)

-- so it is in every run of the members in which this holds, whatever keys and limits its nodes have
abbrev pub IsSafeBeside : MemberList → Certificate → Type 0
IsSafeBeside members shown =
    (terms : ℕ → Terms) (run : Run) → IsRun terms (stakes_of members) members.coin run → IsSound members shown run
    → Agrees members shown run
