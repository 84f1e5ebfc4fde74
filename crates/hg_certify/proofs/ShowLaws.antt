-- What a check by the members' secrets, of a graph of the members without rows, tells these members
use Rattle.std.proofs.Common.{◌≡◌, List, ℕ, [], subst}
use Rattle.hg_model.specs.Prefix.{Graph, graph_of}
use Rattle.hg_life.specs.Members.{MemberList, stakes_of}
use Rattle.hg_life.specs.Signing.{Accepts, accepts_signature}
use Rattle.hg_proof.specs.Answers.{told}
use Rattle.hg_proof.specs.Certificate.{Certificate}
use Rattle.hg_proof.specs.Judging.{judged}
use Rattle.hg_proof.specs.Laws.{ShownIsSafe}
use Rattle.hg_proof.specs.Shows.{Shows}
use Rattle.hg_proof.specs.declared.shown.Checked.{Checked}
use Rattle.hg_certify.specs.Showing.{IsSafeBeside, ShowsTo, judged_by}

-- a check by these keys, of this graph, is one for the members
pub record IsFor (members : MemberList) (accepts : Accepts) (g : Graph) : Type 0 where
  pub keys : accepts ≡ accepts_signature members
  pub empty : g ≡ graph_of (stakes_of members) members.coin []

pub told_by : (members : MemberList) (accepts : Accepts) (g : Graph) → IsFor members accepts g → (bytes : List ℕ) (checked : Checked) →
    told checked ≡ judged accepts g.members g.coin bytes → told checked ≡ judged_by members bytes
told_by members accepts g is bytes checked told_is =
    subst (λ (a : Accepts). told checked ≡ judged a (stakes_of members) members.coin bytes) is.keys
    (subst (λ (h : Graph). told checked ≡ judged accepts h.members h.coin bytes) is.empty told_is)

pub shows_to : (members : MemberList) (accepts : Accepts) (g : Graph) → IsFor members accepts g → (bytes : List ℕ) (shown : Certificate) →
    Shows accepts g.members g.coin bytes shown → ShowsTo members bytes shown
shows_to members accepts g is bytes shown shows =
    subst (λ (a : Accepts). Shows a (stakes_of members) members.coin bytes shown) is.keys
    (subst (λ (h : Graph). Shows accepts h.members h.coin bytes shown) is.empty shows)

-- and what is shown is safe
pub safe_beside : ShownIsSafe → (members : MemberList) (bytes : List ℕ) (shown : Certificate) → ShowsTo members bytes shown → IsSafeBeside members shown
safe_beside law members bytes shown shows = λ terms run is sound.
    law terms (accepts_signature members) (stakes_of members) members.coin run bytes shown is shows sound.few sound.apart
