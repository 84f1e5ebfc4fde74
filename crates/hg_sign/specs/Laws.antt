-- Under the members' secrets a body has one signature of a member.
use Rattle.std.specs.Prelude.{◌≡◌, ℕ, List, true}
use Rattle.hg_life.specs.Members.{MemberList}
use Rattle.hg_life.specs.Signing.{accepts_signature, signature_of}

-- what is accepted is the signature
abbrev pub SignaturesAreOne : Type 0
SignaturesAreOne = (members : MemberList) (m : ℕ) (body sig : List ℕ) → accepts_signature members m body sig ≡ true → sig ≡ signature_of members m body
