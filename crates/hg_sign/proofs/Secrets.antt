-- The table of the members' secrets signs and accepts as the members do.
use Rattle.std.proofs.Common.{◌≡◌, ℕ, List, [], true, ap, ◌∙◌}
use Rattle.std.proofs.Math.Path.{fun_ext}
use Rattle.std.specs.Prelude.{unwrap_or}
use Rattle.std.specs.Str.{bytes_eq}
use Rattle.std.proofs.lemmas.Option.{slice_get-map}
use Rattle.std.proofs.lemmas.Slice.Eq.{bytes_eq-Decides}
use Rattle.hg_life.specs.declared.members.MemberEntry.{MemberEntry}
use Rattle.hg_life.specs.Members.{MemberList}
use Rattle.hg_life.specs.Signing.{accepts_signature, hmac_sha512, signature_of, secrets_of, signature_by, accepts_by}

pub signs_alike : (secrets : List (List ℕ)) (members : MemberList) → secrets ≡ secrets_of members → signature_by secrets ≡ signature_of members
unfolding signature_of
signs_alike secrets members e =
    ap signature_by e ∙ fun_ext (λ m. fun_ext (λ body. ap (λ secret. hmac_sha512 (unwrap_or secret []) body) (slice_get-map (λ (e : MemberEntry). e.secret) members.entries m)))

pub accepts_alike : (secrets : List (List ℕ)) (members : MemberList) → secrets ≡ secrets_of members → accepts_by secrets ≡ accepts_signature members
accepts_alike secrets members e = ap (λ sign m body sig. bytes_eq sig (sign m body)) (signs_alike secrets members e)

-- what secrets accept is the signature by them
pub accepted_is_signature : (secrets : List (List ℕ)) (m : ℕ) (body sig : List ℕ) → accepts_by secrets m body sig ≡ true → sig ≡ signature_by secrets m body
accepted_is_signature secrets m body sig accepted = (bytes_eq-Decides sig (signature_by secrets m body)).0 accepted
