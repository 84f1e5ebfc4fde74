-- The program's own signatures: HMAC (RFC 2104) with SHA-512 (FIPS 180-4) under the members' secrets
use Rattle.std.specs.Prelude.{ℕ, ◌≡◌, true, ◌-◌, Bool, List, [], ◌++◌, length, map, replicate, slice_get, option_map, unwrap_or, bit_xor}
use Rattle.std.specs.Str.{bytes_eq}
use Rattle.sha2.specs.Sha512.{sha512}
use Rattle.hg_life.specs.declared.members.MemberEntry.{MemberEntry}
use Rattle.hg_life.specs.Members.{MemberList}

-- a secret of at most 128 bytes as one block
abbrev pub padded_secret : List ℕ → List ℕ
padded_secret secret = secret ++ replicate (128 - length secret) 0

-- each byte XORed with the mask
abbrev pub masked : ℕ → List ℕ → List ℕ
masked mask bytes = map (λ byte. bit_xor byte mask) bytes

-- the mac of the message under a secret of at most 128 bytes
unfoldable pub hmac_sha512 : List ℕ → List ℕ → List ℕ
hmac_sha512 secret message =
    sha512 (masked 0x5c (padded_secret secret) ++ sha512 (masked 0x36 (padded_secret secret) ++ message))

-- the member's secret; no bytes for a number that is no member's
abbrev pub secret_of : MemberList → ℕ → List ℕ
secret_of members m = unwrap_or (option_map (λ (e : MemberEntry). e.secret) (slice_get members.entries m)) []

-- the member's signature of the bytes
unfoldable pub signature_of : MemberList → ℕ → List ℕ → List ℕ
signature_of members m body = hmac_sha512 (secret_of members m) body

-- just that signature is accepted
abbrev pub accepts_signature : MemberList → ℕ → List ℕ → List ℕ → Bool
accepts_signature members m body sig = bytes_eq sig (signature_of members m body)

-- which signatures are accepted: by a member, of the signed bytes
abbrev pub Accepts : Type 0
Accepts = ℕ → List ℕ → List ℕ → Bool

-- the members' secrets, in the order of the members
abbrev pub secrets_of : MemberList → List (List ℕ)
secrets_of members = map (λ (e : MemberEntry). e.secret) members.entries

-- the signature of the bytes by the secret at this place, or by that of no bytes past the last
abbrev pub signature_by : List (List ℕ) → ℕ → List ℕ → List ℕ
signature_by secrets m body = hmac_sha512 (unwrap_or (slice_get secrets m) []) body

-- just that signature is accepted
abbrev pub accepts_by : List (List ℕ) → ℕ → List ℕ → List ℕ → Bool
accepts_by secrets m body sig = bytes_eq sig (signature_by secrets m body)

-- the node's keys accept just what is signed so
abbrev pub AcceptOne : {K : Type 0} → (K → Accepts) → K → (ℕ → List ℕ → List ℕ) → Type 0
AcceptOne accepts keys sign = (m : ℕ) (body sig : List ℕ) → accepts keys m body sig ≡ true → sig ≡ sign m body
