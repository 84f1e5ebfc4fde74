-- What a line asks is told by what is kept of it
use Rattle.std.proofs.Common.{◌≡◌, ℕ, Bool, true, false, nat_lt, if◌then◌else◌, List, length, Some, None, refl}
use Rattle.hg_life.specs.Members.{MemberList}
use Rattle.hg_service.specs.Asking.{line_limit, request_of}
use Rattle.hg_asking.specs.Lines.{asked, kept}

asked_by : (members : MemberList) (line : List ℕ) (is_long : Bool) → nat_lt line_limit (length line) ≡ is_long
    → asked members (if is_long then None else Some line) ≡ request_of members line
unfolding request_of
asked_by members line true is = rw is refl
asked_by members line false is = refl

pub asked-kept : (members : MemberList) (line : List ℕ) → asked members (kept line) ≡ request_of members line
asked-kept members line = asked_by members line (nat_lt line_limit (length line)) refl
