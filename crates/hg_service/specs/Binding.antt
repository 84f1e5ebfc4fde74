-- By what a node is bound to its member file: a text of all in the file that an order can depend on, and an event that carries the
-- digest of this text
use Rattle.std.specs.Prelude.{ℕ, ◌+◌, Bool, ◌&&◌, ◌==◌, not, is_some, List, [], ◌∷◌, ◌++◌, length, take, codes, None}
use Rattle.std.specs.Int.{to_be_bytes, w16}
use Rattle.std.specs.List.{list_any}
use Rattle.std.specs.Str.{bytes_eq}
use Rattle.sha2.specs.Sha512.{sha384}
use Rattle.hg_model.specs.Places.{list_below}
use Rattle.hg_model.specs.declared.row.Row.{Row}
use Rattle.hg_life.specs.Members.{MemberList}
use Rattle.hg_life.specs.Spelling.{body_bytes}
use Rattle.hg_life.specs.declared.members.MemberEntry.{MemberEntry}
use Rattle.hg_outcome.specs.Report.{with_number}

-- a member's name, balance and stake
abbrev pub entry_text : MemberEntry → List ℕ
entry_text e = with_number e.name e.balance ++ with_number [] e.stake

abbrev pub entry_lines : List MemberEntry → List ℕ
entry_lines [] = []
entry_lines (e ∷ entries) = entry_text e ++ codes "\n" ++ entry_lines entries

-- A line for the coin period and one for each member. Secrets are left out: a digest that everybody sees would help whoever
-- guesses at them, and a secret that differs shows itself, since signatures are refused
unfoldable pub canonical : MemberList → List ℕ
canonical members = with_number (codes "coin") members.coin ++ codes "\n" ++ entry_lines members.entries

unfoldable pub digest_of : MemberList → List ℕ
digest_of members = sha384 (canonical members)

-- the payload of a member's first event, which no ledger reads as transfers
abbrev pub bound_payload : MemberList → List ℕ
bound_payload members = codes "HGM1" ++ digest_of members

-- ---- a journal whose first event is bound so

-- what is signed of this event: its time is 0
abbrev pub first_body : MemberList → ℕ → List ℕ
first_body members own = body_bytes own None 0 (bound_payload members)

-- The first bytes of such a journal: the head behind its open gate, and the record of the event behind its own, up to the
-- signature, whose 64 bytes alone are not known beforehand
unfoldable pub bound_front : MemberList → ℕ → List ℕ
bound_front members own =
    1 ∷ (codes "HGJ1" ++ to_be_bytes w16 (length members.entries) ++ to_be_bytes w16 own
    ++ 1 ∷ 2 ∷ (to_be_bytes w16 (length (first_body members own) + 64) ++ first_body members own))

-- the file begins so
abbrev pub is_bound : MemberList → ℕ → List ℕ → Bool
is_bound members own file = bytes_eq (take (length (bound_front members own)) file) (bound_front members own)

-- ---- members that are bound otherwise

-- a first event by the member, with another payload than this
abbrev pub is_strange_row : List ℕ → ℕ → Row → Bool
is_strange_row bound m row = (row.creator == m) && not (is_some row.parents) && not (bytes_eq row.payload bound)

abbrev pub is_strange : List ℕ → List Row → ℕ → Bool
is_strange bound G m = list_any (is_strange_row bound m) G

-- the members that have such an event among these rows
unfoldable pub strange_in : MemberList → List Row → List ℕ
strange_in members G = list_below (λ m. m) (length members.entries) (is_strange (bound_payload members) G)
