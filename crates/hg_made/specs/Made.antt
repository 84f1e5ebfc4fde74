-- Members and the lines of a script, made from a number
use Rattle.std.specs.Prelude.{ℕ, zero, suc, true, ◌+◌, ◌-◌, ◌%◌, cond, nat_lt, List, [], ◌∷◌, ◌++◌, codes}
use Rattle.std.specs.Fmt.{decimal}
use Rattle.std.specs.Int.{w64, to_be_bytes}
use Rattle.hg_life.specs.declared.members.MemberEntry.{MemberEntry}
use Rattle.hg_life.specs.declared.pay.Transfer.{Transfer}
use Rattle.hg_life.specs.Members.{MemberList, listed}
use Rattle.hg_life.specs.Pay.{pay_bytes}
use Rattle.hg_model.specs.Places.{table}
use Rattle.hg_script.specs.declared.line.Part.TheVariants as part
use Rattle.hg_script.specs.declared.line.Action.TheVariants as action
use Rattle.hg_script.specs.declared.line.Gossip.{Gossip}
use Rattle.hg_script.specs.declared.line.Gossip.TheVariants.{Create, Sync}
use Rattle.hg_script.specs.declared.line.Line.{Line}
use Rattle.hg_made.specs.Draws.{drawn, state_after}

-- ---- members

-- m0, m1 and so on
abbrev pub member_name : ℕ → List ℕ
member_name i = codes "m" ++ decimal i

-- the seed and the member's number, eight bytes each
abbrev pub member_secret : ℕ → ℕ → List ℕ
member_secret seed i = to_be_bytes w64 seed ++ to_be_bytes w64 i

abbrev pub made_member : ℕ → ℕ → MemberEntry
made_member seed i = record { name = member_name i; secret = member_secret seed i; balance = 1000; stake = 1; has_node = true }

-- so many members, of whom each has a node
abbrev pub made_members : ℕ → ℕ → MemberList
made_members seed n = listed (table (made_member seed) n) 10

-- ---- lines of n members, from a state of the draws

-- a number below n - 1 as that of a member, of n, who is another than the taker
abbrev pub peer_of : ℕ → ℕ → ℕ
peer_of taker b = cond (nat_lt b taker) b (b + 1)

-- the third draw is the amount, and the fourth the receiver
abbrev pub made_transfer : ℕ → ℕ → Transfer
made_transfer n x = record { receiver = drawn x 4 % n; amount = drawn x 3 % 20 }

-- the first draw is who takes, and the second from whom
abbrev pub made_sync : ℕ → ℕ → ℕ → Gossip
made_sync n x time =
    let taker = drawn x 1 % n in
    Sync taker (peer_of taker (drawn x 2 % (n - 1))) time (pay_bytes (made_transfer n x ∷ []))

-- line j, the first being 0: each member makes its first event, and from then on there are syncs
abbrev pub made_gossip : ℕ → ℕ → ℕ → Gossip
made_gossip n x j = cond (nat_lt j n) (Create j (j + 1) []) (made_sync n x (j + 1))

-- a sync has four draws
abbrev pub state_behind : ℕ → ℕ → ℕ → ℕ
state_behind n x j = cond (nat_lt j n) x (state_after x 4)

-- numbered from 1, as a script of these lines would be
abbrev pub made_line : ℕ → ℕ → ℕ → Line
made_line n x j = record { number = j + 1; action = action.Part (part.Gossip (made_gossip n x j)) }

-- the state of the draws, and the lines so far
pub record Making : Type 0 where
  pub state : ℕ
  pub lines : List Line

abbrev pub with_line : ℕ → ℕ → Making → Making
with_line n j m = record { state = state_behind n m.state j; lines = m.lines ++ made_line n m.state j ∷ [] }

-- the first lines, so many of them
abbrev pub first_lines : ℕ → ℕ → ℕ → Making
first_lines seed n zero = record { state = seed; lines = [] }
first_lines seed n (suc j) = with_line n j (first_lines seed n j)

-- lines of n members that are made one after the other: the state of the draws, how many were made, and how many are left
pub record MadeView : Type 0 where
  pub members : ℕ
  pub state : ℕ
  pub made : ℕ
  pub left : ℕ

abbrev pub lines_at : ℕ → ℕ → ℕ → ℕ → MadeView
lines_at n x j left = record { members = n; state = x; made = j; left = left }

-- so many lines from line j on
abbrev pub lines_from : ℕ → ℕ → ℕ → ℕ → List Line
lines_from n x j zero = []
lines_from n x j (suc left) = made_line n x j ∷ lines_from n (state_behind n x j) (j + 1) left

abbrev pub lines_to_come : MadeView → List Line
lines_to_come v = lines_from v.members v.state v.made v.left

-- so many members, and so many lines for them
unfoldable pub generate : ℕ → ℕ → ℕ → MemberList × List Line
generate seed n lines = (made_members seed n, (first_lines seed n lines).lines)
