-- A node as callers see it: what it began with, and its history. All else that it tells is a function of these two
use Rattle.std.specs.Prelude.{ℕ, suc, ◌≡◌, ◌<◌, ◌≤◌, List, [], ◌∷◌, ◌++◌, length, map, get_or}
use Rattle.hg_model.specs.declared.row.Row.{Row}
use Rattle.hg_model.specs.declared.row.Placed.{Placed}
use Rattle.hg_life.specs.declared.entry.Entry.{Entry}
use Rattle.hg_life.specs.declared.entry.Entry.TheVariants as entry
use Rattle.hg_model.specs.Stakes.{Stakes, member_count}
use Rattle.hg_model.specs.Links.{Link, no_row}
use Rattle.hg_model.specs.Fame.{Marks}
use Rattle.hg_model.specs.Order.{last_closed}
use Rattle.hg_life.specs.Members.{MemberList, balances_of, stakes_of}
use Rattle.hg_life.specs.Kept.{kept}
use Rattle.hg_life.specs.Pay.{Book, book_of}
use Rattle.hg_life.specs.History.{Change, State, replay, IsHistory}
use Rattle.hg_life.specs.History.Change.{Took, Made, Marked}
use Rattle.hg_life.specs.Signing.{Accepts}
use Rattle.hg_life.specs.Terms.{Terms, row_limit}

-- what a node begins with and never changes: its own member, the members' stakes, the coin period, the starting
-- balances, how many rows it holds at most, and what it signs with and checks signatures by
pub record Start (K : Type 0) : Type 0 where
  pub own : ℕ
  pub members : Stakes
  pub coin : ℕ
  pub balances : List ℕ
  pub limit : ℕ
  pub keys : K

-- what the node of a member begins with among these members, with these keys and this limit
abbrev pub start_within : {K : Type 0} → MemberList → ℕ → K → ℕ → Start K
start_within members own keys limit = record {
  own = own;
  members = stakes_of members;
  coin = members.coin;
  balances = balances_of members;
  limit = limit;
  keys = keys;
}

-- the same with the greatest limit
abbrev pub start_of : {K : Type 0} → MemberList → ℕ → K → Start K
start_of members own keys = start_within members own keys row_limit

-- on what terms it takes and makes rows, where keys accept these signatures
abbrev pub terms_of : {K : Type 0} → (K → Accepts) → Start K → Terms
terms_of accepts start = record { accepts = accepts start.keys; limit = start.limit }

-- a node: what it began with, and its history
pub record NodeView (K : Type 0) : Type 0 where
  pub start : Start K
  pub history : List Change

-- the node with more changes
abbrev pub with_changes : {K : Type 0} → NodeView K → List Change → NodeView K
with_changes v es = record { start = v.start; history = v.history ++ es }

-- the state that the history leaves
abbrev pub node_state : {K : Type 0} → NodeView K → State
node_state v = replay v.start.members v.start.coin v.history

abbrev pub node_rows : {K : Type 0} → NodeView K → List Row
node_rows v = (node_state v).rows

abbrev pub node_links : {K : Type 0} → NodeView K → List Link
node_links v = (node_state v).links

-- the published marks
abbrev pub node_marks : {K : Type 0} → NodeView K → Marks
node_marks v = (node_state v).marks

-- the greatest round that they close, or 0
abbrev pub last_closed_of : {K : Type 0} → NodeView K → ℕ
last_closed_of v = last_closed v.start.members (node_links v) (node_marks v)

-- the order by the published marks
abbrev pub kept_of : {K : Type 0} → NodeView K → List Placed
kept_of v = kept v.start.members (node_state v)

-- the balances that it leaves, and what came of each of its rows
abbrev pub book_kept : {K : Type 0} → NodeView K → Book
book_kept v = book_of v.start.balances (node_rows v) (kept_of v)

-- the log of a history from the row of this place on: the rows by their places
abbrev pub log_from : ℕ → List Change → List Entry
log_from place [] = []
log_from place (Took row ∷ h) = entry.Took place ∷ log_from (suc place) h
log_from place (Made row ∷ h) = entry.Made place ∷ log_from (suc place) h
log_from place (Marked len share ∷ h) = entry.Marked len share ∷ log_from place h

abbrev pub log : {K : Type 0} → NodeView K → List Entry
log v = log_from 0 v.history

-- the change that an entry of a log tells of these rows
abbrev pub change_of : List Row → Entry → Change
change_of G (entry.Took place) = Took (get_or G place no_row)
change_of G (entry.Made place) = Made (get_or G place no_row)
change_of G (entry.Marked len share) = Marked len share

-- the history that rows and a log tell
abbrev pub history_of : List Row → List Entry → List Change
history_of G entries = map (change_of G) entries

-- what every node is, where these signatures are accepted
pub record IsNode {K : Type 0} (accepts : K → Accepts) (v : NodeView K) : Type 0 where
  pub few_members : member_count v.start.members ≤ 128
  pub coin : 2 < v.start.coin
  pub balances : length v.start.balances ≡ member_count v.start.members
  pub limit : v.start.limit ≤ row_limit
  pub history : IsHistory (terms_of accepts v.start) v.start.members v.start.coin v.start.own v.history
