-- What became of the rows that the members' nodes took, by names
use Rattle.std.specs.Prelude.{ℕ, ◌≡◌, ◌<◌, ◌≤◌, ◌⊎◌, ⊤, IsTrue, List, [], ◌∷◌, All, length, map, take, get_or, Option, Some, None, slice_get}
use Rattle.hg_model.specs.declared.row.Row.{Row}
use Rattle.hg_model.specs.Held.{is_held}
use Rattle.hg_life.specs.declared.answers.PutAnswer.TheVariants.{Refused}
use Rattle.hg_life.specs.History.{Change}
use Rattle.hg_life.specs.History.Change.{Took}
use Rattle.hg_life.specs.NodeView.{NodeView, node_rows}
use Rattle.hg_life.specs.Calls.{put_answer}
use Rattle.hg_life.specs.Signing.{accepts_by}
use Rattle.hg_life.specs.Spelling.{spelling}
use Rattle.hg_mail.specs.declared.message.Message.{Message}
use Rattle.hg_board.specs.Table.{node_at}
use Rattle.hg_board.specs.Seats.{SharedNode}
use Rattle.hg_storm.specs.declared.plan.Plan.{Plan}
use Rattle.hg_storm.specs.declared.desk.Log.{Log}
use Rattle.hg_storm.specs.declared.taking.RefusedMessage.{RefusedMessage}
use Rattle.hg_storm.specs.declared.mails.Mail.{Mail}
use Rattle.hg_storm.specs.declared.refusals.Refusal.{Refusal}
use Rattle.hg_storm.specs.Fates.{no_message}
use Rattle.hg_storm.specs.Joins.{CountsTurns}
use Rattle.hg_storm.specs.Keeping.{Secrets}
use Rattle.hg_storm.specs.Mails.{names_in, pair_of}

-- a row of this name is among those refused that this member sent
abbrev pub IsRefusedName : ℕ → List ℕ → List Refusal → Type 0
IsRefusedName from name [] = ⊥
IsRefusedName from name (r ∷ rs) = ((r.from ≡ from) × (r.name ≡ name)) ⊎ IsRefusedName from name rs

-- no row of a sender's is told twice
abbrev pub AreToldOnce : List Refusal → Type 0
AreToldOnce [] = ⊤
AreToldOnce (r ∷ rs) = (IsRefusedName r.from r.name rs → ⊥) × AreToldOnce rs

-- the node with these changes has a row of this name, or it refused that which the member sent
abbrev pub HasOrRefused : SharedNode Secrets → List Change → List Refusal → ℕ → List ℕ → Type 0
HasOrRefused p history refused from name = IsRefusedName from name refused ⊎ IsTrue (is_held (node_rows (node_at p.start history)) name)

-- the mail of one member to another, by its place
pub record IsMailAt (mails : List Mail) (from to place : ℕ) (m : Mail) : Type 0 where
  pub here : slice_get mails place ≡ Some m
  pub pair : pair_of m ≡ (from, to)

-- of the mails to a member one has this name among those that were taken
pub record IsOfMail (mails : List Mail) (to : ℕ) (name : List ℕ) : Type 0 where
  pub from : ℕ
  pub place : ℕ
  pub mail : Mail
  pub at : IsMailAt mails from to place mail
  pub number : ℕ
  pub taken : slice_get mail.taken.items number ≡ Some name

-- The member's node refused a row so, at the first changes of its history: the row stands among those that it took of the sender's,
-- and each of these that stands before it was refused too, or held then.
pub record IsRefusal (mails : List Mail) (to : ℕ) (p : SharedNode Secrets) (history : List Change) (refused : List Refusal) (r : Refusal) (sender : NodeView Secrets) : Type 0 where
  pub place : ℕ
  pub mail : Mail
  pub at : IsMailAt mails r.from to place mail
  pub number : ℕ
  pub taken : slice_get mail.taken.items number ≡ Some r.name
  pub within : r.at ≤ length history
  pub row : Row
  pub sent : slice_get (node_rows sender) number ≡ Some row
  pub name : row.name ≡ r.name
  pub verdict : put_answer accepts_by (node_at p.start (take r.at history)) (spelling row) ≡ Refused r.why
  pub before : (x : ℕ) (name : List ℕ) → x < number → slice_get mail.taken.items x ≡ Some name → HasOrRefused p (take r.at history) refused r.from name

-- Of one member, whose node is this: its own rows, each of which is a turn's, and its turns that made none are as many as all its
-- turns; of the rows that it took of each other's, each is held or was refused; each row that it refused is told, once; and each that
-- it took is one that came by a mail.
pub record HasTakenNames (plan : Plan) (nodes : List (NodeView Secrets)) (mails : List Mail) (k : ℕ) (p : SharedNode Secrets) (node : NodeView Secrets) (idle : ℕ) (refused : List Refusal) : Type 0 where
  pub turns : CountsTurns plan k p node idle
  pub taken : All (λ (m : Mail). m.to ≡ k → All (HasOrRefused p node.history refused m.from) m.taken.items) mails
  pub refusals : All (λ (r : Refusal). (v : NodeView Secrets) → IsRefusal mails k p node.history refused r (get_or nodes r.from v)) refused
  pub once : AreToldOnce refused
  pub took : (q : ℕ) (row : Row) → slice_get node.history q ≡ Some (Took row) → IsOfMail mails k row.name

-- ---- by what the threads told

-- a message that was taken, by its place
abbrev pub message_at : List Message → ℕ → Message
message_at taken j = get_or taken j no_message

-- the name of a row of the node of its sender
abbrev pub name_of : Option (NodeView Secrets) → ℕ → List ℕ
name_of None number = []
name_of (Some v) number = get_or (names_in v) number []

abbrev pub name_sent : List (NodeView Secrets) → Message → List ℕ
name_sent nodes m = name_of (slice_get nodes m.from) m.number

-- a refused message by the name of the row that it carries
abbrev pub refusal_of : List (NodeView Secrets) → List Message → RefusedMessage → Refusal
refusal_of nodes taken r = record { from = (message_at taken r.index).from; name = name_sent nodes (message_at taken r.index); why = r.why; at = r.at }

abbrev pub refusals_of : List (NodeView Secrets) → Log → List Refusal
refusals_of nodes g = map (refusal_of nodes g.intake.taken.items) g.intake.refused.items

-- it carries a row of a member's node
pub record HasRow (nodes : List (NodeView Secrets)) (taken : List Message) (r : RefusedMessage) : Type 0 where
  pub index : r.index < length taken
  pub from : (message_at taken r.index).from < length nodes
  pub number : (v : NodeView Secrets) → (message_at taken r.index).number < length (node_rows (get_or nodes (message_at taken r.index).from v))

abbrev pub HaveRows : List (NodeView Secrets) → Log → Type 0
HaveRows nodes g = All (HasRow nodes g.intake.taken.items) g.intake.refused.items
