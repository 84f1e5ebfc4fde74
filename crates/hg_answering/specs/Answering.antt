-- What a node answers to a request, and what it is then
use Rattle.std.specs.Prelude.{ℕ, suc, ◌≡◌, Bool, false, ◌&&◌, ◌||◌, ◌==◌, not, if◌then◌else◌, List, [], ◌∷◌, length, drop, slice_get, Option, Some, None, option_map, unwrap_or, Result, Ok, Err}
use Rattle.std.specs.List.{list_any}
use Rattle.hg_model.specs.Shares.{whole}
use Rattle.hg_model.specs.declared.row.Row.{Row}
use Rattle.hg_life.specs.Calls.{IsMaking, publish_answer, settle_changes}
use Rattle.hg_life.specs.Members.{MemberList}
use Rattle.hg_life.specs.NodeView.{NodeView, node_rows, with_changes}
use Rattle.hg_life.specs.Signing.{Accepts}
use Rattle.hg_life.specs.Spelling.{spelling}
use Rattle.hg_life.specs.declared.answers.MakeAnswer.{MakeAnswer}
use Rattle.hg_life.specs.declared.answers.MakeAnswer.TheVariants as make_answer
use Rattle.hg_life.specs.declared.answers.MakeFault.TheVariants as make_fault
use Rattle.hg_node.specs.ChronicleView.{last_own_place}
use Rattle.hg_node.specs.Next.{last_other}
use Rattle.hg_proof.specs.Least.{Proves}
use Rattle.hg_service.specs.Asking.{request_of}
use Rattle.hg_service.specs.declared.answer.Answer.{Answer}
use Rattle.hg_service.specs.declared.answer.Answer.TheVariants as answer
use Rattle.hg_service.specs.declared.answer.NotMade.{NotMade}
use Rattle.hg_service.specs.declared.answer.NotMade.TheVariants as not_made
use Rattle.hg_service.specs.declared.request.LineFault.{LineFault}
use Rattle.hg_service.specs.declared.request.ServiceRequest.{ServiceRequest}
use Rattle.hg_service.specs.declared.request.ServiceRequest.TheVariants as request
use Rattle.hg_answering.specs.Putting.{PutTally, Putting, has_impostor, puts, restores}
use Rattle.hg_answering.specs.Telling.{balances_told, beyond_told, events_told, heads, members_told, order_told, state_told}

-- a node that answers, and whether it has refused, since it was opened, an event by its own member that it did not make
pub record ServiceView (K : Type 0) : Type 0 where
  pub node : NodeView K
  pub impostor : Bool

abbrev pub just_opened : {K : Type 0} → NodeView K → ServiceView K
just_opened v = record { node = v; impostor = false }

-- the same with another node
abbrev pub with_node : {K : Type 0} → ServiceView K → NodeView K → ServiceView K
with_node s w = record { node = w; impostor = s.impostor }

-- ---- events that are put, or come back

abbrev pub after_putting : {K : Type 0} → ServiceView K → Putting K → ServiceView K
after_putting s p = record { node = p.node; impostor = s.impostor || has_impostor p.tally.refused }

abbrev pub put_told : {K : Type 0} → NodeView K → PutTally → Answer
put_told v t = answer.Put (length (node_rows v)) t.accepted t.known t.refused

abbrev pub restored_told : {K : Type 0} → NodeView K → PutTally → Answer
restored_told v t = answer.Restored (length (node_rows v)) t.accepted t.known t.refused

-- ---- an event that is made

-- all rows behind this place are by the member
abbrev pub is_last_of_all : ℕ → List Row → ℕ → Bool
is_last_of_all own G p = not (list_any (λ (row : Row). not (row.creator == own)) (drop (suc p) G))

-- the other-parent behind the node's last row at this place, or why there is none
abbrev pub next_on : ℕ → List Row → List ℕ → ℕ → Option (List ℕ) → Result (List (List ℕ)) NotMade
next_on own G payload p None = Err not_made.PeerBare
next_on own G payload p (Some name) =
    if (length payload == 0) && is_last_of_all own G p then Err not_made.Idle else Ok (name ∷ [])

-- a node without a row of its own makes none so: its first one is made when it is opened anew
abbrev pub next_behind : ℕ → List Row → List ℕ → Option ℕ → Result (List (List ℕ)) NotMade
next_behind own G payload None = Err (not_made.Fault make_fault.NoFirst)
next_behind own G payload (Some p) = next_on own G payload p (last_other own G)

-- on the rows of the names that are given, or else on the last row by another member
abbrev pub chosen_others : {K : Type 0} → NodeView K → List ℕ → List (List ℕ) → Result (List (List ℕ)) NotMade
chosen_others v payload (name ∷ names) = Ok (name ∷ names)
chosen_others v payload [] =
    next_behind v.start.own (node_rows v) payload (last_own_place v.start.own (node_rows v))

-- none after an event by an impostor
abbrev pub others_for : {K : Type 0} → ServiceView K → List ℕ → List (List ℕ) → Result (List (List ℕ)) NotMade
others_for s payload names = if s.impostor then Err not_made.Impostor else chosen_others s.node payload names

-- the bytes of the row at this place
abbrev pub event_at : {K : Type 0} → NodeView K → ℕ → List ℕ
event_at v place = unwrap_or (option_map spelling (slice_get (node_rows v) place)) []

abbrev pub made_told : {K : Type 0} → NodeView K → MakeAnswer → Answer
made_told w (make_answer.Made place) = answer.Made place (event_at w place)
made_told w (make_answer.Refused f) = answer.NotMade (not_made.Fault f)

-- none was to be made, and this is told; or one was made on these, or refused, and that is
abbrev pub MakesOn : {K : Type 0} → (K → Accepts) → ServiceView K → Result (List (List ℕ)) NotMade → ℕ → List ℕ → Answer → ServiceView K → Type 0
MakesOn accepts s (Err why) time payload a t = (a ≡ answer.NotMade why) × (t ≡ s)
MakesOn accepts s (Ok others) time payload a t =
    (made : MakeAnswer) × IsMaking accepts s.node others time payload made t.node
    × (t.impostor ≡ s.impostor) × (a ≡ made_told t.node made)

-- ---- every request

-- the node once all is published that its graph decides, and how many witnesses that marks
abbrev pub settled : {K : Type 0} → NodeView K → NodeView K
settled v = with_changes v (settle_changes v)

abbrev pub settled_told : {K : Type 0} → NodeView K → Answer
settled_told v = answer.Settled (publish_answer v (length (node_rows v)) whole)

-- a certificate of the node's whole order is told
abbrev pub TellsProof : {K : Type 0} → (K → Accepts) → NodeView K → Answer → Type 0
TellsProof accepts v a = (bytes : List ℕ) × Proves accepts v bytes × (a ≡ answer.Proof bytes)

-- this is told, and nothing changes
abbrev pub Tells : {K : Type 0} → Answer → ServiceView K → Answer → ServiceView K → Type 0
Tells told s a t = (a ≡ told) × (t ≡ s)

-- To the request r the node s answers a, and is t then. Whatever signature the node's keys accept an event may get, and so more
-- than one answer may be right
abbrev pub Answers : {K : Type 0} → (K → Accepts) → MemberList → ServiceView K → ServiceRequest → Answer → ServiceView K → Type 0
Answers accepts members s request.Members a t = Tells (members_told members s.node) s a t
Answers accepts members s request.State a t = Tells (state_told members s.node s.impostor) s a t
Answers accepts members s request.Heads a t = Tells (answer.Heads (heads s.node)) s a t
Answers accepts members s (request.Beyond place limit names) a t = Tells (beyond_told s.node place limit names) s a t
Answers accepts members s (request.Order first limit) a t = Tells (order_told s.node first limit) s a t
Answers accepts members s (request.Events place limit) a t = Tells (events_told s.node place limit) s a t
Answers accepts members s request.Balances a t = Tells (balances_told s.node) s a t
Answers accepts members s request.Proof a t = TellsProof accepts s.node a × (t ≡ s)
Answers accepts members s (request.Put events) a t =
    let p = puts accepts s.node events in (a ≡ put_told s.node p.tally) × (t ≡ after_putting s p)
Answers accepts members s (request.Restore events) a t =
    let p = restores accepts s.node events in (a ≡ restored_told s.node p.tally) × (t ≡ after_putting s p)
Answers accepts members s (request.Make time payload names) a t = MakesOn accepts s (others_for s payload names) time payload a t
Answers accepts members s request.Settle a t = (a ≡ settled_told s.node) × (t ≡ with_node s (settled s.node))

-- the same of what was read of a line: where that is no request, the fault is told
abbrev pub AnswersRead : {K : Type 0} → (K → Accepts) → MemberList → ServiceView K → Result ServiceRequest LineFault → Answer → ServiceView K → Type 0
AnswersRead accepts members s (Err fault) a t = Tells (answer.Bad fault) s a t
AnswersRead accepts members s (Ok r) a t = Answers accepts members s r a t

abbrev pub AnswersLine : {K : Type 0} → (K → Accepts) → MemberList → ServiceView K → List ℕ → Answer → ServiceView K → Type 0
AnswersLine accepts members s line a t = AnswersRead accepts members s (request_of members line) a t
