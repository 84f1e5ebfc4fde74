-- What the calls of a node answer, and the changes that they add: at most one each. SWIRLDS-TR-2016-01, sections 3 and 4
use Rattle.std.specs.Prelude.{ℕ, ◌≡◌, true, cond, ◌==◌, List, [], ◌∷◌, length, Option, None, Result, Ok, Err}
use Rattle.hg_model.specs.declared.row.Row.{Row}
use Rattle.hg_life.specs.declared.answers.ByteFault.{ByteFault}
use Rattle.hg_life.specs.declared.answers.PutAnswer.{PutAnswer}
use Rattle.hg_life.specs.declared.answers.PutAnswer.TheVariants.{Accepted, Known, Refused}
use Rattle.hg_life.specs.declared.answers.MakeAnswer.{MakeAnswer}
use Rattle.hg_life.specs.declared.answers.MakeAnswer.TheVariants as answer
use Rattle.hg_life.specs.Reading.{read_event}
use Rattle.hg_life.specs.Spelling.{body_bytes}
use Rattle.hg_life.specs.Verdict.{verdict, row_verdict, last_name, parents_on, draft_rule, made_row, making}
use Rattle.hg_life.specs.declared.answers.MakeFault.{MakeFault}
use Rattle.hg_model.specs.Shares.{Share, whole}
use Rattle.hg_life.specs.History.{Change, news}
use Rattle.hg_life.specs.History.Change.{Took, Made, Marked}
use Rattle.hg_life.specs.NodeView.{NodeView, terms_of, with_changes, node_state, node_rows, node_marks, kept_of}
use Rattle.hg_life.specs.Signing.{Accepts}
use Rattle.hg_model.specs.Links.{links}
use Rattle.hg_model.specs.Fame.{fame_marks}
use Rattle.hg_model.specs.Order.{coin_at, order_of}

-- what comes of bytes that are put to the node
unfoldable pub put_answer : {K : Type 0} → (K → Accepts) → NodeView K → List ℕ → PutAnswer
put_answer accepts v bytes = verdict (terms_of accepts v.start) v.start.members v.start.own (node_rows v) bytes

abbrev pub taken_by : PutAnswer → Row → List Change
taken_by (Accepted p) row = Took row ∷ []
taken_by (Known p) row = []
taken_by (Refused f) row = []

-- by what was read of the bytes
abbrev pub taken_from : {K : Type 0} → (K → Accepts) → NodeView K → Result Row ByteFault → List Change
taken_from accepts v (Err e) = []
taken_from accepts v (Ok row) = taken_by (row_verdict (terms_of accepts v.start) v.start.members v.start.own (node_rows v) row) row

-- the changes that they add: the row that they spell, where they are accepted
unfoldable pub put_changes : {K : Type 0} → (K → Accepts) → NodeView K → List ℕ → List Change
put_changes accepts v bytes = taken_from accepts v (read_event bytes)

-- what comes of making an event under this signature
unfoldable pub make_answer : {K : Type 0} → NodeView K → List (List ℕ) → ℕ → List ℕ → List ℕ → MakeAnswer
make_answer v others time payload sig = making v.start.limit v.start.own (node_rows v) others time payload sig

abbrev pub made_by : MakeAnswer → Row → List Change
made_by (answer.Made p) row = Made row ∷ []
made_by (answer.Refused f) row = []

-- the changes that it adds: the row, where it is made
unfoldable pub make_changes : {K : Type 0} → NodeView K → List (List ℕ) → ℕ → List ℕ → List ℕ → List Change
make_changes v others time payload sig =
    made_by (make_answer v others time payload sig) (made_row v.start.own (node_rows v) others time payload sig)

-- what the node signs for such an event
unfoldable pub make_body : {K : Type 0} → NodeView K → List (List ℕ) → ℕ → List ℕ → List ℕ
make_body v others time payload = body_bytes v.start.own (parents_on (last_name v.start.own (node_rows v)) others) time payload

-- what is wrong with such an event before it is signed
unfoldable pub make_draft : {K : Type 0} → NodeView K → List (List ℕ) → List ℕ → Option MakeFault
make_draft v others payload = draft_rule v.start.own (node_rows v) others payload

-- the answer and the node after making an event, whichever accepted signature it got; an event that is refused before
-- is not signed
pub record IsMaking {K : Type 0} (accepts : K → Accepts) (old : NodeView K) (others : List (List ℕ)) (time : ℕ) (payload : List ℕ) (answer : MakeAnswer) (new : NodeView K) : Type 0 where
  pub sig : List ℕ
  pub sized : length sig ≡ 64
  pub signed : make_draft old others payload ≡ None → accepts old.start.keys old.start.own (make_body old others time payload) sig ≡ true
  pub answers : answer ≡ make_answer old others time payload sig
  pub grown : new ≡ with_changes old (make_changes old others time payload sig)

-- how many witnesses are marked by publishing what a share finds in the first `len` rows
unfoldable pub publish_answer : {K : Type 0} → NodeView K → ℕ → Share → ℕ
publish_answer v len share = news v.start.members v.start.coin (node_state v) len share

-- the changes that it adds: one, where it marks some
unfoldable pub publish_changes : {K : Type 0} → NodeView K → ℕ → Share → List Change
publish_changes v len share = cond (publish_answer v len share == 0) [] (Marked len share ∷ [])

-- to settle is to publish the fame of the whole graph
abbrev pub settle_changes : {K : Type 0} → NodeView K → List Change
settle_changes v = publish_changes v (length (node_rows v)) whole

-- what a settled node is: its marks are the fame of its graph, and its kept order is the order
pub record IsSettled {K : Type 0} (old new : NodeView K) : Type 0 where
  pub rows : node_rows new ≡ node_rows old
  pub marks : node_marks new ≡ fame_marks old.start.members old.start.coin (links (node_rows old)) (coin_at (node_rows old))
  pub kept : kept_of new ≡ order_of old.start.members old.start.coin (node_rows old)
