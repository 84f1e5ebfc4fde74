-- A change of the history is recorded: one row and one entry more
use Rattle.std.proofs.Common.{◌≡◌, ℕ, suc, ◌<◌, ◌≤◌, List, [], ◌∷◌, ◌++◌, length, fold, refl, sym, ap, ap₂, ◌∙◌, subst, arith}
use Rattle.std.proofs.lemmas.List.{length_push}
use Rattle.std.proofs.lemmas.List.{length-map}
use Rattle.hg_life.specs.Terms.{row_limit}
use Rattle.hg_life.specs.declared.members.MemberEntry.{MemberEntry}
use Rattle.hg_model.specs.declared.row.Row.{Row}
use Rattle.hg_model.specs.Stakes.{Stakes}
use Rattle.hg_life.specs.Members.{MemberList, IsMemberList}
use Rattle.hg_model.specs.Prefix.{graph_of}
use Rattle.hg_life.specs.declared.entry.Entry.{Entry}
use Rattle.hg_life.specs.declared.entry.Entry.TheVariants as entry
use Rattle.hg_life.specs.History.{Change, State, empty, step, replay, with_row, with_marks}
use Rattle.hg_life.specs.History.Change.{Took, Made, Marked}
use Rattle.hg_model.specs.Links.{Link, links}
use Rattle.hg_model.specs.Fame.{Marks}
use Rattle.hg_life.specs.Kept.{kept}
use Rattle.hg_life.specs.Pay.{book_of}
use Rattle.hg_life.specs.NodeView.{NodeView, with_changes, node_state, node_rows, node_marks, book_kept, log_from, history_of, IsNode, terms_of}
use Rattle.hg_life.specs.Signing.{Accepts}
use Rattle.hg_history.proofs.StateLaws.{replay-push}
use Rattle.hg_history.proofs.SoundLaws.{sound}
use Rattle.hg_history.proofs.LogLaws.{log_spells_history}
use Rattle.hg_node.specs.ChronicleView.{ChronicleView, chronicle_view, no_chronicle, book_in, chronicle_state, node_view, IsRecorded}
use Rattle.hg_life.proofs.MemberLaws.{length-stakes, total_some}

module _ (n : Stakes) (c : ℕ) where
  next : (s : State) (row : Row) → suc (length s.rows) ≡ length (s.rows ++ row ∷ [])
  next s row = omega (arith, length_push s.rows row)

  -- the log from a row on, where that from the next place on is known
  after_row : (s : State) (row : Row) (h more : List Change) (rest : List Entry) → log_from (length (with_row n s row).rows) (h ++ more) ≡ log_from (length (with_row n s row).rows) h ++ rest →
      log_from (suc (length s.rows)) (h ++ more) ≡ log_from (suc (length s.rows)) h ++ rest
  after_row s row h more rest goes_on = subst (λ (place : ℕ). log_from place (h ++ more) ≡ log_from place h ++ rest) (sym (next s row)) goes_on

  -- the log of more events begins at the place that the first ones reach
  log_goes_on : (s : State) (h more : List Change) → log_from (length s.rows) (h ++ more) ≡ log_from (length s.rows) h ++ log_from (length (fold (step n c) s h).rows) more
  log_goes_on s [] more = refl
  log_goes_on s (Took row ∷ h) more = ap (λ (rest : List Entry). entry.Took (length s.rows) ∷ rest) (after_row s row h more _ (log_goes_on (with_row n s row) h more))
  log_goes_on s (Made row ∷ h) more = ap (λ (rest : List Entry). entry.Made (length s.rows) ∷ rest) (after_row s row h more _ (log_goes_on (with_row n s row) h more))
  log_goes_on s (Marked len share ∷ h) more = ap (λ (rest : List Entry). entry.Marked len share ∷ rest) (log_goes_on (with_marks n c s len share) h more)

  log-push : (h more : List Change) → log_from 0 (h ++ more) ≡ log_from 0 h ++ log_from (length (replay n c h).rows) more
  unfolding replay
  log-push h more = log_goes_on empty h more

-- a state from its parts
abbrev state_with : List Row → List Link → Marks → State
state_with G L marks = record { rows = G; links = L; marks = marks }

-- what is recorded is the state of the node
pub state_is : {K : Type 0} (accepts : K → Accepts) (keys : K) (r : ChronicleView) → IsRecorded accepts (node_view keys r) r → node_state (node_view keys r) ≡ chronicle_state r
state_is accepts keys r is =
    let v = node_view keys r in
    let now = sound (terms_of accepts (node_view keys r).start) r.graph.members r.graph.coin r.own v.history is.node.coin is.node.history in
    ap (λ (L : List Link). state_with (node_rows v) L (node_marks v)) (now.linked ∙ ap links is.rows)
    ∙ ap₂ (λ (G : List Row) (marks : Marks). state_with G (links r.graph.rows) marks) is.rows is.marks

-- and its book is that of the node
pub book_is : {K : Type 0} (accepts : K → Accepts) (keys : K) (r : ChronicleView) → IsRecorded accepts (node_view keys r) r → book_kept (node_view keys r) ≡ book_in r
book_is accepts keys r is = ap (λ (s : State). book_of r.balances s.rows (kept r.graph.members s)) (state_is accepts keys r is)

-- what is recorded once a change has come, which an entry tells
abbrev pub recorded_by : ChronicleView → Change → Entry → ChronicleView
recorded_by r e matches =
    let s = step r.graph.members r.graph.coin (chronicle_state r) e in
    chronicle_view r.own r.balances r.limit (graph_of r.graph.members r.graph.coin s.rows) (r.log ++ matches ∷ []) s.marks

-- records of a node, a change, and the entry that tells it
module _ {K : Type 0} (accepts : K → Accepts) (keys : K) (r : ChronicleView) (e : Change) (matches : Entry)
    (tells : log_from (length r.graph.rows) (e ∷ []) ≡ matches ∷ [])
    (is : IsRecorded accepts (node_view keys r) r) where
  v : NodeView K
  v = node_view keys r

  state_after : replay r.graph.members r.graph.coin (v.history ++ e ∷ []) ≡ step r.graph.members r.graph.coin (chronicle_state r) e
  unfolding v
  state_after =
      replay-push r.graph.members r.graph.coin v.history e
      ∙ ap (λ (s : State). step r.graph.members r.graph.coin s e) (state_is accepts keys r is)

  log_after : log_from 0 (v.history ++ e ∷ []) ≡ r.log ++ matches ∷ []
  unfolding v
  log_after =
      log-push r.graph.members r.graph.coin v.history (e ∷ [])
      ∙ (ap₂ (λ (xs : List Entry) (k : ℕ). xs ++ log_from k (e ∷ [])) is.log (ap length is.rows)
      ∙ ap (λ (xs : List Entry). r.log ++ xs) tells)

  -- then the records tell the node with that change
  history_after : history_of (step r.graph.members r.graph.coin (chronicle_state r) e).rows (r.log ++ matches ∷ []) ≡ v.history ++ e ∷ []
  unfolding v
  history_after =
      sym (ap₂ history_of (ap (λ (s : State). s.rows) state_after) log_after) ∙ log_spells_history r.graph.members r.graph.coin (v.history ++ e ∷ [])

  pub shown_after : with_changes (node_view keys r) (e ∷ []) ≡ node_view keys (recorded_by r e matches)
  unfolding v
  shown_after = ap (λ (h : List Change). at h) (sym history_after)
    where
      at : List Change → NodeView K
      at h = record { start = (node_view keys r).start; history = h }

  pub recorded_after : IsNode accepts (with_changes (node_view keys r) (e ∷ [])) → IsRecorded accepts (node_view keys (recorded_by r e matches)) (recorded_by r e matches)
  unfolding v
  recorded_after node =
      subst (λ (w : NodeView K). IsRecorded accepts w (recorded_by r e matches)) shown_after
      (record { node = node; rows = ap (λ (s : State). s.rows) state_after; log = log_after; marks = ap (λ (s : State). s.marks) state_after })

begins : {K : Type 0} (accepts : K → Accepts) (members : MemberList) (own limit : ℕ) (keys : K) → IsMemberList members → own < length members.entries → limit ≤ row_limit →
    IsRecorded accepts (node_view keys (no_chronicle members own limit)) (no_chronicle members own limit)
unfolding replay
begins accepts members own limit keys lawful member low = record {
  node = record {
    few_members = omega (arith, length-stakes members, lawful.few);
    coin = lawful.coin_low;
    balances = length-map members.entries (λ (e : MemberEntry). e.balance) ∙ sym (length-stakes members);
    limit = low;
    history = record { member = omega (arith, length-stakes members, member); stake = total_some members lawful; steps = tt };
  };
  rows = refl;
  log = refl;
  marks = refl;
}

pub recorded_none : {K : Type 0} (accepts : K → Accepts) (members : MemberList) (own limit : ℕ) (keys : K) (r : ChronicleView) → IsMemberList members → own < length members.entries → limit ≤ row_limit →
    r ≡ no_chronicle members own limit → IsRecorded accepts (node_view keys r) r
recorded_none accepts members own limit keys r lawful member low is = rw is (begins accepts members own limit keys lawful member low)
