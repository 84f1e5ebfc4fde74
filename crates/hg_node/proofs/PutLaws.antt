-- What a put answers, and what it leaves recorded
use Rattle.std.proofs.Common.{◌≡◌, ℕ, ◌<◌, List, [], ◌∷◌, ◌++◌, length, true, Option, Some, None, Result, Ok, Err, refl, sym, ap, ◌∙◌, subst}
use Rattle.std.specs.Prelude.{unwrap_or, IfOk, OnOk, OnErr}
use Rattle.std.specs.Option.{option_or}
use Rattle.hg_model.specs.declared.row.Row.{Row}
use Rattle.hg_life.specs.declared.entry.Entry.TheVariants as entry
use Rattle.hg_life.specs.declared.answers.ByteFault.{ByteFault}
use Rattle.hg_life.specs.declared.answers.Fault.TheVariants as fault
use Rattle.hg_life.specs.declared.answers.PutAnswer.{PutAnswer}
use Rattle.hg_life.specs.declared.answers.PutAnswer.TheVariants.{Accepted, Refused}
use Rattle.hg_model.specs.Graph.{IsGraph}
use Rattle.hg_life.specs.Reading.{read_event}
use Rattle.hg_life.specs.Spelling.{Spells, body_of, spelling}
use Rattle.hg_model.specs.Stakes.{member_count}
use Rattle.hg_life.specs.Verdict.{arrival_rule, forkers_rule, full_rule, verdict_of, row_verdict}
use Rattle.hg_life.specs.History.{Change}
use Rattle.hg_life.specs.History.Change.{Took}
use Rattle.hg_life.specs.NodeView.{NodeView, with_changes, node_rows, IsNode, terms_of}
use Rattle.hg_life.specs.Calls.{put_answer, put_changes, taken_by, taken_from}
use Rattle.hg_life.specs.Signing.{Accepts}
use Rattle.hg_life.proofs.RuleLaws.{option_or_none, has_room}
use Rattle.hg_event.proofs.Reading.{AreBytes}
use Rattle.hg_event.proofs.Spells.{Spells-read_event}
use Rattle.hg_history.proofs.RuleLaws.{rule_accepts_none}
use Rattle.hg_history.proofs.CallLaws.{with_none, other_puts_add_none, puts_leave_a_node}
use Rattle.hg_history.proofs.SoundLaws.{sound}
use Rattle.hg_arrival.proofs.ArrivalLaws.{signed_answer}
use Rattle.hg_node.specs.ChronicleView.{ChronicleView, chronicle_with, node_view, IsRecorded}
use Rattle.hg_node.specs.Puts.{put_rules, signed_put_rules}
use Rattle.hg_node.proofs.RecordLaws.{shown_after, recorded_after}

-- what a node becomes that takes the row
pub record IsTaking {K : Type 0} (accepts : K → Accepts) (v w : NodeView K) (r : ChronicleView) (row : Row) (bytes : List ℕ) : Type 0 where
  pub answer : put_answer accepts v bytes ≡ Accepted (length r.graph.rows)
  pub grown : w ≡ with_changes v (put_changes accepts v bytes)
  pub recorded : IsRecorded accepts w (chronicle_with r row (entry.Took (length r.graph.rows)))
  pub graph : IsGraph r.graph.members (r.graph.rows ++ row ∷ [])
  pub limit : length r.graph.rows < r.limit

-- what a put left recorded, and answered
pub record IsPut {K E : Type 0} (accepts : K → Accepts) (v w : NodeView K) (s : ChronicleView) (bytes : List ℕ) (result : Result PutAnswer E) : Type 0 where
  pub recorded : IsRecorded accepts w s
  pub answer : IfOk result (λ a. a ≡ put_answer accepts v bytes)
  pub ok : OnOk result (w ≡ with_changes v (put_changes accepts v bytes))
  pub free : OnErr result (put_answer accepts v bytes ≡ Accepted (length (node_rows v)))

-- the rows of what is recorded are a graph
pub recorded_graph : {K : Type 0} (accepts : K → Accepts) (keys : K) (r : ChronicleView) → IsRecorded accepts (node_view keys r) r → IsGraph r.graph.members r.graph.rows
recorded_graph accepts keys r is =
    subst (λ (G : List Row). IsGraph r.graph.members G) is.rows
    (sound (terms_of accepts (node_view keys r).start) r.graph.members r.graph.coin r.own (node_view keys r).history is.node.coin is.node.history).graph

-- bytes that are no event's
pub put_faulty : {K : Type 0} (accepts : K → Accepts) (v : NodeView K) (bytes : List ℕ) (e : ByteFault) → read_event bytes ≡ Err e →
    (Refused (fault.Bytes e) ≡ put_answer accepts v bytes) × (v ≡ with_changes v (put_changes accepts v bytes))
unfolding put_answer put_changes
put_faulty accepts v bytes e read = (
  sym (ap (verdict_of (terms_of accepts v.start) v.start.members v.start.own (node_rows v)) read),
  sym (with_none v (put_changes accepts v bytes) (ap (taken_from accepts v) read)),
)

grouped : {A : Type 0} (a b c : Option A) → option_or (option_or a b) c ≡ option_or a (option_or b c)
grouped None b c = refl
grouped (Some x) b c = refl

module _ {K : Type 0} (accepts : K → Accepts) (keys : K) (r : ChronicleView) (bytes : List ℕ) (is : IsRecorded accepts (node_view keys r) r) where
  -- the rules in the order of the verdict
  abbrev rules : Row → Option PutAnswer
  rules row =
      option_or (arrival_rule (accepts keys) r.graph.members r.own r.graph.rows row)
      (option_or (forkers_rule r.graph.members r.graph.rows row) (full_rule r.limit r.graph.rows))

  in_order : (row : Row) → put_rules (accepts keys) r row ≡ rules row
  in_order row = grouped (arrival_rule (accepts keys) r.graph.members r.own r.graph.rows row) (forkers_rule r.graph.members r.graph.rows row) (full_rule r.limit r.graph.rows)

  module _ (row : Row) (read : read_event bytes ≡ Ok row) where
    answer_by : put_answer accepts (node_view keys r) bytes ≡ unwrap_or (rules row) (Accepted (length r.graph.rows))
    unfolding put_answer
    answer_by =
        ap (verdict_of (terms_of accepts (node_view keys r).start) r.graph.members r.own (node_rows (node_view keys r))) read
        ∙ ap (λ (G : List Row). row_verdict (terms_of accepts (node_view keys r).start) r.graph.members r.own G row) is.rows

    -- against which a rule speaks
    pub put_refused : (a : PutAnswer) → Some a ≡ put_rules (accepts keys) r row →
        (a ≡ put_answer accepts (node_view keys r) bytes) × (node_view keys r ≡ with_changes (node_view keys r) (put_changes accepts (node_view keys r) bytes))
    put_refused a is_told =
        let speaks : Some a ≡ rules row = is_told ∙ in_order row in
        let answer : put_answer accepts (node_view keys r) bytes ≡ a = answer_by ∙ ap (λ (o : Option PutAnswer). unwrap_or o (Accepted (length r.graph.rows))) (sym speaks) in (
          sym answer,
          sym (with_none (node_view keys r) (put_changes accepts (node_view keys r) bytes)
              (other_puts_add_none K accepts (node_view keys r) bytes (λ place accepted. rule_accepts_none (terms_of accepts (node_view keys r).start) r.graph.members r.own r.graph.rows row a place (sym speaks) (sym answer ∙ accepted)))),
        )

    -- against which none does
    pub put_taken : AreBytes bytes → None ≡ put_rules (accepts keys) r row → IsTaking accepts (node_view keys r) (node_view keys (chronicle_with r row (entry.Took (length r.graph.rows)))) r row bytes
    unfolding put_changes
    put_taken fit none =
        let silent : None ≡ rules row = none ∙ in_order row in
        let answer : put_answer accepts (node_view keys r) bytes ≡ Accepted (length r.graph.rows) = answer_by ∙ ap (λ (o : Option PutAnswer). unwrap_or o (Accepted (length r.graph.rows))) (sym silent) in
        let by_row : row_verdict (terms_of accepts (node_view keys r).start) r.graph.members r.own (node_rows (node_view keys r)) row ≡ Accepted (length r.graph.rows) =
        ap (λ (G : List Row). row_verdict (terms_of accepts (node_view keys r).start) r.graph.members r.own G row) is.rows ∙ ap (λ (o : Option PutAnswer). unwrap_or o (Accepted (length r.graph.rows))) (sym silent) in
        let events : put_changes accepts (node_view keys r) bytes ≡ Took row ∷ [] = ap (taken_from accepts (node_view keys r)) read ∙ ap (λ (a : PutAnswer). taken_by a row) by_row in
        let node = subst (λ (es : List Change). IsNode accepts (with_changes (node_view keys r) es)) events (puts_leave_a_node K accepts (node_view keys r) bytes fit is.node) in
        let recorded = recorded_after accepts keys r (Took row) (entry.Took (length r.graph.rows)) refl is node in
        let rest = (option_or_none (arrival_rule (accepts keys) r.graph.members r.own r.graph.rows row) _ (sym silent)).1 in
        record {
          answer = answer;
          grown = sym (ap (with_changes (node_view keys r)) events ∙ shown_after accepts keys r (Took row) (entry.Took (length r.graph.rows)) refl is);
          recorded = recorded;
          graph = recorded_graph accepts keys (chronicle_with r row (entry.Took (length r.graph.rows))) recorded;
          limit = has_room r.graph.members r.limit r.graph.rows row rest;
        }

    -- and what is left, whether there was memory for the row or not
    pub put_ends : {E : Type 0} (result : Result PutAnswer E) (s : ChronicleView) → AreBytes bytes → None ≡ put_rules (accepts keys) r row →
        IfOk result (λ a. a ≡ Accepted (length r.graph.rows)) → OnOk result (s ≡ chronicle_with r row (entry.Took (length r.graph.rows))) → OnErr result (s ≡ r) → IsPut accepts (node_view keys r) (node_view keys s) s bytes result
    put_ends (Ok a) s fit silent answer ok err =
        let taking = put_taken fit silent in
        record {
          recorded = subst (λ (t : ChronicleView). IsRecorded accepts (node_view keys t) t) (sym ok) taking.recorded;
          answer = answer ∙ sym taking.answer;
          ok = ap (node_view keys) ok ∙ taking.grown;
          free = tt;
        }
    put_ends (Err e) s fit silent answer ok err = record {
      recorded = subst (λ (t : ChronicleView). IsRecorded accepts (node_view keys t) t) (sym err) is;
      answer = tt;
      ok = tt;
      free = (put_taken fit silent).answer ∙ ap (λ (G : List Row). Accepted (length G)) (sym is.rows);
    }

    -- the same, by what the chronicle was that was lent
    pub put_ends_as : {E : Type 0} (result : Result PutAnswer E) (s t : ChronicleView) → t ≡ r → AreBytes bytes → None ≡ put_rules (accepts keys) r row →
        IfOk result (λ a. a ≡ Accepted (length t.graph.rows)) → OnOk result (s ≡ chronicle_with t row (entry.Took (length t.graph.rows))) → OnErr result (s ≡ t) → IsPut accepts (node_view keys r) (node_view keys s) s bytes result
    put_ends_as result s t same fit silent answer ok err =
        put_ends result s fit silent (subst (λ (x : ChronicleView). IfOk result (λ a. a ≡ Accepted (length x.graph.rows))) same answer)
        (subst (λ (x : ChronicleView). OnOk result (s ≡ chronicle_with x row (entry.Took (length x.graph.rows)))) same ok)
        (subst (λ (x : ChronicleView). OnErr result (s ≡ x)) same err)

-- an event of a member, whose signature the keys accept, as it stands at another node
module _ {K : Type 0} (accepts : K → Accepts) (keys : K) (r : ChronicleView) {v : NodeView K} (view : node_view keys r ≡ v) (is : IsRecorded accepts (node_view keys r) r)
    {event row : Row} (of_row : event ≡ row) (spells : Spells (spelling event) event) (member : row.creator < member_count v.start.members)
    (signed : accepts v.start.keys row.creator (body_of row) row.sig ≡ true) (asked : ChronicleView) (same : asked ≡ r) where
  event_read : read_event (spelling row) ≡ Ok row
  event_read = Spells-read_event (spelling row) row (subst (λ (e : Row). Spells (spelling e) e) of_row spells)

  event_rules : (o : Option PutAnswer) → o ≡ signed_put_rules asked row → o ≡ put_rules (accepts keys) r row
  event_rules o is_told =
      let here : row.creator < member_count r.graph.members = subst (λ (w : NodeView K). row.creator < member_count w.start.members) (sym view) member in
      let accepted : accepts keys row.creator (body_of row) row.sig ≡ true =
      subst (λ (w : NodeView K). accepts w.start.keys row.creator (body_of row) row.sig ≡ true) (sym view) signed in
      is_told
      ∙ (ap (λ (t : ChronicleView). signed_put_rules t row) same
      ∙ ap (λ (p : Option PutAnswer). option_or p (full_rule r.limit r.graph.rows)) (signed_answer (accepts keys) (Some r.own) r.graph row here accepted))

  pub event_refused : (a : PutAnswer) → Some a ≡ signed_put_rules asked row →
      (a ≡ put_answer accepts (node_view keys r) (spelling row)) × (node_view keys r ≡ with_changes (node_view keys r) (put_changes accepts (node_view keys r) (spelling row)))
  event_refused a is_told = put_refused accepts keys r (spelling row) is row event_read a (event_rules (Some a) is_told)

  module _ (bytes : List ℕ) (whole : bytes ≡ spelling row) (fit : AreBytes bytes) (silent : None ≡ signed_put_rules asked row) where
    pub event_taken : IsTaking accepts (node_view keys r) (node_view keys (chronicle_with r row (entry.Took (length r.graph.rows)))) r row (spelling row)
    event_taken = put_taken accepts keys r (spelling row) is row event_read (subst AreBytes whole fit) (event_rules None silent)

    pub event_ends : {E : Type 0} (result : Result PutAnswer E) (s t : ChronicleView) → t ≡ r →
        IfOk result (λ a. a ≡ Accepted (length t.graph.rows)) → OnOk result (s ≡ chronicle_with t row (entry.Took (length t.graph.rows))) → OnErr result (s ≡ t) →
        IsPut accepts (node_view keys r) (node_view keys s) s (spelling row) result
    event_ends result s t equal answer ok err = put_ends_as accepts keys r (spelling row) is row event_read result s t equal (subst AreBytes whole fit) (event_rules None silent) answer ok err
