-- What comes of an event that comes back to the node that made it, and what it leaves recorded
use Rattle.std.proofs.Common.{◌≡◌, ℕ, ◌<◌, List, [], ◌∷◌, ◌++◌, length, true, false, Bool, cond, Option, Some, None, Result, Ok, Err, refl, sym, ap, ◌∙◌, subst}
use Rattle.std.specs.Prelude.{unwrap_or, IfOk, OnOk, OnErr}
use Rattle.std.specs.Option.{option_or}
use Rattle.std.proofs.lemmas.Bool.{eq-eqb}
use Rattle.hg_model.specs.declared.row.Row.{Row}
use Rattle.hg_life.specs.declared.entry.Entry.TheVariants as entry
use Rattle.hg_life.specs.declared.answers.ByteFault.{ByteFault}
use Rattle.hg_life.specs.declared.answers.Fault.TheVariants as fault
use Rattle.hg_life.specs.declared.answers.PutAnswer.{PutAnswer}
use Rattle.hg_life.specs.declared.answers.PutAnswer.TheVariants.{Accepted, Refused}
use Rattle.hg_model.specs.Graph.{IsGraph}
use Rattle.hg_life.specs.Reading.{read_event}
use Rattle.hg_life.specs.Verdict.{member_rule, name_rule, signature_rule, forkers_rule, full_rule}
use Rattle.hg_life.specs.History.{Change}
use Rattle.hg_life.specs.History.Change.{Made}
use Rattle.hg_life.specs.NodeView.{NodeView, with_changes, node_rows, IsNode, terms_of}
use Rattle.hg_life.specs.Signing.{Accepts}
use Rattle.hg_life.proofs.RuleLaws.{option_or_none, has_room}
use Rattle.hg_event.proofs.Reading.{AreBytes}
use Rattle.hg_history.proofs.CallLaws.{with_none}
use Rattle.hg_arrival.specs.Arrival.{arrival_by, impostor_by, parents_rule}
use Rattle.hg_node.specs.ChronicleView.{ChronicleView, chronicle_with, node_view, IsRecorded}
use Rattle.hg_node.specs.Puts.{back_rules}
use Rattle.hg_node.specs.Restore.{impostor_in, is_next_own, restore_rules, restore_verdict, restore_verdict_of, restored_by, restored_from, restore_answer, restore_changes}
use Rattle.hg_node.proofs.ReplayLaws.{restores_leave_a_node, restored_other}
use Rattle.hg_node.proofs.PutLaws.{recorded_graph}
use Rattle.hg_node.proofs.RecordLaws.{shown_after, recorded_after}

-- what a node becomes that takes the row as one that it made
pub record IsRestoring {K : Type 0} (accepts : K → Accepts) (v w : NodeView K) (r : ChronicleView) (row : Row) (bytes : List ℕ) : Type 0 where
  pub answer : restore_answer accepts v bytes ≡ Accepted (length r.graph.rows)
  pub grown : w ≡ with_changes v (restore_changes accepts v bytes)
  pub recorded : IsRecorded accepts w (chronicle_with r row (entry.Made (length r.graph.rows)))
  pub graph : IsGraph r.graph.members (r.graph.rows ++ row ∷ [])
  pub limit : length r.graph.rows < r.limit

-- what a restoring left recorded, and answered
pub record IsRestored {K E : Type 0} (accepts : K → Accepts) (v w : NodeView K) (s : ChronicleView) (bytes : List ℕ) (result : Result PutAnswer E) : Type 0 where
  pub recorded : IsRecorded accepts w s
  pub answer : IfOk result (λ a. a ≡ restore_answer accepts v bytes)
  pub ok : OnOk result (w ≡ with_changes v (restore_changes accepts v bytes))
  pub free : OnErr result (restore_answer accepts v bytes ≡ Accepted (length (node_rows v)))

-- bytes that are no event's
pub restore_faulty : {K : Type 0} (accepts : K → Accepts) (v : NodeView K) (bytes : List ℕ) (e : ByteFault) → read_event bytes ≡ Err e →
    (Refused (fault.Bytes e) ≡ restore_answer accepts v bytes) × (v ≡ with_changes v (restore_changes accepts v bytes))
unfolding restore_answer restore_changes
restore_faulty accepts v bytes e read = (
  sym (ap (restore_verdict_of (terms_of accepts v.start) v.start.members v.start.own (node_rows v)) read),
  sym (with_none v (restore_changes accepts v bytes) (ap (restored_from accepts v) read)),
)

-- the rule on impostors, at the node of whoever would find one
impostor_is : (next : Bool) (row : Row) → impostor_by (cond next None (Some row.creator)) row ≡ cond next None (Some (Refused fault.Impostor))
impostor_is true row = refl
impostor_is false row = ap (λ (b : Bool). cond b (Some (Refused fault.Impostor)) None) (eq-eqb row.creator row.creator refl)

grouped : {A : Type 0} (a b c : Option A) → option_or (option_or a b) c ≡ option_or a (option_or b c)
grouped None b c = refl
grouped (Some x) b c = refl

-- the rules in the order of the verdict
pub back_in_order : (accepts : Accepts) (r : ChronicleView) (row : Row) → back_rules accepts r row ≡ restore_rules (record { accepts = accepts; limit = r.limit }) r.graph.members r.own r.graph.rows row
back_in_order accepts r row =
    grouped (arrival_by accepts (impostor_in r.own r.graph.rows row) r.graph row) (forkers_rule r.graph.members r.graph.rows row) (full_rule r.limit r.graph.rows)
    ∙ ap (λ (rule : Option PutAnswer). option_or
    (option_or (member_rule r.graph.members row) (option_or (name_rule r.graph.rows row) (option_or (signature_rule accepts row) (option_or rule (parents_rule r.graph.rows row)))))
    (option_or (forkers_rule r.graph.members r.graph.rows row) (full_rule r.limit r.graph.rows))) (impostor_is (is_next_own r.own r.graph.rows row) row)

module _ {K : Type 0} (accepts : K → Accepts) (keys : K) (r : ChronicleView) (bytes : List ℕ) (is : IsRecorded accepts (node_view keys r) r) where
  abbrev rules : Row → Option PutAnswer
  rules row = restore_rules (terms_of accepts (node_view keys r).start) r.graph.members r.own r.graph.rows row

  module _ (row : Row) (read : read_event bytes ≡ Ok row) where
    verdict_by : restore_verdict (terms_of accepts (node_view keys r).start) r.graph.members r.own (node_rows (node_view keys r)) row ≡ unwrap_or (rules row) (Accepted (length r.graph.rows))
    verdict_by = ap (λ (G : List Row). restore_verdict (terms_of accepts (node_view keys r).start) r.graph.members r.own G row) is.rows

    answer_by : restore_answer accepts (node_view keys r) bytes ≡ unwrap_or (rules row) (Accepted (length r.graph.rows))
    unfolding restore_answer
    answer_by = ap (restore_verdict_of (terms_of accepts (node_view keys r).start) r.graph.members r.own (node_rows (node_view keys r))) read ∙ verdict_by

    -- against which a rule speaks
    pub restore_refused : (a : PutAnswer) → Some a ≡ rules row →
        (a ≡ restore_answer accepts (node_view keys r) bytes) × (node_view keys r ≡ with_changes (node_view keys r) (restore_changes accepts (node_view keys r) bytes))
    unfolding restore_changes
    restore_refused a speaks =
        let here : restore_verdict (terms_of accepts (node_view keys r).start) r.graph.members r.own (node_rows (node_view keys r)) row ≡ a = verdict_by ∙ ap (λ (o : Option PutAnswer). unwrap_or o (Accepted (length r.graph.rows))) (sym speaks) in
        let none : restore_changes accepts (node_view keys r) bytes ≡ [] =
        ap (restored_from accepts (node_view keys r)) read ∙ (ap (λ (b : PutAnswer). restored_by b row) here ∙ restored_other (terms_of accepts (node_view keys r).start) r.graph.members r.own r.graph.rows row a (sym speaks)) in (
          sym here ∙ (verdict_by ∙ sym answer_by),
          sym (with_none (node_view keys r) (restore_changes accepts (node_view keys r) bytes) none),
        )

    -- against which none does
    pub restore_taken : AreBytes bytes → None ≡ rules row → IsRestoring accepts (node_view keys r) (node_view keys (chronicle_with r row (entry.Made (length r.graph.rows)))) r row bytes
    unfolding restore_changes
    restore_taken fit silent =
        let answer : restore_answer accepts (node_view keys r) bytes ≡ Accepted (length r.graph.rows) = answer_by ∙ ap (λ (o : Option PutAnswer). unwrap_or o (Accepted (length r.graph.rows))) (sym silent) in
        let by_row : restore_verdict (terms_of accepts (node_view keys r).start) r.graph.members r.own (node_rows (node_view keys r)) row ≡ Accepted (length r.graph.rows) =
        verdict_by ∙ ap (λ (o : Option PutAnswer). unwrap_or o (Accepted (length r.graph.rows))) (sym silent) in
        let events : restore_changes accepts (node_view keys r) bytes ≡ Made row ∷ [] = ap (restored_from accepts (node_view keys r)) read ∙ ap (λ (a : PutAnswer). restored_by a row) by_row in
        let node = subst (λ (es : List Change). IsNode accepts (with_changes (node_view keys r) es)) events (restores_leave_a_node K accepts (node_view keys r) bytes fit is.node) in
        let recorded = recorded_after accepts keys r (Made row) (entry.Made (length r.graph.rows)) refl is node in
        let rest = (option_or_none _ (option_or (forkers_rule r.graph.members r.graph.rows row) (full_rule r.limit r.graph.rows)) (sym silent)).1 in
        record {
          answer = answer;
          grown = sym (ap (with_changes (node_view keys r)) events ∙ shown_after accepts keys r (Made row) (entry.Made (length r.graph.rows)) refl is);
          recorded = recorded;
          graph = recorded_graph accepts keys (chronicle_with r row (entry.Made (length r.graph.rows))) recorded;
          limit = has_room r.graph.members r.limit r.graph.rows row rest;
        }

    -- and what is left, whether there was memory for the row or not
    pub restore_ends : {E : Type 0} (result : Result PutAnswer E) (s : ChronicleView) → AreBytes bytes → None ≡ rules row →
        IfOk result (λ a. a ≡ Accepted (length r.graph.rows)) → OnOk result (s ≡ chronicle_with r row (entry.Made (length r.graph.rows))) → OnErr result (s ≡ r) → IsRestored accepts (node_view keys r) (node_view keys s) s bytes result
    restore_ends (Ok a) s fit silent answer ok err =
        let taking = restore_taken fit silent in
        record {
          recorded = subst (λ (t : ChronicleView). IsRecorded accepts (node_view keys t) t) (sym ok) taking.recorded;
          answer = answer ∙ sym taking.answer;
          ok = ap (node_view keys) ok ∙ taking.grown;
          free = tt;
        }
    restore_ends (Err e) s fit silent answer ok err = record {
      recorded = subst (λ (t : ChronicleView). IsRecorded accepts (node_view keys t) t) (sym err) is;
      answer = tt;
      ok = tt;
      free = (restore_taken fit silent).answer ∙ ap (λ (G : List Row). Accepted (length G)) (sym is.rows);
    }

    -- the same, by what the code asks

    pub back_refused : (a : PutAnswer) → Some a ≡ back_rules (accepts keys) r row →
        (a ≡ restore_answer accepts (node_view keys r) bytes) × (node_view keys r ≡ with_changes (node_view keys r) (restore_changes accepts (node_view keys r) bytes))
    back_refused a speaks = restore_refused a (speaks ∙ back_in_order (accepts keys) r row)

    pub back_taken : AreBytes bytes → None ≡ back_rules (accepts keys) r row → IsRestoring accepts (node_view keys r) (node_view keys (chronicle_with r row (entry.Made (length r.graph.rows)))) r row bytes
    back_taken fit silent = restore_taken fit (silent ∙ back_in_order (accepts keys) r row)

    -- and by what the chronicle was that was lent
    pub back_ends : {E : Type 0} (result : Result PutAnswer E) (s t : ChronicleView) → t ≡ r → AreBytes bytes → None ≡ back_rules (accepts keys) r row →
        IfOk result (λ a. a ≡ Accepted (length t.graph.rows)) → OnOk result (s ≡ chronicle_with t row (entry.Made (length t.graph.rows))) → OnErr result (s ≡ t) → IsRestored accepts (node_view keys r) (node_view keys s) s bytes result
    back_ends result s t same fit silent answer ok err =
        restore_ends result s fit (silent ∙ back_in_order (accepts keys) r row) (subst (λ (x : ChronicleView). IfOk result (λ a. a ≡ Accepted (length x.graph.rows))) same answer)
        (subst (λ (x : ChronicleView). OnOk result (s ≡ chronicle_with x row (entry.Made (length x.graph.rows)))) same ok)
        (subst (λ (x : ChronicleView). OnErr result (s ≡ x)) same err)
