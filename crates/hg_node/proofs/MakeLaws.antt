-- What the making of an event answers, and what it leaves recorded
use Rattle.std.proofs.Common.{◌≡◌, ℕ, ◌<◌, ◌≤◌, ◌^◌, true, List, [], ◌∷◌, ◌++◌, length, Option, Some, None, Result, Ok, Err, refl, sym, ap, ap₂, ◌∙◌, subst}
use Rattle.std.specs.Prelude.{replicate, OnErr}
use Rattle.std.specs.Option.{option_or}
use Rattle.std.proofs.lemmas.List.{length-replicate}
use Rattle.hg_model.specs.declared.row.Row.{Row}
use Rattle.hg_life.specs.declared.entry.Entry.TheVariants as entry
use Rattle.hg_life.specs.declared.answers.MakeAnswer.{MakeAnswer}
use Rattle.hg_life.specs.declared.answers.MakeAnswer.TheVariants as answer
use Rattle.hg_life.specs.declared.answers.MakeFault.{MakeFault}
use Rattle.hg_model.specs.Graph.{IsGraph}
use Rattle.hg_model.specs.Links.{ParentNames, most_others}
use Rattle.hg_life.specs.Spelling.{body_bytes}
use Rattle.hg_life.specs.Verdict.{last_name, made_row, draft_rule, collision_rule, room_rule, made_or, making, parents_on, signed_row}
use Rattle.hg_life.specs.History.{Change}
use Rattle.hg_life.specs.History.Change.{Made}
use Rattle.hg_life.specs.NodeView.{NodeView, with_changes, node_rows, IsNode}
use Rattle.hg_life.specs.Calls.{IsMaking, make_answer, make_changes, make_body, make_draft, made_by}
use Rattle.hg_life.specs.Signing.{Accepts}
use Rattle.hg_life.proofs.RuleLaws.{admitted}
use Rattle.hg_history.proofs.CallLaws.{with_none}
use Rattle.hg_history.proofs.MakeLaws.{makes_leave_a_node}
use Rattle.hg_sign.specs.Signed.{IsSigned}
use Rattle.hg_node.specs.Draft.{draft_body, draft_names}
use Rattle.hg_node.specs.ChronicleView.{ChronicleView, chronicle_with, node_view, IsRecorded}
use Rattle.hg_node.proofs.RecordLaws.{shown_after, recorded_after}
use Rattle.hg_node.proofs.PutLaws.{recorded_graph}

-- what a node becomes that makes the row
pub record MakesRow {K : Type 0} (accepts : K → Accepts) (v w : NodeView K) (r : ChronicleView) (row : Row) (others : List (List ℕ)) (time : ℕ) (payload : List ℕ) : Type 0 where
  pub making : IsMaking accepts v others time payload (answer.Made (length r.graph.rows)) w
  pub recorded : IsRecorded accepts w (chronicle_with r row (entry.Made (length r.graph.rows)))
  pub graph : IsGraph r.graph.members (r.graph.rows ++ row ∷ [])
  pub limit : length r.graph.rows < r.limit

-- what is signed of a draft is the node's event
pub row_of_draft : (r : ChronicleView) (others : List (List ℕ)) (time : ℕ) (payload : List ℕ) (m : ℕ) (names : ParentNames) (sig : List ℕ) (row : Row) → m ≡ r.own → names ≡ draft_names r others →
    row ≡ signed_row m names time payload sig → row ≡ made_row r.own r.graph.rows others time payload sig
row_of_draft r others time payload m names sig row by on is_signed = is_signed ∙ ap₂ (λ (k : ℕ) (ns : ParentNames). signed_row k ns time payload sig) by on

pub signed_of_draft : (accepts : Accepts) (r : ChronicleView) (others : List (List ℕ)) (time : ℕ) (payload : List ℕ) (m : ℕ) (names : ParentNames) (sig : List ℕ) → m ≡ r.own → names ≡ draft_names r others →
    IsSigned accepts m names time payload sig → accepts r.own (draft_body r others time payload) sig ≡ true
signed_of_draft accepts r others time payload m names sig by on is_signed = sym (ap₂ (λ (k : ℕ) (ns : ParentNames). accepts k (body_bytes k ns time payload) sig) by on) ∙ is_signed

module _ {K : Type 0} (accepts : K → Accepts) (keys : K) (r : ChronicleView) (others : List (List ℕ)) (time : ℕ) (payload : List ℕ) (is : IsRecorded accepts (node_view keys r) r) where
  abbrev before : NodeView K
  before = node_view keys r

  draft_is : make_draft before others payload ≡ draft_rule r.own r.graph.rows others payload
  unfolding make_draft
  draft_is = ap (λ (G : List Row). draft_rule r.own G others payload) is.rows

  -- where no rule speaks against the draft, that is no matter of memory
  pub draft_silent : {A E : Type 0} (result : Result A E) → None ≡ draft_rule r.own r.graph.rows others payload → OnErr result (make_draft before others payload ≡ None)
  draft_silent (Ok x) silent = tt
  draft_silent (Err e) silent = draft_is ∙ sym silent

  -- the answer to a draft, whatever the signature
  answer_by : (sig : List ℕ) → make_answer before others time payload sig
      ≡ made_or (option_or (draft_rule r.own r.graph.rows others payload)
      (option_or (collision_rule r.graph.rows (made_row r.own r.graph.rows others time payload sig)) (room_rule r.limit r.graph.rows))) (length r.graph.rows)
  unfolding make_answer
  answer_by sig = ap (λ (G : List Row). making r.limit r.own G others time payload sig) is.rows

  refused : (sig : List ℕ) (f : MakeFault) → make_answer before others time payload sig ≡ answer.Refused f → with_changes before (make_changes before others time payload sig) ≡ before
  unfolding make_changes
  refused sig f is_refused =
      with_none before (make_changes before others time payload sig)
      (ap (λ (a : MakeAnswer). made_by a (made_row before.start.own (node_rows before) others time payload sig)) is_refused)

  -- what stands for the signature of a draft that is refused
  no_sig : List ℕ
  no_sig = replicate 64 0

  -- against the draft of which a rule speaks
  pub draft_refused : (f : MakeFault) → Some f ≡ draft_rule r.own r.graph.rows others payload → IsMaking accepts before others time payload (answer.Refused f) before
  unfolding no_sig
  draft_refused f speaks =
      let is_answer : make_answer before others time payload no_sig ≡ answer.Refused f = answer_by no_sig
      ∙ ap (λ (o : Option MakeFault). made_or (option_or o (option_or (collision_rule r.graph.rows (made_row r.own r.graph.rows others time payload no_sig)) (room_rule r.limit r.graph.rows))) (length r.graph.rows)) (sym speaks) in
      record {
        sig = no_sig;
        sized = length-replicate {A = ℕ} 64 0;
        signed = λ silent. (let some : Some f ≡ None = speaks ∙ (sym draft_is ∙ silent) in cc);
        answers = sym is_answer;
        grown = sym (refused no_sig f is_answer);
      }

  module _ (sig : List ℕ) (sized : length sig ≡ 64) (row : Row) (silent : None ≡ draft_rule r.own r.graph.rows others payload)
      (signed : accepts keys r.own (body_bytes r.own (parents_on (last_name r.own r.graph.rows) others) time payload) sig ≡ true)
      (is_row : row ≡ made_row r.own r.graph.rows others time payload sig) where
    is_signed : accepts keys r.own (make_body before others time payload) sig ≡ true
    unfolding make_body
    is_signed = subst (λ (G : List Row). accepts keys r.own (body_bytes r.own (parents_on (last_name r.own G) others) time payload) sig ≡ true) (sym is.rows) signed

    answer_of : (o : Option MakeFault) → o ≡ option_or (collision_rule r.graph.rows row) (room_rule r.limit r.graph.rows) → make_answer before others time payload sig ≡ made_or o (length r.graph.rows)
    answer_of o rest =
        answer_by sig
        ∙ (ap (λ (d : Option MakeFault). made_or (option_or d (option_or (collision_rule r.graph.rows (made_row r.own r.graph.rows others time payload sig)) (room_rule r.limit r.graph.rows))) (length r.graph.rows)) (sym silent)
        ∙ (ap (λ (x : Row). made_or (option_or (collision_rule r.graph.rows x) (room_rule r.limit r.graph.rows)) (length r.graph.rows)) (sym is_row)
        ∙ ap (λ (e : Option MakeFault). made_or e (length r.graph.rows)) (sym rest)))

    -- against the signed row of which a rule speaks
    pub row_refused : (f : MakeFault) → Some f ≡ option_or (collision_rule r.graph.rows row) (room_rule r.limit r.graph.rows) → IsMaking accepts before others time payload (answer.Refused f) before
    row_refused f speaks = record {
      sig = sig;
      sized = sized;
      signed = λ none. is_signed;
      answers = sym (answer_of (Some f) speaks);
      grown = sym (refused sig f (answer_of (Some f) speaks));
    }

    -- against which none does
    pub row_made : length others ≤ most_others → time < 2 ^ 64 → None ≡ option_or (collision_rule r.graph.rows row) (room_rule r.limit r.graph.rows) →
        MakesRow accepts before (node_view keys (chronicle_with r row (entry.Made (length r.graph.rows)))) r row others time payload
    unfolding make_changes
    row_made few early rest =
        let is_answer = answer_of None rest in
        let events : make_changes before others time payload sig ≡ Made row ∷ [] =
        ap (λ (a : MakeAnswer). made_by a (made_row before.start.own (node_rows before) others time payload sig)) is_answer
        ∙ (ap (λ (G : List Row). Made (made_row r.own G others time payload sig) ∷ []) is.rows ∙ ap (λ (x : Row). Made x ∷ []) (sym is_row)) in
        let node = subst (λ (es : List Change). IsNode accepts (with_changes before es)) events (makes_leave_a_node K accepts before others time payload sig few early sized (λ none. is_signed) is.node) in
        let recorded = recorded_after accepts keys r (Made row) (entry.Made (length r.graph.rows)) refl is node in
        record {
          making = record {
            sig = sig;
            sized = sized;
            signed = λ none. is_signed;
            answers = sym is_answer;
            grown = sym (ap (with_changes before) events ∙ shown_after accepts keys r (Made row) (entry.Made (length r.graph.rows)) refl is);
          };
          recorded = recorded;
          graph = recorded_graph accepts keys (chronicle_with r row (entry.Made (length r.graph.rows))) recorded;
          limit = (admitted r.limit r.graph.rows row (sym rest)).room;
        }
