-- What the publishing of fame leaves recorded
use Rattle.std.proofs.Common.{◌≡◌, ℕ, ◌≤◌, Bool, true, false, cond, eqb, List, [], ◌∷◌, ◌++◌, length, refl, sym, ap, ap₂, ◌∙◌, subst, arith}
use Rattle.std.proofs.lemmas.Bool.{eqb-true}
use Rattle.std.proofs.lemmas.List.{append-nil}
use Rattle.hg_model.specs.declared.row.Row.{Row}
use Rattle.hg_life.specs.declared.entry.Entry.{Entry}
use Rattle.hg_life.specs.declared.entry.Entry.TheVariants as entry
use Rattle.hg_model.specs.Fame.{Marks}
use Rattle.hg_model.specs.Shares.{Share, whole}
use Rattle.hg_life.specs.History.{Change, State, news, with_marks}
use Rattle.hg_life.specs.History.Change.{Marked}
use Rattle.hg_life.specs.NodeView.{NodeView, with_changes, node_state, node_rows, IsNode}
use Rattle.hg_life.specs.Calls.{publish_answer, publish_changes, settle_changes, IsSettled}
use Rattle.hg_life.specs.Signing.{Accepts}
use Rattle.hg_history.specs.News.{FindsNews}
use Rattle.hg_history.proofs.NodeLaws.{settles_all}
use Rattle.hg_history.proofs.StateLaws.{IsEven, even_after}
use Rattle.hg_history.proofs.CallLaws.{with_none, publishes_leave_a_node}
use Rattle.hg_node.specs.ChronicleView.{ChronicleView, chronicle_view, chronicle_news, news_in, chronicle_state, node_view, IsRecorded}
use Rattle.hg_node.proofs.NewsLaws.{same_marks}
use Rattle.hg_node.proofs.RecordLaws.{state_is, recorded_by, shown_after, recorded_after}

-- what a node becomes that publishes
pub record IsPublishing {K : Type 0} (accepts : K → Accepts) (v w : NodeView K) (s : ChronicleView) (len : ℕ) (share : Share) : Type 0 where
  pub recorded : IsRecorded accepts w s
  pub grown : w ≡ with_changes v (publish_changes v len share)

module _ {K : Type 0} (accepts : K → Accepts) (keys : K) (r : ChronicleView) (is : IsRecorded accepts (node_view keys r) r) (len : ℕ) (share : Share) where
  v : NodeView K
  v = node_view keys r

  pub answer_is : news_in r len share ≡ publish_answer (node_view keys r) len share
  unfolding publish_answer
  answer_is = ap (λ (s : State). news r.graph.members r.graph.coin s len share) (sym (state_is accepts keys r is))

  even : IsEven (chronicle_state r)
  even = subst IsEven (state_is accepts keys r is) (even_after r.graph.members r.graph.coin (node_view keys r).history)

  -- with a log and marks
  logged : List Entry → Marks → ChronicleView
  logged log marks = chronicle_view r.own r.balances r.limit r.graph log marks

  changes_are : (b : Bool) → eqb (news_in r len share) 0 ≡ b → publish_changes (node_view keys r) len share ≡ cond b [] (Marked len share ∷ [])
  unfolding publish_changes
  changes_are b is_b = ap (λ (k : ℕ). cond (eqb k 0) [] (Marked len share ∷ [])) (sym answer_is) ∙ ap (λ (d : Bool). cond d [] (Marked len share ∷ [])) is_b

  none_published : len ≤ length r.graph.rows → eqb (news_in r len share) 0 ≡ true → r ≡ chronicle_news r len share
  unfolding logged
  none_published within none =
      sym (ap₂ logged (ap (λ (d : Bool). r.log ++ cond d [] (entry.Marked len share ∷ [])) none ∙ append-nil r.log)
      (same_marks r.graph.members r.graph.coin (chronicle_state r) even len share within (eqb-true (news_in r len share) 0 none)))

  some_published : eqb (news_in r len share) 0 ≡ false → recorded_by r (Marked len share) (entry.Marked len share) ≡ chronicle_news r len share
  unfolding logged
  some_published some =
      sym (ap (λ (log : List Entry). logged log (with_marks r.graph.members r.graph.coin (chronicle_state r) len share).marks)
      (ap (λ (d : Bool). r.log ++ cond d [] (entry.Marked len share ∷ [])) some))

  publishing_by : (b : Bool) → eqb (news_in r len share) 0 ≡ b → len ≤ length r.graph.rows →
      IsPublishing accepts (node_view keys r) (node_view keys (chronicle_news r len share)) (chronicle_news r len share) len share
  publishing_by true none within =
      subst (λ (s : ChronicleView). IsPublishing accepts (node_view keys r) (node_view keys s) s len share) (none_published within none)
      (record { recorded = is; grown = sym (with_none (node_view keys r) (publish_changes (node_view keys r) len share) (changes_are true none)) })
  publishing_by false some within =
      let changes = changes_are false some in
      let low : len ≤ length (node_rows (node_view keys r)) = subst (λ (G : List Row). len ≤ length G) (sym is.rows) within in
      let node = subst (λ (es : List Change). IsNode accepts (with_changes (node_view keys r) es)) changes (publishes_leave_a_node K accepts (node_view keys r) len share low is.node) in
      subst (λ (s : ChronicleView). IsPublishing accepts (node_view keys r) (node_view keys s) s len share) (some_published some)
      (record {
        recorded = recorded_after accepts keys r (Marked len share) (entry.Marked len share) refl is node;
        grown = sym (ap (with_changes (node_view keys r)) changes ∙ shown_after accepts keys r (Marked len share) (entry.Marked len share) refl is);
      })

  module _ (found : List (ℕ × Bool)) (finds : FindsNews r.graph.members r.graph.coin (node_state (node_view keys r)) len share found) where
    pub finds_in : FindsNews r.graph.members r.graph.coin (chronicle_state r) len share found
    finds_in = subst (λ (s : State). FindsNews r.graph.members r.graph.coin s len share found) (state_is accepts keys r is) finds

    pub published : (s : ChronicleView) → s ≡ chronicle_news r len share → IsPublishing accepts (node_view keys r) (node_view keys s) s len share
    published s grown =
        subst (λ (t : ChronicleView). IsPublishing accepts (node_view keys r) (node_view keys t) t len share) (sym grown)
        (publishing_by (eqb (news_in r len share) 0) refl finds_in.within)

-- what a node becomes that settles
pub record IsSettling {K : Type 0} (accepts : K → Accepts) (v w : NodeView K) (s : ChronicleView) : Type 0 where
  pub recorded : IsRecorded accepts w s
  pub grown : w ≡ with_changes v (settle_changes v)
  pub settled : IsSettled v w

-- what it finds is that of the whole graph
pub settling : {K : Type 0} (accepts : K → Accepts) (keys : K) (r : ChronicleView) → IsRecorded accepts (node_view keys r) r → (s : ChronicleView) →
    s ≡ chronicle_news r (length r.graph.rows) whole → IsSettling accepts (node_view keys r) (node_view keys s) s
settling {K} accepts keys r is s grown =
    let v : NodeView K = node_view keys r in
    let is_published : IsPublishing accepts v (node_view keys s) s (length r.graph.rows) whole =
    subst (λ (t : ChronicleView). IsPublishing accepts v (node_view keys t) t (length r.graph.rows) whole) (sym grown)
    (publishing_by accepts keys r is (length r.graph.rows) whole (eqb (news_in r (length r.graph.rows) whole) 0) refl (omega arith)) in
    let grown' : node_view keys s ≡ with_changes v (settle_changes v) =
    is_published.grown ∙ ap (λ (G : List Row). with_changes v (publish_changes v (length G) whole)) (sym is.rows) in
    record {
      recorded = is_published.recorded;
      grown = grown';
      settled = subst (IsSettled v) (sym grown') (settles_all K accepts v is.node);
    }
