-- A settled node
use Rattle.std.proofs.Common.{◌≡◌, ℕ, Bool, true, false, cond, eqb, List, [], ◌∷◌, ◌++◌, length, refl, ap, ◌∙◌, subst, arith}
use Rattle.std.proofs.lemmas.Bool.{eqb-true}
use Rattle.std.proofs.lemmas.List.{append-nil}
use Rattle.hg_model.specs.declared.row.Row.{Row}
use Rattle.hg_model.specs.Stakes.{Stakes}
use Rattle.hg_model.specs.Links.{Link, links}
use Rattle.hg_model.specs.Fame.{Marks, fame_marks}
use Rattle.hg_model.specs.Order.{coin_at, ordered, order_of}
use Rattle.hg_model.specs.Shares.{whole}
use Rattle.hg_life.specs.History.{Change, State, news, replay}
use Rattle.hg_life.specs.Kept.{kept}
use Rattle.hg_life.specs.History.Change.{Marked}
use Rattle.hg_life.specs.NodeView.{NodeView, with_changes, node_rows, node_state, IsNode, terms_of}
use Rattle.hg_life.specs.Calls.{publish_answer, publish_changes, settle_changes, IsSettled}
use Rattle.hg_life.specs.Signing.{Accepts}
use Rattle.hg_history.specs.Laws.{SettlesAll}
use Rattle.hg_history.proofs.StateLaws.{replay-push}
use Rattle.hg_history.proofs.SettleLaws.{share, HasNoNews, marks_are_all, published}
use Rattle.hg_history.proofs.SoundLaws.{IsSound, sound}
use Rattle.hg_history.proofs.CallLaws.{publishes_leave_a_node}

-- where the whole share has no news, it is the one share of one that has none
one_share : (n : Stakes) (c : ℕ) (s : State) → news n c s (length s.rows) whole ≡ 0 → HasNoNews n c s 1
one_share n c s none = record {
  none = λ k low. (let first : k ≡ 0 = omega arith in ap (λ (i : ℕ). news n c s (length s.rows) (share i 1)) first ∙ none);
}

module _ (K : Type 0) (accepts : K → Accepts) (v : NodeView K) (node : IsNode accepts v) where
  n : Stakes
  n = v.start.members

  c : ℕ
  c = v.start.coin

  -- the state after the settle, and that it has no news
  settled_state : Bool → State
  settled_state b = replay v.start.members v.start.coin (v.history ++ cond b [] (Marked (length (node_rows v)) whole ∷ []))

  rows_settled : (b : Bool) → (settled_state b).rows ≡ node_rows v
  unfolding settled_state
  rows_settled true = ap (λ (h : List Change). (replay v.start.members v.start.coin h).rows) (append-nil v.history)
  rows_settled false = ap (λ (s : State). s.rows) (replay-push v.start.members v.start.coin v.history (Marked (length (node_rows v)) whole))

  no_news : (b : Bool) → eqb (publish_answer v (length (node_rows v)) whole) 0 ≡ b → news v.start.members v.start.coin (settled_state b) (length (node_rows v)) whole ≡ 0
  unfolding settled_state publish_answer
  no_news true is =
      ap (λ (h : List Change). news v.start.members v.start.coin (replay v.start.members v.start.coin h) (length (node_rows v)) whole) (append-nil v.history)
      ∙ eqb-true (news v.start.members v.start.coin (node_state v) (length (node_rows v)) whole) 0 is
  no_news false is =
      ap (λ (s : State). news v.start.members v.start.coin s (length (node_rows v)) whole) (replay-push v.start.members v.start.coin v.history (Marked (length (node_rows v)) whole))
      ∙ published v.start.members v.start.coin (node_state v) (length (node_rows v)) whole (omega arith)

  settled : (b : Bool) → eqb (publish_answer v (length (node_rows v)) whole) 0 ≡ b → IsSettled v (with_changes v (settle_changes v))
  unfolding settled_state publish_changes order_of
  settled b is =
      let t = settled_state b in
      let after = publishes_leave_a_node K accepts v (length (node_rows v)) whole (omega arith) node in
      let same : node_state (with_changes v (settle_changes v)) ≡ t = ap (λ (d : Bool). replay v.start.members v.start.coin (v.history ++ cond d [] (Marked (length (node_rows v)) whole ∷ []))) is in
      let s = subst (IsSound (terms_of accepts v.start) v.start.members v.start.coin v.start.own) same
      (sound (terms_of accepts v.start) v.start.members v.start.coin v.start.own (v.history ++ settle_changes v) node.coin after.history) in
      let rows = rows_settled b in
      let none : news v.start.members v.start.coin t (length t.rows) whole ≡ 0 = ap (λ (G : List Row). news v.start.members v.start.coin t (length G) whole) rows ∙ no_news b is in
      let marks = marks_are_all v.start.members v.start.coin t s.even s.linked 1 (omega arith) (one_share v.start.members v.start.coin t none) s.fame in
      let fame : List Row → Marks = λ G. fame_marks v.start.members v.start.coin (links G) (coin_at G) in
      record {
        rows = ap (λ (u : State). u.rows) same ∙ rows;
        marks = ap (λ (u : State). u.marks) same ∙ (marks ∙ ap fame rows);
        kept = ap (λ (u : State). kept v.start.members u) same
            ∙ (ap (λ (L : List Link). ordered v.start.members t.rows L t.marks) s.linked
            ∙ (ap (λ (f : Marks). ordered v.start.members t.rows (links t.rows) f) marks
            ∙ ap (λ (G : List Row). ordered v.start.members G (links G) (fame_marks v.start.members v.start.coin (links G) (coin_at G))) rows));
      }

pub settles_all : (K : Type 0) → SettlesAll K
settles_all K accepts v node = settled K accepts v node (eqb (publish_answer v (length (node_rows v)) whole) 0) refl
