-- What is elected of what is open may be published, and where nothing is, the share has its marks
use Rattle.std.proofs.Common.{◌≡◌, ℕ, Bool, List, [], ◌∷◌, length, Option, None, Some, sym, ap, ◌∙◌, subst, arith}
use Rattle.hg_model.specs.declared.share.Found.{Found}
use Rattle.hg_model.specs.Fame.{mark_at, fame_of}
use Rattle.hg_model.specs.Order.{coin_at}
use Rattle.hg_model.specs.Links.{Link}
use Rattle.hg_model.specs.Prefix.{Graph}
use Rattle.hg_model.specs.GraphWords.{fame_in}
use Rattle.hg_life.specs.NodeView.{NodeView, IsNode, node_links, node_marks, node_rows, node_state}
use Rattle.hg_model.specs.Shares.{Share, share_fame}
use Rattle.hg_life.specs.Signing.{Accepts}
use Rattle.hg_fame.specs.Decisions.{AreWitnesses, fames_among}
use Rattle.hg_votes.specs.Counting.{IsMadeFor}
use Rattle.hg_history.specs.News.{FindsNews}
use Rattle.hg_history.proofs.StateLaws.{prefix_same}
use Rattle.hg_node.specs.declared.open.Open.{Open}
use Rattle.hg_node.specs.ChronicleView.{IsFoundBy, graph_in}
use Rattle.hg_node.specs.Opening.{HasShareMarks}
use Rattle.hg_node.proofs.OpenLaws.{opened_is_found}
use Rattle.hg_board.specs.Copies.{OpensIn}
use Rattle.hg_workers.specs.Turns.{Elects, IsElectable}
use Rattle.hg_workers.proofs.StateLaws.{early_is, fame_later, node_sound}

none_in : {A : Type 0} (xs : List A) → length xs ≡ 0 → xs ≡ []
none_in [] none = λ i. []
none_in (x ∷ xs) none = absurd (omega (arith, none))

-- of what is open nothing is decided
pub none_decided : (share : Share) (opened : Option Open) (some : Open) → opened ≡ Some some → (marks : List (ℕ × Bool)) →
    marks ≡ fames_among (fame_in some.graph.graph) some.places.items → length marks ≡ 0 → Elects share opened None
none_decided share opened some is marks fames none = subst (λ (o : Option Open). Elects share o None) (sym is) (sym fames ∙ none_in marks none)

-- what a share found in the whole graph of a node, to be published
pub record IsFoundWhole {V : Type 0} (v : NodeView V) (share : Share) (found : Found) : Type 0 where
  pub news : IsFoundBy v found
  pub len : found.len ≡ length (node_rows v)
  pub mine : found.share ≡ share

-- each witness of the share that the node's graph decides has its mark
abbrev pub HasMarks : {V : Type 0} → NodeView V → Share → Type 0
HasMarks v share = (x : ℕ) (famous : Bool) → share_fame v.start.members v.start.coin (node_rows v) (node_links v) share x ≡ Some famous → mark_at (node_marks v) x ≡ Some famous

module _ {V : Type 0} (accepts : V → Accepts) (v : NodeView V) (node : IsNode accepts v) (share : Share) where
  pub electable : (opened : Option Open) → OpensIn share v opened → IsElectable opened
  electable None is = tt
  electable (Some opened) is = (
    subst (λ (g : Graph). IsMadeFor opened.votes g) (sym is.graph) is.votes,
    subst (λ (g : Graph). AreWitnesses g (length g.rows) opened.places.items) (sym is.graph) is.places.witnesses,
  )

  found_open : (opened : Open) (found : Found) → OpensIn share v (Some opened) → found.len ≡ length opened.graph.graph.rows → found.share ≡ share →
      found.marks ≡ fames_among (fame_in opened.graph.graph) opened.places.items → IsFoundBy v found
  found_open opened found is len same marks =
      opened_is_found V accepts v share opened.places.items found node is.places (len ∙ ap (λ (g : Graph). length g.rows) is.graph) same
      (marks ∙ ap (λ (g : Graph). fames_among (fame_in g) opened.places.items) is.graph)

  pub elected_whole : (opened : Option Open) (found : Found) → OpensIn share v opened → Elects share opened (Some found) → IsFoundWhole v share found
  elected_whole None found is none = absurd (cc)
  elected_whole (Some opened) found is elects = record {
    news = found_open opened found is elects.len elects.mine elects.marks;
    len = elects.len ∙ ap (λ (g : Graph). length g.rows) is.graph;
    mine = elects.mine;
  }

  -- a decided witness that has a mark has that one
  marked_right : (x : ℕ) (famous : Bool) → share_fame v.start.members v.start.coin (node_rows v) (node_links v) share x ≡ Some famous → (mark : Option Bool) → mark_at (node_marks v) x ≡ mark →
      (mark ≡ None → ⊥) → mark_at (node_marks v) x ≡ Some famous
  marked_right x famous is None none some = absurd (some (λ i. None))
  marked_right x famous is (Some w) at some =
      let s = node_sound accepts v node in
      let now = prefix_same (node_rows v) (node_rows v) (λ i. node_rows v) in
      let tied = prefix_same (node_links v) (node_links v) (λ i. node_links v) in
      let fame = fame_later v.start.members v.start.coin (node_state v) (node_state v) s.even s.even now tied s.graph s.linked share x famous is in
      let mark = s.fame.fame x w at in
      at ∙ (sym mark ∙ (ap (λ (L : List Link). fame_of v.start.members v.start.coin L (coin_at (node_rows v)) x) (sym s.linked) ∙ fame))

  -- where nothing may be published all is
  nothing_new : FindsNews v.start.members v.start.coin (node_state v) (length (node_rows v)) share [] → HasMarks v share
  nothing_new finds x famous is =
      let s = node_sound accepts v node in
      let now = prefix_same (node_rows v) (node_rows v) (λ i. node_rows v) in
      let tied = prefix_same (node_links v) (node_links v) (λ i. node_links v) in
      marked_right x famous is (mark_at (node_marks v) x) (λ i. mark_at (node_marks v) x) (λ none.
      let there = finds.news x famous (early_is v.start.members v.start.coin (node_state v) (node_state v) s.even s.even now tied share x ∙ is) none in
      absurd (omega (arith, there.1)))

  marks_tied : HasShareMarks (graph_in v) (node_marks v) share → HasMarks v share
  marks_tied has x famous is =
      let s = node_sound accepts v node in
      has x famous (ap (λ (L : List Link). share_fame v.start.members v.start.coin (node_rows v) L share x) (sym s.linked) ∙ is)

  pub elected_none : (opened : Option Open) → OpensIn share v opened → Elects share opened None → HasMarks v share
  elected_none None is none = marks_tied is
  elected_none (Some opened) is none =
      nothing_new (subst (λ (k : ℕ). FindsNews v.start.members v.start.coin (node_state v) k share []) (ap (λ (g : Graph). length g.rows) is.graph)
      (found_open opened (record { len = length opened.graph.graph.rows; share = share; marks = [] }) is (λ i. length opened.graph.graph.rows) (λ i. share) (sym none)))
