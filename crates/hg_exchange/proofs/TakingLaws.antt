-- What a message leaves of a node, and what the node shows then.
use Rattle.std.proofs.Common.{◌≡◌, ◌∙◌, ◌<◌, ℕ, List, [], ◌∷◌, length, get_or, sym, ap, ap₂, subst}
use Rattle.std.proofs.lemmas.List.{get_or-map, length-map}
use Rattle.std.specs.Prelude.{Result, Ok, Err, IfOk}
use Rattle.hg_gossip.specs.declared.gossip.Taken.{Taken}
use Rattle.hg_gossip.specs.Gossip.{Takes}
use Rattle.hg_gossip.specs.Holding.{Rules, Seen, seen_whole}
use Rattle.hg_gossip.specs.Refusals.{BeyondHolds, HoldsUnlessRefused}
use Rattle.hg_life.specs.Calls.{IsSettled}
use Rattle.hg_life.specs.Members.{MemberList, names_of}
use Rattle.hg_life.specs.NodeView.{IsNode, NodeView, Start, node_rows, start_of}
use Rattle.hg_life.specs.Signing.{accepts_by}
use Rattle.hg_model.specs.Fame.{fame_marks}
use Rattle.hg_model.specs.Links.{links}
use Rattle.hg_model.specs.Order.{coin_at}
use Rattle.hg_model.specs.Stakes.{Stakes}
use Rattle.hg_outcome.specs.declared.outcome.Block.{Block}
use Rattle.hg_outcome.specs.declared.outcome.Outcome.{Outcome}
use Rattle.hg_outcome.specs.declared.outcome.Printed.TheVariants as printed
use Rattle.hg_outcome.specs.Ledger.{block_of, marked_block}
use Rattle.hg_play.specs.Lines.{kept_block}
use Rattle.hg_play.specs.Outcomes.{kept_outcome}
use Rattle.hg_play.specs.Sites.{AreMadeWith, IsMadeWith}
use Rattle.hg_world.specs.World.{Secrets, Site, WorldView, no_site, node_at, nodes_of}
use Rattle.hg_wire.specs.declared.message.Message.{Message}
use Rattle.hg_wire.specs.Exchange.{rows_in}
use Rattle.hg_exchange.specs.Exchanges.{HoldsAnswer, TakesRows, rules, shown}

-- ---- the node of a member

pub nodes_count : (w : WorldView) → length (nodes_of w) ≡ length w.sites
nodes_count w = length-map w.sites (λ (site : Site). site.node)

pub node_there : (w : WorldView) (m : ℕ) (d : NodeView Secrets) → m < length w.sites → get_or (nodes_of w) m d ≡ node_at w m
node_there w m d low = get_or-map (λ (site : Site). site.node) w.sites m no_site d low

pub made_at : (members : MemberList) (w : WorldView) (nodes : List (NodeView Secrets)) (m : ℕ) (v : NodeView Secrets) → nodes ≡ nodes_of w → m < length w.sites → v ≡ get_or nodes m v → AreMadeWith members w
    → IsMadeWith members v
made_at members w nodes m v are low is made =
    subst (IsMadeWith members) (sym (is ∙ ap (λ (vs : List (NodeView Secrets)). get_or vs m v) are ∙ node_there w m v low)) (made m low)

pub always : {A E P : Type 0} (r : Result A E) → P → IfOk r (λ x. P)
always (Ok x) so = so
always (Err e) so = tt

-- ---- what came of a message

module _ {K : Type 0} (rules : Rules K) where
  pub takes_start : (events : List (List ℕ)) (old new : Seen K) (before after : Taken) → Takes rules old before events new after → new.node.start ≡ old.node.start
  takes_start [] old new before after takes = ap (λ (s : Seen K). s.node.start) takes.0
  takes_start (bytes ∷ events) old new before after takes =
      takes_start events takes.0 new _ after takes.3
      ∙ (ap (λ (s : Seen K). s.node.start) takes.2.grown ∙ ap (λ (s : Seen K). s.node.start) takes.2.waits.later)

pub made_still : (members : MemberList) (v w : NodeView Secrets) → w.start ≡ v.start → IsMadeWith members v → IsMadeWith members w
made_still members v w same made =
    subst (λ (s : Start Secrets). s ≡ start_of members s.own s.keys) (sym same) made

pub holds_answer : (v w : NodeView Secrets) (m : Message) (counts : Taken) (takes : TakesRows v (rows_in m) w counts) → BeyondHolds Secrets Secrets → IsNode accepts_by v → HoldsAnswer v m w counts takes
holds_answer v w m counts takes beyond node = λ peer names is_node equal held is.
    subst (λ (x : Message). (t : TakesRows v (rows_in x) w counts) → HoldsUnlessRefused rules (seen_whole v) (rows_in x) (seen_whole w) counts t (node_rows peer)) (sym is)
    (λ t. beyond rules accepts_by (seen_whole v) (seen_whole w) (seen_whole peer) names counts node is_node equal held t) takes

-- a settled node shows its graph's own fame
shown_block : (members : MemberList) (own : ℕ) (v w : NodeView Secrets) → IsMadeWith members v → IsSettled v w → kept_block members own w ≡ block_of members own (node_rows v)
shown_block members own v w made is =
    ap₂ (marked_block members own) is.rows
    (is.marks ∙ ap₂ (λ (n : Stakes) (c : ℕ). fame_marks n c (links (node_rows v)) (coin_at (node_rows v))) (ap (λ (s : Start Secrets). s.members) made) (ap (λ (s : Start Secrets). s.coin) made))

pub is_shown : (members : MemberList) (v a w : NodeView Secrets) (o : Outcome) → a.start ≡ v.start → w.start ≡ a.start → IsMadeWith members v → IsSettled a w → o ≡ kept_outcome members w
    → o ≡ shown members v.start.own (node_rows a)
is_shown members v a w o same still made is kept =
    let block : Block → Outcome = λ b. record { names = names_of members; printed = printed.Block b ∷ [] } in
    kept ∙ ap block (ap (λ (s : Start Secrets). kept_block members s.own w) (still ∙ same) ∙ shown_block members v.start.own a w (made_still members v a same made) is)
