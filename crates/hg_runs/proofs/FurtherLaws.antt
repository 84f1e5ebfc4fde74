-- Graphs that are shown beside a run agree with its nodes, and with each other
use Rattle.std.proofs.Common.{◌≡◌, ℕ, ◌<◌, Bool, true, false, List, length, get_or, refl, sym, ap, ◌∙◌}
use Rattle.std.specs.Prelude.{◌||◌}
use Rattle.std.proofs.lemmas.Bool.{or_from, or_parts}
use Rattle.std.proofs.lemmas.Option.{slice_get_within}
use Rattle.std.proofs.lemmas.Map.Keys.{any_passes_from_place}
use Rattle.sha2.proofs.Facts512.{length-sha384}
use Rattle.hg_model.specs.declared.row.Row.{Row}
use Rattle.hg_model.specs.Stakes.{Stakes, member_count}
use Rattle.hg_model.specs.Links.{links}
use Rattle.hg_model.specs.Fame.{fame_marks}
use Rattle.hg_model.specs.Graph.{name_in, name_at}
use Rattle.hg_model.specs.Order.{coin_at}
use Rattle.hg_model.specs.Orders.{HasNameSizes}
use Rattle.hg_life.specs.Spelling.{spelling}
use Rattle.hg_life.specs.Terms.{Terms}
use Rattle.hg_life.specs.History.{Change, replay}
use Rattle.hg_model.proofs.PlacesLaws.{some_below_from}
use Rattle.hg_model.proofs.PushLaws.{nobody}
use Rattle.hg_prefix.specs.Chains.{HaveEqualRows, HasOneChain}
use Rattle.hg_prefix.proofs.CoreLaws.{chain_orders, own_chain_orders, stand_in_one}
use Rattle.hg_prefix.proofs.OwnLaws.{own_fame, own_order}
use Rattle.hg_runs.specs.Run.{Run, IsRun, IsMoment, graph_at}
use Rattle.hg_runs.specs.Honest.{is_stray, is_dishonest, AreApart}
use Rattle.hg_runs.specs.Further.{AreEvents, has_stray, is_dishonest_beside, dishonest_beside, IsHonestIn, IsHonestBeside, IsApart}
use Rattle.hg_runs.specs.Laws.{FurtherGraphIsSafe, FurtherHonestyIsTested, FurtherUnionIsAGraph, HonestFurtherGraphAgrees, MomentIsAFurtherGraph, TwoFurtherGraphsAgree}
use Rattle.hg_runs.proofs.MomentLaws.{made_rows, moment_fame, moment_graph, order_is, own_row, row_at, rows_after, stays, stays_within, whole_graph}
use Rattle.hg_runs.proofs.HonestLaws.{any_found, honest_from, honest_is_not, made_not_stray, none_stray}

-- what is there already adds nothing
or_within : (a b : Bool) → (a ≡ true → b ≡ true) → (a || b) ≡ b
or_within true b then = sym (then refl)
or_within false b then = refl

-- the names of events have one size
sizes_of_events : (G : List Row) → AreEvents G → HasNameSizes 48 G
unfolding name_at
sizes_of_events G events = record {
  sized = λ x inside.
      let row : Row = get_or G x nobody in
      ap (λ found. length (name_in found)) (row_at G x inside) ∙ (ap length (events x row (row_at G x inside)).named ∙ length-sha384 (spelling row));
}

-- what is apart from the nodes at the end is so at each moment
apart_at : (n : Stakes) (c : ℕ) (run : Run) (G : List Row) (k : ℕ) (h : List Change) → IsApart n c run G → IsMoment n run k h → HaveEqualRows G (rows_after n c h)
unfolding name_at
apart_at n c run G k h apart at = record {
  equal = λ x y inside_x inside_y same.
      let there = stays n c run k h at y inside_y in
      (apart.equal k at.member).equal x y inside_x (stays_within n c run k h at y inside_y) (same ∙ sym (ap name_in there)) ∙ there;
}

module _ (terms : ℕ → Terms) (n : Stakes) (c : ℕ) (run : Run) (G : List Row) (is : IsRun terms n c run) (m : ℕ) (member : m < member_count n) where
  pub honest_beside_from : AreEvents G → is_dishonest_beside n c run G m ≡ false → IsHonestBeside n c run G m
  unfolding is_dishonest_beside
  honest_beside_from events none =
      let both = or_parts (has_stray run G m) (is_dishonest n c run m) none in
      record {
        shown = record { made = none_stray terms n c run m is member G events both.0 };
        nodes = honest_from terms n c run m is member both.1;
      }

  pub honest_beside_is_not : IsHonestBeside n c run G m → is_dishonest_beside n c run G m ≡ false
  unfolding is_dishonest_beside
  honest_beside_is_not honest =
      or_from (has_stray run G m) (is_dishonest n c run m) (made_not_stray terms n c run m is member G honest.shown.made) (honest_is_not terms n c run m is member honest.nodes)

  -- the chain of an honest member's own node has its rows, of the graph and of a node
  chain_beside : IsHonestBeside n c run G m → (k : ℕ) (h : List Change) → IsMoment n run k h → HasOneChain m G (rows_after n c h)
  chain_beside honest k h at = record {
    line = graph_at n c run m;
    chain = (whole_graph terms n c run is m member).own_chain;
    has_first = made_rows n c run m G honest.shown.made;
    has_second = own_row terms n c run is m member honest.nodes k h at;
  }

  -- and so of two graphs
  chain_of_two : (H : List Row) → IsHonestIn run G m → IsHonestIn run H m → HasOneChain m G H
  chain_of_two H first second = record {
    line = graph_at n c run m;
    chain = (whole_graph terms n c run is m member).own_chain;
    has_first = made_rows n c run m G first.made;
    has_second = made_rows n c run m H second.made;
  }

pub further_honesty_tested : FurtherHonestyIsTested
further_honesty_tested terms n c run G m is events member =
    (honest_beside_from terms n c run G is m member events, honest_beside_is_not terms n c run G is m member)

pub honest_further_agrees : HonestFurtherGraphAgrees
honest_further_agrees terms n c run G faulty is further apart few honest k h at =
    let node = moment_graph terms n c run is k h at in
    let orders = chain_orders n c 48 G (rows_after n c h) (fame_marks n c (links G) (coin_at G)) (replay n c h).marks faulty is.coin further.graph node.graph
    (own_fame n c G) (moment_fame terms n c run is k h at) (apart_at n c run G k h apart at) (sizes_of_events G further.events) node.sizes few
    (λ m member not_faulty. chain_beside terms n c run G is m member (honest m member not_faulty) k h at) in
    rw (own_order n c G, order_is terms n c run is k h at) orders

pub further_safe : FurtherGraphIsSafe
unfolding dishonest_beside
further_safe terms n c run G is further few apart =
    honest_further_agrees terms n c run G (is_dishonest_beside n c run G) is further apart few
    (λ m member none. honest_beside_from terms n c run G is m member further.events none)

pub further_union : FurtherUnionIsAGraph
unfolding dishonest_beside
further_union terms n c run G is further few apart k h at =
    stand_in_one n G (rows_after n c h) (is_dishonest_beside n c run G) further.graph (moment_graph terms n c run is k h at).graph (apart_at n c run G k h apart at) few
    (λ m member none. chain_beside terms n c run G is m member (honest_beside_from terms n c run G is m member further.events none) k h at)

pub two_further_agree : TwoFurtherGraphsAgree
two_further_agree terms n c run G H faulty is first second equal few honest =
    own_chain_orders n c 48 G H faulty is.coin first.graph second.graph equal (sizes_of_events G first.events) (sizes_of_events H second.events) few
    (λ m member not_faulty. (let both = honest m member not_faulty in chain_of_two terms n c run G is m member H both.0 both.1))

-- a node's own graph

-- a stray row of a moment is one of the end
stray_later : (n : Stakes) (c : ℕ) (run : Run) (k : ℕ) (h : List Change) → IsMoment n run k h → (m : ℕ) → has_stray run (rows_after n c h) m ≡ true → is_dishonest n c run m ≡ true
unfolding is_dishonest
stray_later n c run k h at m strays =
    let found = any_found (is_stray m (run m)) (rows_after n c h) strays in
    let inside = slice_get_within (rows_after n c h) found.0 found.1 found.2 in
    some_below_from (member_count n) (λ j. has_stray run (graph_at n c run j) m) k at.member
    (any_passes_from_place (is_stray m (run m)) (graph_at n c run k) found.0 found.1 (stays n c run k h at found.0 inside ∙ found.2) found.3)

moment_apart : (n : Stakes) (c : ℕ) (run : Run) (k : ℕ) (h : List Change) → AreApart n c run → IsMoment n run k h → IsApart n c run (rows_after n c h)
unfolding name_at
moment_apart n c run k h apart at = record {
  equal = λ j member. record {
    equal = λ x y inside_x inside_y same.
        let there = stays n c run k h at x inside_x in
        sym there ∙ (apart.equal k j at.member member).equal x y (stays_within n c run k h at x inside_x) inside_y (ap name_in there ∙ same);
  };
}

pub moment_further : MomentIsAFurtherGraph
unfolding is_dishonest_beside
moment_further terms n c run k h is apart at =
    let node = moment_graph terms n c run is k h at in (
      record { graph = node.graph; events = λ x row here. (node.events x row here).spelled },
      moment_apart n c run k h apart at,
      λ m. or_within (has_stray run (rows_after n c h) m) (is_dishonest n c run m) (stray_later n c run k h at m),
    )
