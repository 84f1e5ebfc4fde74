-- Every run is safe
use Rattle.std.proofs.Common.{List}
use Rattle.hg_model.specs.declared.row.Row.{Row}
use Rattle.hg_life.specs.History.{replay}
use Rattle.hg_prefix.proofs.CoreLaws.{chain_no_fork, chain_orders, stand_in_one}
use Rattle.hg_prefix.proofs.UnionLaws.{union_joined}
use Rattle.hg_runs.specs.Honest.{is_dishonest, dishonest}
use Rattle.hg_runs.specs.Laws.{HonestHaveNoFork, HonestRunsAgree, RunsAreSafe, UnionsAreGraphs, union_after}
use Rattle.hg_runs.proofs.MomentLaws.{equal_rows, moment_fame, moment_graph, one_chain, order_is, rows_after}
use Rattle.hg_runs.proofs.HonestLaws.{honest_from}

pub honest_agree : HonestRunsAgree
honest_agree terms n c run faulty is apart few honest j k a b at_a at_b =
    let first = moment_graph terms n c run is j a at_a in
    let second = moment_graph terms n c run is k b at_b in
    let orders = chain_orders n c 48 (rows_after n c a) (rows_after n c b) (replay n c a).marks (replay n c b).marks faulty is.coin first.graph second.graph
    (moment_fame terms n c run is j a at_a) (moment_fame terms n c run is k b at_b) (equal_rows n c run j k a b apart at_a at_b) first.sizes second.sizes few
    (λ m member not_faulty. one_chain terms n c run is m member (honest m member not_faulty) j k a b at_a at_b) in
    rw (order_is terms n c run is j a at_a, order_is terms n c run is k b at_b) orders

pub runs_safe : RunsAreSafe
unfolding dishonest
runs_safe terms n c run is few apart =
    honest_agree terms n c run (is_dishonest n c run) is apart few (λ m member none. honest_from terms n c run m is member none)

pub unions_graph : UnionsAreGraphs
unfolding dishonest
unions_graph terms n c run j k a b is apart few at_a at_b =
    stand_in_one n (rows_after n c a) (rows_after n c b) (is_dishonest n c run) (moment_graph terms n c run is j a at_a).graph (moment_graph terms n c run is k b at_b).graph
    (equal_rows n c run j k a b apart at_a at_b) few
    (λ m member none. one_chain terms n c run is m member (honest_from terms n c run m is member none) j k a b at_a at_b)

pub honest_no_fork : HonestHaveNoFork
honest_no_fork terms n c run j k a b is apart at_a at_b m member honest =
    let G : List Row = rows_after n c a in
    let H : List Row = rows_after n c b in
    let first = (moment_graph terms n c run is j a at_a).graph in
    let second = (moment_graph terms n c run is k b at_b).graph in
    chain_no_fork n m G H (union_after n c a b) (union_joined n G H first second (equal_rows n c run j k a b apart at_a at_b))
    (one_chain terms n c run is m member honest j k a b at_a at_b)
