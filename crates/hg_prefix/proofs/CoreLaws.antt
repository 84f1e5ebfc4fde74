-- The core law of safety: two graphs of which each member but a few has one chain stand in one graph
use Rattle.std.proofs.Common.{◌≡◌, inl, inr, ℕ, false, List, length, ap, ◌∙◌, arith}
use Rattle.std.proofs.lemmas.Bool.{cases_Bool, both_ways}
use Rattle.hg_model.specs.declared.row.Row.{Row}
use Rattle.hg_model.specs.Stakes.{Stakes, member_count, stake_of}
use Rattle.hg_model.specs.Links.{links}
use Rattle.hg_model.specs.Forks.{has_fork, forking}
use Rattle.hg_model.specs.Fame.{fame_marks}
use Rattle.hg_model.specs.Order.{coin_at}
use Rattle.hg_model.specs.Graph.{creator_of_row}
use Rattle.hg_model.proofs.PlacesLaws.{weight_below-le}
use Rattle.hg_prefix.specs.Chains.{union, HasOneChain}
use Rattle.hg_prefix.specs.Laws.{ChainsStandInOne, OrdersOfChains, OwnOrdersOfChains}
use Rattle.hg_prefix.proofs.JoinLaws.{IsJoined}
use Rattle.hg_prefix.proofs.UnionLaws.{union_joined}
use Rattle.hg_prefix.proofs.ChainLaws.{no_fork}
use Rattle.hg_prefix.proofs.OrderLaws.{one_order}
use Rattle.hg_prefix.proofs.OwnLaws.{own_fame, own_order}

-- a member with one chain has no fork in the graph of both
pub chain_no_fork : (n : Stakes) (m : ℕ) (G H U : List Row) → IsJoined n G H (length H) U → HasOneChain m G H → has_fork (links U) m ≡ false
chain_no_fork n m G H U is one =
    no_fork n m U one.line is.distinct is.shaped one.chain (λ u inside by. elim (is.no_other u inside) [
      | inl of_G ↦ (let z = one.has_first of_G.0 of_G.1 (ap creator_of_row of_G.2 ∙ by) in (z.0, z.1, z.2 ∙ of_G.2))
      | inr of_H ↦ (let z = one.has_second of_H.0 of_H.1 (ap creator_of_row of_H.2 ∙ by) in (z.0, z.1, z.2 ∙ of_H.2))
    ])

pub stand_in_one : ChainsStandInOne
unfolding forking
stand_in_one n G H faulty g h equal few others =
    let U : List Row = union G H in
    let is = union_joined n G H g h equal in
    let fewer = weight_below-le (stake_of n) (member_count n) (has_fork (links U)) faulty (λ m inside forks. elim (cases_Bool (faulty m)) [
      | inl among ↦ among
      | inr not_among ↦ absurd (both_ways (has_fork (links U) m) (chain_no_fork n m G H U is (others m inside not_among)) forks)
    ]) in (
      record { distinct = is.distinct; few_others = is.few_others; shaped = is.shaped; few_forkers = omega (arith, fewer, few) },
      is.has_first,
      record { row_in = λ y inside. is.has_second y inside },
    )

pub chain_orders : OrdersOfChains
chain_orders n c size G H f h faulty three g k fame_f fame_h equal sizes_G sizes_H few others =
    let one = stand_in_one n G H faulty g k equal few others in
    one_order n c size (union G H) one.0 three G H f h (record { graph = g; stands = one.1; fame = fame_f }) (record { graph = k; stands = one.2; fame = fame_h }) sizes_G sizes_H

pub own_chain_orders : OwnOrdersOfChains
own_chain_orders n c size G H faulty three g k equal sizes_G sizes_H few others =
    rw (own_order n c G, own_order n c H)
    (chain_orders n c size G H (fame_marks n c (links G) (coin_at G)) (fame_marks n c (links H) (coin_at H)) faulty three g k (own_fame n c G) (own_fame n c H) equal sizes_G sizes_H few others)
