use Rattle.std.proofs.Common.{◌≡◌, ◌∙◌, ◌+◌, ◌*◌, ◌≤◌, ◌++◌, ◌∷◌, [], ℕ, cond, eqb, length, Some, ap, refl, subst, sym, arith}
use Rattle.std.specs.Vec.{vec_capacity}
use Rattle.hg_model.specs.declared.row.Row.{Row}
use Rattle.hg_model.specs.Graph.{IsGraph}
use Rattle.hg_life.specs.History.{with_row}
use Rattle.hg_model.specs.Prefix.{Graph}
use Rattle.hg_life.specs.StateWords.{state_by}
use Rattle.hg_graph.specs.Held.{graph_with}
use Rattle.hg_kept.specs.Published.{Published, Keeps, TookRow}
use Rattle.hg_pay.specs.Account.{Account}
use Rattle.hg_node.specs.ChronicleView.{ChronicleView, KeepsBook}
use Rattle.hg_node.proofs.BookLaws.{book_with_row}
use Rattle.hg_node.proofs.KeepLaws.{few_in_log, record_with}
use Rattle.hg_node.proofs.TableLaws.{carries_with_row}
use Rattle.hg_node.proofs.chronicle.Chronicle.add.Goals as goal

pub overflow_sub-place : goal.overflow_sub-place
overflow_sub-place c =
    let few = few_in_log c.self.inside.own c.self.inside.graph.graph c.self.inside.log.items c.self.inside.kept.published c.self.inside.last_own (vec_capacity c.self.inside.log) c.self.invariant.0 in
    omega (arith, few, c.self.inside.log.ok, c.len.ensures, c.len-place.ensures.value)

pub push_reserved-requires : goal.push_reserved-requires
push_reserved-requires c =
    let few = few_in_log c.self.inside.own c.self.inside.graph.graph c.self.inside.log.items c.self.inside.kept.published c.self.inside.last_own (vec_capacity c.self.inside.log) c.self.invariant.0 in
    omega (arith, few, c.self.inside.log.ok, c.len.ensures, c.len-place.ensures.value, c.in_ok-reserve-4.ensures.ok, c.in_ok-reserve-4.ensures.len)

pub invariant_of-self-2 : goal.invariant_of-self-2
invariant_of-self-2 c =
    let g : Graph = c.self.inside.graph.graph in
    let graph : IsGraph g.members (g.rows ++ c.args.event.value ∷ []) = subst (λ (s : ChronicleView). IsGraph s.graph.members (s.graph.rows ++ c.args.event.value ∷ [])) (sym c.self.view_is) c.requires.graph in
    let is : c.later_place-self-inside.result ≡ cond (eqb c.args.event.value.creator c.self.inside.own) (Some (length g.rows)) c.self.inside.last_own =
    c.later_place-self-inside.ensures
    ∙ (ap (λ (r : Row). cond (eqb r.creator c.self.inside.own) (Some c.len-place.result) c.self.inside.last_own) (c.row.ensures.value ∙ c.deref.ensures)
    ∙ ap (λ (k : ℕ). cond (eqb c.args.event.value.creator c.self.inside.own) (Some k) c.self.inside.last_own) c.len-place.ensures.value) in
    let few = few_in_log c.self.inside.own g c.self.inside.log.items c.self.inside.kept.published c.self.inside.last_own (vec_capacity c.self.inside.log) c.self.invariant.0 in
    let memory : 2 * (length g.rows + 1) ≤ vec_capacity c.push_reserved.new.self =
    omega (arith, few, c.self.inside.log.ok, c.push_reserved.ensures.capacity, c.in_ok-reserve-4.ensures.capacity, c.in_ok-reserve-4.ensures.ok, c.len.ensures, c.len-place.ensures.value) in
    let pushed : c.push.new.self.graph ≡ graph_with g c.args.event.value = c.push.ensures ∙ ap (λ (h : Graph). graph_with h c.args.event.value) c.in_ok-reserve.ensures.same in
    let keeps : Keeps (graph_with g c.args.event.value) c.add.new.self.published = subst (λ (h : Graph). Keeps h c.add.new.self.published) pushed c.add.ensures.keeps in
    let took : TookRow (graph_with g c.args.event.value) c.reserve-2.new.self.published c.add.new.self.published =
    subst (λ (h : Graph). TookRow h c.reserve-2.new.self.published c.add.new.self.published) pushed c.add.ensures.took in
    let marks : c.add.new.self.published.marks ≡ (with_row g.members (state_by g c.self.inside.kept.published.marks) c.args.event.value).marks =
    took.marks g.rows c.args.event.value refl ∙ ap (λ (v : Published). (with_row g.members (state_by g v.marks) c.args.event.value).marks) c.in_ok-reserve-2.ensures.same in
    let same : c.add.new.self.published.order ≡ c.self.inside.kept.published.order =
    ap (λ (v : Published). v.order) took.rest ∙ ap (λ (v : Published). v.order) c.in_ok-reserve-2.ensures.same in
    let paid : KeepsBook (g.rows ++ c.args.event.value ∷ []) c.add.new.self.published.order c.reserve-3.new.self =
    book_with_row g c.self.inside.kept.published c.self.invariant.0.keeps c.args.event.value c.add.new.self.published.order c.self.inside.ledger c.reserve-3.new.self same c.self.invariant.1
    (ap (λ (a : Account). a.opening) c.in_ok-reserve-3.ensures.same) (ap (λ (a : Account). a.book) c.in_ok-reserve-3.ensures.same) (omega (arith, c.in_ok-reserve-3.ensures.room, c.len-place.ensures.value)) in
    rw (pushed, c.push_reserved.ensures.items, c.in_ok-reserve-4.ensures.items) (
      record_with c.self.inside.own g c.self.inside.log.items c.self.inside.kept.published c.self.inside.last_own (vec_capacity c.self.inside.log) c.self.invariant.0
          c.args.event.value c.args.entry c.add.new.self.published c.later_place-self-inside.result (vec_capacity c.push_reserved.new.self) graph marks keeps is memory,
      paid,
      carries_with_row c.self.inside.votes g c.args.event.value c.self.invariant.2,
      c.self.invariant.3,
    )
