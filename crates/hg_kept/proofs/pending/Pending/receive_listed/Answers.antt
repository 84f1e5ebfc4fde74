use Rattle.std.proofs.Common.{◌≤◌, length, min, refl, sym, subst, arith, vec_capacity}
use Rattle.hg_model.specs.Prefix.{links_of}
use Rattle.hg_model.proofs.LinkLaws.{length-links}
use Rattle.hg_kept.specs.Waiting.{HasWaiting}
use Rattle.hg_kept.specs.Receiving.{Parted, Receives}
use Rattle.hg_kept.proofs.WaitLaws.{famous_first, places_few, listed_inside, listed_few, parted_by_list}
use Rattle.hg_kept.proofs.pending.Pending.receive_listed.Goals as goal

pub overflow_add-famous : goal.overflow_add-famous
overflow_add-famous g c =
    let graph = g.P.Prefix.graph c.args.p.now in
    omega (arith, famous_first graph c.args.famous.now c.requires.famous c.requires.some, length-links graph.rows, c.is_of_graph.ensures.short)

pub list_to-requires-clause-inside : goal.list_to-requires-clause-inside
list_to-requires-clause-inside g c =
    let graph = g.P.Prefix.graph c.args.p.now in
    let has = subst (λ (w : Parted). HasWaiting (links_of graph) w.waiting) (sym c.self.view_is) c.requires.waiting in
    omega (arith, c.max-end.ensures, has.are.looked, famous_first graph c.args.famous.now c.requires.famous c.requires.some)

pub list_to-requires-clause-few : goal.list_to-requires-clause-few
list_to-requires-clause-few g c =
    let graph = g.P.Prefix.graph c.args.p.now in
    let has = subst (λ (w : Parted). HasWaiting (links_of graph) w.waiting) (sym c.self.view_is) c.requires.waiting in
    let few = places_few (links_of graph) _ has in
    omega arith

pub list_to-requires-clause-room : goal.list_to-requires-clause-room
list_to-requires-clause-room g c =
    let graph = g.P.Prefix.graph c.args.p.now in
    let has = subst (λ (w : Parted). HasWaiting (links_of graph) w.waiting) (sym c.self.view_is) c.requires.waiting in
    let room = subst (λ (w : Parted). length (links_of graph) ≤ w.room) (sym c.self.view_is) c.requires.room in
    omega (arith, c.max-end.ensures, has.are.looked, famous_first graph c.args.famous.now c.requires.famous c.requires.some)

pub part-requires-clause-places : goal.part-requires-clause-places
part-requires-clause-places g c =
    let graph = g.P.Prefix.graph c.args.p.now in
    let has = subst (λ (w : Parted). HasWaiting (links_of graph) w.waiting) (sym c.self.view_is) c.requires.waiting in
    let end = c.max-end.ensures in
    let looked = has.are.looked in
    let first = famous_first graph c.args.famous.now c.requires.famous c.requires.some in
    listed_inside (links_of graph) _ has c.max-end.result _ (omega arith) (omega arith) c.list_to.ensures.listed

pub part-requires-clause-room : goal.part-requires-clause-room
part-requires-clause-room g c =
    let graph = g.P.Prefix.graph c.args.p.now in
    let has = subst (λ (w : Parted). HasWaiting (links_of graph) w.waiting) (sym c.self.view_is) c.requires.waiting in
    let room = subst (λ (w : Parted). length (links_of graph) ≤ w.room) (sym c.self.view_is) c.requires.room in
    let end = c.max-end.ensures in
    let looked = has.are.looked in
    let first = famous_first graph c.args.famous.now c.requires.famous c.requires.some in
    let few = listed_few (links_of graph) _ has c.max-end.result _ (omega arith) c.list_to.ensures.listed in
    omega arith

pub returns-clause-parted : goal.returns-clause-parted
returns-clause-parted g c =
    let graph = g.P.Prefix.graph c.args.p.now in
    let first = famous_first graph c.args.famous.now c.requires.famous c.requires.some in
    let new : Parted = record {
      waiting = record { ends = c.self.inside.ends; places = c.part.new.places.items; looked = c.max-end.result };
      fresh = c.part.new.fresh.items;
      room = min (vec_capacity c.part.new.places) (vec_capacity c.part.new.fresh);
    } in
    subst (λ (w : Parted). Receives graph c.args.famous.now w.waiting new) c.self.view_is
    (parted_by_list graph c.is_of_graph.ensures.shaped.earlier c.args.famous.now c.requires.some first _ c.list_to.new.places.items new c.max-end.ensures refl c.list_to.ensures.listed c.part.ensures.fresh c.part.ensures.places)
