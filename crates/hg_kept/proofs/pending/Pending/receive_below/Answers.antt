use Rattle.std.proofs.Common.{◌≡◌, min, refl, sym, subst, vec_capacity}
use Rattle.hg_kept.specs.Receiving.{Parted, Receives}
use Rattle.hg_kept.proofs.WaitLaws.{parted_by_ends}
use Rattle.hg_kept.proofs.pending.Pending.receive_below.Goals as goal

pub returns-clause-parted : goal.returns-clause-parted
returns-clause-parted g c =
    let graph = g.P.Prefix.graph c.args.p.now in
    let none = subst (λ (w : Parted). w.waiting.looked ≡ 0) (sym c.self.view_is) c.requires.none in
    let new : Parted = record {
      waiting = record { ends = c.take_below.new.ends; places = c.self.inside.places.items; looked = c.self.inside.looked };
      fresh = c.take_below.new.fresh.items;
      room = min (vec_capacity c.self.inside.places) (vec_capacity c.take_below.new.fresh);
    } in
    subst (λ (w : Parted). Receives graph c.args.famous.now w.waiting new) c.self.view_is
    (parted_by_ends graph c.is_of_graph.ensures.shaped c.args.famous.now c.args.least.now _ new c.requires.ends none refl refl c.take_below.ensures.ends c.take_below.ensures.listed)
