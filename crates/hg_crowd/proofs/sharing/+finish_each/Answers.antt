use Rattle.std.proofs.Common.{Some, rules, [], ◌∷◌, ◌++◌, arith, subst, sym}
use Rattle.hg_crowd.specs.Crowd.{AreSeats}
use Rattle.std.proofs.lemmas.List.Elements.{All-pop}
use Rattle.hg_crowd.specs.Workers.{AreWhole, HasAll}
use Rattle.hg_crowd.proofs.CrowdLaws.{seats_but_last, whole_one}
use Rattle.hg_crowd.proofs.sharing.+finish_each.Goals as goal

pub finish_each-requires : goal.finish_each-requires
finish_each-requires g t c κs within =
    let accepts = g.V.Verifier.accepts in
    let ps = c.pop.new.self.items in
    let ss = c.pop-2.new.self.items in
    let seats = subst (λ l. AreSeats accepts l (ss ++ c.in-Some-pop.seat ∷ [])) c.in-Some.ensures.items (subst (λ l. AreSeats accepts c.args.shared.now.items l) c.in-Some-pop.ensures.items c.requires.seats) in
    let parts = All-pop HasAll c.args.seats.now.items ss (Some c.in-Some-pop.seat) c.in-Some-pop.ensures.items c.requires.parts in
    (search rules, (search rules, (search rules, ((seats_but_last accepts ps ss c.in-Some.shared_node c.in-Some-pop.seat seats).0, (parts.0, (c.requires.none, omega (arith, c.requires.room, c.in-Some.ensures.len)))))))

pub finish-requires-clause-seat : goal.finish-requires-clause-seat
finish-requires-clause-seat g t c =
    let accepts = g.V.Verifier.accepts in
    let ps = c.pop.new.self.items in
    let ss = c.pop-2.new.self.items in
    let seats = subst (λ l. AreSeats accepts l (ss ++ c.in-Some-pop.seat ∷ [])) c.in-Some.ensures.items (subst (λ l. AreSeats accepts c.args.shared.now.items l) c.in-Some-pop.ensures.items c.requires.seats) in
    (seats_but_last accepts ps ss c.in-Some.shared_node c.in-Some-pop.seat seats).1

pub finish-requires-clause-parts : goal.finish-requires-clause-parts
finish-requires-clause-parts g t c = (All-pop HasAll c.args.seats.now.items c.pop-2.new.self.items (Some c.in-Some-pop.seat) c.in-Some-pop.ensures.items c.requires.parts).1

pub returns-clause-whole : goal.returns-clause-whole
returns-clause-whole g t c =
    let accepts = g.V.Verifier.accepts in
    let ps = c.pop.new.self.items in
    let ss = c.pop-2.new.self.items in
    let ns = c.finish_each.new.nodes.items in
    let all = whole_one accepts ps ss ns c.in-Some.shared_node c.in-Some-pop.seat c.finish.result c.finish_each.ensures.whole c.finish.ensures in
    subst (λ l. AreWhole l c.args.seats.now.items c.push_reserved.new.self.items) (sym c.in-Some.ensures.items)
    (subst (λ l. AreWhole (ps ++ c.in-Some.shared_node ∷ []) l c.push_reserved.new.self.items) (sym c.in-Some-pop.ensures.items)
    (subst (λ l. AreWhole (ps ++ c.in-Some.shared_node ∷ []) (ss ++ c.in-Some-pop.seat ∷ []) l) (sym c.push_reserved.ensures.items) all))
