use Rattle.std.proofs.Common.{rules, inl, inr, refl, sym, ◌∙◌, ap, subst, ℕ, List, Bool, is_some}
use Rattle.hg_keep.proofs.StopLaws.{errs, some_is}
use Rattle.hg_life.specs.NodeView.{NodeView, start_of}
use Rattle.hg_life.specs.Signing.{accepts_by}
use Rattle.hg_top.specs.declared.status.Status.TheVariants.{Memory}
use Rattle.hg_world.specs.World.{Secrets}
use Rattle.relay.specs.Moments.{NoMemory, moment}
use Rattle.relay.specs.Relaying.{Ended, IsHalted, RelaysStored, TellsKept, outside, unopened}
use Rattle.relay.specs.Top.{RelayEnds}
use Rattle.relay.proofs.Beginning.{made_with, relays_start}
use Rattle.relay.proofs.top.relay.Goals as goal

pub returns-in_err-members-clause-ends : goal.returns-in_err-members-clause-ends
returns-in_err-members-clause-ends g c =
    let asked = c.args.asked.now in
    let a = moment g.D.Disk g.S.Source g.K.Sink (unopened asked.disk.now) c.args.out.now in
    errs c.from_residual.result c.in_err-members.field-0.0 (RelayEnds g.F.Shelf c.args.shelf.now c.members_from.new.shelf asked a a) c.from_residual.ensures.1 (inl c.in_err-members.ensures.err)

pub returns-in_default-clause-ends : goal.returns-in_default-clause-ends
returns-in_default-clause-ends g c =
    inr (c.in_ok-members.members, c.in_ok-members.ensures.ok, inl (sym c.own_in.ensures.value ∙ c.in_default.is, refl))

pub returns-in_err-keys-clause-ends : goal.returns-in_err-keys-clause-ends
returns-in_err-keys-clause-ends g c =
    let asked = c.args.asked.now in
    let a = moment g.D.Disk g.S.Source g.K.Sink (unopened asked.disk.now) c.args.out.now in
    let some = sym c.own_in.ensures.value ∙ c.in-Some.is in
    errs c.from_residual-in_err-keys.result Memory (RelayEnds g.F.Shelf c.args.shelf.now c.members_from.new.shelf asked a a) c.from_residual-in_err-keys.ensures.1
    (inr (c.in_ok-members.members, c.in_ok-members.ensures.ok, inr (c.in-Some.own, some, Ended (NoMemory refl))))

pub returns-in_err-stored-clause-ends : goal.returns-in_err-stored-clause-ends
returns-in_err-stored-clause-ends g c =
    let asked = c.args.asked.now in
    let members = c.in_ok-members.members in
    let own = c.in-Some.own in
    let a = moment g.D.Disk g.S.Source g.K.Sink (unopened asked.disk.now) c.args.out.now in
    let b = moment g.D.Disk g.S.Source g.K.Sink (unopened asked.disk.now) c.relay_node.new.self in
    let status = c.in_err-stored.field-0.0 in
    let halted = subst (λ (keys : List (List ℕ)). IsHalted accepts_by (start_of members own keys) a b status) c.in_ok-keys.ensures.secrets c.in_err-stored.ensures.halted in
    errs c.from_residual-in_err-stored.result status (RelayEnds g.F.Shelf c.args.shelf.now c.members_from.new.shelf asked a b) c.from_residual-in_err-stored.ensures.1
    (inr (members, c.in_ok-members.ensures.ok, inr (own, sym c.own_in.ensures.value ∙ c.in-Some.is, halted)))

pub told_of-requires : goal.told_of-requires
told_of-requires g c =
    let v = c.unwrap.result.now in
    let relayed = c.in_ok-stored.ensures.relayed in
    let start = start_of c.in_ok-members.members c.in-Some.own c.in_ok-keys.keys in
    let same = some_is v relayed.0 (sym (search rules) ∙ relayed.1) in
    made_with c.in_ok-members.members c.in-Some.own c.in_ok-keys.keys v (ap (λ (x : NodeView Secrets). x.start) same ∙ relays_start accepts_by start _ _ _ relayed.0 relayed.2)

pub returns-in_err-told_of-clause-ends : goal.returns-in_err-told_of-clause-ends
returns-in_err-told_of-clause-ends g c =
    let asked = c.args.asked.now in
    let a = moment g.D.Disk g.S.Source g.K.Sink (unopened asked.disk.now) c.args.out.now in
    let b = moment g.D.Disk g.S.Source g.K.Sink (unopened asked.disk.now) c.relay_node.new.self in
    errs c.from_residual-in_err-told_of.result Memory (RelayEnds g.F.Shelf c.args.shelf.now c.members_from.new.shelf asked a b) c.from_residual-in_err-told_of.ensures.1
    (inr (c.in_ok-members.members, c.in_ok-members.ensures.ok, inr (c.in-Some.own, sym c.own_in.ensures.value ∙ c.in-Some.is, Ended (NoMemory refl))))

pub returns-clause-tells : goal.returns-clause-tells
returns-clause-tells g c =
    let members = c.in_ok-members.members in
    let own = c.in-Some.own in
    let v = c.unwrap.result.now in
    let asked = c.args.asked.now in
    let a = outside g.D.Disk g.S.Source g.K.Sink asked c.args.out.now in
    let b = outside g.D.Disk g.S.Source g.K.Sink asked c.relay_node.new.self in
    let relayed = subst (λ (keys : List (List ℕ)). RelaysStored accepts_by (start_of members own keys) asked a b c.in_ok-stored.stored) c.in_ok-keys.ensures.secrets c.in_ok-stored.ensures.relayed in
    let same = some_is v relayed.0 (sym (search rules) ∙ relayed.1) in
    let wanted = subst (λ (b : Bool). TellsKept accepts_by members b v c.in_ok-told_of.field-0) c.is_some-wanted.ensures c.in_ok-told_of.ensures in
    let tells = subst (λ (x : NodeView Secrets). TellsKept accepts_by members (is_some c.args.asked.now.proof) x c.in_ok-told_of.field-0) same wanted in
    (members, c.in_ok-members.ensures.ok, (own, sym c.own_in.ensures.value ∙ c.in-Some.is, (relayed.0, relayed.2, tells)))
