use Rattle.std.proofs.Common.{◌≡◌, ◌∙◌, ◌+◌, ℕ, length, slice_set, subst, sym, arith}
use Rattle.std.specs.Prelude.{vec_capacity}
use Rattle.hg_storm.proofs.OpenLaws.{Issuing, issued_all, issued_senders, issuing_gives, issuing_none, issuing_of, issuing_one, issuing_parts}
use Rattle.hg_storm.proofs.opening.issue_all.Goals as goal

pub ports-init : goal.ports-init
ports-init c =
    issuing_none c.args.me (vec_capacity c.reserve.new.self) c.args.mailboxes.now c.args.masters.now.items c.reserve.new.self.items c.requires.opened (c.in_ok-reserve.ensures.items ∙ c.new-ports.ensures.items)
    (omega (arith, c.in_ok-reserve.ensures.ok))

pub issue-port-requires-clause-of : goal.issue-port-requires-clause-of
issue-port-requires-clause-of c =
    issuing_of c.args.me c.ports.k (vec_capacity c.ports.ports) c.args.mailboxes.now c.ports.masters.items c.ports.ports.items c.index-mailboxes-k.result c.index_mut.result.now c.ports.invariant c.ports-test.true
    c.index-mailboxes-k.is c.index_mut.ensures.value

pub issue-port-requires-clause-gives : goal.issue-port-requires-clause-gives
issue-port-requires-clause-gives c =
    issuing_gives c.args.me c.ports.k (vec_capacity c.ports.ports) c.args.mailboxes.now c.ports.masters.items c.ports.ports.items c.index-mailboxes-k.result c.index_mut.result.now c.ports.invariant c.ports-test.true
    c.index-mailboxes-k.is c.index_mut.ensures.value

pub issue-port-requires-clause-parts : goal.issue-port-requires-clause-parts
issue-port-requires-clause-parts c =
    issuing_parts c.args.me c.ports.k (vec_capacity c.ports.ports) c.args.mailboxes.now c.ports.masters.items c.ports.ports.items c.index-mailboxes-k.result c.index_mut.result.now c.ports.invariant c.ports-test.true
    c.index-mailboxes-k.is c.index_mut.ensures.value c.requires.few

pub ports-preserved : goal.ports-preserved
ports-preserved c =
    subst (λ (r : ℕ). Issuing c.args.me (c.ports.k + 1) r c.args.mailboxes.now (slice_set c.ports.masters.items c.ports.k c.issue-port.new.port) c.push_reserved.new.self.items) (sym c.push_reserved.ensures.capacity)
    (issuing_one c.args.me c.ports.k (vec_capacity c.ports.ports) c.args.mailboxes.now c.ports.masters.items c.ports.ports.items c.index-mailboxes-k.result c.index_mut.result.now c.ports.invariant c.ports-test.true
    c.index-mailboxes-k.is c.index_mut.ensures.value c.issue-port.new.port c.issue-port.result c.push_reserved.new.self.items c.requires.few c.issue-port.ensures.port c.issue-port.ensures.sender
    c.push_reserved.ensures.items)

pub returns-clause-issued : goal.returns-clause-issued
returns-clause-issued c =
    let all : c.ports.k ≡ length c.args.mailboxes.now = omega (arith, c.ports-test.false) in
    issued_all c.args.me c.ports.k (vec_capacity c.ports.ports) c.args.mailboxes.now c.ports.masters.items c.ports.ports.items c.ports.invariant all

pub returns-clause-senders : goal.returns-clause-senders
returns-clause-senders c =
    let all : c.ports.k ≡ length c.args.mailboxes.now = omega (arith, c.ports-test.false) in
    issued_senders c.args.me c.ports.k (vec_capacity c.ports.ports) c.args.mailboxes.now c.ports.masters.items c.ports.ports.items c.ports.invariant all
