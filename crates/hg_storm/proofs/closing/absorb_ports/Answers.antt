use Rattle.std.proofs.Common.{sym, ◌∙◌, arith}
use Rattle.hg_storm.proofs.BackLaws.{drop_none, drop_rest, gathered, gathering_one, next_at, port_read}
use Rattle.hg_storm.proofs.closing.absorb_ports.Goals as goal

pub absorb-requires-clause-other : goal.absorb-requires-clause-other
absorb-requires-clause-other c =
    let next = sym c.ports.invariant.rest ∙ c.in-Some.ensures.steps.0 in
    let inside = (drop_rest c.ports.k c.args.ports.items c.in-Some.port _ next).0 in
    port_read c.args.mailboxes.now c.args.ports.items c.ports.k c.index-mailboxes-k.result c.in-Some.port c.requires.ports (omega (arith, inside, c.requires.ports.count)) c.index-mailboxes-k.is
    (next_at c.args.ports.items _ c.in-Some.port c.in-Some.port c.ports.k next)

pub ports-preserved : goal.ports-preserved
ports-preserved c =
    let next = sym c.ports.invariant.rest ∙ c.in-Some.ensures.steps.0 in
    let (inside, rest) = drop_rest c.ports.k c.args.ports.items c.in-Some.port c.next.new.self.rest.items next in
    record {
      within = omega (arith, inside);
      rest = rest;
      gathering = gathering_one c.ports.k c.args.mailboxes.now c.args.masters.now.items c.args.ports.items c.ports.masters.items c.index_mut.result.now c.in-Some.port c.absorb.new.port c.ports.invariant.gathering
          (omega (arith, inside, c.requires.ports.count)) c.requires.ports.count c.requires.masters.count c.index_mut.ensures.value
          (next_at c.args.ports.items c.next.new.self.rest.items c.in-Some.port c.in-Some.port c.ports.k next) c.absorb.ensures;
    }

pub returns : goal.returns
returns c =
    let full = drop_none c.ports.k c.args.ports.items c.ports.port-iterator.rest.items c.ports.invariant.rest (omega (arith, c.in-None.ensures.steps, c.ports.port-iterator.rest.ok)) in
    gathered c.args.me c.ports.k c.args.mailboxes.now c.args.masters.now.items c.args.ports.items c.ports.masters.items c.index_mut-2.result.now c.args.inbox c.absorb-2.new.port c.ports.invariant.gathering
    (omega (arith, full, c.requires.ports.count)) c.requires.me c.index_mut-2.ensures.value c.absorb-2.ensures
