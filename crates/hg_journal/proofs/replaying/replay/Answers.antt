use Rattle.std.proofs.Common.{rules, ◌≡◌, ℕ, ◌+◌, ◌<◌, ◌≤◌, length, take, Some, refl, sym, ◌∙◌, ap, subst, arith, length-take}
use Rattle.std.proofs.lemmas.List.{length-take-le}
use Rattle.hg_io.proofs.Going.{stays_on, stays_same}
use Rattle.hg_node.specs.Replay.{new_node}
use Rattle.hg_journal.specs.Journal.{NeedsMemory, head_of, next_node}
use Rattle.hg_journal.specs.Places.{Leads}
use Rattle.hg_journal.proofs.Fresh.{ours_leads}
use Rattle.hg_journal.proofs.Gates.{at_state}
use Rattle.hg_journal.proofs.NodeLaws.{changes_few, next_more}
use Rattle.hg_journal.proofs.RecordLaws.{at_closed, nothing_broken, one_more, unfit_broken}
use Rattle.hg_journal.proofs.StoredLaws.{gate_small, near_next}
use Rattle.hg_journal.proofs.replaying.replay.Goals as goal

pub returns-in-Closed-clause-place : goal.returns-in-Closed-clause-place
returns-in-Closed-clause-place g c bytes told =
    let start = c.args.node.now.start in
    let leads = c.records.invariant.leads bytes told in
    let here = rw c.in-Closed.is at (c.in_ok-read.ensures.ahead bytes (c.records.invariant.stays.reads ∙ told)) in
    at_closed (next_node g.V.Verifier.accepts) (new_node start) (head_of start) bytes c.records.node c.records.at leads.0 leads.1 here

pub returns-in-Closed-clause-finds : goal.returns-in-Closed-clause-finds
returns-in-Closed-clause-finds g c bytes told =
    let start = c.args.node.now.start in
    at_state (next_node g.V.Verifier.accepts) (new_node start) (head_of start) c.records.node c.records.at bytes (returns-in-Closed-clause-place g c bytes told)

pub returns-in-Nothing-clause-finds : goal.returns-in-Nothing-clause-finds
returns-in-Nothing-clause-finds g c bytes told =
    let start = c.args.node.now.start in
    let leads = c.records.invariant.leads bytes told in
    let here = rw c.in-Nothing.is at (c.in_ok-read.ensures.ahead bytes (c.records.invariant.stays.reads ∙ told)) in
    nothing_broken (next_node g.V.Verifier.accepts) (new_node start) (head_of start) bytes c.records.node c.records.at leads.0 leads.1 here

pub returns-then-not-branch-clause-finds : goal.returns-then-not-branch-clause-finds
returns-then-not-branch-clause-finds g c bytes told =
    let start = c.args.node.now.start in
    let leads = c.records.invariant.leads bytes told in
    let here = rw c.in-Record.is at (c.in_ok-read.ensures.ahead bytes (c.records.invariant.stays.reads ∙ told)) in
    unfit_broken (next_node g.V.Verifier.accepts) (new_node start) (head_of start) bytes c.records.node c.records.at leads.0 leads.1 c.in-Record.kind _ here.0 (search rules)

pub returns-in_err-come_again-in-Record-clause-free : goal.returns-in_err-come_again-in-Record-clause-free
returns-in_err-come_again-in-Record-clause-free g c memory bytes told =
    let accepts = g.V.Verifier.accepts in
    let here = rw c.in-Record.is at (c.in_ok-read.ensures.ahead bytes (c.records.invariant.stays.reads ∙ told)) in
    let same : c.from-size.result ≡ c.in-Record.size = search rules in
    record {
      node = c.records.node;
      at = c.records.at;
      kind = c.in-Record.kind;
      body = take c.in-Record.size c.read.new.buf;
      leads = (c.records.invariant.leads bytes told).1;
      here = here.0;
      needs = subst (λ (n : ℕ). NeedsMemory accepts c.records.node c.in-Record.kind (take n c.read.new.buf)) same c.in_err-come_again-in-Record.ensures.free;
    }

pub records-init : goal.records-init
records-init g c =
    let accepts = g.V.Verifier.accepts in
    let start = c.args.node.now.start in
    record {
      room = c.requires.room;
      begins = refl;
      near = omega arith;
      leads = λ bytes told.
          let ours = c.requires.head bytes told in (
            omega (arith, length-take 9 bytes, ap length ours),
            subst (Leads (next_node accepts) (new_node start) (head_of start) (take 9 bytes)) (sym c.requires.first)
                (ours_leads (next_node accepts) (new_node start) (head_of start) refl bytes ours),
          );
      stays = stays_same _;
      started = c.requires.started;
      counts = λ other. omega arith;
    }

pub read-requires-clause-small : goal.read-requires-clause-small
read-requires-clause-small g c = omega (arith, gate_small g.V.Verifier.accepts c.records.node c.records.at c.is_node.ensures c.records.invariant.near)

pub overflow_add-at-in-Record : goal.overflow_add-at-in-Record
overflow_add-at-in-Record g c =
    let sized : c.from-size.result < 65536 = search rules in
    omega (arith, sized, gate_small g.V.Verifier.accepts c.records.node c.records.at c.is_node.ensures c.records.invariant.near)

pub records-smaller : goal.records-smaller
records-smaller g c =
    let came : next_node g.V.Verifier.accepts c.records.node c.in-Record.kind (take c.in-Record.size c.read.new.buf) ≡ Some c.come_again.new.node = search rules in
    let more = next_more c.records.node c.come_again.new.node g.V.Verifier.accepts c.in-Record.kind _ came in
    omega (arith, more.1, changes_few g.V.Verifier.accepts c.records.node c.is_node.ensures)

pub records-preserved : goal.records-preserved
records-preserved g c =
    let start = c.args.node.now.start in
    let came : next_node g.V.Verifier.accepts c.records.node c.in-Record.kind (take c.in-Record.size c.read.new.buf) ≡ Some c.come_again.new.node = search rules in
    let more = next_more c.records.node c.come_again.new.node g.V.Verifier.accepts c.in-Record.kind _ came in
    let same : c.from-size.result ≡ c.in-Record.size = search rules in
    let sized : c.in-Record.size < 65536 = search rules in
    let room : 65535 ≤ length c.read.new.buf = search rules in
    let body : length (take c.in-Record.size c.read.new.buf) ≡ c.in-Record.size = length-take-le c.in-Record.size c.read.new.buf (omega (arith, sized, room)) in
    record {
      room = search rules;
      begins = more.0 ∙ c.records.invariant.begins;
      near = near_next g.V.Verifier.accepts c.records.node c.come_again.new.node c.in-Record.kind (take c.in-Record.size c.read.new.buf) c.records.at (c.records.at + (4 + c.from-size.result))
          (omega (arith, body, sized)) came (omega (arith, body, same)) c.records.invariant.near;
      leads = λ bytes told.
          let leads = c.records.invariant.leads bytes told in
          let here = rw c.in-Record.is at (c.in_ok-read.ensures.ahead bytes (c.records.invariant.stays.reads ∙ told)) in
          one_more (next_node g.V.Verifier.accepts) (new_node start) (head_of start) bytes c.records.node c.records.at leads.0 leads.1 c.in-Record.kind (take c.in-Record.size c.read.new.buf)
          c.come_again.new.node (c.records.at + (4 + c.from-size.result)) (omega (arith, body, same)) here.0 came;
      stays = stays_on c.records.invariant.stays c.read.ensures.stays;
      started = search rules;
      counts = search rules;
    }
