use Rattle.std.proofs.Common.{ℕ, List, sym, ◌∙◌, ap, subst}
use Rattle.hg_life.specs.NodeView.{Start}
use Rattle.hg_journal.specs.Journal.{journal}
use Rattle.hg_journal.specs.Opening.{LeavesNode}
use Rattle.hg_journal.specs.Stored.{StoredView}
use Rattle.hg_journal.specs.Writing.{AnewCases}
use Rattle.hg_journal.proofs.HeadLaws.{head_is}
use Rattle.hg_journal.proofs.opening.open_synced.Goals as goal

pub returns-in_err-gate-clause-leaves : goal.returns-in_err-gate-clause-leaves
returns-in_err-gate-clause-leaves g c bytes told =
    subst (λ (start : Start g.row.V.Denot). LeavesNode g.V.Verifier.accepts start (g.D.Disk.file c.args.disk.now) (g.D.Disk.file c.gate_of.new.disk) bytes) c.in_ok-node.ensures.start
    (c.gate_of.ensures.leaves bytes told)

pub returns-in_err-gate-clause-untouched : goal.returns-in_err-gate-clause-untouched
returns-in_err-gate-clause-untouched g c bytes told old =
    let head = head_is c.args.members.now c.args.own c.args.keys c.head_bytes-head.result c.count.result c.head_bytes-head.ensures c.count.ensures.value in
    c.gate_of.ensures.untouched bytes told (λ cases. old (subst (λ (h : List ℕ). AnewCases h bytes) head cases))

pub returns-clause-opens : goal.returns-clause-opens
returns-clause-opens g c bytes told =
    ap (λ (start : Start g.row.V.Denot). journal g.V.Verifier.accepts start bytes) (sym c.in_ok-node.ensures.start) ∙ c.in_ok-gate.ensures.finds bytes told
    ∙ sym (ap (λ (s : StoredView g.row.V.Denot). s.node) c.new-3.ensures)

pub returns-clause-leaves : goal.returns-clause-leaves
returns-clause-leaves g c bytes told =
    subst (λ (start : Start g.row.V.Denot). LeavesNode g.V.Verifier.accepts start (g.D.Disk.file c.args.disk.now) (g.D.Disk.file c.gate_of.new.disk) bytes) c.in_ok-node.ensures.start
    (c.gate_of.ensures.leaves bytes told)

pub returns-clause-untouched : goal.returns-clause-untouched
returns-clause-untouched g c bytes told old =
    let head = head_is c.args.members.now c.args.own c.args.keys c.head_bytes-head.result c.count.result c.head_bytes-head.ensures c.count.ensures.value in
    c.gate_of.ensures.untouched bytes told (λ cases. old (subst (λ (h : List ℕ). AnewCases h bytes) head cases))
