use Rattle.std.proofs.Common.{rules, ◌∷◌, ℕ, List, Some, sym, ◌∙◌, ap, subst}
use Rattle.std.specs.Bool.{Decides}
use Rattle.std.proofs.lemmas.Bool.Decides.{not_from_Decides}
use Rattle.hg_io.proofs.Going.{stays_synced}
use Rattle.hg_life.specs.NodeView.{NodeView}
use Rattle.hg_journal.specs.Writing.{IsBegun}
use Rattle.hg_journal.proofs.Front.{says_anew, says_head, says_old, says_whole}
use Rattle.hg_journal.proofs.OpenLaws.{anew_is, anew_leaves, foreign_is, made_stored, replayed_stored}
use Rattle.hg_journal.proofs.opening.gate_of.Goals as goal

pub make_anew-requires-clause-begun : goal.make_anew-requires-clause-begun
make_anew-requires-clause-begun g c bytes told =
    let whole = says_whole c.args.head.now (search rules) bytes c.in_ok-count.count c.fill_from.new.buf (search rules)
    (c.in_ok-count.ensures.filled bytes (sym c.fill_from.ensures.stays.reads ∙ told)) (c.is_anew.ensures.0 c.if-is_anew.true) in
    subst (λ (l : List ℕ). Decides c.is_begun.result (IsBegun l)) whole c.is_begun.ensures

pub returns-in_err-make_anew-clause-leaves : goal.returns-in_err-make_anew-clause-leaves
returns-in_err-make_anew-clause-leaves g c bytes told =
    let anew = says_anew c.args.head.now (search rules) bytes c.in_ok-count.count c.fill_from.new.buf (search rules) (c.in_ok-count.ensures.filled bytes told) (c.is_anew.ensures.0 c.if-is_anew.true) in
    anew_leaves g.V.Verifier.accepts c.args.node.now.start c.args.head.now c.requires.head _ _ _ bytes c.fill_from.ensures.stays anew (c.make_anew.ensures.leaves bytes (c.fill_from.ensures.stays.reads ∙ told))

pub returns-then-is_anew-clause-stored : goal.returns-then-is_anew-clause-stored
returns-then-is_anew-clause-stored g c =
    made_stored g.V.Verifier.accepts c.args.node.now.start c.args.head.now c.requires.head _ c.args.node.now c.requires.first c.in_ok-make_anew.ensures.synced c.in_ok-make_anew.ensures.made

pub returns-then-is_anew-clause-finds : goal.returns-then-is_anew-clause-finds
returns-then-is_anew-clause-finds g c bytes told =
    let anew = says_anew c.args.head.now (search rules) bytes c.in_ok-count.count c.fill_from.new.buf (search rules) (c.in_ok-count.ensures.filled bytes told) (c.is_anew.ensures.0 c.if-is_anew.true) in
    anew_is g.V.Verifier.accepts c.args.node.now.start c.args.head.now c.requires.head bytes anew ∙ ap (λ (v : NodeView _). Some v) (sym c.requires.first)

pub returns-then-is_anew-clause-leaves : goal.returns-then-is_anew-clause-leaves
returns-then-is_anew-clause-leaves g c bytes told =
    let anew = says_anew c.args.head.now (search rules) bytes c.in_ok-count.count c.fill_from.new.buf (search rules) (c.in_ok-count.ensures.filled bytes told) (c.is_anew.ensures.0 c.if-is_anew.true) in
    anew_leaves g.V.Verifier.accepts c.args.node.now.start c.args.head.now c.requires.head _ _ _ bytes c.fill_from.ensures.stays anew (c.make_anew.ensures.leaves bytes (c.fill_from.ensures.stays.reads ∙ told))

pub returns-then-not-is_ours-clause-finds : goal.returns-then-not-is_ours-clause-finds
returns-then-not-is_ours-clause-finds g c bytes told =
    let filled = c.in_ok-count.ensures.filled bytes told in
    foreign_is g.V.Verifier.accepts c.args.node.now.start c.args.head.now c.requires.head bytes
    (says_old c.args.head.now (search rules) bytes c.in_ok-count.count c.fill_from.new.buf (search rules) filled (not_from_Decides _ c.is_anew.ensures c.if-is_anew.false))
    (λ ours. not_from_Decides _ c.is_ours.ensures (search rules) (says_head c.args.head.now (search rules) bytes c.in_ok-count.count c.fill_from.new.buf (search rules) filled ∙ ours))

pub replay-requires-clause-head : goal.replay-requires-clause-head
replay-requires-clause-head g c bytes told =
    sym (says_head c.args.head.now (search rules) bytes c.in_ok-count.count c.fill_from.new.buf (search rules) (c.in_ok-count.ensures.filled bytes (sym c.fill_from.ensures.stays.reads ∙ told)))
    ∙ c.is_ours.ensures.0 (search rules) ∙ ap (λ (h : List ℕ). 1 ∷ h) c.requires.head

pub returns-clause-stored : goal.returns-clause-stored
returns-clause-stored g c =
    replayed_stored g.V.Verifier.accepts c.args.node.now.start _ _ c.replay.ensures.stays c.replay.new.node c.replay.result (stays_synced c.fill_from.ensures.stays c.requires.synced) c.replay.ensures.start c.replay.ensures.place
