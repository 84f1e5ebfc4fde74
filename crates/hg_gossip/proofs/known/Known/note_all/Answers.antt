use Rattle.std.proofs.Common.{◌≡◌, ◌∙◌, List, ap, length, subst, sym, arith}
use Rattle.hg_gossip.specs.Handing.{HeardView, all_heard}
use Rattle.hg_gossip.specs.Known.{IsSquare, KeepsAll, handed_on, with_heard}
use Rattle.hg_gossip.proofs.KnownLaws.{all_kept, handed_count}
use Rattle.hg_gossip.proofs.known.Known.note_all.Goals as goal

pub hand_one_on-requires-clause-x : goal.hand_one_on-requires-clause-x
hand_one_on-requires-clause-x c = omega (arith, c.requires.x, ap length c.loop-z.invariant, handed_count c.args.self.now c.args.x c.args.y c.loop-z.z)

pub hand_one_on-requires-clause-y : goal.hand_one_on-requires-clause-y
hand_one_on-requires-clause-y c = omega (arith, c.requires.y, ap length c.loop-z.invariant, handed_count c.args.self.now c.args.x c.args.y c.loop-z.z)

pub hand_one_on-requires-clause-z : goal.hand_one_on-requires-clause-z
hand_one_on-requires-clause-z c =
    omega (arith, c.loop-z-test.true, c.len-z-end.ensures, ap length c.self.view_is, ap length c.loop-z.invariant, handed_count c.args.self.now c.args.x c.args.y c.loop-z.z)

pub set-requires-clause-x : goal.set-requires-clause-x
set-requires-clause-x c = omega (arith, c.requires.x, ap length c.loop-z.invariant, handed_count c.args.self.now c.args.x c.args.y c.loop-z.z)

pub set-requires-clause-y : goal.set-requires-clause-y
set-requires-clause-y c = omega (arith, c.requires.y, ap length c.loop-z.invariant, handed_count c.args.self.now c.args.x c.args.y c.loop-z.z)

pub returns-clause-keeps : goal.returns-clause-keeps
returns-clause-keeps c =
    let all : c.loop-z.z ≡ length c.args.self.now = omega (arith, c.len-z-end.ensures, ap length c.self.view_is) in
    subst (KeepsAll c.args.self.now c.args.x c.args.y c.args.len)
    (sym (c.set.ensures.value ∙ (ap (with_heard c.loop-z.self c.args.x c.args.y) c.all_heard.ensures
    ∙ ap (λ (k : List (List HeardView)). with_heard k c.args.x c.args.y (all_heard c.args.len)) (c.loop-z.invariant ∙ ap (handed_on c.args.self.now c.args.x c.args.y) all))))
    (all_kept c.args.self.now c.args.x c.args.y c.args.len (subst IsSquare c.self.view_is c.self.invariant) c.requires.x c.requires.y)
