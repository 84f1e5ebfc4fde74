use Rattle.std.proofs.Common.{List, [], ◌∷◌, ◌++◌, sym, ap₂, ◌∙◌, arith}
use Rattle.hg_life.specs.declared.members.MemberEntry.{MemberEntry}
use Rattle.check_graphs.proofs.MadeLaws.{made_members, made_more}
use Rattle.check_graphs.proofs.plan.members_of.Goals as goal

pub loop-number-preserved : goal.loop-number-preserved
loop-number-preserved c =
    c.in_ok-push.ensures.items ∙ ap₂ (λ (entries : List MemberEntry) (entry : MemberEntry). entries ++ entry ∷ []) c.loop-number.invariant c.in_ok-entry_of.ensures
    ∙ sym (made_more c.args.weighed c.loop-number.number)

pub new-requires : goal.new-requires
new-requires c = rw (c.loop-number.invariant) (made_members c.args.weighed c.loop-number.number c.args.coin (omega (arith, c.requires.some)) (omega (arith, c.requires.few)) c.requires.coin_low c.requires.coin_high)
