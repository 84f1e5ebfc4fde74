use Rattle.std.proofs.Common.{◌≡◌, List, arith, refl, sym, subst}
use Rattle.std.proofs.lemmas.List.FromFn.{map-range_with_len_more}
use Rattle.hg_life.specs.declared.members.MemberEntry.{MemberEntry}
use Rattle.hg_life.specs.Members.{IsMemberList, listed}
use Rattle.hg_made.specs.Made.{made_member}
use Rattle.hg_made.proofs.MadeLaws.{made_lawful}
use Rattle.hg_made.proofs.members.made_members.Goals as goal

pub new-requires : goal.new-requires
new-requires c =
    let all : c.loop-member.member ≡ c.args.members = omega (arith, c.loop-member.invariant.1, c.loop-member-test.false) in
    subst (λ (entries : List MemberEntry). IsMemberList (listed entries 10)) (sym c.loop-member.invariant.0)
    (made_lawful c.args.seed c.loop-member.member (omega (arith, all, c.requires.some)) (omega (arith, all, c.requires.few)))

pub loop-member-preserved : goal.loop-member-preserved
loop-member-preserved c =
    let is = c.loop-member.invariant.0 in
    let one = c.in_ok-made_member.ensures in
    let next = map-range_with_len_more (made_member c.args.seed) 0 c.loop-member.member c.loop-member.member (omega arith) in
    (rw (c.in_ok-push.ensures.items, is, one, next) refl, omega (arith, c.loop-member-test.true))
