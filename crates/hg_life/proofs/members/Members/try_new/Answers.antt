use Rattle.std.proofs.Common.{◌∙◌, ap, sym}
use Rattle.std.proofs.lemmas.Bool.{false≢true}
use Rattle.hg_life.specs.Members.{is_member_list}
use Rattle.hg_life.proofs.MemberLaws.{member_list_to, member_list_from}
use Rattle.hg_life.proofs.members.Members.try_new.Goals as goal

pub new-requires : goal.new-requires
new-requires c =
    member_list_to c.args.entries.items c.args.coin
    (ap (λ entries. is_member_list entries c.args.coin) (sym c.as_slice.ensures.value) ∙ sym c.if-is_member_list.ensures)

pub returns-else-is_member_list-clause-exact : goal.returns-else-is_member_list-clause-exact
returns-else-is_member_list-clause-exact c = (
  (λ wrong. absurd (false≢true wrong)),
  (λ lawful. c.if-is_member_list.ensures ∙ (ap (λ entries. is_member_list entries c.args.coin) c.as_slice.ensures.value ∙ member_list_from c.args.entries.items c.args.coin lawful)),
)
