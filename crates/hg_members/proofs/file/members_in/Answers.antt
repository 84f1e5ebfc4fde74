use Rattle.std.proofs.Common.{codes, sym, ◌∙◌}
use Rattle.toml.specs.Data.{get}
use Rattle.toml.specs.View.{array_view, view}
use Rattle.hg_members.proofs.Lawful.{members_few, members_lawful}
use Rattle.hg_members.specs.MemberFile.{entries_of}
use Rattle.hg_members.proofs.file.members_in.Goals as goal

pub summed-requires-clause-few : goal.summed-requires-clause-few
summed-requires-clause-few c =
    members_few (entries_of (get (codes "member") (view c.args.document.now))) (array_view c.in_ok-entries.entries.now)
    c.in_ok-members.members.items c.in_ok-entries.ensures c.in_ok-members.ensures

pub summed-requires-clause-lawful : goal.summed-requires-clause-lawful
summed-requires-clause-lawful c =
    members_lawful (get (codes "coin") (view c.args.document.now)) c.in_ok-coin.coin
    (entries_of (get (codes "member") (view c.args.document.now))) (array_view c.in_ok-entries.entries.now)
    c.in_ok-members.members.items (sym c.coin_in.ensures ∙ c.in_ok-coin.was) c.in_ok-entries.ensures c.in_ok-members.ensures
