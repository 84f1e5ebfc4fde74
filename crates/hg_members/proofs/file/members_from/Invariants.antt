use Rattle.std.proofs.Common.{◌≡◌, [], drop}
use Rattle.toml.specs.View.{items_view}
use Rattle.hg_members.specs.MemberFile.{members_after}
use Rattle.hg_members.proofs.file.members_from.Given as goal

abbrev pub invariant-loop-entry : goal.invariant-loop-entry
invariant-loop-entry l = members_after [] (items_view l.entries.items) ≡ members_after l.members.items (items_view (drop l.entry-index l.entries.items))
