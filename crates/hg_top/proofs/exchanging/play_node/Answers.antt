use Rattle.std.proofs.Common.{◌≡◌, ◌∙◌, ℕ, Option, Some, subst, sym}
use Rattle.hg_life.specs.Members.{MemberList}
use Rattle.hg_members.specs.MemberFile.{members_of}
use Rattle.hg_top.specs.declared.status.File.TheVariants as file
use Rattle.hg_command.specs.Asked.{node_files}
use Rattle.hg_top.specs.Commands.{bad_members, exchange_work, if_own, own_in, play_work}
use Rattle.hg_top.specs.Course.{course, no_disk}
use Rattle.hg_top.specs.Ends.{Ends}
use Rattle.hg_top.specs.Work.{Work}
use Rattle.hg_top.proofs.KeepLaws.{idle_none}
use Rattle.hg_top.proofs.WorkLaws.{takes_none, takes_on}
use Rattle.hg_top.proofs.exchanging.play_node.Goals as goal

pub returns-in-Err-clause-ends : goal.returns-in-Err-clause-ends
returns-in-Err-clause-ends g c =
    let f = node_files c.args.asked.now in
    let next : MemberList → ℕ → Work = play_work f.script (exchange_work c.args.exchange) in
    takes_none g.F.Shelf g.K.Sink c.args.shelf.now c.members_from.new.shelf c.args.out.now no_disk file.Members bad_members members_of f.members
    (λ (members : MemberList). if_own (own_in members f.own) (next members)) c.in-Err.status idle_none c.in-Err.ensures.err

pub returns-in-Some-clause-ends : goal.returns-in-Some-clause-ends
returns-in-Some-clause-ends g c =
    let F = g.F.Shelf in
    let K = g.K.Sink in
    let f = node_files c.args.asked.now in
    let next : MemberList → ℕ → Work = play_work f.script (exchange_work c.args.exchange) in
    let members : MemberList = c.in-Ok.members in
    let u = c.members_from.new.shelf in
    let t = c.play_script.new.shelf in
    let own : Some c.in-Some.own ≡ own_in members f.own = sym c.in-Some.is ∙ c.own_in.ensures.value in
    let ends = subst (λ (o : Option ℕ). Ends (if_own o (next members)) (course F K u t c.args.out.now c.play_script.new.out no_disk) c.play_script.result) own c.play_script.ensures.ends in
    takes_on F K c.args.shelf.now u t c.args.out.now c.play_script.new.out no_disk file.Members bad_members members_of f.members
    (λ (list : MemberList). if_own (own_in list f.own) (next list)) members c.play_script.result
    c.in-Ok.ensures.ok c.members_from.ensures.starts ends
