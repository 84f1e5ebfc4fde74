use Rattle.std.proofs.Common.{refl}
use Rattle.hg_members.specs.MemberFile.{members_of}
use Rattle.hg_life.specs.Members.{MemberList}
use Rattle.hg_certify.specs.Showing.{judged_by}
use Rattle.hg_certify.specs.Text.{shown_text}
use Rattle.hg_top.specs.declared.status.File.TheVariants as file
use Rattle.hg_top.specs.Commands.{IsAnswerOf, answer_work, bad_members, bad_proof, shown_work}
use Rattle.hg_top.specs.Course.{no_disk}
use Rattle.hg_top.proofs.KeepLaws.{idle_none}
use Rattle.hg_top.proofs.WorkLaws.{takes_none, takes_on, wrote}
use Rattle.hg_top.proofs.proving.check.Goals as goal

pub returns-in-Err-clause-ends : goal.returns-in-Err-clause-ends
returns-in-Err-clause-ends g c =
    let proof = c.args.asked.now.proof.now in
    takes_none g.F.Shelf g.K.Sink c.args.shelf.now c.members_from.new.shelf c.args.out.now no_disk file.Members bad_members members_of c.args.asked.now.members.now
    (λ (list : MemberList). shown_work proof list (answer_work list)) c.in-Err.status idle_none c.in-Err.ensures.err

pub returns-in-Ok-proof_from-clause-ends : goal.returns-in-Ok-proof_from-clause-ends
returns-in-Ok-proof_from-clause-ends g c =
    let F = g.F.Shelf in
    let K = g.K.Sink in
    let s = c.args.shelf.now in
    let u = c.members_from.new.shelf in
    let t = c.proof_from.new.shelf in
    let out = c.args.out.now in
    let written = c.write_shown.new.sink in
    let proof = c.args.asked.now.proof.now in
    let list : MemberList = c.in-Ok.members in
    let shown = c.in-Ok-proof_from.shown in
    let is : IsAnswerOf list shown (shown_text shown) = record {
      is = refl;
      shows = c.in-Ok-proof_from.ensures.shows;
      safe = c.in-Ok-proof_from.ensures.safe;
    } in
    let status = c.status_of.result in
    takes_on F K s u t out written no_disk file.Members bad_members members_of c.args.asked.now.members.now
    (λ (list : MemberList). shown_work proof list (answer_work list)) list status c.in-Ok.ensures.ok c.members_from.ensures.starts
    (takes_on F K u t t out written no_disk file.Proof bad_proof (judged_by list) proof (answer_work list) shown status
    c.in-Ok-proof_from.ensures.ok c.proof_from.ensures.starts
    (refl, rw c.status_of.ensures (wrote K out written (IsAnswerOf list shown) (shown_text shown) c.write_shown.result is c.write_shown.ensures), idle_none))

pub returns-clause-ends : goal.returns-clause-ends
returns-clause-ends g c =
    let F = g.F.Shelf in
    let K = g.K.Sink in
    let u = c.members_from.new.shelf in
    let t = c.proof_from.new.shelf in
    let out = c.args.out.now in
    let proof = c.args.asked.now.proof.now in
    let list : MemberList = c.in-Ok.members in
    let status = c.in-Err-proof_from.status in
    takes_on F K c.args.shelf.now u t out out no_disk file.Members bad_members members_of c.args.asked.now.members.now
    (λ (list : MemberList). shown_work proof list (answer_work list)) list status c.in-Ok.ensures.ok c.members_from.ensures.starts
    (takes_none F K u t out no_disk file.Proof bad_proof (judged_by list) proof (answer_work list) status idle_none c.in-Err-proof_from.ensures.err)
