use Rattle.hg_members.specs.MemberFile.{members_of}
use Rattle.hg_top.specs.declared.status.File.TheVariants as file
use Rattle.hg_top.specs.Commands.{bad_members, members_work}
use Rattle.hg_top.specs.Ends.{StopsIn}
use Rattle.hg_top.specs.Work.{nothing_more, unless_faulty}
use Rattle.hg_keep.proofs.StopLaws.{errs}
use Rattle.hg_top.proofs.WorkLaws.{reads_none}
use Rattle.hg_top.proofs.reading.members_from.Goals as goal

pub returns-in_err-bytes-clause-err : goal.returns-in_err-bytes-clause-err
returns-in_err-bytes-clause-err g c =
    let status = c.in_err-bytes.field-0.0 in
    errs c.from_residual.result status (StopsIn g.F.Shelf c.args.shelf.now c.bytes_from.new.shelf (members_work c.args.name.now (λ members. nothing_more))) c.from_residual.ensures.1
    (reads_none g.F.Shelf c.args.shelf.now c.bytes_from.new.shelf file.Members c.args.name.now
    (λ bytes. unless_faulty bad_members (members_of bytes) (λ members. nothing_more)) status c.in_err-bytes.ensures.err)
