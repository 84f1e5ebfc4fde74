use Rattle.std.proofs.Common.{drop}
use Rattle.hg_life.specs.Members.{names_of}
use Rattle.hg_service.specs.Text.{more_names}
use Rattle.hg_io.specs.Printing.{IsPutUpTo, desk}
use Rattle.hg_telling.proofs.further.write_more_names.Given as goal

abbrev pub invariant-loop-member : goal.invariant-loop-member
invariant-loop-member g l =
    let sink = g.K.Sink in
    IsPutUpTo (desk sink l.initial.sink l.initial.page) (desk sink l.sink l.page)
    (more_names (names_of l.members) (drop l.member-index l.others)) (more_names (names_of l.members) l.others)
