-- The text of what came of the work
use Rattle.std.specs.Prelude.{ℕ, List, [], ◌++◌, Option, Some, None, codes}
use Rattle.std.specs.Fmt.{decimal}
use Rattle.hg_outcome.specs.Report.{make_fault_text, report_text, with_number}
use Rattle.hg_keep.specs.declared.kept.PutCounts.{PutCounts}
use Rattle.hg_keep.specs.declared.kept.KeepReport.{KeepReport}
use Rattle.hg_keep.specs.declared.kept.Making.{Making}
use Rattle.hg_keep.specs.declared.kept.Making.TheVariants.{Made, PeerBare, Refused}

abbrev pub opened_line : ℕ → List ℕ
opened_line rows = with_number (codes "opened") rows ++ codes "\n"

abbrev pub counts_line : PutCounts → List ℕ
counts_line c =
    with_number (codes "accepted") c.accepted ++ (with_number (codes " known") c.known ++ (with_number (codes " refused") c.refused ++ codes "\n"))

abbrev pub making_text : Making → List ℕ
making_text (Made place digits) = decimal place ++ (codes " " ++ digits)
making_text PeerBare = codes "none peer-bare"
making_text (Refused fault) = codes "none " ++ make_fault_text fault

-- the line of an event that was to be made
abbrev pub making_line : Making → List ℕ
making_line told = codes "made " ++ (making_text told ++ codes "\n")

-- the same, if one was to be
abbrev pub made_line : Option Making → List ℕ
made_line None = []
made_line (Some told) = making_line told

abbrev pub kept_text : KeepReport → List ℕ
kept_text kept = opened_line kept.opened ++ (counts_line kept.counts ++ (made_line kept.made ++ report_text kept.outcome))
