use Rattle.hg_model.specs.Links.{links}
use Rattle.hg_quorum.proofs.ReportLaws.{strongly_sees-from_report, strongly_sees-is_report}
use Rattle.hg_quorum.proofs.laws.report_is_kept.Goals as goal

pub returns-clause-implies : goal.returns-clause-implies
returns-clause-implies c = λ n G g. strongly_sees-from_report (links G) g.shaped.earlier n

pub returns-clause-same : goal.returns-clause-same
returns-clause-same c = λ n G g. strongly_sees-is_report (links G) g.shaped.earlier n
