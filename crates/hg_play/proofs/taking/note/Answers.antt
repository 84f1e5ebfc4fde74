use Rattle.std.proofs.Common.{arith}
use Rattle.hg_graph.specs.RowsWithRoom.{rows_of}
use Rattle.hg_play.proofs.HeardLaws.{all_later}
use Rattle.hg_play.proofs.taking.note.Goals as goal

pub returns-then-refused-eq0 : goal.returns-then-refused-eq0
returns-then-refused-eq0 c = λ all keeps rest known.
    c.note_all.ensures.keeps all keeps
    (all_later all c.args.x c.args.y c.args.handed.len (rows_of c.args.handed.events.items) (rest (λ same. absurd (omega (arith, same, c.if-x-y.false)))) (known c.if-refused-eq0.true))
