use Rattle.std.proofs.Common.{rules}
use Rattle.std.proofs.lemmas.Fn.{always_returns_same}
use Rattle.hg_order.specs.Timers.{is_earlier}
use Rattle.hg_order.proofs.MedianLaws.{sorted_line_rows, line_rows_rank}
use Rattle.hg_order.proofs.line_rows.sort_slice.Goals as goal

pub returns : goal.returns
returns c = sorted_line_rows c.args.line_rows.now c.sort_unstable_by.new.self c.sort_unstable_by.ensures.permutation
    (c.sort_unstable_by.ensures.sorted is_earlier line_rows_rank (always_returns_same _ _ _ (λ a r f called. search rules)))
