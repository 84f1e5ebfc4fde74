use Rattle.std.proofs.Common.{◌≡◌, ◌∙◌, refl, arith}
use Rattle.std.proofs.lemmas.List.{get_or_read_under}
use Rattle.hg_rounds.proofs.CutLaws.{top_none, top_first}
use Rattle.hg_rounds.proofs.table.greatest_first.Goals as goal

pub returns-then-len-eq0 : goal.returns-then-len-eq0
returns-then-len-eq0 c = λ S has. (let none : c.args.len ≡ 0 = omega arith in rw none (top_none S))

pub returns-else-len-eq0 : goal.returns-else-len-eq0
returns-else-len-eq0 c = λ S has.
    get_or_read_under c.args.tops.now.items _ _ c.index.result.now 0 c.index.ensures (omega arith) refl
    ∙ top_first S c.args.tops.now.items c.args.len has (omega arith) (omega (arith, has.long))
