use Rattle.std.proofs.Common.{◌≡◌, ◌∙◌, ap, suc, length, arith}
use Rattle.hg_model.specs.Prefix.{links_of}
use Rattle.hg_plain.specs.Rounds.{ordered_before}
use Rattle.hg_plain.proofs.OrderLaws.{before_all}
use Rattle.hg_plain.proofs.order.ordered_rows.Goals as goal

pub returns : goal.returns
returns c =
    let p = c.args.p.now in
    let all = c.requires.closed.len in
    let most = c.loop-r.auto.r-end in
    let least = c.loop-r-test.false in
    let last : c.loop-r.r ≡ suc (length (links_of p)) = omega arith in
    c.loop-r.invariant ∙ (ap (ordered_before p.members p.rows (links_of p) c.args.marks.now) last ∙ before_all p.members p.rows (links_of p) c.args.marks.now)
