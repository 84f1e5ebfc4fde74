use Rattle.std.proofs.Common.{arith, ◌-◌}
use Rattle.hg_model.specs.Shares.{whole}
use Rattle.hg_crowd.specs.Workers.{AllMark, AllMarkUpTo}
use Rattle.hg_crowd.proofs.CrowdLaws.{all_whole_marked, has_fewer, ok_map}
use Rattle.hg_crowd.proofs.party.Party.work_beside.Goals as goal

pub work_up_to-requires-clause-parts : goal.work_up_to-requires-clause-parts
work_up_to-requires-clause-parts g c κs within = has_fewer c.args.self.seats c.args.workers (c.args.workers - 1) (omega arith) c.requires.parts

pub returns-clause-marked : goal.returns-clause-marked
returns-clause-marked g c =
    let ps = c.args.self.places in
    let olds = c.args.self.seats in
    let news = c.work_up_to.result.0.seats in
    let some = c.requires.workers in
    ok_map c.work_up_to.result.1 (AllMarkUpTo ps (c.args.workers - 1) c.args.workers olds news) (AllMark ps whole olds news)
    (all_whole_marked ps olds news (c.args.workers - 1) c.args.workers (omega (arith, some))) c.work_up_to.ensures.marked
