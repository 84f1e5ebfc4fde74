use Rattle.std.proofs.Common.{arith, codes, rules, tests}
use Rattle.hg_script.proofs.Spelled.{spelled}
use Rattle.hg_script.proofs.verb.Verb.of.Goals as goal

pub returns-in-create : goal.returns-in-create
returns-in-create c =
    rw (spelled c.args.word.now (codes "create") (omega (arith, c.in-create)) (search (rules, tests)))

pub returns-in-names : goal.returns-in-names
returns-in-names c =
    rw (spelled c.args.word.now (codes "names") (omega (arith, c.in-names)) (search (rules, tests)))

pub returns-in-freeze : goal.returns-in-freeze
returns-in-freeze c =
    rw (spelled c.args.word.now (codes "freeze") (omega (arith, c.in-freeze)) (search (rules, tests)))

pub returns-in-publish : goal.returns-in-publish
returns-in-publish c =
    rw (spelled c.args.word.now (codes "publish") (omega (arith, c.in-publish)) (search (rules, tests)))
