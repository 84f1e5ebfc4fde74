use Rattle.std.proofs.Common.{◌∙◌, ap, map}
use Rattle.hg_script.proofs.NameLaws.{names_insert}
use Rattle.hg_script.proofs.above.add_label.Goals as goal

pub returns-clause-ok : goal.returns-clause-ok
returns-clause-ok c =
    ap (map (λ name. name.now)) c.in_ok-insert.ensures.keys
    ∙ names_insert (λ name. name.now) c.args.labels.now.keys c.args.label c.requires
