use Rattle.std.proofs.Common.{◌∙◌, ℕ, List, ap}
use Rattle.std.specs.List.{list_any}
use Rattle.std.specs.Str.{bytes_eq}
use Rattle.hg_gossip.proofs.RowLaws.{entered}
use Rattle.hg_gossip.proofs.node.enter.Goals as goal

pub returns : goal.returns
returns c k = ap (λ (keys : List (List ℕ)). list_any (bytes_eq k) keys) c.in_ok-insert.ensures.keys ∙ entered c.args.set.now.keys c.args.name k
