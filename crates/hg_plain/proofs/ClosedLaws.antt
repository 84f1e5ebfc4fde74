-- What the table of closed rounds tells
use Rattle.std.proofs.Common.{◌≡◌, suc, false, Bool, List, length, get_or}
use Rattle.hg_model.specs.Places.{greatest_below}
use Rattle.hg_model.specs.Stakes.{Stakes}
use Rattle.hg_model.specs.Links.{Link}
use Rattle.hg_model.specs.Fame.{Marks, is_closed}
use Rattle.hg_model.specs.Order.{last_closed}
use Rattle.hg_model.proofs.SearchLaws.{greatest_below-same}
use Rattle.hg_plain_graph.specs.Tables.{IsTableOf}

-- the last of them
pub last_closed_is : (n : Stakes) (L : List Link) (marks : Marks) (closed : List Bool) → IsTableOf false (is_closed n L marks) (suc (length L)) closed →
    greatest_below (length closed) (λ r. get_or closed r false) ≡ last_closed n L marks
unfolding last_closed
last_closed_is n L marks closed matches = rw matches.len (greatest_below-same (suc (length L)) _ (is_closed n L marks) matches.at)
