use Rattle.std.proofs.Common.{◌∙◌, ap, sym}
use Rattle.hg_forks.specs.SelfLinks.{self_shape}
use Rattle.check_sights.proofs.WatchLaws.{none_watched}
use Rattle.check_sights.proofs.forks.tells_a_fork_when_its_second_row_comes.Goals as goal

pub tells_all-requires : goal.tells_all-requires
tells_all-requires g c = c.in_ok-watch.ensures ∙ (none_watched _ ∙ ap self_shape (sym c.in_ok-sight.ensures))
