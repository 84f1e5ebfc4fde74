use Rattle.hg_board.specs.Turns.{last_change}
use Rattle.hg_board.proofs.turn.raise_if_changed.Given as goal

abbrev pub ghosts-raise : goal.ghosts-raise
ghosts-raise g a = record { change = last_change a.node.now.history }
