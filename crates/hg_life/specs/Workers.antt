-- How many workers there are
use Rattle.std.specs.Prelude.{ℕ}

-- how many a node can have, numbered from 0
abbrev pub worker_limit : ℕ
worker_limit = 16

-- how many can be beside the lines of a run
abbrev pub most_workers : ℕ
most_workers = 16
