-- What two runs of the program are compared by
use Rattle.std.specs.Prelude.{◌≡◌}
use Rattle.hg_check.specs.declared.outcome.Outcome.{Outcome}

-- both ended with the same status and wrote the same
abbrev pub AreSame : Outcome → Outcome → Type 0
AreSame a b = (a.status ≡ b.status) × (a.stdout.now ≡ b.stdout.now) × (a.stderr.now ≡ b.stderr.now)
