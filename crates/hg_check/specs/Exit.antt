-- With what number a program of tests ends
use Rattle.std.specs.Prelude.{ℕ, if◌then◌else◌, ◌==◌, Result, Ok, Err}
use Rattle.hg_check.specs.declared.score.Score.{Score}

-- 0 where nothing differs
abbrev pub exit_number : {E : Type 0} → Result Score E → ℕ
exit_number (Ok score) = if score.differ == 0 then 0 else 1
exit_number (Err e) = 2
