-- What a row that is read tells of its place
use Rattle.std.proofs.Common.{◌≡◌, ℕ, ◌<◌, List, get_or, length, ap, sym}
use Rattle.std.proofs.lemmas.Option.{slice_get-get_or}
use Rattle.hg_model.specs.declared.row.Row.{Row}
use Rattle.hg_model.specs.Graph.{name_in, name_at}
use Rattle.hg_model.specs.Order.{row_time, row_sig, time_at, sig_at, middle_bit, coin_at}

pub time_at-read : (G : List Row) (x : ℕ) (row : Row) → x < length G → (get_or G x row).time ≡ time_at G x
unfolding time_at
time_at-read G x row h = sym (ap row_time (slice_get-get_or G x row h))

pub sig_at-read : (G : List Row) (x : ℕ) (row : Row) → x < length G → (get_or G x row).sig ≡ sig_at G x
unfolding sig_at
sig_at-read G x row h = sym (ap row_sig (slice_get-get_or G x row h))

pub name_at-read : (G : List Row) (x : ℕ) (row : Row) → x < length G → (get_or G x row).name ≡ name_at G x
unfolding name_at
name_at-read G x row h = sym (ap name_in (slice_get-get_or G x row h))

pub coin_at-read : (G : List Row) (x : ℕ) (row : Row) → x < length G → middle_bit (get_or G x row).sig ≡ coin_at G x
unfolding coin_at
coin_at-read G x row h = ap middle_bit (sig_at-read G x row h)

pub ruleset row_reads = (time_at-read, sig_at-read, name_at-read, coin_at-read)
