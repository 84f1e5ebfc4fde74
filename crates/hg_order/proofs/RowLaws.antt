-- What a row that is read tells of its place, and what stands for a row that is not there
use Rattle.std.proofs.Common.{◌≡◌, ℕ, ◌≤◌, List, length, replicate, Some, slice_get, refl, sym, ap}
use Rattle.std.proofs.lemmas.Option.{slice_get_past}
use Rattle.hg_model.specs.declared.row.Row.{Row}
use Rattle.hg_model.specs.Order.{row_sig, row_time, sig_at, time_at}
use Rattle.hg_order.specs.Round.{sig_or_zeros, name_or_zeros}

pub time_known : (G : List Row) (x : ℕ) (row : Row) → slice_get G x ≡ Some row → row.time ≡ time_at G x
unfolding time_at
time_known G x row is = sym (ap row_time is)

pub sig_known : (G : List Row) (x : ℕ) (row : Row) → slice_get G x ≡ Some row → row.sig ≡ sig_at G x
unfolding sig_at
sig_known G x row is = sym (ap row_sig is)

pub ruleset row_known = (time_known, sig_known)

-- zeros stand for what is not there

pub sig_past : (G : List Row) (x : ℕ) → length G ≤ x → sig_or_zeros (slice_get G x) ≡ replicate 64 0
sig_past G x h = rw (slice_get_past G x h) refl

pub name_past : (G : List Row) (x : ℕ) → length G ≤ x → name_or_zeros (slice_get G x) ≡ replicate 48 0
name_past G x h = rw (slice_get_past G x h) refl

pub ruleset zeros_past = (sig_past, name_past)
