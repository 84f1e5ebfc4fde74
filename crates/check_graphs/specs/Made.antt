-- The members of a made graph
use Rattle.std.specs.Prelude.{ℕ, ◌+◌, ◌%◌, Bool, true, cond, List, [], ◌∷◌}
use Rattle.hg_life.specs.declared.members.MemberEntry.{MemberEntry}
use Rattle.hg_model.specs.Places.{table}

-- what members weigh: 4, 1, 2, 3, 4 and so on, or 1 each
abbrev pub made_stake : Bool → ℕ → ℕ
made_stake weighed k = cond weighed (1 + (k + 3) % 4) 1

-- a member with a letter as its name, A, B, C and so on, and a secret of one byte
abbrev pub made_entry : Bool → ℕ → MemberEntry
made_entry weighed k = record { name = (65 + k) ∷ []; secret = k ∷ []; balance = 0; stake = made_stake weighed k; has_node = true }

-- so many members
abbrev pub made_entries : Bool → ℕ → List MemberEntry
made_entries weighed n = table (made_entry weighed) n
