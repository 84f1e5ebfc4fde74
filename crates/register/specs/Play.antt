-- What the members do: each makes its first event, and then they sync by turns
use Rattle.std.specs.Prelude.{ℕ, zero, suc, ◌+◌, ◌/◌, ◌%◌, List, [], ◌∷◌, ◌++◌, get_or, length}
use Rattle.hg_world.specs.declared.step.Step.TheVariants.{Make}
use Rattle.hg_world.specs.World.{WorldView}
use Rattle.hg_world.specs.Steps.{after_step, after_steps, settle_steps}
use Rattle.hg_world.specs.Syncs.{sync_steps}

-- the first of the members have made their first events, so many of them
abbrev pub opened : WorldView → ℕ → WorldView
opened w zero = w
opened w (suc m) = let before = opened w m in after_step before (Make (m % length before.sites) [] m [])

-- the writes of the first syncs: the value that each replaces, and the new one
abbrev pub writes : List (List ℕ)
writes =
    (0 ∷ 1 ∷ []) ∷ (1 ∷ 2 ∷ []) ∷ (1 ∷ 3 ∷ []) ∷ (1 ∷ 4 ∷ [])
    ∷ (4 ∷ 5 ∷ []) ∷ (4 ∷ 6 ∷ []) ∷ (6 ∷ 7 ∷ []) ∷ (6 ∷ 8 ∷ []) ∷ []

-- the later ones write nothing
abbrev pub payload_at : ℕ → List ℕ
payload_at step = get_or writes step []

-- the member of this number, where one counts round and round
abbrev pub member_at : WorldView → ℕ → ℕ
member_at w number = number % length w.sites

-- whose turn it is at a step, and with whom it syncs then: with each of the others in turn
abbrev pub taker_at : WorldView → ℕ → ℕ
taker_at w step = member_at w step

abbrev pub peer_at : WorldView → ℕ → ℕ
peer_at w step = member_at w (step + step / 4 % 3 + 1)

-- it syncs, and publishes what it knows then
abbrev pub after_turn : WorldView → ℕ → WorldView
after_turn w step =
    let synced = after_steps w (sync_steps w (taker_at w step) (peer_at w step) (step + 4) (payload_at step)) in
    after_steps synced (settle_steps (taker_at w step))

-- after the first of these steps, and how many there are
unfoldable pub turned : WorldView → ℕ → WorldView
turned w zero = w
turned w (suc step) = after_turn (turned w step) step

abbrev pub turn_count : ℕ
turn_count = 32

-- each member has made its first event, and all of these steps are done
abbrev pub played : WorldView → WorldView
played w = turned (opened w (length w.sites)) turn_count
