-- The register of an order: one fold over the payloads of its events
use Rattle.std.specs.Prelude.{ℕ, ◌≡◌, ◌<◌, ◌+◌, ◌*◌, ◌==◌, if◌then◌else◌, List, [], ◌∷◌, fold, get_or, length}
use Rattle.hg_model.specs.declared.row.Row.{Row}
use Rattle.hg_model.specs.declared.row.Placed.{Placed}
use Rattle.hg_model.specs.Stakes.{total}
use Rattle.hg_model.specs.Links.{no_row}
use Rattle.hg_life.specs.History.{State, replay}
use Rattle.hg_life.specs.Kept.{kept}
use Rattle.hg_runs.specs.Honest.{dishonest, AreApart}
use Rattle.hg_world.specs.World.{WorldView, IsMemberOf, run_of}
use Rattle.register.specs.declared.replica.Register.{Register}

-- of no event
abbrev pub unwritten : Register
unwritten = record { value = 0; done = 0; skipped = 0 }

abbrev pub written : Register → ℕ → Register
written r value = record { value = value; done = r.done + 1; skipped = r.skipped }

abbrev pub unchanged : Register → Register
unchanged r = record { value = r.value; done = r.done; skipped = r.skipped + 1 }

-- a write is two bytes, the value that it replaces and the new one; it is done where that value stands
abbrev pub after_payload : Register → List ℕ → Register
after_payload r [] = r
after_payload r (old ∷ []) = unchanged r
after_payload r (old ∷ value ∷ []) = if old == r.value then written r value else unchanged r
after_payload r (old ∷ value ∷ other ∷ rest) = unchanged r

-- the row at a place is read
abbrev pub after_row : List Row → Register → ℕ → Register
after_row G r place = after_payload r (get_or G place no_row).payload

abbrev pub after_event : List Row → Register → Placed → Register
after_event G r p = after_row G r p.place

-- the register of this order of rows
abbrev pub register_in : List Row → List Placed → Register
register_in G order = fold (after_event G) unwritten order

-- what a member's node has, and the order that it keeps
abbrev pub state_at : WorldView → ℕ → State
state_at w m = replay w.members w.coin (run_of w m)

abbrev pub order_at : WorldView → ℕ → List Placed
order_at w m = kept w.members (state_at w m)

-- and its register
abbrev pub register_at : WorldView → ℕ → Register
register_at w m = register_in (state_at w m).rows (order_at w m)

-- nodes that have ordered as many events have one register, where the dishonest members have less than a third of the
-- stake and names do not collide
abbrev pub AreOneRegister : WorldView → Type 0
AreOneRegister w =
    3 * dishonest w.members w.coin (run_of w) < total w.members → AreApart w.members w.coin (run_of w) →
    (j k : ℕ) → IsMemberOf w j → IsMemberOf w k → length (order_at w j) ≡ length (order_at w k) → register_at w j ≡ register_at w k
