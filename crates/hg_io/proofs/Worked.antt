-- Worked files, computed: how one reads after writes and a sync, and what a stop may leave of it and what not
use Rattle.std.proofs.Common.{◌≡◌, inl, inr, ℕ, zero, suc, ◌<◌, get_or, List, [], ◌∷◌, ◌++◌, codes, refl, arith}
use Rattle.hg_io.specs.FileView.{IsOutside, Torn, with_piece}
use Rattle.hg_io.specs.Pending.{DiskCall, IsImage, IsUnwritten, pending}
use Rattle.hg_io.specs.Pending.DiskCall.{Wrote, Synced}

over_the_end : with_piece 6 (codes "bytes") (codes "seven b") ≡ codes "seven bytes"
over_the_end = refl

in_the_middle : with_piece 2 (codes "lf-w") (codes "seven bytes") ≡ codes "self-wbytes"
in_the_middle = refl

-- a piece, a sync, and a piece over the end of the first
abbrev two_pieces : List DiskCall
two_pieces = Wrote 0 (codes "ab") ∷ Synced ∷ Wrote 1 (codes "cd") ∷ []

two_pending : pending [] two_pieces ≡ record { reads = codes "acd"; synced = codes "ab"; ranges = (1, 2) ∷ [] }
unfolding pending
two_pending = refl

-- then a stop may leave one byte of the second piece, and any other in the place of it
one_byte : IsImage (pending [] two_pieces) (codes "ax")
unfolding pending
one_byte = record { no_shorter = omega arith; no_longer = omega arith; same = same }
  where
    same : (place : ℕ) → place < 2 → IsUnwritten ((1, 2) ∷ []) place → get_or (codes "ax") place 0 ≡ get_or (codes "ab") place 0
    same zero within unwritten = refl
    same (suc zero) within (inl low, rest) = absurd (omega (arith, low))
    same (suc zero) within (inr high, rest) = absurd (omega (arith, high))
    same (suc (suc place)) within unwritten = absurd (omega (arith, within))

-- .. but not fewer bytes than were synced, not more than were written, and no other byte before the second piece
too_short : IsImage (pending [] two_pieces) (codes "a") → ⊥
unfolding pending
too_short image = absurd (omega (arith, image.no_shorter))

too_long : IsImage (pending [] two_pieces) (codes "acdx") → ⊥
unfolding pending
too_long image = absurd (omega (arith, image.no_longer))

other_front : IsImage (pending [] two_pieces) (codes "xcd") → ⊥
unfolding pending
other_front image = absurd (let same : 120 ≡ 97 = image.same 0 (omega arith) (inl (omega arith), tt) in omega (arith, same))

-- after another sync it may leave what was written alone
synced_again : IsImage (pending [] (two_pieces ++ Synced ∷ [])) (codes "ax") → ⊥
unfolding pending
synced_again image = absurd (omega (arith, image.no_shorter))

-- a write of two bytes that a stop cut short, and one that changed another byte
torn : Torn 1 2 (codes "ab") (codes "ac")
torn = record { no_shorter = omega arith; no_longer = omega arith; same = same }
  where
    same : (place : ℕ) → place < 2 → IsOutside 1 2 place → get_or (codes "ac") place 0 ≡ get_or (codes "ab") place 0
    same zero within outside = refl
    same (suc zero) within (inl low) = absurd (omega (arith, low))
    same (suc zero) within (inr high) = absurd (omega (arith, high))
    same (suc (suc place)) within outside = absurd (omega (arith, within))

not_torn : Torn 1 2 (codes "ab") (codes "xb") → ⊥
not_torn torn = absurd (let same : 120 ≡ 97 = torn.same 0 (omega arith) (inl (omega arith)) in omega (arith, same))
