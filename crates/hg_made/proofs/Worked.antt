-- Draws, computed
use Rattle.std.proofs.Common.{◌≡◌, ◌%◌, codes, refl}
use Rattle.std.specs.Fmt.{digits}
use Rattle.hg_made.specs.Draws.{drawn}
use Rattle.hg_made.specs.Made.{member_name, peer_of}

first_of_zero : drawn 0 1 ≡ 335903614
first_of_zero = refl

first_of_seven : drawn 7 1 ≡ 2118330556
first_of_seven = refl

-- of two members the first takes from the second, since the draw is even
taker_of_seven : drawn 7 1 % 2 ≡ 0
taker_of_seven = refl

peer_of_seven : peer_of 0 (drawn 7 2 % 1) ≡ 1
peer_of_seven = refl

first_name : member_name 0 ≡ codes "m0"
unfolding digits
first_name = refl

last_name : member_name 127 ≡ codes "m127"
unfolding digits
last_name = refl
