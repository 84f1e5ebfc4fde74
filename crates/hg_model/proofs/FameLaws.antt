-- The laws of fame
use Rattle.std.proofs.Common.{◌≡◌, ℕ, ◌<◌, Bool, true, false, ◌&&◌, List, length, None, option_map, ltb, refl, ap, lt-ltb}
use Rattle.std.proofs.lemmas.Bool.{and_left, and_right}
use Rattle.hg_model.specs.Places.{least_below}
use Rattle.hg_model.specs.Stakes.{Stakes}
use Rattle.hg_model.specs.Links.{Link}
use Rattle.hg_model.specs.Rounds.{round_of, is_witness}
use Rattle.hg_model.specs.Votes.{vote_of, decides}
use Rattle.hg_model.specs.Fame.{is_decider, fame_of}
use Rattle.hg_model.proofs.SearchLaws.{least_below_none, least_below-same}

-- a row that is no witness has no fame
pub fame_of_other : (n : Stakes) (c : ℕ) (L : List Link) (coin : ℕ → Bool) (x : ℕ) → is_witness n L x ≡ false → fame_of n c L coin x ≡ None
unfolding fame_of
fame_of_other n c L coin x other =
    ap (option_map (vote_of n c L coin x)) (least_below_none (round_of n L) (length L) (is_decider n c L coin x)
    (λ y h. and_left (ltb x (length L) && is_witness n L x) (decides n c L coin x y) (and_right (ltb x (length L)) (is_witness n L x) other)))

-- the fame of a witness
pub fame_of_witness : (n : Stakes) (c : ℕ) (L : List Link) (coin : ℕ → Bool) (x : ℕ) → x < length L → is_witness n L x ≡ true →
    fame_of n c L coin x ≡ option_map (vote_of n c L coin x) (least_below (round_of n L) (length L) (decides n c L coin x))
unfolding fame_of
fame_of_witness n c L coin x h witness =
    ap (option_map (vote_of n c L coin x)) (least_below-same (round_of n L) (length L) (is_decider n c L coin x) (decides n c L coin x)
    (λ y k. rw (lt-ltb x (length L) h, witness) refl))
