-- The equation of votes
use Rattle.std.proofs.Common.{◌≡◌, ℕ, Bool, false, cond, eqb, List, refl, ap₂, ◌∙◌}
use Rattle.hg_model.specs.Places.{by_place}
use Rattle.hg_model.specs.Stakes.{Stakes, total}
use Rattle.hg_model.specs.Links.{Link}
use Rattle.hg_model.specs.Seeing.{sees}
use Rattle.hg_model.specs.Votes.{weighed_vote, yes_votes, no_votes, rounds_above, vote_from, vote_of}
use Rattle.hg_model.specs.Rounds.{stake_at}
use Rattle.hg_model.proofs.PlacesLaws.{only_below, only_below-at, by_place-at, weight_below-same}

-- the vote of y, from the votes of the events before it
pub vote_of-at : (n : Stakes) (c : ℕ) (L : List Link) (coin : ℕ → Bool) (x y : ℕ) → vote_of n c L coin x y ≡ vote_from n c L coin x (vote_of n c L coin x) y
unfolding vote_of
vote_of-at n c L coin x y =
    let vote = by_place false (vote_from n c L coin x) in
    let above = rounds_above n L x y in
    let earlier = only_below false y vote in
    let yes_same : yes_votes n L earlier y ≡ yes_votes n L vote y =
    weight_below-same (stake_at n L) y _ _ (λ w h. rw (only_below-at false y vote w h) refl) in
    let no_same : no_votes n L earlier y ≡ no_votes n L vote y =
    weight_below-same (stake_at n L) y _ _ (λ w h. rw (only_below-at false y vote w h) refl) in
    by_place-at false (vote_from n c L coin x) y
    ∙ ap₂ (λ yes no. cond (eqb above 1) (sees L y x) (weighed_vote (total n) c above yes no (coin y))) yes_same no_same
