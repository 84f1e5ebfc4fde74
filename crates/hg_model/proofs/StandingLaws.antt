-- What the list of standings tells, and how it grows with the graph
use Rattle.std.proofs.Common.{◌≡◌, ℕ, ◌+◌, ◌<◌, ◌≤◌, Bool, ◌&&◌, eqb, List, [], ◌∷◌, ◌++◌, length, get_or, Some, slice_get, sym, refl, ap, ap₂, ◌∙◌, inl, inr, arith, zero-add}
use Rattle.std.proofs.lemmas.Bool.{cases_lt}
use Rattle.std.proofs.lemmas.List.{length_push, get_or_append_left, get_or_push, ext_get_or}
use Rattle.std.proofs.lemmas.List.FromFn.{get_or-map-range_with_len, length-map-range_with_len}
use Rattle.std.proofs.lemmas.Option.{slice_get-get_or}
use Rattle.hg_model.specs.Places.{list_below, maximum_below, IsEarlier}
use Rattle.hg_model.specs.Stakes.{Stakes}
use Rattle.hg_model.specs.Links.{Link, parents}
use Rattle.hg_model.specs.Rounds.{round_of, is_witness, last_round}
use Rattle.hg_model.specs.Standings.{Standing, standing_of, standings_of, standing_round, standing_witness, round_at, witness_at, witnesses_in, greatest_in}
use Rattle.hg_model.proofs.PlacesLaws.{list_below-same, maximum_below-same}
use Rattle.hg_model.proofs.LongerLaws.{IsLonger, longer-append, round_of-longer, is_witness-longer}

nothing : Standing
nothing = record { round = 0; witness = Rattle.std.proofs.Common.false }

-- as long as the list of links
pub length-standings : (n : Stakes) (L : List Link) → length (standings_of n L) ≡ length L
unfolding standings_of
length-standings n L = length-map-range_with_len (standing_of n L) 0 (length L)

-- what stands at x

standing_at : (n : Stakes) (L : List Link) (x : ℕ) → x < length L → slice_get (standings_of n L) x ≡ Some (standing_of n L x)
unfolding standings_of
standing_at n L x h =
    slice_get-get_or (standings_of n L) x nothing (omega (arith, length-standings n L))
    ∙ ap (λ (s : Standing). Some s) (get_or-map-range_with_len (standing_of n L) 0 (length L) x x nothing h (zero-add x))

pub round_at-standings : (n : Stakes) (L : List Link) (x : ℕ) → x < length L → round_at (standings_of n L) x ≡ round_of n L x
unfolding round_at
round_at-standings n L x h = ap standing_round (standing_at n L x h)

pub witness_at-standings : (n : Stakes) (L : List Link) (x : ℕ) → x < length L → witness_at (standings_of n L) x ≡ is_witness n L x
unfolding witness_at
witness_at-standings n L x h = ap standing_witness (standing_at n L x h)

pub witnesses_in-standings : (n : Stakes) (L : List Link) (r : ℕ) → witnesses_in (standings_of n L) r ≡ list_below (λ x. x) (length L) (λ x. is_witness n L x && eqb (round_of n L x) r)
unfolding witnesses_in
witnesses_in-standings n L r =
    ap (λ len. list_below (λ x. x) len (λ x. witness_at (standings_of n L) x && eqb (round_at (standings_of n L) x) r)) (length-standings n L)
    ∙ list_below-same (λ x. x) (λ x. x) (length L) (λ x. witness_at (standings_of n L) x && eqb (round_at (standings_of n L) x) r) (λ x. is_witness n L x && eqb (round_of n L x) r)
    (λ x h. rw (witness_at-standings n L x h, round_at-standings n L x h) refl) (λ x h passes. refl)

pub greatest_in-standings : (n : Stakes) (L : List Link) → greatest_in (standings_of n L) ≡ last_round n L
unfolding greatest_in last_round
greatest_in-standings n L =
    ap (λ len. maximum_below (round_at (standings_of n L)) len) (length-standings n L)
    ∙ maximum_below-same (round_at (standings_of n L)) (round_of n L) (length L) (round_at-standings n L)

pub ruleset standings_known = (length-standings, round_at-standings, witness_at-standings, witnesses_in-standings, greatest_in-standings)

-- the rows of a longer graph keep their standings

standing-longer : (n : Stakes) (L M : List Link) → IsLonger L M → IsEarlier (parents L) → (x : ℕ) → x < length L → standing_of n M x ≡ standing_of n L x
standing-longer n L M longer e x h =
    ap₂ (λ (r : ℕ) (w : Bool). record { round = r; witness = w }) (round_of-longer L M longer n x h) (is_witness-longer L M longer n e x h)

standing_read : (n : Stakes) (L : List Link) (x : ℕ) → x < length L → get_or (standings_of n L) x nothing ≡ standing_of n L x
unfolding standings_of
standing_read n L x h = get_or-map-range_with_len (standing_of n L) 0 (length L) x x nothing h (zero-add x)

-- one row more
pub standings-push : (n : Stakes) (L : List Link) (link : Link) → IsEarlier (parents L) →
    standings_of n (L ++ link ∷ []) ≡ standings_of n L ++ standing_of n (L ++ link ∷ []) (length L) ∷ []
standings-push n L link e =
    let M = L ++ link ∷ [] in
    let len : length M ≡ length L + 1 = length_push L link in
    let known = standings_of n L in
    let last = standing_of n M (length L) in
    ext_get_or nothing (standings_of n M) (known ++ last ∷ [])
    (length-standings n M ∙ (len ∙ sym (length_push known last ∙ ap (λ (k : ℕ). k + 1) (length-standings n L))))
    (λ k h. let inside : k < length M = omega (arith, length-standings n M) in
    elim (cases_lt k (length L)) [
      | inl before ↦ standing_read n M k inside
          ∙ (standing-longer n L M (longer-append L (link ∷ [])) e k before
          ∙ (sym (standing_read n L k before) ∙ sym (get_or_append_left known (last ∷ []) nothing k (omega (arith, length-standings n L)))))
      | inr past ↦ (let same : k ≡ length L = omega arith in
          standing_read n M k inside
          ∙ (ap (standing_of n M) same
          ∙ (sym (get_or_push known last nothing (length L) (length-standings n L)) ∙ ap (λ (j : ℕ). get_or (known ++ last ∷ []) j nothing) (sym same))))
    ])
