-- The standings found row by row
use Rattle.std.proofs.Common.{◌≡◌, ℕ, zero, suc, ◌+◌, ◌<◌, ◌≤◌, List, [], ◌∷◌, ◌++◌, length, take, get_or, true, inl, inr, refl, sym, ap, ap₂, ◌∙◌, subst, arith, add-one}
use Rattle.std.proofs.Math.Seq.{take-suc, take-length, take-append_seam}
use Rattle.std.proofs.lemmas.Bool.{cases_lt, true≢false}
use Rattle.std.proofs.lemmas.List.{length-take-le}
use Rattle.hg_model.specs.Places.{has_place, IsEarlier}
use Rattle.hg_model.specs.Stakes.{Stakes}
use Rattle.hg_model.specs.Links.{Link, parents}
use Rattle.hg_model.specs.Standings.{standing_of, standings_of}
use Rattle.hg_model.proofs.LinkLaws.{parents_past}
use Rattle.hg_model.specs.Graph.{IsShaped}
use Rattle.hg_model.proofs.ShapeLaws.{shaped-take}
use Rattle.hg_model.proofs.LongerLaws.{longer-take, parents-longer}
use Rattle.hg_model.proofs.StandingLaws.{standings-push}
use Rattle.hg_rounds.specs.ByRow.{standings_by_row, StandingsByRow}

-- a graph is its rows before the last, and the last
split_last : (L : List Link) (last : ℕ) → length L ≡ last + 1 → (link : Link) × (L ≡ take last L ++ link ∷ [])
split_last L last long =
    let nowhere : Link = record { creator = 0; parents = [] } in
    let inside : last < length L = omega arith in
    (get_or L last nowhere, sym (sym (take-suc L last nowhere inside) ∙ (ap (λ k. take k L) (sym (long ∙ add-one last)) ∙ take-length L)))

pub standings_last_by : (n : Stakes) (L : List Link) (last : ℕ) → IsEarlier (parents (take last L)) → length L ≡ last + 1 →
    standings_of n L ≡ standings_of n (take last L) ++ standing_of n L last ∷ []
standings_last_by n L last e long =
    let split = split_last L last long in
    let first_long : length (take last L) ≡ last = length-take-le last L (omega arith) in
    ap (standings_of n) split.1
    ∙ (standings-push n (take last L) split.0 e
    ∙ ap₂ (λ (M : List Link) (k : ℕ). standings_of n (take last L) ++ standing_of n M k ∷ []) (sym split.1) first_long)

-- the standings of all rows are those of the rows before the last, and the last row's
pub standings_last : (n : Stakes) (L : List Link) → IsShaped n L → (last : ℕ) → length L ≡ last + 1 →
    standings_of n L ≡ standings_of n (take last L) ++ standing_of n L last ∷ []
standings_last n L shaped last long = standings_last_by n L last (shaped-take n L last (omega arith) shaped).earlier long

earlier_first : (L : List Link) (k : ℕ) → k ≤ length L → IsEarlier (parents L) → IsEarlier (parents (take k L))
earlier_first L k le e = record {
  earlier = λ x p h. elim (cases_lt x k) [
    | inl before ↦ e.earlier x p (subst (λ ps. has_place ps p ≡ true) (sym (parents-longer (take k L) L (longer-take L k le) x (omega (arith, length-take-le k L le)))) h)
    | inr past ↦ absurd (true≢false (sym (subst (λ ps. has_place ps p ≡ true) (parents_past (take k L) x (omega (arith, length-take-le k L le))) h)))
  ];
}

take_one_less : (L : List Link) (k : ℕ) → suc k ≤ length L → take k (take (suc k) L) ≡ take k L
take_one_less L k le =
    let nowhere : Link = record { creator = 0; parents = [] } in
    let rows = take k L in
    let one : List Link = get_or L k nowhere ∷ [] in
    ap (take k) (take-suc L k nowhere le)
    ∙ (ap (λ j. take j (rows ++ one)) (sym (length-take-le k L (omega arith))) ∙ take-append_seam rows one)

-- the first k rows
by_row_to : (n : Stakes) (L : List Link) → IsEarlier (parents L) → (k : ℕ) → k ≤ length L → standings_by_row n L k ≡ standings_of n (take k L)
unfolding standings_of
by_row_to n L e zero le = refl
by_row_to n L e (suc k) le =
    let long : length (take (suc k) L) ≡ k + 1 = length-take-le (suc k) L le ∙ sym (add-one k) in
    let shorter = take_one_less L k le in
    ap (λ s. s ++ standing_of n (take (suc k) L) k ∷ []) (by_row_to n L e k (omega arith) ∙ ap (standings_of n) (sym shorter))
    ∙ sym (standings_last_by n (take (suc k) L) k (subst (λ M. IsEarlier (parents M)) (sym shorter) (earlier_first L k (omega arith) e)) long)

pub by_row : StandingsByRow
by_row n L e = by_row_to n L e (length L) (omega arith) ∙ ap (standings_of n) (take-length L)
