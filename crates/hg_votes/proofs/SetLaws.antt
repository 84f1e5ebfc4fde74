-- Sets of slots in one stretch of words: the sets that are there, and one more after them
use Rattle.std.proofs.Common.{◌≡◌, ℕ, suc, ◌+◌, ◌-◌, ◌≤◌, List, [], ◌∷◌, ◌++◌, length, map, take, drop, replicate, refl, ap, ap₂, ◌∙◌, arith, length-append}
use Rattle.std.proofs.lemmas.List.{append-nil, map-append, drop-append-le, take-append-le, length-drop, take_all}
use Rattle.std.proofs.Math.Seq.{take-append_seam, drop-append_seam, take-length}
use Rattle.std.proofs.Math.ListN.{drop_of_length-le}
use Rattle.hg_votes.specs.declared.sets.Span.{Span}
use Rattle.hg_votes.specs.Slots.{AreWithin, words_in}

-- words that come later leave the sets
within_later : (old more : List ℕ) (span : Span) → span.start ≤ span.end → span.end ≤ length old → words_in (old ++ more) span ≡ words_in old span
within_later old more span ordered inside =
    ap (take (span.end - span.start)) (drop-append-le span.start old more (omega arith))
    ∙ take-append-le (span.end - span.start) (drop span.start old) more (omega (arith, length-drop span.start old))

sets_later : (old more : List ℕ) (spans : List Span) → AreWithin (length old) spans → map (words_in (old ++ more)) spans ≡ map (words_in old) spans
sets_later old more [] within = refl
sets_later old more (span ∷ spans) within =
    ap₂ (λ (s : List ℕ) (rest : List (List ℕ)). s ∷ rest) (within_later old more span (within.ordered 0 (omega arith)) (within.inside 0 (omega arith)))
    (sets_later old more spans (record { ordered = λ k h. within.ordered (suc k) (omega arith); inside = λ k h. within.inside (suc k) (omega arith) }))

pub set_pushed : (old marked words : List ℕ) (spans : List Span) (start end : ℕ) → AreWithin (length old) spans → start ≡ length old → words ≡ old ++ marked → end ≡ length words →
    map (words_in words) (spans ++ (record { start = start; end = end }) ∷ []) ≡ map (words_in old) spans ++ marked ∷ []
set_pushed old marked words spans start end within from is to =
    ap₂ (λ (ws : List ℕ) (s : Span). map (words_in ws) (spans ++ s ∷ [])) is (ap₂ (λ (a b : ℕ). record { start = a; end = b }) from (to ∙ ap (λ (ws : List ℕ). length ws) is))
    ∙ (map-append (words_in (old ++ marked)) spans ((record { start = length old; end = length (old ++ marked) }) ∷ [])
    ∙ ap₂ (λ (sets : List (List ℕ)) (s : List ℕ). sets ++ s ∷ []) (sets_later old marked spans within)
    (ap (take (length (old ++ marked) - length old)) (drop-append_seam old marked) ∙ (ap (λ n. take n marked) (omega (arith, length-append old marked)) ∙ take-length marked)))

-- the words once the zeros after the old ones are marked
pub words_marked : (old marked words : List ℕ) (start n : ℕ) → start ≡ length old → words ≡ take (start + n) old ++ replicate (start + n - length old) 0 →
    take start words ++ (marked ++ drop (length words - start) (drop start words)) ≡ old ++ marked
words_marked old marked words start n from is =
    let zeros : List ℕ = replicate (start + n - length old) 0 in
    let before : words ≡ old ++ zeros = is ∙ ap (λ (xs : List ℕ). xs ++ zeros) (take_all (start + n) old (omega arith)) in
    let front : take start words ≡ old = ap₂ (λ (k : ℕ) (ws : List ℕ). take k ws) from before ∙ take-append_seam old zeros in
    let rest : drop (length words - start) (drop start words) ≡ [] = drop_of_length-le (drop start words) (omega (arith, length-drop start words)) in
    ap₂ (λ (xs ys : List ℕ). xs ++ (marked ++ ys)) front rest ∙ ap (λ (xs : List ℕ). old ++ xs) (append-nil marked)
