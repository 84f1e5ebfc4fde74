-- Windows of lists, one item after the other
use Rattle.std.proofs.Common.{◌≡◌, ◌⊎◌, inl, inr, ℕ, ◌+◌, ◌-◌, ◌<◌, ◌≤◌, List, [], ◌∷◌, ◌++◌, length, map, take, drop, get_or, slice_get, Some, option_map, sym, ap, ◌∙◌, arith, length-drop}
use Rattle.std.specs.Prelude.{min}
use Rattle.std.proofs.lemmas.Bool.{cases_lt}
use Rattle.std.proofs.lemmas.List.{get_or-drop, get_or-map, drop_all, length-map, take_all, take_more}
use Rattle.std.proofs.lemmas.Option.{slice_get-get_or}
use Rattle.hg_model.specs.Links.{no_row}
use Rattle.hg_model.specs.declared.row.Row.{Row}
use Rattle.hg_life.specs.Spelling.{spelling}
use Rattle.hg_answering.specs.Telling.{window}
use Rattle.hg_answering.specs.Told.{IsWindow}

pub window_none : {A : Type 0} (start : ℕ) (xs : List A) → [] ≡ window start (start - start) xs
window_none start xs = let none : start - start ≡ 0 = omega arith in sym (ap (λ (k : ℕ). take k (drop start xs)) none)

pub window_next : {A : Type 0} (start i : ℕ) (xs : List A) (d : A) → start ≤ i → i < length xs
    → window start (i + 1 - start) xs ≡ window start (i - start) xs ++ get_or xs i d ∷ []
window_next {A} start i xs d from inside =
    let one : i + 1 - start ≡ i - start + 1 = omega (arith, from) in
    let long : i - start < length (drop start xs) = omega (arith, from, inside, length-drop start xs) in
    let there : start + (i - start) ≡ i = omega (arith, from) in
    ap (λ (k : ℕ). take k (drop start xs)) one
    ∙ (take_more (drop start xs) (i - start) d long
    ∙ ap (λ (x : A). take (i - start) (drop start xs) ++ x ∷ []) (get_or-drop start xs (i - start) d ∙ ap (λ (k : ℕ). get_or xs k d) there))

take_fewer : {A : Type 0} (limit : ℕ) (xs : List A) → take (min limit (length xs)) xs ≡ take limit xs
take_fewer limit xs = by_test (cases_lt limit (length xs))
  where
    by_test : (limit < length xs) ⊎ (length xs ≤ limit) → take (min limit (length xs)) xs ≡ take limit xs
    by_test (inl less) = (let is : min limit (length xs) ≡ limit = omega (arith, less) in ap (λ (k : ℕ). take k xs) is)
    by_test (inr more) =
        let is : min limit (length xs) ≡ length xs = omega (arith, more) in
        ap (λ (k : ℕ). take k xs) is ∙ (take_all (length xs) xs (omega arith) ∙ sym (take_all limit xs more))

drop_fewer : {A : Type 0} (from : ℕ) (xs : List A) → drop (min from (length xs)) xs ≡ drop from xs
drop_fewer from xs = by_test (cases_lt from (length xs))
  where
    by_test : (from < length xs) ⊎ (length xs ≤ from) → drop (min from (length xs)) xs ≡ drop from xs
    by_test (inl less) = (let is : min from (length xs) ≡ from = omega (arith, less) in ap (λ (k : ℕ). drop k xs) is)
    by_test (inr more) =
        let is : min from (length xs) ≡ length xs = omega (arith, more) in
        ap (λ (k : ℕ). drop k xs) is ∙ (drop_all (length xs) xs (omega arith) ∙ sym (drop_all from xs more))

pub window_is : {A : Type 0} (len from limit : ℕ) (bounds : ℕ × ℕ) (xs : List A) → length xs ≡ len → IsWindow len from limit bounds
    → window bounds.0 (bounds.1 - bounds.0) xs ≡ window from limit xs
window_is len from limit bounds xs long is =
    let rest : length (drop bounds.0 xs) ≡ len - bounds.0 = omega (arith, long, length-drop bounds.0 xs) in
    ap (λ (k : ℕ). take k (drop bounds.0 xs)) (is.size ∙ ap (min limit) (sym rest))
    ∙ (take_fewer limit (drop bounds.0 xs)
    ∙ ap (take limit) (ap (λ (k : ℕ). drop k xs) (is.start ∙ ap (min from) (sym long)) ∙ drop_fewer from xs))

pub bytes_next : (start x : ℕ) (G : List Row) (bytes : List ℕ) (old new : List (List ℕ)) → start ≤ x → x < length G → option_map spelling (slice_get G x) ≡ Some bytes
    → old ≡ window start (x - start) (map spelling G) → new ≡ old ++ bytes ∷ [] → new ≡ window start (x + 1 - start) (map spelling G)
bytes_next start x G bytes old new from inside at before is =
    let read : Some (spelling (get_or G x no_row)) ≡ Some bytes = sym (ap (option_map spelling) (slice_get-get_or G x no_row inside)) ∙ at in
    let same : bytes ≡ spelling (get_or G x no_row) = cc in
    is ∙ (ap (λ (xs : List (List ℕ)). xs ++ bytes ∷ []) before
    ∙ (ap (λ (b : List ℕ). window start (x - start) (map spelling G) ++ b ∷ []) (same ∙ sym (get_or-map spelling G x no_row [] inside))
    ∙ sym (window_next start x (map spelling G) [] from (omega (arith, inside, length-map G spelling)))))
