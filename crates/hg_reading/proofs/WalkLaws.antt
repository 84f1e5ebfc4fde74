-- What a walk over words reads, one after the other
use Rattle.std.proofs.Common.{◌≡◌, ℕ, ◌+◌, ◌<◌, ◌≤◌, List, [], ◌∷◌, ◌++◌, length, get_or, drop, map, Result, Ok, Err, refl, subst, sym, ap, ◌∙◌, append_assoc, add-one}
use Rattle.std.proofs.Math.Seq.{drop-cons}
use Rattle.std.proofs.lemmas.List.{append-nil, drop_all}
use Rattle.std.specs.Result.{IsErrAnd}
use Rattle.hg_model.specs.declared.stop.Stop.{Stop}
use Rattle.hg_model.specs.declared.stop.Stop.TheVariants.{Fault}
use Rattle.hg_life.specs.Results.{Gives, ◌>>=◌}
use Rattle.hg_script.specs.Words.{read_each}

-- a fault that is handed on
pub gives_refused : {X Y E : Type 0} (view : X → Y) (why : E) (result : Result X (Stop E)) (read : Result Y E) → IsErrAnd result (λ e. e ≡ Fault why) → read ≡ Err why → Gives view result read
gives_refused view why (Ok x) read is refused = absurd is
gives_refused view why (Err e) read is refused = subst (λ e. Gives view (Err e) read) (sym is) refused

-- what was read, and what is read behind it
abbrev pub and_then : {X E : Type 0} → List X → Result (List X) E → Result (List X) E
and_then done left = left >>= (λ xs. Ok (done ++ xs))

module _ {N X E : Type 0} (bytes : N → List ℕ) (read : List ℕ → Result X E) where
  abbrev pub left_of : List N → ℕ → Result (List X) E
  left_of words i = read_each read (map bytes (drop i words))

  first_left : (words : List N) (i : ℕ) (d : N) → i < length words → left_of words i ≡ (read (bytes (get_or words i d)) >>= (λ x. and_then (x ∷ []) (left_of words (i + 1))))
  first_left words i d there = ap (λ ws. read_each read (map bytes ws)) (drop-cons words i d there ∙ ap (λ k. get_or words i d ∷ drop k words) (sym (add-one i)))

  joined : (done : List X) (x : X) (left : Result (List X) E) → and_then done (and_then (x ∷ []) left) ≡ and_then (done ++ x ∷ []) left
  joined done x (Ok xs) = ap Ok (sym (append_assoc done (x ∷ []) xs))
  joined done x (Err why) = refl

  -- one more is read
  pub one_read : (words : List N) (i : ℕ) (d : N) (done : List X) (x : X) → i < length words → read_each read (map bytes words) ≡ and_then done (left_of words i)
      → Ok x ≡ read (bytes (get_or words i d)) → read_each read (map bytes words) ≡ and_then (done ++ x ∷ []) (left_of words (i + 1))
  one_read words i d done x there whole is =
      whole ∙ ap (and_then done) (first_left words i d there ∙ ap (λ r. r >>= (λ x. and_then (x ∷ []) (left_of words (i + 1)))) (sym is)) ∙ joined done x (left_of words (i + 1))

  -- one is refused
  pub one_refused : (words : List N) (i : ℕ) (d : N) (done : List X) (why : E) → i < length words → read_each read (map bytes words) ≡ and_then done (left_of words i)
      → Err why ≡ read (bytes (get_or words i d)) → read_each read (map bytes words) ≡ Err why
  one_refused words i d done why there whole is =
      whole ∙ ap (and_then done) (first_left words i d there ∙ ap (λ r. r >>= (λ x. and_then (x ∷ []) (left_of words (i + 1)))) (sym is))

  -- none is left
  pub all_read : (words : List N) (i : ℕ) (done : List X) → length words ≤ i → read_each read (map bytes words) ≡ and_then done (left_of words i) → read_each read (map bytes words) ≡ Ok done
  all_read words i done past whole =
      whole ∙ ap (λ ws. and_then done (read_each read (map bytes ws))) (drop_all i words past) ∙ ap Ok (append-nil done)
