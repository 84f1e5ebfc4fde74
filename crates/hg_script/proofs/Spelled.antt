-- A word, told by its length and each of its bytes.
use Rattle.std.proofs.Common.{◌≡◌, ℕ, ◌+◌, List, [], ◌∷◌, length, get_or, drop, ◌∙◌, arith}
use Rattle.std.proofs.lemmas.List.{drop_all, drop_more}
use Rattle.std.specs.Prelude.{⊤}

-- from the place i on the word has these bytes
abbrev pub HasBytes : List ℕ → ℕ → List ℕ → Type 0
HasBytes word i [] = ⊤
HasBytes word i (b ∷ bytes) = (get_or word i 0 ≡ b) × HasBytes word (i + 1) bytes

spelled_from : (word bytes : List ℕ) (i : ℕ) → length word ≡ i + length bytes → HasBytes word i bytes → drop i word ≡ bytes
spelled_from word [] i len has = drop_all i word (omega (arith, len))
spelled_from word (b ∷ bytes) i len has =
    let rest : drop (i + 1) word ≡ bytes = spelled_from word bytes (i + 1) (omega (arith, len)) has.1 in
    drop_more word i 0 (omega (arith, len)) ∙ rw (has.0, rest)

pub spelled : (word bytes : List ℕ) → length word ≡ length bytes → HasBytes word 0 bytes → word ≡ bytes
spelled word bytes len has = spelled_from word bytes 0 (omega (arith, len)) has
