-- The bytes that a torn write left alone.
use Rattle.std.proofs.Common.{◌≡◌, ℕ, ◌+◌, ◌<◌, ◌≤◌, List, [], ◌∷◌, ◌++◌, length, take, drop, get_or, arith, inl, inr, sym, ◌∙◌, ap, append_assoc, length-take, length-drop, length-append}
use Rattle.std.proofs.lemmas.List.{ext_get_or, get_or-take, get_or-drop, take-append-drop, take_at, drop_at, drop_more}
use Rattle.hg_io.specs.FileView.{Torn}

pub torn_front : (at n : ℕ) (f c : List ℕ) → at ≤ length f → Torn at n f c → take at c ≡ take at f
torn_front at n f c within torn =
    ext_get_or 0 (take at c) (take at f) (omega (arith, length-take at c, length-take at f, torn.no_shorter))
    (λ i l.
    let before : i < at = omega (arith, length-take at c) in
    get_or-take at c i 0 before ∙ torn.same i (omega arith) (inl before) ∙ sym (get_or-take at f i 0 before))

pub torn_back : (at n : ℕ) (f c : List ℕ) → at + n ≤ length f → Torn at n f c → drop (at + n) c ≡ drop (at + n) f
torn_back at n f c within torn =
    ext_get_or 0 (drop (at + n) c) (drop (at + n) f) (omega (arith, length-drop (at + n) c, length-drop (at + n) f, torn.no_shorter, torn.no_longer))
    (λ i l.
    get_or-drop (at + n) c i 0 ∙ torn.same (at + n + i) (omega (arith, length-drop (at + n) c, torn.no_longer)) (inr (omega arith)) ∙ sym (get_or-drop (at + n) f i 0))

-- one torn byte
pub torn_one : (front behind : List ℕ) (was at : ℕ) (c : List ℕ) → length front ≡ at → Torn at 1 (front ++ was ∷ behind) c → c ≡ front ++ get_or c at 0 ∷ behind
torn_one front behind was at c place torn =
    let size = length-append front (was ∷ behind) in
    let before : take at c ≡ front = torn_front at 1 (front ++ was ∷ behind) c (omega (arith, size)) torn ∙ take_at front (was ∷ behind) at place in
    let one : drop (at + 1) (front ++ was ∷ behind) ≡ behind =
    ap (drop (at + 1)) (sym (append_assoc front (was ∷ []) behind)) ∙ drop_at (front ++ was ∷ []) behind (at + 1) (omega (arith, length-append front (was ∷ []))) in
    let after : drop (at + 1) c ≡ behind = torn_back at 1 (front ++ was ∷ behind) c (omega (arith, size)) torn ∙ one in
    sym (take-append-drop at c)
    ∙ ap (λ (l : List ℕ). l ++ drop at c) before
    ∙ ap (λ (l : List ℕ). front ++ l) (drop_more c at 0 (omega (arith, size, torn.no_shorter)) ∙ ap (λ (l : List ℕ). get_or c at 0 ∷ l) after)
