-- The laws of bytes XORed with bytes
use Rattle.std.proofs.Common.{◌≡◌, ℕ, suc, ◌<◌, List, [], ◌∷◌, length, get_or, bit_xor, ap₂, refl, arith}
use Rattle.hg_model.specs.Order.{xor_bytes}

-- bytes that are XORs, place by place
pub xor_bytes_is : (xs ys zs : List ℕ) → length zs ≡ length xs → length xs ≡ length ys →
    ((k : ℕ) → k < length xs → get_or zs k 0 ≡ bit_xor (get_or xs k 0) (get_or ys k 0)) → zs ≡ xor_bytes xs ys
xor_bytes_is [] ys [] same_zs same_ys at = refl
xor_bytes_is [] ys (z ∷ zs) same_zs same_ys at = absurd (omega arith)
xor_bytes_is (x ∷ xs) [] zs same_zs same_ys at = absurd (omega arith)
xor_bytes_is (x ∷ xs) (y ∷ ys) [] same_zs same_ys at = absurd (omega arith)
xor_bytes_is (x ∷ xs) (y ∷ ys) (z ∷ zs) same_zs same_ys at =
    ap₂ (λ b bs. b ∷ bs) (at 0 (omega arith)) (xor_bytes_is xs ys zs (omega arith) (omega arith) (λ k h. at (suc k) (omega arith)))
