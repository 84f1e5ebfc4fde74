use Rattle.std.proofs.Common.{◌++◌, List, ℕ, codes, subst, append_assoc}
use Rattle.std.specs.Fmt.{decimal}
use Rattle.hg_telling.proofs.HashLaws.{hashes_then}
use Rattle.hg_telling.specs.Hashing.{Hashes}
use Rattle.hg_telling.proofs.digest.hash_entry.Goals as goal

pub returns : goal.returns
returns c =
    let e = c.args.entry.now in
    let front : List ℕ = e.name ++ codes " " ++ decimal e.balance in
    let name : Hashes c.args.hasher.now c.update.new.self e.name = rw c.as_slice.ensures at c.update.ensures in
    let stake : Hashes c.update-3.new.self c.hash_number-2.new.hasher (decimal e.stake) = rw c.from.ensures at c.hash_number-2.ensures in
    let balance : Hashes c.args.hasher.now c.hash_number.new.hasher front =
    hashes_then _ _ _ (e.name ++ codes " ") (decimal e.balance) (hashes_then _ _ _ e.name (codes " ") name c.update-2.ensures) c.hash_number.ensures in
    let whole : Hashes c.args.hasher.now c.update-4.new.self (front ++ codes " " ++ decimal e.stake ++ codes "\n") =
    hashes_then _ _ _ (front ++ codes " " ++ decimal e.stake) (codes "\n")
    (hashes_then _ _ _ (front ++ codes " ") (decimal e.stake) (hashes_then _ _ _ front (codes " ") balance c.update-3.ensures) stake) c.update-4.ensures in
    subst (λ (t : List ℕ). Hashes c.args.hasher.now c.update-4.new.self (t ++ codes "\n")) (append_assoc front (codes " ") (decimal e.stake)) whole
