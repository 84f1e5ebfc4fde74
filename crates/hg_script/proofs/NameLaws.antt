-- A name among names that are borrowed, by their bytes.
use Rattle.std.proofs.Common.{◌≡◌, ℕ, Bool, not, false, List, [], ◌∷◌, ◌++◌, map, refl, ◌∙◌}
use Rattle.std.proofs.lemmas.List.{length-map, map-append}
use Rattle.std.specs.List.{list_any, position, prefix_len}
use Rattle.std.specs.Str.{bytes_eq}
use Rattle.indexmap.specs.IndexSet.{insert_key}

prefix_map : {X Y : Type 0} (f : X → Y) (p : Y → Bool) (xs : List X) → prefix_len p (map f xs) ≡ prefix_len (λ x. p (f x)) xs
prefix_map f p [] = refl
prefix_map f p (x ∷ xs) = rw (prefix_map f p xs) refl

pub position_map : {X Y : Type 0} (f : X → Y) (p : Y → Bool) (xs : List X) → position (λ x. p (f x)) xs ≡ position p (map f xs)
position_map f p xs = rw (prefix_map f (λ y. not (p y)) xs, length-map xs f) refl

pub any_map : {X Y : Type 0} (f : X → Y) (p : Y → Bool) (xs : List X) → list_any (λ x. p (f x)) xs ≡ list_any p (map f xs)
any_map f p [] = refl
any_map f p (x ∷ xs) = rw (any_map f p xs) refl

-- a new name goes last
pub names_insert : {N : Type 0} (bytes : N → List ℕ) (names : List N) (name : N) → list_any (bytes_eq (bytes name)) (map bytes names) ≡ false
    → map bytes (insert_key (λ a b. bytes_eq (bytes a) (bytes b)) names name) ≡ map bytes names ++ bytes name ∷ []
names_insert bytes names name new =
    let none : list_any (λ other. bytes_eq (bytes name) (bytes other)) names ≡ false = any_map bytes (bytes_eq (bytes name)) names ∙ new in
    rw none (map-append bytes names (name ∷ []))
