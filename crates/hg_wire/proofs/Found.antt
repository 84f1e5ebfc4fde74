-- What is read is spelled so
use Rattle.std.proofs.Common.{◌≡◌, ℕ, zero, suc, ◌+◌, ◌≤◌, eqb, ltb, List, [], ◌∷◌, ◌++◌, length, take, drop, Option, Some, None, refl, sym, ap, subst, ◌∙◌, append_assoc, arith}
use Rattle.std.specs.Prelude.{IfSome}
use Rattle.std.specs.Int.{w32, from_be_bytes, to_be_bytes}
use Rattle.std.specs.List.{concat, AllByRecursion}
use Rattle.std.proofs.lemmas.Bool.{eqb-true, ltb-false}
use Rattle.std.proofs.lemmas.List.{length-take, take-append-drop}
use Rattle.std.proofs.lemmas.Nat.{be_bytes_4}
use Rattle.hg_wire.specs.declared.message.Want.{Want}
use Rattle.hg_wire.specs.declared.message.Want.TheVariants as want
use Rattle.hg_wire.specs.declared.message.Message.{Message}
use Rattle.hg_wire.specs.declared.message.Message.TheVariants.{Have, Rows}
use Rattle.hg_wire.specs.declared.message.WireFault.TheVariants.{Magic, Kind, Count}
use Rattle.hg_wire.specs.Outcome.{Finished, Reader}
use Rattle.hg_wire.specs.Reading.{body, count_field, count_limit, cut, head_field, kind_byte, kind_field, last_field, magic_byte, magic_field, many, name_field, parcel_of, read, row_field}
use Rattle.hg_wire.specs.Grammar.{AreBytes, Begins, Fits, IsEvent, IsName, head_bytes, last_bytes, message_bytes}
use Rattle.hg_wire.proofs.Steps.{matched, passed, same_rest, same_value, went_on, whole}
use Rattle.hg_wire.proofs.Bytes.{behind, rest_fits, text_fits}
use Rattle.hg_wire.proofs.Fronts.{row_found}

pub cut_found : (n : ℕ) (bytes x rest : List ℕ) → cut n bytes ≡ Finished x rest → (bytes ≡ x ++ rest) × (length x ≡ n)
unfolding cut
cut_found n bytes x rest e =
    let w = whole (ltb (length bytes) n) (Finished (take n bytes) (drop n bytes)) x rest e in
    let long : n ≤ length bytes = ltb-false _ _ w.0 in
    let text : take n bytes ≡ x = same_value (take n bytes) x (drop n bytes) rest w.1 in
    let left : drop n bytes ≡ rest = same_rest (take n bytes) x (drop n bytes) rest w.1 in
    (sym (take-append-drop n bytes) ∙ ap (λ (t : List ℕ). t ++ drop n bytes) text ∙ ap (λ (t : List ℕ). x ++ t) left, omega (arith, ap length text, length-take n bytes))

magic_byte_found : (at byte : ℕ) (bytes : List ℕ) (x : ℕ) (rest : List ℕ) → magic_byte at byte bytes ≡ Finished x rest → bytes ≡ byte ∷ rest
unfolding magic_byte
magic_byte_found at byte [] x rest e = absurd cc
magic_byte_found at byte (b ∷ bytes) x rest e =
    let w = matched (eqb b byte) (Magic at) (Finished b bytes) x rest e in
    let same : b ≡ byte = eqb-true b byte w.0 in
    ap (λ (b : ℕ). b ∷ bytes) same ∙ ap (λ (t : List ℕ). byte ∷ t) (same_rest b x bytes rest w.1)

magic_found : (bytes : List ℕ) (x : ℕ) (rest : List ℕ) → magic_field bytes ≡ Finished x rest → bytes ≡ 0x48 ∷ 0x47 ∷ 0x57 ∷ 0x31 ∷ rest
unfolding magic_field
magic_found bytes x rest e =
    let a = went_on (magic_byte 0 0x48 bytes) _ x rest e in
    let b = went_on (magic_byte 1 0x47 a.1) _ x rest a.3 in
    let c = went_on (magic_byte 2 0x57 b.1) _ x rest b.3 in
    magic_byte_found 0 0x48 bytes a.0 a.1 a.2 ∙ ap (λ (t : List ℕ). 0x48 ∷ t) (magic_byte_found 1 0x47 a.1 b.0 b.1 b.2)
    ∙ ap (λ (t : List ℕ). 0x48 ∷ 0x47 ∷ t) (magic_byte_found 2 0x57 b.1 c.0 c.1 c.2) ∙ ap (λ (t : List ℕ). 0x48 ∷ 0x47 ∷ 0x57 ∷ t) (magic_byte_found 3 0x31 c.1 x rest c.3)

kind_found : (w : Want) (bytes : List ℕ) (x : ℕ) (rest : List ℕ) → kind_field w bytes ≡ Finished x rest → bytes ≡ kind_byte w ∷ rest
unfolding kind_field
kind_found w [] x rest e = absurd cc
kind_found w (b ∷ bytes) x rest e =
    let m = matched (eqb b (kind_byte w)) (Kind b) (Finished b bytes) x rest e in
    let same : b ≡ kind_byte w = eqb-true b (kind_byte w) m.0 in
    ap (λ (b : ℕ). b ∷ bytes) same ∙ ap (λ (t : List ℕ). kind_byte w ∷ t) (same_rest b x bytes rest m.1)

count_found : (bytes : List ℕ) (n : ℕ) (rest : List ℕ) → AreBytes bytes → count_field bytes ≡ Finished n rest → (bytes ≡ to_be_bytes w32 n ++ rest) × (n ≤ count_limit)
unfolding count_field
count_found bytes n rest fit e =
    let d = went_on (cut 4 bytes) _ n rest e in
    let found = cut_found 4 bytes d.0 d.1 d.2 in
    let w = passed (ltb count_limit (from_be_bytes w32 d.0)) (Count (from_be_bytes w32 d.0)) (Finished (from_be_bytes w32 d.0) d.1) n rest d.3 in
    let small : from_be_bytes w32 d.0 ≤ count_limit = ltb-false _ _ w.0 in
    let same : from_be_bytes w32 d.0 ≡ n = same_value (from_be_bytes w32 d.0) n d.1 rest w.1 in
    let left : d.1 ≡ rest = same_rest (from_be_bytes w32 d.0) n d.1 rest w.1 in
    let spelled : to_be_bytes w32 n ≡ d.0 = be_bytes_4 d.0 n found.1 (text_fits d.0 d.1 fit found.0) (sym same) in
    (found.0 ∙ ap (λ (t : List ℕ). t ++ d.1) (sym spelled) ∙ ap (λ (t : List ℕ). to_be_bytes w32 n ++ t) left, omega (arith, small, same))

pub head_found : (w : Want) (bytes : List ℕ) (n : ℕ) (rest : List ℕ) → AreBytes bytes → head_field w bytes ≡ Finished n rest → (bytes ≡ head_bytes w n ++ rest) × (n ≤ count_limit)
unfolding head_field
head_found w bytes n rest fit e =
    let a = went_on (magic_field bytes) _ n rest e in
    let b = went_on (kind_field w a.1) _ n rest a.3 in
    let first = magic_found bytes a.0 a.1 a.2 in
    let second = kind_found w a.1 b.0 b.1 b.2 in
    let front : bytes ≡ (0x48 ∷ 0x47 ∷ 0x57 ∷ 0x31 ∷ kind_byte w ∷ []) ++ b.1 = first ∙ ap (λ (t : List ℕ). 0x48 ∷ 0x47 ∷ 0x57 ∷ 0x31 ∷ t) second in
    let c = count_found b.1 n rest (rest_fits (0x48 ∷ 0x47 ∷ 0x57 ∷ 0x31 ∷ kind_byte w ∷ []) b.1 fit front) b.3 in
    (front ∙ ap (λ (t : List ℕ). 0x48 ∷ 0x47 ∷ 0x57 ∷ 0x31 ∷ kind_byte w ∷ t) c.0, c.1)

pub name_found : (i : ℕ) (bytes x rest : List ℕ) → AreBytes bytes → name_field i bytes ≡ Finished x rest → IsName x × (bytes ≡ x ++ rest)
unfolding name_field
name_found i bytes x rest fit e = let found = cut_found 48 bytes x rest e in (found.1, found.0)

-- so many, each as it has to be
pub many_found : (one : ℕ → Reader (List ℕ)) (P : List ℕ → Type 0) → ((i : ℕ) (bytes x rest : List ℕ) → AreBytes bytes → one i bytes ≡ Finished x rest → P x × (bytes ≡ x ++ rest))
    → (i n : ℕ) (bytes : List ℕ) (xs : List (List ℕ)) (rest : List ℕ) → AreBytes bytes → many one i n bytes ≡ Finished xs rest
    → (length xs ≡ n) × AllByRecursion P xs × (bytes ≡ concat xs ++ rest)
unfolding many
many_found one P each i zero bytes xs rest fit e =
    subst (λ (xs : List (List ℕ)). (length xs ≡ 0) × AllByRecursion P xs × (bytes ≡ concat xs ++ rest)) (same_value [] xs bytes rest e)
    (refl, tt, same_rest [] xs bytes rest e)
many_found one P each i (suc n) bytes xs rest fit e =
    let a = went_on (one i bytes) _ xs rest e in
    let b = went_on (many one (i + 1) n a.1) _ xs rest a.3 in
    let x = each i bytes a.0 a.1 fit a.2 in
    let more = many_found one P each (i + 1) n a.1 b.0 b.1 (rest_fits a.0 a.1 fit x.1) b.2 in
    subst (λ (xs : List (List ℕ)). (length xs ≡ suc n) × AllByRecursion P xs × (bytes ≡ concat xs ++ rest)) (same_value (a.0 ∷ b.0) xs b.1 rest b.3)
    (ap suc more.0, (x.0, more.1), behind a.0 (concat b.0) b.1 x.1 more.2 ∙ ap (λ (t : List ℕ). (a.0 ++ concat b.0) ++ t) (same_rest (a.0 ∷ b.0) xs b.1 rest b.3))

pub names_found : (i n : ℕ) (bytes : List ℕ) (xs : List (List ℕ)) (rest : List ℕ) → AreBytes bytes → many name_field i n bytes ≡ Finished xs rest
    → (length xs ≡ n) × AllByRecursion IsName xs × (bytes ≡ concat xs ++ rest)
names_found = many_found name_field IsName name_found

pub rows_found : (i n : ℕ) (bytes : List ℕ) (xs : List (List ℕ)) (rest : List ℕ) → AreBytes bytes → many row_field i n bytes ≡ Finished xs rest
    → (length xs ≡ n) × AllByRecursion IsEvent xs × (bytes ≡ concat xs ++ rest)
rows_found = many_found row_field IsEvent row_found

pub last_found : (bytes : List ℕ) (last : Option (List ℕ)) (rest : List ℕ) → last_field bytes ≡ Finished last rest → IfSome last IsName × (bytes ≡ last_bytes last ++ rest)
unfolding last_field
last_found [] last rest e = absurd cc
last_found (zero ∷ bytes) last rest e =
    subst (λ (last : Option (List ℕ)). IfSome last IsName × (0 ∷ bytes ≡ last_bytes last ++ rest)) (same_value None last bytes rest e) (tt, ap (λ (t : List ℕ). 0 ∷ t) (same_rest None last bytes rest e))
last_found (suc zero ∷ bytes) last rest e =
    let a = went_on (cut 48 bytes) _ last rest e in
    let found = cut_found 48 bytes a.0 a.1 a.2 in
    subst (λ (last : Option (List ℕ)). IfSome last IsName × (1 ∷ bytes ≡ last_bytes last ++ rest)) (same_value (Some a.0) last a.1 rest a.3)
    (found.1, ap (λ (t : List ℕ). 1 ∷ t) (found.0 ∙ ap (λ (t : List ℕ). a.0 ++ t) (same_rest (Some a.0) last a.1 rest a.3)))
last_found (suc (suc b) ∷ bytes) last rest e = absurd cc

body_found : (w : Want) (n : ℕ) (bytes : List ℕ) (m : Message) (rest : List ℕ) → AreBytes bytes → n ≤ count_limit → body w n bytes ≡ Finished m rest
    → Fits w m × (head_bytes w n ++ bytes ≡ message_bytes m ++ rest)
unfolding body
body_found want.Have n bytes m rest fit small e =
    let a = went_on (many name_field 0 n bytes) _ m rest e in
    let f = names_found 0 n bytes a.0 a.1 fit a.2 in
    let left : bytes ≡ concat a.0 ++ rest = f.2 ∙ ap (λ (t : List ℕ). concat a.0 ++ t) (same_rest (Have a.0) m a.1 rest a.3) in
    subst (λ (m : Message). Fits want.Have m × (head_bytes want.Have n ++ bytes ≡ message_bytes m ++ rest)) (same_value (Have a.0) m a.1 rest a.3) (
      (omega (arith, f.0, small), f.1),
      ap (λ (n : ℕ). head_bytes want.Have n ++ bytes) (sym f.0) ∙ sym (append_assoc (head_bytes want.Have (length a.0)) (concat a.0) rest ∙ ap (λ (t : List ℕ). head_bytes want.Have (length a.0) ++ t) (sym left)),
    )
body_found want.Rows n bytes m rest fit small e =
    let a = went_on (many row_field 0 n bytes) _ m rest e in
    let b = went_on (last_field a.1) _ m rest a.3 in
    let f = rows_found 0 n bytes a.0 a.1 fit a.2 in
    let l = last_found a.1 b.0 b.1 b.2 in
    let left : bytes ≡ (concat a.0 ++ last_bytes b.0) ++ rest =
    behind (concat a.0) (last_bytes b.0) b.1 f.2 l.1 ∙ ap (λ (t : List ℕ). (concat a.0 ++ last_bytes b.0) ++ t) (same_rest (Rows (parcel_of a.0 b.0)) m b.1 rest b.3) in
    subst (λ (m : Message). Fits want.Rows m × (head_bytes want.Rows n ++ bytes ≡ message_bytes m ++ rest)) (same_value (Rows (parcel_of a.0 b.0)) m b.1 rest b.3) (
      (omega (arith, f.0, small), f.1, l.0),
      ap (λ (n : ℕ). head_bytes want.Rows n ++ bytes) (sym f.0)
          ∙ sym (append_assoc (head_bytes want.Rows (length a.0)) (concat a.0 ++ last_bytes b.0) rest ∙ ap (λ (t : List ℕ). head_bytes want.Rows (length a.0) ++ t) (sym left)),
    )

-- what is read is a message
pub read_message : (w : Want) (bytes : List ℕ) (m : Message) (rest : List ℕ) → AreBytes bytes → read w bytes ≡ Finished m rest → Begins w bytes m rest
unfolding read
read_message w bytes m rest fit e =
    let h = went_on (head_field w bytes) (body w) m rest e in
    let front = head_found w bytes h.0 h.1 fit h.2 in
    let found = body_found w h.0 h.1 m rest (rest_fits (head_bytes w h.0) h.1 fit front.0) front.1 h.3 in
    record { text = message_bytes m; is = (found.0, refl); whole = front.0 ∙ found.1 }
