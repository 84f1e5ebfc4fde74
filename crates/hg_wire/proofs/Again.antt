-- What is spelled is read, whatever follows
use Rattle.std.proofs.Common.{◌≡◌, ℕ, suc, ◌+◌, ◌^◌, ◌<◌, ◌≤◌, false, ltb, List, [], ◌∷◌, ◌++◌, length, Option, Some, None, refl, sym, ap, ◌∙◌, append_assoc, arith}
use Rattle.std.specs.Int.{w32, to_be_bytes}
use Rattle.std.specs.Prelude.{IfSome}
use Rattle.std.specs.List.{concat, AllByRecursion}
use Rattle.std.proofs.lemmas.Bool.{le-ltb}
use Rattle.std.proofs.lemmas.List.{take_at, drop_at, length-append}
use Rattle.std.proofs.lemmas.Nat.{from_be_bytes-to_be_bytes_4}
use Rattle.hg_life.specs.declared.gossip.Parcel.{Parcel}
use Rattle.hg_wire.specs.declared.message.Want.{Want}
use Rattle.hg_wire.specs.declared.message.Want.TheVariants as want
use Rattle.hg_wire.specs.declared.message.Message.{Message}
use Rattle.hg_wire.specs.declared.message.Message.TheVariants.{Have, Rows}
use Rattle.hg_wire.specs.Outcome.{Finished, Reader}
use Rattle.hg_wire.specs.Reading.{body, count_field, count_limit, cut, head_field, kind_byte, kind_field, last_field, magic_byte, magic_field, many, name_field, read, row_field}
use Rattle.hg_wire.specs.Grammar.{Fits, IsEvent, IsMessage, IsName, IsParcel, head_bytes, last_bytes, message_bytes}
use Rattle.hg_wire.proofs.Steps.{same_value}
use Rattle.hg_wire.proofs.Fronts.{row_again}

pub cut_again : (n : ℕ) (text rest : List ℕ) → length text ≡ n → cut n (text ++ rest) ≡ Finished text rest
unfolding cut
cut_again n text rest len =
    let long : ltb (length (text ++ rest)) n ≡ false = le-ltb _ _ (omega (arith, len, length-append text rest)) in
    rw (long, take_at text rest n len, drop_at text rest n len) refl

count_again : (n : ℕ) (rest : List ℕ) → n ≤ count_limit → count_field (to_be_bytes w32 n ++ rest) ≡ Finished n rest
unfolding count_field
count_again n rest small =
    let below : n < 2 ^ 32 = omega (arith, small) in
    let passes : ltb count_limit n ≡ false = le-ltb _ _ small in
    rw (cut_again 4 (to_be_bytes w32 n) rest refl, from_be_bytes-to_be_bytes_4 n below, passes) refl

pub head_again : (w : Want) (n : ℕ) (rest : List ℕ) → n ≤ count_limit → head_field w (head_bytes w n ++ rest) ≡ Finished n rest
unfolding head_field magic_field magic_byte kind_field
head_again want.Have n rest small = count_again n rest small
head_again want.Rows n rest small = count_again n rest small

pub name_again : (i : ℕ) (text rest : List ℕ) → IsName text → name_field i (text ++ rest) ≡ Finished text rest
unfolding name_field
name_again i text rest len = cut_again 48 text rest len

many_again : (one : ℕ → Reader (List ℕ)) (P : List ℕ → Type 0) → ((i : ℕ) (text rest : List ℕ) → P text → one i (text ++ rest) ≡ Finished text rest)
    → (i : ℕ) (xs : List (List ℕ)) (rest : List ℕ) → AllByRecursion P xs → many one i (length xs) (concat xs ++ rest) ≡ Finished xs rest
unfolding many
many_again one P each i [] rest all = refl
many_again one P each i (x ∷ xs) rest all =
    ap (many one i (suc (length xs))) (append_assoc x (concat xs) rest)
    ∙ rw (each i x (concat xs ++ rest) all.0, many_again one P each (i + 1) xs rest all.1) refl

pub last_again : (last : Option (List ℕ)) (rest : List ℕ) → IfSome last IsName → last_field (last_bytes last ++ rest) ≡ Finished last rest
unfolding last_field
last_again None rest fits = refl
last_again (Some name) rest fits = rw (cut_again 48 name rest fits) refl

body_have : (names : List (List ℕ)) (rest : List ℕ) → AllByRecursion IsName names → body want.Have (length names) (concat names ++ rest) ≡ Finished (Have names) rest
unfolding body
body_have names rest all = rw (many_again name_field IsName name_again 0 names rest all) refl

body_rows : (parcel : Parcel) (rest : List ℕ) → IsParcel parcel
    → body want.Rows (length parcel.rows) ((concat parcel.rows ++ last_bytes parcel.last) ++ rest) ≡ Finished (Rows parcel) rest
unfolding body
body_rows parcel rest is =
    ap (body want.Rows (length parcel.rows)) (append_assoc (concat parcel.rows) (last_bytes parcel.last) rest)
    ∙ rw (many_again row_field IsEvent row_again 0 parcel.rows (last_bytes parcel.last ++ rest) is.1, last_again parcel.last rest is.2) refl

-- a message is read
spelled_read : (w : Want) (m : Message) (rest : List ℕ) → Fits w m → read w (message_bytes m ++ rest) ≡ Finished m rest
unfolding read
spelled_read want.Have (Have names) rest fits =
    ap (read want.Have) (append_assoc (head_bytes want.Have (length names)) (concat names) rest)
    ∙ rw (head_again want.Have (length names) (concat names ++ rest) fits.0) (body_have names rest fits.1)
spelled_read want.Rows (Rows parcel) rest fits =
    ap (read want.Rows) (append_assoc (head_bytes want.Rows (length parcel.rows)) (concat parcel.rows ++ last_bytes parcel.last) rest)
    ∙ rw (head_again want.Rows (length parcel.rows) ((concat parcel.rows ++ last_bytes parcel.last) ++ rest) fits.0) (body_rows parcel rest fits)
spelled_read want.Have (Rows parcel) rest fits = absurd fits
spelled_read want.Rows (Have names) rest fits = absurd fits

pub message_read : (w : Want) (bytes rest : List ℕ) (m : Message) → IsMessage w bytes m → read w (bytes ++ rest) ≡ Finished m rest
message_read w bytes rest m is = ap (λ (t : List ℕ). read w (t ++ rest)) is.1 ∙ spelled_read w m rest is.0

kinds_are_one : (w v : Want) (m n : ℕ) (x y : List ℕ) → head_bytes w m ++ x ≡ head_bytes v n ++ y → kind_byte w ≡ kind_byte v
kinds_are_one w v m n x y e = cc

wants_are_one : (w v : Want) → kind_byte w ≡ kind_byte v → w ≡ v
wants_are_one want.Have want.Have e = refl
wants_are_one want.Rows want.Rows e = refl
wants_are_one want.Have want.Rows e = absurd (omega (arith, e))
wants_are_one want.Rows want.Have e = absurd (omega (arith, e))

head_of : (w : Want) (m : Message) → Fits w m → (n : ℕ) × (tail : List ℕ) × (message_bytes m ≡ head_bytes w n ++ tail)
head_of want.Have (Have names) fits = (length names, concat names, refl)
head_of want.Rows (Rows parcel) fits = (length parcel.rows, concat parcel.rows ++ last_bytes parcel.last, refl)
head_of want.Have (Rows parcel) fits = absurd fits
head_of want.Rows (Have names) fits = absurd fits

-- no message begins another
pub prefix_free : (w v : Want) (a b x y : List ℕ) (m n : Message) → IsMessage w a m → IsMessage v b n → a ++ x ≡ b ++ y → (a ≡ b) × (m ≡ n)
prefix_free w v a b x y m n is are e =
    let t = head_of w m is.0 in
    let u = head_of v n are.0 in
    let left : head_bytes w t.0 ++ (t.1 ++ x) ≡ a ++ x = sym (append_assoc (head_bytes w t.0) t.1 x) ∙ ap (λ (t : List ℕ). t ++ x) (sym (is.1 ∙ t.2)) in
    let right : head_bytes v u.0 ++ (u.1 ++ y) ≡ b ++ y = sym (append_assoc (head_bytes v u.0) u.1 y) ∙ ap (λ (t : List ℕ). t ++ y) (sym (are.1 ∙ u.2)) in
    let same : w ≡ v = wants_are_one w v (kinds_are_one w v t.0 u.0 (t.1 ++ x) (u.1 ++ y) (left ∙ e ∙ sym right)) in
    let one : Finished m x ≡ Finished n y =
    sym (message_read w a x m is) ∙ ap (read w) e ∙ ap (λ w. read w (b ++ y)) same ∙ message_read v b y n are in
    let said : m ≡ n = same_value m n x y one in
    (is.1 ∙ ap message_bytes said ∙ sym are.1, said)
