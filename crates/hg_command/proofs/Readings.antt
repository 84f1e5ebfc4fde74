-- What a getter reads of an option is what the definition says
use Rattle.std.proofs.Common.{◌≡◌, ◌∙◌, ◌≤◌, ◌^◌, ℕ, Bool, true, false, Option, Some, None, Result, Bor, refl, ap, arith, unwrap_or, option_map, option_and_then}
use Rattle.std.specs.declared.num.ParseIntError.{ParseIntError}
use Rattle.std.specs.Str.Parse.{ExplainsUnsignedError, HasUnsignedDigitsIfOk, ParsesUnsigned}
use Rattle.clap.specs.Words.{ReadsOne, Text, first_of, first_value, one_of, one_text, rows_of}
use Rattle.clap.specs.ValueTests.{accepts}
use Rattle.clap.specs.declared.parser.matches.Found.{Found}
use Rattle.clap.specs.declared.builder.ValueParser.TheVariants.{Unsigned}
use Rattle.clap.proofs.ValueTestLemmas.{accepts-Accepts, Accepts-accepts}
use Rattle.clap.proofs.WalkLemmas.{first_value-rows, one_text-rows}
use Rattle.hg_command.specs.Asked.{text_number}
use Rattle.hg_command.specs.Line.{most_of_bits}

unwrap_or-now : (found : Option (Bor Text)) (other : Bor Text) → (unwrap_or found other).now ≡ unwrap_or (option_map (λ s. s.now) found) other.now
unwrap_or-now None other = refl
unwrap_or-now (Some s) other = refl

-- the text of an option
pub text_found : (f : Found) (id : Text) (found : Option (Bor Text)) (other : Bor Text) → option_map (λ s. s.now) found ≡ first_value f id
    → (unwrap_or found other).now ≡ unwrap_or (first_of id (rows_of f)) other.now
text_found f id found other is =
    unwrap_or-now found other ∙ ap (λ (o : Option Text). unwrap_or o other.now) (is ∙ first_value-rows f id)

abbrev some : ℕ → Option ℕ
some n = Some n

abbrev none : Option ℕ
none = None

-- how a text is read as a number of so many bits
abbrev pub Reads : ℕ → Text → Result ℕ ParseIntError → Type 0
Reads bits t r = ParsesUnsigned bits 10 t r × ExplainsUnsignedError 10 t r × HasUnsignedDigitsIfOk t r

abbrev is_number : ℕ → Text → Bool
is_number bits t = accepts false (Unsigned 0 (most_of_bits bits)) t

-- the bits are not more than those that clap reads
abbrev pub AreRead : ℕ → Type 0
AreRead bits = (1 ≤ 2 ^ bits) × (2 ^ bits ≤ 2 ^ 64)

-- the number that a text is read as
number_read : (bits : ℕ) → AreRead bits → (t : Text) (r : Option ℕ) → ReadsOne (Reads bits) t r → r ≡ text_number bits t
number_read bits few t (Some n) read =
    let taken : is_number bits t ≡ true = Accepts-accepts false (Unsigned 0 (most_of_bits bits)) t (read.0.0.0, omega (arith, read.0.0.1, few.1), omega arith, omega (arith, read.0.0.1)) in
    rw taken (ap (λ (v : ℕ). some v) read.0.1)
number_read bits few t None read = go (is_number bits t) refl
  where
    go : (b : Bool) → is_number bits t ≡ b → none ≡ text_number bits t
    go false is = rw is refl
    go true is =
        let taken = accepts-Accepts false (Unsigned 0 (most_of_bits bits)) t is in
        absurd (read.1.0 (taken.0, omega (arith, taken.3, few.0)))

-- the number of an option
pub number_found : (bits : ℕ) → AreRead bits → (f : Found) (id : Text) (r : Option ℕ) → (one_text f id ≡ None → r ≡ None)
    → ((t : Text) → one_text f id ≡ Some t → ReadsOne (Reads bits) t r) → r ≡ option_and_then (text_number bits) (one_of id (rows_of f))
number_found bits few f id r none value = go (one_text f id) refl ∙ ap (option_and_then (text_number bits)) (one_text-rows f id)
  where
    go : (o : Option Text) → one_text f id ≡ o → r ≡ option_and_then (text_number bits) o
    go None is = none is
    go (Some t) is = number_read bits few t r (value t is)
