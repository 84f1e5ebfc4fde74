-- Which of the messages that were taken are a sender's, by their places
use Rattle.std.proofs.Common.{◌≡◌, ◌≢◌, ℕ, zero, suc, ◌+◌, ◌-◌, ◌<◌, ◌≤◌, Bool, true, false, cond, eqb, eq-eqb, ne_eqb, List, [], ◌∷◌, length, take, get_or, Some, slice_get, refl, sym, ap, ◌∙◌, subst, arith}
use mathlib.Core.Logic.{dite}
use native.Mathlib.Decide.{ℕ_discrete}
use Rattle.hg_mail.specs.declared.message.Message.{Message}
use Rattle.hg_mail.specs.Messages.{messages_of}
use Rattle.hg_storm.specs.Fates.{no_message}
use Rattle.hg_storm.specs.Sending.{messages_from}

-- what a message that a member sent carries, by its place among them
pub message_is : (from at : ℕ) (rows : List (List ℕ)) (x : ℕ) (m : Message) → slice_get (messages_from from at rows) x ≡ Some m → (m.number ≡ at + x) × (slice_get rows x ≡ Some m.bytes)
message_is from at [] x m is = absurd (cc is)
message_is from at (bytes ∷ rows) zero m is =
    let same : record { from = from; number = at; bytes = bytes } ≡ m = cc in
    let number : at ≡ m.number = ap (λ (n : Message). n.number) same in
    (omega (arith, number), ap (λ (n : Message). Some n.bytes) same)
message_is from at (bytes ∷ rows) (suc x) m is = let rest = message_is from (at + 1) rows x m is in (omega (arith, rest.0), rest.1)

module _ (from : ℕ) where
  -- how many of the first messages are the sender's
  abbrev pub place : List Message → ℕ → ℕ
  place ms i = length (messages_of from (take i ms))

  place_none : (ms : List Message) → place ms 0 ≡ 0
  place_none [] = refl
  place_none (m ∷ ms) = refl

  -- a message of the sender stands among the sender's behind those before it
  pub stands_at : (ms : List Message) (i : ℕ) → i < length ms → (get_or ms i no_message).from ≡ from → slice_get (messages_of from ms) (place ms i) ≡ Some (get_or ms i no_message)
  stands_at [] i low is = absurd (omega (arith, low))
  stands_at (m ∷ ms) zero low is = ap (λ (b : Bool). slice_get (cond b (m ∷ messages_of from ms) (messages_of from ms)) 0) (eq-eqb m.from from is)
  stands_at (m ∷ ms) (suc i) low is = on (eqb m.from from) m (messages_of from ms) (messages_of from (take i ms)) (get_or ms i no_message) (stands_at ms i (omega (arith, low)) is)
    where
      on : (b : Bool) (x : Message) (all first : List Message) (y : Message) → slice_get all (length first) ≡ Some y → slice_get (cond b (x ∷ all) all) (length (cond b (x ∷ first) first)) ≡ Some y
      on true x all first y at = at
      on false x all first y at = at

  -- where a message that stands among the sender's stands among all
  pub record Origin (ms : List Message) (x : ℕ) (y : Message) : Type 0 where
    pub index : ℕ
    pub inside : index < length ms
    pub is : get_or ms index no_message ≡ y
    pub of : y.from ≡ from
    pub at : place ms index ≡ x

  own : (m : Message) (ms : List Message) (x : ℕ) (y : Message) → m.from ≡ from → ((z : ℕ) → slice_get (messages_of from ms) z ≡ Some y → Origin ms z y) → slice_get (m ∷ messages_of from ms) x ≡ Some y →
      Origin (m ∷ ms) x y
  own m ms zero y same more at = let is : m ≡ y = cc in record { index = 0; inside = omega arith; is = is; of = ap (λ (n : Message). n.from) (sym is) ∙ same; at = refl }
  own m ms (suc x) y same more at =
      let o = more x at in record {
        index = suc o.index;
        inside = omega (arith, o.inside);
        is = o.is;
        of = o.of;
        at = ap (λ (b : Bool). length (cond b (m ∷ messages_of from (take o.index ms)) (messages_of from (take o.index ms)))) (eq-eqb m.from from same) ∙ ap suc o.at;
      }

  other : (m : Message) (ms : List Message) (x : ℕ) (y : Message) → m.from ≢ from → Origin ms x y → Origin (m ∷ ms) x y
  other m ms x y apart o = record {
    index = suc o.index;
    inside = omega (arith, o.inside);
    is = o.is;
    of = o.of;
    at = ap (λ (b : Bool). length (cond b (m ∷ messages_of from (take o.index ms)) (messages_of from (take o.index ms)))) (ne_eqb m.from from apart) ∙ o.at;
  }

  pub origin : (ms : List Message) (x : ℕ) (y : Message) → slice_get (messages_of from ms) x ≡ Some y → Origin ms x y
  origin [] x y at = absurd (cc at)
  origin (m ∷ ms) x y at = dite (ℕ_discrete m.from from)
      (λ same. own m ms x y same (λ z. origin ms z y) (subst (λ (b : Bool). slice_get (cond b (m ∷ messages_of from ms) (messages_of from ms)) x ≡ Some y) (eq-eqb m.from from same) at))
      (λ apart. other m ms x y apart (origin ms x y (subst (λ (b : Bool). slice_get (cond b (m ∷ messages_of from ms) (messages_of from ms)) x ≡ Some y) (ne_eqb m.from from apart) at)))

  rises : (b : Bool) (x : Message) (first more : List Message) → length first ≤ length more → length (cond b (x ∷ first) first) ≤ length (cond b (x ∷ more) more)
  rises true x first more le = omega (arith, le)
  rises false x first more le = le

  -- of more messages no fewer are the sender's
  pub places_rise : (ms : List Message) (i j : ℕ) → i ≤ j → place ms i ≤ place ms j
  places_rise ms zero j le = omega (arith, place_none ms)
  places_rise [] (suc i) j le = omega arith
  places_rise (m ∷ ms) (suc i) zero le = absurd (omega (arith, le))
  places_rise (m ∷ ms) (suc i) (suc j) le = rises (eqb m.from from) m (messages_of from (take i ms)) (messages_of from (take j ms)) (places_rise ms i j (omega (arith, le)))

  rises_one : (b : Bool) (x : Message) (first more : List Message) → length more ≡ suc (length first) → length (cond b (x ∷ more) more) ≡ suc (length (cond b (x ∷ first) first))
  rises_one true x first more is = ap suc is
  rises_one false x first more is = is

  place_next : (ms : List Message) (i : ℕ) → i < length ms → (get_or ms i no_message).from ≡ from → place ms (suc i) ≡ suc (place ms i)
  place_next [] i low is = absurd (omega (arith, low))
  place_next (m ∷ ms) zero low is = ap (λ (b : Bool). length (cond b (m ∷ messages_of from (take 0 ms)) (messages_of from (take 0 ms)))) (eq-eqb m.from from is) ∙ ap suc (place_none ms)
  place_next (m ∷ ms) (suc i) low is = rises_one (eqb m.from from) m (messages_of from (take i ms)) (messages_of from (take (suc i) ms)) (place_next ms i (omega (arith, low)) is)

  -- one that stands before another among all stands before it among the sender's
  pub place_later : (ms : List Message) (i j : ℕ) → i < j → i < length ms → (get_or ms i no_message).from ≡ from → place ms i < place ms j
  place_later ms i j less low is =
      let next = place_next ms i low is in
      let rise = places_rise ms (suc i) j (omega (arith, less)) in
      omega (arith, next, rise)

  -- one that stands before another among the sender's stands before it among all
  pub earlier : (ms : List Message) (i j : ℕ) → place ms i < place ms j → i < j
  earlier ms i j less = dite (ℕ_discrete (j - i) 0) (λ none. let le : j ≤ i = omega (arith, none) in let rise = places_rise ms j i le in absurd (omega (arith, less, rise))) (λ some. omega (arith, some))
