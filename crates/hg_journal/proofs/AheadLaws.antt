-- What is read at a place where a gate must stand.
use Rattle.std.proofs.Common.{◌≡◌, inl, inr, ⊎_elim, ℕ, ◌+◌, ◌<◌, ◌≤◌, Bool, false, nat_le, if◌then◌else◌, List, [], ◌∷◌, ◌++◌, length, take, drop, Some, None, refl, sym, ◌∙◌, ap, arith, length-take}
use Rattle.std.proofs.lemmas.Bool.Decides.{nat_tests}
use Rattle.std.proofs.lemmas.List.{take-append-drop, take_all, take_at, drop-drop}
use Rattle.hg_io.specs.FileView.{IsFilled}
use Rattle.hg_journal.specs.Ahead.{IsAhead, IsAheadOf, IsClosedAt, IsNothingAt, IsRecordAt}
use Rattle.hg_journal.specs.Records.{body_cut, record_of, size_of}
use Rattle.hg_journal.specs.declared.ahead.Ahead.{Ahead}
use Rattle.hg_journal.specs.declared.ahead.Ahead.TheVariants.{Closed, Record, Nothing}

no_body : (kind size : ℕ) (bytes : List ℕ) → length bytes < size → body_cut kind size bytes ≡ None
no_body kind size bytes short =
    let no : nat_le size (length bytes) ≡ false = grind (arith, nat_tests) in
    ap (λ (t : Bool). if t then Some (record { kind = kind; body = take size bytes; rest = drop size bytes }) else None) no

-- fewer than three bytes are no record
no_record : (rest : List ℕ) → length rest ≤ 2 → record_of rest ≡ None
no_record [] short = refl
no_record (kind ∷ []) short = refl
no_record (kind ∷ a ∷ []) short = refl
no_record (kind ∷ a ∷ b ∷ rest) short = absurd (omega arith)

-- four bytes and what stands behind them
module _ (bytes four : List ℕ) (is : four ≡ take 4 bytes) where
  whole : bytes ≡ four ++ drop 4 bytes
  whole = sym (take-append-drop 4 bytes) ∙ ap (λ (l : List ℕ). l ++ drop 4 bytes) (sym is)

  pub closed_ahead : IsClosedAt four → IsClosedAt bytes
  closed_ahead closed = (closed.0 ++ drop 4 bytes, whole ∙ ap (λ (l : List ℕ). l ++ drop 4 bytes) closed.1)

  pub nothing_ahead : IsAheadOf four Nothing → IsNothingAt bytes
  nothing_ahead (inl none) =
      inl (let size : length (take 4 bytes) ≡ 0 = ap length (sym is ∙ none) in empty bytes size)
    where
      empty : (l : List ℕ) → length (take 4 l) ≡ 0 → l ≡ []
      empty [] e = refl
      empty (x ∷ l) e = absurd (omega (arith, e))
  nothing_ahead (inr few) =
      let short : length bytes ≤ 3 = omega (arith, few.0, ap length is, length-take 4 bytes) in
      let same : bytes ≡ four = sym (take_all 4 bytes (omega (arith, short))) ∙ sym is in
      let split = same ∙ few.1.2 in
      inr (few.1.0, few.1.1, split, few.1.3, no_record few.1.1 (omega (arith, ap length split, short)))

  module _ (kind size gate a b : ℕ) (split : four ≡ gate ∷ kind ∷ a ∷ b ∷ []) (is_open : gate ≡ 0 → ⊥) (says : size_of a b ≡ size) where
    front : bytes ≡ gate ∷ kind ∷ a ∷ b ∷ drop 4 bytes
    front = whole ∙ ap (λ (l : List ℕ). l ++ drop 4 bytes) split

    -- the body is not whole
    pub cut_ahead : length (drop 4 bytes) < size → IsNothingAt bytes
    cut_ahead short =
        inr (gate, kind ∷ a ∷ b ∷ drop 4 bytes, front, is_open, ap (λ (n : ℕ). body_cut kind n (drop 4 bytes)) says ∙ no_body kind size (drop 4 bytes) short)

    -- .. or it is
    pub record_ahead : (body : List ℕ) → length body ≡ size → body ≡ take size (drop 4 bytes) → IsRecordAt bytes kind body
    record_ahead body long same = record {
      gate = gate;
      a = a;
      b = b;
      rest = drop size (drop 4 bytes);
      split = front ∙ ap (λ (l : List ℕ). gate ∷ kind ∷ a ∷ b ∷ l) (sym (take-append-drop size (drop 4 bytes)) ∙ ap (λ (l : List ℕ). l ++ drop size (drop 4 bytes)) (sym same));
      is_open = is_open;
      size = says ∙ sym long;
    }

-- a buffer that was filled
pub filled_is : (k : ℕ) (buf bytes : List ℕ) → k ≤ length buf → IsFilled k buf bytes → take k buf ≡ take (length buf) bytes
filled_is k buf bytes within filled =
    filled.0 ∙ ⊎_elim
    (λ all. take_all k bytes all ∙ sym (take_all (length buf) bytes (omega (arith, all, within))))
    (λ full. (let same : k ≡ length buf = omega (arith, full, within) in ap (λ (n : ℕ). take n bytes) same))
    filled.1

-- what is no record needs no more bytes
pub ahead_is : (bytes four buf : List ℕ) (a : Ahead) → four ≡ take 4 bytes → ((kind size : ℕ) → a ≡ Record kind size → ⊥) → IsAheadOf four a → IsAhead bytes buf a
ahead_is bytes four buf Closed is other here = closed_ahead bytes four is here
ahead_is bytes four buf (Record kind size) is other here = absurd (other kind size refl)
ahead_is bytes four buf Nothing is other here = nothing_ahead bytes four is here

pub four_is : (k : ℕ) (buf bytes : List ℕ) → length buf ≡ 4 → k ≤ length buf → IsFilled k buf bytes → take k buf ≡ take 4 bytes
four_is k buf bytes four within filled = filled_is k buf bytes within filled ∙ ap (λ (n : ℕ). take n bytes) four

-- a body is read behind the four bytes
module _ (k size at : ℕ) (buf bytes : List ℕ) (long : length buf ≡ size) (filled : IsFilled k buf (drop (at + 4) bytes)) where
  behind : drop 4 (drop at bytes) ≡ drop (at + 4) bytes
  behind = drop-drop 4 at bytes

  -- there are too few bytes for it
  pub cut_short : k < size → length (drop 4 (drop at bytes)) < size
  cut_short few = ⊎_elim (λ all. omega (arith, all, few, ap length behind)) (λ full. absurd (omega (arith, full, few, long))) filled.1

  pub whole_body : (rest : List ℕ) → size ≤ k → k ≤ length buf → (length (take size (buf ++ rest)) ≡ size) × (take size (buf ++ rest) ≡ take size (drop 4 (drop at bytes)))
  whole_body rest many within =
      let body : take size (buf ++ rest) ≡ buf = take_at buf rest size long in
      let all : take k buf ≡ buf = take_all k buf (omega (arith, many, long)) in (
        ap length body ∙ long,
        body ∙ sym all ∙ filled_is k buf (drop (at + 4) bytes) within filled ∙ ap (λ (n : ℕ). take n (drop (at + 4) bytes)) long ∙ ap (take size) (sym behind),
      )
