-- The field at a place is read, from bytes that came before and from some of a piece
use Rattle.std.proofs.Common.{◌≡◌, ℕ, ◌+◌, ◌-◌, ◌<◌, ◌≤◌, List, [], ◌++◌, length, drop, refl, sym, ap, subst, ◌∙◌, append_assoc, arith}
use Rattle.std.proofs.lemmas.List.{append-nil, length-append, drop_at, drop-append-le}
use Rattle.std.proofs.Math.Seq.{drop-append-add}
use Rattle.hg_wire.specs.declared.message.Message.{Message}
use Rattle.hg_wire.specs.declared.message.WireFault.{WireFault}
use Rattle.hg_wire.specs.Outcome.{Outcome, Unfinished, Faulty, Finished, ◌>>=◌, Stands}
use Rattle.hg_wire.specs.Grammar.{AreBytes}
use Rattle.hg_wire.specs.Progress.{State, Next, Into, Done, field, finish, rest_of}
use Rattle.hg_wire.specs.Ears.{IsBehind}
use Rattle.hg_wire.proofs.Stable.{field_at_stable}
use Rattle.hg_wire.proofs.Places.{rest_field}
use Rattle.hg_wire.proofs.Took.{crosses, field_took, waits_open}

-- the bytes of the field that came before, those of the piece that are put behind them, and the others of the piece
pub record Parts (pending piece part tail : List ℕ) : Type 0 where
  pub split : piece ≡ part ++ tail
  pub fit : AreBytes (pending ++ part)

all_parts : {pending piece part tail : List ℕ} → Parts pending piece part tail → (more : List ℕ) → pending ++ (piece ++ more) ≡ (pending ++ part) ++ (tail ++ more)
all_parts {pending} {piece} {part} {tail} parts more =
    ap (λ (t : List ℕ). pending ++ (t ++ more)) parts.split ∙ ap (λ (t : List ℕ). pending ++ t) (append_assoc part tail more) ∙ sym (append_assoc pending part (tail ++ more))

-- what is to be read of a field that has this outcome
read_on : (s : State) (bytes more : List ℕ) (o : Outcome Next) → field s bytes ≡ o → Stands more o (field s (bytes ++ more))
read_on s bytes more o e = subst (λ (o : Outcome Next). Stands more o (field s (bytes ++ more))) e (field_at_stable s s.stage bytes more)

pub reads_wrong : (s : State) (pending piece part tail : List ℕ) (fault : WireFault) → Parts pending piece part tail → field s (pending ++ part) ≡ Faulty fault
    → (more : List ℕ) → rest_of s (pending ++ (piece ++ more)) ≡ Faulty fault
reads_wrong s pending piece part tail fault parts e more =
    ap (rest_of s) (all_parts parts more) ∙ rest_field s ((pending ++ part) ++ (tail ++ more))
    ∙ ap (λ (o : Outcome Next). o >>= finish) (read_on s (pending ++ part) (tail ++ more) (Faulty fault) e)

reads : (s : State) (pending piece part tail : List ℕ) (x : Next) (rest : List ℕ) → Parts pending piece part tail → field s (pending ++ part) ≡ Finished x rest
    → (more : List ℕ) → rest_of s (pending ++ (piece ++ more)) ≡ finish x ((rest ++ tail) ++ more)
reads s pending piece part tail x rest parts e more =
    ap (rest_of s) (all_parts parts more) ∙ rest_field s ((pending ++ part) ++ (tail ++ more))
    ∙ ap (λ (o : Outcome Next). o >>= finish) (read_on s (pending ++ part) (tail ++ more) (Finished x rest) e)
    ∙ ap (finish x) (sym (append_assoc rest tail more))

-- so many of the bytes put behind are left
left_of : (pending part text rest : List ℕ) → pending ++ part ≡ text ++ rest → length rest < length part → drop (length part - length rest) part ≡ rest
left_of pending part text rest whole less =
    let n = length text in
    let sizes : length pending + length part ≡ n + length rest = sym (length-append pending part) ∙ ap length whole ∙ length-append text rest in
    let front : n ≡ length pending + (length part - length rest) = omega (arith, sizes, less) in
    sym (drop-append-add pending part (length part - length rest)) ∙ ap (λ (k : ℕ). drop k (pending ++ part)) (sym front) ∙ ap (drop n) whole ∙ drop_at text rest n refl

-- what is left of the piece
pub record Left (pending piece part tail rest : List ℕ) : Type 0 where
  pub less : length rest < length part
  pub left : drop (length part - length rest) piece ≡ rest ++ tail

pub left_behind : (s : State) (pending piece part tail : List ℕ) (x : Next) (rest : List ℕ) → Parts pending piece part tail → field s pending ≡ Unfinished → field s (pending ++ part) ≡ Finished x rest
    → Left pending piece part tail rest
left_behind s pending piece part tail x rest parts waits e =
    let took = field_took s s.stage (pending ++ part) x rest parts.fit (waits_open s s.stage pending waits) e in
    let less = crosses s s.stage pending part x rest waits took in
    let within : length part - length rest ≤ length part = omega arith in
    record {
      less = less;
      left = ap (drop (length part - length rest)) parts.split ∙ drop-append-le (length part - length rest) part tail within
          ∙ ap (λ (t : List ℕ). t ++ tail) (left_of pending part took.text rest took.whole less);
    }

-- and it is a part of it
pub is_behind : (pending piece part tail rest behind : List ℕ) → piece ≡ part ++ tail → Left pending piece part tail rest → behind ≡ drop (length part - length rest) piece → IsBehind piece behind
is_behind pending piece part tail rest behind split left is =
    let same : behind ≡ rest ++ tail = is ∙ left.left in
    let size : length piece - length behind ≡ length part - length rest = omega (arith, ap length split, length-append part tail, ap length same, length-append rest tail, left.less) in (
      omega (arith, ap length split, length-append part tail, ap length same, length-append rest tail, left.less),
      ap (λ (k : ℕ). drop k piece) size ∙ sym is,
    )

pub reads_into : (s next : State) (pending piece part tail rest behind : List ℕ) → Parts pending piece part tail → field s (pending ++ part) ≡ Finished (Into next) rest
    → Left pending piece part tail rest → behind ≡ drop (length part - length rest) piece → (more : List ℕ) → rest_of next (behind ++ more) ≡ rest_of s (pending ++ (piece ++ more))
reads_into s next pending piece part tail rest behind parts e left is more =
    ap (λ (t : List ℕ). rest_of next (t ++ more)) (is ∙ left.left) ∙ sym (reads s pending piece part tail (Into next) rest parts e more)

pub reads_done : (s : State) (m : Message) (pending piece part tail rest behind : List ℕ) → Parts pending piece part tail → field s (pending ++ part) ≡ Finished (Done m) rest
    → Left pending piece part tail rest → behind ≡ drop (length part - length rest) piece → (more : List ℕ) → rest_of s (pending ++ (piece ++ more)) ≡ Finished m (behind ++ more)
reads_done s m pending piece part tail rest behind parts e left is more =
    reads s pending piece part tail (Done m) rest parts e more ∙ ap (λ (t : List ℕ). Finished m (t ++ more)) (sym (is ∙ left.left))

-- ---- a piece that is read by itself

pub own_parts : (pending piece : List ℕ) → pending ≡ [] → AreBytes piece → Parts pending piece piece []
own_parts pending piece empty fit = record { split = sym (append-nil piece); fit = subst (λ (t : List ℕ). AreBytes (t ++ piece)) (sym empty) fit }

pub own_field : (s : State) (pending piece : List ℕ) (o : Outcome Next) → pending ≡ [] → field s piece ≡ o → field s (pending ++ piece) ≡ o
own_field s pending piece o empty e = ap (λ (t : List ℕ). field s (t ++ piece)) empty ∙ e

-- what is left of it lies in it
pub own_rest : (pending piece rest : List ℕ) → Left pending piece piece [] rest → rest ≡ drop (length piece - length rest) piece
own_rest pending piece rest left = sym (left.left ∙ append-nil rest)
