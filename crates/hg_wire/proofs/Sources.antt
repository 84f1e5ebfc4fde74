-- A source that is read piece by piece
use Rattle.std.proofs.Common.{◌≡◌, ℕ, ◌+◌, ◌<◌, ◌≤◌, List, [], ◌++◌, length, take, drop, Option, Some, None, Result, Ok, Err, refl, sym, ap, subst, ◌∙◌, append_assoc, arith}
use Rattle.std.specs.Prelude.{option_map, IfOk, IfSome}
use Rattle.std.proofs.lemmas.List.{append-nil, length-append, nil_from_length}
use Rattle.hg_io.specs.Bytes.{IsReadOn, TakesOff}
use Rattle.hg_wire.specs.declared.message.Want.{Want}
use Rattle.hg_wire.specs.declared.message.Message.{Message}
use Rattle.hg_wire.specs.Outcome.{Outcome, Unfinished, Faulty, Finished, Stands, Reader}
use Rattle.hg_wire.specs.Reading.{head_field, magic_byte, magic_field, read}
use Rattle.hg_wire.specs.Ears.{HasHeard, Place, means, most}
use Rattle.hg_wire.specs.Receiving.{Received, Receives, Told}
use Rattle.hg_wire.specs.declared.receiving.Receipt.{Receipt}
use Rattle.hg_wire.specs.declared.receiving.Receipt.TheVariants.{Got, Failed, Ended, Wire}
use Rattle.hg_wire.proofs.Most.{read_most}
use Rattle.hg_wire.proofs.Stable.{read_stable}

-- so many bytes were read and heard
pub record IsReceiving (stream now : Reader Message) (before left : Option (List ℕ)) (at : ℕ) : Type 0 where
  pub text : List ℕ
  pub size : length text ≡ at
  pub taken : TakesOff before left text
  pub same : (more : List ℕ) → now more ≡ stream (text ++ more)

none_taken : (left : Option (List ℕ)) → TakesOff left left []
none_taken None = refl
none_taken (Some rest) = refl

-- nothing was read yet
pub receiving_none : (stream : Reader Message) (left : Option (List ℕ)) → IsReceiving stream stream left left 0
receiving_none stream left = record { text = []; size = refl; taken = none_taken left; same = λ more. refl }

-- one piece more
taken_more : (before mid after : Option (List ℕ)) (a b : List ℕ) → TakesOff before mid a → TakesOff mid after b → TakesOff before after (a ++ b)
taken_more before mid None a b first second = first ∙ ap (option_map (λ rest. a ++ rest)) second
taken_more before mid (Some rest) a b first second = first ∙ ap (option_map (λ rest. a ++ rest)) second ∙ ap (λ (t : List ℕ). Some t) (sym (append_assoc a b rest))

pub more_read : (stream now : Reader Message) (before mid after : Option (List ℕ)) (at : ℕ) (piece : List ℕ) (o : Outcome Message)
    → IsReceiving stream now before mid at → TakesOff mid after piece → now piece ≡ o → Receives stream before after o
more_read stream now before mid after at piece o r taken e =
    record { text = r.text ++ piece; taken = taken_more before mid after r.text piece r.taken taken; meant = sym (r.same piece) ∙ e }

-- what was read so far, and with one piece more
pub read_so_far : (stream now : Reader Message) (before left : Option (List ℕ)) (at : ℕ) → IsReceiving stream now before left at → IsReadOn before left
read_so_far stream now before left at r = (r.text, r.taken)

pub read_on : (stream now : Reader Message) (before mid after : Option (List ℕ)) (at : ℕ) (piece : List ℕ) → IsReceiving stream now before mid at → TakesOff mid after piece → IsReadOn before after
read_on stream now before mid after at piece r taken = (r.text ++ piece, taken_more before mid after r.text piece r.taken taken)

pub receiving_more : (stream now next : Reader Message) (before mid after : Option (List ℕ)) (at n : ℕ) (piece : List ℕ)
    → IsReceiving stream now before mid at → TakesOff mid after piece → ((more : List ℕ) → next more ≡ now (piece ++ more)) → at + length piece ≡ n → IsReceiving stream next before after n
receiving_more stream now next before mid after at n piece r taken same size = record {
  text = r.text ++ piece;
  size = omega (arith, r.size, size, length-append r.text piece);
  taken = taken_more before mid after r.text piece r.taken taken;
  same = λ more. same more ∙ r.same (piece ++ more) ∙ ap stream (sym (append_assoc r.text piece more));
}

-- what was heard of a message that is not whole is short
pub receiving_short : (w : Want) (ear : Place) (now : Reader Message) (before left : Option (List ℕ)) (at : ℕ) → HasHeard w [] ear → IsReceiving (means ear) now before left at → now [] ≡ Unfinished → at < most
receiving_short w ear now before left at new r waits =
    let e : read w r.text ≡ Unfinished = sym (new r.text) ∙ ap (means ear) (sym (append-nil r.text)) ∙ sym (r.same []) ∙ waits in
    omega (arith, r.size, read_most w r.text e)

pub read_none : (w : Want) → read w [] ≡ Unfinished
unfolding read head_field magic_field magic_byte
read_none w = refl

pub ended : (stream now : Reader Message) (before mid after : Option (List ℕ)) (at k : ℕ) (buf : List ℕ)
    → IsReceiving stream now before mid at → TakesOff mid after (take k buf) → k ≡ 0 → now [] ≡ Unfinished → (r : Receives stream before after Unfinished) × (length r.text ≡ at)
ended stream now before mid after at k buf r taken none waits =
    let nothing : take k buf ≡ [] = ap (λ (k : ℕ). take k buf) none in (
      record { text = r.text ++ take k buf; taken = taken_more before mid after r.text (take k buf) r.taken taken; meant = sym (r.same (take k buf)) ∙ ap now nothing ∙ waits },
      omega (arith, r.size, ap length nothing, length-append r.text (take k buf)),
    )

-- all of a piece is used that is no longer than what was still to come at least
pub all_used : (now : Reader Message) (piece : List ℕ) (wants used : ℕ) (m : Message) → ((rest : List ℕ) → now piece ≡ Finished m rest → wants + length rest ≤ length piece)
    → length piece ≤ wants → now piece ≡ Finished m (drop used piece) → now piece ≡ Finished m []
all_used now piece wants used m least within e =
    let none : drop used piece ≡ [] = nil_from_length (drop used piece) (omega (arith, within, least (drop used piece) e)) in
    e ∙ ap (Finished m) none

some_same : (a b : List ℕ) → Some a ≡ Some b → a ≡ b
some_same a b e = cc

nothing_left : (after : Option (List ℕ)) (rest : List ℕ) → after ≡ Some rest → IfSome after (λ rest. rest ≡ []) → rest ≡ []
nothing_left after rest e none = let P : Option (List ℕ) → Type 0 = λ o. IfSome o (λ rest. rest ≡ []) in subst P e none

split_told : (before after : Option (List ℕ)) (text bytes : List ℕ) → TakesOff before after text → before ≡ Some bytes → (rest : List ℕ) × (after ≡ Some rest) × (bytes ≡ text ++ rest)
split_told before None text bytes taken tells = let e = sym tells ∙ taken in absurd (cc e)
split_told before (Some rest) text bytes taken tells = let e = sym tells ∙ taken in (rest, refl, some_same bytes (text ++ rest) e)

stands_all : (w : Want) (ear : Place) (text rest : List ℕ) (o : Outcome Message) → HasHeard w [] ear → means ear text ≡ o → Stands rest o (means ear (text ++ rest))
stands_all w ear text rest o new e =
    subst (λ (later : Outcome Message). Stands rest o later) (sym (new (text ++ rest)))
    (subst (λ (o : Outcome Message). Stands rest o (read w (text ++ rest))) (sym (new text) ∙ e) (read_stable w text rest))

told_of : (w : Want) (ear : Place) (before after : Option (List ℕ)) (bytes : List ℕ) (receipt : Receipt) → HasHeard w [] ear → before ≡ Some bytes
    → Received (means ear) before after receipt → Told (means ear) bytes after receipt
told_of w ear before after bytes (Got m) new tells r =
    let s = split_told before after r.text bytes r.taken tells in
    (s.0, s.1, ap (means ear) s.2 ∙ stands_all w ear r.text s.0 (Finished m []) new r.meant)
told_of w ear before after bytes Failed new tells r = tt
told_of w ear before after bytes (Ended at) new tells (r, size, end) =
    let s = split_told before after r.text bytes r.taken tells in
    let none : s.0 ≡ [] = nothing_left after s.0 s.1 end in
    let all : bytes ≡ r.text = s.2 ∙ ap (λ (t : List ℕ). r.text ++ t) none ∙ append-nil r.text in
    (ap (means ear) all ∙ r.meant, ap length all ∙ size)
told_of w ear before after bytes (Wire fault) new tells r =
    let s = split_told before after r.text bytes r.taken tells in
    ap (means ear) s.2 ∙ stands_all w ear r.text s.0 (Faulty fault) new r.meant

pub IfOk-told : {E : Type 0} (w : Want) (ear : Place) (before after : Option (List ℕ)) (r : Result Receipt E) → HasHeard w [] ear
    → IfOk r (Received (means ear) before after) → (bytes : List ℕ) → before ≡ Some bytes → IfOk r (Told (means ear) bytes after)
IfOk-told w ear before after (Ok receipt) new received bytes tells = told_of w ear before after bytes receipt new tells received
IfOk-told w ear before after (Err e) new received bytes tells = tt
