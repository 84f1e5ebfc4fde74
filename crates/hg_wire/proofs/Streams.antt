-- A stream that comes in pieces
use Rattle.std.proofs.Common.{◌≡◌, ℕ, zero, suc, ◌+◌, ◌<◌, ◌≤◌, List, [], ◌∷◌, ◌++◌, length, get_or, take, drop, Result, Ok, Err, sym, ap, subst, ◌∙◌, append_assoc, arith}
use Rattle.std.specs.Prelude.{IfOk}
use Rattle.std.specs.Global.{Vec}
use Rattle.std.specs.List.{flat_map}
use Rattle.std.proofs.lemmas.List.{append-nil, append_cancel_right, drop_more, take-append-drop, take_more}
use Rattle.std.proofs.lemmas.Grind.{flat_map-append}
use Rattle.hg_wire.specs.declared.message.Want.{Want}
use Rattle.hg_wire.specs.declared.message.Message.{Message}
use Rattle.hg_wire.specs.declared.message.Fed.{Fed}
use Rattle.hg_wire.specs.declared.message.Fed.TheVariants.{More, Whole, Refused}
use Rattle.hg_wire.specs.Outcome.{Outcome, Unfinished, Finished, Stands}
use Rattle.hg_wire.specs.Reading.{read}
use Rattle.hg_wire.specs.Grammar.{AreBytes, Begins}
use Rattle.hg_wire.specs.Laws.{EndsIn, IsFirst, Says}
use Rattle.hg_wire.specs.Ears.{Answers, HasHeard, Place, means}
use Rattle.hg_wire.proofs.Stable.{read_stable}
use Rattle.hg_wire.proofs.Again.{message_read}
use Rattle.hg_wire.proofs.Bytes.{both_fit}
use Rattle.hg_wire.proofs.Found.{read_message}
use Rattle.hg_wire.proofs.Steps.{same_value}

pub begun : (w : Want) (stream : List ℕ) (m : Message) (rest : List ℕ) → Begins w stream m rest → read w stream ≡ Finished m rest
begun w stream m rest begins = ap (read w) begins.whole ∙ message_read w begins.text rest m begins.is

the_first : (w : Want) (stream : List ℕ) (answer : Fed) → Says (read w stream) answer → IsFirst w stream answer
the_first w stream More says = λ m rest begins. let e = sym says ∙ begun w stream m rest begins in cc e
the_first w stream (Whole m used) says = λ n rest begins.
    same_value n m rest says.0 (sym (begun w stream n rest begins) ∙ says.1)
the_first w stream (Refused fault) says = λ m rest begins. let e = sym says ∙ begun w stream m rest begins in cc e

pub IfOk-first : {E : Type 0} (w : Want) (stream : List ℕ) (r : Result Fed E) → IfOk r (Says (read w stream)) → IfOk r (IsFirst w stream)
IfOk-first w stream (Ok answer) says = the_first w stream answer says
IfOk-first w stream (Err e) says = tt

abbrev flat : List (Vec ℕ) → List ℕ
flat pieces = flat_map (λ piece. piece.items) pieces

pieces_more : (pieces : List (Vec ℕ)) (i : ℕ) (x : Vec ℕ) → i < length pieces → get_or pieces i x ≡ x → flat (take (i + 1) pieces) ≡ flat (take i pieces) ++ x.items
pieces_more pieces i x lt is =
    ap flat (take_more pieces i x lt) ∙ flat_map-append (λ (piece : Vec ℕ). piece.items) (take i pieces) (get_or pieces i x ∷ [])
    ∙ ap (λ (v : Vec ℕ). flat (take i pieces) ++ (v.items ++ [])) is ∙ ap (λ (t : List ℕ). flat (take i pieces) ++ t) (append-nil x.items)

pieces_all : (pieces : List (Vec ℕ)) (i : ℕ) (x : Vec ℕ) → i < length pieces → get_or pieces i x ≡ x → flat pieces ≡ flat (take i pieces) ++ (x.items ++ flat (drop (i + 1) pieces))
pieces_all pieces i x lt is =
    ap flat (sym (take-append-drop (i + 1) pieces)) ∙ flat_map-append (λ (piece : Vec ℕ). piece.items) (take (i + 1) pieces) (drop (i + 1) pieces)
    ∙ ap (λ (t : List ℕ). t ++ flat (drop (i + 1) pieces)) (pieces_more pieces i x lt is) ∙ append_assoc (flat (take i pieces)) x.items (flat (drop (i + 1) pieces))

-- an ear that has heard some pieces, and the next
pub heard_more : (w : Want) (pieces : List (Vec ℕ)) (i : ℕ) (x : Vec ℕ) (ear new : Place) (piece : List ℕ) → i < length pieces → get_or pieces i x ≡ x → piece ≡ x.items
    → HasHeard w (flat (take i pieces)) ear → ((more : List ℕ) → means new more ≡ means ear (piece ++ more)) → HasHeard w (flat (take (i + 1) pieces)) new
heard_more w pieces i x ear new piece lt is same heard goes more =
    goes more ∙ heard (piece ++ more) ∙ ap (read w)
    (sym (append_assoc (flat (take i pieces)) piece more) ∙ ap (λ (t : List ℕ). (flat (take i pieces) ++ t) ++ more) same ∙ ap (λ (t : List ℕ). t ++ more) (sym (pieces_more pieces i x lt is)))

-- a message or a fault that came with a piece is that of the stream
pub heard_all : (w : Want) (pieces : List (Vec ℕ)) (i : ℕ) (x : Vec ℕ) (ear : Place) (piece : List ℕ) (o : Outcome Message) → i < length pieces → get_or pieces i x ≡ x → piece ≡ x.items
    → HasHeard w (flat (take i pieces)) ear → means ear piece ≡ o → Stands (flat (drop (i + 1) pieces)) o (read w (flat pieces))
heard_all w pieces i x ear piece o lt is same heard e =
    let so_far = flat (take i pieces) ++ piece in
    let left = flat (drop (i + 1) pieces) in
    let whole : flat pieces ≡ so_far ++ left =
    pieces_all pieces i x lt is ∙ ap (λ (t : List ℕ). flat (take i pieces) ++ (t ++ left)) (sym same) ∙ sym (append_assoc (flat (take i pieces)) piece left) in
    subst (λ (t : List ℕ). Stands left o (read w t)) (sym whole)
    (subst (λ (o : Outcome Message). Stands left o (read w (so_far ++ left))) (sym (heard piece) ∙ e) (read_stable w so_far left))

-- no message ends where a piece begins: it would have been whole before
none_used : (w : Want) (so_far piece : List ℕ) (m : Message) → AreBytes (so_far ++ piece) → read w so_far ≡ Unfinished → read w (so_far ++ piece) ≡ Finished m piece → ⊥
none_used w so_far piece m fit waits e =
    let begins = read_message w (so_far ++ piece) m piece fit e in
    let same : so_far ≡ begins.text = append_cancel_right so_far begins.text piece begins.whole in
    let whole = sym waits ∙ ap (read w) (same ∙ sym (append-nil begins.text)) ∙ message_read w begins.text [] m begins.is in
    cc whole

some_used : (w : Want) (so_far piece : List ℕ) (m : Message) (used : ℕ) → AreBytes (so_far ++ piece) → read w so_far ≡ Unfinished
    → read w (so_far ++ piece) ≡ Finished m (drop used piece) → 0 < used
some_used w so_far piece m zero fit waits e = absurd (none_used w so_far piece m fit waits e)
some_used w so_far piece m (suc used) fit waits e = omega arith

-- where a message ends that came with a piece
pub ends_in : (w : Want) (pieces : List (Vec ℕ)) (i : ℕ) (x : Vec ℕ) (ear : Place) (piece : List ℕ) (m : Message) (used : ℕ) → i < length pieces → get_or pieces i x ≡ x → piece ≡ x.items
    → HasHeard w (flat (take i pieces)) ear → means ear [] ≡ Unfinished → AreBytes (flat (take i pieces)) → AreBytes piece
    → Answers piece (means ear piece) (Whole m used) → EndsIn w pieces m used
ends_in w pieces i x ear piece m used lt is same heard waits fit piece_fit (within, e) =
    let so_far = flat (take i pieces) in
    let waited = ap (read w) (sym (append-nil so_far)) ∙ sym (heard []) ∙ waits in record {
      before = take i pieces;
      piece = x;
      after = drop (i + 1) pieces;
      whole = sym (take-append-drop i pieces) ∙ ap (λ (t : List (Vec ℕ)). take i pieces ++ t) (drop_more pieces i x lt ∙ ap (λ (v : Vec ℕ). v ∷ drop (i + 1) pieces) is);
      some = some_used w so_far piece m used (both_fit so_far piece fit piece_fit) waited (sym (heard piece) ∙ e);
      within = subst (λ (t : List ℕ). used ≤ length t) same within;
      behind = heard_all w pieces i x ear piece (Finished m (drop used piece)) lt is same heard e ∙ ap (λ (t : List ℕ). Finished m (drop used t ++ flat (drop (i + 1) pieces))) same;
    }

-- the pieces so far are bytes
pub pieces_fit : (pieces : List (Vec ℕ)) (i : ℕ) (x : Vec ℕ) (piece : List ℕ) → i < length pieces → get_or pieces i x ≡ x → piece ≡ x.items
    → AreBytes (flat (take i pieces)) → AreBytes piece → AreBytes (flat (take (i + 1) pieces))
pieces_fit pieces i x piece lt is same fit piece_fit =
    subst (λ (t : List ℕ). AreBytes t) (ap (λ (t : List ℕ). flat (take i pieces) ++ t) same ∙ sym (pieces_more pieces i x lt is)) (both_fit (flat (take i pieces)) piece fit piece_fit)
