-- One text after the other, by a page.
use Rattle.std.proofs.Common.{◌≡◌, ℕ, ◌≤◌, List, [], ◌++◌, length, Option, option_map, take, drop, refl, sym, ap, subst, ◌∙◌, append_assoc, append-nil, length-append, length-drop, arith, None, Some, Result, Ok, Err, IsErr, false, true}
use Rattle.std.proofs.Math.Seq.{take-append_seam}
use Rattle.std.proofs.lemmas.List.{take-append-drop}
use Rattle.hg_io.specs.Bytes.{Appends, AppendsPart}
use Rattle.hg_io.specs.Faults.{Rose}
use Rattle.hg_io.specs.Printing.{Desk, IsPut, IsPutUpTo, IsStopped, Puts, Prints, desk}
use Rattle.hg_io.specs.declared.sink.Sink as sink
use Rattle.hg_io.proofs.Appended.{option_map-append}

-- two pieces that are cut off a list, one after the other
cut_twice : (held s t sent between rest more : List ℕ) → held ++ s ≡ sent ++ between → between ++ t ≡ more ++ rest
    → held ++ (s ++ t) ≡ (sent ++ more) ++ rest
cut_twice held s t sent between rest more first second =
    sym (append_assoc held s t) ∙ ap (λ xs. xs ++ t) first ∙ append_assoc sent between t ∙ ap (λ xs. sent ++ xs) second ∙ sym (append_assoc sent more rest)

append_twice : (a b c : Option (List ℕ)) (x y : List ℕ) → Appends a b x → Appends b c y → Appends a c (x ++ y)
append_twice a b c x y first second = second ∙ ap (option_map (λ held. held ++ y)) first ∙ option_map-append a x y

pub puts_then : {a b c : Desk} {s t : List ℕ} → IsPut a b s → IsPut b c t → IsPut a c (s ++ t)
puts_then {a} {b} {c} {s} {t} first second = record {
  sent = first.sent ++ second.sent;
  split = cut_twice a.held s t first.sent b.held c.held second.sent first.split second.split;
  written = append_twice a.written b.written c.written first.sent second.sent first.written second.written;
  faults = omega (arith, first.faults, second.faults);
}

pub stops_then : {a b c : Desk} {s t : List ℕ} → IsPut a b s → IsStopped b c t → IsStopped a c (s ++ t)
stops_then {a} {b} {c} {s} {t} first second = record {
  sent = first.sent ++ second.sent;
  unsent = second.unsent;
  some = second.some;
  split = cut_twice a.held s t first.sent b.held second.unsent second.sent first.split second.split;
  written = append_twice a.written b.written c.written first.sent second.sent first.written second.written;
  rose = omega (arith, first.faults, second.rose);
  faults = omega (arith, first.faults, second.faults);
  empty = second.empty;
}

-- what stopped a text stops a longer one
pub stops_before : {a b : Desk} {s : List ℕ} (t : List ℕ) → IsStopped a b s → IsStopped a b (s ++ t)
stops_before {a} {b} {s} t first = record {
  sent = first.sent;
  unsent = first.unsent ++ t;
  some = rw (length-append first.unsent t) (omega (arith, first.some));
  split = sym (append_assoc a.held s t) ∙ ap (λ xs. xs ++ t) first.split ∙ append_assoc first.sent first.unsent t;
  written = first.written;
  rose = first.rose;
  faults = first.faults;
  empty = first.empty;
}

append_nothing : (matches : Option (List ℕ)) → Appends matches matches []
append_nothing None = refl
append_nothing (Some held) = ap (λ (h : List ℕ). Some h) (sym (append-nil held))

-- nothing is told by doing nothing
pub puts_nothing : (a : Desk) → IsPut a a []
puts_nothing a = record {
  sent = [];
  split = append-nil a.held;
  written = append_nothing a.written;
  faults = omega arith;
}

pub stops_straight : (a b : Desk) (piece : List ℕ) → a.held ≡ [] → AppendsPart a.written b.written piece → Rose a.faults b.faults → a.faults ≤ b.faults → b.held ≡ [] → IsStopped a b piece
stops_straight a b piece none part rose faults empty = record {
  sent = take part.0 piece;
  unsent = drop part.0 piece;
  some = rw (length-drop part.0 piece) (omega (arith, part.1));
  split = rw none (sym (take-append-drop part.0 piece));
  written = part.2;
  rose = rose;
  faults = faults;
  empty = empty;
}

-- a front that was written of what was held stops any text
pub stops_sending : (a b : Desk) (text : List ℕ) → AppendsPart a.written b.written a.held → Rose a.faults b.faults → a.faults ≤ b.faults → b.held ≡ [] → IsStopped a b text
stops_sending a b text part rose faults empty = record {
  sent = take part.0 a.held;
  unsent = drop part.0 a.held ++ text;
  some = rw (length-append (drop part.0 a.held) text, length-drop part.0 a.held) (omega (arith, part.1));
  split = ap (λ xs. xs ++ text) (sym (take-append-drop part.0 a.held)) ∙ append_assoc (take part.0 a.held) (drop part.0 a.held) text;
  written = part.2;
  rose = rose;
  faults = faults;
  empty = empty;
}

-- a page that was sent, and then a text
sent_first : (held text sent rest : List ℕ) → text ≡ sent ++ rest → held ++ text ≡ (held ++ sent) ++ rest
sent_first held text sent rest split = ap (λ xs. held ++ xs) split ∙ sym (append_assoc held sent rest)

pub puts_after_sending : (a b c : Desk) (text : List ℕ) → Appends a.written b.written a.held → a.faults ≤ b.faults → b.held ≡ [] → IsPut b c text → IsPut a c text
puts_after_sending a b c text written faults empty second = record {
  sent = a.held ++ second.sent;
  split = sent_first a.held text second.sent c.held (rw empty at second.split);
  written = append_twice a.written b.written c.written a.held second.sent written second.written;
  faults = omega (arith, faults, second.faults);
}

pub stops_after_sending : (a b c : Desk) (text : List ℕ) → Appends a.written b.written a.held → a.faults ≤ b.faults → b.held ≡ [] → IsStopped b c text → IsStopped a c text
stops_after_sending a b c text written faults empty second = record {
  sent = a.held ++ second.sent;
  unsent = second.unsent;
  some = second.some;
  split = sent_first a.held text second.sent second.unsent (rw empty at second.split);
  written = append_twice a.written b.written c.written a.held second.sent written second.written;
  rose = omega (arith, faults, second.rose);
  faults = omega (arith, faults, second.faults);
  empty = second.empty;
}

-- what stopped a text is a front of it, behind what was held
pub part_of_stop : (a b : Desk) (text : List ℕ) → IsStopped a b text → AppendsPart a.written b.written (a.held ++ text)
part_of_stop a b text stop = (
  length stop.sent,
  rw (stop.split, length-append stop.sent stop.unsent) (omega (arith, stop.some)),
  rw (stop.split, take-append_seam stop.sent stop.unsent) stop.written,
)

-- ---- a page that begins with nothing, and is sent at the end

pub stopped_part : (a b : Desk) (text : List ℕ) → a.held ≡ [] → IsStopped a b text → AppendsPart a.written b.written text
stopped_part a b text none stop = rw none at (part_of_stop a b text stop)

pub printed_by_page : {S T E : Type 0} (K : sink.Ghosts S) (first middle last : S) (none held text : List ℕ) (r : Result T E) → none ≡ []
    → IsPut (desk K first none) (desk K middle held) text → Prints K middle last held r → Prints K first last text r
printed_by_page K first middle last none held text (Ok x) empty put matches =
    let whole : text ≡ put.sent ++ held = rw empty at put.split in
    (rw whole (append_twice (K.written first) (K.written middle) (K.written last) put.sent held put.written matches.0), omega (arith, put.faults, matches.1))
printed_by_page K first middle last none held text (Err e) empty put matches =
    let a = desk K first none in
    let b = desk K middle held in
    let c = desk K last [] in
    let stop : IsStopped a c (text ++ []) = stops_then put (stops_sending b c [] matches.0 matches.1 matches.2 refl) in
    (rw (append-nil text) at (stopped_part a c (text ++ []) empty stop), stop.rose, stop.faults)

-- ---- a text piece by piece

pub none_put : (a : Desk) (text : List ℕ) → IsPutUpTo a a text text
none_put a text = record { done = []; put = puts_nothing a; whole = refl }

pub more_put : (a b c : Desk) (s before left text : List ℕ) → before ≡ s ++ left → IsPutUpTo a b before text → IsPut b c s → IsPutUpTo a c left text
more_put a b c s before left text split so_far next = record {
  done = so_far.done ++ s;
  put = puts_then so_far.put next;
  whole = append_assoc so_far.done s left ∙ ap (λ xs. so_far.done ++ xs) (sym split) ∙ so_far.whole;
}

pub all_put : (a b : Desk) (text : List ℕ) → IsPutUpTo a b [] text → IsPut a b text
all_put a b text so_far = subst (IsPut a b) (sym (append-nil so_far.done) ∙ so_far.whole) so_far.put

pub stopped_within : (a b c : Desk) (s before left text : List ℕ) → before ≡ s ++ left → IsPutUpTo a b before text → IsStopped b c s → IsStopped a c text
stopped_within a b c s before left text split so_far stop =
    subst (IsStopped a c) (ap (λ xs. so_far.done ++ xs) (sym split) ∙ so_far.whole) (stops_then so_far.put (stops_before left stop))

-- a call that failed
pub failed : {T E : Type 0} (a b : Desk) (text : List ℕ) (r : Result T E) → IsErr r → IsStopped a b text → Puts a b text r
failed a b text (Ok x) fails stop =
    let bad : false ≡ true = fails in
    cc
failed a b text (Err e) fails stop = stop
