-- What a disk in memory keeps, after one call more.
use Rattle.std.proofs.Common.{◌≡◌, ℕ, suc, ◌+◌, ◌≤◌, List, [], ◌∷◌, ◌++◌, length, take, drop, refl, sym, ◌∙◌, ap, arith, length-append, length-drop}
use Rattle.std.proofs.lemmas.List.{take_all, take-append-le, drop-append-le}
use Rattle.std.proofs.lemmas.List.Sums.{fold-append}
use Rattle.hg_io.specs.FileView.{with_piece}
use Rattle.hg_io.specs.Pending.{DiskCall, Pending, after_call, at_rest, pending}
use Rattle.hg_io.specs.Pending.DiskCall.{Wrote, Synced}
use Rattle.hg_io.specs.Recorded.{IsRecorded, calls_of, written_len}
use Rattle.hg_io.specs.declared.disk_mem.Done.{Done}
use Rattle.hg_io.specs.declared.disk_mem.Done.TheVariants as done

pub length-calls_of : (pieces : List ℕ) (calls : List Done) → length (calls_of pieces calls) ≡ length calls
length-calls_of pieces [] = refl
length-calls_of pieces (done.Wrote at len ∷ calls) = ap suc (length-calls_of (drop len pieces) calls)
length-calls_of pieces (done.Synced ∷ calls) = ap suc (length-calls_of pieces calls)

pub pending_more : (first : List ℕ) (calls : List DiskCall) (call : DiskCall) → pending first (calls ++ call ∷ []) ≡ after_call (pending first calls) call
unfolding pending
pending_more first calls call = fold-append after_call (at_rest first) calls (call ∷ [])

-- a piece behind the others, which the last call wrote
pub calls_wrote : (pieces piece : List ℕ) (calls : List Done) (at : ℕ) → length pieces ≡ written_len calls
    → calls_of (pieces ++ piece) (calls ++ done.Wrote at (length piece) ∷ []) ≡ calls_of pieces calls ++ Wrote at piece ∷ []
calls_wrote [] piece [] at whole = ap (λ (l : List ℕ). Wrote at l ∷ []) (take_all (length piece) piece (omega arith))
calls_wrote (x ∷ pieces) piece [] at whole = absurd (omega (arith, whole))
calls_wrote pieces piece (done.Wrote before len ∷ calls) at whole =
    let fits : len ≤ length pieces = omega (arith, whole) in
    let rest = calls_wrote (drop len pieces) piece calls at (omega (arith, whole, length-drop len pieces)) in
    let behind = ap (λ (l : List ℕ). calls_of l (calls ++ done.Wrote at (length piece) ∷ [])) (drop-append-le len pieces piece fits) ∙ rest in
    λ i. Wrote before (take-append-le len pieces piece fits i) ∷ behind i
calls_wrote pieces piece (done.Synced ∷ calls) at whole = ap (λ (l : List DiskCall). Synced ∷ l) (calls_wrote pieces piece calls at whole)

written_len-wrote : (calls : List Done) (at len : ℕ) → written_len (calls ++ done.Wrote at len ∷ []) ≡ written_len calls + len
written_len-wrote [] at len = omega arith
written_len-wrote (done.Wrote before n ∷ calls) at len = omega (arith, written_len-wrote calls at len)
written_len-wrote (done.Synced ∷ calls) at len = written_len-wrote calls at len

pub recorded_wrote : (first now kept pieces piece : List ℕ) (calls : List Done) (at : ℕ) → IsRecorded first now kept pieces calls
    → IsRecorded first (with_piece at piece now) kept (pieces ++ piece) (calls ++ done.Wrote at (length piece) ∷ [])
recorded_wrote first now kept pieces piece calls at so_far =
    let after = ap (pending first) (calls_wrote pieces piece calls at so_far.whole) ∙ pending_more first (calls_of pieces calls) (Wrote at piece) in
    record {
      reads = ap (with_piece at piece) so_far.reads ∙ sym (ap (λ (p : Pending). p.reads) after);
      synced = so_far.synced ∙ sym (ap (λ (p : Pending). p.synced) after);
      whole = length-append pieces piece ∙ ap (λ n. n + length piece) so_far.whole ∙ sym (written_len-wrote calls at (length piece));
    }

pub calls_synced : (pieces : List ℕ) (calls : List Done) → calls_of pieces (calls ++ done.Synced ∷ []) ≡ calls_of pieces calls ++ Synced ∷ []
calls_synced pieces [] = refl
calls_synced pieces (done.Wrote at len ∷ calls) = ap (λ (l : List DiskCall). Wrote at (take len pieces) ∷ l) (calls_synced (drop len pieces) calls)
calls_synced pieces (done.Synced ∷ calls) = ap (λ (l : List DiskCall). Synced ∷ l) (calls_synced pieces calls)

written_len-synced : (calls : List Done) → written_len (calls ++ done.Synced ∷ []) ≡ written_len calls
written_len-synced [] = refl
written_len-synced (done.Wrote at len ∷ calls) = ap (λ n. len + n) (written_len-synced calls)
written_len-synced (done.Synced ∷ calls) = written_len-synced calls

pub recorded_synced : (first now kept pieces : List ℕ) (calls : List Done) → IsRecorded first now kept pieces calls
    → IsRecorded first now now pieces (calls ++ done.Synced ∷ [])
recorded_synced first now kept pieces calls so_far =
    let after = ap (pending first) (calls_synced pieces calls) ∙ pending_more first (calls_of pieces calls) Synced in
    record {
      reads = so_far.reads ∙ sym (ap (λ (p : Pending). p.reads) after);
      synced = so_far.reads ∙ sym (ap (λ (p : Pending). p.synced) after);
      whole = so_far.whole ∙ sym (written_len-synced calls);
    }

-- a disk of which nothing is pending
pub recorded_at_rest : (bytes : List ℕ) → IsRecorded bytes bytes bytes [] []
unfolding pending
recorded_at_rest bytes = record { reads = refl; synced = refl; whole = refl }
