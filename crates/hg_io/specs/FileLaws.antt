-- The file of a disk in memory is a file: a stop may leave it as it reads, and by what was done each age is told.
use Rattle.std.proofs.Common.{◌≡◌, inl, inr, ℕ, ◌+◌, ◌<◌, List, [], ◌∷◌, length, take, drop, get_or, refl, sym, ◌∙◌, subst, arith, length-take, length-drop}
use Rattle.std.proofs.lemmas.Grind.{common_steps}
use Rattle.std.proofs.lemmas.List.{take_all}
use Rattle.std.specs.List.{fold}
use Rattle.hg_io.specs.DiskState.{DiskState, file_of, pending_of, reads}
use Rattle.hg_io.specs.FileView.{IsFile, IsOutside, unknown, with_piece}
use Rattle.hg_io.specs.Pending.{DiskCall, IsImage, Pending, after_call, at_rest, pending}
use Rattle.hg_io.specs.Pending.DiskCall.{Wrote, Synced}

pub length-with_piece : (at : ℕ) (piece bytes : List ℕ) → length (with_piece at piece bytes) ≡ length (take at bytes) + length piece + length (drop (at + length piece) bytes)
length-with_piece at piece bytes = grind (arith, common_steps)

-- a byte that the piece does not cover stays
pub uncovered : (at : ℕ) (piece bytes : List ℕ) (place : ℕ) → place < length bytes → IsOutside at (length piece) place
    → get_or (with_piece at piece bytes) place 0 ≡ get_or bytes place 0
uncovered at piece bytes place within (inl front) = grind (arith, common_steps)
uncovered at piece bytes place within (inr behind) = grind (arith, common_steps)

image_after : (p : Pending) (call : DiskCall) → IsImage p p.reads → IsImage (after_call p call) (after_call p call).reads
image_after p (Wrote at piece) image = record {
  no_shorter = omega (arith, image.no_shorter, length-with_piece at piece p.reads, length-take at p.reads, length-drop (at + length piece) p.reads);
  no_longer = omega arith;
  same = λ place within unwritten. uncovered at piece p.reads place (omega (arith, within, image.no_shorter)) unwritten.0 ∙ image.same place within unwritten.1;
}
image_after p Synced image = record { no_shorter = omega arith; no_longer = omega arith; same = λ place within unwritten. refl }

image_on : (p : Pending) (done : List DiskCall) → IsImage p p.reads → IsImage (fold after_call p done) (fold after_call p done).reads
image_on p [] image = image
image_on p (call ∷ done) image = image_on (after_call p call) done (image_after p call image)

-- a stop may leave the file as it reads
pub image_reads : (first : List ℕ) (done : List DiskCall) → IsImage (pending first done) (pending first done).reads
unfolding pending
image_reads first done = image_on (at_rest first) done (record { no_shorter = omega arith; no_longer = omega arith; same = λ place within unwritten. refl })

-- .. or as it was synced
pub image_synced : (first : List ℕ) (done : List DiskCall) → IsImage (pending first done) (pending first done).synced
image_synced first done = record { no_shorter = omega arith; no_longer = (image_reads first done).no_shorter; same = λ place within unwritten. refl }

pub is_file : (d : DiskState) → IsFile (file_of d)
is_file d = record {
  as_read = λ bytes told. (let same : reads d ≡ bytes = cc in subst (IsImage (pending_of d)) same (image_reads d.first d.done));
  now = λ age left before image.
      (length d.done, before, omega arith, subst (λ (calls : List DiskCall). IsImage (pending d.first calls) left) (sym (take_all (length d.done) d.done (omega arith))) image);
  last = λ left since. subst (λ (calls : List DiskCall). IsImage (pending d.first calls) left) (take_all since.0 d.done since.1) since.3;
  longer = λ age later left before since. (since.0, omega (arith, before, since.1), since.2, since.3);
}

pub unknown_is_file : IsFile unknown
unknown_is_file = record { as_read = λ bytes told. tt; now = λ age left before may. tt; last = λ left since. tt; longer = λ age later left before since. tt }
