-- What a stop may leave of a file in memory, after one call more.
use Rattle.std.proofs.Common.{◌≡◌, ◌⊎◌, inl, inr, ⊎_elim, ℕ, ◌+◌, ◌-◌, ◌<◌, ◌≤◌, min, Bool, true, false, List, [], ◌∷◌, ◌++◌, length, take, drop, get_or, Some, refl, sym, ◌∙◌, ap, subst, arith, length-append, length-take, length-drop}
use Rattle.std.proofs.lemmas.Bool.Decides.{leb_tells}
use Rattle.std.proofs.lemmas.Grind.{common_steps}
use Rattle.std.proofs.lemmas.List.{ext_get_or, get_or-drop, get_or-take, take-append-le, take_all}
use Rattle.hg_io.specs.DiskState.{DiskState, file_of, left_of, pending_of, reads}
use Rattle.hg_io.specs.FileLaws.{image_reads, image_synced, length-with_piece, uncovered}
use Rattle.hg_io.specs.FileView.{IsOutside, IsSynced, Leaves, Stays, Torn, TornFrom, with_piece}
use Rattle.hg_io.specs.Pending.{DiskCall, IsImage, Pending, after_call, at_rest, pending}
use Rattle.hg_io.specs.Pending.DiskCall.{Wrote, Synced}
use Rattle.hg_io.proofs.Recording.{pending_more}

covered : (at : ℕ) (piece bytes : List ℕ) (place : ℕ) → at ≤ length bytes → at ≤ place → place < at + length piece
    → get_or (with_piece at piece bytes) place 0 ≡ get_or piece (place - at) 0
covered at piece bytes place within from to = grind (arith, common_steps)

narrower : (at n m place : ℕ) → m ≤ n → IsOutside at n place → IsOutside at m place
narrower at n m place fewer (inl front) = inl front
narrower at n m place fewer (inr behind) = inr (omega (arith, fewer, behind))

where_is : (at n place : ℕ) → IsOutside at n place ⊎ ((at ≤ place) × (place < at + n))
where_is at n place =
    ⊎_elim (λ from. ⊎_elim (λ behind. inl (inr behind.1)) (λ to. inr (from.1, to.1)) (leb_tells (at + n) place)) (λ front. inl (inl front.1)) (leb_tells at place)

pub torn_same : (at n : ℕ) (bytes : List ℕ) → Torn at n bytes bytes
torn_same at n bytes = record { no_shorter = omega arith; no_longer = omega arith; same = λ place within outside. refl }

-- what is left after a write is torn from the same with the synced bytes at the written places, cut to the size before
module _ (p : Pending) (at : ℕ) (piece left : List ℕ) (grown : length p.synced ≤ length p.reads) (within : at ≤ length p.reads)
    (image : IsImage (after_call p (Wrote at piece)) left) where
  abbrev again : List ℕ
  again = take (length piece) (drop at p.synced)

  abbrev before : List ℕ
  before = take (length p.reads) (with_piece at again left)

  length-again : length again ≡ min (length piece) (length p.synced - at)
  length-again = length-take (length piece) (drop at p.synced) ∙ ap (min (length piece)) (length-drop at p.synced)

  length-before : length before ≡ min (length p.reads) (length left)
  length-before =
      let size = length-with_piece at again left in
      omega (arith, size, length-again, length-take (length p.reads) (with_piece at again left), length-take at left, length-drop (at + length again) left, image.no_shorter)

  elsewhere : (place : ℕ) → place < length before → IsOutside at (length piece) place → get_or before place 0 ≡ get_or left place 0
  elsewhere place short outside =
      get_or-take (length p.reads) (with_piece at again left) place 0 (omega (arith, short, length-before))
      ∙ uncovered at again left place (omega (arith, short, length-before)) (narrower at (length piece) (length again) place (omega (arith, length-again)) outside)

  inside : (place : ℕ) → place < length p.synced → at ≤ place → place < at + length piece → get_or before place 0 ≡ get_or p.synced place 0
  inside place short from to =
      let back : at + (place - at) ≡ place = omega (arith, from) in
      get_or-take (length p.reads) (with_piece at again left) place 0 (omega (arith, short, grown))
      ∙ covered at again left place (omega (arith, from, short, image.no_shorter)) from (omega (arith, from, to, short, length-again))
      ∙ get_or-take (length piece) (drop at p.synced) (place - at) 0 (omega (arith, from, to))
      ∙ get_or-drop at p.synced (place - at) 0
      ∙ ap (λ (k : ℕ). get_or p.synced k 0) back

  tear : Torn at (length piece) before left
  tear = record {
    no_shorter = omega (arith, length-before);
    no_longer = omega (arith, length-before, image.no_longer, length-with_piece at piece p.reads, length-take at p.reads, length-drop (at + length piece) p.reads, within);
    same = λ place short outside. sym (elsewhere place short outside);
  }

  image_before : IsImage p before
  image_before = record {
    no_shorter = omega (arith, length-before, image.no_shorter, grown);
    no_longer = omega (arith, length-before);
    same = λ place short unwritten.
        ⊎_elim
        (λ outside. elsewhere place (omega (arith, short, length-before, image.no_shorter, grown)) outside ∙ image.same place short (outside, unwritten))
        (λ there. inside place short there.0 there.1)
        (where_is at (length piece) place);
  }

  pub write_tears : (bytes : List ℕ) × IsImage p bytes × Torn at (length piece) bytes left
  write_tears = (before, image_before, tear)

-- ---- a disk that was written, or synced

module _ (d : DiskState) (call : DiskCall) where
  abbrev after : DiskState
  after = record d { done = d.done ++ call ∷ [] }

  sooner : (k : ℕ) → k ≤ length d.done → take k (d.done ++ call ∷ []) ≡ take k d.done
  sooner k before = take-append-le k d.done (call ∷ []) before

  one_more : length (d.done ++ call ∷ []) ≡ length d.done + 1
  one_more = length-append d.done (call ∷ [])

  pub more_leaves : Leaves (file_of d) (file_of after) (file_of after).may_leave
  more_leaves = record {
    older = omega (arith, one_more);
    still = λ age left before since.
        (since.0, since.1, omega (arith, since.2, one_more), subst (λ (calls : List DiskCall). IsImage (pending d.first calls) left) (sym (sooner since.0 since.2)) since.3);
    only = λ age left before since.
        ⊎_elim
        (λ early. inl (since.0, since.1, early.1, subst (λ (calls : List DiskCall). IsImage (pending d.first calls) left) (sooner since.0 early.1) since.3))
        (λ late. inr (subst (λ (calls : List DiskCall). IsImage (pending d.first calls) left) (take_all since.0 (d.done ++ call ∷ []) (omega (arith, late.1, one_more))) since.3))
        (leb_tells since.0 (length d.done));
  }

pub wrote_reads : (d : DiskState) (at : ℕ) (piece : List ℕ) → (pending d.first (d.done ++ Wrote at piece ∷ [])).reads ≡ with_piece at piece (reads d)
wrote_reads d at piece = ap (λ (p : Pending). p.reads) (pending_more d.first d.done (Wrote at piece))

pub wrote_torn : (d : DiskState) (at : ℕ) (piece : List ℕ) → at ≤ length (reads d)
    → TornFrom at (length piece) (file_of d) (file_of (record d { done = d.done ++ Wrote at piece ∷ [] }))
wrote_torn d at piece within left image =
    write_tears (pending_of d) at piece left (image_reads d.first d.done).no_shorter within
    (subst (λ (p : Pending). IsImage p left) (pending_more d.first d.done (Wrote at piece)) image)

-- a stop leaves a file of which nothing is pending as it is
rests : (bytes left : List ℕ) → IsImage (at_rest bytes) left → left ≡ bytes
rests bytes left image = ext_get_or 0 left bytes (omega (arith, image.no_shorter, image.no_longer)) (λ place short. image.same place (omega (arith, short, image.no_longer)) tt)

module _ (d : DiskState) where
  abbrev kept : DiskState
  kept = record d { done = d.done ++ Synced ∷ [] }

  at_rest_now : pending_of kept ≡ at_rest (reads d)
  at_rest_now = pending_more d.first d.done Synced

  sync_reads : reads kept ≡ reads d
  sync_reads = ap (λ (p : Pending). p.reads) at_rest_now

  leaves_reads : (left : List ℕ) → IsImage (pending_of kept) left → left ≡ reads d
  leaves_reads left image = rests (reads d) left (subst (λ (p : Pending). IsImage p left) at_rest_now image)

  fewer : (left : List ℕ) → IsImage (pending_of kept) left → IsImage (pending_of d) left
  fewer left image = subst (IsImage (pending_of d)) (sym (leaves_reads left image)) (image_reads d.first d.done)

  pub sync_synced : IsSynced (file_of kept)
  sync_synced bytes told left image = let same : reads kept ≡ bytes = cc in leaves_reads left image ∙ sym sync_reads ∙ same

  pub sync_stays : Stays (file_of d) (file_of kept)
  sync_stays =
      let goes = more_leaves d Synced in
      record {
        reads = ap (λ (bytes : List ℕ). Some bytes) sync_reads;
        fewer = fewer;
        leaves = record {
          older = goes.older;
          still = goes.still;
          only = λ age left before since.
              inl (⊎_elim (λ early. early) (λ image. (length d.done, before, omega arith, subst (λ (calls : List DiskCall). IsImage (pending d.first calls) left) (sym (take_all (length d.done) d.done (omega arith))) (fewer left image))) (goes.only age left before since));
        };
      }

-- ---- a disk that was stopped

pub reads_first : (first : List ℕ) (done : List DiskCall) → done ≡ [] → (pending first done).reads ≡ first
unfolding pending
reads_first first done none = ap (λ (calls : List DiskCall). (pending first calls).reads) none

pub rests_with : (first : List ℕ) (done : List DiskCall) → done ≡ [] → (bytes : List ℕ) → Some (pending first done).reads ≡ Some bytes
    → (left : List ℕ) → IsImage (pending first done) left → left ≡ bytes
unfolding pending
rests_with first done none bytes told left image =
    let now : pending first done ≡ at_rest first = ap (pending first) none in
    let same : (pending first done).reads ≡ bytes = cc in
    rests first left (subst (λ (p : Pending). IsImage p left) now image) ∙ sym (ap (λ (p : Pending). p.reads) now) ∙ same

pub left_is_image : (d : DiskState) (all : Bool) → IsImage (pending_of d) (left_of d all)
left_is_image d true = image_reads d.first d.done
left_is_image d false = image_synced d.first d.done
