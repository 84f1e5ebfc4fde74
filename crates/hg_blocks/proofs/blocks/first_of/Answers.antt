use Rattle.std.proofs.Common.{sym, ◌∙◌}
use Rattle.std.proofs.lemmas.List.{length-take-le}
use Rattle.hg_blocks.proofs.JoinedLaws.{whole_within, open_within, first_joined}
use Rattle.hg_blocks.proofs.blocks.first_of.Goals as goal

pub chunk-open-requires-clause-place : goal.chunk-open-requires-clause-place
chunk-open-requires-clause-place g c =
    rw c.saturating_sub-whole.ensures (whole_within c.args.sealed.now c.args.tail.now c.requires.few c.args.len c.requires.within)

pub slice_bounds-shared-end : goal.slice_bounds-shared-end
slice_bounds-shared-end g c =
    sym (length-take-le _ _ (rw c.saturating_sub-whole.ensures (whole_within c.args.sealed.now c.args.tail.now c.requires.few c.args.len c.requires.within)))

pub slice_bounds-result-length : goal.slice_bounds-result-length
slice_bounds-result-length g c =
    sym (length-take-le _ _ (rw (c.chunk-open.ensures, c.saturating_sub-whole.ensures) (open_within c.args.sealed.now c.args.tail.now c.requires.few c.args.len c.requires.within)))

pub returns-clause-value : goal.returns-clause-value
returns-clause-value g c =
    rw (c.in_ok-shared.ensures.items, c.chunk-open.ensures, c.saturating_sub-whole.ensures) (first_joined c.args.sealed.now c.args.tail.now c.requires.few c.args.len c.requires.within)

pub returns-clause-sealed : goal.returns-clause-sealed
returns-clause-sealed g c =
    c.in_ok-shared.ensures.len
    ∙ rw c.saturating_sub-whole.ensures (length-take-le _ _ (whole_within c.args.sealed.now c.args.tail.now c.requires.few c.args.len c.requires.within))
