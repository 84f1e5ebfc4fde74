use Rattle.std.proofs.Common.{◌≡◌, ◌<◌, ◌≤◌, ◌-◌, ◌∙◌, ℕ, List, [], ap, ap₂, sym, subst, length, take, get_or, slice_index, false, arith}
use Rattle.std.proofs.lemmas.List.{get_or_past}
use Rattle.std.proofs.lemmas.Bool.{eqb-true}
use Rattle.hg_model.specs.Stakes.{member_count}
use Rattle.hg_model.specs.Links.{creator}
use Rattle.hg_model.specs.Seeing.{strongly_sees}
use Rattle.hg_model.specs.Shape.{ShapeWithRoom}
use Rattle.hg_branches.specs.declared.sight.BranchSight.TheInside.{Inside}
use Rattle.hg_branches.specs.Landmarks.{LandmarkView, landmark_at, HoldsFirsts, IsNeverStrong, IsWeighed}
use Rattle.hg_branches.specs.Lines.{is_strong_by_own}
use Rattle.hg_branches.specs.Sight.{HoldsBranchSight}
use Rattle.hg_branches.proofs.LandmarkLaws.{strong_alone}
use Rattle.hg_branches.proofs.NextForkLaws.{no_fork_counted}
use Rattle.hg_branches.proofs.ReachedLaws.{strong_by_taken}
use Rattle.hg_branches.proofs.LineSeenLaws.{count_small}
use Rattle.hg_branches.proofs.sight.BranchSightSight.strongly_sees.Goals as goal
use Rattle.hg_branches.proofs.sight.BranchSightSight.strongly_sees.Goals.{then-len, else-len}

-- what row x counts
abbrev row_at : Inside → ℕ → List ℕ
row_at s x = get_or s.counts.rows x []

-- it counts the members' own branches alone
abbrev IsAlone : Inside → ℕ → Type 0
IsAlone s x = (b : ℕ) → member_count s.stakes ≤ b → b < length s.makers.items → get_or (row_at s x) b 0 ≡ 0

-- the landmark of row y
abbrev mark : Inside → ℕ → LandmarkView
mark s y = landmark_at s.landmarks.items (slice_index s.numbers.items y - 1)

has_firsts : (s : Inside) → HoldsBranchSight s → (y : ℕ) → 0 < slice_index s.numbers.items y → HoldsFirsts s.stakes s.links.items s.branches.items s.makers.items (mark s y)
has_firsts s held y some =
    held.landmarks.each (slice_index s.numbers.items y - 1)
    (let le : slice_index s.numbers.items y ≤ length s.landmarks.items = (held.landmarks.by_place y some).0 in omega arith)

-- it tells whether x strongly sees y
told : (s : Inside) → HoldsBranchSight s → (x y : ℕ) → x < length s.links.items → 0 < slice_index s.numbers.items y → IsAlone s x →
    is_strong_by_own s.stakes (mark s y).firsts (row_at s x) ≡ strongly_sees s.stakes s.links.items x y
told s held x y left some alone =
    let free = no_fork_counted s.stakes s.links.items s.branches.items s.makers.items s.ends.items held.branches s.counts.rows held.counts x (creator s.links.items y) left alone in
    strong_alone s.stakes s.links.items s.branches.items s.makers.items s.ends.items held.branches s.counts.rows held.counts x y left free (mark s y) (has_firsts s held y some)
    (held.landmarks.by_place y some).1 alone

pub is_young-requires : goal.is_young-requires
is_young-requires c =
    let s = c.self.inside in
    let number = c.count_at-number.ensures ∙ ap (λ (ns : List ℕ). slice_index ns c.args.y) c.deref.ensures.value in
    let mark_is : c.landmark_of-landmark.result.now ≡ mark s c.args.y =
    c.landmark_of-landmark.ensures ∙ ap₂ (λ (landmarks : List LandmarkView) (j : ℕ). landmark_at landmarks (j - 1)) c.deref-then-is_own.ensures.value number in
    let holds = has_firsts s c.self.invariant c.args.y (let some = c.if-number-gt0.true in omega arith) in
    subst (IsWeighed s.stakes) (sym mark_is) holds.weighed

pub returns-then-is_young : goal.returns-then-is_young
returns-then-is_young c =
    let s = c.self.inside in
    let held = c.self.invariant in
    let x = c.args.x in
    let y = c.args.y in
    let left : x < length s.links.items = subst (λ (g : ShapeWithRoom). x < length g.shape.links) (sym c.self.view_is) c.requires.left in
    -- either there are no other branches, or the row ends where they begin
    let alone : IsAlone s x = elim c.if-len.branch [
      | then-len w ↦ (λ b past low. absurd (omega (arith, past, low, w.if-len.true)))
      | else-len w ↦ (λ b past low. get_or_past (row_at s x) b 0
          (omega (arith, past, held.counts_members, eqb-true (length (row_at s x)) s.counts.members (sym w.is_own.ensures ∙ (sym w.value-is ∙ c.if-is_own.true)))))
    ] in
    let number = c.count_at-number.ensures ∙ ap (λ (ns : List ℕ). slice_index ns y) c.deref.ensures.value in
    let mark_is : c.landmark_of-landmark.result.now ≡ mark s y =
    c.landmark_of-landmark.ensures ∙ ap₂ (λ (landmarks : List LandmarkView) (j : ℕ). landmark_at landmarks (j - 1)) c.deref-then-is_own.ensures.value number in
    let low : (b : ℕ) → b < member_count s.stakes → slice_index (row_at s x) b < (mark s y).none = λ b member.
    let small : slice_index (row_at s x) b ≤ length s.links.items =
    count_small s.stakes s.links.items s.branches.items s.makers.items s.ends.items held.branches s.counts.rows held.counts x b left in
    let holds = has_firsts s held y (let some = c.if-number-gt0.true in omega arith) in
    let short = holds.short in
    omega arith in
    let never : IsNeverStrong s.stakes (mark s y) = subst (IsNeverStrong s.stakes) mark_is (c.is_young.ensures.never c.if-is_young.true) in
    subst (λ (g : ShapeWithRoom). false ≡ strongly_sees g.shape.members g.shape.links x y) c.self.view_is
    (sym (never (row_at s x) low) ∙ told s held x y left (let some = c.if-number-gt0.true in omega arith) alone)

pub returns-then-is_own : goal.returns-then-is_own
returns-then-is_own c =
    let s = c.self.inside in
    let held = c.self.invariant in
    let x = c.args.x in
    let y = c.args.y in
    let left : x < length s.links.items = subst (λ (g : ShapeWithRoom). x < length g.shape.links) (sym c.self.view_is) c.requires.left in
    let alone : IsAlone s x = elim c.if-len.branch [
      | then-len w ↦ (λ b past low. absurd (omega (arith, past, low, w.if-len.true)))
      | else-len w ↦ (λ b past low. get_or_past (row_at s x) b 0
          (omega (arith, past, held.counts_members, eqb-true (length (row_at s x)) s.counts.members (sym w.is_own.ensures ∙ (sym w.value-is ∙ c.if-is_own.true)))))
    ] in
    let number = c.count_at-number.ensures ∙ ap (λ (ns : List ℕ). slice_index ns y) c.deref.ensures.value in
    let mark_is : c.landmark_of-landmark.result.now ≡ mark s y =
    c.landmark_of-landmark.ensures ∙ ap₂ (λ (landmarks : List LandmarkView) (j : ℕ). landmark_at landmarks (j - 1)) c.deref-then-is_own.ensures.value number in
    subst (λ (g : ShapeWithRoom). c.is_strong_by.result ≡ strongly_sees g.shape.members g.shape.links x y) c.self.view_is
    (c.is_strong_by.ensures
    ∙ (ap₂ (λ (k : LandmarkView) (j : ℕ). is_strong_by_own s.stakes k.firsts (take j (row_at s x))) mark_is held.counts_members
    ∙ (strong_by_taken s.stakes (mark s y).firsts (row_at s x) ∙ told s held x y left (let some = c.if-number-gt0.true in omega arith) alone)))

pub returns : goal.returns
returns c = c.strongly_sees_beside.ensures
