use Rattle.std.proofs.Common.{◌≡◌, ◌<◌, ◌≤◌, ◌+◌, ◌-◌, ◌∙◌, ℕ, List, [], ap, ap₂, sym, subst, length, get_or, slice_index, false, arith}
use Rattle.hg_model.specs.Stakes.{Stakes, member_count, stake_of, stake_where, total}
use Rattle.hg_model.specs.Links.{Link, creator}
use Rattle.hg_model.specs.Forks.{has_fork_below}
use Rattle.hg_model.specs.Seeing.{strongly_sees, sees_through, is_supermajority}
use Rattle.hg_model.specs.Shape.{ShapeWithRoom, shape_of}
use Rattle.hg_model.proofs.PlacesLaws.{weight_below-same}
use Rattle.hg_model.specs.Counts.{numbers_of}
use Rattle.hg_bits.specs.Masks.{mask_has}
use Rattle.hg_ancestry.proofs.SeerLaws.{strong_by_members, strong_above}
use Rattle.hg_branches.specs.Rows.{RowView}
use Rattle.hg_branches.specs.Landmarks.{LandmarkView, landmark_at}
use Rattle.hg_branches.specs.Lines.{own_sees, others_see, seen_on, may_see, AreSeveral, is_strong_by_firsts}
use Rattle.hg_branches.proofs.LandmarkLaws.{strong_by_firsts, on_other, on_other_is}
use Rattle.hg_branches.proofs.LineSeenLaws.{count_small, seen_by_lines}
use Rattle.hg_branches.proofs.SeveralLaws.{first_some, not_strong}
use Rattle.hg_branches.proofs.sight.BranchSight.strongly_sees_beside.Goals as goal

pub returns-then-not-ancestor : goal.returns-then-not-ancestor
returns-then-not-ancestor c =
    sym (strong_above c.args.self.now.shape.members c.args.self.now.shape.links c.args.x c.args.y c.is_shaped.ensures.shaped.earlier (sym c.ancestor.ensures ∙ c.if-not-ancestor.true))

pub seers-seers-requires-clause-places : goal.seers-seers-requires-clause-places
seers-seers-requires-clause-places c = λ b.
    let s = c.self.inside in
    let held = c.self.invariant in
    let left : c.args.x < length s.links.items = subst (λ (g : ShapeWithRoom). c.args.x < length g.shape.links) (sym c.self.view_is) c.requires.left in
    let row = ap (λ (r : RowView). r.row) c.row_of-counts.ensures in
    subst (λ (r : List ℕ). get_or r b 0 ≤ length c.args.self.now.shape.links) (sym row)
    (subst (λ (g : ShapeWithRoom). get_or (get_or s.counts.rows c.args.x []) b 0 ≤ length g.shape.links) c.self.view_is
    (count_small s.stakes s.links.items s.branches.items s.makers.items s.ends.items held.branches s.counts.rows held.counts c.args.x b left))

pub strong_by_firsts-requires-clause-places : goal.strong_by_firsts-requires-clause-places
strong_by_firsts-requires-clause-places c = λ b.
    let s = c.self.inside in
    let held = c.self.invariant in
    let left : c.args.x < length s.links.items = subst (λ (g : ShapeWithRoom). c.args.x < length g.shape.links) (sym c.self.view_is) c.requires.left in
    let row = ap (λ (r : RowView). r.row) c.row_of-counts.ensures in
    subst (λ (r : List ℕ). get_or r b 0 ≤ length c.args.self.now.shape.links) (sym row)
    (subst (λ (g : ShapeWithRoom). get_or (get_or s.counts.rows c.args.x []) b 0 ≤ length g.shape.links) c.self.view_is
    (count_small s.stakes s.links.items s.branches.items s.makers.items s.ends.items held.branches s.counts.rows held.counts c.args.x b left))

pub returns-then-not-mask_has : goal.returns-then-not-mask_has
returns-then-not-mask_has c =
    let s = c.self.inside in
    let held = c.self.invariant in
    let x = c.args.x in
    let y = c.args.y in
    let left : x < length s.links.items = subst (λ (g : ShapeWithRoom). x < length g.shape.links) (sym c.self.view_is) c.requires.left in
    let row : c.row_of-counts.result.row ≡ get_or s.counts.rows x [] = ap (λ (r : RowView). r.row) c.row_of-counts.ensures in
    let number : c.count_at-number.result ≡ slice_index s.numbers.items y = c.count_at-number.ensures ∙ ap (λ (ns : List ℕ). slice_index ns y) c.deref.ensures.value in
    let found = held.landmarks.by_place y (let some = c.if-slot-gt0.true in omega arith) in
    let slot : ℕ = slice_index s.numbers.items y - 1 in
    let k = landmark_at s.landmarks.items slot in
    let firsts : numbers_of c.firsts_at-firsts.result ≡ k.firsts = c.firsts_at-firsts.ensures ∙ ap₂ (λ (landmarks : List LandmarkView) (j : ℕ). (landmark_at landmarks (j - 1)).firsts) c.deref-then-slot-gt0.ensures.value number in
    let free : has_fork_below s.links.items x (creator s.links.items y) ≡ false =
    subst (λ (g : ShapeWithRoom). has_fork_below g.shape.links x (creator g.shape.links y) ≡ false) (sym c.self.view_is)
    (ap (has_fork_below c.args.self.now.shape.links x) (sym c.creator-member.ensures.value) ∙ (sym (c.forked_below.ensures c.creator-member.result) ∙ (sym c.mask_has.ensures ∙ c.if-not-mask_has.true))) in
    let is_y : k.end ≡ y + 1 = found.1 in
    let holds = held.landmarks.each slot (let le : slice_index s.numbers.items y ≤ length s.landmarks.items = found.0 in omega arith) in
    let L_is : c.args.self.now.shape.links ≡ s.links.items = sym (ap (λ (g : ShapeWithRoom). g.shape.links) c.self.view_is) in
    let n_is : c.args.self.now.shape.members ≡ s.stakes = sym (ap (λ (g : ShapeWithRoom). g.shape.members) c.self.view_is) in
    let told = strong_by_firsts s.stakes s.links.items s.branches.items s.makers.items s.ends.items held.branches s.counts.rows held.counts x y left free k holds is_y in
    let beside = weight_below-same (stake_of s.stakes) (member_count s.stakes) (others_see s.links.items s.makers.items k.firsts (get_or s.counts.rows x []) y)
    (on_other s.stakes s.links.items s.branches.items s.makers.items s.ends.items held.branches s.counts.rows held.counts x y left free k holds is_y)
    (λ m h. on_other_is s.stakes s.links.items s.branches.items s.makers.items s.ends.items held.branches s.counts.rows held.counts x y left free k holds is_y m) in
    subst (λ (g : ShapeWithRoom). c.strong_by_firsts.result ≡ strongly_sees g.shape.members g.shape.links x y) c.self.view_is
    (c.strong_by_firsts.ensures
    ∙ (ap (λ (ms : List ℕ). is_strong_by_firsts c.args.self.now.shape ms (numbers_of c.firsts_at-firsts.result) c.row_of-counts.result.row y) c.deref-then-not-mask_has.ensures.value
    ∙ (ap₂ (λ (f r : List ℕ). is_strong_by_firsts c.args.self.now.shape s.makers.items f r y) firsts row
    ∙ (ap₂ (λ (n : Stakes) (L : List Link). is_strong_by_firsts (shape_of n L) s.makers.items k.firsts (get_or s.counts.rows x []) y) n_is L_is
    ∙ (ap (λ w. is_supermajority (total s.stakes) (stake_where s.stakes (own_sees k.firsts (get_or s.counts.rows x [])) + w)) beside ∙ told)))))

pub may_see-may-requires-clause-places : goal.may_see-may-requires-clause-places
may_see-may-requires-clause-places c = λ b.
    let s = c.self.inside in
    let held = c.self.invariant in
    let left : c.args.x < length s.links.items = subst (λ (g : ShapeWithRoom). c.args.x < length g.shape.links) (sym c.self.view_is) c.requires.left in
    let row = ap (λ (r : RowView). r.row) c.row_of-counts.ensures in
    subst (λ (r : List ℕ). get_or r b 0 ≤ length c.args.self.now.shape.links) (sym row)
    (subst (λ (g : ShapeWithRoom). get_or (get_or s.counts.rows c.args.x []) b 0 ≤ length g.shape.links) c.self.view_is
    (count_small s.stakes s.links.items s.branches.items s.makers.items s.ends.items held.branches s.counts.rows held.counts c.args.x b left))

pub strong_by_firsts-requires-clause-several : goal.strong_by_firsts-requires-clause-several
strong_by_firsts-requires-clause-several c =
    let s = c.self.inside in
    let held = c.self.invariant in
    let number : c.count_at-number.result ≡ slice_index s.numbers.items c.args.y = c.count_at-number.ensures ∙ ap (λ (ns : List ℕ). slice_index ns c.args.y) c.deref.ensures.value in
    let found = held.landmarks.by_place c.args.y (let some = c.if-slot-gt0.true in omega arith) in
    let slot : ℕ = slice_index s.numbers.items c.args.y - 1 in
    let k = landmark_at s.landmarks.items slot in
    let firsts : numbers_of c.firsts_at-firsts.result ≡ k.firsts = c.firsts_at-firsts.ensures ∙ ap₂ (λ (landmarks : List LandmarkView) (j : ℕ). (landmark_at landmarks (j - 1)).firsts) c.deref-then-slot-gt0.ensures.value number in
    let holds = held.landmarks.each slot (let le : slice_index s.numbers.items c.args.y ≤ length s.landmarks.items = found.0 in omega arith) in
    let members : length (numbers_of c.firsts_at-firsts.result) ≡ member_count s.stakes = ap length firsts ∙ holds.long in
    subst (λ j. AreSeveral j c.deref-then-not-mask_has.result.now s.several) (sym members)
    (subst (λ (ms : List ℕ). AreSeveral (member_count s.stakes) ms s.several) (sym c.deref-then-not-mask_has.ensures.value) held.several)

pub may_see-may-requires-clause-some : goal.may_see-may-requires-clause-some
may_see-may-requires-clause-some c = λ m h.
    let s = c.self.inside in
    let held = c.self.invariant in
    let number : c.count_at-number.result ≡ slice_index s.numbers.items c.args.y = c.count_at-number.ensures ∙ ap (λ (ns : List ℕ). slice_index ns c.args.y) c.deref.ensures.value in
    let found = held.landmarks.by_place c.args.y (let some = c.if-slot-gt0.true in omega arith) in
    let slot : ℕ = slice_index s.numbers.items c.args.y - 1 in
    let k = landmark_at s.landmarks.items slot in
    let firsts : numbers_of c.firsts_at-firsts.result ≡ k.firsts = c.firsts_at-firsts.ensures ∙ ap₂ (λ (landmarks : List LandmarkView) (j : ℕ). (landmark_at landmarks (j - 1)).firsts) c.deref-then-slot-gt0.ensures.value number in
    let holds = held.landmarks.each slot (let le : slice_index s.numbers.items c.args.y ≤ length s.landmarks.items = found.0 in omega arith) in
    let x = c.args.x in
    let y = c.args.y in
    let left : x < length s.links.items = subst (λ (g : ShapeWithRoom). x < length g.shape.links) (sym c.self.view_is) c.requires.left in
    let is_y : k.end ≡ y + 1 = found.1 in
    subst (λ (f : List ℕ). 0 < slice_index f m) (sym firsts)
    (first_some s.stakes s.links.items s.branches.items s.makers.items s.ends.items held.branches s.counts.rows held.counts x y left k holds is_y s.several held.several m (let all = ap length firsts in let long = holds.long in omega (arith, all, long, h)))

pub returns-then-not-over : goal.returns-then-not-over
returns-then-not-over c =
    let s = c.self.inside in
    let held = c.self.invariant in
    let number : c.count_at-number.result ≡ slice_index s.numbers.items c.args.y = c.count_at-number.ensures ∙ ap (λ (ns : List ℕ). slice_index ns c.args.y) c.deref.ensures.value in
    let found = held.landmarks.by_place c.args.y (let some = c.if-slot-gt0.true in omega arith) in
    let slot : ℕ = slice_index s.numbers.items c.args.y - 1 in
    let k = landmark_at s.landmarks.items slot in
    let firsts : numbers_of c.firsts_at-firsts.result ≡ k.firsts = c.firsts_at-firsts.ensures ∙ ap₂ (λ (landmarks : List LandmarkView) (j : ℕ). (landmark_at landmarks (j - 1)).firsts) c.deref-then-slot-gt0.ensures.value number in
    let holds = held.landmarks.each slot (let le : slice_index s.numbers.items c.args.y ≤ length s.landmarks.items = found.0 in omega arith) in
    let x = c.args.x in
    let y = c.args.y in
    let left : x < length s.links.items = subst (λ (g : ShapeWithRoom). x < length g.shape.links) (sym c.self.view_is) c.requires.left in
    let is_y : k.end ≡ y + 1 = found.1 in
    let row : c.row_of-counts.result.row ≡ get_or s.counts.rows x [] = ap (λ (r : RowView). r.row) c.row_of-counts.ensures in
    let L_is : c.args.self.now.shape.links ≡ s.links.items = sym (ap (λ (g : ShapeWithRoom). g.shape.links) c.self.view_is) in
    let may : (m : ℕ) → mask_has c.may_see-may.result m ≡ may_see s.links.items s.several k.firsts (get_or s.counts.rows x []) y m = λ m.
    c.may_see-may.ensures m
    ∙ (ap (λ (f : List ℕ). may_see c.args.self.now.shape.links s.several f c.row_of-counts.result.row y m) firsts
    ∙ (ap (λ (r : List ℕ). may_see c.args.self.now.shape.links s.several k.firsts r y m) row
    ∙ ap (λ (L : List Link). may_see L s.several k.firsts (get_or s.counts.rows x []) y m) L_is)) in
    let little : is_supermajority (total s.stakes) (stake_where s.stakes (mask_has c.may_see-may.result)) ≡ false = sym c.over.ensures ∙ c.if-not-over.true in
    subst (λ (g : ShapeWithRoom). false ≡ strongly_sees g.shape.members g.shape.links x y) c.self.view_is
    (sym (not_strong s.stakes s.links.items s.branches.items s.makers.items s.ends.items held.branches s.counts.rows held.counts x y left k holds is_y s.several held.several c.may_see-may.result may little))

pub returns : goal.returns
returns c =
    let s = c.self.inside in
    let held = c.self.invariant in
    let left : c.args.x < length s.links.items = subst (λ (g : ShapeWithRoom). c.args.x < length g.shape.links) (sym c.self.view_is) c.requires.left in
    let row = ap (λ (r : RowView). r.row) c.row_of-counts.ensures in
    let L_is : c.args.self.now.shape.links ≡ s.links.items = sym (ap (λ (g : ShapeWithRoom). g.shape.links) c.self.view_is) in
    let told : (m : ℕ) → mask_has c.seers-seers.result m ≡ sees_through s.links.items c.args.x c.args.y m = λ m.
    c.seers-seers.ensures m
    ∙ (ap (λ (makers : List ℕ). seen_on c.args.self.now.shape.links makers c.row_of-counts.result.row c.args.y m) c.deref-2.ensures.value
    ∙ (ap (λ (r : List ℕ). seen_on c.args.self.now.shape.links s.makers.items r c.args.y m) row
    ∙ (ap (λ (L : List Link). seen_on L s.makers.items (get_or s.counts.rows c.args.x []) c.args.y m) L_is
    ∙ seen_by_lines s.stakes s.links.items s.branches.items s.makers.items s.ends.items held.branches s.counts.rows held.counts c.args.x c.args.y left m))) in
    subst (λ (g : ShapeWithRoom). c.over-2.result ≡ strongly_sees g.shape.members g.shape.links c.args.x c.args.y) c.self.view_is
    (c.over-2.ensures ∙ strong_by_members s.stakes s.links.items c.args.x c.args.y (mask_has c.seers-seers.result) told)
