use Rattle.std.proofs.Common.{◌≡◌, ◌<◌, ◌∙◌, List, [], ap, sym, subst, take, length, get_or, ℕ, arith}
use Rattle.hg_model.specs.Stakes.{member_count}
use Rattle.hg_model.specs.Shape.{ShapeWithRoom}
use Rattle.hg_model.specs.Counts.{CountsMembersIn, numbers_of}
use Rattle.hg_branches.proofs.MemberCountLaws.{counts_members}
use Rattle.hg_branches.proofs.sight.BranchSightSight.counts.Goals as goal

pub returns-then-len : goal.returns-then-len
returns-then-len c =
    let s = c.self.inside in
    let held = c.self.invariant in
    let x = c.args.x in
    let left : x < length s.links.items = subst (λ (g : ShapeWithRoom). x < length g.shape.links) (sym c.self.view_is) c.requires in
    let one : length s.makers.items ≡ member_count s.stakes = (let same = c.if-len.true in omega arith) in
    let row : numbers_of c.own.result ≡ take (member_count s.stakes) (get_or s.counts.rows x []) = c.own.ensures.value ∙ ap (λ j. take j (get_or s.counts.rows x [])) held.counts_members in
    subst (λ (g : ShapeWithRoom). CountsMembersIn g.shape x (numbers_of c.own.result)) c.self.view_is
    (subst (λ (r : List ℕ). CountsMembersIn (record { members = s.stakes; links = s.links.items }) x r) (sym row)
    (counts_members s.stakes s.links.items s.branches.items s.makers.items s.ends.items held.branches one s.counts.rows held.counts x left))
