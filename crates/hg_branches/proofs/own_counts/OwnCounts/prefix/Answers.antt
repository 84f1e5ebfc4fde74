use Rattle.std.proofs.Common.{◌≤◌, ◌∙◌, ◌*◌, ◌++◌, ℕ, List, take, ap, ap₂, subst, sym}
use Rattle.hg_branches.specs.OwnCounts.{OwnWithRoom}
use Rattle.hg_branches.proofs.OwnLaws.{cut_narrow, cut_wide, cut_holds, cut_joined}
use Rattle.hg_branches.proofs.own_counts.OwnCounts.prefix.Goals as goal

pub prefix-requires : goal.prefix-requires
prefix-requires c =
    let s = c.self.inside in
    let inside = subst (λ (t : OwnWithRoom). c.args.len ≤ t.rows) (sym c.self.view_is) c.requires in
    rw c.min-narrow.ensures (cut_narrow s.rows s.narrow s.wide c.self.invariant c.args.len inside)

pub prefix-requires-2 : goal.prefix-requires-2
prefix-requires-2 c =
    let s = c.self.inside in
    let inside = subst (λ (t : OwnWithRoom). c.args.len ≤ t.rows) (sym c.self.view_is) c.requires in
    rw c.min-narrow.ensures (cut_wide s.rows s.narrow s.wide c.self.invariant c.args.len inside)

pub invariant_of-result : goal.invariant_of-result
invariant_of-result c =
    let s = c.self.inside in
    let inside = subst (λ (t : OwnWithRoom). c.args.len ≤ t.rows) (sym c.self.view_is) c.requires in
    let narrow = rw c.min-narrow.ensures at c.in_ok-prefix.ensures.numbers in
    let wide = rw c.min-narrow.ensures at c.in_ok-prefix-2.ensures.numbers in
    cut_holds s.rows s.narrow s.wide c.self.invariant c.args.len inside c.in_ok-prefix.field-0 c.in_ok-prefix-2.field-0 c.in_ok-prefix.ensures.width narrow c.in_ok-prefix-2.ensures.width wide

pub returns-clause-width : goal.returns-clause-width
returns-clause-width c = c.in_ok-prefix.ensures.width ∙ ap (λ (t : OwnWithRoom). t.width) c.self.view_is

pub returns-clause-numbers : goal.returns-clause-numbers
returns-clause-numbers c =
    let s = c.self.inside in
    let inside = subst (λ (t : OwnWithRoom). c.args.len ≤ t.rows) (sym c.self.view_is) c.requires in
    let narrow = rw c.min-narrow.ensures at c.in_ok-prefix.ensures.numbers in
    let wide = rw c.min-narrow.ensures at c.in_ok-prefix-2.ensures.numbers in
    ap₂ (λ (xs ys : List ℕ). xs ++ ys) narrow wide
    ∙ (cut_joined s.rows s.narrow s.wide c.self.invariant c.args.len inside ∙ ap (λ (t : OwnWithRoom). take (c.args.len * t.width) t.numbers) c.self.view_is)
