use Rattle.std.proofs.Common.{◌≡◌, ◌≤◌, ◌∙◌, ◌+◌, ◌-◌, List, length, take, ap, sym, arith, refl}
use Rattle.std.proofs.lemmas.List.{length-take-le}
use Rattle.hg_branches.specs.declared.tails.Part.{Part}
use Rattle.hg_branches.specs.Tails.{TailsWithRoom, end_before}
use Rattle.hg_branches.proofs.TailLaws.{tails_many, tails_cut, parts_cut, end_within}
use Rattle.hg_branches.proofs.tails.Tails.prefix.Goals as goal

pub end_of-end-requires : goal.end_of-end-requires
end_of-end-requires c =
    let parts : length c.deref.result.now ≡ length c.self.inside.parts.items = ap length c.deref.ensures.value in
    omega (arith, ap (λ (t : TailsWithRoom). length t.rows) c.self.view_is, tails_many c.self.inside.numbers.items c.self.inside.parts.items c.self.inside.before, c.requires)

pub slice_bounds-from_slice-end : goal.slice_bounds-from_slice-end
slice_bounds-from_slice-end c =
    let parts : length c.deref-2.result.now ≡ length c.self.inside.parts.items = ap length c.deref-2.ensures.value in
    sym (length-take-le (c.args.len - c.min-before.result) c.deref-2.result.now
    (omega (arith, ap (λ (t : TailsWithRoom). length t.rows) c.self.view_is, tails_many c.self.inside.numbers.items c.self.inside.parts.items c.self.inside.before, c.requires)))

pub slice_bounds-from_slice-end-2 : goal.slice_bounds-from_slice-end-2
slice_bounds-from_slice-end-2 c =
    let inside : c.args.len ≤ c.self.inside.before + length c.self.inside.parts.items =
    omega (arith, ap (λ (t : TailsWithRoom). length t.rows) c.self.view_is, tails_many c.self.inside.numbers.items c.self.inside.parts.items c.self.inside.before, c.requires) in
    let end = c.end_of-end.ensures ∙ ap (λ (p : List Part). end_before p (c.args.len - c.min-before.result)) c.deref.ensures.value in
    let low = end_within _ _ _ c.self.invariant c.args.len c.min-before.result _ c.end_of-end.result inside c.min-before.ensures refl end in
    sym (length-take-le c.end_of-end.result c.deref-3.result.now (omega (arith, low, ap length c.deref-3.ensures.value)))

pub invariant_of-result : goal.invariant_of-result
invariant_of-result c =
    let inside : c.args.len ≤ c.self.inside.before + length c.self.inside.parts.items =
    omega (arith, ap (λ (t : TailsWithRoom). length t.rows) c.self.view_is, tails_many c.self.inside.numbers.items c.self.inside.parts.items c.self.inside.before, c.requires) in
    let end = c.end_of-end.ensures ∙ ap (λ (p : List Part). end_before p (c.args.len - c.min-before.result)) c.deref.ensures.value in
    rw (c.in_ok-from_slice-2.ensures.items, c.in_ok-from_slice.ensures.items, c.deref-2.ensures.value, c.deref-3.ensures.value)
    (parts_cut _ _ _ c.self.invariant c.args.len c.min-before.result _ c.end_of-end.result inside c.min-before.ensures refl end)

pub returns : goal.returns
returns c =
    let inside : c.args.len ≤ c.self.inside.before + length c.self.inside.parts.items =
    omega (arith, ap (λ (t : TailsWithRoom). length t.rows) c.self.view_is, tails_many c.self.inside.numbers.items c.self.inside.parts.items c.self.inside.before, c.requires) in
    let end = c.end_of-end.ensures ∙ ap (λ (p : List Part). end_before p (c.args.len - c.min-before.result)) c.deref.ensures.value in
    rw (c.in_ok-from_slice-2.ensures.items, c.in_ok-from_slice.ensures.items, c.deref-2.ensures.value, c.deref-3.ensures.value)
    (tails_cut _ _ _ c.self.invariant c.args.len c.min-before.result _ c.end_of-end.result inside c.min-before.ensures refl end
    ∙ ap (λ (t : TailsWithRoom). take c.args.len t.rows) c.self.view_is)
