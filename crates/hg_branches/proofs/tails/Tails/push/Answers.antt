use Rattle.std.proofs.Common.{◌≡◌, ◌∙◌, ◌++◌, ◌∷◌, [], List, ℕ, length, sym, ap, ap₂, arith, rules}
use Rattle.std.proofs.lemmas.Bool.{eqb-true}
use Rattle.hg_branches.specs.Tails.{Tail, TailsWithRoom}
use Rattle.hg_branches.proofs.TailLaws.{tails_many, tails_plain, tails_more, parts_more, no_items}
use Rattle.hg_branches.proofs.tails.Tails.push.Goals as goal

pub overflow_add-self : goal.overflow_add-self
overflow_add-self c =
    omega (arith, ap (λ (t : TailsWithRoom). length t.rows) c.self.view_is, tails_many c.self.inside.numbers.items c.self.inside.parts.items c.self.inside.before, c.requires.short)

pub returns-then-is_empty-2 : goal.returns-then-is_empty-2
returns-then-is_empty-2 c =
    let none : length c.self.inside.parts.items ≡ 0 = (let is = eqb-true _ _ (sym c.is_empty-then-is_empty.ensures ∙ c.if-is_empty-2.true) in search rules) in
    let plain : c.args.numbers.now ≡ [] = no_items c.args.numbers.now (eqb-true _ _ (sym c.is_empty.ensures ∙ c.if-is_empty.true)) in
    tails_plain c.self.inside.numbers.items c.self.inside.parts.items c.self.inside.before none
    ∙ ap₂ (λ (r : List Tail) (t : Tail). r ++ t ∷ []) (ap (λ (t : TailsWithRoom). t.rows) c.self.view_is)
    (ap₂ (λ (o : ℕ) (l : List ℕ). record { own = o; numbers = l }) (sym c.if-own-eq0.true) (sym plain))

pub invariant_of-self-2 : goal.invariant_of-self-2
invariant_of-self-2 c =
    let grown : c.extend_from_slice.new.self.items ≡ c.self.inside.numbers.items ++ c.args.numbers.now = rw c.unwrap.ensures at c.extend_from_slice.ensures.items in
    let start : c.len-start.result ≡ length c.self.inside.numbers.items = search rules in
    let end : c.len-end.result ≡ length c.extend_from_slice.new.self.items = search rules in
    rw (c.push_reserved.ensures.items, grown)
    (parts_more c.self.inside.numbers.items c.args.numbers.now c.self.inside.parts.items c.self.inside.before c.args.own c.self.invariant c.len-start.result c.len-end.result start (end ∙ ap length grown))

pub returns : goal.returns
returns c =
    let grown : c.extend_from_slice.new.self.items ≡ c.self.inside.numbers.items ++ c.args.numbers.now = rw c.unwrap.ensures at c.extend_from_slice.ensures.items in
    let start : c.len-start.result ≡ length c.self.inside.numbers.items = search rules in
    let end : c.len-end.result ≡ length c.extend_from_slice.new.self.items = search rules in
    rw (c.push_reserved.ensures.items, grown)
    (tails_more c.self.inside.numbers.items c.args.numbers.now c.self.inside.parts.items c.self.inside.before c.args.own c.self.invariant c.len-start.result c.len-end.result start (end ∙ ap length grown)
    ∙ ap (λ (t : TailsWithRoom). t.rows ++ record { own = c.args.own; numbers = c.args.numbers.now } ∷ []) c.self.view_is)
