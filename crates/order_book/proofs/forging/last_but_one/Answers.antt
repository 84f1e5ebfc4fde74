use Rattle.std.proofs.Common.{◌≡◌, ℕ, ◌+◌, ◌<◌, ◌==◌, Bool, true, false, cond, List, length, take, Option, Some, None, slice_get, rules, sym, ◌∙◌, ap, ap₂, arith}
use Rattle.std.specs.Prelude.{◌≢◌}
use Rattle.std.proofs.lemmas.Bool.Decides.{nat_tests}
use Rattle.std.proofs.lemmas.List.Sums.{fold_more}
use Rattle.std.proofs.lemmas.Option.{get_or_from_slice_get}
use Rattle.hg_model.specs.declared.row.Row.{Row}
use Rattle.hg_life.specs.NodeView.{node_rows}
use Rattle.order_book.specs.Script.{last_names, with_row}
use Rattle.order_book.proofs.forging.last_but_one.Goals as goal
use Rattle.order_book.proofs.forging.last_but_one.Goals.{then-row-member, else-row-member}

module _ (member : ℕ) (before last : Option (List ℕ)) (row : Row) where
  -- a row of the member, and one of another
  own : row.creator ≡ member → (last, Some row.name) ≡ with_row member (before, last) row
  own is =
      let yes : (row.creator == member) ≡ true = grind (arith, nat_tests) in
      sym (ap (λ (t : Bool). cond t (last, Some row.name) (before, last)) yes)

  other : row.creator ≢ member → (before, last) ≡ with_row member (before, last) row
  other apart =
      let no : (row.creator == member) ≡ false = grind (arith, nat_tests) in
      sym (ap (λ (t : Bool). cond t (last, Some row.name) (before, last)) no)

  -- the names once the row at the next place came
  next : (rows : List Row) (place : ℕ) → place < length rows → slice_get rows place ≡ Some row → (before, last) ≡ last_names member (take place rows) →
      with_row member (before, last) row ≡ last_names member (take (place + 1) rows)
  next rows place inside is so_far =
      ap₂ (with_row member) so_far (sym (get_or_from_slice_get rows place row row is)) ∙ sym (fold_more (with_row member) (None, None) rows place row inside)

pub loop-place-preserved : goal.loop-place-preserved
loop-place-preserved c =
    let row = c.row-row.result.now in
    let more = next c.args.member c.loop-place.before c.loop-place.last row (node_rows c.args.node.now) c.loop-place.place (search rules) c.row-row.ensures c.loop-place.invariant in
    elim c.if-row-member.branch [
      | then-row-member w ↦ (λ i. (w.before-is i, w.last-is i)) ∙ (own c.args.member c.loop-place.before c.loop-place.last row (search rules) ∙ more)
      | else-row-member w ↦ (λ i. (w.before-is i, w.last-is i)) ∙ (other c.args.member c.loop-place.before c.loop-place.last row (search rules) ∙ more)
    ]
