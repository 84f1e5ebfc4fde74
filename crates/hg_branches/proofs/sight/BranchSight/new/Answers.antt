use Rattle.std.proofs.Common.{◌∙◌, [], ap, sym, length, replicate, arith}
use Rattle.std.proofs.lemmas.List.{length-replicate}
use Rattle.hg_model.specs.Stakes.{member_count}
use Rattle.hg_branches.proofs.TakeLaws.{branches_none, counts_none, forks_none}
use Rattle.hg_branches.proofs.LandmarkLaws.{landmarks_none}
use Rattle.hg_branches.proofs.sight.BranchSight.new.Goals as goal

pub invariant_of-result : goal.invariant_of-result
invariant_of-result c = record {
  branches = rw (c.in_ok-table.ensures, c.new-3.ensures, c.new-4.ensures)
      (branches_none c.args.stakes.now c.in_ok-makers.makers.items c.in_ok-ends.ends.items c.requires c.in_ok-makers.ensures.len
      (ap length c.in_ok-ends.ensures ∙ length-replicate _ 0) c.in_ok-makers.ensures.own);
  several = rw c.in_ok-table.ensures (λ b past inside. (let long = c.in_ok-makers.ensures.len in absurd (omega (arith, long, past, inside))));
  counts = rw (c.in_ok-table.ensures, c.new-3.ensures, c.new-4.ensures, c.new-5.ensures.rows) (counts_none c.args.stakes.now c.in_ok-makers.makers.items);
  forks = rw (c.new-3.ensures, c.new-6.ensures) forks_none;
  landmarks = rw (c.in_ok-table.ensures, c.new-3.ensures, c.new-4.ensures, c.new-7.ensures.items, c.new-8.ensures.items)
      (landmarks_none c.args.stakes.now [] [] c.in_ok-makers.makers.items c.in_ok-newest.newest.items
      (c.in_ok-newest.ensures ∙ ap (λ k. replicate k 0) (sym c.in_ok-makers.ensures.len)));
  counts_members = c.new-5.ensures.members ∙ ap member_count (sym c.in_ok-table.ensures);
  tops = rw c.new-7.ensures.items (λ i h. absurd (omega arith));
  tops_all = ap length c.in_ok-tops.ensures ∙ (length-replicate _ 0 ∙ sym c.in_ok-makers.ensures.len);
  widths = λ i h. (let none = ap length c.new-7.ensures.items in absurd (omega arith));
  spare = tt;
  rows_room = rw c.new-3.ensures (omega arith);
  links_room = omega arith;
  branches_room = omega arith;
  makers_room = omega arith;
  ends_room = omega arith;
  counts_room = omega arith;
  forked_room = omega arith;
  newest_room = omega arith;
  tops_room = omega arith;
  numbers_room = omega arith;
  landmarks_room = omega arith;
}
