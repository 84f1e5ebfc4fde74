use Rattle.std.proofs.Common.{◌≡◌, ◌<◌, ◌≤◌, ◌∙◌, ◌+◌, ℕ, List, sym, ap, subst, take, min, length, get_or, replicate, arith}
use Rattle.std.proofs.lemmas.List.{length-take-le, length-replicate, get_or-take}
use Rattle.hg_model.specs.Stakes.{member_count}
use Rattle.hg_model.specs.Shape.{ShapeWithRoom}
use Rattle.hg_branches.proofs.SeveralLaws.{several_take}
use Rattle.hg_branches.proofs.TakeLaws.{branches_take, counts_take, forks_take}
use Rattle.hg_branches.proofs.LandmarkLaws.{landmarks_none}
use Rattle.hg_branches.proofs.sight.BranchSightGrowing.prefix.Goals as goal

pub invariant_of-result : goal.invariant_of-result
invariant_of-result c =
    let s = c.self.inside in
    let held = c.self.invariant in
    let len = c.args.len in
    let le = subst (λ (g : ShapeWithRoom). len ≤ length g.shape.links) (sym c.self.view_is) c.requires in
    let rows = held.branches.rows in
    let many : ℕ = c.min-many.result in
    let is_many : c.min-many.result ≡ min (length s.makers.items) (member_count s.stakes + len) = omega arith in
    let makers : c.in_ok-makers.makers.items ≡ take many s.makers.items = c.in_ok-makers.ensures.items ∙ ap (take many) c.deref.ensures.value in
    let all = held.branches.ends_all in
    let ends_are : (b : ℕ) → get_or c.in_ok-ends.ends.items b 0 ≡ min (get_or (take many s.ends.items) b 0) len = λ b.
    c.in_ok-ends.ensures.each b ∙ ap (λ (es : List ℕ). min (get_or (take many es) b 0) len) c.deref-2.ensures.value in
    let ends_len : length c.in_ok-ends.ends.items ≡ many =
    c.in_ok-ends.ensures.len ∙ (ap (λ (es : List ℕ). length (take many es)) c.deref-2.ensures.value ∙ length-take-le many s.ends.items (omega arith)) in
    let end : (x : ℕ) → x < len → x < get_or c.in_ok-ends.ends.items (get_or s.branches.items x 0) 0 = λ x h.
    let known = held.branches.known x (omega arith) in
    let early = held.branches.early x (omega arith) in
    let was = held.branches.end x (omega arith) in
    let is = ends_are (get_or s.branches.items x 0) in
    let cut = get_or-take many s.ends.items (get_or s.branches.items x 0) 0 (omega arith) in
    omega arith in
    record {
      branches = rw (c.in_ok-stakes.ensures, c.in_ok-links.ensures.items, c.in_ok-branches.ensures.items, makers) (branches_take s.stakes s.links.items s.branches.items s.makers.items s.ends.items held.branches len many le is_many c.in_ok-ends.ends.items ends_len end);
      several = rw (c.in_ok-stakes.ensures, makers) (several_take (member_count s.stakes) many s.makers.items s.several (omega arith) held.several);
      counts = rw (c.in_ok-stakes.ensures, c.in_ok-links.ensures.items, c.in_ok-branches.ensures.items, makers, c.in_ok-counts.ensures.rows) (counts_take s.stakes s.links.items s.branches.items s.makers.items s.ends.items held.branches len many le is_many s.counts.rows held.counts);
      forks = rw (c.in_ok-links.ensures.items, c.in_ok-forked.ensures.items) (forks_take s.stakes s.links.items s.branches.items s.makers.items s.ends.items held.branches len many le is_many s.forked.items held.forks);
      landmarks = rw (c.in_ok-stakes.ensures, c.in_ok-links.ensures.items, c.in_ok-branches.ensures.items, makers, c.new-2.ensures.items, c.new-3.ensures.items)
          (landmarks_none s.stakes (take len s.links.items) (take len s.branches.items) (take many s.makers.items) c.in_ok-newest.newest.items
          (c.in_ok-newest.ensures ∙ ap (λ k. replicate k 0) (sym (length-take-le many s.makers.items (omega arith)))));
      tops = rw c.new-2.ensures.items (λ i h. absurd (omega arith));
      tops_all = ap length c.in_ok-tops.ensures ∙ (length-replicate many 0 ∙ sym (ap length makers ∙ length-take-le many s.makers.items (omega arith)));
      counts_members = c.in_ok-counts.ensures.members ∙ (held.counts_members ∙ ap member_count (sym c.in_ok-stakes.ensures));
      widths = λ i h. (let none = ap length c.new-2.ensures.items in absurd (omega arith));
      spare = tt;
      rows_room = rw c.in_ok-links.ensures.items (let room = held.rows_room in omega (arith, length-take-le len s.links.items le));
      links_room = omega arith;
      branches_room = omega arith;
      makers_room = omega arith;
      ends_room = omega arith;
      counts_room = omega arith;
      forked_room = omega arith;
      newest_room = omega arith;
      tops_room = omega arith;
      numbers_room = omega arith;
      landmarks_room = omega arith;
    }
