use Rattle.std.proofs.Common.{◌≡◌, ◌<◌, ◌≤◌, ◌+◌, ◌^◌, ◌∙◌, ℕ, sym, ap, ap₂, subst, List, ◌++◌, ◌∷◌, [], length, get_or, nat_le, eqb, ◌||◌, ◌&&◌, false, inl, inr, arith}
use Rattle.std.proofs.lemmas.Bool.{true≢false, cases_lt, le-leb, lt-ltb}
use Rattle.std.proofs.lemmas.List.{length_push, get_or_push}
use Rattle.std.specs.List.{AllByRecursion}
use Rattle.hg_model.specs.Stakes.{Stakes, member_count, stake_of, total}
use Rattle.hg_model.specs.Links.{Link}
use Rattle.hg_model.specs.Forks.{has_fork_below}
use Rattle.hg_model.specs.Shape.{ShapeWithRoom, FitsLink, link_of}
use Rattle.hg_bits.specs.Masks.{mask_has}
use Rattle.hg_ancestry.proofs.HeldLaws.{places_fit, places_kept}
use Rattle.hg_branches.specs.declared.landmarks.NextRow.{NextRow}
use Rattle.hg_branches.specs.Branches.{greatest_count}
use Rattle.hg_branches.specs.Columns.{HoldsBranches, room_of, next_branch, with_branch, put_at, count_in, forks_next}
use Rattle.hg_branches.proofs.HeldLaws.{Serves, next_serves, in_reach, branches_hold, counts_hold, counts_last}
use Rattle.hg_branches.specs.Rows.{RowView, known_place}
use Rattle.hg_branches.specs.Firsts.{none_by}
use Rattle.hg_branches.specs.Landmarks.{LandmarkView, landmark_at, noted, AreFreshOn, AreNotedOn, HoldsChains, HoldsNewest, HoldsTops, HoldsLandmarks}
use Rattle.hg_branches.proofs.ChainLaws.{refilled}
use Rattle.hg_branches.proofs.LandmarkLaws.{fresh_on, noted_on, landmarks_more, tops_noted}
use Rattle.hg_branches.proofs.WidenLaws.{none_within}
use Rattle.hg_branches.proofs.NumberLaws.{all_low}
use Rattle.hg_branches.proofs.PutLaws.{opened_long}
use Rattle.hg_branches.proofs.NextForkLaws.{forks_told}
use Rattle.hg_branches.proofs.SeveralLaws.{several_more}
use Rattle.hg_branches.proofs.TakeLaws.{forks_more}
use Rattle.hg_branches.proofs.sight.BranchSightGrowing.extend.Goals as goal
use Rattle.hg_branches.proofs.sight.BranchSightGrowing.extend.Goals.{then-members-len, else-members-len}

lower : (n b : ℕ) → nat_le n b ≡ false → b < n
lower n b not_le = elim (cases_lt b n) [ inl less ↦ less | inr more ↦ absurd (true≢false (sym (le-leb n b more) ∙ not_le)) ]

-- the branch, by the parents and the columns
branch_is : (branches ends : List ℕ) (by : ℕ) (on es : List ℕ) (b : ℕ) → b ≡ next_branch branches es on by → es ≡ ends → b ≡ next_branch branches ends on by
branch_is branches ends by on es b is same_ends = is ∙ ap (λ (es : List ℕ). next_branch branches es on by) same_ends

reach : (n : Stakes) (L : List Link) (branches makers ends : List ℕ) → HoldsBranches n L branches makers ends → (parents : List ℕ) (by : ℕ) → FitsLink n L (link_of by parents) →
    (b : ℕ) → b ≡ next_branch branches ends parents by → b ≤ length makers
reach n L branches makers ends held parents by fits b is =
    subst (λ j. j ≤ length makers) (sym is) (in_reach n L branches makers ends held (link_of by parents) fits (next_branch branches ends parents by) (next_serves n L branches makers ends held parents by fits))

known_below : (on : List ℕ) (x : ℕ) → AllByRecursion (λ p. p < x) on → known_place on x < x + 1
known_below [] x all = omega arith
known_below (p ∷ ps) x all = (let low : p < x = all.0 in omega arith)

pub at-stake-requires : goal.at-stake-requires
at-stake-requires c =
    let fits = subst (λ (g : ShapeWithRoom). FitsLink g.shape.members g.shape.links (link_of c.args.creator c.args.parents.now)) (sym c.self.view_is) c.requires.fits in
    fits.member

pub branch_for-branch-requires-clause-places : goal.branch_for-branch-requires-clause-places
branch_for-branch-requires-clause-places c =
    let s = c.self.inside in
    let fits = subst (λ (g : ShapeWithRoom). FitsLink g.shape.members g.shape.links (link_of c.args.creator c.args.parents.now)) (sym c.self.view_is) c.requires.fits in
    subst (λ k. AllByRecursion (λ p. p < k) c.args.parents.now) (sym c.self.invariant.branches.rows) (places_fit s.stakes s.links.items c.args.creator c.args.parents.now fits)

pub branch_for-branch-requires-clause-known : goal.branch_for-branch-requires-clause-known
branch_for-branch-requires-clause-known c =
    let s = c.self.inside in
    let held = c.self.invariant.branches in
    let fits = subst (λ (g : ShapeWithRoom). FitsLink g.shape.members g.shape.links (link_of c.args.creator c.args.parents.now)) (sym c.self.view_is) c.requires.fits in
    all_low (λ p. get_or s.branches.items p 0 < length c.deref.result.now) (length s.links.items) c.args.parents.now (places_fit s.stakes s.links.items c.args.creator c.args.parents.now fits)
    (λ p h. let all = held.ends_all in let known = held.known p h in omega (arith, ap length c.deref.ensures.value))

pub forked_next-forked-requires-clause-places : goal.forked_next-forked-requires-clause-places
forked_next-forked-requires-clause-places c =
    let s = c.self.inside in
    let fits = subst (λ (g : ShapeWithRoom). FitsLink g.shape.members g.shape.links (link_of c.args.creator c.args.parents.now)) (sym c.self.view_is) c.requires.fits in
    subst (λ k. AllByRecursion (λ p. p < k) c.args.parents.now) (sym c.self.invariant.forks.len) (places_fit s.stakes s.links.items c.args.creator c.args.parents.now fits)

pub push-requires-clause-places : goal.push-requires-clause-places
push-requires-clause-places c =
    let s = c.self.inside in
    let fits = subst (λ (g : ShapeWithRoom). FitsLink g.shape.members g.shape.links (link_of c.args.creator c.args.parents.now)) (sym c.self.view_is) c.requires.fits in
    subst (λ k. AllByRecursion (λ p. p < k) c.args.parents.now) (sym c.self.invariant.counts.len) (places_fit s.stakes s.links.items c.args.creator c.args.parents.now fits)

pub push-requires-clause-fits : goal.push-requires-clause-fits
push-requires-clause-fits c =
    let s = c.self.inside in
    let held = c.self.invariant.branches in
    let by = c.args.creator in
    let link = link_of by c.args.parents.now in
    let fits = subst (λ (g : ShapeWithRoom). FitsLink g.shape.members g.shape.links link) (sym c.self.view_is) c.requires.fits in
    let b_is = branch_is s.branches.items s.ends.items by c.args.parents.now c.deref.result.now c.branch_for-branch.result c.branch_for-branch.ensures c.deref.ensures.value in
    let low = reach s.stakes s.links.items s.branches.items s.makers.items s.ends.items held c.args.parents.now by fits c.branch_for-branch.result b_is in
    let sparse = held.sparse in
    let few = held.few in
    let short = held.short in
    omega arith

pub row_of-known-requires : goal.row_of-known-requires
row_of-known-requires c =
    let s = c.self.inside in
    let rows_len = c.self.invariant.counts.len in
    let fits = subst (λ (g : ShapeWithRoom). FitsLink g.shape.members g.shape.links (link_of c.args.creator c.args.parents.now)) (sym c.self.view_is) c.requires.fits in
    let places = places_fit s.stakes s.links.items c.args.creator c.args.parents.now fits in
    let place : c.len-row.result ≡ length s.links.items = omega arith in
    let low : c.known_place.result < length s.links.items + 1 = subst (λ j. j < length s.links.items + 1) (sym c.known_place.ensures)
    (subst (λ x. known_place c.args.parents.now x < length s.links.items + 1) (sym place) (known_below c.args.parents.now (length s.links.items) places)) in
    let longer = ap length c.push.ensures.1 ∙ length_push s.counts.rows c.push.ensures.0 in
    omega arith

pub row_of-counts-requires : goal.row_of-counts-requires
row_of-counts-requires c =
    let s = c.self.inside in
    let rows_len = c.self.invariant.counts.len in
    let longer = ap length c.push.ensures.1 ∙ length_push s.counts.rows c.push.ensures.0 in
    omega arith

pub note_all-requires-clause-chains : goal.note_all-requires-clause-chains
note_all-requires-clause-chains c = subst HoldsChains (sym c.deref_mut.ensures.value) c.self.invariant.landmarks.chains

pub note_all-requires-clause-newest : goal.note_all-requires-clause-newest
note_all-requires-clause-newest c =
    subst (λ (landmarks : List LandmarkView). HoldsNewest landmarks c.deref-3.result.now) (sym c.deref_mut.ensures.value)
    (subst (HoldsNewest c.self.inside.landmarks.items) (sym c.deref-3.ensures.value) c.self.invariant.landmarks.by_branch)

pub note_all-requires-clause-tops : goal.note_all-requires-clause-tops
note_all-requires-clause-tops c =
    subst (λ (landmarks : List LandmarkView). HoldsTops landmarks c.self.inside.tops.ends) (sym c.deref_mut.ensures.value) c.self.invariant.tops

pub note_all-requires-clause-noted : goal.note_all-requires-clause-noted
note_all-requires-clause-noted c = λ i.
    let s = c.self.inside in
    let held = c.self.invariant in
    let L = s.links.items in
    let by = c.args.creator in
    let on = c.args.parents.now in
    let row = c.push.ensures.0 in
    let rows_are = c.push.ensures.1 in
    let rows_len = held.counts.len in
    let fits = subst (λ (g : ShapeWithRoom). FitsLink g.shape.members g.shape.links (link_of by on)) (sym c.self.view_is) c.requires.fits in
    let b = c.branch_for-branch.result in
    let b_is = branch_is s.branches.items s.ends.items by on c.deref.result.now b c.branch_for-branch.ensures c.deref.ensures.value in
    let place : c.len-row.result ≡ length L = omega arith in
    let known : List ℕ = get_or (s.counts.rows ++ row ∷ []) (known_place on (length L)) [] in
    let known_is : c.row_of-known.result.row ≡ known = ap (λ (r : RowView). r.row) c.row_of-known.ensures
    ∙ ap₂ (λ (rows : List (List ℕ)) (j : ℕ). get_or rows j []) rows_are (c.known_place.ensures ∙ ap (λ (x : ℕ). known_place on x) place) in
    let row_is : c.row_of-counts.result.row ≡ row = ap (λ (r : RowView). r.row) c.row_of-counts.ensures
    ∙ (ap (λ (rows : List (List ℕ)). get_or rows c.len-row.result []) rows_are ∙ get_or_push s.counts.rows row [] c.len-row.result (rows_len ∙ sym place)) in
    let others : (i : ℕ) → (i ≡ next_branch s.branches.items s.ends.items on by → ⊥) → get_or row i 0 ≡ greatest_count (count_in s.counts.rows) on i =
    λ i off. c.push.ensures.3.others i (λ e. off (e ∙ b_is)) in
    let stake = c.at-stake.result in
    let next : ℕ → ℕ → NextRow = λ b end. record { branch = b; end = end; stake = stake } in
    subst (AreNotedOn i (get_or c.row_of-known.result.row i 0) (get_or c.row_of-counts.result.row i 0) (next b (c.len-row.result + 1))) (sym c.deref_mut.ensures.value)
    (subst (λ (k : List ℕ). AreNotedOn i (get_or k i 0) (get_or c.row_of-counts.result.row i 0) (next b (c.len-row.result + 1)) s.landmarks.items) (sym known_is)
    (subst (λ (r : List ℕ). AreNotedOn i (get_or known i 0) (get_or r i 0) (next b (c.len-row.result + 1)) s.landmarks.items) (sym row_is)
    (subst (λ j. AreNotedOn i (get_or known i 0) (get_or row i 0) (next j (c.len-row.result + 1)) s.landmarks.items) (sym b_is)
    (subst (λ x. AreNotedOn i (get_or known i 0) (get_or row i 0) (next (next_branch s.branches.items s.ends.items on by) (x + 1)) s.landmarks.items) (sym place)
    (noted_on s.stakes L s.branches.items s.makers.items s.ends.items held.branches s.counts.rows held.counts s.landmarks.items s.newest.items s.numbers.items held.landmarks on by fits row others stake i)))))

pub note_all-requires-clause-fresh : goal.note_all-requires-clause-fresh
note_all-requires-clause-fresh c = λ i.
    let s = c.self.inside in
    let held = c.self.invariant in
    let L = s.links.items in
    let by = c.args.creator in
    let on = c.args.parents.now in
    let row = c.push.ensures.0 in
    let rows_are = c.push.ensures.1 in
    let rows_len = held.counts.len in
    let fits = subst (λ (g : ShapeWithRoom). FitsLink g.shape.members g.shape.links (link_of by on)) (sym c.self.view_is) c.requires.fits in
    let b = c.branch_for-branch.result in
    let b_is = branch_is s.branches.items s.ends.items by on c.deref.result.now b c.branch_for-branch.ensures c.deref.ensures.value in
    let place : c.len-row.result ≡ length L = omega arith in
    let known : List ℕ = get_or (s.counts.rows ++ row ∷ []) (known_place on (length L)) [] in
    let known_is : c.row_of-known.result.row ≡ known = ap (λ (r : RowView). r.row) c.row_of-known.ensures
    ∙ ap₂ (λ (rows : List (List ℕ)) (j : ℕ). get_or rows j []) rows_are (c.known_place.ensures ∙ ap (λ (x : ℕ). known_place on x) place) in
    let ready : 1 ≤ room_of s.ready = subst (λ (g : ShapeWithRoom). 1 ≤ g.room) (sym c.self.view_is) c.requires.room in
    let rows_room = held.rows_room in
    let short_of : (i : ℕ) → i < length s.landmarks.items → length L + 1 < (landmark_at s.landmarks.items i).none = λ i h. (let high = held.widths i h in omega arith) in
    let stake = c.at-stake.result in
    let next : ℕ → ℕ → NextRow = λ b end. record { branch = b; end = end; stake = stake } in
    subst (AreFreshOn i (get_or c.row_of-known.result.row i 0) (next b (c.len-row.result + 1))) (sym c.deref_mut.ensures.value)
    (subst (λ (k : List ℕ). AreFreshOn i (get_or k i 0) (next b (c.len-row.result + 1)) s.landmarks.items) (sym known_is)
    (subst (λ j. AreFreshOn i (get_or known i 0) (next j (c.len-row.result + 1)) s.landmarks.items) (sym b_is)
    (subst (λ x. AreFreshOn i (get_or known i 0) (next (next_branch s.branches.items s.ends.items on by) (x + 1)) s.landmarks.items) (sym place)
    (fresh_on s.stakes L s.branches.items s.makers.items s.ends.items held.branches s.counts.rows held.counts s.landmarks.items s.newest.items s.numbers.items held.landmarks short_of on by fits row stake i))))

pub move_end-requires-clause-there : goal.move_end-requires-clause-there
move_end-requires-clause-there c =
    let s = c.self.inside in
    let held = c.self.invariant.branches in
    let fits = subst (λ (g : ShapeWithRoom). FitsLink g.shape.members g.shape.links (link_of c.args.creator c.args.parents.now)) (sym c.self.view_is) c.requires.fits in
    let b_is = branch_is s.branches.items s.ends.items c.args.creator c.args.parents.now c.deref.result.now c.branch_for-branch.result c.branch_for-branch.ensures c.deref.ensures.value in
    let low = reach s.stakes s.links.items s.branches.items s.makers.items s.ends.items held c.args.parents.now c.args.creator fits c.branch_for-branch.result b_is in
    let all = held.ends_all in
    omega arith

pub open_branch-requires-clause-there : goal.open_branch-requires-clause-there
open_branch-requires-clause-there c =
    let s = c.self.inside in
    let held = c.self.invariant.branches in
    let fits = subst (λ (g : ShapeWithRoom). FitsLink g.shape.members g.shape.links (link_of c.args.creator c.args.parents.now)) (sym c.self.view_is) c.requires.fits in
    let b_is = branch_is s.branches.items s.ends.items c.args.creator c.args.parents.now c.deref.result.now c.branch_for-branch.result c.branch_for-branch.ensures c.deref.ensures.value in
    let low = reach s.stakes s.links.items s.branches.items s.makers.items s.ends.items held c.args.parents.now c.args.creator fits c.branch_for-branch.result b_is in
    let all = c.self.invariant.landmarks.newest_all in
    omega arith

pub open-requires-clause-there : goal.open-requires-clause-there
open-requires-clause-there c =
    let s = c.self.inside in
    let held = c.self.invariant.branches in
    let fits = subst (λ (g : ShapeWithRoom). FitsLink g.shape.members g.shape.links (link_of c.args.creator c.args.parents.now)) (sym c.self.view_is) c.requires.fits in
    let b_is = branch_is s.branches.items s.ends.items c.args.creator c.args.parents.now c.deref.result.now c.branch_for-branch.result c.branch_for-branch.ensures c.deref.ensures.value in
    let low = reach s.stakes s.links.items s.branches.items s.makers.items s.ends.items held c.args.parents.now c.args.creator fits c.branch_for-branch.result b_is in
    let all = c.self.invariant.tops_all in
    omega arith

pub with_several-self-inside-requires : goal.with_several-self-inside-requires
with_several-self-inside-requires c =
    let fits = subst (λ (g : ShapeWithRoom). FitsLink g.shape.members g.shape.links (link_of c.args.creator c.args.parents.now)) (sym c.self.view_is) c.requires.fits in
    let member = fits.member in
    let few = c.self.invariant.branches.few in
    omega arith

pub of-requires-clause-few : goal.of-requires-clause-few
of-requires-clause-few c =
    let fits = subst (λ (g : ShapeWithRoom). FitsLink g.shape.members g.shape.links (link_of c.args.creator c.args.parents.now)) (sym c.self.view_is) c.requires.fits in
    fits.few

pub of-requires-clause-places : goal.of-requires-clause-places
of-requires-clause-places c =
    let fits = subst (λ (g : ShapeWithRoom). FitsLink g.shape.members g.shape.links (link_of c.args.creator c.args.parents.now)) (sym c.self.view_is) c.requires.fits in
    let short = subst (λ (g : ShapeWithRoom). length g.shape.links + 1 < 4294967295) (sym c.self.view_is) c.requires.short in
    places_kept c.self.inside.stakes c.self.inside.links.items c.args.creator c.args.parents.now fits short

pub invariant_of-self : goal.invariant_of-self
invariant_of-self c =
    let s = c.self.inside in
    let L = s.links.items in
    let held = c.self.invariant in
    let by = c.args.creator in
    let link = link_of by c.args.parents.now in
    let on = c.args.parents.now in
    let fits = subst (λ (g : ShapeWithRoom). FitsLink g.shape.members g.shape.links link) (sym c.self.view_is) c.requires.fits in
    let ready : 1 ≤ room_of s.ready = subst (λ (g : ShapeWithRoom). 1 ≤ g.room) (sym c.self.view_is) c.requires.room in
    let rows_room = held.rows_room in
    let none_wide = none_within s.wide in
    let short : length L + 1 < 4294967295 = omega arith in
    let short_of : (i : ℕ) → i < length s.landmarks.items → length L + 1 < (landmark_at s.landmarks.items i).none = λ i h. (let high = held.widths i h in omega arith) in
    let b = c.branch_for-branch.result in
    let b_is = branch_is s.branches.items s.ends.items by c.args.parents.now c.deref.result.now b c.branch_for-branch.ensures c.deref.ensures.value in
    let serves : Serves L s.branches.items s.makers.items link b = subst (λ k. Serves L s.branches.items s.makers.items link k) (sym b_is)
    (next_serves s.stakes L s.branches.items s.makers.items s.ends.items held.branches c.args.parents.now by fits) in
    let place : c.len-row.result ≡ length L = omega arith in
    let end_place : c.len-row.result + 1 ≡ length L + 1 = ap (λ (j : ℕ). j + 1) place in
    let makers_are = c.move_end.ensures.makers in
    let ends_are : c.move_end.new.ends.items ≡ put_at s.ends.items b (length L + 1) = c.move_end.ensures.ends ∙ ap (λ k. put_at s.ends.items b k) end_place in
    let all = held.branches.all in
    let row = c.push.ensures.0 in
    let rows_are = c.push.ensures.1 in
    let next = c.push.ensures.3 in
    let rows_len = held.counts.len in
    let end : get_or row b 0 ≡ length L + 1 = next.end ∙ ap (λ (j : ℕ). j + 1) rows_len in
    let wide : member_count s.stakes ≤ length row = subst (λ n. n ≤ length row) held.counts_members next.wide in
    let others : (i : ℕ) → (i ≡ b → ⊥) → get_or row i 0 ≡ greatest_count (count_in s.counts.rows) link.parents i = next.others in
    let row_is : c.row_of-counts.result.row ≡ row = ap (λ (r : RowView). r.row) c.row_of-counts.ensures
    ∙ (ap (λ (rows : List (List ℕ)). get_or rows c.len-row.result []) rows_are ∙ get_or_push s.counts.rows row [] c.len-row.result (rows_len ∙ sym place)) in
    let told : (m : ℕ) → mask_has c.forked_next-forked.result m ≡ has_fork_below (L ++ link ∷ []) (length L) m = λ m.
    c.forked_next-forked.ensures m
    ∙ (ap (λ (ms : List ℕ). forks_next ms s.counts.rows s.forked.items c.if-members-len.many on by m) c.deref-2.ensures.value
    ∙ forks_told s.stakes L s.branches.items s.makers.items s.ends.items held.branches s.counts.rows held.counts s.forked.items held.forks short on by fits b serves c.if-members-len.many
    (λ one. elim c.if-members-len.branch [
      | then-members-len w ↦ (let over : c.len-members.result < c.len.result = w.if-members-len.true in absurd (true≢false (sym (lt-ltb c.len-members.result c.len.result over) ∙ (sym w.many-is ∙ one))))
      | else-members-len w ↦ (
          let low : b < c.len-members.result = lower c.len-members.result b (sym w.many-is ∙ one) in
          let is = c.len-members.ensures.value in
          (omega (arith, all, is), λ same. omega (arith, all, is)))
    ])
    m) in
    let counted = counts_last s.stakes L s.branches.items s.makers.items s.ends.items held.branches link fits b serves s.counts.rows row held.counts end others in
    let next_at : ℕ → ℕ → NextRow = λ end stake. record { branch = b; end = end; stake = stake } in
    let next_row : NextRow = next_at (length L + 1) (stake_of s.stakes by) in
    let landmarks_long : length c.note_all.new.landmarks ≡ length s.landmarks.items = c.note_all.ensures.len ∙ ap length c.deref_mut.ensures.value in
    let each : (i : ℕ) → i < length s.landmarks.items → landmark_at c.note_all.new.landmarks i ≡ noted row next_row (landmark_at s.landmarks.items i) = λ i h.
    c.note_all.ensures.each i (subst (λ (old : List LandmarkView). i < length old) (sym c.deref_mut.ensures.value) h)
    ∙ (ap (λ (old : List LandmarkView). noted c.row_of-counts.result.row (next_at (c.len-row.result + 1) c.at-stake.result) (landmark_at old i)) c.deref_mut.ensures.value
    ∙ (ap₂ (λ (counts : List ℕ) (e : ℕ). noted counts (next_at e c.at-stake.result) (landmark_at s.landmarks.items i)) row_is end_place
    ∙ ap (λ w. noted row (next_at (length L + 1) w) (landmark_at s.landmarks.items i)) c.at-stake.ensures)) in
    let low : total s.stakes ≤ 2 ^ 39 = subst (λ (g : ShapeWithRoom). total g.shape.members ≤ 2 ^ 39) (sym c.self.view_is) c.is_shaped.ensures.low in
    record {
      branches = rw (c.push-2.ensures, c.push-3.ensures, makers_are, ends_are, c.of.ensures)
          (branches_hold s.stakes L s.branches.items s.makers.items s.ends.items held.branches link fits b serves short);
      several = rw makers_are (several_more (member_count s.stakes) by s.makers.items b s.several c.with_several-self-inside.result
          (reach s.stakes L s.branches.items s.makers.items s.ends.items held.branches on by fits b b_is) held.several
          (λ m. c.with_several-self-inside.ensures m ∙ ap (λ (k : ℕ). mask_has s.several m || (nat_le k b && eqb m by)) c.len-members.ensures.value));
      counts = rw (c.push-2.ensures, c.push-3.ensures, makers_are, c.of.ensures, rows_are)
          (counts_hold s.stakes L s.branches.items s.makers.items s.ends.items held.branches link fits b serves s.counts.rows row held.counts wide end others);
      counts_members = c.push.ensures.2 ∙ held.counts_members;
      forks = rw (c.push-2.ensures, c.push-4.ensures, c.of.ensures) (forks_more L link s.forked.items c.forked_next-forked.result held.forks told);
      landmarks = rw (c.push-2.ensures, c.push-3.ensures, makers_are, c.of.ensures, c.open_branch.ensures, c.push_reserved.ensures.items)
          (subst (λ (landmarks : List LandmarkView). HoldsLandmarks s.stakes (L ++ link ∷ []) (s.branches.items ++ b ∷ []) (with_branch s.makers.items b by) landmarks (with_branch s.newest.items b 0) (s.numbers.items ++ 0 ∷ []))
          (sym (refilled s.landmarks.len c.note_all.new.landmarks s.landmarks.items (omega (arith, landmarks_long))))
          (landmarks_more s.stakes L s.branches.items s.makers.items s.ends.items held.branches low link fits b serves row counted short s.landmarks.items c.note_all.new.landmarks s.newest.items s.numbers.items short_of held.landmarks landmarks_long each));
      tops = rw c.open.ensures
          (subst (λ (landmarks : List LandmarkView). HoldsTops landmarks (with_branch s.tops.ends b 0)) (sym (refilled s.landmarks.len c.note_all.new.landmarks s.landmarks.items (omega (arith, landmarks_long))))
          (tops_noted s.landmarks.items c.note_all.new.landmarks (λ i h. (ap (λ (k : LandmarkView). k.end) (each i h), ap (λ (k : LandmarkView). k.branch) (each i h), ap (λ (k : LandmarkView). k.before) (each i h))) landmarks_long s.tops.ends b held.tops));
      widths = λ i h. (let low : i < length s.landmarks.items = omega (arith, landmarks_long, ap length (refilled s.landmarks.len c.note_all.new.landmarks s.landmarks.items (omega (arith, landmarks_long)))) in
          let was = held.widths i low in
          let is : (landmark_at c.note_all.new.landmarks i).none ≡ (landmark_at s.landmarks.items i).none = ap (λ (k : LandmarkView). k.none) (each i low) in
          subst (λ (landmarks : List LandmarkView). none_by s.wide ≤ (landmark_at landmarks i).none)
          (sym (refilled s.landmarks.len c.note_all.new.landmarks s.landmarks.items (omega (arith, landmarks_long)))) (omega arith));
      tops_all = rw (c.open.ensures, makers_are)
          (opened_long s.makers.items s.tops.ends b by (reach s.stakes L s.branches.items s.makers.items s.ends.items held.branches c.args.parents.now by fits b b_is) held.tops_all);
      spare = held.spare;
      rows_room = rw c.push-2.ensures (omega (arith, rows_room, length_push L c.of.result));
      links_room = omega arith;
      branches_room = omega arith;
      makers_room = omega arith;
      ends_room = omega arith;
      counts_room = omega arith;
      forked_room = omega arith;
      newest_room = omega arith;
      tops_room = omega arith;
      numbers_room = omega arith;
      landmarks_room = held.landmarks_room;
    }
