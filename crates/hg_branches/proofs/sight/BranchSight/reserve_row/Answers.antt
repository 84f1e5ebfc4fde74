use Rattle.std.proofs.Common.{◌≡◌, ◌<◌, ◌≤◌, ◌+◌, ◌∙◌, ℕ, true, List, length, sym, ap, subst, arith}
use Rattle.hg_branches.specs.declared.sight.BranchSight.TheInside.{Inside}
use Rattle.hg_branches.specs.Columns.{room_of}
use Rattle.hg_branches.specs.Firsts.{none_by}
use Rattle.hg_branches.specs.Landmarks.{LandmarkView, landmark_at, HoldsLandmarks, HoldsTops, IsWidened}
use Rattle.hg_branches.specs.Sight.{HoldsBranchSight}
use Rattle.hg_branches.proofs.ChainLaws.{refilled}
use Rattle.hg_branches.proofs.WidenLaws.{landmarks_widened, none_widened, none_within, tops_widened}
use Rattle.hg_branches.proofs.sight.BranchSight.reserve_row.Goals as goal

-- the landmarks after the call, some or all of which are in 32 bits
record IsKept (s : Inside) (new : List LandmarkView) : Type 0 where
  pub landmarks : HoldsLandmarks s.stakes s.links.items s.branches.items s.makers.items new s.newest.items s.numbers.items
  pub tops : HoldsTops new s.tops.ends
  pub widths : (i : ℕ) → i < length new → none_by s.wide ≤ (landmark_at new i).none

kept : (s : Inside) → HoldsBranchSight s → (given new : List LandmarkView) → given ≡ s.landmarks.items → length new ≡ length given →
    ((i : ℕ) → i < length given → IsWidened (landmark_at given i) (landmark_at new i)) → IsKept s new
kept s held given new is long each =
    let old = s.landmarks.items in
    let all : length new ≡ length old = long ∙ ap length is in
    let widened : (i : ℕ) → i < length old → IsWidened (landmark_at old i) (landmark_at new i) =
    subst (λ (ks : List LandmarkView). (i : ℕ) → i < length ks → IsWidened (landmark_at ks i) (landmark_at new i)) is each in
    record {
      landmarks = landmarks_widened old new all widened s.stakes s.links.items s.branches.items s.makers.items s.newest.items s.numbers.items held.landmarks;
      tops = tops_widened old new all widened s.tops.ends held.tops;
      widths = none_widened old new all widened (none_by s.wide) (none_within s.wide) held.widths;
    }

-- where no memory is told, none need be there
nothing : (room most : ℕ) → room ≡ 0 → room ≤ most
nothing room most none = omega arith

weaker : (room long most : ℕ) → room ≡ 0 → long + 1 ≤ most → long + room ≤ most
weaker room long most none more = omega arith

pub invariant_of-self-in_err-widen_all : goal.invariant_of-self-in_err-widen_all
invariant_of-self-in_err-widen_all c =
    let s = c.self.inside in
    let held = c.self.invariant in
    let new = c.widen_all.new.landmarks in
    let long : length new ≡ length s.landmarks.items = c.widen_all.ensures.len ∙ ap length c.deref_mut.ensures.value in
    let after = kept s held c.deref_mut.result.now new c.deref_mut.ensures.value c.widen_all.ensures.len c.widen_all.ensures.each in
    let filled = refilled s.landmarks.len new s.landmarks.items (omega (arith, long)) in
    let within = none_within s.wide in
    let off : room_of s.ready ≡ 0 = ap room_of c.if-self.false in
    let links = c.in_ok-reserve.ensures.same in
    let branches = c.in_ok-reserve-2.ensures.same in
    let makers = c.in_ok-reserve-3.ensures.items in
    let ends = c.in_ok-reserve-4.ensures.items in
    let counts = c.in_ok-reserve-5.ensures.rows in
    let members = c.in_ok-reserve-5.ensures.members in
    let forked = c.in_ok-reserve-6.ensures.same in
    let newest = c.in_ok-reserve-7.ensures.items in
    let tops = c.in_ok-reserve-8.ensures.ends in
    let numbers = c.in_ok-reserve-9.ensures.items in
    record {
      branches = rw (links, branches, makers, ends) held.branches;
      several = rw makers held.several;
      counts = rw (links, branches, makers, counts) held.counts;
      counts_members = members ∙ held.counts_members;
      forks = rw (links, forked) held.forks;
      landmarks = rw (links, branches, makers, newest, numbers)
          (subst (λ (ks : List LandmarkView). HoldsLandmarks s.stakes s.links.items s.branches.items s.makers.items ks s.newest.items s.numbers.items) (sym filled) after.landmarks);
      tops = rw tops (subst (λ (ks : List LandmarkView). HoldsTops ks s.tops.ends) (sym filled) after.tops);
      tops_all = ap length tops ∙ (held.tops_all ∙ sym (ap length makers));
      spare = tt;
      widths = subst (λ (ks : List LandmarkView). (i : ℕ) → i < length ks → none_by s.wide ≤ (landmark_at ks i).none) (sym filled) after.widths;
      rows_room = (let room = held.rows_room in omega (arith, ap length links));
      links_room = nothing (room_of s.ready) _ off;
      branches_room = nothing (room_of s.ready) _ off;
      makers_room = weaker (room_of s.ready) _ _ off c.in_ok-reserve-3.ensures.ok;
      ends_room = weaker (room_of s.ready) _ _ off c.in_ok-reserve-4.ensures.ok;
      counts_room = nothing (room_of s.ready) _ off;
      forked_room = nothing (room_of s.ready) _ off;
      newest_room = weaker (room_of s.ready) _ _ off c.in_ok-reserve-7.ensures.ok;
      tops_room = nothing (room_of s.ready) _ off;
      numbers_room = weaker (room_of s.ready) _ _ off c.in_ok-reserve-9.ensures.ok;
      landmarks_room = (let room = held.landmarks_room in omega arith);
    }

pub invariant_of-self-2 : goal.invariant_of-self-2
invariant_of-self-2 c =
    let s = c.self.inside in
    let held = c.self.invariant in
    let new = c.widen_all.new.landmarks in
    let long : length new ≡ length s.landmarks.items = c.widen_all.ensures.len ∙ ap length c.deref_mut.ensures.value in
    let after = kept s held c.deref_mut.result.now new c.deref_mut.ensures.value c.widen_all.ensures.len c.widen_all.ensures.each in
    let filled = refilled s.landmarks.len new s.landmarks.items (omega (arith, long)) in
    let within = none_within s.wide in
    let links = c.in_ok-reserve.ensures.same in
    let branches = c.in_ok-reserve-2.ensures.same in
    let makers = c.in_ok-reserve-3.ensures.items in
    let ends = c.in_ok-reserve-4.ensures.items in
    let counts = c.in_ok-reserve-5.ensures.rows in
    let members = c.in_ok-reserve-5.ensures.members in
    let forked = c.in_ok-reserve-6.ensures.same in
    let newest = c.in_ok-reserve-7.ensures.items in
    let tops = c.in_ok-reserve-8.ensures.ends in
    let numbers = c.in_ok-reserve-9.ensures.items in
    record {
      branches = rw (links, branches, makers, ends) held.branches;
      several = rw makers held.several;
      counts = rw (links, branches, makers, counts) held.counts;
      counts_members = members ∙ held.counts_members;
      forks = rw (links, forked) held.forks;
      landmarks = rw (links, branches, makers, newest, numbers)
          (subst (λ (ks : List LandmarkView). HoldsLandmarks s.stakes s.links.items s.branches.items s.makers.items ks s.newest.items s.numbers.items) (sym filled) after.landmarks);
      tops = rw tops (subst (λ (ks : List LandmarkView). HoldsTops ks s.tops.ends) (sym filled) after.tops);
      tops_all = ap length tops ∙ (held.tops_all ∙ sym (ap length makers));
      spare = tt;
      widths = subst (λ (ks : List LandmarkView). (i : ℕ) → i < length ks → none_by true ≤ (landmark_at ks i).none) (sym filled) (λ i h. (let is = c.in_ok-widen_all.ensures.ok i h in omega arith));
      rows_room = (let room = held.rows_room in omega (arith, ap length links));
      links_room = c.in_ok-reserve.ensures.room;
      branches_room = c.in_ok-reserve-2.ensures.room;
      makers_room = c.in_ok-reserve-3.ensures.ok;
      ends_room = c.in_ok-reserve-4.ensures.ok;
      counts_room = c.in_ok-reserve-5.ensures.room;
      forked_room = c.in_ok-reserve-6.ensures.room;
      newest_room = c.in_ok-reserve-7.ensures.ok;
      tops_room = c.in_ok-reserve-8.ensures.room;
      numbers_room = c.in_ok-reserve-9.ensures.ok;
      landmarks_room = (let room = held.landmarks_room in omega arith);
    }
