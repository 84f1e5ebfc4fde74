-- Where no member has a second branch, the counts are by member
use Rattle.std.proofs.Common.{◌≡◌, ℕ, ◌<◌, nat_lt, List, [], length, get_or, take, sym, ap, ◌∙◌, inl, inr, arith}
use Rattle.std.proofs.lemmas.Bool.{cases_lt}
use Rattle.std.proofs.lemmas.List.{length-take-le, get_or-take, get_or_past}
use Rattle.hg_model.specs.Stakes.{Stakes, member_count}
use Rattle.hg_model.specs.Links.{Link, creator}
use Rattle.hg_model.specs.Counts.{CountsMembers}
use Rattle.hg_branches.specs.Columns.{HoldsBranches, HoldsCounts}

module _ (n : Stakes) (L : List Link) (branches makers ends : List ℕ) (held : HoldsBranches n L branches makers ends) (one : length makers ≡ member_count n) where
  -- each row stands on its creator's own branch
  on_own : (x : ℕ) → x < length L → creator L x ≡ get_or branches x 0
  on_own x hx = (let known = held.known x hx in held.lines.made x hx ∙ held.own (get_or branches x 0) (omega arith))

  pub counts_members : (counts : List (List ℕ)) → HoldsCounts n L branches makers counts → (x : ℕ) → x < length L → CountsMembers n L x (take (member_count n) (get_or counts x []))
  counts_members counts rows x hx =
      let row : List ℕ = get_or counts x [] in
      let wide : length (take (member_count n) row) ≡ member_count n = length-take-le (member_count n) row (rows.wide x hx) in
      record {
        wide = wide;
        told = λ y hy. (let known = held.known y hy in
            ap (λ b. nat_lt y (get_or (take (member_count n) row) b 0)) (on_own y hy)
            ∙ (ap (λ k. nat_lt y k) (get_or-take (member_count n) row (get_or branches y 0) 0 (omega arith)) ∙ (rows.row x hx).told y hy));
        last = λ m some. elim (cases_lt m (member_count n)) [
          | inl member ↦
              (let taken : get_or (take (member_count n) row) m 0 ≡ get_or row m 0 = get_or-take (member_count n) row m 0 member in
              let z = (rows.row x hx).last m (omega arith) in
              (z.0, z.1, on_own z.0 z.1 ∙ z.2, z.3 ∙ sym taken))
          | inr past ↦ (let none = get_or_past (take (member_count n) row) m 0 (omega arith) in absurd (omega arith))
        ];
        line = λ y z hy le same. held.lines.line y z hy le (sym (on_own y hy) ∙ (same ∙ on_own z (omega arith)));
      }
