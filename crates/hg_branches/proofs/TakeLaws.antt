-- The columns of branches of no rows, and of the first rows of a graph
use Rattle.std.proofs.Common.{◌≡◌, ℕ, ◌+◌, ◌<◌, ◌≤◌, nat_lt, min, List, [], ◌∷◌, ◌++◌, length, get_or, take, true, sym, ap, ◌∙◌, refl, subst, inl, inr, arith}
use Rattle.std.proofs.lemmas.Bool.{cases_lt, lt-ltb}
use Rattle.std.proofs.lemmas.List.{length_push, length-take-le, get_or-take, get_or_append_left, get_or_push}
use Rattle.hg_model.specs.Stakes.{Stakes, member_count}
use Rattle.hg_model.specs.Links.{Link, links}
use Rattle.hg_model.specs.Ancestry.{is_ancestor}
use Rattle.hg_model.specs.Forks.{has_fork_below}
use Rattle.hg_model.proofs.AncestryLaws.{is_ancestor-le}
use Rattle.hg_model.proofs.ShapeLaws.{shaped-take}
use Rattle.hg_model.proofs.PushLaws.{shaped-none}
use Rattle.hg_model.proofs.LongerLaws.{longer-append, longer-take, creator-longer, is_ancestor-longer, is_self_ancestor-longer, has_fork_below-longer}
use Rattle.hg_bits.specs.Masks.{mask_has}
use Rattle.hg_ancestry.specs.Held.{HoldsForks}
use Rattle.hg_branches.specs.Branches.{CountsAncestors}
use Rattle.hg_branches.specs.Columns.{branching_of, count_in, HoldsBranches, HoldsCounts}

-- no rows

pub branches_none : (n : Stakes) (makers ends : List ℕ) → member_count n ≤ 128 → length makers ≡ member_count n → length ends ≡ member_count n → ((m : ℕ) → m < member_count n → get_or makers m 0 ≡ m) → HoldsBranches n [] [] makers ends
unfolding links
branches_none n makers ends few len ends_len own = record {
  shaped = shaped-none n;
  few = few;
  short = omega arith;
  rows = refl;
  own = own;
  all = omega arith;
  ends_all = ends_len ∙ sym len;
  members = λ b h. (let is : get_or makers b 0 ≡ b = own b (omega arith) in omega arith);
  known = λ x h. absurd (omega arith);
  lines = record { made = λ x h. absurd (omega arith); line = λ x y h le same. absurd (omega arith) };
  end = λ x h. absurd (omega arith);
  sparse = omega arith;
  early = λ x h. absurd (omega arith);
}

pub counts_none : (n : Stakes) (makers : List ℕ) → HoldsCounts n [] [] makers []
counts_none n makers = record {
  len = refl;
  row = λ x h. absurd (omega arith);
  wide = λ x h. absurd (omega arith);
}

pub forks_none : HoldsForks [] []
forks_none = record { len = refl; mask = λ x h m. absurd (omega arith) }

-- the first rows of a graph

module _ (n : Stakes) (L : List Link) (branches makers ends : List ℕ) (held : HoldsBranches n L branches makers ends) (len many : ℕ) (le : len ≤ length L) (is_many : many ≡ min (length makers) (member_count n + len)) where
  abbrev first : List Link
  first = take len L

  long : length (take len L) ≡ len
  long = length-take-le len L le

  makers_long : length (take many makers) ≡ many
  makers_long = length-take-le many makers (omega arith)

  branch_same : (x : ℕ) → x < len → get_or (take len branches) x 0 ≡ get_or branches x 0
  branch_same x h = get_or-take len branches x 0 h

  branch_low : (x : ℕ) → x < len → get_or branches x 0 < many
  branch_low x h = (let known = held.known x (omega arith) in let early = held.early x (omega arith) in omega arith)

  maker_same : (b : ℕ) → b < many → get_or (take many makers) b 0 ≡ get_or makers b 0
  maker_same b h = get_or-take many makers b 0 h

  pub branches_take : (new_ends : List ℕ) → length new_ends ≡ many → ((x : ℕ) → x < len → x < get_or new_ends (get_or branches x 0) 0) →
      HoldsBranches n (take len L) (take len branches) (take many makers) new_ends
  branches_take new_ends ends_len end =
      let longer = longer-take L len le in
      let all = held.all in
      let rows = held.rows in
      let last = long in
      let cut = makers_long in
      record {
        shaped = shaped-take n L len le held.shaped;
        few = held.few;
        short = (let was = held.short in omega arith);
        rows = length-take-le len branches (omega arith) ∙ sym long;
        own = λ m h. maker_same m (omega arith) ∙ held.own m h;
        all = omega arith;
        ends_all = ends_len ∙ sym makers_long;
        members = λ b h. (let low : b < many = omega arith in subst (λ k. k < member_count n) (sym (maker_same b low)) (held.members b (omega arith)));
        known = λ x h. (let low : x < len = omega arith in let is = branch_same x low in let b = branch_low x low in omega arith);
        lines = record {
          made = λ x h. (let low : x < len = omega arith in
              sym (creator-longer (take len L) L longer x h) ∙ (held.lines.made x (omega arith)
              ∙ (sym (maker_same (get_or branches x 0) (branch_low x low)) ∙ ap (λ b. get_or (take many makers) b 0) (sym (branch_same x low)))));
          line = λ x y hx up same. (let low_x : x < len = omega arith in let low_y : y < len = omega arith in
              sym (is_self_ancestor-longer (take len L) L longer x y hx)
              ∙ held.lines.line x y (omega arith) up (sym (branch_same x low_x) ∙ (same ∙ branch_same y low_y)));
        };
        end = λ x h. (let low : x < len = omega arith in subst (λ b. x < get_or new_ends b 0) (sym (branch_same x low)) (end x low));
        sparse = omega arith;
        early = λ x h. (let low : x < len = omega arith in let is = branch_same x low in let was = held.early x (omega arith) in omega arith);
      }

  counts_first : (x : ℕ) (count : ℕ → ℕ) → x < len → CountsAncestors L (branching_of branches makers) x count → CountsAncestors (take len L) (branching_of (take len branches) (take many makers)) x count
  counts_first x count hx row =
      let longer = longer-take L len le in
      let last = long in
      record {
        told = λ y hy. (let low : y < len = omega arith in
            ap (λ b. nat_lt y (count b)) (branch_same y low) ∙ (row.told y (omega arith) ∙ is_ancestor-longer (take len L) L longer x y (omega arith)));
        last = λ b some.
            let z = row.last b some in
            let hz : z.0 < length L = z.1 in
            let end : z.0 + 1 ≡ count b = z.3 in
            let up : is_ancestor L x z.0 ≡ true = sym (row.told z.0 hz) ∙ (ap (λ b. nat_lt z.0 (count b)) z.2 ∙ lt-ltb z.0 (count b) (omega arith)) in
            let low : z.0 ≤ x = is_ancestor-le L held.shaped.earlier x z.0 up in
            (z.0, omega arith, branch_same z.0 (omega arith) ∙ z.2, end);
      }

  pub counts_take : (counts : List (List ℕ)) → HoldsCounts n L branches makers counts → HoldsCounts n (take len L) (take len branches) (take many makers) (take len counts)
  counts_take counts rows =
      let rows_len = rows.len in
      let last = long in
      let same : (x : ℕ) → x < len → get_or (take len counts) x [] ≡ get_or counts x [] = λ x h. get_or-take len counts x [] h in
      record {
        len = length-take-le len counts (omega arith) ∙ sym long;
        row = λ x h. (let low : x < len = omega arith in
            subst (λ r. CountsAncestors (take len L) (branching_of (take len branches) (take many makers)) x (λ b. get_or r b 0)) (sym (same x low))
            (counts_first x (count_in counts x) low (rows.row x (omega arith))));
        wide = λ x h. (let low : x < len = omega arith in subst (λ r. member_count n ≤ length r) (sym (same x low)) (rows.wide x (omega arith)));
      }

  pub forks_take : (masks : List ℕ) → HoldsForks L masks → HoldsForks (take len L) (take len masks)
  forks_take masks forks =
      let longer = longer-take L len le in
      let masks_len = forks.len in
      let last = long in
      record {
        len = length-take-le len masks (omega arith) ∙ sym long;
        mask = λ x h m. (let low : x < len = omega arith in
            ap (λ k. mask_has k m) (get_or-take len masks x 0 low) ∙ (forks.mask x (omega arith) m ∙ has_fork_below-longer (take len L) L longer x m h));
      }

-- the masks with one more
pub forks_more : (L : List Link) (link : Link) (masks : List ℕ) (mask : ℕ) → HoldsForks L masks → ((m : ℕ) → mask_has mask m ≡ has_fork_below (L ++ link ∷ []) (length L) m) →
    HoldsForks (L ++ link ∷ []) (masks ++ mask ∷ [])
forks_more L link masks mask forks is =
    let len : length (L ++ link ∷ []) ≡ length L + 1 = length_push L link in
    record {
      len = length_push masks mask ∙ (ap (λ (k : ℕ). k + 1) forks.len ∙ sym len);
      mask = λ x h m. elim (cases_lt x (length L)) [
        | inl before ↦ (let masks_len = forks.len in ap (λ k. mask_has k m) (get_or_append_left masks (mask ∷ []) 0 x (omega arith))
            ∙ (forks.mask x before m ∙ sym (has_fork_below-longer L (L ++ link ∷ []) (longer-append L (link ∷ [])) x m before)))
        | inr past ↦ (let same : x ≡ length L = omega arith in rw same (ap (λ k. mask_has k m) (get_or_push masks mask 0 (length L) forks.len) ∙ is m))
      ];
    }
