-- What the bit rows and the masks hold when the graph grows, and of its first rows
use Rattle.std.proofs.Common.{◌≡◌, ℕ, ◌+◌, ◌-◌, ◌<◌, ◌≤◌, ◌^◌, ◌||◌, eqb, Bool, List, [], ◌∷◌, ◌++◌, length, take, sym, ap, ap₂, ◌∙◌, refl, inl, inr, arith}
use Rattle.std.specs.List.{list_any}
use Rattle.std.proofs.lemmas.Bool.{cases_lt}
use Rattle.std.proofs.lemmas.List.{length_push, length-take-le, get_or_append_left, get_or_push, get_or-take}
use Rattle.hg_model.specs.Places.{table}
use Rattle.hg_model.specs.Stakes.{Stakes, member_count}
use Rattle.hg_model.specs.Links.{Link, links, parents}
use Rattle.hg_model.specs.Ancestry.{is_ancestor}
use Rattle.hg_model.specs.Forks.{has_fork_below}
use Rattle.hg_model.specs.Graph.{IsShaped}
use Rattle.hg_model.specs.Shape.{FitsLink, link_of}
use Rattle.hg_model.proofs.LinkLaws.{parents_read}
use Rattle.hg_model.proofs.ReachLaws.{list_any-same}
use Rattle.hg_model.proofs.AncestryLaws.{is_ancestor-at}
use Rattle.hg_model.proofs.PushLaws.{shape-push, shaped-none}
use Rattle.hg_model.proofs.ShapeLaws.{shaped-take}
use Rattle.hg_model.proofs.LongerLaws.{longer-append, longer-take, is_ancestor-longer, has_fork_below-longer}
use Rattle.hg_bits.specs.Masks.{mask_has}
use Rattle.hg_bits.proofs.RowLaws.{table-same}
use Rattle.hg_ancestry.proofs.SeerLaws.{eqb_turned}
use Rattle.hg_ancestry.specs.Held.{is_above, row_at, HoldsSight}

-- nothing

pub sight_none : (n : Stakes) → member_count n ≤ 128 → HoldsSight n [] [] []
unfolding links
sight_none n few = record {
  shaped = shaped-none n;
  few = few;
  short = omega arith;
  ancestors = record { len = refl; row = λ x h. absurd (omega arith) };
  forks = record { len = refl; mask = λ x h m. absurd (omega arith) };
}

-- one row more

module _ (n : Stakes) (L : List Link) (link : Link) (s : IsShaped n L) (fits : FitsLink n L link) where
  pub parents_last : parents (L ++ link ∷ []) (length L) ≡ link.parents
  parents_last = parents_read (L ++ link ∷ []) (length L) link (omega (arith, length_push L link)) (sym (get_or_push L link link (length L) refl))

  -- the ancestors of the new row: itself, and what is above its parents
  pub above_last : (y : ℕ) → is_ancestor (L ++ link ∷ []) (length L) y ≡ (eqb y (length L) || list_any (λ p. is_ancestor L p y) link.parents)
  above_last y =
      let M = L ++ link ∷ [] in
      is_ancestor-at M (shape-push n L link s fits).earlier (length L) y
      ∙ ap₂ (λ (a b : Bool). a || b) (eqb_turned (length L) y)
      (ap (list_any (λ p. is_ancestor M p y)) parents_last
      ∙ list_any-same (λ p. is_ancestor M p y) (λ p. is_ancestor L p y) link.parents (λ p h. is_ancestor-longer L M (longer-append L (link ∷ [])) p y (fits.earlier p h)))

  pub sight_more : (rows : List (List Bool)) (masks : List ℕ) (row : List Bool) (mask : ℕ) → HoldsSight n L rows masks → length L + 1 < 2 ^ 32 - 1 →
      row ≡ table (λ k. eqb k (length L) || list_any (λ p. is_ancestor L p k) link.parents) (length L + 1) →
      ((m : ℕ) → mask_has mask m ≡ has_fork_below (L ++ link ∷ []) (length L) m) → HoldsSight n (L ++ link ∷ []) (rows ++ row ∷ []) (masks ++ mask ∷ [])
  unfolding row_at
  sight_more rows masks row mask held short row_is mask_is =
      let M = L ++ link ∷ [] in
      let longer = longer-append L (link ∷ []) in
      let len : length M ≡ length L + 1 = length_push L link in
      record {
        shaped = shape-push n L link s fits;
        few = held.few;
        short = omega (arith, len);
        ancestors = record {
          len = length_push rows row ∙ (ap (λ (k : ℕ). k + 1) held.ancestors.len ∙ sym len);
          row = λ x h. elim (cases_lt x (length L)) [
            | inl before ↦ get_or_append_left rows (row ∷ []) [] x (omega (arith, held.ancestors.len))
                ∙ ((unfold row_at in held.ancestors.row x before) ∙ table-same (is_ancestor L x) (is_ancestor M x) (x + 1) (λ y hy. sym (is_ancestor-longer L M longer x y before)))
            | inr past ↦ (let same : x ≡ length L = omega (arith, len) in
                rw same (get_or_push rows row [] (length L) held.ancestors.len ∙ (row_is
                ∙ table-same (λ k. eqb k (length L) || list_any (λ p. is_ancestor L p k) link.parents) (is_ancestor M (length L)) (length L + 1) (λ y hy. sym (above_last y)))))
          ];
        };
        forks = record {
          len = length_push masks mask ∙ (ap (λ (k : ℕ). k + 1) held.forks.len ∙ sym len);
          mask = λ x h m. elim (cases_lt x (length L)) [
            | inl before ↦ ap (λ k. mask_has k m) (get_or_append_left masks (mask ∷ []) 0 x (omega (arith, held.forks.len)))
                ∙ (held.forks.mask x before m ∙ sym (has_fork_below-longer L M longer x m before))
            | inr past ↦ (let same : x ≡ length L = omega (arith, len) in
                rw same (ap (λ k. mask_has k m) (get_or_push masks mask 0 (length L) held.forks.len) ∙ mask_is m))
          ];
        };
      }

-- the first rows
pub sight_take : (n : Stakes) (L : List Link) (rows : List (List Bool)) (masks : List ℕ) (len : ℕ) → len ≤ length L → HoldsSight n L rows masks →
    HoldsSight n (take len L) (take len rows) (take len masks)
unfolding row_at
sight_take n L rows masks len le held =
    let longer = longer-take L len le in
    let long : length (take len L) ≡ len = length-take-le len L le in
    record {
      shaped = shaped-take n L len le held.shaped;
      few = held.few;
      short = omega (arith, long, held.short);
      ancestors = record {
        len = length-take-le len rows (omega (arith, held.ancestors.len)) ∙ sym long;
        row = λ x h. (let before : x < len = omega (arith, long) in
            get_or-take len rows x [] before
            ∙ ((unfold row_at in held.ancestors.row x (omega arith))
            ∙ table-same (is_ancestor L x) (is_ancestor (take len L) x) (x + 1) (λ y hy. is_ancestor-longer (take len L) L longer x y h)));
      };
      forks = record {
        len = length-take-le len masks (omega (arith, held.forks.len)) ∙ sym long;
        mask = λ x h m. (let before : x < len = omega (arith, long) in
            ap (λ k. mask_has k m) (get_or-take len masks x 0 before)
            ∙ (held.forks.mask x (omega arith) m ∙ has_fork_below-longer (take len L) L longer x m h));
      };
    }

-- its link's parents as they were given
pub sight_grown : (n : Stakes) (L : List Link) (by : ℕ) (on : List ℕ) (rows : List (List Bool)) (masks : List ℕ) (row : List Bool) (mask : ℕ) →
    HoldsSight n L rows masks → FitsLink n L (link_of by on) → length L + 1 < 2 ^ 32 - 1 → row ≡ table (λ k. eqb k (length L) || is_above L on k) (length L + 1) →
    ((m : ℕ) → mask_has mask m ≡ has_fork_below (L ++ link_of by on ∷ []) (length L) m) → HoldsSight n (L ++ link_of by on ∷ []) (rows ++ row ∷ []) (masks ++ mask ∷ [])
sight_grown n L by on rows masks row mask held fits short row_is mask_is = sight_more n L (link_of by on) held.shaped fits rows masks row mask held short row_is mask_is
