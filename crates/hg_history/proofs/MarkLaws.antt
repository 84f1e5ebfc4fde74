-- Marks that are fame stay so when a row comes and when marks are published, and closed rounds stay closed
use Rattle.std.proofs.Common.{◌≡◌, ◌⊎◌, inl, inr, ℕ, ◌<◌, ◌≤◌, Bool, true, false, cond, ◌&&◌, List, [], ◌∷◌, ◌++◌, length, take, Option, Some, None, sym, refl, ap, ap₂, ◌∙◌, subst, arith}
use Rattle.std.specs.Option.{option_or}
use Rattle.std.proofs.lemmas.Bool.{and_parts, and_from, cases_lt}
use Rattle.std.proofs.lemmas.List.{length_push, get_or_push, length-take-le}
use Rattle.std.proofs.lemmas.List.FromFn.{length-map-range_with_len}
use Rattle.hg_model.specs.declared.row.Row.{Row}
use Rattle.hg_model.specs.Stakes.{Stakes}
use Rattle.hg_model.specs.Links.{Link, links}
use Rattle.hg_model.specs.Graph.{IsGraph}
use Rattle.hg_model.specs.Rounds.{round_of, is_witness}
use Rattle.hg_model.specs.Fame.{Marks, mark_at, fame_of, is_closed}
use Rattle.hg_model.specs.Order.{coin_at}
use Rattle.hg_model.specs.Shares.{Share, is_of_share, share_fame, early_fame}
use Rattle.hg_life.specs.History.{State, links_with, is_late, first_mark, with_row, new_mark, with_marks}
use Rattle.hg_model.specs.Orders.{AreFame}
use Rattle.hg_agree.proofs.LateLaws.{closed_mark}
use Rattle.hg_model.proofs.LinkLaws.{length-links}
use Rattle.hg_model.proofs.LongerLaws.{IsLonger, longer-take, coin_at-take, links-longer, coin_at-longer, round_of-longer, is_witness-longer}
use Rattle.hg_model.proofs.RoundLaws.{round_of-pos}
use Rattle.hg_agree.proofs.LaterLaws.{fame_kept, late_is_not_famous}
use Rattle.hg_prefix.proofs.FamousLaws.{witness_of_closed, closed_from}
use Rattle.hg_prefix.proofs.ClosedLaws.{closed_below}
use Rattle.hg_history.proofs.StateLaws.{IsEven, old_mark, mark_within, mark_of_table}
use Rattle.hg_model.proofs.ShapeLaws.{shaped-shorter}

-- x is a witness of M, in a round that L has closed
abbrev comes_late : Stakes → List Link → List Link → Marks → ℕ → Bool
comes_late n L M marks x = is_witness n M x && is_closed n L marks (round_of n M x)

mark_of_late : (late : Bool) (v : Bool) → cond late (Some false) None ≡ Some v → (late ≡ true) × (v ≡ false)
mark_of_late true v is = (refl, cc)
mark_of_late false v is = cc

-- a row comes
module _ (n : Stakes) (c : ℕ) (s : State) (row : Row) (g : IsGraph n s.rows) (u : IsGraph n (s.rows ++ row ∷ [])) (even : IsEven s) (three : 2 < c)
    (linked : s.links ≡ links s.rows) (pushed : links_with s row ≡ links (s.rows ++ row ∷ [])) (fame : AreFame n c s.rows s.marks) where
  longer : IsLonger (links s.rows) (links (s.rows ++ row ∷ []))
  longer = links-longer n s.rows (row ∷ []) g.shaped

  same_coin : (y : ℕ) → y < length (links s.rows) → coin_at (s.rows ++ row ∷ []) y ≡ coin_at s.rows y
  same_coin y inside = coin_at-longer s.rows (row ∷ []) y (rw (← length-links s.rows) inside)

  late_is : is_late n s row ≡ comes_late n (links s.rows) (links (s.rows ++ row ∷ [])) s.marks (length s.rows)
  late_is =
      ap₂ (λ (L M : List Link). comes_late n L M s.marks (length L)) linked pushed
      ∙ ap (λ (k : ℕ). comes_late n (links s.rows) (links (s.rows ++ row ∷ [])) s.marks k) (length-links s.rows)

  mark_last : mark_at (with_row n s row).marks (length s.rows) ≡ first_mark n s row
  mark_last = get_or_push s.marks (first_mark n s row) None (length s.rows) even.marks

  mark_before : (x : ℕ) → x < length s.rows → mark_at (with_row n s row).marks x ≡ mark_at s.marks x
  mark_before x inside = old_mark n c s row x (omega (arith, even.marks))

  last_inside : length s.rows < length (links (s.rows ++ row ∷ []))
  last_inside = omega (arith, length-links (s.rows ++ row ∷ []), length_push s.rows row)

  -- a row that is marked at once is not famous
  first_is_fame : (v : Bool) → first_mark n s row ≡ Some v → fame_of n c (links (s.rows ++ row ∷ [])) (coin_at (s.rows ++ row ∷ [])) (length s.rows) ≡ Some v
  first_is_fame v is =
      let L = links s.rows in
      let M = links (s.rows ++ row ∷ []) in
      let x = length s.rows in
      let mark = mark_of_late (is_late n s row) v is in
      let late = and_parts (is_witness n M x) (is_closed n L s.marks (round_of n M x)) (sym late_is ∙ mark.0) in
      late_is_not_famous n c L M g.shaped u.shaped u.few_forkers longer (coin_at s.rows) (coin_at (s.rows ++ row ∷ [])) same_coin
      s.marks (round_of n M x) x fame.fame late.1 three (omega (arith, length-links s.rows)) last_inside late.0 (omega arith)
      ∙ ap (λ (b : Bool). Some b) (sym mark.1)

  pub fame_with_row : AreFame n c (s.rows ++ row ∷ []) (with_row n s row).marks
  fame_with_row = record {
    fame = λ x v is. elim (cases_lt x (length s.rows)) [
      | inl old ↦ fame_kept n c (links s.rows) (links (s.rows ++ row ∷ [])) g.shaped u.shaped u.few_forkers longer (coin_at s.rows) (coin_at (s.rows ++ row ∷ [])) same_coin
          x v (fame.fame x v (sym (mark_before x old) ∙ is))
      | inr new ↦ (
          let inside = mark_within (with_row n s row).marks x v is in
          let at : x ≡ length s.rows = omega (arith, even.marks, length_push s.marks (first_mark n s row)) in
          ap (fame_of n c (links (s.rows ++ row ∷ [])) (coin_at (s.rows ++ row ∷ []))) at
          ∙ first_is_fame v (sym mark_last ∙ (ap (mark_at (with_row n s row).marks) (sym at) ∙ is)))
    ];
  }

  -- a closed round stays closed
  pub closed_with_row : (r : ℕ) → is_closed n (links s.rows) s.marks r ≡ true → is_closed n (links (s.rows ++ row ∷ [])) (with_row n s row).marks r ≡ true
  closed_with_row r closed =
      let L = links s.rows in
      let M = links (s.rows ++ row ∷ []) in
      let e = g.shaped.earlier in
      let len : length L ≡ length s.rows = length-links s.rows in
      let more = longer.more in
      let w = witness_of_closed n L s.marks r closed in
      let inside = w.1.inside in
      closed_from n M (with_row n s row).marks r w.0
      (record {
        inside = omega arith;
        witness = is_witness-longer L M longer n e w.0 inside ∙ w.1.witness;
        in_round = round_of-longer L M longer n w.0 inside ∙ w.1.in_round;
      })
      (λ y hy witness le. elim (cases_lt y (length s.rows)) [
        | inl old ↦ (
            let hy' : y < length L = omega arith in
            let same = round_of-longer L M longer n y hy' in
            let mark = closed_mark n L s.marks r closed y hy' (sym (is_witness-longer L M longer n e y hy') ∙ witness) (omega arith) in
            (mark.0, mark_before y old ∙ mark.1))
        | inr new ↦ (
            let at : y ≡ length s.rows = omega (arith, length-links (s.rows ++ row ∷ []), length_push s.rows row) in
            let pos = round_of-pos n M u.shaped.earlier y in
            let here = closed_below n L e s.marks r (round_of n M y) closed pos le in
            let late : comes_late n L M s.marks (length s.rows) ≡ true = subst (λ (k : ℕ). comes_late n L M s.marks k ≡ true) at (and_from (is_witness n M y) (is_closed n L s.marks (round_of n M y)) witness here) in
            (false, ap (mark_at (with_row n s row).marks) at ∙ (mark_last ∙ ap (λ (b : Bool). cond b (Some false) None) (late_is ∙ late))))
      ])

  -- and a row closes no round
  pub closed_before_row : (r : ℕ) → is_closed n (links (s.rows ++ row ∷ [])) (with_row n s row).marks r ≡ true → is_closed n (links s.rows) s.marks r ≡ true
  closed_before_row r closed =
      let L = links s.rows in
      let M = links (s.rows ++ row ∷ []) in
      let e = g.shaped.earlier in
      let len : length L ≡ length s.rows = length-links s.rows in
      let more = longer.more in
      let w = witness_of_closed n M (with_row n s row).marks r closed in
      let marked : (y : ℕ) → y < length L → is_witness n L y ≡ true → round_of n L y ≤ r → (v : Bool) × (mark_at s.marks y ≡ Some v) = λ y inside witness le.
      let same = round_of-longer L M longer n y inside in
      let mark = closed_mark n M (with_row n s row).marks r closed y (omega arith) (is_witness-longer L M longer n e y inside ∙ witness) (omega arith) in
      (mark.0, sym (mark_before y (omega arith)) ∙ mark.1) in
      elim (cases_lt w.0 (length s.rows)) [
        | inl old ↦ (
            let inside : w.0 < length L = omega arith in
            closed_from n L s.marks r w.0
            (record {
              inside = inside;
              witness = sym (is_witness-longer L M longer n e w.0 inside) ∙ w.1.witness;
              in_round = sym (round_of-longer L M longer n w.0 inside) ∙ w.1.in_round;
            })
            marked)
        | inr new ↦ (
            let in_M = w.1.inside in
            let at : w.0 ≡ length s.rows = omega (arith, length-links (s.rows ++ row ∷ []), length_push s.rows row) in
            let here = w.1.in_round in
            let mark = closed_mark n M (with_row n s row).marks r closed w.0 in_M w.1.witness (omega arith) in
            let late = mark_of_late (is_late n s row) mark.0 (sym mark_last ∙ (ap (mark_at (with_row n s row).marks) (sym at) ∙ mark.1)) in
            let parts = and_parts (is_witness n M (length s.rows)) (is_closed n L s.marks (round_of n M (length s.rows))) (sym late_is ∙ late.0) in
            subst (λ (k : ℕ). is_closed n L s.marks k ≡ true) (ap (round_of n M) (sym at) ∙ here) parts.1)
      ]

-- marks are published

share_fame_is : (mine : Bool) (fame : Option Bool) (v : Bool) → cond mine fame None ≡ Some v → (mine ≡ true) × (fame ≡ Some v)
share_fame_is true fame v is = (refl, is)
share_fame_is false fame v is = cc

new_mark_is : (old new : Option Bool) (v : Bool) → option_or old new ≡ Some v → (old ≡ Some v) ⊎ (new ≡ Some v)
new_mark_is None new v is = inr is
new_mark_is (Some o) new v is = inl is

module _ (n : Stakes) (c : ℕ) (s : State) (g : IsGraph n s.rows) (linked : s.links ≡ links s.rows) (len : ℕ) (share : Share) (le : len ≤ length s.rows) where
  -- what a share finds in the first rows is fame in all rows
  pub early_is_fame : (x : ℕ) (v : Bool) → early_fame n c s.rows s.links len share x ≡ Some v → fame_of n c (links s.rows) (coin_at s.rows) x ≡ Some v
  unfolding share_fame
  early_is_fame x v is =
      let L : List Link = take len s.links in
      let le' : len ≤ length s.links = rw linked (omega (arith, length-links s.rows)) in
      let size = length-take-le len s.links le' in
      let size' = length-take-le len s.rows le in
      let front : IsLonger L (links s.rows) = subst (IsLonger L) linked (longer-take s.links len le') in
      let found = share_fame_is (is_of_share n L share x) (fame_of n c L (coin_at (take len s.rows)) x) v is in
      fame_kept n c L (links s.rows) (shaped-shorter n L (links s.rows) front g.shaped) g.shaped g.few_forkers front (coin_at (take len s.rows)) (coin_at s.rows)
      (λ y inside. coin_at-take s.rows len y (omega arith)) x v found.1

  pub fame_with_marks : AreFame n c s.rows s.marks → AreFame n c s.rows (with_marks n c s len share).marks
  fame_with_marks fame = record {
    fame = λ x v is.
        let inside = mark_within (with_marks n c s len share).marks x v is in
        let x_in : x < length s.rows = omega (arith, length-map-range_with_len (new_mark n c s len share) 0 (length s.rows)) in
        elim (new_mark_is (mark_at s.marks x) (early_fame n c s.rows s.links len share x) v (sym (mark_of_table (new_mark n c s len share) (length s.rows) x x_in) ∙ is)) [
          | inl old ↦ fame.fame x v old
          | inr new ↦ early_is_fame x v new
        ];
  }

-- more marks leave a closed round closed
pub closed_with_marks : (n : Stakes) (L : List Link) (f h : Marks) → ((x : ℕ) (v : Bool) → mark_at f x ≡ Some v → mark_at h x ≡ Some v) → (r : ℕ) → is_closed n L f r ≡ true → is_closed n L h r ≡ true
closed_with_marks n L f h stay r closed =
    let w = witness_of_closed n L f r closed in
    closed_from n L h r w.0 (record { inside = w.1.inside; witness = w.1.witness; in_round = w.1.in_round }) (λ y inside witness le.
    let mark = closed_mark n L f r closed y inside witness le in
    (mark.0, stay y mark.0 mark.1))
