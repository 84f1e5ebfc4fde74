use Rattle.std.proofs.Common.{◌<◌, ◌∙◌, ◌+◌, ℕ, List, length, get_or, refl, ap, subst, sym, arith}
use Rattle.std.specs.List.{AllByRecursion}
use Rattle.hg_branches.specs.OwnCounts.{OwnWithRoom, HasOwn, has_own_row, narrow_rows, own_next}
use Rattle.hg_branches.proofs.NumberLaws.{all_low}
use Rattle.hg_branches.proofs.OwnLaws.{narrow_fits, whole_narrow, first_more, first_joined, rest_more, rest_joined}
use Rattle.hg_branches.proofs.own_counts.OwnCounts.push.Goals as goal
use Rattle.hg_branches.proofs.own_counts.OwnCounts.push.Goals.{then-next-lt-NARROW_ROWS, else-next-lt-NARROW_ROWS}

pub join_narrow-requires-clause-places : goal.join_narrow-requires-clause-places
join_narrow-requires-clause-places c =
    let s = c.self.inside in
    let places = subst (λ (t : OwnWithRoom). AllByRecursion (λ p. p < t.rows) c.args.on.now) (sym c.self.view_is) c.requires.places in
    all_low (has_own_row s.narrow) s.rows c.args.on.now places (λ p h. narrow_fits s.rows s.narrow s.wide c.self.invariant p h (let few = c.if-next-lt-NARROW_ROWS.true in omega arith))

pub join_wide-requires-clause-places : goal.join_wide-requires-clause-places
join_wide-requires-clause-places c =
    let s = c.self.inside in
    let places = subst (λ (t : OwnWithRoom). AllByRecursion (λ p. p < t.rows) c.args.on.now) (sym c.self.view_is) c.requires.places in
    all_low (HasOwn s.narrow s.wide) s.rows c.args.on.now places (λ p h. record { rows = s.rows; held = c.self.invariant; inside = h })

pub join_wide-requires-clause-same : goal.join_wide-requires-clause-same
join_wide-requires-clause-same c = c.self.invariant.same

pub invariant_of-self : goal.invariant_of-self
invariant_of-self c =
    let s = c.self.inside in
    elim c.if-next-lt-NARROW_ROWS.branch [
      | then-next-lt-NARROW_ROWS w ↦ rw w.self-inside-is
          (first_more s.rows s.narrow s.wide c.self.invariant w.if-next-lt-NARROW_ROWS.true w.deref.result.now (ap length w.deref.ensures.value ∙ w.join_narrow.ensures.len)
          w.push.new.self w.push.ensures.width w.push.ensures.numbers)
      | else-next-lt-NARROW_ROWS w ↦ rw w.self-inside-is
          (rest_more s.rows s.narrow s.wide c.self.invariant (let many = w.if-next-lt-NARROW_ROWS.false in omega arith) w.deref-else-next-lt-NARROW_ROWS.result.now
          (ap length w.deref-else-next-lt-NARROW_ROWS.ensures.value ∙ w.join_wide.ensures.len) w.push-else-next-lt-NARROW_ROWS.new.self w.push-else-next-lt-NARROW_ROWS.ensures.width
          w.push-else-next-lt-NARROW_ROWS.ensures.numbers)
    ]

pub returns : goal.returns
returns c =
    let s = c.self.inside in
    let on = c.args.on.now in
    rw (← c.self.view_is) (elim c.if-next-lt-NARROW_ROWS.branch [
      | then-next-lt-NARROW_ROWS w ↦
          (let few : s.rows < narrow_rows = w.if-next-lt-NARROW_ROWS.true in
          let row = w.deref.result.now in
          rw w.self-inside-is (record {
            row = row;
            rows = refl;
            width = w.push.ensures.width;
            numbers = first_joined s.rows s.narrow s.wide c.self.invariant few row w.push.new.self.numbers w.push.ensures.numbers;
            long = ap length w.deref.ensures.value ∙ w.join_narrow.ensures.len;
            each = λ b h. ap (λ (l : List ℕ). get_or l b 0) w.deref.ensures.value
                ∙ (w.join_narrow.ensures.each b h ∙ ap (λ (own : List ℕ). own_next s.narrow.width own on c.args.branch (s.rows + 1) b) (sym (whole_narrow s.rows s.narrow s.wide c.self.invariant (omega arith))));
          }))
      | else-next-lt-NARROW_ROWS w ↦
          (let row = w.deref-else-next-lt-NARROW_ROWS.result.now in
          rw w.self-inside-is (record {
            row = row;
            rows = refl;
            width = refl;
            numbers = rest_joined s.rows s.narrow s.wide c.self.invariant row w.push-else-next-lt-NARROW_ROWS.new.self.numbers w.push-else-next-lt-NARROW_ROWS.ensures.numbers;
            long = ap length w.deref-else-next-lt-NARROW_ROWS.ensures.value ∙ w.join_wide.ensures.len;
            each = λ b h. ap (λ (l : List ℕ). get_or l b 0) w.deref-else-next-lt-NARROW_ROWS.ensures.value ∙ w.join_wide.ensures.each b h;
          }))
    ])
