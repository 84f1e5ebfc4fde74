use Rattle.std.proofs.Common.{◌≡◌, ◌<◌, ◌≤◌, ◌∙◌, ◌+◌, ◌-◌, ◌^◌, ◌++◌, ◌∷◌, [], List, ℕ, length, sym, ap, ap₂, subst, arith}
use Rattle.std.proofs.lemmas.List.{length_push}
use Rattle.std.specs.Prelude.{vec_capacity}
use Rattle.std.specs.List.{AllByRecursion}
use Rattle.hg_branches.specs.Tails.{Tail, tail_width}
use Rattle.hg_branches.specs.Table.{CountsWithRoom, IsNextCounts, rows_of, row_of}
use Rattle.hg_branches.specs.OwnCounts.{own_next}
use Rattle.hg_branches.proofs.NumberLaws.{IsMade, rows_many, all_low, numbers_fit, room_own, room_parts, room_row, rows_more, next_counts, keeps_more}
use Rattle.hg_branches.proofs.table.CountTable.push.Goals as goal
use Rattle.hg_branches.proofs.table.CountTable.push.Goals.{After-self-1}

pub push-requires-clause-room : goal.push-requires-clause-room
push-requires-clause-room c =
    let s = c.self.inside in
    room_own s.widest s.own.room s.tails.room (vec_capacity s.row) (subst (λ (t : CountsWithRoom). 1 ≤ t.room) (sym c.self.view_is) c.requires.room)

pub push-requires-clause-places : goal.push-requires-clause-places
push-requires-clause-places c =
    let s = c.self.inside in
    let many : length c.args.self.now.rows ≡ length s.tails.rows = sym (ap (λ (t : CountsWithRoom). length t.rows) c.self.view_is) ∙ rows_many s.own.width s.own.numbers s.tails.rows in
    subst (λ n. AllByRecursion (λ p. p < n) c.args.on.now) (many ∙ sym c.self.invariant.0) c.requires.places

pub push-requires-clause-short : goal.push-requires-clause-short
push-requires-clause-short c =
    let s = c.self.inside in
    omega (arith, c.self.invariant.0, ap (λ (t : CountsWithRoom). length t.rows) c.self.view_is, rows_many s.own.width s.own.numbers s.tails.rows, c.requires.short)

pub join_tails-requires-clause-places : goal.join_tails-requires-clause-places
join_tails-requires-clause-places c =
    let s = c.self.inside in
    let many : length c.args.self.now.rows ≡ length s.tails.rows = sym (ap (λ (t : CountsWithRoom). length t.rows) c.self.view_is) ∙ rows_many s.own.width s.own.numbers s.tails.rows in
    subst (λ n. AllByRecursion (λ p. p < n) c.args.on.now) many c.requires.places

pub join_tails-requires-clause-tails : goal.join_tails-requires-clause-tails
join_tails-requires-clause-tails c =
    let s = c.self.inside in
    let many : length c.args.self.now.rows ≡ length s.tails.rows = sym (ap (λ (t : CountsWithRoom). length t.rows) c.self.view_is) ∙ rows_many s.own.width s.own.numbers s.tails.rows in
    let places = subst (λ n. AllByRecursion (λ p. p < n) c.args.on.now) many c.requires.places in
    all_low (λ p. tail_width s.tails.rows p ≤ s.widest) (length s.tails.rows) c.args.on.now places c.self.invariant.1.narrow

pub join_tails-requires-clause-room : goal.join_tails-requires-clause-room
join_tails-requires-clause-room c =
    let s = c.self.inside in
    let wide = room_row s.widest s.own.room s.tails.room (vec_capacity s.row) (subst (λ (t : CountsWithRoom). 1 ≤ t.room) (sym c.self.view_is) c.requires.room) in
    omega (arith, wide)

pub push-requires-2 : goal.push-requires-2
push-requires-2 c =
    let s = c.self.inside in
    let many : length c.args.self.now.rows ≡ length s.tails.rows = sym (ap (λ (t : CountsWithRoom). length t.rows) c.self.view_is) ∙ rows_many s.own.width s.own.numbers s.tails.rows in
    let places = subst (λ n. AllByRecursion (λ p. p < n) c.args.on.now) many c.requires.places in
    let fit = numbers_fit s.own.width s.widest s.own.numbers s.tails.rows c.self.invariant.1 _ c.join_tails.new.row.items places c.join_tails.ensures.narrow in
    let room = room_parts s.widest s.own.room s.tails.room (vec_capacity s.row) (subst (λ (t : CountsWithRoom). 1 ≤ t.room) (sym c.self.view_is) c.requires.room) in
    omega (arith, fit, room, ap length c.deref.ensures.value)

-- that the numbers of the row are made right
made : (c : After-self-1) → IsMade c.self.inside.own.width c.self.inside.own.numbers c.self.inside.tails.rows c.args.on.now c.args.branch c.saturating_sub-own.result c.push.ensures.row c.join_tails.new.row.items
made c =
    let s = c.self.inside in
    let many : length c.args.self.now.rows ≡ length s.tails.rows = sym (ap (λ (t : CountsWithRoom). length t.rows) c.self.view_is) ∙ rows_many s.own.width s.own.numbers s.tails.rows in
    record {
      places = subst (λ n. AllByRecursion (λ p. p < n) c.args.on.now) many c.requires.places;
      shift = c.saturating_sub-own.ensures ∙ ap (λ n. c.args.branch + 1 - n) (c.width.ensures ∙ c.push.ensures.width);
      long = c.push.ensures.long;
      each_own = λ b h. c.push.ensures.each b h ∙ ap (λ (n : ℕ). own_next s.own.width s.own.numbers c.args.on.now c.args.branch (n + 1) b) c.self.invariant.0;
      each_tail = c.join_tails.ensures.each;
      narrow = c.join_tails.ensures.narrow;
    }

own_grown : (c : After-self-1) → c.push.new.self.numbers ≡ c.self.inside.own.numbers ++ c.push.ensures.row
own_grown c = c.push.ensures.numbers

tails_grown : (c : After-self-1) → c.push-2.new.self.rows ≡ c.self.inside.tails.rows ++ record { own = c.saturating_sub-own.result; numbers = c.join_tails.new.row.items } ∷ []
tails_grown c = c.push-2.ensures ∙ ap (λ (l : List ℕ). c.self.inside.tails.rows ++ record { own = c.saturating_sub-own.result; numbers = l } ∷ []) c.deref.ensures.value

pub invariant_of-self : goal.invariant_of-self
invariant_of-self c =
    let s = c.self.inside in
    let short : length s.tails.rows + 1 < 2 ^ 32 = omega (arith, ap (λ (t : CountsWithRoom). length t.rows) c.self.view_is, rows_many s.own.width s.own.numbers s.tails.rows, c.requires.short) in (
      c.push.ensures.rows ∙ (ap (λ (n : ℕ). n + 1) c.self.invariant.0 ∙ sym (ap length (tails_grown c) ∙ length_push s.tails.rows _)),
      rw (c.push.ensures.width, own_grown c, tails_grown c, c.max-self-inside.ensures) (keeps_more s.own.width s.widest s.own.numbers s.tails.rows c.self.invariant.1 _ _ _ _ _ (made c) short),
    )

pub returns : goal.returns
returns c =
    let s = c.self.inside in
    let row : List ℕ = row_of s.own.width (s.own.numbers ++ c.push.ensures.row) (s.tails.rows ++ record { own = c.saturating_sub-own.result; numbers = c.join_tails.new.row.items } ∷ []) (length s.tails.rows) in (
      row,
      ap (λ n. rows_of n c.push.new.self.numbers c.push-2.new.self.rows) c.push.ensures.width
          ∙ (ap₂ (λ (o : List ℕ) (t : List Tail). rows_of s.own.width o t) (own_grown c) (tails_grown c)
          ∙ (rows_more s.own.width s.widest s.own.numbers s.tails.rows c.self.invariant.1 _ _ _ _ _ (made c) ∙ ap (λ (t : CountsWithRoom). t.rows ++ row ∷ []) c.self.view_is)),
      c.push.ensures.width ∙ ap (λ (t : CountsWithRoom). t.members) c.self.view_is,
      subst (λ (t : CountsWithRoom). IsNextCounts t.members t.rows c.args.on.now c.args.branch row) c.self.view_is
          (next_counts s.own.width s.widest s.own.numbers s.tails.rows c.self.invariant.1 _ _ _ _ _ (made c)),
    )
