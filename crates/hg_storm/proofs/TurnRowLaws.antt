-- The rows that turns make: each is the node's next event, without payload, and their times rise
use Rattle.std.proofs.Common.{◌≡◌, ◌⊎◌, inl, inr, ⊎_elim, ℕ, ◌+◌, ◌<◌, ◌≤◌, Bool, true, false, true≢false, cond, eqb, List, [], ◌∷◌, ◌++◌, length, take, Option, Some, None, slice_get, refl, sym, ap, ◌∙◌, subst, arith}
use Rattle.std.specs.Prelude.{count_by}
use mathlib.Core.Logic.{dite}
use native.Mathlib.Decide.{ℕ_discrete}
use Rattle.std.proofs.lemmas.Bool.{cases_lt}
use Rattle.std.proofs.lemmas.List.{append-nil, take-append-le}
use Rattle.std.proofs.lemmas.List.Sums.{sum_by-append, sum_by-cons}
use Rattle.std.proofs.lemmas.Option.{slice_get_within}
use Rattle.std.proofs.Math.Seq.{take-length}
use Rattle.hg_model.specs.declared.row.Row.{Row}
use Rattle.hg_model.specs.Orders.{IsPrefix}
use Rattle.hg_life.specs.declared.answers.MakeAnswer.{MakeAnswer}
use Rattle.hg_life.specs.declared.answers.MakeAnswer.TheVariants as answer
use Rattle.hg_life.specs.Verdict.{made_row}
use Rattle.hg_life.specs.History.{Change}
use Rattle.hg_life.specs.History.Change.{Made, Marked}
use Rattle.hg_life.specs.NodeView.{NodeView, node_rows}
use Rattle.hg_life.specs.Calls.{made_by, make_changes}
use Rattle.hg_life.specs.Signing.{accepts_by}
use Rattle.hg_history.proofs.StateLaws.{prefix_more}
use Rattle.hg_node.specs.Next.{MakesNext}
use Rattle.hg_gossip.specs.Holding.{Seen}
use Rattle.hg_board.specs.Positions.{AreBelow, times}
use Rattle.hg_board.specs.Table.{node_at}
use Rattle.hg_board.specs.Seats.{SharedNode, SeatView, seen_by}
use Rattle.hg_board.specs.Calls.{SeatMakesNext}
use Rattle.hg_board.specs.Laws.{AddsOne}
use Rattle.hg_board.proofs.PositionLaws.{times-append, times_apart, times_cons, times_none, times_past, times_push}
use Rattle.hg_board.proofs.PrefixLaws.{prefix_length}
use Rattle.hg_crowd.specs.Crowd.{IsEnded, IsMark}
use Rattle.hg_crowd.proofs.MarkLaws.{get_front}
use Rattle.hg_storm.specs.Keeping.{AddsNoRow, Secrets, is_made, rows_made}
use Rattle.hg_storm.specs.Turning.{AreTurnRows, HasTurnRows, IsTurnRow}
use Rattle.hg_storm.proofs.FateLaws.{take_later}
use Rattle.hg_storm.proofs.MadeLaws.{cancelled, get_end, is_made_in, made_front, next_none, next_one, next_seen, no_row_more, none_made, reached_by}
use Rattle.hg_storm.proofs.DueLaws.{then_same}

-- a row of one of the first turns is one of more turns
is_later : (v : NodeView Secrets) (turns more : ℕ) (row : Row) → turns ≤ more → IsTurnRow v turns row → IsTurnRow v more row
is_later v turns more row le is =
    record { others = is.others; next = is.next; parents = is.parents; payload = is.payload; first = is.first; last = omega (arith, is.last, le) }

later_turns : (p : SharedNode Secrets) (turns more : ℕ) (s : SeatView Secrets) → turns ≤ more → HasTurnRows p turns s → HasTurnRows p more s
later_turns p turns more s le has = record {
  each = λ q row own at. is_later (node_at p.start (take q s.seen)) turns more row le (has.each q row own at);
  rising = has.rising;
}

-- where none of these positions passes a test, one that stands there does not
none_passes : (f : ℕ → Bool) (qs : List ℕ) (q : ℕ) → count_by f qs ≡ 0 → 0 < times q qs → f q ≡ false
none_passes f [] q none some = absurd (omega (arith, some, times_none q))
none_passes f (x ∷ qs) q none some =
    let parts : count_by f (x ∷ qs) ≡ cond (f x) 1 0 + count_by f qs = sum_by-cons (λ (y : ℕ). cond (f y) 1 0) x qs in
    dite (ℕ_discrete x q)
    (λ e. let same : x ≡ q = e in ap f (sym same) ∙ fails (f x) (omega (arith, none, parts)))
    (λ ne. none_passes f qs q (omega (arith, none, parts)) (omega (arith, some, times_cons q x qs, times_apart q x ne)))
  where
    fails : (b : Bool) → ◌≡◌ {A = ℕ} (cond b 1 0) 0 → b ≡ false
    fails true e = absurd (omega (arith, e))
    fails false e = refl

own_below : (end q : ℕ) (qs : List ℕ) → AreBelow end qs → 0 < times q qs → q < end
own_below end q qs below some = ⊎_elim (λ (low : q < end). low) (λ (past : end ≤ q). absurd (omega (arith, some, times_past end q qs below past))) (cases_lt q end)

one_made : (a b : Row) → Some (Made a) ≡ Some (Made b) → a ≡ b
one_made a b e = cc

-- what a seat had seen, as it sees more
module _ (p : SharedNode Secrets) (turns : ℕ) (s t : SeatView Secrets) (grows : IsPrefix s.seen t.seen) (below : AreBelow (length s.seen) s.mine) (old : HasTurnRows p turns s) where
  at_old : (q : ℕ) (row : Row) → 0 < times q s.mine → slice_get t.seen q ≡ Some (Made row) → slice_get s.seen q ≡ Some (Made row)
  at_old q row own at =
      let low : q < length s.seen = own_below (length s.seen) q s.mine below own in
      sym (ap (λ (h : List Change). slice_get h q) grows.1 ∙ get_front s.seen grows.0 q low) ∙ at

  row_old : (q : ℕ) (row : Row) → 0 < times q s.mine → slice_get t.seen q ≡ Some (Made row) → IsTurnRow (node_at p.start (take q t.seen)) turns row
  row_old q row own at =
      let low : q < length s.seen = own_below (length s.seen) q s.mine below own in
      subst (λ (h : List Change). IsTurnRow (node_at p.start h) turns row) (take_later q s.seen t.seen (omega (arith, low)) grows) (old.each q row own (at_old q row own at))

  module _ (adds : AddsNoRow s t) where
    none_more : count_by (is_made_in t.seen) adds.more ≡ 0
    none_more =
        let F : ℕ → Bool = is_made_in t.seen in
        let all : count_by F (s.mine ++ adds.more) ≡ count_by F s.mine + count_by F adds.more = sum_by-append (λ q. cond (F q) 1 0) s.mine adds.more in
        let now : count_by F t.mine ≡ count_by F (s.mine ++ adds.more) = ap (count_by F) adds.mine in
        let same : count_by F t.mine ≡ rows_made s = no_row_more s t grows adds in
        let early : count_by F s.mine ≡ rows_made s = made_front s.seen t.seen s.mine grows below in
        omega (arith, all, now, same, early)

    own_old : (q : ℕ) (row : Row) → 0 < times q t.mine → slice_get t.seen q ≡ Some (Made row) → 0 < times q s.mine
    own_old q row own at = dite (ℕ_discrete (times q s.mine) 0)
        (λ e.
        let none : times q s.mine ≡ 0 = e in
        let parts : times q t.mine ≡ times q s.mine + times q adds.more = ap (times q) adds.mine ∙ times-append q s.mine adds.more in
        let unmade : is_made_in t.seen q ≡ false = none_passes (is_made_in t.seen) adds.more q none_more (omega (arith, own, parts, none)) in
        absurd (true≢false (sym (ap is_made at) ∙ unmade)))
        (λ some. omega (arith, some))

    -- calls that made no row leave those that were made
    pub turned_on : HasTurnRows p turns t
    turned_on = record {
      each = λ q row own at. row_old q row (own_old q row own at) at;
      rising = λ q r a b own other less at there.
          old.rising q r a b (own_old q a own at) (own_old r b other there) less (at_old q a (own_old q a own at) at) (at_old r b (own_old r b other there) there);
    }

-- a turn made one row more
module _ (p : SharedNode Secrets) (made : ℕ) (s t : SeatView Secrets) (h : List Change) (row : Row) (adds : AddsOne s t h (Made row)) (below : AreBelow (length s.seen) s.mine) (old : HasTurnRows p made s)
    (is : IsTurnRow (node_at p.start h) (made + 1) row) (of_time : row.time ≡ made + 1) where
  goes_on : IsPrefix s.seen t.seen
  goes_on = prefix_more s.seen h t.seen adds.begins (Made row ∷ [], adds.grown)

  own_is : (q : ℕ) → 0 < times q t.mine → (q ≡ length h) ⊎ (0 < times q s.mine)
  own_is q own =
      let parts : times q t.mine ≡ times q s.mine + cond (eqb (length h) q) 1 0 = ap (times q) adds.mine ∙ times_push q s.mine (length h) in
      dite (ℕ_discrete (length h) q) (λ e. let same : length h ≡ q = e in inl (sym same)) (λ ne. inr (omega (arith, own, parts, times_apart q (length h) ne)))

  last_is : (a : Row) → slice_get t.seen (length h) ≡ Some (Made a) → row ≡ a
  last_is a at = one_made row a (sym (ap (λ (l : List Change). slice_get l (length h)) adds.grown ∙ get_end h (Made row)) ∙ at)

  at_last : (q : ℕ) (a : Row) → q ≡ length h → slice_get t.seen q ≡ Some (Made a) → row ≡ a
  at_last q a e at = last_is a (subst (λ (n : ℕ). slice_get t.seen n ≡ Some (Made a)) e at)

  until : take (length h) t.seen ≡ h
  until = ap (take (length h)) adds.grown ∙ (take-append-le (length h) h (Made row ∷ []) (omega arith) ∙ take-length h)

  each_now : (q : ℕ) (a : Row) → 0 < times q t.mine → slice_get t.seen q ≡ Some (Made a) → IsTurnRow (node_at p.start (take q t.seen)) (made + 1) a
  each_now q a own at = ⊎_elim
      (λ (e : q ≡ length h).
      let here : row ≡ a = at_last q a e at in
      let history : h ≡ take q t.seen = sym (ap (λ (n : ℕ). take n t.seen) e ∙ until) in
      subst (λ (x : List Change × Row). IsTurnRow (node_at p.start x.0) (made + 1) x.1) (λ i. (history i, here i)) is)
      (λ (was : 0 < times q s.mine). is_later (node_at p.start (take q t.seen)) made (made + 1) a (omega arith) (row_old p made s t goes_on below old q a was at))
      (own_is q own)

  rises : (q r : ℕ) (a b : Row) → 0 < times q t.mine → 0 < times r t.mine → q < r → slice_get t.seen q ≡ Some (Made a) → slice_get t.seen r ≡ Some (Made b) → a.time < b.time
  rises q r a b own other less at there = ⊎_elim
      (λ (e : r ≡ length h).
      let late : b.time ≡ made + 1 = sym (ap (λ (x : Row). x.time) (at_last r b e there)) ∙ of_time in
      ⊎_elim
      (λ (f : q ≡ length h). absurd (omega (arith, e, f, less)))
      (λ (was : 0 < times q s.mine). omega (arith, (row_old p made s t goes_on below old q a was at).last, late))
      (own_is q own))
      (λ (later : 0 < times r s.mine). ⊎_elim
      (λ (f : q ≡ length h). absurd (omega (arith, f, less, own_below (length s.seen) r s.mine below later, prefix_length s.seen h adds.begins)))
      (λ (was : 0 < times q s.mine).
      old.rising q r a b was later less (at_old p made s t goes_on below old q a was at) (at_old p made s t goes_on below old r b later there))
      (own_is q own))
      (own_is r other)

  turned_one : HasTurnRows p (made + 1) t
  turned_one = record { each = each_now; rising = rises }

-- ---- what a call that makes the next event adds

by_answer : (a : MakeAnswer) (row : Row) (more : List Change) → more ≡ made_by a row → (more ≡ []) ⊎ (more ≡ Made row ∷ [])
by_answer (answer.Made place) row more is = inr is
by_answer (answer.Refused fault) row more is = inl is

-- the turn's row, with its time
abbrev IsRowNow : NodeView Secrets → ℕ → List Change → Type 0
IsRowNow v time more = (row : Row) × (more ≡ Made row ∷ []) × IsTurnRow v time row × (row.time ≡ time)

next_row : (v w : NodeView Secrets) (time : ℕ) (made : Option MakeAnswer) (more : List Change) → 0 < time → w.history ≡ v.history ++ more → MakesNext accepts_by v time made w → (more ≡ []) ⊎ IsRowNow v time more
unfolding make_changes
next_row v w time None more some grown next =
    inl (cancelled v.history more [] (sym grown ∙ (ap (λ (x : NodeView Secrets). x.history) next.0 ∙ sym (append-nil v.history))))
next_row v w time (Some a) more some grown next =
    let m = next.2.making in
    let row : Row = made_row v.start.own (node_rows v) next.0 time [] m.sig in
    let same : more ≡ make_changes v next.0 time [] m.sig = cancelled v.history more (make_changes v next.0 time [] m.sig) (sym grown ∙ ap (λ (x : NodeView Secrets). x.history) m.grown) in
    ⊎_elim (λ (none : more ≡ []). inl none)
    (λ (one : more ≡ Made row ∷ []). inr (row, one, record { others = next.0; next = next.1; parents = refl; payload = refl; first = some; last = omega arith }, refl))
    (by_answer a row more (same ∙ ap (λ (b : MakeAnswer). made_by b row) (sym m.answers)))

-- a turn made its row, or none
pub turned_more : (p : SharedNode Secrets) (made : ℕ) (s t : SeatView Secrets) (a : Option MakeAnswer) → SeatMakesNext accepts_by p s (made + 1) t a → AreBelow (length s.seen) s.mine → HasTurnRows p made s →
    HasTurnRows p (made + 1) t
turned_more p made s t a next below old =
    let reached : List Change = reached_by accepts_by p s t (made + 1) a next in
    let start : next.reached.node.start ≡ p.start.start = ap (λ (x : Seen Secrets). x.node.start) next.waits.later in
    let there : next.reached.node ≡ node_at p.start reached = λ i. record { start = start i; history = next.reached.node.history } in
    ⊎_elim
    (λ (none : next.more ≡ []).
    let adds = next_none accepts_by p s t (made + 1) a next none in
    later_turns p made (made + 1) t (omega arith) (turned_on p made s t adds.begins below old (none_made s t below adds)))
    (λ (one : IsRowNow next.reached.node (made + 1) next.more).
    turned_one p made s t reached one.0 (next_one accepts_by p s t (made + 1) a next one.0 one.1) below old
    (subst (λ (v : NodeView Secrets). IsTurnRow v (made + 1) one.0) there one.2) one.3)
    (next_row next.reached.node (seen_by p t).node (made + 1) a next.more (omega arith) (next_seen accepts_by p s t (made + 1) a next) next.makes)

-- ---- the whole history

no_mark : (h : List Change) (q : ℕ) (row : Row) → slice_get h q ≡ Some (Made row) → IsMark h q → ⊥
no_mark h q row is mark = let e : Some (Marked mark.0 mark.1) ≡ Some (Made row) = sym mark.2 ∙ is in cc

-- where a node began without changes, and others only marked, it made the rows of its member's turns alone
module _ (p : SharedNode Secrets) (turns : ℕ) (s : SeatView Secrets) (node : NodeView Secrets) (none : p.start.history ≡ []) (ended : IsEnded p s node) (below : AreBelow (length s.seen) s.mine) (has : HasTurnRows p turns s) where
  own_all : (q : ℕ) (row : Row) → slice_get node.history q ≡ Some (Made row) → 0 < times q s.mine
  own_all q row at = dite (ℕ_discrete (times q s.mine) 0)
      (λ other. absurd (no_mark node.history q row at (ended.marks q (omega (arith, ap length none)) (slice_get_within node.history q (Made row) at) other)))
      (λ own. omega (arith, own))

  at_early : (q : ℕ) (row : Row) → slice_get node.history q ≡ Some (Made row) → slice_get s.seen q ≡ Some (Made row)
  at_early q row at =
      let low : q < length s.seen = own_below (length s.seen) q s.mine below (own_all q row at) in
      sym (ap (λ (h : List Change). slice_get h q) ended.later.1 ∙ get_front s.seen ended.later.0 q low) ∙ at

  pub all_turned : AreTurnRows node turns
  all_turned = record {
    each = λ q row at.
        let low : q < length s.seen = own_below (length s.seen) q s.mine below (own_all q row at) in
        subst (λ (v : NodeView Secrets). IsTurnRow v turns row) (then_same (node_at p.start s.seen) node ended.start ended.later q (omega (arith, low)))
        (has.each q row (own_all q row at) (at_early q row at));
    rising = λ q r a b less at there. has.rising q r a b (own_all q a at) (own_all r b there) less (at_early q a at) (at_early r b there);
  }
