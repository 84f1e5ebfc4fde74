-- Turns that made nothing, and what was due at the last turn that drew a member, as the node goes on
use Rattle.std.proofs.Common.{◌≡◌, ◌⊎◌, ⊎_elim, inl, inr, ℕ, zero, suc, ◌+◌, ◌<◌, ◌≤◌, Bool, true, false, cond, List, ◌++◌, length, refl, sym, ap, ◌∙◌, subst, arith}
use Rattle.std.specs.List.{AllByRecursion}
use mathlib.Core.Logic.{dite}
use native.Mathlib.Decide.{ℕ_discrete}
use Rattle.hg_model.specs.Orders.{IsPrefix}
use Rattle.hg_life.specs.History.{Change}
use Rattle.hg_life.specs.History.Change.{Made}
use Rattle.hg_life.specs.NodeView.{NodeView, node_rows}
use Rattle.hg_life.specs.Signing.{accepts_by}
use Rattle.hg_node.specs.Next.{MakesNext}
use Rattle.hg_board.specs.Positions.{AreBelow}
use Rattle.hg_board.specs.Table.{node_at}
use Rattle.hg_board.specs.Seats.{SharedNode, SeatView}
use Rattle.hg_board.proofs.PrefixLaws.{prefix_length}
use Rattle.hg_storm.specs.declared.plan.Plan.{Plan}
use Rattle.hg_storm.specs.Drawing.{Draws, IsLastDraw}
use Rattle.hg_storm.specs.Keeping.{Secrets, rows_made_in}
use Rattle.hg_storm.specs.Sending.{IsDue}
use Rattle.hg_storm.specs.Turning.{AreIdleSince, AreOver, HasCounted, HasEnded, IsIdleAt, IsIdleTurn, IsMadeAt, WasDue, node_then}
use Rattle.hg_storm.proofs.FateLaws.{all_append, all_map, get_later, take_later}
use Rattle.hg_storm.proofs.MadeLaws.{none_made}

-- ---- the node goes on

module _ (v w : NodeView Secrets) (start : w.start ≡ v.start) (first : IsPrefix v.history w.history) where
  pub then_same : (at : ℕ) → at ≤ length v.history → node_then v at ≡ node_then w at
  then_same at within = λ i. record { start = sym start i; history = take_later at v.history w.history within first i }

  idle_at_later : (time at : ℕ) → at ≤ length v.history → IsIdleAt v time at → IsIdleAt w time at
  idle_at_later time at within was = record {
    made = was.made;
    idle = was.idle;
    next = subst (λ (x : NodeView Secrets). MakesNext accepts_by x time was.made x) (then_same at within) was.next;
  }

  made_at_later : (time at : ℕ) → IsMadeAt v time at → IsMadeAt w time at
  made_at_later time at was =
      record { row = was.row; of_time = was.of_time; last = was.last; first = was.first; made = get_later v.history w.history was.last (Made was.row) first was.made }

  idle_turn_later : (since time : ℕ) → IsIdleTurn v since time → IsIdleTurn w since time
  idle_turn_later since time was = record {
    at = was.at;
    later = was.later;
    within = omega (arith, was.within, prefix_length v.history w.history first);
    none = idle_at_later time was.at was.within was.none;
  }

  pub idle_later : (since from t idle : ℕ) → AreIdleSince v since from t idle → AreIdleSince w since from t idle
  idle_later since from zero idle none = none
  idle_later since from (suc t) idle are = ⊎_elim
      (λ (made : AreIdleSince v since from t idle). inl (idle_later since from t idle made))
      (λ (x : (less : ℕ) × (idle ≡ suc less) × AreIdleSince v since from t less × IsIdleTurn v since (from + suc t)).
      inr (x.0, x.1, idle_later since from t x.0 x.2, idle_turn_later since (from + suc t) x.3))
      are

  pub over_later : (made now : ℕ → ℕ) (turns idle over at : ℕ) → ((n : ℕ) → n ≤ length v.history → now n ≡ made n) → AreOver v made turns idle over at → AreOver w now turns idle over at
  over_later made now turns idle over at same was = record {
    within = omega (arith, was.within, prefix_length v.history w.history first);
    end = ⊎_elim (λ (m : IsMadeAt v over at). inl (made_at_later over at m)) (λ (i : IsIdleAt v over at). inr (idle_at_later over at was.within i)) was.end;
    early = was.early;
    rows = ap (λ (n : ℕ). n + was.early) (same at was.within) ∙ was.rows;
    before = subst (λ (x : NodeView Secrets). AreIdleSince x 0 0 over was.early) (then_same at was.within) was.before;
    rest = was.rest;
    all = was.all;
    late = was.late;
    both = was.both;
    after = idle_later at over was.rest was.late was.after;
  }

  pub due_later : (plan : Plan) (me place drawn k : ℕ) (made now : ℕ → ℕ) (turns idle : ℕ) (Was Is : ℕ → Type 0) → ((n : ℕ) → n ≤ length v.history → now n ≡ made n) →
      ((n : ℕ) → n ≤ length v.history → Was n → Is n) → WasDue plan me place drawn k v made turns idle Was → WasDue plan me place drawn k w now turns idle Is
  due_later plan me place drawn k made now turns idle Was Is same so was = record {
    turn = was.turn;
    last = was.last;
    at = was.at;
    over = over_later made now turns idle (was.turn + 1) was.at same was.over;
    due = so was.at was.over.within was.due;
  }

-- ---- a turn more, which made a row or nothing

pub idle_next : (v : NodeView Secrets) (since from t idle now : ℕ) (made : Bool) → now ≡ idle + cond made 0 1 → (made ≡ false → IsIdleTurn v since (from + suc t)) →
    AreIdleSince v since from t idle → AreIdleSince v since from (suc t) now
idle_next v since from t idle now true is turn are = inl (subst (AreIdleSince v since from t) (sym (is ∙ plus_none idle)) are)
  where
    plus_none : (k : ℕ) → k + cond true 0 1 ≡ k
    plus_none k = omega arith
idle_next v since from t idle now false is turn are = inr (idle, is ∙ plus_one idle, are, turn refl)
  where
    plus_one : (k : ℕ) → k + cond false 0 1 ≡ suc k
    plus_one k = omega arith

module _ (v : NodeView Secrets) (turns idle now : ℕ) (made : Bool) (is : now ≡ idle + cond made 0 1)
    (turn : made ≡ false → (since : ℕ) → since ≤ length v.history → IsIdleTurn v since (turns + 1)) where
  over_next : (rows : ℕ → ℕ) (over at : ℕ) → AreOver v rows turns idle over at → AreOver v rows (turns + 1) now over at
  over_next rows over at was =
      let time : turns + 1 ≡ over + suc was.rest = omega (arith, was.all) in record {
        within = was.within;
        end = was.end;
        early = was.early;
        rows = was.rows;
        before = was.before;
        rest = suc was.rest;
        all = sym time;
        late = was.late + cond made 0 1;
        both = omega (arith, was.both, is);
        after = idle_next v at over was.rest was.late (was.late + cond made 0 1) made refl (λ none. subst (IsIdleTurn v at) time (turn none at was.within)) was.after;
      }

  pub due_next : (plan : Plan) (me place drawn k : ℕ) (rows : ℕ → ℕ) (So : ℕ → Type 0) → WasDue plan me place drawn k v rows turns idle So → WasDue plan me place drawn k v rows (turns + 1) now So
  due_next plan me place drawn k rows So was = record { turn = was.turn; last = was.last; at = was.at; over = over_next rows (was.turn + 1) was.at was.over; due = was.due }

-- ---- a draw more

last_still : (plan : Plan) (me place drawn k turn : ℕ) → (Draws plan me place drawn k → ⊥) → IsLastDraw plan me place drawn k turn → IsLastDraw plan me place (drawn + 1) k turn
last_still plan me place drawn k turn none was = record {
  early = omega (arith, was.early);
  draws = was.draws;
  last = λ later past early draws. dite (ℕ_discrete later drawn)
      (λ same. none (subst (λ (n : ℕ). Draws plan me place n k) same draws))
      (λ apart. was.last later past (omega (arith, early, apart)) draws);
}

last_now : (plan : Plan) (me place drawn k : ℕ) → Draws plan me place drawn k → IsLastDraw plan me place (drawn + 1) k drawn
last_now plan me place drawn k draws = record { early = omega arith; draws = draws; last = λ later past early d. absurd (omega (arith, past, early)) }

-- a member that the turn did not draw
pub due_still : (plan : Plan) (me place drawn k : ℕ) (v : NodeView Secrets) (made : ℕ → ℕ) (turns idle : ℕ) (So : ℕ → Type 0) → (Draws plan me place drawn k → ⊥) →
    WasDue plan me place drawn k v made turns idle So → WasDue plan me place (drawn + 1) k v made turns idle So
due_still plan me place drawn k v made turns idle So none was =
    record { turn = was.turn; last = last_still plan me place drawn k was.turn none was.last; at = was.at; over = was.over; due = was.due }

-- ---- what a seat counted

module _ (p : SharedNode Secrets) (s t : SeatView Secrets) (first : IsPrefix s.seen t.seen) where
  -- what it adds later comes after that
  pub counted_on : (due at : ℕ) (more : List ℕ) → t.mine ≡ s.mine ++ more → AllByRecursion (λ q. length s.seen ≤ q) more → HasCounted p s due at → HasCounted p t due at
  counted_on due at more mine later was = record {
    when = was.when;
    past = was.past;
    within = omega (arith, was.within, prefix_length s.seen t.seen first);
    alone = subst (AllByRecursion (λ q. (q < at) ⊎ (was.when ≤ q))) (sym mine)
        (all_append (λ q. (q < at) ⊎ (was.when ≤ q)) s.mine more was.alone
        (all_map (λ q. length s.seen ≤ q) (λ q. (q < at) ⊎ (was.when ≤ q)) (λ q past. inr (omega (arith, past, was.within))) more later));
    rows = was.rows ∙ ap (λ (h : List Change). length (node_rows (node_at p.start h))) (take_later was.when s.seen t.seen was.within first);
  }

  module _ (mine : t.mine ≡ s.mine) (below : AreBelow (length s.seen) s.mine) (turns idle : ℕ) where
    same_rows : (n : ℕ) → rows_made_in t n ≡ rows_made_in s n
    same_rows n = (none_made s t below (record { begins = first; mine = mine })).rows n

    -- the turn's row was made before, or could not be
    pub ended_on : HasEnded p s turns idle → HasEnded p t turns idle
    ended_on was = record {
      at = was.at;
      over = over_later (node_at p.start s.seen) (node_at p.start t.seen) refl first (rows_made_in s) (rows_made_in t) turns idle turns was.at (λ n low. same_rows n) was.over;
      mine = subst (AreBelow was.at) (sym mine) was.mine;
    }

    -- the one that it drew: due is what the node had when it was sent to
    pub due_now : (plan : Plan) (me place drawn k due : ℕ) → turns ≡ drawn + 1 → Draws plan me place drawn k → HasEnded p s turns idle → IsDue p s t due →
        WasDue plan me place (drawn + 1) k (node_at p.start t.seen) (rows_made_in t) turns idle (HasCounted p t due)
    unfolding ended_on
    due_now plan me place drawn k due all draws was is =
        let now = ended_on was in record {
          turn = drawn;
          last = last_now plan me place drawn k draws;
          at = was.at;
          over = subst (λ (n : ℕ). AreOver (node_at p.start t.seen) (rows_made_in t) turns idle n was.at) all now.over;
          due = record {
            when = is.at;
            past = omega (arith, was.over.within, is.least);
            within = is.most;
            alone = all_map (λ q. q < was.at) (λ q. (q < was.at) ⊎ (is.at ≤ q)) (λ q low. inl low) t.mine now.mine;
            rows = is.rows;
          };
        }
