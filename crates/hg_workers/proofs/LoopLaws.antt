-- What turns of a worker add one after the other
use Rattle.std.proofs.Common.{◌≡◌, ℕ, zero, suc, ◌+◌, ◌<◌, ◌≤◌, List, [], ◌∷◌, ◌++◌, length, take, append_assoc, Some, slice_get, sym, refl, ap, ◌∙◌, subst, arith}
use Rattle.std.proofs.lemmas.List.{append-nil, take-append-le}
use Rattle.std.proofs.lemmas.List.Sums.{sum_by-append, sum_by-cons}
use Rattle.hg_model.specs.Orders.{IsPrefix}
use Rattle.hg_model.specs.Shares.{Share}
use Rattle.hg_life.specs.History.{Change}
use Rattle.hg_life.specs.History.Change.{Marked}
use Rattle.hg_life.specs.Signing.{Accepts}
use Rattle.hg_history.proofs.StateLaws.{prefix_more}
use Rattle.hg_model.specs.declared.share.Found.{Found}
use Rattle.hg_gossip.specs.Holding.{Seen}
use Rattle.hg_board.specs.Table.{node_at}
use Rattle.hg_board.specs.Seats.{SharedNode, SeatView}
use Rattle.hg_board.specs.Calls.{SeatPublishes, SeatWaits, Stays}
use Rattle.hg_board.specs.Crews.{AreMarks, MarksAll, MarksOf, OnlyMarks, marked_at, marked_by}
use Rattle.hg_workers.specs.Turns.{marks_seen}
use Rattle.hg_workers.proofs.ElectionLaws.{HasMarks, IsFoundWhole}
use Rattle.hg_workers.proofs.TurnLaws.{mark_stays, marks_all_before, marks_by_turn, marks_of_turn, more_by_turn, more_marks}

get_front : (xs ys : List Change) (k : ℕ) (x : Change) → slice_get xs k ≡ Some x → slice_get (xs ++ ys) k ≡ Some x
get_front [] ys k x e = absurd (cc)
get_front (a ∷ xs) ys zero x e = e
get_front (a ∷ xs) ys (suc k) x e = get_front xs ys k x e

get_inside : (xs : List Change) (k : ℕ) (x : Change) → slice_get xs k ≡ Some x → k < length xs
get_inside [] k x e = absurd (cc)
get_inside (a ∷ xs) zero x e = omega arith
get_inside (a ∷ xs) (suc k) x e = (let low = get_inside xs k x e in omega arith)

get_later : (xs ys : List Change) (k : ℕ) (x : Change) → IsPrefix xs ys → slice_get xs k ≡ Some x → slice_get ys k ≡ Some x
get_later xs ys k x first e = subst (λ (zs : List Change). slice_get zs k ≡ Some x) (sym first.1) (get_front xs first.0 k x e)

marks_later : (share : Share) (h later : List Change) (qs : List ℕ) → IsPrefix h later → AreMarks share h qs → AreMarks share later qs
marks_later share h later [] first all = tt
marks_later share h later (q ∷ qs) first all = ((all.0.0, get_later h later q (Marked all.0.0 share) first all.0.1), marks_later share h later qs first all.1)

marks_both : (share : Share) (h : List Change) (ps qs : List ℕ) → AreMarks share h ps → AreMarks share h qs → AreMarks share h (ps ++ qs)
marks_both share h [] qs one two = two
marks_both share h (p ∷ ps) qs one two = (one.0, marks_both share h ps qs one.1 two)

module _ {V : Type 0} where
  pub stays_on : (accepts : V → Accepts) (p : SharedNode V) (a b c : SeatView V) → Stays accepts p a b → Stays accepts p b c → Stays accepts p a c
  stays_on accepts p a b c one two = record {
    of = two.of;
    parts = two.parts ∙ one.parts;
    seen = prefix_more a.seen b.seen c.seen one.seen two.seen;
    begun = two.begun;
    within = two.within;
    node = two.node;
  }

  -- a seat whose calls added nothing

  pub waits_mine : (accepts : V → Accepts) (p : SharedNode V) (a b : SeatView V) → SeatWaits accepts p a b → b.mine ≡ a.mine
  waits_mine accepts p a b waits = ap (λ (s : Seen V). s.positions) waits.later

  pub only_none : (share : Share) (a b : SeatView V) → b.mine ≡ a.mine → OnlyMarks share a b
  only_none share a b same = record { more = []; mine = same ∙ sym (append-nil a.mine); marks = tt }

  pub of_none : (p : SharedNode V) (share : Share) (a b : SeatView V) → b.mine ≡ a.mine → MarksOf p share a b 0
  of_none p share a b same = record { more = []; mine = same ∙ sym (append-nil a.mine); marks = tt; counted = refl }

  -- and one whose calls published

  pub only_of : (p : SharedNode V) (share : Share) (a b : SeatView V) (k : ℕ) → MarksOf p share a b k → OnlyMarks share a b
  only_of p share a b k is = record { more = is.more; mine = is.mine; marks = is.marks }

  pub only_on : (share : Share) (a b c : SeatView V) → IsPrefix b.seen c.seen → OnlyMarks share a b → OnlyMarks share b c → OnlyMarks share a c
  only_on share a b c first one two = record {
    more = one.more ++ two.more;
    mine = two.mine ∙ (ap (λ (xs : List ℕ). xs ++ two.more) one.mine ∙ append_assoc a.mine one.more two.more);
    marks = marks_both share c.seen one.more two.more (marks_later share b.seen c.seen one.more first one.marks) two.marks;
  }

  module _ (p : SharedNode V) where
    -- a history that goes on leaves what its marks counted
    one_counted : (h later : List Change) (q : ℕ) (e : Change) → IsPrefix h later → slice_get h q ≡ Some e →
        marked_by (node_at p.start (take q later)) (slice_get later q) ≡ marked_by (node_at p.start (take q h)) (slice_get h q)
    one_counted h later q e first at =
        let inside = get_inside h q e at in
        let before : take q later ≡ take q h = ap (λ (xs : List Change). take q xs) first.1 ∙ take-append-le q h first.0 (omega arith) in
        let same : slice_get later q ≡ slice_get h q = get_later h later q e first at ∙ sym at in
        (λ i. marked_by (node_at p.start (before i)) (same i))

    counted_later : (share : Share) (h later : List Change) (qs : List ℕ) → IsPrefix h later → AreMarks share h qs → marked_at p later qs ≡ marked_at p h qs
    counted_later share h later [] first all = refl
    counted_later share h later (q ∷ qs) first all =
        let one = one_counted h later q (Marked all.0.0 share) first all.0.1 in
        let rest = counted_later share h later qs first all.1 in
        omega (
          arith,
          sum_by-cons (λ q. marked_by (node_at p.start (take q later)) (slice_get later q)) q qs,
          sum_by-cons (λ q. marked_by (node_at p.start (take q h)) (slice_get h q)) q qs,
          one,
          rest,
        )

    pub of_on : (share : Share) (a b c : SeatView V) (j k : ℕ) → IsPrefix b.seen c.seen → MarksOf p share a b j → MarksOf p share b c k → MarksOf p share a c (j + k)
    unfolding only_on only_of
    of_on share a b c j k first one two =
        let only = only_on share a b c first (only_of p share a b j one) (only_of p share b c k two) in
        record {
          more = one.more ++ two.more;
          mine = only.mine;
          marks = only.marks;
          counted =
              let kept = counted_later share b.seen c.seen one.more first one.marks in
              let both = sum_by-append (λ q. marked_by (node_at p.start (take q c.seen)) (slice_get c.seen q)) one.more two.more in
              let a_is = one.counted in
              let b_is = two.counted in
              omega (arith, kept, both, a_is, b_is);
        }

    pub all_on : (share : Share) (a b c : SeatView V) → IsPrefix b.seen c.seen → MarksAll p share a b → MarksAll p share a c
    all_on share a b c first all x v is = mark_stays p b c first x v (all x v is)

-- what a turn owes: the seat's own changes since are publications of the share, which marked so many witnesses, and all
-- that the graph decided before is marked
pub record IsTurn {V : Type 0} (p : SharedNode V) (share : Share) (a d : SeatView V) (count : ℕ) : Type 0 where
  pub of : MarksOf p share a d count
  pub all : MarksAll p share a d
  pub few : marks_seen p a + count ≤ marks_seen p d

-- a seat saw the graph, and then what was found in all of it was published
pub is_turn : {V : Type 0} (accepts : V → Accepts) (p : SharedNode V) (a c d : SeatView V) (found : Found) (share : Share) (count : ℕ) →
    Stays accepts p a c → SeatWaits accepts p a c → IsFoundWhole (node_at p.start c.seen) share found →
    Stays accepts p c d → SeatPublishes accepts p c found.len found.share d count → IsTurn p share a d count
is_turn {V} accepts p a c d found share count saw waits found_whole stays publishes =
    let mine : SeatPublishes accepts p c found.len share d count = subst (λ (k : Share). SeatPublishes accepts p c found.len k d count) found_whole.mine publishes in
    let before = more_marks p a c saw.seen in
    let more = more_by_turn p accepts c d found.len share count mine found_whole.len in
    record {
      of = subst (MarksOf p share a d) (let e : 0 + count ≡ count = omega arith in e)
          (of_on p share a c d 0 count stays.seen (of_none p share a c (waits_mine accepts p a c waits)) (marks_of_turn p accepts c d found.len share count mine));
      all = marks_all_before p accepts a c d share saw.seen saw.node (marks_by_turn p accepts c d found.len share count mine found_whole.len saw.node);
      few = omega (arith, before, more);
    }

-- a seat saw the graph, and all that it decides was marked
pub is_quiet_turn : {V : Type 0} (accepts : V → Accepts) (p : SharedNode V) (a c : SeatView V) (share : Share) →
    Stays accepts p a c → SeatWaits accepts p a c → HasMarks (node_at p.start c.seen) share → IsTurn p share a c 0
is_quiet_turn accepts p a c share saw waits has = record {
  of = of_none p share a c (waits_mine accepts p a c waits);
  all = marks_all_before p accepts a c c share saw.seen saw.node has;
  few = (let before = more_marks p a c saw.seen in omega (arith, before));
}

-- the next turn
module _ {V : Type 0} (accepts : V → Accepts) (p : SharedNode V) (share : Share) (a b c : SeatView V) (j k : ℕ) (stays : Stays accepts p a b) (next : Stays accepts p b c) where
  pub next_all : MarksAll p share b c → MarksAll p share a c
  next_all all = marks_all_before p accepts a b c share stays.seen stays.node all

  pub next_of : MarksOf p share a b j → MarksOf p share b c k → MarksOf p share a c (j + k)
  next_of one two = of_on p share a b c j k next.seen one two
