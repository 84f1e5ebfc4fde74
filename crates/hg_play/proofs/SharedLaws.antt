-- A call through one seat of many
use Rattle.std.proofs.Common.{◌≡◌, inl, inr, ℕ, zero, suc, ◌<◌, List, [], ◌∷◌, length, get_or, set, sym, refl, ap, ◌∙◌, subst, arith}
use Rattle.std.proofs.lemmas.Bool.{cases_eq}
use Rattle.std.proofs.lemmas.List.{length-set, get_or-set_same, get_or-set_other}
use Rattle.hg_life.specs.Signing.{accepts_by}
use Rattle.hg_life.specs.NodeView.{NodeView}
use Rattle.hg_history.proofs.StateLaws.{prefix_more, prefix_same}
use Rattle.hg_board.specs.Seats.{SharedNode, SeatView}
use Rattle.hg_world.specs.declared.step.Step.{Step}
use Rattle.hg_world.specs.World.{Secrets, Site, WorldView, no_site, node_at, site_at, site_of, with_node_at}
use Rattle.hg_world.specs.Steps.{after_steps}
use Rattle.hg_crowd.specs.Crowd.{AreStill, IsSeat, IsStill, OthersMark}
use Rattle.hg_play.specs.Alike.{AreAlike}
use Rattle.hg_play.specs.Nodes.{IsKept, Matched}
use Rattle.hg_crowd.specs.Party.{party_view}
use Rattle.hg_play.specs.Through.{AllOthersMark, AreNodes, AreSeen, node_seen, seen_shared}
use Rattle.hg_play.proofs.OthersLaws.{IsAfter}

module _ {A : Type 0} where
  -- an element that is there does not depend on what stands for one that is not
  pub same_at : (xs : List A) (k : ℕ) (a b : A) → k < length xs → get_or xs k a ≡ get_or xs k b
  same_at [] k a b low = absurd (omega arith)
  same_at (x ∷ xs) zero a b low = refl
  same_at (x ∷ xs) (suc k) a b low = same_at xs k a b (omega arith)

  pub here_is : (xs : List A) (x k : ℕ) (a d : A) → x < length xs → k ≡ x → get_or (set xs x a) k d ≡ a
  here_is xs x k a d low here = ap (λ (j : ℕ). get_or (set xs x a) j d) here ∙ get_or-set_same xs x a d low

pub still_both : (a b c : SeatView Secrets) → IsStill a b → IsStill b c → IsStill a c
still_both a b c p q = record {
  same = q.same ∙ p.same;
  start = q.start ∙ p.start;
  parts = q.parts ∙ p.parts;
  seen = prefix_more a.seen b.seen c.seen p.seen q.seen;
}

pub still_all : (seats : List (SeatView Secrets)) → AreStill seats seats
still_all seats = record {
  count = refl;
  each = λ k a b low. subst (IsStill (get_or seats k a)) (same_at seats k a b low) (record { same = refl; start = refl; parts = refl; seen = prefix_same (get_or seats k a).seen (get_or seats k a).seen refl });
}

-- after a call through the seat at x, which left the seat n
module _ (places : List (SharedNode Secrets)) (seats : List (SeatView Secrets)) (x : ℕ) (p : SharedNode Secrets) (m n : SeatView Secrets)
    (are : AreNodes places seats) (low : x < length seats) (p_is : p ≡ get_or places x p) (m_is : m ≡ get_or seats x m) where
  within : x < length places
  within = omega (arith, low, are.seated.count)

  place_here : (k : ℕ) (d : SharedNode Secrets) → k ≡ x → get_or places k d ≡ p
  place_here k d here = ap (λ (j : ℕ). get_or places j d) here ∙ (same_at places x d p within ∙ sym p_is)

  seat_here : (k : ℕ) (d : SeatView Secrets) → k ≡ x → get_or seats k d ≡ m
  seat_here k d here = ap (λ (j : ℕ). get_or seats j d) here ∙ (same_at seats x d m low ∙ sym m_is)

  pub seat_of : IsSeat accepts_by p m
  seat_of = subst (λ (s : SeatView Secrets). IsSeat accepts_by p s) (sym m_is) (subst (λ (q : SharedNode Secrets). IsSeat accepts_by q (get_or seats x m)) (sym p_is) (are.seated.each x p m within))

  module _ (call : IsAfter p m n) where
    pub seats_after : AreNodes places (set seats x n)
    seats_after = record {
      seated = record {
        count = length-set seats x n ∙ are.seated.count;
        each = λ k a b lower. elim (cases_eq k x) [
          | inl here ↦ subst (λ (s : SeatView Secrets). IsSeat accepts_by (get_or places k a) s) (sym (here_is seats x k n b low here))
              (subst (λ (q : SharedNode Secrets). IsSeat accepts_by q n) (sym (place_here k a here)) call.seat)
          | inr other ↦ subst (λ (s : SeatView Secrets). IsSeat accepts_by (get_or places k a) s) (sym (get_or-set_other seats x k n b other)) (are.seated.each k a b lower)
        ];
      };
      one_list = are.one_list;
    }

    -- of the seat, the others only marked
    pub mark_here : AllOthersMark places (set seats x n) → OthersMark p n
    mark_here alone =
        subst (λ (s : SeatView Secrets). OthersMark p s) (here_is seats x x n m low refl)
        (subst (λ (q : SharedNode Secrets). OthersMark q (get_or (set seats x n) x m)) (place_here x p refl) (alone.each x p m within))

    back : AllOthersMark places (set seats x n) → AllOthersMark places seats
    back alone = record {
      count = are.seated.count;
      each = λ k a b lower. elim (cases_eq k x) [
        | inl here ↦ subst (λ (s : SeatView Secrets). OthersMark (get_or places k a) s) (sym (seat_here k b here))
            (subst (λ (q : SharedNode Secrets). OthersMark q m) (sym (place_here k a here)) (call.back (mark_here alone)))
        | inr other ↦ subst (λ (s : SeatView Secrets). OthersMark (get_or places k a) s) (get_or-set_other seats x k n b other) (alone.each k a b lower)
      ];
    }

    still_after : (olds : List (SeatView Secrets)) → AreStill olds seats → AreStill olds (set seats x n)
    still_after olds still = record {
      count = length-set seats x n ∙ still.count;
      each = λ k a b lower. elim (cases_eq k x) [
        | inl here ↦ subst (λ (s : SeatView Secrets). IsStill (get_or olds k a) s) (sym (here_is seats x k n b low here))
            (still_both (get_or olds k a) m n (subst (λ (s : SeatView Secrets). IsStill (get_or olds k a) s) (seat_here k b here) (still.each k a b lower)) call.still)
        | inr other ↦ subst (λ (s : SeatView Secrets). IsStill (get_or olds k a) s) (sym (get_or-set_other seats x k n b other)) (still.each k a b lower)
      ];
    }

    pub kept_after : IsKept (seen_shared (party_view places seats)) (seen_shared (party_view places (set seats x n)))
    kept_after = record {
      since = λ earlier since. (since.0, still_after earlier.seats since.1);
      back = back;
      count = length-set seats x n;
    }

  -- the node of the seat in a world
  node_alike : (w : WorldView) → AreSeen places seats w → AreAlike (node_at w x) (node_seen p m)
  node_alike w agrees =
      subst (λ (s : SeatView Secrets). AreAlike (node_at w x) (node_seen p s)) (sym m_is)
      (subst (λ (q : SharedNode Secrets). AreAlike (node_at w x) (node_seen q (get_or seats x m))) (sym p_is) (agrees.nodes x p m low))

  -- another node in the world, alike with what the seat has seen then
  agrees_changed : (w : WorldView) (v : NodeView Secrets) → AreSeen places seats w → AreAlike v (node_seen p n) → AreSeen places (set seats x n) (with_node_at w x v)
  agrees_changed w v agrees alike =
      let site : Site = site_of v (site_at w x).frozen in
      record {
        count = length-set w.sites x site ∙ (agrees.count ∙ sym (length-set seats x n));
        nodes = λ k a b lower. elim (cases_eq k x) [
          | inl here ↦
              let first : node_at (with_node_at w x v) k ≡ v = ap (λ (s : Site). s.node) (here_is w.sites x k site no_site (omega (arith, low, agrees.count)) here) in
              let second : get_or (set seats x n) k b ≡ n = here_is seats x k n b low here in
              let third : get_or places k a ≡ p = place_here k a here in
              rw (first, second, third) alike
          | inr other ↦
              let first : node_at (with_node_at w x v) k ≡ node_at w k = ap (λ (s : Site). s.node) (get_or-set_other w.sites x k site no_site other) in
              let second : get_or (set seats x n) k b ≡ get_or seats k b = get_or-set_other seats x k n b other in
              rw (first, second) (agrees.nodes k a b (omega (arith, lower, length-set seats x n)))
        ];
      }

  agrees_same : (w : WorldView) → AreSeen places seats w → AreAlike (node_at w x) (node_seen p n) → AreSeen places (set seats x n) w
  agrees_same w agrees alike = record {
    count = agrees.count ∙ sym (length-set seats x n);
    nodes = λ k a b lower. elim (cases_eq k x) [
      | inl here ↦
          let second : get_or (set seats x n) k b ≡ n = here_is seats x k n b low here in
          let third : get_or places k a ≡ p = place_here k a here in
          rw (second, third) (subst (λ (j : ℕ). AreAlike (node_at w j) (node_seen p n)) (sym here) alike)
      | inr other ↦
          let second : get_or (set seats x n) k b ≡ get_or seats k b = get_or-set_other seats x k n b other in
          rw second (agrees.nodes k a b (omega (arith, lower, length-set seats x n)))
    ];
  }

  -- what is told of a call that changes the node
  pub told_change : (steps : WorldView → List Step) (change : NodeView Secrets → NodeView Secrets) (IsSo : WorldView → Type 0) → IsAfter p m n →
      ((w : WorldView) → x < length w.sites → after_steps w (steps w) ≡ with_node_at w x (change (node_at w x))) →
      (OthersMark p n → (w : WorldView) → x < length w.sites → AreAlike (node_at w x) (node_seen p m) → IsSo w × AreAlike (change (node_at w x)) (node_seen p n)) →
      Matched (seen_shared (party_view places seats)) (seen_shared (party_view places (set seats x n))) steps IsSo
  told_change steps change IsSo call after so = λ alone w agrees.
      let here : x < length w.sites = omega (arith, low, agrees.count) in
      let is = so (mark_here call alone) w here (node_alike w agrees) in
      (is.0, subst (AreSeen places (set seats x n)) (sym (after w here)) (agrees_changed w (change (node_at w x)) agrees is.1))

  -- of one that reads it
  pub told_same : (IsSo : WorldView → Type 0) → IsAfter p m n →
      (OthersMark p n → (w : WorldView) → AreAlike (node_at w x) (node_seen p m) → IsSo w × AreAlike (node_at w x) (node_seen p n)) →
      Matched (seen_shared (party_view places seats)) (seen_shared (party_view places (set seats x n))) (λ w. []) IsSo
  told_same IsSo call so = λ alone w agrees.
      let is = so (mark_here call alone) w (node_alike w agrees) in
      (is.0, agrees_same w agrees is.1)
