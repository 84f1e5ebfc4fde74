-- The same of a seat of each node: the loops over all of them, and workers beside each other
use Rattle.std.proofs.Common.{◌≡◌, ℕ, suc, ◌+◌, ◌-◌, ◌<◌, ◌≤◌, ◌%◌, ◌&&◌, Bool, true, cond, eqb, eq-eqb, nat_lt, None, List, [], ◌∷◌, ◌++◌, length, take, map, get_or, set, Result, Ok, Err, refl, sym, ap, ◌∙◌, subst, arith, length-set, length-append}
use Rattle.std.specs.Prelude.{All, OnOk}
use Rattle.std.specs.Result.{result_and}
use Rattle.std.proofs.lemmas.Nat.{mod_below}
use Rattle.std.proofs.lemmas.List.Elements.{All-map}
use Rattle.std.proofs.lemmas.List.{get_or_append_left, get_or_default, get_or-map, get_or-set_other, length-map}
use mathlib.Core.Logic.{dite}
use native.Mathlib.Decide.{ℕ_discrete}
use Rattle.hg_model.specs.Places.{count_below}
use Rattle.hg_model.specs.Stakes.{Stakes}
use Rattle.hg_model.specs.Links.{Link}
use Rattle.hg_model.specs.Rounds.{is_witness}
use Rattle.hg_model.specs.Fame.{fame_of}
use Rattle.hg_model.specs.Order.{coin_at}
use Rattle.hg_model.specs.Shares.{Share, is_of_share, share_fame, whole}
use Rattle.hg_life.specs.Signing.{Accepts}
use Rattle.hg_life.specs.NodeView.{NodeView, node_links, node_rows}
use Rattle.hg_board.specs.Table.{node_at}
use Rattle.hg_life.specs.NodeView.{IsNode}
use Rattle.hg_life.specs.History.{Change}
use Rattle.hg_history.proofs.StateLaws.{prefix_same}
use Rattle.hg_board.specs.Positions.{AreBelow}
use Rattle.hg_board.specs.Seats.{IsOf, SharedNode, SeatView}
use Rattle.hg_board.specs.Calls.{Absorbs, IsStarted, IsWhole, Stays, after_split, split_off}
use Rattle.hg_board.specs.Crews.{MarksAll, OnlyMarks}
use Rattle.hg_crowd.specs.Crowd.{AreSeats, AreStill, Each, IsSeat}
use Rattle.hg_crowd.specs.Workers.{AllAbsorb, AllMark, AllMarkUpTo, AreStarted, AreWhole, HasAll, HasMore, Worked}
use Rattle.hg_crowd.proofs.ListLaws.{front_all, front_get, front_set, get_last, map_front, map_push, map_taken, pair_at, set_at, some_of}
use Rattle.hg_crowd.proofs.WorkLaws.{marked_later, seat_absorbed, seat_after_split, seat_of_call, seat_split_off, worked_beside, worked_by_call, worked_none}

-- parts

pub has_fewer : {V : Type 0} (seats : List (SeatView V)) (many few : ℕ) → few ≤ many → All (HasMore many) seats → All (HasMore few) seats
has_fewer seats many few le more = λ k s inside. omega (arith, more k s inside, le)

pub more_after_split : {V : Type 0} (many : ℕ) (seats : List (SeatView V)) → All (HasMore (many + 1)) seats → All (HasMore many) (map after_split seats)
more_after_split many seats more = All-map (HasMore many) after_split seats (λ k s inside. omega (arith, more k s inside))

-- splitting

module _ {V : Type 0} (accepts : V → Accepts) (shared : List (SharedNode V)) where
  pub after_split_all : (seats : List (SeatView V)) → AreSeats accepts shared seats → AreSeats accepts shared (map after_split seats)
  after_split_all seats each = record {
    count = length-map seats after_split ∙ each.count;
    each = λ k p s inside.
        subst (IsSeat accepts (get_or shared k p)) (sym (get_or-map after_split seats k s s (omega (arith, inside, each.count))))
        (seat_after_split accepts (get_or shared k p) (get_or seats k s) (each.each k p s inside));
  }

  pub split_off_all : (seats : List (SeatView V)) → AreSeats accepts shared seats → AreSeats accepts shared (map split_off seats)
  split_off_all seats each = record {
    count = length-map seats split_off ∙ each.count;
    each = λ k p s inside.
        subst (IsSeat accepts (get_or shared k p)) (sym (get_or-map split_off seats k s s (omega (arith, inside, each.count))))
        (seat_split_off accepts (get_or shared k p) (get_or seats k s) (each.each k p s inside));
  }

module _ {V : Type 0} (olds : List (SeatView V)) where
  -- before the node at i
  pub record Splitting (now others : List (SeatView V)) (i count room : ℕ) : Type 0 where
    pub split : now ≡ map_front after_split i olds
    pub new : others ≡ map split_off (take i olds)
    pub pushed : length others ≡ i
    pub counted : count ≡ length olds
    pub fits : count ≤ room

  pub split_found : (now others : List (SeatView V)) (i count room : ℕ) (s : SeatView V) → Splitting now others i count room → s ≡ get_or now i s → s ≡ get_or olds i s
  split_found now others i count room s so at = at ∙ (ap (λ (l : List (SeatView V)). get_or l i s) so.split ∙ front_get after_split split_off i olds i s (omega arith))

  pub split_one : (now others : List (SeatView V)) (i count room : ℕ) (s t other : SeatView V) → Splitting now others i count room → i < count → s ≡ get_or now i s →
      t ≡ after_split s → other ≡ split_off s → Splitting (set now i t) (others ++ other ∷ []) (i + 1) count room
  split_one now others i count room s t other so inside at is is_other =
      let was : s ≡ get_or olds i s = split_found now others i count room s so at in
      let low : i < length olds = omega (arith, inside, so.counted) in
      let next : suc i ≡ i + 1 = omega arith in
      record {
        split = ap (λ (l : List (SeatView V)). set l i t) so.split ∙ (ap (λ (u : SeatView V). set (map_front after_split i olds) i u) (is ∙ ap after_split was) ∙ (front_set after_split split_off i olds s low ∙ ap (λ (j : ℕ). map_front after_split j olds) next));
        new = ap (λ (l : List (SeatView V)). l ++ other ∷ []) so.new ∙ (ap (λ (u : SeatView V). map split_off (take i olds) ++ u ∷ []) (is_other ∙ ap split_off was) ∙ (sym (map_push after_split split_off i olds s low) ∙ ap (λ (j : ℕ). map split_off (take j olds)) next));
        pushed = omega (arith, length-append others (other ∷ []), so.pushed);
        counted = so.counted;
        fits = so.fits;
      }

  pub split_all_now : (now others : List (SeatView V)) (i count room : ℕ) → Splitting now others i count room → count ≤ i → now ≡ map after_split olds
  split_all_now now others i count room so past = so.split ∙ front_all after_split split_off i olds (omega (arith, so.counted, past))

  pub split_all_others : (now others : List (SeatView V)) (i count room : ℕ) → Splitting now others i count room → count ≤ i → others ≡ map split_off olds
  split_all_others now others i count room so past = so.new ∙ map_taken after_split split_off i olds (omega (arith, so.counted, past))

module _ {V : Type 0} (accepts : V → Accepts) (shared : List (SharedNode V)) (olds others : List (SeatView V)) where
  -- absorbing, from the last node on; these are left
  pub record Absorbing (now left : List (SeatView V)) : Type 0 where
    pub count : length now ≡ length olds
    pub few : length left ≤ length olds
    pub waits : (k : ℕ) (s t : SeatView V) → k < length left → get_or left k s ≡ get_or others k t
    pub absorbed : (k : ℕ) (p : SharedNode V) (s other t : SeatView V) → k < length olds → length left ≤ k →
        Absorbs accepts (get_or shared k p) (get_or olds k s) (get_or others k other) (get_or now k t)
    pub same : (k : ℕ) (s t : SeatView V) → k < length left → get_or now k t ≡ get_or olds k s

  pub absorb_none : AreSeats accepts shared olds → AreSeats accepts shared others → Absorbing olds others
  absorb_none seats more = record {
    count = refl;
    few = omega (arith, seats.count, more.count);
    waits = λ k s t inside. get_or_default others k s t inside;
    absorbed = λ k p s other t inside past. absurd (omega (arith, seats.count, more.count, inside, past));
    same = λ k s t inside. get_or_default olds k t s (omega (arith, seats.count, more.count, inside));
  }

  -- what the next absorb asks
  pub absorb_asks : (now left : List (SeatView V)) (other s : SeatView V) (p : SharedNode V) (i : ℕ) → AreSeats accepts shared olds → AreSeats accepts shared others → Absorbing now (left ++ other ∷ []) →
      i ≡ length left → p ≡ get_or shared i p → s ≡ get_or now i s → IsOf p s × IsOf p other
  absorb_asks now left other s p i seats more so at place_at seat_at =
      let longer : length (left ++ other ∷ []) ≡ length left + 1 = length-append left (other ∷ []) in
      let low : i < length (left ++ other ∷ []) = omega (arith, at, longer) in
      let inside : i < length shared = omega (arith, low, so.few, seats.count) in
      let was : s ≡ get_or olds i s = seat_at ∙ so.same i s s low in
      let from : other ≡ get_or others i other = sym (get_last left other other i at) ∙ so.waits i other other low in
      ((pair_at (IsSeat accepts) shared olds i p s seats inside place_at was).of, (pair_at (IsSeat accepts) shared others i p other more inside place_at from).of)

  pub absorb_one : (now left : List (SeatView V)) (other s u : SeatView V) (p : SharedNode V) (i : ℕ) → AreSeats accepts shared olds → Absorbing now (left ++ other ∷ []) →
      i ≡ length left → p ≡ get_or shared i p → s ≡ get_or now i s → Absorbs accepts p s other u → Absorbing (set now i u) left
  absorb_one now left other s u p i seats so at place_at seat_at absorbs =
      let longer : length (left ++ other ∷ []) ≡ length left + 1 = length-append left (other ∷ []) in
      let low : i < length (left ++ other ∷ []) = omega (arith, at, longer) in
      let inside : i < length shared = omega (arith, low, so.few, seats.count) in
      let was : (d : SeatView V) → s ≡ get_or olds i d = λ d. seat_at ∙ so.same i d s low in
      let from : (d : SeatView V) → other ≡ get_or others i d = λ d. sym (get_last left other other i at) ∙ so.waits i other d low in
      let where_at : (d : SharedNode V) → p ≡ get_or shared i d = λ d. place_at ∙ get_or_default shared i p d inside in
      let here : (d : SharedNode V) (a b : SeatView V) → Absorbs accepts (get_or shared i d) (get_or olds i a) (get_or others i b) u = λ d a b.
      subst (λ (q : SharedNode V). Absorbs accepts q (get_or olds i a) (get_or others i b) u) (where_at d)
      (subst (λ (x : SeatView V). Absorbs accepts p x (get_or others i b) u) (was a) (subst (λ (x : SeatView V). Absorbs accepts p s x u) (from b) absorbs)) in
      let all : (k : ℕ) (t : SeatView V) → k < length now → length left ≤ k → (q : SharedNode V) (a b : SeatView V) → Absorbs accepts (get_or shared k q) (get_or olds k a) (get_or others k b) (get_or (set now i u) k t)
      = λ k t low past. set_at (λ j x. length left ≤ j → (q : SharedNode V) (a b : SeatView V) → Absorbs accepts (get_or shared j q) (get_or olds j a) (get_or others j b) x) now i u
      (λ le. here) (λ j d below ne le q a b. so.absorbed j q a b d (omega (arith, below, so.count)) (omega (arith, longer, le, at, ne))) k t low past in
      record {
        count = length-set now i u ∙ so.count;
        few = omega (arith, longer, so.few);
        waits = λ k a b early. sym (get_or_append_left left (other ∷ []) a k early) ∙ so.waits k a b (omega (arith, longer, early));
        absorbed = λ k q a b t below past. all k t (omega (arith, below, so.count)) past q a b;
        same = λ k a b early. get_or-set_other now i k u b (λ e. let same : k ≡ i = e in omega (arith, same, early, at)) ∙ so.same k a b (omega (arith, longer, early));
      }

  pub absorb_done : (now left : List (SeatView V)) → left ≡ [] → Absorbing now left → AllAbsorb accepts shared olds others now
  absorb_done now left none so = record { count = so.count; each = λ k p s other t inside. so.absorbed k p s other t inside (omega (arith, ap length none)) }

module _ {V : Type 0} (accepts : V → Accepts) (shared : List (SharedNode V)) (share : Share) (olds : List (SeatView V)) where
  -- the seat of the node at k, which may have worked
  pub record IsWorking (k : ℕ) (t : SeatView V) : Type 0 where
    pub seat : (p : SharedNode V) → IsSeat accepts (get_or shared k p) t
    pub worked : (s : SeatView V) → Worked (get_or olds k s) t

  -- before the node at i
  pub record Working (now : List (SeatView V)) (i : ℕ) : Type 0 where
    pub count : length now ≡ length olds
    pub each : (k : ℕ) (t : SeatView V) → k < length now → IsWorking k (get_or now k t)
    pub marked : (k : ℕ) (t : SeatView V) → k < length now → k < i → (p : SharedNode V) (s : SeatView V) → MarksAll (get_or shared k p) share (get_or olds k s) (get_or now k t)
    pub same : (k : ℕ) (s t : SeatView V) → k < length olds → i ≤ k → get_or now k t ≡ get_or olds k s

  pub working_none : AreSeats accepts shared olds → Working olds 0
  working_none seats = record {
    count = refl;
    each = λ k t inside. record {
      seat = λ p. seats.each k p t (omega (arith, inside, seats.count));
      worked = λ s. subst (Worked (get_or olds k s)) (get_or_default olds k s t inside) (worked_none (get_or olds k s));
    };
    marked = λ k t inside early. absurd (omega arith);
    same = λ k s t inside past. get_or_default olds k t s inside;
  }

  -- the seat that the next call takes
  pub working_seat : (now : List (SeatView V)) (i : ℕ) (p : SharedNode V) (s : SeatView V) → length shared ≡ length olds → Working now i → i < length shared → p ≡ get_or shared i p → s ≡ get_or now i s →
      IsSeat accepts p s
  working_seat now i p s count so inside place_at seat_at =
      subst (IsSeat accepts p) (sym seat_at) (subst (λ (q : SharedNode V). IsSeat accepts q (get_or now i s)) (sym place_at) ((so.each i s (omega (arith, inside, count, so.count))).seat p))

  -- all of them after it, whether it found memory or not
  pub working_each : (now : List (SeatView V)) (i : ℕ) (p : SharedNode V) (s t : SeatView V) → length shared ≡ length olds → Working now i → i < length shared → p ≡ get_or shared i p → s ≡ get_or now i s →
      Stays accepts p s t → OnlyMarks share s t → (k : ℕ) (d : SeatView V) → k < length now → IsWorking k (get_or (set now i t) k d)
  working_each now i p s t count so inside place_at seat_at stays marks =
      let seat : IsSeat accepts p s = working_seat now i p s count so inside place_at seat_at in
      let was : (d : SeatView V) → s ≡ get_or olds i d = λ d. seat_at ∙ so.same i d s (omega (arith, inside, count)) (omega arith) in
      set_at IsWorking now i t (record {
        seat = λ q. subst (λ (x : SharedNode V). IsSeat accepts x t) (place_at ∙ get_or_default shared i p q inside) (seat_of_call accepts p s t stays);
        worked = λ a. subst (λ (x : SeatView V). Worked x t) (was a) (worked_by_call accepts p s t share seat stays marks);
      }) (λ k d below ne. so.each k d below)

  pub working_one : (now : List (SeatView V)) (i : ℕ) (p : SharedNode V) (s t : SeatView V) → length shared ≡ length olds → Working now i → i < length shared → p ≡ get_or shared i p → s ≡ get_or now i s →
      Stays accepts p s t → OnlyMarks share s t → MarksAll p share s t → Working (set now i t) (i + 1)
  working_one now i p s t count so inside place_at seat_at stays marks all =
      let was : (d : SeatView V) → s ≡ get_or olds i d = λ d. seat_at ∙ so.same i d s (omega (arith, inside, count)) (omega arith) in
      let here : (q : SharedNode V) (a : SeatView V) → MarksAll (get_or shared i q) share (get_or olds i a) t = λ q a.
      subst (λ (x : SharedNode V). MarksAll x share (get_or olds i a) t) (place_at ∙ get_or_default shared i p q inside) (subst (λ (x : SeatView V). MarksAll p share x t) (was a) all) in
      record {
        count = length-set now i t ∙ so.count;
        each = λ k d below. working_each now i p s t count so inside place_at seat_at stays marks k d (omega (arith, below, length-set now i t));
        marked = λ k d below early. set_at (λ j x. j < i + 1 → (q : SharedNode V) (a : SeatView V) → MarksAll (get_or shared j q) share (get_or olds j a) x) now i t
            (λ le. here) (λ j e low ne le. so.marked j e low (omega (arith, ne, le))) k d (omega (arith, below, length-set now i t)) early;
        same = λ k a b below past. get_or-set_other now i k t b (λ e. let same : k ≡ i = e in omega (arith, same, past)) ∙ so.same k a b below (omega (arith, past));
      }

  pub working_seats : (now : List (SeatView V)) → length shared ≡ length olds → length now ≡ length olds → ((k : ℕ) (t : SeatView V) → k < length now → IsWorking k (get_or now k t)) → AreSeats accepts shared now
  working_seats now count same each = record { count = omega (arith, count, same); each = λ k p t inside. (each k t (omega (arith, inside, count, same))).seat p }

  pub working_worked : (now : List (SeatView V)) → length now ≡ length olds → ((k : ℕ) (t : SeatView V) → k < length now → IsWorking k (get_or now k t)) → Each Worked olds now
  working_worked now same each = record { count = same; each = λ k s t inside. (each k t (omega (arith, inside, same))).worked s }

  pub working_marked : (now : List (SeatView V)) (i : ℕ) → length shared ≡ length olds → Working now i → length shared ≤ i → AllMark shared share olds now
  working_marked now i count so past = record { each = λ k p s t inside. so.marked k t (omega (arith, inside, so.count)) (omega (arith, inside, past, count)) p s }

module _ {V : Type 0} (accepts : V → Accepts) (shared : List (SharedNode V)) where
  pub seats_absorbed : (seats others news : List (SeatView V)) → AreSeats accepts shared seats → AllAbsorb accepts shared seats others news → AreSeats accepts shared news
  seats_absorbed seats others news each absorbs = record {
    count = absorbs.count ∙ each.count;
    each = λ k p s inside. seat_absorbed accepts (get_or shared k p) (get_or seats k s) (get_or others k s) (get_or news k s) (each.each k p s inside)
        (absorbs.each k p s s s (omega (arith, inside, each.count)));
  }

  -- workers beside each other, of whom some had the seats and one had those that were split off
  pub worked_beside_all : (olds ts others us : List (SeatView V)) → AreSeats accepts shared olds → All (HasMore 1) olds → Each Worked (map after_split olds) ts → Each Worked (map split_off olds) others →
      AllAbsorb accepts shared ts others us → Each Worked olds us
  worked_beside_all olds ts others us seats parts first second absorbs =
      let after_count : length (map after_split olds) ≡ length olds = length-map olds after_split in
      let split_count : length (map split_off olds) ≡ length olds = length-map olds split_off in
      record {
        count = omega (arith, absorbs.count, first.count, after_count);
        each = λ k s u inside.
            let some_place : SharedNode V = some_of shared k (omega (arith, inside, seats.count)) in
            let seat = seats.each k some_place s (omega (arith, inside, seats.count)) in
            let one = subst (λ (x : SeatView V). Worked x (get_or ts k s)) (get_or-map after_split olds k s s inside) (first.each k s s (omega (arith, inside, after_count))) in
            let two = subst (λ (x : SeatView V). Worked x (get_or others k s)) (get_or-map split_off olds k s s inside) (second.each k s s (omega (arith, inside, split_count))) in
            worked_beside accepts (get_or shared k some_place) (get_or olds k s) (get_or ts k s) (get_or others k s) (get_or us k u) seat (parts k s inside) one two
            (absorbs.each k some_place s s u (omega (arith, inside, first.count, after_count)));
      }

  pub mark_beside_all : (olds ts others us : List (SeatView V)) (before last shares : ℕ) → last ≡ before + 1 → Each Worked (map after_split olds) ts → AllAbsorb accepts shared ts others us →
      AllMarkUpTo shared before shares (map after_split olds) ts → AllMark shared (record { k = last; «of» = shares }) (map split_off olds) others → AllMarkUpTo shared last shares olds us
  mark_beside_all olds ts others us before last shares is worked absorbs first second =
      let after_count : length (map after_split olds) ≡ length olds = length-map olds after_split in
      let split_count : length (map split_off olds) ≡ length olds = length-map olds split_off in
      λ j few. record {
        each = λ k p s u inside.
            let absorbed = absorbs.each k p s s u (omega (arith, inside, worked.count, after_count)) in
            let share : Share = record { k = j; «of» = shares } in
            dite (ℕ_discrete j last)
            (λ e.
            let same : j ≡ last = e in
            let one = subst (λ (x : SeatView V). MarksAll (get_or shared k p) (record { k = last; «of» = shares }) x (get_or others k s)) (get_or-map split_off olds k s s inside) (second.each k p s s (omega (arith, inside, split_count))) in
            subst (λ (i : ℕ). MarksAll (get_or shared k p) (record { k = i; «of» = shares }) (get_or olds k s) (get_or us k u)) (sym same)
            (marked_later accepts (get_or shared k p) (get_or olds k s) (get_or others k s) (get_or us k u) (record { k = last; «of» = shares }) one absorbed.ends))
            (λ ne.
            let early : j ≤ before = omega (arith, ne, few, is) in
            let one = subst (λ (x : SeatView V). MarksAll (get_or shared k p) share x (get_or ts k s)) (get_or-map after_split olds k s s inside) ((first j early).each k p s s (omega (arith, inside, after_count))) in
            marked_later accepts (get_or shared k p) (get_or olds k s) (get_or ts k s) (get_or us k u) share one absorbed.begins);
      }

-- the first share of several
pub up_to_first : {V : Type 0} (shared : List (SharedNode V)) (last shares : ℕ) (share : Share) (olds news : List (SeatView V)) → last ≡ 0 → share ≡ record { k = last; «of» = shares } →
    AllMark shared share olds news → AllMarkUpTo shared last shares olds news
up_to_first shared last shares share olds news first is marked = λ j few.
    let same : last ≡ j = omega (arith, first, few) in
    subst (λ (i : ℕ). AllMark shared (record { k = i; «of» = shares }) olds news) same (subst (λ (s : Share). AllMark shared s olds news) is marked)

-- what one call and another came to
pub ok_map : {A E : Type 0} (a : Result A E) (P Q : Type 0) → (P → Q) → OnOk a P → OnOk a Q
ok_map (Ok x) P Q so one = so one
ok_map (Err e) P Q so one = tt

pub ok_both : {A B E : Type 0} (a : Result A E) (b : Result B E) (P Q R : Type 0) → (P → Q → R) → OnOk a P → OnOk b Q → OnOk (result_and a b) R
ok_both (Ok x) (Ok y) P Q R so one two = so one two
ok_both (Ok x) (Err e) P Q R so one two = tt
ok_both (Err e) b P Q R so one two = tt

-- all shares together have all witnesses
same_test : (n : Stakes) (L : List Link) (x workers : ℕ) → is_of_share n L (record { k = count_below x (is_witness n L) % workers; «of» = workers }) x ≡ is_of_share n L whole x
same_test n L x workers =
    let k : ℕ = count_below x (is_witness n L) in
    let one : k % 1 < 1 = mod_below k 1 (omega arith) in
    let first : eqb (k % workers) (k % workers) ≡ true = eq-eqb (k % workers) (k % workers) refl in
    let second : eqb (k % 1) 0 ≡ true = eq-eqb (k % 1) 0 (omega (arith, one)) in
    ap (λ (b : Bool). nat_lt x (length L) && is_witness n L x && b) (first ∙ sym second)

pub whole_marked : {V : Type 0} (p : SharedNode V) (s t : SeatView V) (last workers : ℕ) → workers ≡ last + 1 → ((k : ℕ) → k ≤ last → MarksAll p (record { k = k; «of» = workers }) s t) → MarksAll p whole s t
unfolding share_fame
whole_marked p s t last workers is marks = λ x famous decided.
    let v = node_at p.start s.seen in
    let n = v.start.members in
    let L = node_links v in
    let k : ℕ = count_below x (is_witness n L) in
    let few : k % workers < workers = mod_below k workers (omega (arith, is)) in
    marks (k % workers) (omega (arith, few, is)) x famous (ap (λ (b : Bool). cond b (fame_of n v.start.coin L (coin_at (node_rows v)) x) None) (same_test n L x workers) ∙ decided)

pub all_whole_marked : {V : Type 0} (shared : List (SharedNode V)) (olds news : List (SeatView V)) (last workers : ℕ) → workers ≡ last + 1 → AllMarkUpTo shared last workers olds news → AllMark shared whole olds news
all_whole_marked shared olds news last workers is marked = record {
  each = λ k p s t inside. whole_marked (get_or shared k p) (get_or olds k s) (get_or news k t) last workers is (λ j few. (marked j few).each k p s t inside);
}

module _ {V : Type 0} (accepts : V → Accepts) where
  -- nodes that are started and finished one after the other

  pub started_none : AreStarted accepts [] [] []
  started_none = record { shared_count = refl; seats_count = refl; each = λ k node p s inside. absurd (omega arith) }

  pub started_one : (nodes : List (NodeView V)) (shared : List (SharedNode V)) (seats : List (SeatView V)) (node : NodeView V) (p : SharedNode V) (s : SeatView V) →
      AreStarted accepts nodes shared seats → IsStarted accepts p node s → AreStarted accepts (nodes ++ node ∷ []) (shared ++ p ∷ []) (seats ++ s ∷ [])
  started_one nodes shared seats node p s so started = record {
    shared_count = omega (arith, length-append shared (p ∷ []), length-append nodes (node ∷ []), so.shared_count);
    seats_count = omega (arith, length-append seats (s ∷ []), length-append nodes (node ∷ []), so.seats_count);
    each = λ k a b d inside. dite (ℕ_discrete k (length nodes))
        (λ e.
        let last : k ≡ length nodes = e in
        subst (λ (x : NodeView V). IsStarted accepts (get_or (shared ++ p ∷ []) k b) x (get_or (seats ++ s ∷ []) k d)) (sym (get_last nodes node a k last))
        (subst (λ (x : SharedNode V). IsStarted accepts x node (get_or (seats ++ s ∷ []) k d)) (sym (get_last shared p b k (last ∙ sym so.shared_count)))
        (subst (IsStarted accepts p node) (sym (get_last seats s d k (last ∙ sym so.seats_count))) started)))
        (λ ne.
        let early : k < length nodes = omega (arith, ne, inside, length-append nodes (node ∷ [])) in
        subst (λ (x : NodeView V). IsStarted accepts (get_or (shared ++ p ∷ []) k b) x (get_or (seats ++ s ∷ []) k d)) (sym (get_or_append_left nodes (node ∷ []) a k early))
        (subst (λ (x : SharedNode V). IsStarted accepts x (get_or nodes k a) (get_or (seats ++ s ∷ []) k d)) (sym (get_or_append_left shared (p ∷ []) b k (omega (arith, early, so.shared_count))))
        (subst (IsStarted accepts (get_or shared k b) (get_or nodes k a)) (sym (get_or_append_left seats (s ∷ []) d k (omega (arith, early, so.seats_count)))) (so.each k a b d early))));
  }

  pub whole_none : (shared : List (SharedNode V)) (seats : List (SeatView V)) → shared ≡ [] → seats ≡ [] → AreWhole shared seats []
  whole_none shared seats no_place no_seat = record { shared_count = ap length no_place; seats_count = ap length no_seat; each = λ k p s node inside. absurd (omega arith) }

  pub whole_one : (shared : List (SharedNode V)) (seats : List (SeatView V)) (nodes : List (NodeView V)) (p : SharedNode V) (s : SeatView V) (node : NodeView V) →
      AreWhole shared seats nodes → IsWhole p s node → AreWhole (shared ++ p ∷ []) (seats ++ s ∷ []) (nodes ++ node ∷ [])
  whole_one shared seats nodes p s node so whole = record {
    shared_count = omega (arith, length-append shared (p ∷ []), length-append nodes (node ∷ []), so.shared_count);
    seats_count = omega (arith, length-append seats (s ∷ []), length-append nodes (node ∷ []), so.seats_count);
    each = λ k b d a inside. dite (ℕ_discrete k (length nodes))
        (λ e.
        let last : k ≡ length nodes = e in
        subst (λ (x : NodeView V). IsWhole (get_or (shared ++ p ∷ []) k b) (get_or (seats ++ s ∷ []) k d) x) (sym (get_last nodes node a k last))
        (subst (λ (x : SharedNode V). IsWhole x (get_or (seats ++ s ∷ []) k d) node) (sym (get_last shared p b k (last ∙ sym so.shared_count)))
        (subst (λ (x : SeatView V). IsWhole p x node) (sym (get_last seats s d k (last ∙ sym so.seats_count))) whole)))
        (λ ne.
        let early : k < length nodes = omega (arith, ne, inside, length-append nodes (node ∷ [])) in
        subst (λ (x : NodeView V). IsWhole (get_or (shared ++ p ∷ []) k b) (get_or (seats ++ s ∷ []) k d) x) (sym (get_or_append_left nodes (node ∷ []) a k early))
        (subst (λ (x : SharedNode V). IsWhole x (get_or (seats ++ s ∷ []) k d) (get_or nodes k a)) (sym (get_or_append_left shared (p ∷ []) b k (omega (arith, early, so.shared_count))))
        (subst (λ (x : SeatView V). IsWhole (get_or shared k b) x (get_or nodes k a)) (sym (get_or_append_left seats (s ∷ []) d k (omega (arith, early, so.seats_count)))) (so.each k b d a early))));
  }

  -- all but the last pair are seats of their nodes, and so is the last
  pub seats_but_last : (shared : List (SharedNode V)) (seats : List (SeatView V)) (p : SharedNode V) (s : SeatView V) → AreSeats accepts (shared ++ p ∷ []) (seats ++ s ∷ []) → AreSeats accepts shared seats × IsOf p s
  seats_but_last shared seats p s each =
      let count : length seats ≡ length shared = omega (arith, each.count, length-append shared (p ∷ []), length-append seats (s ∷ [])) in
      let last : IsSeat accepts (get_or (shared ++ p ∷ []) (length shared) p) (get_or (seats ++ s ∷ []) (length shared) s) = each.each (length shared) p s (omega (arith, length-append shared (p ∷ []))) in
      let seat : IsSeat accepts p s = subst (λ (x : SharedNode V). IsSeat accepts x s) (get_last shared p p (length shared) refl)
      (subst (IsSeat accepts (get_or (shared ++ p ∷ []) (length shared) p)) (get_last seats s s (length shared) (sym count)) last) in (
        record {
          count = count;
          each = λ k a b inside.
              subst (λ (x : SharedNode V). IsSeat accepts x (get_or seats k b)) (get_or_append_left shared (p ∷ []) a k inside)
              (subst (IsSeat accepts (get_or (shared ++ p ∷ []) k a)) (get_or_append_left seats (s ∷ []) b k (omega (arith, inside, count)))
              (each.each k a b (omega (arith, inside, length-append shared (p ∷ [])))));
        },
        seat.of,
      )

  -- the first seats
  pub seats_started : (nodes : List (NodeView V)) (shared : List (SharedNode V)) (seats : List (SeatView V)) → AreStarted accepts nodes shared seats → AreSeats accepts shared seats
  seats_started nodes shared seats so = record {
    count = so.seats_count ∙ sym so.shared_count;
    each = λ k p s inside.
        let started = so.each k p.start p s (omega (arith, inside, so.shared_count)) in
        let same : (get_or seats k s).seen ≡ (get_or shared k p).start.history = started.seen ∙ ap (λ (v : NodeView V). v.history) (sym started.start) in
        record {
          of = started.of;
          begun = prefix_same (get_or shared k p).start.history (get_or seats k s).seen (sym same);
          within = subst (AreBelow (length (get_or seats k s).seen)) (sym started.mine) tt;
          node = subst (λ (h : List Change). IsNode accepts (node_at (get_or shared k p).start h)) (sym same) (subst (IsNode accepts) (sym started.start) started.lawful);
        };
  }

  -- they have all parts
  pub all_started : (nodes : List (NodeView V)) (shared : List (SharedNode V)) (seats : List (SeatView V)) → AreStarted accepts nodes shared seats → All HasAll seats
  all_started nodes shared seats so = λ k s inside.
      let node : NodeView V = some_of nodes k (omega (arith, inside, so.seats_count)) in
      let p : SharedNode V = some_of shared k (omega (arith, inside, so.seats_count, so.shared_count)) in
      (so.each k node p s (omega (arith, inside, so.seats_count))).parts

  -- after a split, work, and the absorption of seats that are still those that were split off, they have all again
  pub all_back : (shared : List (SharedNode V)) (firsts beside called back : List (SeatView V)) → length firsts ≡ length shared → All HasAll firsts → AreStill (map split_off firsts) called →
      Each Worked (map after_split firsts) beside → AllAbsorb accepts shared beside called back → All HasAll back
  all_back shared firsts beside called back count all still worked absorbs = λ k s inside.
      let after_count : length (map after_split firsts) ≡ length firsts = length-map firsts after_split in
      let split_count : length (map split_off firsts) ≡ length firsts = length-map firsts split_off in
      let there : k < length firsts = omega (arith, inside, absorbs.count, worked.count, after_count) in
      let p : SharedNode V = some_of shared k (omega (arith, there, count)) in
      let one : (get_or beside k s).parts ≡ (get_or firsts k s).parts - 1 =
      (worked.each k s s (omega (arith, there, after_count))).still.parts ∙ ap (λ (t : SeatView V). t.parts) (get_or-map after_split firsts k s s there) in
      let two : (get_or called k s).parts ≡ 1 = (still.each k s s (omega (arith, there, split_count))).parts ∙ ap (λ (t : SeatView V). t.parts) (get_or-map split_off firsts k s s there) in
      omega (arith, (absorbs.each k p s s s (omega (arith, there, after_count, worked.count))).parts, one, two, all k s there)

-- work leaves the parts as they were
pub all_worked : {V : Type 0} (olds news : List (SeatView V)) → Each Worked olds news → All HasAll olds → All HasAll news
all_worked olds news worked all = λ k s inside. let here : k < length olds = omega (arith, inside, worked.count) in (worked.each k s s here).still.parts ∙ all k s here
