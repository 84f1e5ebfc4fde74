-- What a closed round has received stays, and a row that comes leaves the kept order
use Rattle.std.proofs.Common.{◌≡◌, inl, inr, ℕ, zero, suc, ◌<◌, ◌≤◌, Bool, true, false, ◌&&◌, eqb, List, [], ◌∷◌, ◌++◌, length, map, get_or, Option, Some, None, is_some, unwrap_or, sym, refl, ap, ap₂, ◌∙◌, subst, arith, length-append}
use Rattle.std.specs.Prelude.{slice_get}
use Rattle.std.proofs.lemmas.Bool.{cases_lt, eq-eqb, eqb-true, false_from_ne_true, true≢false}
use Rattle.hg_model.specs.declared.row.Row.{Row}
use Rattle.hg_model.specs.declared.row.Placed.{Placed}
use Rattle.hg_model.specs.Places.{IsEarlier}
use Rattle.hg_model.specs.Stakes.{Stakes}
use Rattle.hg_model.specs.Links.{Link, links, parents}
use Rattle.hg_model.specs.Graph.{name_in, name_at, IsGraph}
use Rattle.hg_model.specs.Fame.{Marks, is_closed}
use Rattle.hg_model.specs.Order.{sort_by, comes_before, keyed_at, is_received_in, ordered_in, round_received, last_closed}
use Rattle.hg_life.specs.History.{Change, State, with_row, replay, IsHistory}
use Rattle.hg_life.specs.Kept.{kept, kept_in, kept_up_to}
use Rattle.hg_life.specs.History.Change.{Took, Made, Marked}
use Rattle.hg_life.specs.Terms.{Terms}
use Rattle.hg_model.specs.Orders.{IsPrefix}
use Rattle.hg_model.proofs.LinkLaws.{length-links}
use Rattle.hg_model.proofs.LongerLaws.{slice_get-append}
use Rattle.hg_model.proofs.NameLaws.{place_of_at}
use Rattle.hg_model.proofs.PlacesLaws.{list_below-same, list_below-longer}
use Rattle.hg_model.proofs.PushLaws.{nobody}
use Rattle.hg_prefix.specs.Standing.{place_in, IsMarkedPart}
use Rattle.hg_prefix.proofs.ClosedLaws.{closed_last, closed_up_to}
use Rattle.hg_prefix.proofs.FamousLaws.{received_is}
use Rattle.hg_prefix.proofs.GrowthLaws.{stands_in_itself}
use Rattle.hg_prefix.proofs.ReceivedLaws.{received_row, received_alike, key_alike}
use Rattle.hg_prefix.proofs.SharedLaws.{HasRowIn}
use Rattle.hg_history.specs.Laws.{RoundsStay, OrderByRounds, RowsLeaveTheOrder}
use Rattle.hg_history.proofs.StateLaws.{rows_grow, replay-push}
use Rattle.hg_history.proofs.KeptLaws.{stands_as_first}
use Rattle.hg_history.proofs.MarkLaws.{closed_before_row}
use Rattle.hg_history.proofs.RoundLaws.{order_by_rounds}
use Rattle.hg_history.proofs.SoundLaws.{IsSound, sound, moment, closed_later}

-- the test that a row is received in just this round

abbrev got : ℕ → Option ℕ → Bool
got r o = is_some o && eqb (unwrap_or o 0) r

got_is : (r : ℕ) (o : Option ℕ) → got r o ≡ true → o ≡ Some r
got_is r None h = absurd (true≢false (sym h))
got_is r (Some k) h = ap (λ (i : ℕ). Some i) (eqb-true k r h)

got_from : (r : ℕ) (o : Option ℕ) → o ≡ Some r → got r o ≡ true
got_from r None is = cc
got_from r (Some k) is = (let same : k ≡ r = cc in eq-eqb k r same)

same_if : (a b : Bool) → (a ≡ true → b ≡ true) → (b ≡ true → a ≡ true) → a ≡ b
same_if true b there back = sym (there refl)
same_if false b there back = sym (false_from_ne_true b (λ is. true≢false (sym (back is))))

-- a graph, and one that begins with its rows, both with marks that are fame, which both have closed round r
module _ (n : Stakes) (c : ℕ) (U : List Row) (u : IsGraph n U) (three : 2 < c) (G : List Row) (f h : Marks) (g : IsMarkedPart n c U G f) (k : IsMarkedPart n c U U h)
    (first : IsPrefix G U) (r : ℕ) (closed_G : is_closed n (links G) f r ≡ true) (closed_U : is_closed n (links U) h r ≡ true) where
  more : length G ≤ length U
  more = (let e = ap length first.1 in omega (arith, e, length-append G first.0))

  same_name : (x : ℕ) → x < length G → name_at U x ≡ name_at G x
  unfolding name_at
  same_name x inside = ap name_in (subst (λ (H : List Row). slice_get H x ≡ slice_get G x) (sym first.1) (slice_get-append G first.0 nobody x inside))

  here : (x : ℕ) → x < length G → place_in U G x ≡ x
  here x inside = place_of_at U u.distinct x (name_at G x) (let le = more in omega arith) (same_name x inside)

  itself : (x : ℕ) → x < length U → place_in U U x ≡ x
  itself x inside = place_of_at U u.distinct x (name_at U x) inside refl

  in_U : (x : ℕ) → x < length (links G) → HasRowIn U G x U x
  in_U x inside =
      (let x_in : x < length G = rw (← length-links G) inside in let le = more in (omega (arith, length-links U), itself x (omega arith) ∙ sym (here x x_in)))

  in_G : (x : ℕ) → x < length (links G) → HasRowIn U U x G x
  in_G x inside = (inside, sym (in_U x inside).1)

  pub received_there : (x : ℕ) → x < length (links G) → round_received n (links G) f x ≡ Some r → round_received n (links U) h x ≡ Some r
  received_there x inside is = received_alike n c U u three G U f h g k r x x inside (in_U x inside) is closed_U

  pub received_back : (x : ℕ) → x < length (links G) → round_received n (links U) h x ≡ Some r → round_received n (links G) f x ≡ Some r
  received_back x inside is = received_alike n c U u three U G h f k g r x x (in_U x inside).0 (in_G x inside) is closed_G

  same_received : (x : ℕ) → x < length (links G) → is_received_in n (links U) h (λ i. eqb i r) x ≡ is_received_in n (links G) f (λ i. eqb i r) x
  same_received x inside =
      same_if (got r (round_received n (links U) h x)) (got r (round_received n (links G) f x))
      (λ is. got_from r (round_received n (links G) f x) (received_back x inside (got_is r (round_received n (links U) h x) is)))
      (λ is. got_from r (round_received n (links U) h x) (received_there x inside (got_is r (round_received n (links G) f x) is)))

  -- no later row is received in the round
  pub none_later : (x : ℕ) → length (links G) ≤ x → x < length (links U) → is_received_in n (links U) h (λ i. eqb i r) x ≡ false
  none_later x late inside =
      false_from_ne_true (got r (round_received n (links U) h x)) (λ is.
      let receives = (received_is n (links U) h x r (got_is r (round_received n (links U) h x) is)).receives in
      let y = received_row n c U u three U G h f k g r x inside receives closed_G in
      let y_in : y.0 < length (links G) = y.1.0 in
      let x_in : x < length U = rw (← length-links U) inside in
      let same : y.0 ≡ x = sym (here y.0 (rw (← length-links G) y_in)) ∙ (y.1.1 ∙ itself x x_in) in
      absurd (omega arith))

  same_keyed : (x : ℕ) → x < length (links G) → is_received_in n (links U) h (λ i. eqb i r) x ≡ true → keyed_at n U (links U) h x ≡ keyed_at n G (links G) f x
  same_keyed x inside is =
      let there = got_is r (round_received n (links U) h x) is in
      let key = key_alike n c U u three G U f h g k r x x inside (in_U x inside) (received_back x inside there) closed_U in
      ap (λ (key : List ℕ). at key) key
    where
      at : List ℕ → List ℕ × Placed
      at key = (key, record { place = x; received = get_or key 0 0; time = get_or key 1 0 })

  pub round_stays : ordered_in n U (links U) h (λ i. eqb i r) ≡ ordered_in n G (links G) f (λ i. eqb i r)
  unfolding ordered_in
  round_stays =
      ap (λ (xs : List (List ℕ × Placed)). map (λ (keyed : List ℕ × Placed). keyed.1) (sort_by comes_before xs))
      (list_below-longer (keyed_at n U (links U) h) (length (links G)) (length (links U)) (is_received_in n (links U) h (λ i. eqb i r)) (let le = more in omega (arith, length-links G, length-links U)) none_later
      ∙ list_below-same (keyed_at n U (links U) h) (keyed_at n G (links G) f) (length (links G)) (is_received_in n (links U) h (λ i. eqb i r)) (is_received_in n (links G) f (λ i. eqb i r)) same_received same_keyed)

module _ (terms : Terms) (n : Stakes) (c own : ℕ) (a b : List Change) (three : 2 < c) (is : IsHistory terms n c own (a ++ b)) where
  early : IsSound terms n c own (replay n c a)
  early = sound terms n c own a three (moment terms n c own a b is)

  late : IsSound terms n c own (replay n c (a ++ b))
  late = sound terms n c own (a ++ b) three is

  pub kept_in_stays : (r : ℕ) → is_closed n (replay n c a).links (replay n c a).marks r ≡ true → kept_in n (replay n c (a ++ b)) r ≡ kept_in n (replay n c a) r
  kept_in_stays r closed =
      let s = replay n c a in
      let t = replay n c (a ++ b) in
      let first = rows_grow n c a b in
      let later = closed_later terms n c own a b three is r closed in
      ap (λ (L : List Link). ordered_in n t.rows L t.marks (λ i. eqb i r)) late.linked
      ∙ (round_stays n c t.rows late.graph three s.rows s.marks t.marks
      (record { graph = early.graph; stands = stands_as_first s.rows t.rows first; fame = early.fame })
      (record { graph = late.graph; stands = stands_in_itself t.rows; fame = late.fame })
      first r (subst (λ (L : List Link). is_closed n L s.marks r ≡ true) early.linked closed) (subst (λ (L : List Link). is_closed n L t.marks r ≡ true) late.linked later)
      ∙ ap (λ (L : List Link). ordered_in n s.rows L s.marks (λ i. eqb i r)) (sym early.linked))

  -- so do the closed rounds together
  pub kept_up_to_stays : (m : ℕ) → m ≤ last_closed n (replay n c a).links (replay n c a).marks → kept_up_to n (replay n c (a ++ b)) m ≡ kept_up_to n (replay n c a) m
  unfolding kept_up_to
  kept_up_to_stays zero le = refl
  kept_up_to_stays (suc m) le =
      let s = replay n c a in
      let e = subst (λ (L : List Link). IsEarlier (parents L)) (sym early.linked) early.graph.shaped.earlier in
      ap₂ (λ (xs ys : List Placed). xs ++ ys) (kept_up_to_stays m (omega arith))
      (kept_in_stays (suc m) (closed_up_to n s.links e s.marks (suc m) (omega arith) le))

pub rounds_stay : RoundsStay
rounds_stay terms n c own a b three is r closed = kept_in_stays terms n c own a b three is r closed

pub by_rounds : OrderByRounds
by_rounds terms n c own h three is =
    let s = sound terms n c own h three is in
    order_by_rounds n (replay n c h) (subst (λ (L : List Link). IsEarlier (parents L)) (sym s.linked) s.graph.shaped.earlier)

-- a row that comes

module _ (terms : Terms) (n : Stakes) (c own : ℕ) (h : List Change) (e : Change) (three : 2 < c) (is : IsHistory terms n c own (h ++ e ∷ [])) (row : Row)
    (came : replay n c (h ++ e ∷ []) ≡ with_row n (replay n c h) row) where
  before : IsSound terms n c own (replay n c h)
  before = sound terms n c own h three (moment terms n c own h (e ∷ []) is)

  after : IsSound terms n c own (with_row n (replay n c h) row)
  after = subst (IsSound terms n c own) came (sound terms n c own (h ++ e ∷ []) three is)

  earlier_of : (s : State) → IsSound terms n c own s → IsEarlier (parents s.links)
  earlier_of s now = subst (λ (L : List Link). IsEarlier (parents L)) (sym now.linked) now.graph.shaped.earlier

  closes_none : (r : ℕ) → is_closed n (with_row n (replay n c h) row).links (with_row n (replay n c h) row).marks r ≡ true → is_closed n (replay n c h).links (replay n c h).marks r ≡ true
  closes_none r closed =
      let s = replay n c h in
      let t = with_row n s row in
      subst (λ (L : List Link). is_closed n L s.marks r ≡ true) (sym before.linked)
      (closed_before_row n c s row before.graph after.graph before.even three before.linked after.linked before.fame r
      (subst (λ (L : List Link). is_closed n L t.marks r ≡ true) after.linked closed))

  no_later : (s t : State) → IsSound terms n c own s → IsSound terms n c own t → ((r : ℕ) → is_closed n s.links s.marks r ≡ true → is_closed n t.links t.marks r ≡ true) →
      last_closed n s.links s.marks ≤ last_closed n t.links t.marks
  no_later s t now then keeps = elim (cases_lt 0 (last_closed n s.links s.marks)) [
    | inl some ↦ (closed_last n t.links (earlier_of t then) t.marks (last_closed n s.links s.marks)
        (keeps (last_closed n s.links s.marks) (closed_up_to n s.links (earlier_of s now) s.marks (last_closed n s.links s.marks) some (omega arith)))).1
    | inr none ↦ omega arith
  ]

  same_last : last_closed n (with_row n (replay n c h) row).links (with_row n (replay n c h) row).marks ≡ last_closed n (replay n c h).links (replay n c h).marks
  same_last =
      let s = replay n c h in
      let t = with_row n s row in
      let up = no_later s t before after (λ r closed. subst (λ (u : State). is_closed n u.links u.marks r ≡ true) came (closed_later terms n c own h (e ∷ []) three is r closed)) in
      let down = no_later t s after before closes_none in
      omega arith

  pub row_leaves_order : let s = replay n c h in let t = replay n c (h ++ e ∷ []) in (last_closed n t.links t.marks ≡ last_closed n s.links s.marks) × (kept n t ≡ kept n s)
  row_leaves_order =
      let s = replay n c h in
      let t = replay n c (h ++ e ∷ []) in
      let last : last_closed n t.links t.marks ≡ last_closed n s.links s.marks = ap (λ (u : State). last_closed n u.links u.marks) came ∙ same_last in (
        last,
        by_rounds terms n c own (h ++ e ∷ []) three is
            ∙ (ap (kept_up_to n t) last
            ∙ (kept_up_to_stays terms n c own h (e ∷ []) three is (last_closed n s.links s.marks) (omega arith)
            ∙ sym (by_rounds terms n c own h three (moment terms n c own h (e ∷ []) is)))),
      )

pub rows_leave_the_order : RowsLeaveTheOrder
rows_leave_the_order terms n c own h (Took row) three is came = row_leaves_order terms n c own h (Took row) three is row (replay-push n c h (Took row))
rows_leave_the_order terms n c own h (Made row) three is came = row_leaves_order terms n c own h (Made row) three is row (replay-push n c h (Made row))
rows_leave_the_order terms n c own h (Marked len share) three is came = absurd came
