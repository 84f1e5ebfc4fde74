-- A row that comes gets its first mark, and leaves all else as it is
use Rattle.std.proofs.Common.{◌≡◌, inl, inr, ℕ, ◌+◌, ◌-◌, ◌<◌, ◌≤◌, Bool, true, false, cond, ◌&&◌, not, leb, eqb, List, [], ◌∷◌, ◌++◌, length, map, take, Option, Some, None, slice_get, sym, refl, ap, ap₂, ◌∙◌, subst, arith}
use Rattle.std.proofs.lemmas.Bool.{cases_Bool, cases_lt, eq-eqb, or_left, or_right, le-leb, leb-true}
use Rattle.std.proofs.lemmas.List.{length_push, get_or_push, take_at}
use Rattle.std.proofs.lemmas.List.Folds.{position_or_len_push}
use Rattle.hg_model.specs.declared.row.Row.{Row}
use Rattle.hg_model.specs.Places.{has_place}
use Rattle.hg_model.specs.Stakes.{Stakes}
use Rattle.hg_model.specs.Links.{Link, parent_names, is_named, place_of, link_in, links, parents_in, parents}
use Rattle.hg_model.specs.Graph.{IsShaped, IsGraph}
use Rattle.hg_model.specs.Fits.{AreHeld}
use Rattle.hg_model.specs.Rounds.{round_of, is_witness}
use Rattle.hg_model.specs.Fame.{Marks, is_closed}
use Rattle.hg_model.specs.Order.{ordered, last_closed}
use Rattle.hg_model.specs.Prefix.{Graph, graph_of}
use Rattle.hg_life.specs.History.{State, links_with, first_mark, with_row}
use Rattle.hg_life.specs.Kept.{kept_up_to}
use Rattle.hg_model.specs.Orders.{IsPrefix, AreFame}
use Rattle.hg_life.specs.StateWords.{state_by}
use Rattle.hg_model.proofs.LinkLaws.{length-links}
use Rattle.hg_model.proofs.LongerLaws.{links-longer}
use Rattle.hg_model.proofs.PushLaws.{nobody, links-push, link_at, all_present}
use Rattle.hg_model.proofs.ReachLaws.{bool_iff}
use Rattle.hg_model.proofs.RoundLaws.{round_of-pos}
use Rattle.hg_prefix.specs.Standing.{IsMarkedPart}
use Rattle.hg_prefix.proofs.ClosedLaws.{closed_last, closed_up_to}
use Rattle.hg_prefix.proofs.GrowthLaws.{stands_in_itself, stands_in_longer}
use Rattle.hg_history.proofs.MarkLaws.{fame_with_row, closed_with_row, closed_before_row}
use Rattle.hg_history.proofs.RoundLaws.{order_by_rounds}
use Rattle.hg_history.proofs.StateLaws.{IsEven}
use Rattle.hg_kept.specs.Published.{Published, HasCome, Keeps, TookRow, is_pending, mark_by, marks_with}
use Rattle.hg_kept.proofs.WaitLaws.{waiting_longer}
use Rattle.hg_kept.proofs.LaterLaws.{order_stays, received_stays, none_of_later}

-- the row's parents stand before it

found_before : (place len : ℕ) (named : Bool) → cond (eqb place len) (len + cond named 0 1) place < len → place < len
found_before place len named low = elim (cases_Bool (eqb place len)) [
  | inl same ↦ absurd (let at : cond (eqb place len) (len + cond named 0 1) place ≡ len + cond named 0 1 = rw same refl in omega (arith, at))
  | inr other ↦ (let at : cond (eqb place len) (len + cond named 0 1) place ≡ place = rw other refl in omega (arith, at))
]

module _ (G : List Row) (row : Row) where
  place_before : (name : List ℕ) → place_of (G ++ row ∷ []) name < length G → place_of G name < length G
  place_before name low =
      found_before (place_of G name) (length G) (is_named name row) (subst (λ (k : ℕ). k < length G) (position_or_len_push (is_named name) G row) low)

  held_before : (names : List (List ℕ)) → ((p : ℕ) → has_place (map (place_of (G ++ row ∷ [])) names) p ≡ true → p < length G) → AreHeld G names
  held_before [] below = tt
  held_before (name ∷ names) below =
      let place = place_of (G ++ row ∷ []) name in
      let rest = map (place_of (G ++ row ∷ [])) names in (
        place_before name (below place (or_left (eqb place place) (has_place rest place) (eq-eqb place place refl))),
        held_before names (λ p h. below p (or_right (eqb place p) (has_place rest p) h)),
      )

  -- so its link is that which it had when it came
  pub links_pushed : (n : Stakes) → IsShaped n (links G) → IsShaped n (links (G ++ row ∷ [])) → links (G ++ row ∷ []) ≡ links G ++ link_in G row ∷ []
  unfolding parents
  links_pushed n before after =
      let x = length G in
      let more = length_push G row in
      let here : slice_get (links (G ++ row ∷ [])) x ≡ Some (link_in (G ++ row ∷ []) row) =
      link_at (G ++ row ∷ []) x (omega arith) ∙ ap (λ (r : Row). Some (link_in (G ++ row ∷ []) r)) (get_or_push G row nobody x refl) in
      links-push G row (all_present n G before)
      (record {
        held = held_before (parent_names row.parents) (λ p h.
            after.earlier.earlier x p (subst (λ ps. has_place ps p ≡ true) (sym (ap parents_in here)) h));
      })

-- the row comes after these
module _ (n : Stakes) (c : ℕ) (G : List Row) (row : Row) (u : IsGraph n (G ++ row ∷ [])) (three : 2 < c) (v : Published) (keeps : Keeps (graph_of n c G) v) where
  abbrev U : List Row
  U = G ++ row ∷ []

  abbrev s : State
  s = state_by (graph_of n c G) v.marks

  abbrev marks : Marks
  marks = (with_row n s row).marks

  pushed : links_with s row ≡ links U
  pushed = sym (links_pushed G row n keeps.graph.shaped u.shaped)

  even : IsEven s
  even = record { links = length-links G; marks = keeps.even }

  fame : AreFame n c U marks
  fame = fame_with_row n c s row keeps.graph u even three refl pushed keeps.fame

  stays_closed : (r : ℕ) → is_closed n (links G) v.marks r ≡ true → is_closed n (links U) marks r ≡ true
  stays_closed = closed_with_row n c s row keeps.graph u even three refl pushed keeps.fame

  was_closed : (r : ℕ) → is_closed n (links U) marks r ≡ true → is_closed n (links G) v.marks r ≡ true
  was_closed = closed_before_row n c s row keeps.graph u even three refl pushed keeps.fame

  same_last : last_closed n (links U) marks ≡ last_closed n (links G) v.marks
  same_last =
      let before = last_closed n (links G) v.marks in
      let after = last_closed n (links U) marks in
      let up : before ≤ after = elim (cases_lt 0 before) [
        | inl some ↦ (closed_last n (links U) u.shaped.earlier marks before (stays_closed before (closed_up_to n (links G) keeps.graph.shaped.earlier v.marks before some (omega arith)))).1
        | inr none ↦ omega arith
      ] in
      let down : after ≤ before = elim (cases_lt 0 after) [
        | inl some ↦ (closed_last n (links G) keeps.graph.shaped.earlier v.marks after (was_closed after (closed_up_to n (links U) u.shaped.earlier marks after some (omega arith)))).1
        | inr none ↦ omega arith
      ] in
      omega arith

  part : IsMarkedPart n c U G v.marks
  part = record { graph = keeps.graph; stands = stands_in_longer G (row ∷ []); fame = keeps.fame }

  all : IsMarkedPart n c U U marks
  all = record { graph = u; stands = stands_in_itself U; fame = fame }

  first : IsPrefix G U
  first = (row ∷ [], refl)

  closed_G : (r : ℕ) → 0 < r → r ≤ v.closed → is_closed n (links G) v.marks r ≡ true
  closed_G r pos le = closed_up_to n (links G) keeps.graph.shaped.earlier v.marks r pos (rw (← keeps.closed) le)

  closed_U : (r : ℕ) → 0 < r → r ≤ v.closed → is_closed n (links U) marks r ≡ true
  closed_U r pos le = stays_closed r (closed_G r pos le)

  same_order : v.order ≡ ordered n U (links U) marks
  same_order =
      let m = v.closed in
      let t = state_by (graph_of n c U) marks in
      keeps.order
      ∙ (order_by_rounds n s keeps.graph.shaped.earlier
      ∙ (ap (kept_up_to n s) (sym keeps.closed)
      ∙ (sym (order_stays n c U u three G v.marks marks part all first m closed_G closed_U m (omega arith))
      ∙ (ap (kept_up_to n t) (keeps.closed ∙ sym same_last)
      ∙ sym (order_by_rounds n t u.shaped.earlier)))))

  abbrev new : Published
  new = record v { marks = marks }

  waits_on : (x : ℕ) → x < length G → is_pending (graph_of n c U) marks v.closed x ≡ is_pending (graph_of n c G) v.marks v.closed x
  waits_on x inside = ap not (received_stays n c U u three G v.marks marks part all first v.closed closed_G closed_U x (rw (length-links G) inside))

  comes : (x : ℕ) → length G ≤ x → x < length U → is_pending (graph_of n c U) marks v.closed x ≡ true
  comes x late inside =
      ap not (none_of_later n c U u three G v.marks marks part all first v.closed closed_G closed_U x (rw (length-links G) late) (rw (length-links U) inside))

  pub keeps_row : Keeps (graph_of n c U) new
  keeps_row = record {
    graph = u;
    even = omega (arith, length_push v.marks (first_mark n s row), length_push G row, keeps.even);
    fame = fame;
    closed = keeps.closed ∙ sym same_last;
    order = same_order;
    pending = waiting_longer (links G) (links U) (links-longer n G (row ∷ []) keeps.graph.shaped) v.waiting
        (is_pending (graph_of n c G) v.marks v.closed) (is_pending (graph_of n c U) marks v.closed)
        (λ x inside. sym (waits_on x (rw (← length-links G) inside)))
        (λ x late inside. comes x (rw (← length-links G) late) (rw (← length-links U) inside)) keeps.pending;
  }

  -- the row is late where its round is one of the closed ones
  late_by_round : (x : ℕ) → is_closed n (links G) v.marks (round_of n (links U) x) ≡ leb (round_of n (links U) x) v.closed
  late_by_round x =
      let r = round_of n (links U) x in
      let pos = round_of-pos n (links U) u.shaped.earlier x in
      bool_iff (is_closed n (links G) v.marks r) (leb r v.closed)
      (λ closed. (let low = (closed_last n (links G) keeps.graph.shaped.earlier v.marks r closed).1 in let last = keeps.closed in le-leb r v.closed (omega arith)))
      (λ low. closed_G r pos (leb-true r v.closed low))

  pub first_mark_is : first_mark n s row ≡ mark_by (graph_of n c U) v.closed
  first_mark_is =
      let x = length G in
      let here : length U - 1 ≡ x = omega (arith, length_push G row) in
      ap₂ (λ (M : List Link) (k : ℕ). cond (is_witness n M k && is_closed n (links G) v.marks (round_of n M k)) (Some false) None) pushed (length-links G)
      ∙ (ap (λ (b : Bool). cond (is_witness n (links U) x && b) (Some false) None) (late_by_round x)
      ∙ ap (λ (k : ℕ). cond (is_witness n (links U) k && leb (round_of n (links U) k) v.closed) (Some false) None) (sym here))

-- the same for the graph that has just got the row

module _ (g : Graph) (three : 2 < g.coin) (v : Published) (come : HasCome g v) (mark : Option Bool) (is : mark ≡ mark_by g v.closed) where
  at : (rows : List Row) → g.rows ≡ rows → graph_of g.members g.coin rows ≡ g
  at rows same = ap (λ (xs : List Row). graph_of g.members g.coin xs) (sym same)

  marks_are : (before : List Row) (row : Row) → g.rows ≡ before ++ row ∷ [] → Keeps (graph_of g.members g.coin before) v → v.marks ++ mark ∷ [] ≡ marks_with g before row v.marks
  marks_are before row rows keeps =
      ap (λ (o : Option Bool). v.marks ++ o ∷ [])
      (is ∙ (ap (λ (h : Graph). mark_by h v.closed) (sym (at (before ++ row ∷ []) rows))
      ∙ sym (first_mark_is g.members g.coin before row (subst (IsGraph g.members) rows come.graph) three v keeps)))

  pub row_keeps : Keeps g (record v { marks = v.marks ++ mark ∷ [] })
  row_keeps =
      subst (λ (h : Marks). Keeps g (record v { marks = h })) (sym (marks_are come.before come.row come.rows come.keeps))
      (subst (λ (h : Graph). Keeps h (record v { marks = marks_with g come.before come.row v.marks })) (at (come.before ++ come.row ∷ []) come.rows)
      (keeps_row g.members g.coin come.before come.row (subst (IsGraph g.members) come.rows come.graph) three v come.keeps))

  before_is : (before : List Row) (row : Row) → g.rows ≡ before ++ row ∷ [] → before ≡ come.before
  before_is before row rows =
      let same : before ++ row ∷ [] ≡ come.before ++ come.row ∷ [] = sym rows ∙ come.rows in
      let sized = ap length same in
      let len : length come.before ≡ length before = omega (arith, length_push before row, length_push come.before come.row) in
      sym (take_at before (row ∷ []) (length before) refl) ∙ (ap (take (length before)) same ∙ take_at come.before (come.row ∷ []) (length before) len)

  pub took : TookRow g v (record v { marks = v.marks ++ mark ∷ [] })
  took = record {
    marks = λ before row rows. marks_are before row rows (subst (λ (G : List Row). Keeps (graph_of g.members g.coin G) v) (sym (before_is before row rows)) come.keeps);
    rest = refl;
  }
