-- What a share may still decide, round by round
use Rattle.std.proofs.Common.{◌≡◌, ℕ, zero, suc, ◌+◌, ◌%◌, ◌<◌, ◌≤◌, Bool, true, false, cond, not, ◌&&◌, ltb, leb, eqb, List, [], ◌∷◌, ◌++◌, length, take, get_or, Option, Some, None, IfSome, option_map, refl, sym, ap, ap₂, ◌∙◌, subst, inl, inr, arith, lt-ltb, le-leb}
use Rattle.std.specs.Prelude.{All, Contains, Err, IfOk, Ok, Result, filter, is_none}
use Rattle.std.specs.List.{AllByRecursion, cons_option}
use Rattle.std.proofs.lemmas.Bool.{and_from, and_parts, both_ways, cases_eq, cases_lt, eq-eqb, ltb-true, not-true}
use Rattle.std.proofs.lemmas.List.{length-take-le, take_all}
use Rattle.std.proofs.lemmas.List.Elements.{All-append, All-filter, All-from_recursion, All-weaker, Contains-append_left, Contains-append_right, filter_passes, recursion_from_All}
use Rattle.hg_model.specs.declared.row.Row.{Row}
use Rattle.hg_model.specs.Places.{IsEarlier, count_below, least_below, list_below, some_below}
use Rattle.hg_model.specs.Stakes.{Stakes, total}
use Rattle.hg_model.specs.Links.{Link, parents}
use Rattle.hg_model.specs.Graph.{IsShaped}
use Rattle.hg_model.specs.Rounds.{round_of, is_witness, last_round}
use Rattle.hg_model.specs.Votes.{decides, is_normal, is_strong, no_votes, rounds_above, vote_of, weighed_decides, yes_votes}
use Rattle.hg_model.specs.Fame.{Marks, fame_of, is_closed, is_decider, is_unmarked, is_witness_of_round, mark_at}
use Rattle.hg_model.specs.Order.{coin_at}
use Rattle.hg_model.specs.Orders.{AreFame}
use Rattle.hg_model.specs.Standings.{Standing, standings_of, witnesses_in}
use Rattle.hg_model.specs.Prefix.{Graph, graph_of, links_of}
use Rattle.hg_model.specs.GraphWords.{fame_in, is_witness_in, last_closed_in, last_round_in, round_in, share_fame_in}
use Rattle.hg_life.specs.StateWords.{state_by}
use Rattle.hg_model.specs.Shares.{Share, early_fame, is_of_share, share_fame}
use Rattle.hg_model.proofs.LinkLaws.{length-links}
use Rattle.hg_model.proofs.ListLaws.{filter-list_below}
use Rattle.hg_model.proofs.LongerLaws.{IsLonger, is_witness-longer, longer-take, round_of-longer}
use Rattle.hg_model.proofs.PlacesLaws.{maximum_below_bounds, some_below_from, weight_below-same}
use Rattle.hg_model.proofs.PrefixLaws.{IsWitnessOf, witnesses_are}
use Rattle.hg_model.proofs.RoundLaws.{round_of-pos}
use Rattle.hg_model.proofs.SearchLaws.{IsFoundBelow, least_below_found}
use Rattle.hg_model.proofs.ShapeLaws.{shaped-take}
use Rattle.hg_model.proofs.StandingLaws.{witnesses_in-standings}
use Rattle.hg_fame.specs.Decisions.{IsWitnessWithin, fame_within, fames_among}
use Rattle.hg_votes.specs.Counting.{Counting, IsMadeFor}
use Rattle.hg_kept.proofs.NextLaws.{last_reached}
use Rattle.hg_history.specs.News.{FindsNews}
use Rattle.hg_history.proofs.SoundLaws.{sound}
use Rattle.hg_life.specs.History.{State}
use Rattle.hg_life.specs.NodeView.{node_marks, node_rows, node_state, terms_of}
use Rattle.hg_life.specs.Signing.{Accepts}
use Rattle.hg_model.specs.declared.share.Found.{Found}
use Rattle.hg_kept.specs.Published.{FindsNewsOf}
use Rattle.hg_fame.proofs.ShareLaws.{whole_fames}
use Rattle.hg_node.specs.ChronicleView.{ChronicleView, IsFoundBy, IsRecorded, graph_in, node_view}
use Rattle.hg_node.specs.declared.open.Open.{Open}
use Rattle.hg_node.specs.Laws.{OpenedIsFound}
use Rattle.hg_node.specs.Opening.{AreUnmarked, HasShareMarks, Opens, OpensAll, is_open}
use Rattle.hg_node.proofs.RecordLaws.{state_is}

-- A witness of a round up to the last closed one has a mark

unmarked_above : (g : Graph) (marks : Marks) → IsEarlier (parents (links_of g)) → (x : ℕ) → x < length (links_of g) → is_witness_in g x ≡ true → mark_at marks x ≡ None → last_closed_in g marks < round_in g x
unfolding is_closed
unmarked_above g marks e x inside witness none =
    let n = g.members in
    let L = links_of g in
    let r : ℕ = last_closed_in g marks in
    elim (cases_lt r (round_of n L x)) [
      | inl above ↦ above
      | inr low ↦ elim (last_reached g marks e) [
        | inl start ↦ absurd (omega (arith, round_of-pos n L e x, start))
        | inr closed ↦
            (let all = not-true (some_below (length L) (is_unmarked n L marks r)) (and_parts (some_below (length L) (is_witness_of_round n L r)) (not (some_below (length L) (is_unmarked n L marks r))) closed).1 in
            absurd (both_ways (some_below (length L) (is_unmarked n L marks r)) all
            (some_below_from (length L) (is_unmarked n L marks r) x inside
            (and_from (is_witness n L x && leb (round_of n L x) r) (is_none (mark_at marks x)) (and_from (is_witness n L x) (leb (round_of n L x) r) witness (le-leb (round_of n L x) r low)) (ap is_none none)))))
      ]
    ]

-- Who is decided has a row at least two rounds above

decides_high : (n : Stakes) (c : ℕ) (L : List Link) (coin : ℕ → Bool) (x y : ℕ) → decides n c L coin x y ≡ true → 1 < rounds_above n L x y
unfolding decides
decides_high n c L coin x y passes =
    let d = rounds_above n L x y in
    let yes = yes_votes n L (vote_of n c L coin x) y in
    let no = no_votes n L (vote_of n c L coin x) y in
    let one = and_parts (is_witness n L y) (weighed_decides (total n) c d yes no) passes in
    let two = and_parts (ltb 1 d && is_normal c d) (is_strong (total n) yes no) one.1 in
    ltb-true 1 d (and_parts (ltb 1 d) (is_normal c d) two.0).0

decided_below : (n : Stakes) (c : ℕ) (L : List Link) (coin : ℕ → Bool) (x : ℕ) (v : Bool) → fame_of n c L coin x ≡ Some v → (y : ℕ) × (y < length L) × (round_of n L x + 2 ≤ round_of n L y)
unfolding fame_of
decided_below n c L coin x v is = by (least_below (round_of n L) (length L) (is_decider n c L coin x)) (least_below_found (round_of n L) (length L) (is_decider n c L coin x)) is
  where
    by : (found : Option ℕ) → IfSome found (IsFoundBelow (is_decider n c L coin x) (length L)) → option_map (vote_of n c L coin x) found ≡ Some v → (y : ℕ) × (y < length L) × (round_of n L x + 2 ≤ round_of n L y)
    by None h none = absurd (cc)
    by (Some y) h some = (y, h.0, omega (arith, decides_high n c L coin x y (and_parts (ltb x (length L) && is_witness n L x) (decides n c L coin x y) h.1).1))

last_round-bounds : (n : Stakes) (L : List Link) (y : ℕ) → y < length L → round_of n L y ≤ last_round n L
unfolding last_round
last_round-bounds n L y h = maximum_below_bounds (round_of n L) (length L) y h

-- What the first rows decide

known_share : (mine : Bool) (fame : Option Bool) (v : Bool) → cond mine fame None ≡ Some v → (mine ≡ true) × (fame ≡ Some v)
known_share true fame v is = (refl, is)
known_share false fame v is = absurd (cc)

module _ (g : Graph) (shaped : IsShaped g.members (links_of g)) (len : ℕ) (within : len ≤ length g.rows) where
  size : length (take len (links_of g)) ≡ len
  size = length-take-le len (links_of g) (omega (arith, length-links g.rows))

  longer : IsLonger (take len (links_of g)) (links_of g)
  longer = longer-take (links_of g) len (omega (arith, length-links g.rows))

  witness_same : (x : ℕ) → x < len → is_witness g.members (take len (links_of g)) x ≡ is_witness g.members (links_of g) x
  witness_same x h =
      sym (is_witness-longer (take len (links_of g)) (links_of g) longer g.members (shaped-take g.members (links_of g) len (omega (arith, length-links g.rows)) shaped).earlier x (omega (arith, size)))

  share_same : (share : Share) (x : ℕ) → x < len → is_of_share g.members (take len (links_of g)) share x ≡ is_of_share g.members (links_of g) share x
  share_same share x h =
      let n = g.members in
      let L = links_of g in
      let here : ltb x (length (take len L)) ≡ ltb x (length L) = lt-ltb x (length (take len L)) (omega (arith, size)) ∙ sym (lt-ltb x (length L) (omega (arith, length-links g.rows))) in
      let number : count_below x (is_witness n (take len L)) ≡ count_below x (is_witness n L) =
      weight_below-same (λ _. 1) x (is_witness n (take len L)) (is_witness n L) (λ k low. witness_same k (omega arith)) in
      λ i. here i && witness_same x h i && eqb (number i % share.of) share.k

  -- a witness of the share that they decide
  pub record IsDecided (share : Share) (x : ℕ) (v : Bool) : Type 0 where
    pub place : x < len
    pub mine : is_of_share g.members (links_of g) share x ≡ true
    pub fame : fame_within g len x ≡ Some v

  pub early_known : (share : Share) (x : ℕ) (v : Bool) → early_fame g.members g.coin g.rows (links_of g) len share x ≡ Some v → IsDecided share x v
  unfolding share_fame
  early_known share x v is =
      let n = g.members in
      let L : List Link = take len (links_of g) in
      let known = known_share (is_of_share n L share x) (fame_within g len x) v is in
      let parts = and_parts (ltb x (length L) && is_witness n L x) (eqb (count_below x (is_witness n L) % share.of) share.k) known.0 in
      let inside : x < length L = ltb-true x (length L) (and_parts (ltb x (length L)) (is_witness n L x) parts.0).0 in
      let place : x < len = omega (arith, size) in
      record { place = place; mine = sym (share_same share x place) ∙ known.0; fame = known.1 }

  pub early_from : (share : Share) (x : ℕ) (v : Bool) → IsDecided share x v → early_fame g.members g.coin g.rows (links_of g) len share x ≡ Some v
  unfolding share_fame
  early_from share x v d = ap (λ b. cond b (fame_within g len x) None) (share_same share x d.place ∙ d.mine) ∙ d.fame

  -- it is two rounds below the greatest
  decided_low : (share : Share) (x : ℕ) (v : Bool) → IsDecided share x v → round_in g x + 2 ≤ last_round_in g
  decided_low share x v d =
      let n = g.members in
      let L = links_of g in
      let y = decided_below n g.coin (take len L) (coin_at (take len g.rows)) x v d.fame in
      let low : y.0 < length L = omega (arith, y.1, size, length-links g.rows) in
      omega (arith, y.2, last_round-bounds n L y.0 low, round_of-longer (take len L) L longer n x (omega (arith, size, d.place)), round_of-longer (take len L) L longer n y.0 y.1)

-- The open witnesses of the rounds above `closed` up to `last`

contains_below : (n : ℕ) (test : ℕ → Bool) (k : ℕ) → k < n → test k ≡ true → Contains (list_below (λ x. x) n test) k
unfolding list_below
contains_below zero test k h passes = absurd (omega arith)
contains_below (suc n) test k h passes = elim (cases_eq k n) [
  | inl last ↦ Contains-append_right (list_below (λ x. x) n test) (cond (test n) (n ∷ []) []) k
      (subst (λ (b : Bool). Contains (cond b (n ∷ []) []) k) (sym (ap test (sym last) ∙ passes)) (0, omega arith, sym last))
  | inr other ↦ Contains-append_left (list_below (λ x. x) n test) (cond (test n) (n ∷ []) []) k (contains_below n test k (omega arith) passes)
]

pub record OpensUpTo (g : Graph) (test : ℕ → Bool) (closed last : ℕ) (places : List ℕ) : Type 0 where
  pub passes : All (λ x. test x ≡ true) places
  pub witnesses : All (IsWitnessWithin g (length g.rows)) places
  pub all : (x : ℕ) → IsWitnessWithin g (length g.rows) x → closed < round_in g x → round_in g x ≤ last → test x ≡ true → Contains places x

module _ (g : Graph) (test : ℕ → Bool) (closed last : ℕ) (places new : List ℕ) (before : OpensUpTo g test closed last places)
    (S : List Standing) (ws : List ℕ) (matches : S ≡ standings_of g.members (links_of g)) (is : ws ≡ witnesses_in S (last + 1)) (grown : new ≡ places ++ filter test ws) where
  listed : (x : ℕ) → IsWitnessWithin g (length g.rows) x → round_in g x ≡ last + 1 → test x ≡ true → Contains (filter test ws) x
  listed x witness round passes =
      let n = g.members in
      let L = links_of g in
      let of_round : ℕ → Bool = λ k. is_witness n L k && eqb (round_of n L k) (last + 1) in
      let all : filter test ws ≡ list_below (λ k. k) (length L) (λ k. of_round k && test k) =
      ap (filter test) (is ∙ (ap (λ (T : List Standing). witnesses_in T (last + 1)) matches ∙ witnesses_in-standings n L (last + 1))) ∙ filter-list_below test (λ k. k) (length L) of_round in
      subst (λ (xs : List ℕ). Contains xs x) (sym all)
      (contains_below (length L) (λ k. of_round k && test k) x (omega (arith, witness.place, length-links g.rows))
      (and_from (of_round x) (test x) (and_from (is_witness n L x) (eqb (round_of n L x) (last + 1)) witness.witness (eq-eqb (round_of n L x) (last + 1) round)) passes))

  pub opens_more : OpensUpTo g test closed (last + 1) new
  opens_more = subst (OpensUpTo g test closed (last + 1)) (sym grown) (record {
    passes = All-append (λ x. test x ≡ true) places (filter test ws) before.passes (filter_passes test ws);
    witnesses = All-append (IsWitnessWithin g (length g.rows)) places (filter test ws) before.witnesses
        (All-filter test (IsWitnessWithin g (length g.rows)) ws
        (All-weaker (IsWitnessOf g (last + 1)) (IsWitnessWithin g (length g.rows)) (λ x w. record { place = w.place; witness = w.witness }) ws
        (All-from_recursion (IsWitnessOf g (last + 1)) ws (witnesses_are g (last + 1) S ws matches is))));
    all = λ x witness above low passes. elim (cases_lt last (round_in g x)) [
      | inr earlier ↦ Contains-append_left places (filter test ws) x (before.all x witness above earlier passes)
      | inl late ↦ Contains-append_right places (filter test ws) x (listed x witness (omega arith) passes)
    ];
  })

none_there : (mark : Option Bool) → is_none mark ≡ true → mark ≡ None
none_there None h = refl
none_there (Some v) h = absurd (cc)

-- where these are all rounds
module _ (g : Graph) (votes : Counting) (marks : Marks) (share : Share) (len closed last : ℕ) (places : List ℕ)
    (opens : OpensUpTo g (is_open votes marks share len) closed last places) (made : IsMadeFor votes g) (shut : closed ≡ last_closed_in g marks) (far : last_round_in g ≤ last + 2) (within : len ≤ length g.rows) where
  number_is : (x : ℕ) → x < length g.rows → get_or votes.voters.numbers x 0 ≡ count_below x (is_witness_in g)
  number_is x h = made.voters.number x h

  -- an open witness is one of the share
  open_is_mine : (x : ℕ) → is_open votes marks share len x ≡ true → IsWitnessWithin g (length g.rows) x → (x < len) × (is_of_share g.members (links_of g) share x ≡ true)
  open_is_mine x here w =
      let n = g.members in
      let L = links_of g in
      let one = and_parts (ltb x len && eqb (get_or votes.voters.numbers x 0 % share.of) share.k) (is_none (mark_at marks x)) here in
      let two = and_parts (ltb x len) (eqb (get_or votes.voters.numbers x 0 % share.of) share.k) one.0 in (
        ltb-true x len two.0,
        and_from (ltb x (length L) && is_witness n L x) (eqb (count_below x (is_witness n L) % share.of) share.k)
            (and_from (ltb x (length L)) (is_witness n L x) (lt-ltb x (length L) (omega (arith, w.place, length-links g.rows))) w.witness)
            (ap (λ k. eqb (k % share.of) share.k) (sym (number_is x w.place)) ∙ two.1),
      )

  -- a decided one of the share without a mark is open
  mine_is_open : (x : ℕ) (v : Bool) → IsDecided g made.shaped len within share x v → mark_at marks x ≡ None → IsWitnessWithin g (length g.rows) x × (is_open votes marks share len x ≡ true)
  mine_is_open x v d none =
      let n = g.members in
      let L = links_of g in
      let place : x < length g.rows = omega (arith, d.place) in
      let one = and_parts (ltb x (length L) && is_witness n L x) (eqb (count_below x (is_witness n L) % share.of) share.k) d.mine in (
        record { place = place; witness = (and_parts (ltb x (length L)) (is_witness n L x) one.0).1 },
        and_from (ltb x len && eqb (get_or votes.voters.numbers x 0 % share.of) share.k) (is_none (mark_at marks x))
            (and_from (ltb x len) (eqb (get_or votes.voters.numbers x 0 % share.of) share.k) (lt-ltb x len d.place) (ap (λ k. eqb (k % share.of) share.k) (number_is x place) ∙ one.1))
            (ap is_none none),
      )

  pub opens_all : OpensAll g marks share len places
  opens_all = record {
    witnesses = λ k d h. let mine = open_is_mine (get_or places k d) (opens.passes k d h) (opens.witnesses k d h) in record { place = mine.0; witness = (opens.witnesses k d h).witness };
    mine = λ k d h. (open_is_mine (get_or places k d) (opens.passes k d h) (opens.witnesses k d h)).1;
    unmarked = λ k d h.
        let x = get_or places k d in
        none_there (mark_at marks x) (and_parts (ltb x len && eqb (get_or votes.voters.numbers x 0 % share.of) share.k) (is_none (mark_at marks x)) (opens.passes k d h)).1;
    all = λ x v is none.
        let d = early_known g made.shaped len within share x v is in
        let here = mine_is_open x v d none in
        let above = unmarked_above g marks made.shaped.earlier x (omega (arith, here.0.place, length-links g.rows)) here.0.witness none in
        opens.all x here.0 (omega (arith, above, shut)) (omega (arith, decided_low g made.shaped len within share x v d, far)) here.1;
  }

-- Where no place is open, the share has its marks

pub some_items : (n : ℕ) → eqb n 0 ≡ false → 0 < n
some_items zero h = absurd (cc)
some_items (suc n) h = omega arith

pub whole_early : (g : Graph) (share : Share) (x : ℕ) → early_fame g.members g.coin g.rows (links_of g) (length g.rows) share x ≡ share_fame_in g share x
whole_early g share x =
    ap₂ (λ (G : List Row) (L : List Link). share_fame g.members g.coin G L share x)
    (take_all (length g.rows) g.rows (omega arith)) (take_all (length g.rows) (links_of g) (omega (arith, length-links g.rows)))

pub none_open : (g : Graph) (marks : Marks) (share : Share) (places : List ℕ) → IsShaped g.members (links_of g) → AreFame g.members g.coin g.rows marks → OpensAll g marks share (length g.rows) places → length places ≡ 0 →
    HasShareMarks g marks share
unfolding share_fame
none_open g marks share places shaped fame opens none x v is = by (mark_at marks x) refl
  where
    by : (mark : Option Bool) → mark_at marks x ≡ mark → mark_at marks x ≡ Some v
    by None unmarked = (let there = opens.all x v (whole_early g share x ∙ is) unmarked in absurd (omega (arith, there.1)))
    by (Some w) marked = marked ∙ (sym (fame.fame x w marked) ∙ (known_share (is_of_share g.members (links_of g) share x) (fame_in g x) v is).1)

-- What is elected of them is found

fames_all : (fame : ℕ → Option Bool) (P : ℕ × Bool → Type 0) (places : List ℕ) → AllByRecursion (λ x. (v : Bool) → fame x ≡ Some v → P (x, v)) places → AllByRecursion P (fames_among fame places)
fames_all fame P [] h = tt
fames_all fame P (x ∷ xs) h = by (fame x) refl (fames_all fame P xs h.1)
  where
    by : (o : Option Bool) → fame x ≡ o → AllByRecursion P (fames_among fame xs) → AllByRecursion P (cons_option (option_map (λ (v : Bool). (x, v)) o) (fames_among fame xs))
    by None none rest = rest
    by (Some v) some rest = (h.0 v some, rest)

behind : (o : Option (ℕ × Bool)) (rest : List (ℕ × Bool)) (a : ℕ × Bool) → Contains rest a → Contains (cons_option o rest) a
behind None rest a h = h
behind (Some b) rest a h = Contains-append_right (b ∷ []) rest a h

fames_at : (fame : ℕ → Option Bool) (places : List ℕ) (x : ℕ) (v : Bool) (k : ℕ) → k < length places → get_or places k x ≡ x → fame x ≡ Some v → Contains (fames_among fame places) (x, v)
fames_at fame [] x v k h same is = absurd (omega arith)
fames_at fame (y ∷ ys) x v zero h same is =
    subst (λ (z : ℕ). Contains (cons_option (option_map (λ (w : Bool). (z, w)) (fame z)) (fames_among fame ys)) (x, v)) (sym same)
    (subst (λ (o : Option Bool). Contains (cons_option (option_map (λ (w : Bool). (x, w)) o) (fames_among fame ys)) (x, v)) (sym is) (0, omega arith, refl))
fames_at fame (y ∷ ys) x v (suc k) h same is =
    behind (option_map (λ (w : Bool). (y, w)) (fame y)) (fames_among fame ys) (x, v) (fames_at fame ys x v k (omega arith) same is)

pub elected_is_news : (g : Graph) (marks : Marks) (share : Share) (len : ℕ) (places : List ℕ) (found : List (ℕ × Bool)) → IsShaped g.members (links_of g) → len ≤ length g.rows → OpensAll g marks share len places →
    found ≡ fames_among (fame_within g len) places → FindsNews g.members g.coin (state_by g marks) len share found
elected_is_news g marks share len places found shaped within opens is =
    let early : ℕ → Option Bool = early_fame g.members g.coin g.rows (links_of g) len share in
    subst (FindsNews g.members g.coin (state_by g marks) len share) (sym is) (record {
      within = within;
      fame = All-from_recursion (λ (f : ℕ × Bool). early f.0 ≡ Some f.1) (fames_among (fame_within g len) places)
          (fames_all (fame_within g len) (λ (f : ℕ × Bool). early f.0 ≡ Some f.1) places
          (recursion_from_All (λ x. (v : Bool) → fame_within g len x ≡ Some v → early x ≡ Some v) places
          (λ k d h v fame. early_from g shaped len within share (get_or places k d) v (record { place = (opens.witnesses k d h).place; mine = opens.mine k d h; fame = fame }))));
      news = λ x v decided none.
          let there = opens.all x v decided none in
          fames_at (fame_within g len) places x v there.0 there.1 there.2 (early_known g shaped len within share x v decided).fame;
    })

-- so is what an election answered
pub elected_finds : {E : Type 0} (g : Graph) (marks : Marks) (share : Share) (len : ℕ) (places : List ℕ) (answer : Result Found E) → IsShaped g.members (links_of g) → len ≤ length g.rows → OpensAll g marks share len places →
    IfOk answer (λ found. found.share ≡ share) → IfOk answer (λ found. found.len ≡ len) → IfOk answer (λ found. found.marks ≡ fames_among (fame_within g len) places) → IfOk answer (FindsNewsOf g marks)
elected_finds g marks share len places (Err e) shaped within opens mine first is = tt
elected_finds g marks share len places (Ok found) shaped within opens mine first is =
    let n = g.members in
    let news = elected_is_news g marks share len places found.marks shaped within opens is in
    subst (λ (k : Share). FindsNews n g.coin (state_by g marks) found.len k found.marks) (sym mine)
    (subst (λ (k : ℕ). FindsNews n g.coin (state_by g marks) k share found.marks) (sym first) news)

-- none of which has its mark
pub elected_unmarked : {E : Type 0} (g : Graph) (marks : Marks) (share : Share) (len : ℕ) (places : List ℕ) (answer : Result Found E) → OpensAll g marks share len places →
    IfOk answer (λ found. found.marks ≡ fames_among (fame_within g len) places) → IfOk answer (AreUnmarked marks)
elected_unmarked g marks share len places (Err e) opens is = tt
elected_unmarked g marks share len places (Ok found) opens is =
    let has_none : ℕ × Bool → Type 0 = λ f. mark_at marks f.0 ≡ None in
    subst (All has_none) (sym is)
    (All-from_recursion has_none (fames_among (fame_within g len) places)
    (fames_all (fame_within g len) has_none places
    (recursion_from_All (λ x. (v : Bool) → fame_within g len x ≡ Some v → has_none (x, v)) places (λ k d h v fame. opens.unmarked k d h))))

-- Of a node with these records

pub unmarked_by_node : {K E : Type 0} (accepts : K → Accepts) (keys : K) (r : ChronicleView) → IsRecorded accepts (node_view keys r) r → (answer : Result Found E) → IfOk answer (AreUnmarked r.marks) →
    IfOk answer (AreUnmarked (node_marks (node_view keys r)))
unmarked_by_node accepts keys r is answer unmarked = subst (λ (marks : Marks). IfOk answer (AreUnmarked marks)) (sym is.marks) unmarked

pub found_by_node : {K E : Type 0} (accepts : K → Accepts) (keys : K) (r : ChronicleView) → IsRecorded accepts (node_view keys r) r → (answer : Result Found E) → IfOk answer (FindsNewsOf r.graph r.marks) →
    IfOk answer (IsFoundBy (node_view keys r))
found_by_node accepts keys r is (Err e) news = tt
found_by_node accepts keys r is (Ok found) news =
    subst (λ (s : State). FindsNews r.graph.members r.graph.coin s found.len found.share found.marks) (sym (state_is accepts keys r is)) news

pub opens_by_node : {K E : Type 0} (accepts : K → Accepts) (keys : K) (r : ChronicleView) → IsRecorded accepts (node_view keys r) r → (share : Share) (answer : Result (Option Open) E) → IfOk answer (Opens r.graph r.marks share) →
    IfOk answer (Opens (graph_in (node_view keys r)) (node_marks (node_view keys r)) share)
opens_by_node accepts keys r is share answer opens =
    subst (λ (G : List Row). IfOk answer (Opens (graph_of r.graph.members r.graph.coin G) (node_marks (node_view keys r)) share)) (sym is.rows)
    (subst (λ (marks : Marks). IfOk answer (Opens r.graph marks share)) (sym is.marks) opens)

pub opened_is_found : (K : Type 0) → OpenedIsFound K
opened_is_found K accepts v share places found node opens long mine is =
    let g = graph_in v in
    let now = sound (terms_of accepts v.start) v.start.members v.start.coin v.start.own v.history node.coin node.history in
    let state : state_by g (node_marks v) ≡ node_state v = ap (λ (L : List Link). record { rows = node_rows v; links = L; marks = node_marks v }) (sym now.linked) in
    let news = elected_is_news g (node_marks v) share (length g.rows) places found.marks now.graph.shaped (omega arith) opens (is ∙ sym (whole_fames g (length g.rows) places refl)) in
    subst (λ (s : State). FindsNews v.start.members v.start.coin s found.len found.share found.marks) state
    (subst (λ (k : ℕ). FindsNews v.start.members v.start.coin (state_by g (node_marks v)) k found.share found.marks) (sym long)
    (subst (λ (k : Share). FindsNews v.start.members v.start.coin (state_by g (node_marks v)) (length g.rows) k found.marks) (sym mine) news))
