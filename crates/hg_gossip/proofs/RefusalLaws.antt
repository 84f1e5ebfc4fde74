-- What is held once events were put: what was held before, what was known, and what was accepted
use Rattle.std.proofs.Common.{◌≡◌, ◌⊎◌, inl, inr, ℕ, zero, suc, ◌<◌, ◌≤◌, Bool, true, false, cond, not, ◌||◌, eqb, List, [], ◌∷◌, ◌++◌, length, map, get_or, Some, slice_get, sym, refl, ap, ◌∙◌, subst, arith, lt-ltb}
use Rattle.std.specs.List.{AllByRecursion, list_any}
use Rattle.std.specs.Str.{bytes_eq}
use Rattle.std.proofs.lemmas.Bool.{and_parts, cases_Bool, cases_lt, eqb-true, ltb-true, true≢false}
use Rattle.std.proofs.lemmas.Option.{get_or_from_slice_get, slice_get-get_or, slice_get_within}
use Rattle.hg_model.specs.declared.row.Row.{Row}
use Rattle.hg_model.specs.Ancestry.{is_ancestor}
use Rattle.hg_model.specs.Fits.{AreHeld}
use Rattle.hg_model.specs.Graph.{IsShaped, name_at, name_in}
use Rattle.hg_model.specs.Held.{is_held}
use Rattle.hg_model.specs.Links.{links, no_row, parent_names, parents, place_of}
use Rattle.hg_model.specs.Orders.{IsPrefix}
use Rattle.hg_model.specs.Places.{IsEarlier, has_place, list_below}
use Rattle.hg_model.specs.Stakes.{Stakes}
use Rattle.hg_model.proofs.AncestryLaws.{is_ancestor_cases}
use Rattle.hg_model.proofs.LinkLaws.{parents-links}
use Rattle.hg_model.proofs.PushLaws.{nobody, present_at}
use Rattle.hg_life.specs.declared.answers.PutAnswer.{PutAnswer}
use Rattle.hg_life.specs.declared.answers.PutAnswer.TheVariants.{Accepted, Known, Refused}
use Rattle.hg_life.specs.Calls.{put_changes}
use Rattle.hg_life.specs.Gossip.{count_refused}
use Rattle.hg_life.specs.History.{Change}
use Rattle.hg_life.specs.NodeView.{IsNode, NodeView, node_rows, with_changes, terms_of}
use Rattle.hg_life.specs.Signing.{Accepts}
use Rattle.hg_life.specs.Spelling.{Spells, spelling}
use Rattle.hg_event.proofs.Spells.{Spells-read_event}
use Rattle.hg_prefix.specs.Chains.{HaveEqualRows}
use Rattle.hg_prefix.proofs.StandingLaws.{name_at_place}
use Rattle.hg_history.specs.Laws.{IsNodeGraph}
use Rattle.hg_history.proofs.HeldLaws.{accepted_held, known_held}
use Rattle.hg_history.proofs.SoundLaws.{node_graph}
use Rattle.hg_history.proofs.StateLaws.{prefix_more, prefix_same, rows_grow}
use Rattle.hg_node.specs.Beyond.{bytes_at, bytes_beyond, is_behind, is_behind_some, is_parent, tips}
use Rattle.hg_gossip.specs.declared.gossip.Taken.{Taken}
use Rattle.hg_gossip.specs.Gossip.{Takes, none_taken, with_answer}
use Rattle.hg_gossip.specs.Holding.{PutsBytes, Rules, Seen, Waits, names_in, unnamed}
use Rattle.hg_gossip.specs.Refusals.{BeyondHolds, HoldsUnlessRefused, IsHeldOrRefused, IsRefusal, PullsHold, RefusalsCount, TakesHold, TipsAreHeld, WereRefused}
use Rattle.hg_gossip.proofs.HandLaws.{held_at, held_more}
use Rattle.hg_gossip.proofs.RowLaws.{held_is}

-- lists

abbrev Has : List (List ℕ) → List ℕ → Type 0
Has events bytes = (i : ℕ) × (slice_get events i ≡ Some bytes)

has_left : (xs ys : List (List ℕ)) (bytes : List ℕ) (i : ℕ) → slice_get xs i ≡ Some bytes → Has (xs ++ ys) bytes
has_left [] ys bytes i at = cc
has_left (x ∷ xs) ys bytes zero at = (0, at)
has_left (x ∷ xs) ys bytes (suc i) at = (let has = has_left xs ys bytes i at in (suc has.0, has.1))

has_right : (xs ys : List (List ℕ)) (bytes : List ℕ) → Has ys bytes → Has (xs ++ ys) bytes
has_right [] ys bytes has = has
has_right (x ∷ xs) ys bytes has = (let later = has_right xs ys bytes has in (suc later.0, later.1))

-- the value at a place that passes the test is listed
listed : (value : ℕ → List ℕ) (n : ℕ) (test : ℕ → Bool) (x : ℕ) → x < n → test x ≡ true → Has (list_below value n test) (value x)
unfolding list_below
listed value zero test x low passes = absurd (omega (arith, low))
listed value (suc n) test x low passes = elim (cases_lt x n) [
  | inl before ↦ (let has = listed value n test x before passes in has_left (list_below value n test) (cond (test n) (value n ∷ []) []) (value x) has.0 has.1)
  | inr past ↦ (
      let last : x ≡ n = omega (arith, low, past) in
      let is : test n ≡ true = ap test (sym last) ∙ passes in
      has_right (list_below value n test) (cond (test n) (value n ∷ []) []) (value x)
      (subst (λ (b : Bool). Has (cond b (value n ∷ []) []) (value x)) (sym is) (0, ap (λ (k : ℕ). Some (value k)) (sym last))))
]

all_joined : (P : List ℕ → Type 0) (xs ys : List (List ℕ)) → AllByRecursion P xs → AllByRecursion P ys → AllByRecursion P (xs ++ ys)
all_joined P [] ys first rest = rest
all_joined P (x ∷ xs) ys first rest = (first.0, all_joined P xs ys first.1 rest)

-- what the values at all places are, those that are listed are
all_listed : (P : List ℕ → Type 0) (value : ℕ → List ℕ) (n : ℕ) (test : ℕ → Bool) → ((x : ℕ) → x < n → P (value x)) → AllByRecursion P (list_below value n test)
unfolding list_below
all_listed P value zero test each = tt
all_listed P value (suc n) test each =
    all_joined P (list_below value n test) (cond (test n) (value n ∷ []) []) (all_listed P value n test (λ x low. each x (omega (arith, low)))) (last (test n))
  where
    last : (b : Bool) → AllByRecursion P (cond b (value n ∷ []) [])
    last true = (each n (omega arith), tt)
    last false = tt

-- the bytes of a row without one of the names are among those of such rows
unnamed_has : (names : List (List ℕ)) (rows : List Row) (x : ℕ) (row : Row) → slice_get rows x ≡ Some row → list_any (bytes_eq row.name) names ≡ false → Has (map spelling (unnamed names rows)) (spelling row)
unnamed_has names [] x row at new = cc
unnamed_has names (first ∷ rows) zero row at new =
    let same : row ≡ first = cc in
    let is : list_any (bytes_eq first.name) names ≡ false = subst (λ (r : Row). list_any (bytes_eq r.name) names ≡ false) same new in
    subst (λ (b : Bool). Has (map spelling (cond (not b) (first ∷ unnamed names rows) (unnamed names rows))) (spelling row)) (sym is) (0, ap (λ (r : Row). Some (spelling r)) (sym same))
unnamed_has names (first ∷ rows) (suc x) row at new = by (list_any (bytes_eq first.name) names) (unnamed_has names rows x row at new)
  where
    by : (b : Bool) → Has (map spelling (unnamed names rows)) (spelling row) → Has (map spelling (cond (not b) (first ∷ unnamed names rows) (unnamed names rows))) (spelling row)
    by true has = has
    by false has = (suc has.0, has.1)

all_also : (P Q : Row → Type 0) (rows : List Row) → ((row : Row) → P row → Q row) → AllByRecursion P rows → AllByRecursion Q rows
all_also P Q [] so all = tt
all_also P Q (row ∷ rows) so all = (so row all.0, all_also P Q rows so all.1)

all_placed : (P : Row → Type 0) (rows : List Row) → ((x : ℕ) (row : Row) → slice_get rows x ≡ Some row → P row) → AllByRecursion P rows
all_placed P [] each = tt
all_placed P (row ∷ rows) each = (each 0 row refl, all_placed P rows (λ x other at. each (suc x) other at))

-- rows only get more

module _ {K : Type 0} (rules : Rules K) where
  abbrev Grows : Seen K → Seen K → Type 0
  Grows old new = IsPrefix (node_rows old.node) (node_rows new.node)

  grown : (old new : Seen K) (es : List Change) → new.node ≡ with_changes old.node es → Grows old new
  grown old new es is =
      subst (λ (v : NodeView K). IsPrefix (node_rows old.node) (node_rows v)) (sym is) (rows_grow old.node.start.members old.node.start.coin old.node.history es)

  waits_grow : (old new : Seen K) → Waits rules old new → Grows old new
  waits_grow old new waits = grown old new waits.others (ap (λ (s : Seen K). s.node) waits.later)

  own_grows : (old new : Seen K) (bytes : List ℕ) (answer : PutAnswer) (put : PutsBytes rules old bytes new answer) → Grows put.reached new
  own_grows old new bytes answer put = grown put.reached new (put_changes rules.accepts put.reached.node bytes) (ap (λ (s : Seen K). s.node) put.grown)

  put_grows : (old new : Seen K) (bytes : List ℕ) (answer : PutAnswer) → PutsBytes rules old bytes new answer → Grows old new
  put_grows old new bytes answer put =
      prefix_more (node_rows old.node) (node_rows put.reached.node) (node_rows new.node) (waits_grow old put.reached put.waits) (own_grows old new bytes answer put)

  takes_grow : (events : List (List ℕ)) (old new : Seen K) (before after : Taken) → Takes rules old before events new after → Grows old new
  takes_grow [] old new before after none = prefix_same (node_rows old.node) (node_rows new.node) (ap (λ (s : Seen K). node_rows s.node) (sym none.0))
  takes_grow (bytes ∷ events) old new before after some =
      prefix_more (node_rows old.node) (node_rows some.0.node) (node_rows new.node) (put_grows old some.0 bytes some.1 some.2)
      (takes_grow events some.0 new (with_answer before some.1) after some.3)

  -- one event

  put_holds : (old new : Seen K) (row : Row) (answer : PutAnswer) → Spells (spelling row) row → PutsBytes rules old (spelling row) new answer → (is_held (node_rows new.node) row.name ≡ true) ⊎ IsRefusal answer
  put_holds old new row (Refused f) spells put = inr (f, refl)
  put_holds old new row (Known p) spells put =
      inl (held_more (node_rows put.reached.node) (node_rows new.node) row.name (own_grows old new (spelling row) (Known p) put)
      (known_held K rules.accepts put.reached.node (spelling row) row p (Spells-read_event (spelling row) row spells) (sym put.answers)).1)
  put_holds old new row (Accepted p) spells put =
      inl (subst (λ (s : Seen K). is_held (node_rows s.node) row.name ≡ true) (sym put.grown)
      (accepted_held K rules.accepts put.reached.node (spelling row) row p (Spells-read_event (spelling row) row spells) (sym put.answers)))

  -- events one after the other

  takes_one : (events : List (List ℕ)) (old new : Seen K) (before after : Taken) (i : ℕ) (row : Row) → Spells (spelling row) row → slice_get events i ≡ Some (spelling row) →
      (takes : Takes rules old before events new after) → IsHeldOrRefused rules old before events new after takes row
  takes_one [] old new before after i row spells at none = cc
  takes_one (event ∷ events) old new before after (suc i) row spells at some = elim (takes_one events some.0 new (with_answer before some.1) after i row spells at some.3) [
    | inl held ↦ inl held
    | inr refused ↦ inr (inr refused)
  ]
  takes_one (event ∷ events) old new before after zero row spells at some =
      let same : event ≡ spelling row = cc in
      elim (put_holds old some.0 row some.1 spells (subst (λ (bytes : List ℕ). PutsBytes rules old bytes some.0 some.1) same some.2)) [
        | inl held ↦ inl (held_more (node_rows some.0.node) (node_rows new.node) row.name (takes_grow events some.0 new (with_answer before some.1) after some.3) held)
        | inr refusal ↦ inr (inl (same, refusal))
      ]

  -- refusals are counted

  counts_grow : (events : List (List ℕ)) (old new : Seen K) (before after : Taken) → Takes rules old before events new after → before.refused ≤ after.refused
  counts_grow [] old new before after none = (let same = ap (λ (t : Taken). t.refused) none.1 in omega (arith, same))
  counts_grow (bytes ∷ events) old new before after some = (let rest = counts_grow events some.0 new (with_answer before some.1) after some.3 in omega (arith, rest))

  refused_counts : (events : List (List ℕ)) (old new : Seen K) (before after : Taken) (takes : Takes rules old before events new after) (bytes : List ℕ) → WereRefused rules old before events new after takes bytes →
      before.refused < after.refused
  refused_counts [] old new before after none bytes refused = absurd refused
  refused_counts (event ∷ events) old new before after some bytes (inl here) =
      let one : count_refused some.1 ≡ 1 = ap count_refused here.1.1 in
      let rest = counts_grow events some.0 new (with_answer before some.1) after some.3 in
      omega (arith, one, rest)
  refused_counts (event ∷ events) old new before after some bytes (inr later) =
      let rest = refused_counts events some.0 new (with_answer before some.1) after some.3 bytes later in
      omega (arith, rest)

  held_of_none : (events : List (List ℕ)) (old new : Seen K) (taken : Taken) (takes : Takes rules old none_taken events new taken) → taken.refused ≡ 0 → (row : Row) → IsHeldOrRefused rules old none_taken events new taken takes row →
      is_held (node_rows new.node) row.name ≡ true
  held_of_none events old new taken takes none row (inl held) = held
  held_of_none events old new taken takes none row (inr refused) = (let some = refused_counts events old new none_taken taken takes (spelling row) refused in absurd (omega (arith, none, some)))

  holds : (events : List (List ℕ)) (old new : Seen K) (taken : Taken) (takes : Takes rules old none_taken events new taken) (rows : List Row) →
      AllByRecursion (IsHeldOrRefused rules old none_taken events new taken takes) rows → HoldsUnlessRefused rules old events new taken takes rows
  holds events old new taken takes rows each = record {
    each = each;
    all = λ none. all_also (IsHeldOrRefused rules old none_taken events new taken takes) (λ (row : Row). is_held (node_rows new.node) row.name ≡ true) rows (held_of_none events old new taken takes none) each;
  }

pub takes_hold : (K : Type 0) → TakesHold K
takes_hold K rules old new events taken i row spells at takes = takes_one rules events old new none_taken taken i row spells at takes

pub refusals_count : (K : Type 0) → RefusalsCount K
refusals_count K rules old new events taken bytes takes refused = refused_counts rules events old new none_taken taken takes bytes refused

-- a node's rows are a graph of events
graph_of : {K : Type 0} (accepts : K → Accepts) (v : NodeView K) → IsNode accepts v → IsNodeGraph (terms_of accepts v.start) v.start.members v.start.own (node_rows v)
graph_of accepts v node = node_graph (terms_of accepts v.start) v.start.members v.start.coin v.start.own v.history node.coin node.history

pub pulls_hold : (K L : Type 0) → PullsHold K L
pulls_hold K L rules accepts old new peer taken node pulls =
    let reached : Seen K = pulls.reached in
    let names : List (List ℕ) = names_in reached in
    let H : List Row = node_rows peer.node in
    let events : List (List ℕ) = map spelling (unnamed names H) in
    holds rules events reached new taken pulls.takes H
    (all_placed (IsHeldOrRefused rules reached none_taken events new taken pulls.takes) H (λ x row at. elim (cases_Bool (list_any (bytes_eq row.name) names)) [
      | inl named ↦ inl (held_more (node_rows reached.node) (node_rows new.node) row.name (takes_grow rules events reached new none_taken taken pulls.takes) (sym (held_is (node_rows reached.node) row.name) ∙ named))
      | inr unknown ↦ (
          let has = unnamed_has names H x row at unknown in
          takes_one rules events reached new none_taken taken has.0 row ((graph_of accepts peer.node node).events x row at).spelled has.1 pulls.takes)
    ]))

-- what is behind rows that are held

module _ (n : Stakes) (G H : List Row) (shaped_G : IsShaped n (links G)) (earlier : IsEarlier (parents (links H))) (equal : HaveEqualRows G H) where
  -- a parent's name is one of the row's names for them
  name_of_parent : (names : List (List ℕ)) (q : ℕ) → AreHeld G names → has_place (map (place_of H) names) q ≡ true → (name : List ℕ) × (place_of H name ≡ q) × (place_of G name < length G)
  name_of_parent [] q held has = absurd (true≢false (sym has))
  name_of_parent (name ∷ names) q held has = elim (cases_Bool (eqb (place_of H name) q)) [
    | inl here ↦ (name, eqb-true (place_of H name) q here, held.0)
    | inr other ↦ name_of_parent names q held.1 (sym (ap (λ (b : Bool). b || has_place (map (place_of H) names) q) other) ∙ has)
  ]

  parent_held : (p q : ℕ) → p < length H → is_held G (name_at H p) ≡ true → has_place (parents (links H) p) q ≡ true → is_held G (name_at H q) ≡ true
  parent_held p q inside held has =
      let name : List ℕ = name_at H p in
      let x : ℕ = place_of G name in
      let low : x < length G = ltb-true x (length G) held in
      let row : Row = get_or H p nobody in
      let at_p : slice_get H p ≡ Some row = slice_get-get_or H p nobody inside in
      let at_x : slice_get G x ≡ Some row = equal.equal x p low inside (name_at_place G name low) ∙ at_p in
      let here : row ≡ get_or H p row = sym (get_or_from_slice_get H p row row at_p) in
      let there : get_or G x nobody ≡ row = get_or_from_slice_get G x row nobody at_x in
      let names : AreHeld G (parent_names row.parents) = subst (λ (r : Row). AreHeld G (parent_names r.parents)) there (present_at n G shaped_G x low).held in
      let found = name_of_parent (parent_names row.parents) q names (subst (λ (ps : List ℕ). has_place ps q ≡ true) (parents-links H p row inside here) has) in
      let before : q < p = earlier.earlier p q has in
      let named : name_at H q ≡ found.0 = ap (name_at H) (sym found.1) ∙ name_at_place H found.0 (omega (arith, found.1, before, inside)) in
      subst (λ (k : List ℕ). is_held G k ≡ true) (sym named) (lt-ltb (place_of G found.0) (length G) found.2)

  ancestor_held : (k p y : ℕ) → p < k → p < length H → is_held G (name_at H p) ≡ true → is_ancestor (links H) p y ≡ true → is_held G (name_at H y) ≡ true
  ancestor_held zero p y within inside held above = absurd (omega (arith, within))
  ancestor_held (suc k) p y within inside held above = elim (is_ancestor_cases (links H) earlier p y above) [
    | inl same ↦ subst (λ (z : ℕ). is_held G (name_at H z) ≡ true) same held
    | inr by ↦ (
        let before : by.0 < p = earlier.earlier p by.0 by.1 in
        ancestor_held k by.0 y (omega (arith, before, within)) (omega (arith, before, inside)) (parent_held p by.0 inside held by.1) by.2)
  ]

  behind_held : (names : List (List ℕ)) (y : ℕ) → AllByRecursion (λ (name : List ℕ). is_held G name ≡ true) names → is_behind_some H names y ≡ true → is_held G (name_at H y) ≡ true
  behind_held [] y held behind = absurd (true≢false (sym behind))
  behind_held (name ∷ names) y held behind = elim (cases_Bool (is_behind H y name)) [
    | inr other ↦ behind_held names y held.1 (sym (ap (λ (b : Bool). b || is_behind_some H names y) other) ∙ behind)
    | inl here ↦ (
        let both = and_parts (is_held H name) (is_ancestor (links H) (place_of H name) y) here in
        let inside : place_of H name < length H = ltb-true (place_of H name) (length H) both.0 in
        ancestor_held (suc (place_of H name)) (place_of H name) y (omega arith) inside (subst (λ (k : List ℕ). is_held G k ≡ true) (sym (name_at_place H name inside)) held.0) both.1)
  ]

pub beyond_holds : (K L : Type 0) → BeyondHolds K L
unfolding bytes_beyond name_at
beyond_holds K L rules accepts old new peer names taken node_old node equal held takes =
    let G : List Row = node_rows old.node in
    let H : List Row = node_rows peer.node in
    let events : List (List ℕ) = bytes_beyond H names in
    let graph = graph_of accepts peer.node node in
    holds rules events old new taken takes H
    (all_placed (IsHeldOrRefused rules old none_taken events new taken takes) H (λ y row at. elim (cases_Bool (is_behind_some H names y)) [
      | inl behind ↦ inl (held_more G (node_rows new.node) row.name (takes_grow rules events old new none_taken taken takes)
          (subst (λ (k : List ℕ). is_held G k ≡ true) (ap name_in at)
          (behind_held old.node.start.members G H (graph_of rules.accepts old.node node_old).graph.shaped graph.graph.shaped.earlier equal names y held behind)))
      | inr not_behind ↦ (
          let has = listed (bytes_at H) (length H) (λ x. not (is_behind_some H names x)) y (slice_get_within H y row at) (ap (λ (b : Bool). not b) not_behind) in
          let bytes : bytes_at H y ≡ spelling row = ap spelling (get_or_from_slice_get H y row no_row at) in
          takes_one rules events old new none_taken taken has.0 row (graph.events y row at).spelled (has.1 ∙ ap (λ (b : List ℕ). Some b) bytes) takes)
    ]))

pub tips_are_held : TipsAreHeld
unfolding tips name_at
tips_are_held G =
    all_listed (λ (name : List ℕ). is_held G name ≡ true) (name_at G) (length G) (λ x. not (is_parent (links G) x))
    (λ x low. (let at = slice_get-get_or G x nobody low in held_at G x (get_or G x nobody) (name_at G x) at (sym (ap name_in at))))
