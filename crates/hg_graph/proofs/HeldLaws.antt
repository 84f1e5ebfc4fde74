-- What a graph keeps beside its rows, at first and with a row more
use Rattle.std.proofs.Common.{◌≡◌, inl, inr, ℕ, ◌+◌, ◌-◌, ◌^◌, ◌<◌, ◌≤◌, Option, List, [], ◌∷◌, ◌++◌, length, map, take, get_or, Bool, Some, slice_get, sym, refl, ap, ◌∙◌, ap₂, subst, arith, zero-add}
use Rattle.std.proofs.lemmas.Bool.{cases_lt, true≢false}
use Rattle.std.specs.List.{range_with_len}
use Rattle.std.proofs.lemmas.List.{length_push, get_or_push, length-take-le, ext_get_or}
use Rattle.std.proofs.lemmas.List.FromFn.{get_or-map-range_with_len, length-map-range_with_len, take-map-range_with_len}
use Rattle.std.proofs.lemmas.Option.{slice_get-get_or, slice_get_past}
use Rattle.hg_model.specs.declared.row.Row.{Row}
use Rattle.hg_model.specs.Places.{some_below}
use Rattle.hg_model.specs.Stakes.{Stakes, member_count, stake_of, total}
use Rattle.hg_model.specs.Links.{Link, most_parents, place_of, link_in, links, first_place, parents as parents_at}
use Rattle.hg_model.specs.Forks.{has_fork, forking}
use Rattle.hg_model.specs.Graph.{IsShaped, IsGraph}
use Rattle.hg_model.specs.Shape.{Shape, FitsLink, first_links, shape_of, link_of, place_list, with_link}
use Rattle.hg_model.specs.Standings.{Standing, standing_of, standings_of}
use Rattle.hg_life.specs.Spelling.{Spells, spelling}
use Rattle.hg_life.specs.Terms.{row_limit}
use Rattle.hg_model.specs.Prefix.{Graph, graph_of}
use Rattle.hg_model.specs.GraphWords.{shape_in}
use Rattle.hg_model.proofs.StandingLaws.{length-standings}
use Rattle.hg_model.proofs.FrontLaws.{links-take}
use Rattle.hg_model.proofs.ShapeLaws.{shaped-take}
use Rattle.hg_model.proofs.PlacesLaws.{weight_below_none}
use Rattle.hg_model.proofs.LongerLaws.{slice_get-append, longer-take, round_of-longer, is_witness-longer}
use Rattle.hg_model.proofs.NameLaws.{distinct-none}
use Rattle.hg_model.proofs.PushLaws.{nobody, shaped-none, creator_last}
use Rattle.hg_model.proofs.LinkLaws.{length-links, parents_read}
use Rattle.hg_life.proofs.RuleLaws.{few_spelled}
use Rattle.hg_forks.specs.SelfLinks.{self_link_of, self_links, self_shape}
use Rattle.hg_forks.proofs.SelfLaws.{self_links_serve}
use Rattle.hg_rounds.specs.Tabled.{AddsWeight, Tabled, TellsWeights, WeighNothing, last_parents, standing, weight_at}
use Rattle.hg_rounds.proofs.WeightLaws.{tells_longer, tells_next, tells_none}
use Rattle.hg_graph.specs.Held.{GraphWithRoom, AreEvents, IsHeld, KeepsGraph, graph_with}
use Rattle.hg_graph.proofs.NextLaws.{links_next, few_parents, fits_last, name_next}

-- without rows

no_forkers : (n : Stakes) → forking n (links []) ≡ 0
unfolding forking has_fork some_below links
no_forkers n = weight_below_none (stake_of n) (member_count n) (has_fork (links [])) (λ m inside forks. absurd (true≢false (sym forks)))

held_none : (n : Stakes) (c : ℕ) → 0 < total n → member_count n ≤ 128 → 2 < c → IsHeld (graph_of n c [])
held_none n c some few three = record {
  some_stake = some;
  few_members = few;
  coin = three;
  graph = record { distinct = distinct-none; few_others = refl; shaped = shaped-none n; few_forkers = omega (arith, no_forkers n) };
  events = λ x row is. (let past : slice_get [] x ≡ Some row = is in absurd (none_there x row past));
  few = omega arith;
}
  where
    none_there : (x : ℕ) (row : Row) → slice_get [] x ≡ Some row → ⊥
    none_there x row is = (let gone = slice_get_past {X = Row} [] x (omega arith) in cc)

pub keeps_none : (n : Stakes) (c : ℕ) (rounds : Tabled) → 0 < total n → member_count n ≤ 128 → 2 < c → rounds.standings ≡ [] → WeighNothing rounds.weights →
    KeepsGraph (graph_of n c []) (shape_of n []) (shape_of n []) rounds
unfolding links self_links standings_of
keeps_none n c rounds some few three none nothing = record {
  held = held_none n c some few three;
  seen = refl;
  forked = refl;
  placed = none;
  weighed = subst (λ (S : List Standing). TellsWeights (shape_of n []) S rounds.weights) (sym none) (tells_none (shape_of n []) rounds.weights nothing);
}

-- with one more

events_with : (G : List Row) (row : Row) → AreEvents G → Spells (spelling row) row → AreEvents (G ++ row ∷ [])
events_with G row all here x r is = elim (cases_lt x (length G)) [
  | inl before ↦ all x r (sym (slice_get-append G (row ∷ []) nobody x before) ∙ is)
  | inr ge ↦ elim (cases_lt (length G) x) [
    | inl after ↦ (let gone = slice_get_past (G ++ row ∷ []) x (omega (arith, length_push G row)) in absurd (nothing gone))
    | inr le ↦ (
        let last : x ≡ length G = omega arith in
        let there : slice_get (G ++ row ∷ []) x ≡ Some row =
        slice_get-get_or (G ++ row ∷ []) x nobody (omega (arith, length_push G row))
        ∙ ap (λ (r : Row). Some r) (get_or_push G row nobody x (sym last)) in
        let same : row ≡ r = cc in
        subst (λ (r : Row). Spells (spelling r) r) same here)
  ]
]
  where
    nothing : slice_get (G ++ row ∷ []) x ≡ Rattle.std.proofs.Common.None → ⊥
    nothing gone = cc

-- without other-parents

pub self_fits : (n : Stakes) (L : List Link) (m : ℕ) (parents : List ℕ) (self_place : Option ℕ) → place_list self_place ≡ first_place parents → FitsLink n L (link_of m parents) → FitsLink n (self_links L) (self_link_of m self_place)
self_fits n L m parents self_place is fits =
    subst (λ (ps : List ℕ). FitsLink n (self_links L) (record { creator = m; parents = ps })) (sym is) ((self_links_serve n L).fits (link_of m parents) fits)

self_push : (n : Stakes) (L : List Link) (m : ℕ) (parents : List ℕ) (self_place : Option ℕ) → place_list self_place ≡ first_place parents → self_links L ++ self_link_of m self_place ∷ [] ≡ self_links (L ++ link_of m parents ∷ [])
self_push n L m parents self_place is =
    ap (λ (ps : List ℕ). self_links L ++ record { creator = m; parents = ps } ∷ []) is ∙ sym ((self_links_serve n L).push (link_of m parents))

pub self_forking : (n : Stakes) (L : List Link) (m : ℕ) (parents : List ℕ) (self_place : Option ℕ) → place_list self_place ≡ first_place parents → forking n (self_links L ++ self_link_of m self_place ∷ []) ≡ forking n (L ++ link_of m parents ∷ [])
self_forking n L m parents self_place is = ap (forking n) (self_push n L m parents self_place is) ∙ (self_links_serve n (L ++ link_of m parents ∷ [])).forking

-- what each round's witnesses weigh

weighs_longer : (g : Graph) (rounds : Tabled) (link : Link) → rounds.standings ≡ standings_of g.members (links g.rows) → TellsWeights (shape_in g) rounds.standings rounds.weights →
    TellsWeights (with_link (shape_in g) link) rounds.standings rounds.weights
weighs_longer g rounds link placed tells =
    tells_longer (shape_in g) link rounds.standings rounds.weights (ap length placed ∙ length-standings g.members (links g.rows)) tells

weighs_next : (g : Graph) (rounds : Tabled) (link : Link) (round : ℕ) (witness : Bool) (stake : ℕ) (weights : List ℕ) → rounds.standings ≡ standings_of g.members (links g.rows) →
    TellsWeights (shape_in g) rounds.standings rounds.weights → stake ≡ stake_of g.members link.creator → stake < 2 ^ 32 → AddsWeight round witness stake rounds.weights weights →
    TellsWeights (with_link (shape_in g) link) (rounds.standings ++ standing round witness ∷ []) weights
weighs_next g rounds link round witness stake weights placed tells is low adds =
    let L = links g.rows in
    let long : length rounds.standings ≡ length L = ap length placed ∙ length-standings g.members L in
    tells_next (with_link (shape_in g) link) rounds.standings rounds.weights weights round witness stake (weighs_longer g rounds link placed tells) adds
    (is ∙ ap (stake_of g.members) (sym (creator_last g.members L link (length rounds.standings) long))) low

-- what a row needs, and does, that may come into a graph with these parents; it is read of a shared event
pub record Comes (g : Graph) (row shared : Row) (parents : List ℕ) (sight watched : Shape) (rounds : Tabled) : Type 0 where
  pub fits : FitsLink sight.members sight.links (link_of row.creator parents)
  pub short : length sight.links + 1 < 2 ^ 32 - 1
  pub self_fits : (self_place : Option ℕ) → place_list self_place ≡ first_place parents → FitsLink watched.members watched.links (self_link_of row.creator self_place)
  pub fresh : place_of g.rows shared.name ≡ length g.rows
  pub last : (after : Shape) → after ≡ with_link sight (link_of row.creator parents) → parents ≡ last_parents after
  pub weighs : (after : Shape) → after ≡ with_link sight (link_of row.creator parents) → TellsWeights after rounds.standings rounds.weights
  pub light : (round stake : ℕ) → stake < 2 ^ 32 → weight_at rounds.weights round + stake < 2 ^ 64
  pub keeps : (self_place : Option ℕ) → place_list self_place ≡ first_place parents → (rows : List Row) (after watched_after : Shape) (rounds_after : Tabled) (round : ℕ) (witness : Bool) (stake : ℕ) →
      rows ≡ g.rows ++ shared ∷ [] → after ≡ with_link sight (link_of row.creator parents) → watched_after ≡ with_link watched (self_link_of row.creator self_place) →
      rounds_after.standings ≡ rounds.standings ++ standing round witness ∷ [] → rounds.standings ++ standing round witness ∷ [] ≡ standings_of after.members after.links →
      stake ≡ stake_of after.members row.creator → stake < 2 ^ 32 → AddsWeight round witness stake rounds.weights rounds_after.weights →
      KeepsGraph (graph_of g.members g.coin rows) after watched_after rounds_after

module _ (g : Graph) (row : Row) (parents : List ℕ) (held : IsHeld g) (limit : length g.rows < row_limit) (spells : Spells (spelling row) row)
    (is : link_in g.rows row ≡ link_of row.creator parents) (graph : IsGraph g.members (g.rows ++ row ∷ [])) where
  held_with : IsHeld (graph_with g row)
  held_with = record {
    some_stake = held.some_stake;
    few_members = held.few_members;
    coin = held.coin;
    graph = graph;
    events = events_with g.rows row held.events spells;
    few = omega (arith, length_push g.rows row);
  }

  linked : links (g.rows ++ row ∷ []) ≡ links g.rows ++ link_of row.creator parents ∷ []
  linked = links_next g.members g.rows row held.graph.shaped graph.shaped ∙ ap (λ (l : Link). links g.rows ++ l ∷ []) is

  fits_next : FitsLink g.members (links g.rows) (link_of row.creator parents)
  fits_next =
      fits_last g.members (links g.rows) (link_of row.creator parents) (subst (λ (l : Link). length l.parents ≤ most_parents) is (few_parents g.rows row (few_spelled row spells.sized)))
      (subst (IsShaped g.members) linked graph.shaped)

  last_on : (L : List Link) → L ≡ links g.rows ++ link_of row.creator parents ∷ [] → parents ≡ parents_at L (length L - 1)
  last_on L at =
      let link = link_of row.creator parents in
      let long : length L ≡ length (links g.rows) + 1 = ap length at ∙ length_push (links g.rows) link in
      let here : link ≡ get_or L (length L - 1) link = sym (ap (λ (M : List Link). get_or M (length L - 1) link) at ∙ get_or_push (links g.rows) link link (length L - 1) (omega arith)) in
      sym (parents_read L (length L - 1) link (omega arith) here)

  comes_to : (watched : Shape) (rounds : Tabled) → watched ≡ self_shape (shape_in g) → rounds.standings ≡ standings_of g.members (links g.rows) →
      TellsWeights (shape_in g) rounds.standings rounds.weights → Comes g row row parents (shape_in g) watched rounds
  comes_to watched rounds forked before tells = record {
    fits = fits_next;
    short = omega (arith, length-links g.rows);
    self_fits = λ self_place first. rw forked (self_fits g.members (links g.rows) row.creator parents self_place first fits_next);
    fresh = name_next g.rows row graph.distinct;
    last = λ after at. last_on after.links (ap (λ (s : Shape). s.links) at);
    weighs = λ after at. rw at (weighs_longer g rounds (link_of row.creator parents) before tells);
    light = λ round stake low. omega (arith, tells.low round, ap length before ∙ length-standings g.members (links g.rows), length-links g.rows);
    keeps = λ self_place first rows after watched_after rounds_after round witness stake rows_are at watched_at added placed is low adds. rw rows_are (record {
      held = held_with;
      seen = at ∙ ap (shape_of g.members) (sym linked);
      forked = watched_at
          ∙ (ap (λ (s : Shape). with_link s (self_link_of row.creator self_place)) forked
          ∙ ap (shape_of g.members) (self_push g.members (links g.rows) row.creator parents self_place first ∙ ap self_links (sym linked)));
      placed = added ∙ (placed ∙ ap (λ (s : Shape). standings_of s.members s.links) (at ∙ ap (shape_of g.members) (sym linked)));
      weighed = subst (λ (s : Shape). TellsWeights s rounds_after.standings rounds_after.weights) (ap (shape_of g.members) (sym linked))
          (subst (λ (S : List Standing). TellsWeights (with_link (shape_in g) (link_of row.creator parents)) S rounds_after.weights) (sym added)
          (weighs_next g rounds (link_of row.creator parents) round witness stake rounds_after.weights before tells (is ∙ ap (λ (s : Shape). stake_of s.members row.creator) at) low adds));
    });
  }

-- the same of the graph of a value
pub comes : {g : Graph} {room : ℕ} {v : GraphWithRoom} → record { graph = g; room = room } ≡ v → {sight watched : Shape} {rounds : Tabled} → KeepsGraph g sight watched rounds →
    {row event shared : Row} → row ≡ event → event ≡ shared → (parents : List ℕ) → length v.graph.rows < row_limit → Spells (spelling event) event →
    link_in v.graph.rows shared ≡ link_of shared.creator parents → IsGraph v.graph.members (v.graph.rows ++ shared ∷ []) → Comes g row shared parents sight watched rounds
comes {g} {room} {v} view {sight} {watched} {rounds} keeps {row} {event} {shared} of_event of_shared parents limit spells is graph =
    let same : v.graph ≡ g = ap (λ (v : GraphWithRoom). v.graph) (sym view) in
    subst (λ (s : Shape). Comes g row shared parents s watched rounds) (sym keeps.seen)
    (subst (λ (r : Row). Comes g r shared parents (shape_in g) watched rounds) (sym (of_event ∙ of_shared))
    (comes_to g shared parents keeps.held (subst (λ (g : Graph). length g.rows < row_limit) same limit) (subst (λ (r : Row). Spells (spelling r) r) of_shared spells)
    (subst (λ (g : Graph). link_in g.rows shared ≡ link_of shared.creator parents) same is)
    (subst (λ (g : Graph). IsGraph g.members (g.rows ++ shared ∷ [])) same graph) watched rounds keeps.forked keeps.placed keeps.weighed))

-- the first rows

nothing : Standing
nothing = record { round = 0; witness = Rattle.std.proofs.Common.false }

standings-take : (n : Stakes) (L : List Link) (len : ℕ) → IsShaped n L → len ≤ length L → take len (standings_of n L) ≡ standings_of n (take len L)
unfolding standings_of
standings-take n L len shaped le =
    let S = take len L in
    let short : length S ≡ len = length-take-le len L le in
    let longer = longer-take L len le in
    let earlier = (shaped-take n L len le shaped).earlier in
    let same : (x : ℕ) → x < length S → standing_of n L x ≡ standing_of n S x =
    λ x h. ap₂ (λ (r : ℕ) (w : Bool). record { round = r; witness = w }) (round_of-longer S L longer n x h) (is_witness-longer S L longer n earlier x h) in
    let before = map (standing_of n L) (range_with_len 0 (length S)) in
    let after = map (standing_of n S) (range_with_len 0 (length S)) in
    let all = length-map-range_with_len (standing_of n L) 0 (length S) in
    take-map-range_with_len (standing_of n L) 0 (length L) len le
    ∙ (ap (λ (k : ℕ). map (standing_of n L) (range_with_len 0 k)) (sym short)
    ∙ ext_get_or nothing before after
    (all ∙ sym (length-map-range_with_len (standing_of n S) 0 (length S)))
    (λ x h.
    let inside : x < length S = omega (arith, all) in
    get_or-map-range_with_len (standing_of n L) 0 (length S) x x nothing inside (zero-add x)
    ∙ (same x inside ∙ sym (get_or-map-range_with_len (standing_of n S) 0 (length S) x x nothing inside (zero-add x)))))

pub first_links_are : {g : Graph} {sight watched : Shape} {rounds : Tabled} → KeepsGraph g sight watched rounds → (len : ℕ) → len ≤ length g.rows →
    (len ≤ length sight.links) × (len ≤ length rounds.standings) × (first_links sight len ≡ shape_of g.members (links (take len g.rows))) × (take len rounds.standings ≡ standings_of g.members (links (take len g.rows)))
first_links_are {g} keeps len le =
    let n = g.members in
    let L = links g.rows in
    let short : length L ≡ length g.rows = length-links g.rows in
    let shaped = keeps.held.graph.shaped in
    let first : links (take len g.rows) ≡ take len L = links-take n g.rows len shaped le in
    let placed = length-standings n L in (
      rw keeps.seen (omega arith),
      rw keeps.placed (omega arith),
      ap (λ (s : Shape). first_links s len) keeps.seen ∙ ap (shape_of n) (sym first),
      ap (take len) keeps.placed ∙ (standings-take n L len shaped (omega arith) ∙ ap (standings_of n) (sym first)),
    )
