-- Rows that one node hands over to another
use Rattle.std.proofs.Common.{◌≡◌, ◌≢◌, ℕ, zero, suc, ◌<◌, ◌++◌, Bool, true, false, cond, not, List, [], ◌∷◌, length, get_or, take, drop, sym, refl, ap, ◌∙◌, subst, arith}
use Rattle.std.specs.Prelude.{⊤, filter}
use Rattle.std.specs.List.{AllByRecursion}
use Rattle.std.proofs.lemmas.List.{get_or-map, get_or_default, length-map}
use Rattle.hg_model.specs.declared.row.Row.{Row}
use Rattle.hg_model.specs.Links.{no_row}
use Rattle.hg_model.specs.Stakes.{Stakes, member_count}
use Rattle.hg_life.specs.Signing.{Accepts, accepts_by}
use Rattle.hg_model.specs.Held.{lacking, is_held}
use Rattle.hg_model.specs.Graph.{HasDistinctNames, name_at}
use Rattle.hg_life.specs.Spelling.{Spells, body_of, spelling}
use Rattle.hg_life.specs.NodeView.{NodeView, Start, IsNode, node_rows, terms_of}
use Rattle.hg_model.proofs.LinkLaws.{creator-links, length-links}
use Rattle.hg_history.specs.Laws.{IsEvent}
use Rattle.hg_history.proofs.SoundLaws.{sound}
use Rattle.hg_board.specs.Seats.{SharedNode}
use Rattle.hg_board.specs.Taking.{AreSignedFor, AreSpelled, IsSignedFor}
use Rattle.hg_world.specs.World.{Secrets}
use Rattle.hg_world.specs.Parts.{AreOfOneList, HasStart, no_node}
use Rattle.hg_play.specs.Through.{AreHanded, begun}

signed_events : (start : Start Secrets) (rows : List Row) → AllByRecursion (IsEvent (accepts_by start.keys)) rows →
    ((x : ℕ) → x < length rows → (get_or rows x no_row).creator < member_count start.members) → AreSignedFor accepts_by start rows
signed_events start [] events fit = tt
signed_events start (row ∷ rows) events fit = (
  record { fits = fit 0 (omega arith); signed = events.0.signed },
  signed_events start rows events.1 (λ x low. fit (suc x) (omega (arith, low))),
)

spelled_events : (accepts : Accepts) (rows : List Row) → AllByRecursion (IsEvent accepts) rows → AreSpelled rows
spelled_events accepts [] events = tt
spelled_events accepts (row ∷ rows) events = (events.0.spelled, spelled_events accepts rows events.1)

-- what a node accepts as signed, each does with the same members and keys
signed_alike : (a b : Start Secrets) (rows : List Row) → a.members ≡ b.members → a.keys ≡ b.keys → AreSignedFor accepts_by a rows → AreSignedFor accepts_by b rows
signed_alike a b [] members keys all = tt
signed_alike a b (row ∷ rows) members keys all = (
  record {
    fits = omega (arith, all.0.fits, ap member_count members);
    signed = subst (λ (k : Secrets). accepts_by k row.creator (body_of row) row.sig ≡ true) keys all.0.signed;
  },
  signed_alike a b rows members keys all.1,
)

-- what the node at a place began with
start_at : (n : Stakes) (c : ℕ) (keys : Secrets) (places : List (SharedNode Secrets)) → ((m : ℕ) → m < length (begun places) → HasStart n c keys m (get_or (begun places) m no_node)) →
    (m : ℕ) (p : SharedNode Secrets) → m < length places → HasStart n c keys m (get_or places m p).start
start_at n c keys places each m p low =
    subst (HasStart n c keys m) (get_or-map (λ (q : SharedNode Secrets). q.start) places m p no_node low) (each m (omega (arith, low, length-map places (λ (q : SharedNode Secrets). q.start))))

-- the rows of a node that one of these became
pub handed : (places : List (SharedNode Secrets)) (x : ℕ) (p : SharedNode Secrets) (v : NodeView Secrets) → AreOfOneList (begun places) → x < length places → p ≡ get_or places x p → v.start ≡ p.start.start →
    IsNode accepts_by v → AreHanded places (node_rows v)
handed places x p v one low p_is start node =
    let s = sound (terms_of accepts_by v.start) v.start.members v.start.coin v.start.own v.history node.coin node.history in
    let mine = start_at one.0 one.1 one.2 places one.3.each x p low in
    let from : v.start ≡ (get_or places x p).start.start = start ∙ ap (λ (q : SharedNode Secrets). q.start.start) p_is in
    let own : AreSignedFor accepts_by v.start (node_rows v) =
    signed_events v.start (node_rows v) s.events
    (λ y below. subst (λ (m : ℕ). m < member_count v.start.members) (creator-links (node_rows v) y (get_or (node_rows v) y no_row) below (get_or_default (node_rows v) y no_row (get_or (node_rows v) y no_row) below))
    (s.graph.shaped.members y (omega (arith, below, length-links (node_rows v))))) in
    record {
      signed = λ m q inside.
          let other = start_at one.0 one.1 one.2 places one.3.each m q inside in
          signed_alike v.start (get_or places m q).start.start (node_rows v) (ap (λ (t : Start Secrets). t.members) from ∙ (mine.members ∙ sym other.members))
          (ap (λ (t : Start Secrets). t.keys) from ∙ (mine.keyed ∙ sym other.keyed)) own;
      distinct = s.graph.distinct;
      spelled = spelled_events (accepts_by v.start.keys) (node_rows v) s.events;
    }

-- some of the first rows, and all behind them

module _ (test : Row → Bool) (P : Row → Type 0) where
  all_part : (k : ℕ) (rows : List Row) → AllByRecursion P rows → AllByRecursion P (filter test (take k rows) ++ drop k rows)
  all_part zero rows all = all
  all_part (suc k) [] all = tt
  all_part (suc k) (row ∷ rows) all = by (test row) (all_part k rows all.1)
    where
      by : (b : Bool) → AllByRecursion P (filter test (take k rows) ++ drop k rows) → AllByRecursion P (cond b (row ∷ filter test (take k rows)) (filter test (take k rows)) ++ drop k rows)
      by true rest = (all.0, rest)
      by false rest = rest

abbrev AreApart : List Row → Type 0
AreApart [] = ⊤
AreApart (row ∷ rows) = AllByRecursion (λ (r : Row). r.name ≢ row.name) rows × AreApart rows

names_differ : (row : Row) (rows : List Row) → ((x : ℕ) → x < length rows → name_at rows x ≢ row.name) → AllByRecursion (λ (r : Row). r.name ≢ row.name) rows
unfolding name_at
names_differ row [] apart = tt
names_differ row (r ∷ rows) apart = (λ same. apart 0 (omega arith) same, names_differ row rows (λ x low same. apart (suc x) (omega (arith, low)) same))

apart_of : (rows : List Row) → HasDistinctNames rows → AreApart rows
unfolding name_at
apart_of [] distinct = tt
apart_of (row ∷ rows) distinct = (
  names_differ row rows (λ x low same. (let is = distinct.one (suc x) 0 (omega (arith, low)) (omega arith) same in absurd (omega (arith, is)))),
  apart_of rows record { one = λ x y lx ly same. (let is = distinct.one (suc x) (suc y) (omega (arith, lx)) (omega (arith, ly)) same in omega (arith, is)) },
)

name_differs : (row : Row) (rows : List Row) (x : ℕ) → AllByRecursion (λ (r : Row). r.name ≢ row.name) rows → x < length rows → name_at rows x ≢ row.name
unfolding name_at
name_differs row [] x apart low = absurd (omega (arith, low))
name_differs row (r ∷ rows) zero apart low = apart.0
name_differs row (r ∷ rows) (suc x) apart low = name_differs row rows x apart.1 (omega (arith, low))

one_of : (rows : List Row) → AreApart rows → (x y : ℕ) → x < length rows → y < length rows → name_at rows x ≡ name_at rows y → x ≡ y
unfolding name_at
one_of [] apart x y lx ly same = absurd (omega (arith, lx))
one_of (row ∷ rows) apart zero zero lx ly same = refl
one_of (row ∷ rows) apart zero (suc y) lx ly same = absurd (name_differs row rows y apart.0 (omega (arith, ly)) (sym same))
one_of (row ∷ rows) apart (suc x) zero lx ly same = absurd (name_differs row rows x apart.0 (omega (arith, lx)) same)
one_of (row ∷ rows) apart (suc x) (suc y) lx ly same = ap suc (one_of rows apart.1 x y (omega (arith, lx)) (omega (arith, ly)) same)

distinct_of : (rows : List Row) → AreApart rows → HasDistinctNames rows
distinct_of rows apart = record { one = one_of rows apart }

apart_part : (test : Row → Bool) (k : ℕ) (rows : List Row) → AreApart rows → AreApart (filter test (take k rows) ++ drop k rows)
apart_part test zero rows apart = apart
apart_part test (suc k) [] apart = tt
apart_part test (suc k) (row ∷ rows) apart = by (test row) (apart_part test k rows apart.1)
  where
    by : (b : Bool) → AreApart (filter test (take k rows) ++ drop k rows) → AreApart (cond b (row ∷ filter test (take k rows)) (filter test (take k rows)) ++ drop k rows)
    by true rest = (all_part test (λ (r : Row). r.name ≢ row.name) k rows apart.0, rest)
    by false rest = rest

-- such rows each of the nodes may take, where it may take them all
pub handed_part : (places : List (SharedNode Secrets)) (G H : List Row) (k : ℕ) → AreHanded places H → AreHanded places (lacking G (take k H) ++ drop k H)
handed_part places G H k handed =
    let test : Row → Bool = λ row. not (is_held G row.name) in
    record {
      signed = λ m q inside. all_part test (IsSignedFor accepts_by (get_or places m q).start.start) k H (handed.signed m q inside);
      distinct = distinct_of (lacking G (take k H) ++ drop k H) (apart_part test k H (apart_of H handed.distinct));
      spelled = all_part test (λ (row : Row). Spells (spelling row) row) k H handed.spelled;
    }
