-- Events that come in one turn, and the same put one after the other
use Rattle.std.proofs.Common.{◌≡◌, ℕ, suc, ◌<◌, Bool, true, false, not, cond, ◌||◌, List, [], ◌∷◌, ◌++◌, length, map, fold, None, sym, refl, ap, ◌∙◌, arith}
use Rattle.std.specs.List.{AllByRecursion, list_any}
use Rattle.std.specs.Str.{bytes_eq}
use Rattle.std.proofs.lemmas.List.{append-nil, map-append}
use Rattle.std.proofs.lemmas.List.Folds.{list_any-append}
use Rattle.std.proofs.lemmas.Slice.Eq.{bytes_eq-Decides}
use Rattle.hg_model.specs.declared.row.Row.{Row}
use Rattle.hg_life.specs.declared.answers.PutAnswer.{PutAnswer}
use Rattle.hg_life.specs.declared.answers.PutAnswer.TheVariants.{Accepted, Known, Refused}
use Rattle.hg_model.specs.Held.{lacking, is_held}
use Rattle.hg_model.specs.Graph.{HasDistinctNames, name_at}
use Rattle.hg_life.specs.History.{Change, State}
use Rattle.hg_life.specs.History.Change.{Took}
use Rattle.hg_life.specs.NodeView.{NodeView, node_rows, with_changes, terms_of}
use Rattle.hg_life.specs.Calls.{put_changes, taken_by, taken_from}
use Rattle.hg_life.specs.Signing.{Accepts}
use Rattle.hg_life.specs.Spelling.{Spells, spelling}
use Rattle.hg_life.specs.Verdict.{row_verdict}
use Rattle.hg_event.proofs.Spells.{Spells-read_event}
use Rattle.hg_history.proofs.StateLaws.{replay-push}
use Rattle.hg_gossip.specs.Gossip.{none_taken}
use Rattle.hg_gossip.specs.Holding.{row_names}
use Rattle.hg_gossip.specs.Nodes.{Taking, take_event, taking_of}
use Rattle.hg_gossip.proofs.RowLaws.{unnamed_lacks}
use Rattle.hg_board.specs.Table.{node_at}
use Rattle.hg_board.specs.Taking.{AreSpelled, take_row, taking_rows}
use Rattle.hg_board.specs.Laws.{TurnsTakeEach}

-- a name is held that is among the names
abbrev one_named : List ℕ → Row
one_named name = record { creator = 0; parents = None; time = 0; payload = []; sig = []; name = name }

same_test : (row : Row) (a b : Bool) → cond (not a) (row ∷ []) [] ≡ cond (not b) (row ∷ []) [] → a ≡ b
same_test row true true same = refl
same_test row true false same = (let long = ap length same in absurd (omega (arith, long)))
same_test row false true same = (let long = ap length same in absurd (omega (arith, long)))
same_test row false false same = refl

among_is : (G : List Row) (name : List ℕ) → list_any (bytes_eq name) (row_names G) ≡ is_held G name
among_is G name = same_test (one_named name) (list_any (bytes_eq name) (row_names G)) (is_held G name) (unnamed_lacks G (one_named name ∷ []))

-- a row of another name changes nothing
or_none : (a b : Bool) → b ≡ false → (a || (b || false)) ≡ a
or_none true b is = refl
or_none false b is = ap (λ (c : Bool). c || false) is

differs : (name other : List ℕ) → (name ≡ other → ⊥) → bytes_eq name other ≡ false
differs name other apart = by (bytes_eq name other) refl
  where
    by : (b : Bool) → bytes_eq name other ≡ b → bytes_eq name other ≡ false
    by true is = absurd (apart ((bytes_eq-Decides name other).0 is))
    by false is = is

held_push : (G : List Row) (row : Row) (name : List ℕ) → (name ≡ row.name → ⊥) → is_held (G ++ row ∷ []) name ≡ is_held G name
held_push G row name apart =
    sym (among_is (G ++ row ∷ []) name)
    ∙ (ap (list_any (bytes_eq name)) (map-append (λ (r : Row). r.name) G (row ∷ []))
    ∙ (list_any-append (bytes_eq name) (row_names G) (row.name ∷ [])
    ∙ (or_none (list_any (bytes_eq name) (row_names G)) (bytes_eq name row.name) (differs name row.name apart) ∙ among_is G name)))

-- the other rows have other names than the first one, and so on
abbrev AreApart : List Row → Type 0
AreApart [] = Unit {0}
AreApart (row ∷ rows) = AllByRecursion (λ (r : Row). r.name ≡ row.name → ⊥) rows × AreApart rows

module _ {K : Type 0} (accepts : K → Accepts) where
  held_after : (v : NodeView K) (row : Row) (answer : PutAnswer) (name : List ℕ) → (name ≡ row.name → ⊥) → is_held (node_rows (with_changes v (taken_by answer row))) name ≡ is_held (node_rows v) name
  held_after v row (Accepted p) name apart =
      ap (λ (s : State). is_held s.rows name) (replay-push v.start.members v.start.coin v.history (Took row)) ∙ held_push (node_rows v) row name apart
  held_after v row (Known p) name apart = ap (λ (h : List Change). is_held (node_rows (node_at v h)) name) (append-nil v.history)
  held_after v row (Refused f) name apart = ap (λ (h : List Change). is_held (node_rows (node_at v h)) name) (append-nil v.history)

  changes_are : (v : NodeView K) (row : Row) → Spells (spelling row) row → put_changes accepts v (spelling row) ≡ taken_by (row_verdict (terms_of accepts v.start) v.start.members v.start.own (node_rows v) row) row
  unfolding put_changes
  changes_are v row spells = ap (taken_from accepts v) (Spells-read_event (spelling row) row spells)

  held_next : (t : Taking K) (row : Row) → Spells (spelling row) row → (name : List ℕ) → (name ≡ row.name → ⊥) → is_held (node_rows (take_event accepts t (spelling row)).node) name ≡ is_held (node_rows t.node) name
  held_next t row spells name apart =
      ap (λ (es : List Change). is_held (node_rows (with_changes t.node es)) name) (changes_are t.node row spells)
      ∙ held_after t.node row (row_verdict (terms_of accepts t.node.start) t.node.start.members t.node.start.own (node_rows t.node) row) name apart

  -- the node has the same of these names as the rows G
  abbrev Alike : Taking K → List Row → Row → Type 0
  Alike t G row = is_held (node_rows t.node) row.name ≡ is_held G row.name

  alike_next : (t : Taking K) (G : List Row) (row : Row) → Spells (spelling row) row → (rows : List Row) → AllByRecursion (λ (r : Row). r.name ≡ row.name → ⊥) rows → AllByRecursion (Alike t G) rows →
      AllByRecursion (Alike (take_event accepts t (spelling row)) G) rows
  alike_next t G row spells [] apart alike = tt
  alike_next t G row spells (r ∷ rows) apart alike = (held_next t row spells r.name apart.0 ∙ alike.0, alike_next t G row spells rows apart.1 alike.1)

  each_alike : (t : Taking K) (rows : List Row) → AllByRecursion (Alike t (node_rows t.node)) rows
  each_alike t [] = tt
  each_alike t (row ∷ rows) = (refl, each_alike t rows)

  folds : (rows : List Row) (t : Taking K) (G : List Row) → AreApart rows → AreSpelled rows → AllByRecursion (Alike t G) rows →
      fold (take_row accepts) t rows ≡ fold (take_event accepts) t (map spelling (lacking G rows))
  folds [] t G apart spelled alike = refl
  folds (row ∷ rows) t G apart spelled alike =
      by (is_held G row.name) refl (folds rows t G apart.1 spelled.1 alike.1)
      (folds rows (take_event accepts t (spelling row)) G apart.1 spelled.1 (alike_next t G row spelled.0 rows apart.0 alike.1))
    where
      first : (b : Bool) → is_held G row.name ≡ b → fold (take_row accepts) (take_row accepts t row) rows ≡ fold (take_row accepts) (cond b t (take_event accepts t (spelling row))) rows
      first b is = ap (λ (c : Bool). fold (take_row accepts) (cond c t (take_event accepts t (spelling row))) rows) (alike.0 ∙ is)

      last : (b : Bool) → is_held G row.name ≡ b → fold (take_event accepts) t (map spelling (cond (not b) (row ∷ lacking G rows) (lacking G rows))) ≡ fold (take_event accepts) t (map spelling (lacking G (row ∷ rows)))
      last b is = sym (ap (λ (c : Bool). fold (take_event accepts) t (map spelling (cond (not c) (row ∷ lacking G rows) (lacking G rows)))) is)

      by : (b : Bool) → is_held G row.name ≡ b → fold (take_row accepts) t rows ≡ fold (take_event accepts) t (map spelling (lacking G rows)) →
          fold (take_row accepts) (take_event accepts t (spelling row)) rows ≡ fold (take_event accepts) (take_event accepts t (spelling row)) (map spelling (lacking G rows)) →
          fold (take_row accepts) t (row ∷ rows) ≡ fold (take_event accepts) t (map spelling (lacking G (row ∷ rows)))
      by true is kept taken = first true is ∙ (kept ∙ last true is)
      by false is kept taken = first false is ∙ (taken ∙ last false is)

-- rows of different names
names_differ : (row : Row) (rows : List Row) → ((x : ℕ) → x < length rows → name_at rows x ≡ row.name → ⊥) → AllByRecursion (λ (r : Row). r.name ≡ row.name → ⊥) rows
unfolding name_at
names_differ row [] apart = tt
names_differ row (r ∷ rows) apart = (λ same. apart 0 (omega arith) same, names_differ row rows (λ x low same. apart (suc x) (omega (arith, low)) same))

apart_of : (rows : List Row) → HasDistinctNames rows → AreApart rows
unfolding name_at
apart_of [] distinct = tt
apart_of (row ∷ rows) distinct = (
  names_differ row rows (λ x low same. (let is = distinct.one (suc x) 0 (omega (arith, low)) (omega arith) same in absurd (omega (arith, is)))),
  apart_of rows record { one = λ x y lx ly same. (let is = distinct.one (suc x) (suc y) (omega (arith, lx)) (omega (arith, ly)) same in omega (arith, is)) },
)

pub turns_take_each : (K : Type 0) → TurnsTakeEach K
unfolding taking_rows
turns_take_each K accepts v rows distinct spelled =
    folds accepts rows (taking_of v none_taken) (node_rows v) (apart_of rows distinct) spelled (each_alike accepts (taking_of v none_taken) rows)
