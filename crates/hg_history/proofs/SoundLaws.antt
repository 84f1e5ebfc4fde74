-- What holds after each history: the rows are a graph of events, their links are those made as they came, and marks are fame
use Rattle.std.proofs.Common.{◌≡◌, ℕ, zero, suc, ◌<◌, ◌≤◌, ◌*◌, true, List, [], ◌∷◌, ◌++◌, length, fold, Some, slice_get, Option, sym, refl, ap, ◌∙◌, subst, arith}
use Rattle.std.specs.List.{AllByRecursion}
use Rattle.std.proofs.lemmas.Bool.{true≢false}
use Rattle.std.proofs.lemmas.List.{length_push}
use Rattle.std.proofs.lemmas.Option.{slice_get-get_or}
use Rattle.sha2.proofs.Facts512.{length-sha384}
use Rattle.hg_model.specs.declared.row.Row.{Row}
use Rattle.hg_model.specs.Links.{Link, links, link_in}
use Rattle.hg_model.specs.Places.{some_below}
use Rattle.hg_model.specs.Stakes.{Stakes, member_count, stake_of, total}
use Rattle.hg_model.specs.Forks.{has_fork, forking}
use Rattle.hg_model.specs.Graph.{name_in, name_at, IsGraph}
use Rattle.hg_model.specs.Fame.{is_closed}
use Rattle.hg_life.specs.History.{Change, State, empty, links_with, with_row, with_marks, step, replay, IsStep, AreSteps, IsHistory, IsTaken, IsMade}
use Rattle.hg_life.specs.History.Change.{Took, Made, Marked}
use Rattle.hg_life.specs.Terms.{Terms, row_limit}
use Rattle.hg_model.specs.Orders.{AreFame}
use Rattle.hg_model.specs.Chains.{IsChain}
use Rattle.hg_model.proofs.PlacesLaws.{weight_below_none}
use Rattle.hg_model.proofs.PushLaws.{nobody, links-push, all_present, shaped-push, shaped-none}
use Rattle.hg_model.proofs.NameLaws.{distinct-none, distinct-push}
use Rattle.hg_prefix.proofs.FewLaws.{few_push}
use Rattle.hg_history.specs.Laws.{IsEvent, IsNodeGraph}
use Rattle.hg_history.proofs.StateLaws.{IsEven, even_row, even_step, marks_step, replay-append}
use Rattle.hg_history.proofs.RuleLaws.{Comes, taken_is, made_is}
use Rattle.hg_history.proofs.OwnLaws.{chain_other, chain_own, chain_forking}
use Rattle.hg_history.proofs.MarkLaws.{fame_with_row, closed_with_row, fame_with_marks, closed_with_marks}

pub record IsSound (terms : Terms) (n : Stakes) (c own : ℕ) (s : State) : Type 0 where
  pub graph : IsGraph n s.rows
  pub linked : s.links ≡ links s.rows
  pub even : IsEven s
  pub fame : AreFame n c s.rows s.marks
  pub chain : IsChain own s.rows
  pub events : AllByRecursion (IsEvent terms.accepts) s.rows
  pub few : length s.rows ≤ terms.limit

all_push : {A : Type 0} (P : A → Type 0) (xs : List A) (x : A) → AllByRecursion P xs → P x → AllByRecursion P (xs ++ x ∷ [])
all_push P [] x all here = (here, tt)
all_push P (y ∷ ys) x all here = (all.0, all_push P ys x all.1 here)

module _ (terms : Terms) (n : Stakes) (c own : ℕ) (member : own < member_count n) (three : 2 < c) where
  pushed_links : (s : State) (row : Row) → IsSound terms n c own s → Comes terms n s.rows row → links_with s row ≡ links (s.rows ++ row ∷ [])
  pushed_links s row sound comes =
      ap (λ (L : List Link). L ++ link_in s.rows row ∷ []) sound.linked
      ∙ sym (links-push s.rows row (all_present n s.rows sound.graph.shaped) comes.fits.present)

  graph_push : (s : State) (row : Row) → IsSound terms n c own s → Comes terms n s.rows row → 3 * forking n (links (s.rows ++ row ∷ [])) < total n → IsGraph n (s.rows ++ row ∷ [])
  graph_push s row sound comes few = record {
    distinct = distinct-push s.rows row sound.graph.distinct comes.new_name;
    few_others = few_push s.rows row sound.graph.few_others comes.fits.few;
    shaped = shaped-push n s.rows row sound.graph.shaped comes.fits;
    few_forkers = few;
  }

  sound_row : (s : State) (row : Row) → IsSound terms n c own s → Comes terms n s.rows row → IsGraph n (s.rows ++ row ∷ []) →
      IsChain own (s.rows ++ row ∷ []) → IsEvent terms.accepts row → IsSound terms n c own (with_row n s row)
  sound_row s row sound comes graph chain event =
      let pushed = pushed_links s row sound comes in
      record {
        graph = graph;
        linked = pushed;
        even = even_row n c s row sound.even;
        fame = fame_with_row n c s row sound.graph graph sound.even three sound.linked pushed sound.fame;
        chain = chain;
        events = all_push (IsEvent terms.accepts) s.rows row sound.events event;
        few = (let room = comes.room in omega (arith, length_push s.rows row));
      }

  -- the graph, once a row was taken, and once one was made

  graph_taken : (s : State) (row : Row) → IsSound terms n c own s → IsTaken terms n own s.rows row → IsGraph n (s.rows ++ row ∷ [])
  graph_taken s row sound taken =
      let is = taken_is terms n own s.rows row taken in
      graph_push s row sound is.comes is.few_forkers

  chain_made : (s : State) (row : Row) → IsSound terms n c own s → IsMade terms own s.rows row → IsChain own (s.rows ++ row ∷ [])
  chain_made s row sound made =
      let is = made_is terms n own s.rows row member sound.graph.distinct made in
      chain_own own s.rows row sound.chain (distinct-push s.rows row sound.graph.distinct is.comes.new_name) is.after_last

  graph_made : (s : State) (row : Row) → IsSound terms n c own s → IsMade terms own s.rows row → IsGraph n (s.rows ++ row ∷ [])
  graph_made s row sound made =
      let is = made_is terms n own s.rows row member sound.graph.distinct made in
      let distinct = distinct-push s.rows row sound.graph.distinct is.comes.new_name in
      let shaped = shaped-push n s.rows row sound.graph.shaped is.comes.fits in
      let chain = subst (λ (m : ℕ). IsChain m (s.rows ++ row ∷ [])) (sym is.by_own) (chain_made s row sound made) in
      let le = chain_forking n s.rows row sound.graph.shaped distinct shaped chain in
      graph_push s row sound is.comes (omega (arith, le, sound.graph.few_forkers))

  pub sound_taken : (s : State) (row : Row) → IsSound terms n c own s → IsTaken terms n own s.rows row → IsSound terms n c own (with_row n s row)
  sound_taken s row sound taken =
      let is = taken_is terms n own s.rows row taken in
      sound_row s row sound is.comes (graph_taken s row sound taken)
      (chain_other own s.rows row sound.chain (distinct-push s.rows row sound.graph.distinct is.comes.new_name) is.by_other)
      (record { spelled = taken.spelled; signed = is.comes.signed })

  pub sound_made : (s : State) (row : Row) → IsSound terms n c own s → IsMade terms own s.rows row → IsSound terms n c own (with_row n s row)
  sound_made s row sound made =
      let is = made_is terms n own s.rows row member sound.graph.distinct made in
      sound_row s row sound is.comes (graph_made s row sound made) (chain_made s row sound made) (record { spelled = made.spelled; signed = is.comes.signed })

  pub sound_step : (s : State) (e : Change) → IsSound terms n c own s → IsStep terms n c own s e → IsSound terms n c own (step n c s e)
  sound_step s (Took row) sound may = sound_taken s row sound may
  sound_step s (Made row) sound may = sound_made s row sound may
  sound_step s (Marked len share) sound may = record {
    graph = sound.graph;
    linked = sound.linked;
    even = even_step n c s (Marked len share) sound.even;
    fame = fame_with_marks n c s sound.graph sound.linked len share may.within sound.fame;
    chain = sound.chain;
    events = sound.events;
    few = sound.few;
  }

  pub sound_from : (s : State) (h : List Change) → IsSound terms n c own s → AreSteps terms n c own s h → IsSound terms n c own (fold (step n c) s h)
  sound_from s [] sound steps = sound
  sound_from s (e ∷ h) sound steps = sound_from (step n c s e) h (sound_step s e sound steps.0) steps.1

module _ (terms : Terms) (n : Stakes) (c own : ℕ) (member : own < member_count n) (stake : 0 < total n) (three : 2 < c) where
  no_forkers : forking n (links []) ≡ 0
  unfolding forking has_fork some_below links
  no_forkers = weight_below_none (stake_of n) (member_count n) (has_fork (links [])) (λ m inside forks. absurd (true≢false (sym forks)))

  sound_empty : IsSound terms n c own empty
  unfolding links
  sound_empty = record {
    graph = record { distinct = distinct-none; few_others = refl; shaped = shaped-none n; few_forkers = omega (arith, no_forkers) };
    linked = refl;
    even = record { links = refl; marks = refl };
    fame = record { fame = λ x v is. cc };
    chain = record { distinct = distinct-none; joined = λ x y low inside by_x by_y. absurd (omega arith) };
    events = tt;
    few = omega arith;
  }

  pub sound_after : (h : List Change) → AreSteps terms n c own empty h → IsSound terms n c own (replay n c h)
  unfolding replay
  sound_after h steps = sound_from terms n c own member three empty h sound_empty steps

pub sound : (terms : Terms) (n : Stakes) (c own : ℕ) (h : List Change) → 2 < c → IsHistory terms n c own h → IsSound terms n c own (replay n c h)
sound terms n c own h three is = sound_after terms n c own is.member is.stake three h is.steps

-- moments

steps_front : (terms : Terms) (n : Stakes) (c own : ℕ) (s : State) (a b : List Change) → AreSteps terms n c own s (a ++ b) → AreSteps terms n c own s a
steps_front terms n c own s [] b steps = tt
steps_front terms n c own s (e ∷ a) b steps = (steps.0, steps_front terms n c own (step n c s e) a b steps.1)

steps_rest : (terms : Terms) (n : Stakes) (c own : ℕ) (s : State) (a b : List Change) → AreSteps terms n c own s (a ++ b) → AreSteps terms n c own (fold (step n c) s a) b
steps_rest terms n c own s [] b steps = steps
steps_rest terms n c own s (e ∷ a) b steps = steps_rest terms n c own (step n c s e) a b steps.1

steps_push : (terms : Terms) (n : Stakes) (c own : ℕ) (s : State) (h : List Change) (e : Change) → AreSteps terms n c own s h → IsStep terms n c own (fold (step n c) s h) e → AreSteps terms n c own s (h ++ e ∷ [])
steps_push terms n c own s [] e steps may = (may, tt)
steps_push terms n c own s (d ∷ h) e steps may = (steps.0, steps_push terms n c own (step n c s d) h e steps.1 may)

pub moment : (terms : Terms) (n : Stakes) (c own : ℕ) (a b : List Change) → IsHistory terms n c own (a ++ b) → IsHistory terms n c own a
moment terms n c own a b is = record { member = is.member; stake = is.stake; steps = steps_front terms n c own empty a b is.steps }

pub rest : (terms : Terms) (n : Stakes) (c own : ℕ) (a b : List Change) → IsHistory terms n c own (a ++ b) → AreSteps terms n c own (replay n c a) b
unfolding replay
rest terms n c own a b is = steps_rest terms n c own empty a b is.steps

-- a change that may come
pub history_push : (terms : Terms) (n : Stakes) (c own : ℕ) (h : List Change) (e : Change) → IsHistory terms n c own h → IsStep terms n c own (replay n c h) e → IsHistory terms n c own (h ++ e ∷ [])
unfolding replay
history_push terms n c own h e is may = record { member = is.member; stake = is.stake; steps = steps_push terms n c own empty h e is.steps may }

-- closed rounds stay

abbrev pub IsClosed : Stakes → State → ℕ → Type 0
IsClosed n s r = is_closed n s.links s.marks r ≡ true

module _ (terms : Terms) (n : Stakes) (c own : ℕ) (member : own < member_count n) (three : 2 < c) where
  closed_row : (s : State) (row : Row) (r : ℕ) → IsSound terms n c own s → IsSound terms n c own (with_row n s row) → IsClosed n s r → IsClosed n (with_row n s row) r
  closed_row s row r now later closed =
      subst (λ (L : List Link). is_closed n L (with_row n s row).marks r ≡ true) (sym later.linked)
      (closed_with_row n c s row now.graph later.graph now.even three now.linked later.linked now.fame r
      (subst (λ (L : List Link). is_closed n L s.marks r ≡ true) now.linked closed))

  closed_step : (s : State) (e : Change) (r : ℕ) → IsSound terms n c own s → IsStep terms n c own s e → IsClosed n s r → IsClosed n (step n c s e) r
  closed_step s (Took row) r now may closed = closed_row s row r now (sound_taken terms n c own member three s row now may) closed
  closed_step s (Made row) r now may closed = closed_row s row r now (sound_made terms n c own member three s row now may) closed
  closed_step s (Marked len share) r now may closed =
      closed_with_marks n s.links s.marks (with_marks n c s len share).marks (marks_step n c s (Marked len share) now.even) r closed

  closed_from : (s : State) (h : List Change) (r : ℕ) → IsSound terms n c own s → AreSteps terms n c own s h → IsClosed n s r → IsClosed n (fold (step n c) s h) r
  closed_from s [] r now steps closed = closed
  closed_from s (e ∷ h) r now steps closed =
      closed_from (step n c s e) h r (sound_step terms n c own member three s e now steps.0) steps.1 (closed_step s e r now steps.0 closed)

pub closed_later : (terms : Terms) (n : Stakes) (c own : ℕ) (a b : List Change) → 2 < c → IsHistory terms n c own (a ++ b) → (r : ℕ) → IsClosed n (replay n c a) r → IsClosed n (replay n c (a ++ b)) r
closed_later terms n c own a b three is r closed =
    subst (λ (s : State). IsClosed n s r) (sym (replay-append n c a b))
    (closed_from terms n c own is.member three (replay n c a) b r (sound terms n c own a three (moment terms n c own a b is)) (rest terms n c own a b is) closed)

-- the rows as a graph of events

event_at : (terms : Terms) (G : List Row) → AllByRecursion (IsEvent terms.accepts) G → (x : ℕ) (row : Row) → slice_get G x ≡ Some row → IsEvent terms.accepts row
event_at terms [] all x row at = cc
event_at terms (first ∷ G) all zero row at = (let same : first ≡ row = cc in subst (IsEvent terms.accepts) same all.0)
event_at terms (first ∷ G) all (suc x) row at = event_at terms G all.1 x row at

pub node_graph : (terms : Terms) (n : Stakes) (c own : ℕ) (h : List Change) → 2 < c → IsHistory terms n c own h → IsNodeGraph terms n own (replay n c h).rows
unfolding name_at
node_graph terms n c own h three is =
    let G : List Row = (replay n c h).rows in
    let s = sound terms n c own h three is in
    record {
      graph = s.graph;
      events = event_at terms G s.events;
      sizes = record {
        sized = λ x inside.
            let at = slice_get-get_or G x nobody inside in
            let event = event_at terms G s.events x (Rattle.std.specs.Prelude.get_or G x nobody) at in
            ap (λ (o : Option Row). length (name_in o)) at ∙ (ap length event.spelled.named ∙ length-sha384 _);
      };
      few = s.few;
      own_chain = s.chain;
    }
