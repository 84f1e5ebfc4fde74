-- The nodes of a run at its moments
use Rattle.std.proofs.Common.{◌≡◌, inl, ℕ, ◌<◌, List, length, map, get_or, Some, slice_get, sym, ap, ◌∙◌, subst}
use Rattle.std.proofs.lemmas.Option.{slice_get-get_or, slice_get_within}
use Rattle.hg_model.specs.declared.row.Row.{Row}
use Rattle.hg_model.specs.Stakes.{Stakes, member_count}
use Rattle.hg_model.specs.Links.{Link}
use Rattle.hg_model.specs.Graph.{name_in, name_at, creator_of_row, creator_at}
use Rattle.hg_model.specs.Order.{named_in, ordered}
use Rattle.hg_model.specs.Orders.{AreFame, marked_order_by_names}
use Rattle.hg_life.specs.Terms.{Terms}
use Rattle.hg_life.specs.History.{Change, replay, IsHistory}
use Rattle.hg_model.proofs.LongerLaws.{slice_get-append}
use Rattle.hg_model.proofs.PushLaws.{nobody}
use Rattle.hg_prefix.specs.Standing.{IsRowOf}
use Rattle.hg_prefix.specs.Chains.{HaveEqualRows, HasOneChain}
use Rattle.hg_history.specs.Laws.{IsNodeGraph}
use Rattle.hg_history.proofs.ChangeLaws.{changes_left}
use Rattle.hg_history.proofs.SoundLaws.{moment, node_graph, sound}
use Rattle.hg_history.proofs.StateLaws.{rows_grow}
use Rattle.hg_runs.specs.Run.{Run, IsRun, IsMoment, graph_at}
use Rattle.hg_runs.specs.Honest.{HasMade, IsHonest, AreApart}
use Rattle.hg_runs.specs.Safety.{order_after}

abbrev pub rows_after : Stakes → ℕ → List Change → List Row
rows_after n c h = (replay n c h).rows

-- a row at its place
pub row_at : (G : List Row) (x : ℕ) → x < length G → slice_get G x ≡ Some (get_or G x nobody)
row_at G x inside = slice_get-get_or G x nobody inside

module _ (n : Stakes) (c : ℕ) (run : Run) (k : ℕ) (h : List Change) (at : IsMoment n run k h) where
  -- a row stays in its place to the end of the run
  pub stays : (x : ℕ) → x < length (rows_after n c h) → slice_get (graph_at n c run k) x ≡ slice_get (rows_after n c h) x
  stays x inside =
      let more = rows_grow n c h at.later in
      ap (λ (whole : List Change). slice_get (rows_after n c whole) x) at.whole
      ∙ (ap (λ (G : List Row). slice_get G x) more.1 ∙ slice_get-append (rows_after n c h) more.0 nobody x inside)

  pub stays_at : (x : ℕ) → x < length (rows_after n c h) → slice_get (graph_at n c run k) x ≡ Some (get_or (rows_after n c h) x nobody)
  stays_at x inside = stays x inside ∙ row_at (rows_after n c h) x inside

  pub stays_within : (x : ℕ) → x < length (rows_after n c h) → x < length (graph_at n c run k)
  stays_within x inside = slice_get_within (graph_at n c run k) x (get_or (rows_after n c h) x nobody) (stays_at x inside)

-- rows by m that m's own node made are rows of that node
pub made_rows : (n : Stakes) (c : ℕ) (run : Run) (m : ℕ) (G : List Row) → ((x : ℕ) (row : Row) → slice_get G x ≡ Some row → row.creator ≡ m → HasMade (run m) row) →
    (x : ℕ) → x < length G → creator_at G x ≡ m → IsRowOf G x (graph_at n c run m)
made_rows n c run m G makes x inside by =
    let row : Row = get_or G x nobody in
    let own = changes_left n c (run m) row (inl (makes x row (row_at G x inside) (sym (ap creator_of_row (row_at G x inside)) ∙ by))) in
    (own.0, slice_get_within (graph_at n c run m) own.0 row own.1, own.1 ∙ sym (row_at G x inside))

-- rows of equal names are equal at any two moments
pub equal_rows : (n : Stakes) (c : ℕ) (run : Run) (j k : ℕ) (a b : List Change) → AreApart n c run → IsMoment n run j a → IsMoment n run k b → HaveEqualRows (rows_after n c a) (rows_after n c b)
unfolding name_at
equal_rows n c run j k a b apart at_a at_b = record {
  equal = λ x y inside_x inside_y same.
      let first = stays n c run j a at_a x inside_x in
      let second = stays n c run k b at_b y inside_y in
      sym first
      ∙ ((apart.equal j k at_a.member at_b.member).equal x y (stays_within n c run j a at_a x inside_x) (stays_within n c run k b at_b y inside_y)
      (ap name_in first ∙ (same ∙ sym (ap name_in second)))
      ∙ second);
}

module _ (terms : ℕ → Terms) (n : Stakes) (c : ℕ) (run : Run) (is : IsRun terms n c run) where
  -- each node of the run at its end
  pub whole_graph : (k : ℕ) → k < member_count n → IsNodeGraph (terms k) n k (graph_at n c run k)
  whole_graph k member = node_graph (terms k) n c k (run k) is.coin (is.histories k member)

  -- each moment is one of a history
  pub of_history : (k : ℕ) (h : List Change) → IsMoment n run k h → IsHistory (terms k) n c k h
  of_history k h at = moment (terms k) n c k h at.later (subst (IsHistory (terms k) n c k) at.whole (is.histories k at.member))

  pub moment_graph : (k : ℕ) (h : List Change) → IsMoment n run k h → IsNodeGraph (terms k) n k (rows_after n c h)
  moment_graph k h at = node_graph (terms k) n c k h is.coin (of_history k h at)

  pub moment_fame : (k : ℕ) (h : List Change) → IsMoment n run k h → AreFame n c (rows_after n c h) (replay n c h).marks
  moment_fame k h at = (sound (terms k) n c k h is.coin (of_history k h at)).fame

  -- the kept order is that of the rows and the marks
  pub order_is : (k : ℕ) (h : List Change) → IsMoment n run k h → order_after n c h ≡ marked_order_by_names n (rows_after n c h) (replay n c h).marks
  order_is k h at =
      let s = replay n c h in
      ap (λ (L : List Link). map (named_in s.rows) (ordered n s.rows L s.marks)) (sound (terms k) n c k h is.coin (of_history k h at)).linked

  module _ (m : ℕ) (member : m < member_count n) (honest : IsHonest n c run m) where
    -- a row by an honest member is a row of its own node
    pub own_row : (k : ℕ) (h : List Change) → IsMoment n run k h → (x : ℕ) → x < length (rows_after n c h) → creator_at (rows_after n c h) x ≡ m → IsRowOf (rows_after n c h) x (graph_at n c run m)
    own_row k h at = made_rows n c run m (rows_after n c h)
        (λ x row here. honest.made k x row at.member (stays n c run k h at x (slice_get_within (rows_after n c h) x row here) ∙ here))

    pub one_chain : (j k : ℕ) (a b : List Change) → IsMoment n run j a → IsMoment n run k b → HasOneChain m (rows_after n c a) (rows_after n c b)
    one_chain j k a b at_a at_b = record {
      line = graph_at n c run m;
      chain = (whole_graph m member).own_chain;
      has_first = own_row j a at_a;
      has_second = own_row k b at_b;
    }
