-- What a chronicle keeps once a row has come, and once fame is published
use Rattle.std.proofs.Common.{◌≡◌, ℕ, ◌+◌, ◌*◌, ◌<◌, ◌≤◌, cond, eqb, List, [], ◌∷◌, ◌++◌, length, Option, Some, None, is_some, sym, refl, ap, ◌∙◌, subst, arith}
use Rattle.std.proofs.lemmas.List.{length_push}
use Rattle.hg_model.specs.declared.row.Row.{Row}
use Rattle.hg_life.specs.declared.entry.Entry.{Entry}
use Rattle.hg_model.specs.Stakes.{Stakes}
use Rattle.hg_model.specs.Graph.{IsGraph}
use Rattle.hg_model.specs.Fame.{Marks, mark_at}
use Rattle.hg_model.specs.Prefix.{Graph, graph_of}
use Rattle.hg_model.specs.Shares.{Share}
use Rattle.hg_life.specs.History.{news, with_row, with_marks, first_mark}
use Rattle.hg_life.specs.StateWords.{state_by}
use Rattle.hg_model.proofs.LinkLaws.{length-links}
use Rattle.hg_model.proofs.PlacesLaws.{count_below-le}
use Rattle.hg_graph.specs.Held.{graph_with}
use Rattle.hg_kept.specs.Published.{Published, Keeps}
use Rattle.hg_node.specs.ChronicleView.{KeepsRecord, marked}
use Rattle.hg_node.proofs.LastLaws.{last_own_place-push}
use Rattle.hg_node.proofs.NewsLaws.{marked_push, marked_news}

few_marked : (g : Graph) (v : Published) → Keeps g v → marked v.marks ≤ length g.rows
unfolding marked
few_marked g v keeps = omega (arith, count_below-le (length v.marks) (λ x. is_some (mark_at v.marks x)), keeps.even)

-- at the beginning
pub record_none : (own : ℕ) (n : Stakes) (coin : ℕ) (v : Published) (capacity : ℕ) → Keeps (graph_of n coin []) v → KeepsRecord own (graph_of n coin []) [] v None capacity
record_none own n coin v capacity keeps = record { keeps = keeps; last = refl; few_entries = omega arith; memory = omega arith }

module _ (own : ℕ) (g : Graph) (log : List Entry) (v : Published) (last_own : Option ℕ) (capacity : ℕ) (keeps : KeepsRecord own g log v last_own capacity) where
  pub few_in_log : length log ≤ 2 * length g.rows
  few_in_log = omega (arith, keeps.few_entries, few_marked g v keeps.keeps)

  -- with a row and an entry more
  pub record_with : (row : Row) (matches : Entry) (w : Published) (later : Option ℕ) (room : ℕ) → IsGraph g.members (g.rows ++ row ∷ []) →
      w.marks ≡ (with_row g.members (state_by g v.marks) row).marks → Keeps (graph_with g row) w →
      later ≡ cond (eqb row.creator own) (Some (length g.rows)) last_own → 2 * (length g.rows + 1) ≤ room → KeepsRecord own (graph_with g row) (log ++ matches ∷ []) w later room
  record_with row matches w later room graph marks keeps' is memory = record {
    keeps = keeps';
    last = is ∙ (ap (cond (eqb row.creator own) (Some (length g.rows))) keeps.last ∙ sym (last_own_place-push own g.rows row keeps.keeps.graph.distinct graph.distinct));
    few_entries =
        let more : marked v.marks ≤ marked w.marks =
        subst (λ (h : Marks). marked v.marks ≤ marked h) (sym marks) (marked_push v.marks (first_mark g.members (state_by g v.marks) row)) in
        omega (arith, more, keeps.few_entries, length_push log matches, length_push g.rows row);
    memory = omega (arith, memory, length_push g.rows row);
  }

  -- a publish leaves room in the log for its entry
  module _ (len : ℕ) (share : Share) (within : len ≤ length g.rows) (w : Published) (marks : w.marks ≡ (with_marks g.members g.coin (state_by g v.marks) len share).marks)
      (keeps' : Keeps g w) where
    more_marked : marked v.marks + news g.members g.coin (state_by g v.marks) len share ≤ marked w.marks
    more_marked =
        subst (λ (h : Marks). marked v.marks + news g.members g.coin (state_by g v.marks) len share ≤ marked h) (sym marks)
        (marked_news g.members g.coin (state_by g v.marks) (record { links = length-links g.rows; marks = keeps.keeps.even }) len share within)

    pub log_has_room : 0 < news g.members g.coin (state_by g v.marks) len share → length log < capacity
    log_has_room some = omega (arith, some, more_marked, keeps.few_entries, keeps.memory, few_marked g w keeps')

    -- without news, and with some
    pub record_same : KeepsRecord own g log w last_own capacity
    record_same = record { keeps = keeps'; last = keeps.last; few_entries = omega (arith, more_marked, keeps.few_entries); memory = keeps.memory }

    pub record_marked : (matches : Entry) (room : ℕ) → 0 < news g.members g.coin (state_by g v.marks) len share → capacity ≤ room → KeepsRecord own g (log ++ matches ∷ []) w last_own room
    record_marked matches room some le = record {
      keeps = keeps';
      last = keeps.last;
      few_entries = omega (arith, some, more_marked, keeps.few_entries, length_push log matches);
      memory = omega (arith, keeps.memory, le);
    }
