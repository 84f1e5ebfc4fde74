-- The first rows of a graph are a graph
use Rattle.std.proofs.Common.{◌≡◌, inl, inr, ℕ, ◌*◌, ◌<◌, ◌≤◌, Bool, true, List, [], ◌∷◌, ◌++◌, length, map, take, drop, get_or, min, slice_get, sym, refl, ap, ap₂, ◌∙◌, subst, arith}
use Rattle.std.proofs.lemmas.Bool.{cases_lt}
use Rattle.std.proofs.lemmas.List.{length-take-le, take-append-drop, take_all}
use Rattle.hg_model.specs.declared.row.Row.{Row}
use Rattle.hg_model.specs.Stakes.{Stakes, member_count, stake_of}
use Rattle.hg_model.specs.Links.{Link, links}
use Rattle.hg_model.specs.Forks.{has_fork, forking}
use Rattle.hg_model.specs.Graph.{name_in, name_at, IsGraph}
use Rattle.hg_model.proofs.ForkLaws.{has_fork_found, has_fork_from, is_fork_from}
use Rattle.hg_model.proofs.LinkLaws.{length-links}
use Rattle.hg_model.proofs.LongerLaws.{IsLonger, longer-take, slice_get-append, creator-longer, is_self_ancestor-longer}
use Rattle.hg_model.proofs.FrontLaws.{links_of_front}
use Rattle.hg_model.proofs.PlacesLaws.{weight_below-le}
use Rattle.hg_model.proofs.ShapeLaws.{shaped-shorter}
use Rattle.hg_model.proofs.PushLaws.{nobody}
use Rattle.hg_prefix.proofs.FewLaws.{few_front}
use Rattle.hg_history.specs.Laws.{FirstRowsAreAGraph}

fork_of_front : (m : ℕ) (L M : List Link) → IsLonger L M → has_fork L m ≡ true → has_fork M m ≡ true
fork_of_front m L M longer forks =
    let f = has_fork_found L m forks in
    let a : ℕ = f.0 in
    let b : ℕ = f.1 in
    let more = longer.more in
    let inside_a : a < length L = f.2 in
    let inside_b : b < length L = f.3 in
    has_fork_from M m a b (omega arith) (omega arith) (is_fork_from M m a b (record {
      first = creator-longer L M longer a inside_a ∙ f.4.first;
      second = creator-longer L M longer b inside_b ∙ f.4.second;
      not_above = is_self_ancestor-longer L M longer a b inside_a ∙ f.4.not_above;
      not_below = is_self_ancestor-longer L M longer b a inside_b ∙ f.4.not_below;
    }))

module _ (n : Stakes) (G more : List Row) (u : IsGraph n (G ++ more)) where
  first_links : links G ≡ take (length G) (links (G ++ more))
  first_links = links_of_front n G more u.shaped

  longer : IsLonger (links G) (links (G ++ more))
  longer =
      subst (λ (L : List Link). IsLonger L (links (G ++ more))) (sym first_links)
      (longer-take (links (G ++ more)) (length G) (omega (arith, length-links (G ++ more), Rattle.std.proofs.Common.length-append G more)))

  pub graph_front : IsGraph n G
  unfolding forking name_at
  graph_front = record {
    distinct = record {
      one = λ x y hx hy same.
          let e = Rattle.std.proofs.Common.length-append G more in
          u.distinct.one x y (omega arith) (omega arith) (ap name_in (slice_get-append G more nobody x hx) ∙ (same ∙ sym (ap name_in (slice_get-append G more nobody y hy))));
    };
    few_others = few_front G more u.few_others;
    shaped = shaped-shorter n (links G) (links (G ++ more)) longer u.shaped;
    few_forkers = omega (arith, u.few_forkers, weight_below-le (stake_of n) (member_count n) (has_fork (links G)) (has_fork (links (G ++ more))) (λ m inside forks. fork_of_front m (links G) (links (G ++ more)) longer forks));
  }

-- a length past the end gives all rows
whole_or_part : (n : Stakes) (len : ℕ) (G : List Row) → IsGraph n G → len ≤ length G → IsGraph n (take len G) × (links (take len G) ≡ take len (links G))
whole_or_part n len G g le =
    let parts = take-append-drop len G in
    let u = subst (IsGraph n) (sym parts) g in (
      graph_front n (take len G) (drop len G) u,
      first_links n (take len G) (drop len G) u
          ∙ ap₂ (λ (k : ℕ) (U : List Row). take k (links U)) (length-take-le len G le) parts,
    )

pub first_rows_are_a_graph : FirstRowsAreAGraph
first_rows_are_a_graph n len G g = elim (cases_lt (length G) len) [
  | inl more ↦ (
    subst (IsGraph n) (sym (take_all len G (omega arith))) g,
    ap links (take_all len G (omega arith)) ∙ sym (take_all len (links G) (omega (arith, length-links G))),
  )
  | inr le ↦ whole_or_part n len G g le
]
