-- Worlds over their parts, and what is left of them when a site changes
use Rattle.std.proofs.Common.{◌≡◌, ◌≢◌, ◌⊎◌, inl, inr, ℕ, ◌+◌, ◌<◌, ◌≤◌, List, length, get_or, slice_get, slice_set, Some, sym, ap, ◌∙◌, subst, arith}
use Rattle.std.proofs.lemmas.Bool.{cases_eq, cases_lt}
use Rattle.std.proofs.lemmas.List.{length-append, length-set, set-set, get_or-set_same, get_or-set_other, get_or_past}
use Rattle.std.proofs.lemmas.Option.{slice_get-get_or}
use Rattle.hg_model.specs.Stakes.{Stakes}
use Rattle.hg_life.specs.Signing.{accepts_by}
use Rattle.hg_life.specs.History.{Change, IsHistory}
use Rattle.hg_model.specs.Shares.{whole}
use Rattle.hg_life.specs.NodeView.{NodeView, IsNode, node_rows, with_changes, terms_of}
use Rattle.hg_history.proofs.StateLaws.{rows_grow}
use Rattle.hg_runs.specs.Safety.{IsSafe}
use Rattle.hg_runs.proofs.SafetyLaws.{runs_safe}
use Rattle.hg_world.specs.World.{Secrets, Site, WorldView, no_site, site_of, site_at, node_at, with_site, with_node_at, run_of}
use Rattle.hg_life.specs.Workers.{worker_limit}
use Rattle.hg_world.specs.declared.step.Step.TheVariants.{Publish}
use Rattle.hg_world.specs.Steps.{after_step, after_steps, node_published, settle_steps}
use Rattle.hg_world.specs.Parts.{KeepsSite, IsWorld}

-- of the orders that any two of the nodes keep at any two moments one is a prefix of the other, under the premises
pub safe : (w : WorldView) → IsWorld w → IsSafe w.members w.coin (run_of w)
safe w is = runs_safe (λ m. terms_of accepts_by (node_at w m).start) w.members w.coin (run_of w) (record {
  coin = is.coin;
  histories = λ m low. (
      let site : KeepsSite w is.keys m (site_at w m) = is.sites m (omega (arith, low, is.count)) in
      let v = node_at w m in
      subst (λ (k : ℕ). IsHistory (terms_of accepts_by v.start) w.members w.coin k v.history) site.is.own
      (subst (λ (c : ℕ). IsHistory (terms_of accepts_by v.start) w.members c v.start.own v.history) site.is.coin
      (subst (λ (n : Stakes). IsHistory (terms_of accepts_by v.start) n v.start.coin v.start.own v.history) site.is.members site.node.history)));
})

-- a world with another site

same_site : (w : WorldView) (keys : Secrets) (m k : ℕ) (other s : Site) → KeepsSite w keys k s → KeepsSite (with_site w m other) keys k s
same_site w keys m k other s keeps = record {
  is = record { own = keeps.is.own; members = keeps.is.members; coin = keeps.is.coin; workers = keeps.is.workers };
  keyed = keeps.keyed;
  node = keeps.node;
  frozen = keeps.frozen;
}

pub set_site : (w : WorldView) (m : ℕ) (s : Site) → (is : IsWorld w) → m < length w.sites → KeepsSite w is.keys m s → IsWorld (with_site w m s)
set_site w m s is low keeps = record {
  coin = is.coin;
  some = omega (arith, is.some, length-set w.sites m s);
  count = length-set w.sites m s ∙ is.count;
  keys = is.keys;
  sites = λ k inside. same_site w is.keys m k s (site_at (with_site w m s) k) (by k (cases_eq k m) (omega (arith, inside, length-set w.sites m s)));
}
  where
    by : (k : ℕ) → (k ≡ m) ⊎ (k ≢ m) → k < length w.sites → KeepsSite w is.keys k (site_at (with_site w m s) k)
    by k (inl here) inside = subst (λ (j : ℕ). KeepsSite w is.keys j (site_at (with_site w m s) j)) (sym here) (subst (KeepsSite w is.keys m) (sym (get_or-set_same w.sites m s no_site low)) keeps)
    by k (inr other) inside = subst (KeepsSite w is.keys k) (sym (get_or-set_other w.sites m k s no_site other)) (is.sites k inside)

-- the rows only get more
pub more_rows : (v : NodeView Secrets) (es : List Change) → length (node_rows v) ≤ length (node_rows (with_changes v es))
more_rows v es =
    let grown = rows_grow v.start.members v.start.coin v.history es in
    let long : length (node_rows (with_changes v es)) ≡ length (node_rows v) + length grown.0 = ap length grown.1 ∙ length-append (node_rows v) grown.0 in
    omega (arith, long)

pub changed_site : (w : WorldView) (keys : Secrets) (m : ℕ) (v : NodeView Secrets) (lens : List ℕ) (es : List Change) → KeepsSite w keys m (site_of v lens) → IsNode accepts_by (with_changes v es) → KeepsSite w keys m (site_of (with_changes v es) lens)
changed_site w keys m v lens es keeps node = record {
  is = record { own = keeps.is.own; members = keeps.is.members; coin = keeps.is.coin; workers = keeps.is.workers };
  keyed = keeps.keyed;
  node = node;
  frozen = λ worker. omega (arith, keeps.frozen worker, more_rows v es);
}

pub frozen_site : (w : WorldView) (keys : Secrets) (m : ℕ) (v : NodeView Secrets) (lens : List ℕ) (worker len : ℕ) → KeepsSite w keys m (site_of v lens) → len ≤ length (node_rows v) → KeepsSite w keys m (site_of v (slice_set lens worker len))
frozen_site w keys m v lens worker len keeps low = record {
  is = record { own = keeps.is.own; members = keeps.is.members; coin = keeps.is.coin; workers = length-set lens worker len ∙ keeps.is.workers };
  keyed = keeps.keyed;
  node = keeps.node;
  frozen = λ k. by k (cases_eq k worker);
}
  where
    past : (k : ℕ) → (k < length lens) ⊎ (length lens ≤ k) → k ≡ worker → get_or (slice_set lens worker len) k 0 ≤ length (node_rows v)
    past k (inl inside) here = subst (λ (n : ℕ). n ≤ length (node_rows v)) (sym (subst (λ (j : ℕ). get_or (slice_set lens worker len) j 0 ≡ len) (sym here) (get_or-set_same lens worker len 0 (omega (arith, inside, here))))) low
    past k (inr outside) here = subst (λ (n : ℕ). n ≤ length (node_rows v)) (sym (get_or_past (slice_set lens worker len) k 0 (omega (arith, outside, length-set lens worker len)))) (omega arith)

    by : (k : ℕ) → (k ≡ worker) ⊎ (k ≢ worker) → get_or (slice_set lens worker len) k 0 ≤ length (node_rows v)
    by k (inl here) = past k (cases_lt k (length lens)) here
    by k (inr other) = subst (λ (n : ℕ). n ≤ length (node_rows v)) (sym (get_or-set_other lens worker k len 0 other)) (keeps.frozen k)

-- a site that was read
module _ (w : WorldView) (m : ℕ) (low : m < length w.sites) (site : Site) (read : site ≡ get_or w.sites m site) where
  pub site_here : site ≡ site_at w m
  site_here =
      let a : slice_get w.sites m ≡ Some (get_or w.sites m site) = slice_get-get_or w.sites m site low in
      let b : slice_get w.sites m ≡ Some (site_at w m) = slice_get-get_or w.sites m no_site low in
      cc

  -- with another node
  pub set_node : (v : NodeView Secrets) → with_site w m (site_of v site.frozen) ≡ with_node_at w m v
  set_node v = ap (λ (s : Site). with_site w m (site_of v s.frozen)) site_here

  -- settled: worker 0 froze all rows, and published what they decide
  pub set_settled : length (site_at w m).frozen ≡ worker_limit →
      with_site w m (site_of (node_published site.node (length (node_rows site.node)) whole) (slice_set site.frozen 0 (length (node_rows site.node)))) ≡ after_steps w (settle_steps m)
  set_settled workers =
      let all : ℕ = length (node_rows site.node) in
      let first : Site = site_of site.node (slice_set site.frozen 0 all) in
      let end : Site → Site = λ (s : Site). site_of (node_published s.node (get_or s.frozen 0 0) whole) s.frozen in
      let froze : ℕ → WorldView = λ (k : ℕ). with_site w m (site_of site.node (slice_set site.frozen 0 k)) in
      let zeroth : get_or (slice_set site.frozen 0 all) 0 0 ≡ all = get_or-set_same site.frozen 0 all 0 (omega (arith, workers, ap (λ (s : Site). length s.frozen) site_here)) in
      let first_read : site_at (with_site w m first) m ≡ first = get_or-set_same w.sites m first no_site low in
      ap (λ (k : ℕ). with_site w m (site_of (node_published site.node k whole) (slice_set site.frozen 0 all))) (sym zeroth)
      ∙ (ap (λ (sites : List Site). let u : WorldView = record { members = w.members; coin = w.coin; sites = sites } in u) (sym (set-set w.sites m first (end first)))
      ∙ (ap (λ (s : Site). with_site (with_site w m first) m (end s)) (sym first_read)
      ∙ ap (λ (u : WorldView). after_step u (Publish m 0 whole)) (ap (λ (s : Site). with_site w m (site_of s.node (slice_set s.frozen 0 (length (node_rows s.node))))) site_here)))
