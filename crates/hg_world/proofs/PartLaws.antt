-- A world's parts, and what is left of them after a call
use Rattle.std.proofs.Common.{◌≡◌, ℕ, zero, suc, ◌<◌, List, [], ◌∷◌, length, get_or, slice_set, sym, refl, ap, ◌∙◌, subst, arith}
use Rattle.std.proofs.lemmas.List.{length-map, length-set}
use Rattle.hg_model.specs.declared.row.Row.{Row}
use Rattle.hg_model.specs.Held.{lacking}
use Rattle.hg_life.specs.History.{Change}
use Rattle.hg_model.specs.Orders.{IsPrefix}
use Rattle.hg_life.specs.Calls.{publish_changes}
use Rattle.hg_model.specs.Shares.{whole}
use Rattle.hg_life.specs.Signing.{accepts_by}
use Rattle.hg_life.specs.NodeView.{NodeView, IsNode, node_rows, with_changes}
use Rattle.hg_history.proofs.CallLaws.{with_none}
use Rattle.hg_history.proofs.StateLaws.{prefix_same}
use Rattle.hg_gossip.specs.Handing.{AreKnown, HeardView, Knows, LacksOf}
use Rattle.hg_gossip.specs.Known.{HasAll, HasRest, KeepsKnown, heard_by, nth_rows}
use Rattle.hg_gossip.proofs.HandLaws.{lacks_again}
use Rattle.hg_gossip.proofs.KnownLaws.{known_for_good}
use Rattle.hg_world.specs.World.{Secrets, Site, WorldView, no_site, node_at, nodes_of, rows_at, site_at, site_of, with_site}
use Rattle.hg_world.specs.Steps.{node_published}
use Rattle.hg_world.specs.Parts.{KeepsParts, KeepsSite, nodes_in, rows_of_each}
use Rattle.hg_world.proofs.LawfulLaws.{rows_set}
use Rattle.hg_world.proofs.WorldLaws.{changed_site, frozen_site, set_site, site_here}

-- the rows of the nodes
rows_count : (sites : List Site) → length (rows_of_each (nodes_in sites)) ≡ length sites
rows_count sites = length-map (nodes_in sites) (λ (v : NodeView Secrets). node_rows v) ∙ length-map sites (λ (s : Site). s.node)

rows_here : (sites : List Site) (m : ℕ) → m < length sites → nth_rows (rows_of_each (nodes_in sites)) m ≡ node_rows (get_or sites m no_site).node
rows_here [] m low = absurd (omega (arith, low))
rows_here (site ∷ sites) zero low = refl
rows_here (site ∷ sites) (suc m) low = rows_here sites m (omega (arith, low))

-- what was a member is one
pub low_in : (w v : WorldView) (m : ℕ) → w ≡ v → m < length v.sites → m < length w.sites
low_in w v m is low = omega (arith, low, ap (λ (u : WorldView). length u.sites) is)

-- what each node knows of each, of two sites that were read
pub knows_read : (w : WorldView) (known : List (List HeardView)) (x y : ℕ) (a b : Site) (heard : HeardView) → KeepsKnown (rows_of_each (nodes_of w)) known → (low_x : x < length w.sites) → (low_y : y < length w.sites) →
    a ≡ get_or w.sites x a → b ≡ get_or w.sites y b → heard ≡ heard_by known x y → Knows (node_rows a.node) (node_rows b.node) heard
knows_read w known x y a b heard keeps low_x low_y read_a read_b is =
    subst (λ (s : Site). Knows (node_rows s.node) (node_rows b.node) heard) (sym (site_here w x low_x a read_a))
    (subst (λ (s : Site). Knows (rows_at w x) (node_rows s.node) heard) (sym (site_here w y low_y b read_b))
    (subst (Knows (rows_at w x) (rows_at w y)) (sym is)
    (subst (λ (G : List Row). Knows G (rows_at w y) (heard_by known x y)) (rows_here w.sites x low_x)
    (subst (λ (H : List Row). Knows (nth_rows (rows_of_each (nodes_of w)) x) H (heard_by known x y)) (rows_here w.sites y low_y)
    (keeps.each x y (omega (arith, low_x, rows_count w.sites)) (omega (arith, low_y, rows_count w.sites)))))))

pub has_all : (w : WorldView) (x y len : ℕ) → x < length w.sites → y < length w.sites → AreKnown (rows_at w x) (rows_at w y) → len ≡ length (rows_at w y) → HasAll (rows_of_each (nodes_of w)) x y len
has_all w x y len low_x low_y all long = record {
  count = long ∙ ap (λ (H : List Row). length H) (sym (rows_here w.sites y low_y));
  all = subst (λ (G : List Row). AreKnown G (nth_rows (rows_of_each (nodes_of w)) y)) (sym (rows_here w.sites x low_x)) (subst (AreKnown (rows_at w x)) (sym (rows_here w.sites y low_y)) all);
}

-- those of these events that are lacking still are all that is lacking
pub has_rest : (w : WorldView) (x y len : ℕ) (rows refused : List Row) → x < length w.sites → y < length w.sites → LacksOf (rows_at w x) (rows_at w y) rows → refused ≡ lacking (rows_at w x) rows → len ≡ length (rows_at w y) →
    HasRest (rows_of_each (nodes_of w)) x y len refused
has_rest w x y len rows refused low_x low_y rest is long =
    let G = rows_at w x in
    let lacks : LacksOf G (rows_at w y) refused = rest ∙ (sym (lacks_again G G rows (prefix_same G G refl)) ∙ ap (lacking G) (sym is)) in
    record {
      count = long ∙ ap (λ (H : List Row). length H) (sym (rows_here w.sites y low_y));
      lacks = subst (λ (G : List Row). LacksOf G (nth_rows (rows_of_each (nodes_of w)) y) refused) (sym (rows_here w.sites x low_x))
          (subst (λ (H : List Row). LacksOf G H refused) (sym (rows_here w.sites y low_y)) lacks);
    }

-- as many sites, each of whose nodes has no fewer rows
known_more : (w now : WorldView) (known : List (List HeardView)) → length now.sites ≡ length w.sites → ((k : ℕ) → k < length w.sites → IsPrefix (rows_at w k) (rows_at now k)) →
    KeepsKnown (rows_of_each (nodes_of w)) known → KeepsKnown (rows_of_each (nodes_of now)) known
known_more w now known many more = known_for_good (rows_of_each (nodes_of w)) (rows_of_each (nodes_of now)) known (record {
  count = rows_count now.sites ∙ (many ∙ sym (rows_count w.sites));
  each = λ k low. (
      let inside : k < length w.sites = omega (arith, low, rows_count w.sites) in
      subst (λ (G : List Row). IsPrefix G (nth_rows (rows_of_each (nodes_of now)) k)) (sym (rows_here w.sites k inside))
      (subst (IsPrefix (rows_at w k)) (sym (rows_here now.sites k (omega (arith, inside, many)))) (more k inside)));
})

module _ (w : WorldView) (known : List (List HeardView)) (room : ℕ) (keeps : KeepsParts w known room) (m : ℕ) (low : m < length w.sites) where
  abbrev keys : Secrets
  keys = keeps.world.keys

  -- with changes of a node, and other lengths that its workers froze
  changed_parts : (es : List Change) (lens : List ℕ) → IsNode accepts_by (with_changes (node_at w m) es) → KeepsSite w keys m (site_of (node_at w m) lens) →
      KeepsParts (with_site w m (site_of (with_changes (node_at w m) es) lens)) known room
  changed_parts es lens node froze =
      let site = site_of (with_changes (node_at w m) es) lens in
      let many = length-set w.sites m site in
      record {
        few = omega (arith, keeps.few, many);
        world = set_site w m site keeps.world low (changed_site w keys m (node_at w m) lens es froze node);
        heard = known_more w (with_site w m site) known many (λ k inside. rows_set w m k es lens low) keeps.heard;
        fits = omega (arith, keeps.fits, many);
      }

  -- the same of a site that was read
  module _ (site : Site) (read : site ≡ get_or w.sites m site) where
    here : site ≡ site_at w m
    here = site_here w m low site read

    site_keeps : KeepsSite w keys m (site_of site.node site.frozen)
    site_keeps = subst (KeepsSite w keys m) (sym here) (keeps.world.sites m low)

    call_keeps : (v : NodeView Secrets) (es : List Change) (lens : List ℕ) → v ≡ with_changes site.node es → IsNode accepts_by v → KeepsSite w keys m (site_of site.node lens) → KeepsParts (with_site w m (site_of v lens)) known room
    call_keeps v es lens is node froze =
        let at : v ≡ with_changes (node_at w m) es = is ∙ ap (λ (s : Site). with_changes s.node es) here in
        subst (λ (u : NodeView Secrets). KeepsParts (with_site w m (site_of u lens)) known room) (sym at)
        (changed_parts es lens (subst (IsNode accepts_by) at node) (subst (λ (s : Site). KeepsSite w keys m (site_of s.node lens)) here froze))

    -- a call made changes of its node
    pub changed : (v : NodeView Secrets) (es : List Change) → v ≡ with_changes site.node es → IsNode accepts_by v → KeepsParts (with_site w m (site_of v site.frozen)) known room
    changed v es is node = call_keeps v es site.frozen is node site_keeps

    -- a worker froze all rows
    pub froze : (worker len : ℕ) → len ≡ length (node_rows site.node) → KeepsParts (with_site w m (site_of site.node (slice_set site.frozen worker len))) known room
    froze worker len all =
        call_keeps site.node [] (slice_set site.frozen worker len) (sym (with_none site.node [] refl)) site_keeps.node
        (frozen_site w keys m site.node site.frozen worker len site_keeps (omega (arith, all)))

    -- so did worker 0, and then published what they decide
    pub settled : (v : NodeView Secrets) (len : ℕ) → v ≡ node_published site.node (length (node_rows site.node)) whole → IsNode accepts_by v → len ≡ length (node_rows site.node) →
        KeepsParts (with_site w m (site_of v (slice_set site.frozen 0 len))) known room
    settled v len is node all =
        call_keeps v (publish_changes site.node (length (node_rows site.node)) whole) (slice_set site.frozen 0 len) is node
        (frozen_site w keys m site.node site.frozen 0 len site_keeps (omega (arith, all)))

-- with what else is heard
pub heard_parts : (w : WorldView) (known now : List (List HeardView)) (room : ℕ) → KeepsParts w known room → KeepsKnown (rows_of_each (nodes_of w)) now → KeepsParts w now room
heard_parts w known now room keeps heard = record { few = keeps.few; world = keeps.world; heard = heard; fits = keeps.fits }
