-- The world of a storm: its nodes are those of the members, and settled, so that each shows its graph's own fame
use Rattle.std.proofs.Common.{◌≡◌, inl, inr, ℕ, zero, suc, ◌<◌, Bool, true, false, cond, List, [], ◌∷◌, length, map, get_or, replicate, slice_set, sym, refl, ap, ap₂, ◌∙◌, subst, arith}
use Rattle.std.specs.Prelude.{fold}
use Rattle.std.proofs.lemmas.Bool.{cases_eq, cases_lt}
use Rattle.std.proofs.lemmas.List.{get_or-map, get_or-set_other, get_or-set_same, length-map, length-replicate, length-set}
use Rattle.std.proofs.lemmas.List.Sums.{fold-append}
use Rattle.std.proofs.Math.Seq.{map-set_same}
use Rattle.hg_model.specs.declared.row.Row.{Row}
use Rattle.hg_model.specs.Fame.{Marks, fame_marks}
use Rattle.hg_model.specs.Links.{links}
use Rattle.hg_model.specs.Order.{coin_at}
use Rattle.hg_model.specs.Places.{list_below}
use Rattle.hg_model.proofs.PlacesLaws.{list_below-same}
use Rattle.hg_model.specs.Shares.{whole}
use Rattle.hg_life.specs.Calls.{IsSettled, settle_changes}
use Rattle.hg_life.specs.History.{Change}
use Rattle.hg_life.specs.Members.{MemberList, has_node, names_of}
use Rattle.hg_life.specs.NodeView.{IsNode, NodeView, Start, node_rows, start_of, terms_of, with_changes}
use Rattle.hg_life.specs.Signing.{accepts_by, secrets_of}
use Rattle.hg_life.specs.Workers.{worker_limit}
use Rattle.hg_history.proofs.NodeLaws.{settles_all}
use Rattle.hg_history.proofs.SoundLaws.{moment}
use Rattle.hg_outcome.specs.declared.outcome.Block.{Block}
use Rattle.hg_outcome.specs.declared.outcome.Outcome.{Outcome}
use Rattle.hg_outcome.specs.declared.outcome.Printed.{Printed}
use Rattle.hg_outcome.specs.declared.outcome.Printed.TheVariants as printed
use Rattle.hg_outcome.specs.Ledger.{block_of, marked_block}
use Rattle.hg_world.specs.declared.step.Step.{Step}
use Rattle.hg_world.specs.declared.step.Step.TheVariants.{Make, Deliver, Freeze, Publish}
use Rattle.hg_world.specs.World.{Secrets, Site, WorldView, frozen_by, no_site, node_at, rows_at, site_at, site_of, with_site}
use Rattle.hg_world.specs.Parts.{no_node, nth_node}
use Rattle.hg_world.specs.Steps.{after_step, after_steps, node_published, settle_steps}
use Rattle.hg_world.specs.Syncs.{pull_steps}
use Rattle.hg_play.specs.Lines.{kept_block}
use Rattle.hg_play.specs.Outcomes.{kept_at, world_outcome}
use Rattle.hg_play.specs.Play.{block_at}
use Rattle.hg_play.specs.Sites.{AreMadeWith}
use Rattle.hg_storm.specs.declared.outcome.Storm.{Storm}
use Rattle.hg_storm.specs.Drawing.{circle_of}
use Rattle.hg_storm.specs.Storm.{IsStorm, after_pull, after_pulls, after_settling, gathered, pulls_of, world_again}
use Rattle.hg_top.specs.Commands.{shown_world}

-- ---- what steps leave of a site: with what its node began, and how many workers it has

abbrev Base : Type 0
Base = Start Secrets × ℕ

abbrev base_of : Site → Base
base_of s = (s.node.start, length s.frozen)

abbrev bases : WorldView → List Base
bases w = map base_of w.sites

with_base : (w : WorldView) (m : ℕ) (site : Site) → base_of site ≡ base_of (site_at w m) → bases (with_site w m site) ≡ bases w
with_base w m site same = map-set_same base_of w.sites m site no_site same

base_step : (w : WorldView) (step : Step) → bases (after_step w step) ≡ bases w
base_step w (Make m others time payload) = with_base w m _ refl
base_step w (Deliver m bytes) = with_base w m _ refl
base_step w (Freeze m worker) =
    with_base w m _ (ap (λ (n : ℕ). let b : Base = ((node_at w m).start, n) in b) (length-set (site_at w m).frozen worker (length (rows_at w m))))
base_step w (Publish m worker share) = with_base w m _ refl

base_steps : (w : WorldView) (steps : List Step) → bases (after_steps w steps) ≡ bases w
base_steps w [] = refl
base_steps w (step ∷ steps) = base_steps (after_step w step) steps ∙ base_step w step

base_pulls : (w : WorldView) (pairs : List (ℕ × ℕ)) → bases (after_pulls w pairs) ≡ bases w
base_pulls w [] = refl
base_pulls w (pair ∷ pairs) = base_pulls (after_pull w pair) pairs ∙ base_steps w (pull_steps w pair.0 pair.1)

base_settlings : (w : WorldView) (ms : List ℕ) → bases (fold after_settling w ms) ≡ bases w
base_settlings w [] = refl
base_settlings w (m ∷ ms) = base_settlings (after_settling w m) ms ∙ base_steps w (settle_steps m)

same_count : (w u : WorldView) → bases w ≡ bases u → length w.sites ≡ length u.sites
same_count w u same = sym (length-map w.sites base_of) ∙ (ap length same ∙ length-map u.sites base_of)

same_base : (w u : WorldView) (m : ℕ) → bases w ≡ bases u → m < length u.sites → base_of (site_at w m) ≡ base_of (site_at u m)
same_base w u m same low =
    sym (get_or-map base_of w.sites m no_site (base_of no_site) (omega (arith, low, same_count w u same)))
    ∙ (ap (λ (bs : List Base). get_or bs m (base_of no_site)) same ∙ get_or-map base_of u.sites m no_site (base_of no_site) low)

-- ---- nodes that are settled one after the other

-- the node was settled, and nothing came to it behind
record IsLast (v : NodeView Secrets) : Type 0 where
  before : NodeView Secrets
  is : v ≡ node_published before (length (node_rows before)) whole

-- there is such a site, and it has workers
record HasWorkers (w : WorldView) (m : ℕ) : Type 0 where
  there : m < length w.sites
  some : 0 < length (site_at w m).frozen

have_still : (w u : WorldView) (m : ℕ) → bases u ≡ bases w → HasWorkers w m → HasWorkers u m
have_still w u m same has = record {
  there = omega (arith, same_count u w same, has.there);
  some = omega (arith, ap (λ (b : Base). b.1) (same_base u w m same has.there), has.some);
}

settled_here : (w : WorldView) (m : ℕ) → HasWorkers w m → IsLast (node_at (after_settling w m) m)
settled_here w m has =
    let len = length (rows_at w m) in
    let lens = slice_set (site_at w m).frozen 0 len in
    let v = after_step w (Freeze m 0) in
    let site : site_at v m ≡ site_of (node_at w m) lens = get_or-set_same w.sites m (site_of (node_at w m) lens) no_site has.there in
    let zeroth : frozen_by v m 0 ≡ len = ap (λ (s : Site). get_or s.frozen 0 0) site ∙ get_or-set_same (site_at w m).frozen 0 len 0 has.some in
    record {
      before = node_at w m;
      is = ap (λ (s : Site). s.node) (get_or-set_same v.sites m (site_of (node_published (node_at v m) (frozen_by v m 0) whole) (site_at v m).frozen) no_site (omega (arith, has.there, length-set w.sites m (site_of (node_at w m) lens))))
          ∙ ap₂ (λ (u : NodeView Secrets) (k : ℕ). node_published u k whole) (ap (λ (s : Site). s.node) site) zeroth;
    }

-- another node that is settled leaves it
settled_still : (w : WorldView) (k m : ℕ) → HasWorkers w m → IsLast (node_at w m) → IsLast (node_at (after_settling w k) m)
settled_still w k m has last = elim (cases_eq m k) [
  | inl here ↦ subst (λ (j : ℕ). IsLast (node_at (after_settling w j) m)) here (settled_here w m has)
  | inr other ↦
      let v = after_step w (Freeze k 0) in
      let frozen : Site = site_of (node_at w k) (slice_set (site_at w k).frozen 0 (length (rows_at w k))) in
      let settled : Site = site_of (node_published (node_at v k) (frozen_by v k 0) whole) (site_at v k).frozen in
      let same : node_at (after_settling w k) m ≡ node_at w m =
      ap (λ (s : Site). s.node) (get_or-set_other v.sites k m settled no_site other) ∙ ap (λ (s : Site). s.node) (get_or-set_other w.sites k m frozen no_site other) in
      subst IsLast (sym same) last
]

module _ (members : MemberList) (w : WorldView) where
  abbrev first_of : ℕ → List ℕ
  first_of n = list_below (λ m. m) n (has_node members)

  abbrev after_first : ℕ → WorldView
  after_first n = fold after_settling w (first_of n)

  -- the next member's node is settled, if it has one
  after_next : (n : ℕ) → after_first (suc n) ≡ fold after_settling (after_first n) (cond (has_node members n) (n ∷ []) [])
  unfolding list_below
  after_next n = fold-append after_settling w (first_of n) (cond (has_node members n) (n ∷ []) [])

  one_more : (n m : ℕ) (b : Bool) → HasWorkers w m → IsLast (node_at (after_first n) m) → IsLast (node_at (fold after_settling (after_first n) (cond b (n ∷ []) [])) m)
  one_more n m true has last = settled_still (after_first n) n m (have_still w (after_first n) m (base_settlings w (first_of n)) has) last
  one_more n m false has last = last

  -- so each is in the end
  settled_first : (n m : ℕ) → HasWorkers w m → has_node members m ≡ true → m < n → IsLast (node_at (after_first n) m)
  settled_first zero m has node low = absurd (omega (arith, low))
  settled_first (suc n) m has node low =
      subst (λ (u : WorldView). IsLast (node_at u m)) (sym (after_next n))
      (elim (cases_lt m n) [
        | inl lower ↦ one_more n m (has_node members n) has (settled_first n m has node lower)
        | inr past ↦
            let here : m ≡ n = omega (arith, low, past) in
            let test : has_node members n ≡ true = ap (has_node members) (sym here) ∙ node in
            let settled = settled_here (after_first n) m (have_still w (after_first n) m (base_settlings w (first_of n)) has) in
            subst (λ (b : Bool). IsLast (node_at (fold after_settling (after_first n) (cond b (n ∷ []) [])) m)) (sym test)
            (subst (λ (k : ℕ). IsLast (node_at (after_settling (after_first n) k) m)) here settled)
      ])

-- ---- a node that was settled last

-- a node was one before changes too
node_before : (v u : NodeView Secrets) (more : List Change) → u ≡ with_changes v more → IsNode accepts_by u → IsNode accepts_by v
node_before v u more is node =
    let later : IsNode accepts_by (with_changes v more) = subst (IsNode accepts_by) is node in
    record {
      few_members = later.few_members;
      coin = later.coin;
      balances = later.balances;
      limit = later.limit;
      history = moment (terms_of accepts_by v.start) v.start.members v.start.coin v.start.own v.history more later.history;
    }

-- it shows the fame of its own graph
shows_own : (members : MemberList) (m : ℕ) (v : NodeView Secrets) → v.start ≡ start_of members m (secrets_of members) → IsNode accepts_by v → IsLast v →
    kept_block members m v ≡ block_of members m (node_rows v)
shows_own members m v start node last =
    let u = last.before in
    let settled : IsSettled u v = subst (IsSettled u) (sym last.is) (settles_all Secrets accepts_by u (node_before u v (settle_changes u) last.is node)) in
    let same : v.start ≡ u.start = ap (λ (x : NodeView Secrets). x.start) last.is in
    let fame : Start Secrets → List Row → Marks = λ s G. fame_marks s.members s.coin (links G) (coin_at G) in
    ap (marked_block members m (node_rows v))
    (settled.marks ∙ ap₂ fame (sym same ∙ start) (sym settled.rows))

-- ---- the world of a storm

module _ (members : MemberList) (turns room seed : ℕ) (s : Storm) (is : IsStorm members turns room seed s) where
  abbrev w : WorldView
  w = s.world

  abbrev begun : WorldView
  begun = world_again members is.ends

  abbrev pulled : WorldView
  pulled = after_pulls begun (pulls_of (circle_of members))

  world_is : w ≡ fold after_settling pulled (circle_of members)
  world_is = is.world ∙ ap (gathered begun) is.circle

  pulled_bases : bases pulled ≡ bases begun
  pulled_bases = base_pulls begun (pulls_of (circle_of members))

  last_bases : bases w ≡ bases begun
  last_bases = ap bases world_is ∙ (base_settlings pulled (circle_of members) ∙ pulled_bases)

  begun_count : length begun.sites ≡ length members.entries
  begun_count = length-map is.ends (λ (v : NodeView Secrets). site_of v (replicate worker_limit 0)) ∙ is.count

  begun_site : (m : ℕ) → m < length members.entries → site_at begun m ≡ site_of (nth_node is.ends m) (replicate worker_limit 0)
  begun_site m low = get_or-map (λ (v : NodeView Secrets). site_of v (replicate worker_limit 0)) is.ends m no_node no_site (omega (arith, low, is.count))

  -- there is a node of each member
  pub storm_count : length s.world.sites ≡ length members.entries
  storm_count = same_count w begun last_bases ∙ begun_count

  starts_so : (m : ℕ) → m < length members.entries → (node_at w m).start ≡ start_of members m (secrets_of members)
  starts_so m low =
      ap (λ (b : Base). b.0) (same_base w begun m last_bases (omega (arith, low, begun_count)))
      ∙ (ap (λ (t : Site). t.node.start) (begun_site m low) ∙ is.starts m (omega (arith, low, is.count)))

  -- .. which was made with the members
  pub storm_made : AreMadeWith members s.world
  storm_made = λ m low.
      let start = starts_so m (omega (arith, low, storm_count)) in
      subst (λ (b : Start Secrets). b ≡ start_of members b.own b.keys) (sym start) refl

  pulled_workers : (m : ℕ) → m < length members.entries → HasWorkers pulled m
  pulled_workers m low = have_still begun pulled m pulled_bases (record {
    there = omega (arith, low, begun_count);
    some = subst (λ (t : Site). 0 < length t.frozen) (sym (begun_site m low)) (omega (arith, length-replicate {A = ℕ} worker_limit 0));
  })

  last_settled : (m : ℕ) → m < length members.entries → has_node members m ≡ true → IsLast (node_at w m)
  last_settled m low node =
      subst (λ (u : WorldView). IsLast (node_at u m)) (sym world_is)
      (settled_first members pulled (length members.entries) m (pulled_workers m low) node low)

  -- what is printed of them is what `show` would print
  pub storm_shown : world_outcome members s.world ≡ shown_world members s.world
  storm_shown =
      ap (λ (pieces : List Printed). let o : Outcome = record { names = names_of members; printed = pieces } in o)
      (list_below-same (kept_at members w) (block_at members w) (length members.entries) (has_node members) (has_node members) (λ m low. refl) (λ m low node.
      let lawful = is.lawful.sites m (omega (arith, low, storm_count)) in
      ap (λ (b : Block). let p : Printed = printed.Block b in p) (shows_own members m (node_at w m) (starts_so m low) lawful.node (last_settled m low node))))
