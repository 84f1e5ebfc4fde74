-- The blocks that a play prints show orders that nodes of its run keep at some moments
use Rattle.std.proofs.Common.{◌≡◌, inl, inr, ℕ, zero, suc, ◌<◌, ◌≤◌, Bool, true, false, cond, List, [], ◌∷◌, ◌++◌, length, map, get_or, slice_set, Some, slice_get, sym, refl, ap, ap₂, ◌∙◌, subst, arith}
use Rattle.std.specs.Prelude.{All}
use Rattle.std.specs.List.{AllByRecursion}
use Rattle.std.proofs.lemmas.List.{length-set, get_or-map, get_or-set_same}
use Rattle.std.proofs.lemmas.List.Elements.{All-head, All-tail}
use Rattle.std.proofs.lemmas.Option.{slice_get_within}
use Rattle.std.proofs.Math.Seq.{map-set_same}
use Rattle.hg_model.specs.declared.row.Row.{Row}
use Rattle.hg_model.specs.declared.row.Placed.{Placed}
use Rattle.hg_life.specs.declared.pay.Effect.{Effect}
use Rattle.hg_outcome.specs.declared.outcome.Block.{Block}
use Rattle.hg_outcome.specs.declared.outcome.Printed.{Printed}
use Rattle.hg_outcome.specs.declared.outcome.Printed.TheVariants as printed
use Rattle.hg_model.specs.Places.{list_below}
use Rattle.hg_model.specs.Links.{Link, links}
use Rattle.hg_model.specs.Fame.{Marks}
use Rattle.hg_outcome.specs.Ledger.{block_of, marked_block, order_lines}
use Rattle.hg_model.specs.Stakes.{member_count}
use Rattle.hg_life.specs.Members.{MemberList, balances_of, has_node, stakes_of}
use Rattle.hg_model.specs.Order.{Ordered, named_in, ordered}
use Rattle.hg_life.specs.Pay.{book_of}
use Rattle.hg_model.specs.Shares.{whole}
use Rattle.hg_life.specs.Signing.{accepts_by}
use Rattle.hg_life.specs.History.{Change, State, replay}
use Rattle.hg_life.specs.NodeView.{NodeView, Start, IsNode, with_changes, terms_of}
use Rattle.hg_life.specs.Calls.{IsSettled}
use Rattle.hg_history.proofs.NodeLaws.{settles_all}
use Rattle.hg_history.proofs.SoundLaws.{moment, sound}
use Rattle.hg_pay.proofs.OrderLaws.{many_effects}
use Rattle.hg_runs.specs.Run.{IsMoment}
use Rattle.hg_runs.specs.Safety.{OrdersAgree, order_after}
use Rattle.hg_script.specs.declared.line.Line.{Line}
use Rattle.hg_script.specs.declared.line.Gossip.{Gossip}
use Rattle.hg_script.specs.declared.line.Gossip.TheVariants.{Create, Sync, Pull, Join, Give}
use Rattle.hg_script.specs.declared.line.Part.TheVariants as part
use Rattle.hg_script.specs.declared.line.Action.{Action}
use Rattle.hg_script.specs.declared.line.Action.TheVariants as action
use Rattle.hg_world.specs.declared.step.Step.{Step}
use Rattle.hg_world.specs.declared.step.Step.TheVariants.{Make, Deliver, Freeze, Publish}
use Rattle.hg_world.specs.Laws.{Grows}
use Rattle.hg_world.proofs.GrowthLaws.{steps_grown}
use Rattle.hg_world.specs.World.{Secrets, Site, WorldView, frozen_by, new_world, no_site, node_at, rows_at, run_of, site_at, site_of, with_site}
use Rattle.hg_world.specs.Parts.{IsWorld}
use Rattle.hg_world.specs.Steps.{after_step, after_steps, node_published, settle_steps}
use Rattle.hg_play.specs.Agree.{HasBlock, IsAgreed, shown_line, shown_order}
use Rattle.hg_play.specs.Lines.{IsBelow, action_printed, action_steps, gossip_printed, kept_block}
use Rattle.hg_play.specs.Play.{IsSafePlay, Stage, after_line, after_lines, block_at, end_blocks, end_steps, first_stage, lines_steps, play, play_run, play_steps}
use Rattle.hg_play.specs.Sites.{start_in, starts, starts_of}
use Rattle.hg_play.proofs.BlockLaws.{settled_is}
use Rattle.hg_play.proofs.WorldLaws.{block_same, lines-steps, members-steps, play-steps, start_read, starts-lines, starts-new, starts-steps, starts_length, sites_length, steps-append}

-- what printed rows show is the order by names, where there is an effect of each
shown_lines : (G : List Row) (L : List Link) (order : List Placed) (effects : List Effect) → length effects ≡ length order →
    map shown_line (order_lines G L order effects) ≡ map (named_in G) order
shown_lines G L [] effects long = refl
shown_lines G L (p ∷ order) [] long = absurd (omega (arith, long))
shown_lines G L (p ∷ order) (e ∷ effects) long = ap (λ (rest : List Ordered). named_in G p ∷ rest) (shown_lines G L order effects (omega (arith, long)))

-- so in a block
marked_shown : (members : MemberList) (x : ℕ) (G : List Row) (marks : Marks) →
    shown_order (marked_block members x G marks) ≡ map (named_in G) (ordered (stakes_of members) G (links G) marks)
unfolding marked_block
marked_shown members x G marks =
    let order = ordered (stakes_of members) G (links G) marks in
    shown_lines G (links G) order (book_of (balances_of members) G order).effects (many_effects (balances_of members) G order)

-- the block of a node by its marks shows the order that its history leaves
kept_shown : (members : MemberList) (m : ℕ) (v : NodeView Secrets) → v.start ≡ start_in members m → IsNode accepts_by v →
    shown_order (kept_block members m v) ≡ order_after (stakes_of members) members.coin v.history
kept_shown members m v start node =
    let s = replay v.start.members v.start.coin v.history in
    let linked : links s.rows ≡ s.links = sym (sound (terms_of accepts_by v.start) v.start.members v.start.coin v.start.own v.history node.coin node.history).linked in
    marked_shown members m s.rows s.marks
    ∙ (ap (λ (L : List Link). map (named_in s.rows) (ordered (stakes_of members) s.rows L s.marks)) linked
    ∙ ap (λ (b : Start Secrets). let t : State = replay b.members b.coin v.history in map (named_in t.rows) (ordered (stakes_of members) t.rows t.links t.marks)) start)

-- a node of which another is later is a node
node_before : (v u : NodeView Secrets) → v.start ≡ u.start → Grows v.history u.history → IsNode accepts_by u → IsNode accepts_by v
node_before v u start grows node =
    let later : u ≡ with_changes v grows.0 = ap₂ (λ (b : Start Secrets) (h : List Change). let t : NodeView Secrets = record { start = b; history = h } in t) (sym start) grows.1 in
    let whole : IsNode accepts_by (with_changes v grows.0) = subst (IsNode accepts_by) later node in
    record {
      few_members = whole.few_members;
      coin = whole.coin;
      balances = whole.balances;
      limit = whole.limit;
      history = moment (terms_of accepts_by v.start) v.start.members v.start.coin v.start.own v.history grows.0 whole.history;
    }

-- steps leave how many workers each node has
abbrev workers_of : WorldView → List ℕ
workers_of w = map (λ (s : Site). length s.frozen) w.sites

with_workers : (w : WorldView) (m : ℕ) (site : Site) → length site.frozen ≡ length (site_at w m).frozen → workers_of (with_site w m site) ≡ workers_of w
with_workers w m site same = map-set_same (λ (s : Site). length s.frozen) w.sites m site no_site same

workers_step : (w : WorldView) (step : Step) → workers_of (after_step w step) ≡ workers_of w
workers_step w (Make m others time payload) = with_workers w m _ refl
workers_step w (Deliver m bytes) = with_workers w m _ refl
workers_step w (Freeze m worker) = with_workers w m _ (length-set (site_at w m).frozen worker _)
workers_step w (Publish m worker share) = with_workers w m _ refl

workers_steps : (w : WorldView) (steps : List Step) → workers_of (after_steps w steps) ≡ workers_of w
workers_steps w [] = refl
workers_steps w (step ∷ steps) = workers_steps (after_step w step) steps ∙ workers_step w step

-- a node of some workers that is settled
settled_node : (w : WorldView) (m : ℕ) → m < length w.sites → 0 < length (site_at w m).frozen →
    node_at (after_steps w (settle_steps m)) m ≡ node_published (node_at w m) (length (rows_at w m)) whole
settled_node w m low some =
    let len = length (rows_at w m) in
    let lens = slice_set (site_at w m).frozen 0 len in
    let v = after_step w (Freeze m 0) in
    let site : site_at v m ≡ site_of (node_at w m) lens = get_or-set_same w.sites m (site_of (node_at w m) lens) no_site low in
    let zeroth : frozen_by v m 0 ≡ len = ap (λ (s : Site). get_or s.frozen 0 0) site ∙ get_or-set_same (site_at w m).frozen 0 len 0 some in
    ap (λ (s : Site). s.node) (get_or-set_same v.sites m (site_of (node_published (node_at v m) (frozen_by v m 0) whole) (site_at v m).frozen) no_site (omega (arith, low, length-set w.sites m (site_of (node_at w m) lens))))
    ∙ ap₂ (λ (u : NodeView Secrets) (k : ℕ). node_published u k whole) (ap (λ (s : Site). s.node) site) zeroth

-- each of some pieces has the property, and of some more
all_append : {A : Type 0} (P : A → Type 0) (xs ys : List A) → AllByRecursion P xs → AllByRecursion P ys → AllByRecursion P (xs ++ ys)
all_append P [] ys first rest = rest
all_append P (x ∷ xs) ys first rest = (first.0, all_append P xs ys first.1 rest)

all_there : {A : Type 0} (P : A → Type 0) (xs : List A) (i : ℕ) (x : A) → AllByRecursion P xs → slice_get xs i ≡ Some x → P x
all_there P [] i x each there = absurd (omega (arith, slice_get_within [] i x there))
all_there P (y ∷ xs) zero x each there = let same : y ≡ x = cc in subst P same each.0
all_there P (y ∷ xs) (suc i) x each there = all_there P xs i x each.1 there

-- the world is one of which the last one is later
record IsBefore (last w : WorldView) : Type 0 where
  rest : List Step
  is : last ≡ after_steps w rest

before : (last w : WorldView) (steps : List Step) → IsBefore last (after_steps w steps) → IsBefore last w
before last w steps b = record { rest = steps ++ b.rest; is = b.is ∙ sym (steps-append w steps b.rest) }

module _ (members : MemberList) (last : WorldView) (world : IsWorld last) (count : last.members ≡ stakes_of members) where
  -- the block shows what some node keeps at some moment
  record IsShown (b : Block) : Type 0 where
    node : ℕ
    history : List Change
    at : IsMoment (stakes_of members) (run_of last) node history
    order : shown_order b ≡ order_after (stakes_of members) members.coin history

  abbrev ShowsKept : Printed → Type 0
  ShowsKept (printed.Block b) = IsShown b
  ShowsKept (printed.Names b) = IsShown b
  ShowsKept _ = Unit {0}

  module _ (w : WorldView) (begun : starts_of w ≡ starts members) (earlier : IsBefore last w) (m : ℕ) (low : m < length w.sites) where
    last_starts : starts_of last ≡ starts_of w
    last_starts = ap starts_of earlier.is ∙ starts-steps w earlier.rest

    last_low : m < length last.sites
    last_low = omega (arith, low, sites_length last w last_starts)

    start : (node_at w m).start ≡ start_in members m
    start = start_read members w m begun low

    grown : Grows (node_at w m).history (node_at last m).history
    grown = let more = steps_grown w earlier.rest m low in (more.0, ap (λ (u : WorldView). (node_at u m).history) earlier.is ∙ more.1)

    is_node : IsNode accepts_by (node_at w m)
    is_node = node_before (node_at w m) (node_at last m) (start ∙ sym (start_read members last m (last_starts ∙ begun) last_low)) grown (world.sites m last_low).node

    some_workers : 0 < length (site_at w m).frozen
    some_workers =
        let same : workers_of last ≡ workers_of w = ap workers_of earlier.is ∙ workers_steps w earlier.rest in
        let lens : length (site_at last m).frozen ≡ length (site_at w m).frozen =
        sym (get_or-map (λ (s : Site). length s.frozen) last.sites m no_site 0 last_low)
        ∙ (ap (λ (xs : List ℕ). get_or xs m 0) same ∙ get_or-map (λ (s : Site). length s.frozen) w.sites m no_site 0 low) in
        omega (arith, lens, (world.sites m last_low).is.workers)

    kept_is_shown : IsShown (kept_block members m (node_at w m))
    kept_is_shown = record {
      node = m;
      history = (node_at w m).history;
      at = record { member = omega (arith, last_low, world.count, ap member_count count); later = grown.0; whole = grown.1 };
      order = kept_shown members m (node_at w m) start is_node;
    }

  settled_is_shown : (w : WorldView) (m : ℕ) → starts_of w ≡ starts members → m < length w.sites → IsBefore last (after_steps w (settle_steps m)) → IsShown (block_of members m (rows_at w m))
  settled_is_shown w m begun low after =
      let v = after_steps w (settle_steps m) in
      let same = starts-steps w (settle_steps m) in
      let earlier = before last w (settle_steps m) after in
      let settled : IsSettled (node_at w m) (node_at v m) =
      subst (IsSettled (node_at w m)) (sym (settled_node w m low (some_workers w begun earlier m low))) (settles_all Secrets accepts_by (node_at w m) (is_node w begun earlier m low)) in
      subst IsShown (settled_is members m (node_at w m) (node_at v m) (start w begun earlier m low) settled)
      (kept_is_shown v (same ∙ begun) after m (omega (arith, low, sites_length v w same)))

  -- what gossip prints is no block
  gossip_shown : (w : WorldView) (labels : List (List ℕ)) (number : ℕ) (g : Gossip) → ShowsKept (gossip_printed w labels number g)
  gossip_shown w labels number (Create m time payload) = tt
  gossip_shown w labels number (Sync taker peer time payload) = tt
  gossip_shown w labels number (Pull taker peer) = tt
  gossip_shown w labels number (Join m others time payload) = tt
  gossip_shown w labels number (Give m label) = tt

  action_shown : (w : WorldView) (labels : List (List ℕ)) (number : ℕ) (a : Action) → starts_of w ≡ starts members → IsBelow (length w.sites) a → IsBefore last (after_steps w (action_steps w labels a)) →
      AllByRecursion ShowsKept (action_printed members w labels number a)
  action_shown w labels number (action.Part (part.Gossip g)) begun below after = (gossip_shown w labels number g, tt)
  action_shown w labels number (action.Part (part.Label source)) begun below after = tt
  action_shown w labels number (action.Freeze m worker) begun below after = (tt, tt)
  action_shown w labels number (action.Publish m worker) begun below after = (tt, tt)
  action_shown w labels number (action.Kept m) begun below after = (kept_is_shown w begun after m below, tt)
  action_shown w labels number (action.Show m) begun below after = (settled_is_shown w m begun below after, tt)
  action_shown w labels number (action.Names m) begun below after = (settled_is_shown w m begun below after, tt)

  -- lines that name members
  lines_shown : (s : Stage) (lines : List Line) → starts_of s.world ≡ starts members → All (λ (line : Line). IsBelow (length members.entries) line.action) lines →
      IsBefore last (after_lines members s lines).world → AllByRecursion ShowsKept s.printed → AllByRecursion ShowsKept (after_lines members s lines).printed
  lines_shown s [] begun below after shown = shown
  lines_shown s (line ∷ lines) begun below after shown =
      let t = after_line members s line in
      let later : IsBefore last t.world = before last t.world (lines_steps members t lines) (subst (IsBefore last) (lines-steps members t lines) after) in
      let here : IsBelow (length s.world.sites) line.action = subst (λ (k : ℕ). IsBelow k line.action) (sym (starts_length members s.world begun)) (All-head (λ (l : Line). IsBelow (length members.entries) l.action) line lines below) in
      lines_shown t lines (starts-steps s.world (action_steps s.world s.labels line.action) ∙ begun) (All-tail (λ (l : Line). IsBelow (length members.entries) l.action) line lines below) after
      (all_append ShowsKept s.printed (action_printed members s.world s.labels line.number line.action) shown
      (action_shown s.world s.labels line.number line.action begun here later))

  -- the blocks at the end
  end_shown : (w : WorldView) (m : ℕ) (has : Bool) → starts_of w ≡ starts members → m < length w.sites → IsBefore last (after_steps w (cond has (settle_steps m) [])) →
      AllByRecursion ShowsKept (cond has (block_at members w m ∷ []) [])
  end_shown w m true begun low after = (settled_is_shown w m begun low after, tt)
  end_shown w m false begun low after = tt

  ends_shown : (w : WorldView) (k : ℕ) → k ≤ length w.sites → starts_of w ≡ starts members → IsBefore last (after_steps w (end_steps members k)) →
      AllByRecursion ShowsKept (list_below (block_at members w) k (has_node members))
  unfolding list_below
  ends_shown w zero few begun after = tt
  ends_shown w (suc k) few begun after =
      let v = after_steps w (end_steps members k) in
      let has = has_node members k in
      let one = cond has (settle_steps k) [] in
      let same = starts-steps w (end_steps members k) in
      let now : IsBefore last (after_steps v one) = subst (IsBefore last) (steps-append w (end_steps members k) one) after in
      all_append ShowsKept (list_below (block_at members w) k (has_node members)) (cond has (block_at members w k ∷ []) [])
      (ends_shown w k (omega (arith, few)) begun (before last v one now))
      (subst (λ (p : Printed). AllByRecursion ShowsKept (cond has (p ∷ []) [])) (block_same members w k k (omega (arith, few)))
      (end_shown v k has (same ∙ begun) (omega (arith, few, sites_length v w same)) now))

  -- a block among pieces that do
  block_there : (pieces : List Printed) (b : Block) → AllByRecursion ShowsKept pieces → HasBlock pieces b → IsShown b
  block_there pieces b shown (i, inl there) = all_there ShowsKept pieces i (printed.Block b) shown there
  block_there pieces b shown (i, inr there) = all_there ShowsKept pieces i (printed.Names b) shown there

-- so the blocks of a play agree, where the last world is
pub agreed : (members : MemberList) (lines : List Line) (last : WorldView) → last ≡ after_steps (after_lines members (first_stage members) lines).world (end_steps members (length members.entries)) →
    IsWorld last → All (λ (line : Line). IsBelow (length members.entries) line.action) lines → IsSafePlay members lines → IsAgreed members lines
unfolding play play_run
agreed members lines last is world below safe few apart a b has_a has_b =
    let n = stakes_of members in
    let s = after_lines members (first_stage members) lines in
    let all = play-steps members lines last is in
    let count : last.members ≡ n = ap (λ (w : WorldView). w.members) all ∙ members-steps (new_world members) (play_steps members lines) in
    let begun : starts_of s.world ≡ starts members = starts-lines members (first_stage members) lines ∙ starts-new members in
    let before_ends : IsBefore last s.world = record { rest = end_steps members (length members.entries); is = is } in
    let after_ends : IsBefore last (after_steps s.world (end_steps members (length members.entries))) = record { rest = []; is = is } in
    let shown : AllByRecursion (ShowsKept members last world count) (s.printed ++ end_blocks members s.world) =
    all_append (ShowsKept members last world count) s.printed (end_blocks members s.world)
    (lines_shown members last world count (first_stage members) lines (starts-new members) below before_ends tt)
    (ends_shown members last world count s.world (length members.entries) (omega (arith, starts_length members s.world begun)) begun after_ends) in
    let first = block_there members last world count (s.printed ++ end_blocks members s.world) a shown has_a in
    let second = block_there members last world count (s.printed ++ end_blocks members s.world) b shown has_b in
    let agree : OrdersAgree n members.coin (run_of last) = subst (λ (w : WorldView). OrdersAgree n members.coin (run_of w)) (sym all) (safe few apart) in
    rw (first.order, second.order) (agree first.node second.node first.history second.history first.at second.at)
