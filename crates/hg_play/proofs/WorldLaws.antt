-- What the nodes of a world began with, and that to settle nodes leaves all rows
use Rattle.std.proofs.Common.{◌≡◌, ℕ, zero, suc, ◌+◌, ◌<◌, Bool, true, false, cond, List, [], ◌∷◌, ◌++◌, length, map, get_or, sym, refl, ap, ap₂, ◌∙◌, subst, ◌==◌, arith, add-one, zero-add}
use Rattle.std.specs.List.{range_with_len}
use Rattle.std.proofs.lemmas.List.{length-map, get_or-map}
use Rattle.std.proofs.lemmas.List.Sums.{fold-append}
use Rattle.std.proofs.lemmas.List.FromFn.{get_or-map-range_with_len, length-map-range_with_len}
use Rattle.std.proofs.Math.Seq.{map-set_same}
use Rattle.hg_model.specs.declared.row.Row.{Row}
use Rattle.hg_outcome.specs.declared.outcome.Printed.{Printed}
use Rattle.hg_outcome.specs.declared.outcome.Printed.TheVariants as printed
use Rattle.hg_outcome.specs.Ledger.{block_of}
use Rattle.hg_model.specs.Stakes.{Stakes}
use Rattle.hg_life.specs.Members.{MemberList, has_node, stakes_of}
use Rattle.hg_model.specs.Shares.{Share, whole}
use Rattle.hg_life.specs.History.{State}
use Rattle.hg_life.specs.History.Change.{Marked}
use Rattle.hg_life.specs.NodeView.{NodeView, Start, node_rows, start_of, with_changes}
use Rattle.hg_life.specs.Calls.{publish_answer, publish_changes}
use Rattle.hg_history.proofs.CallLaws.{with_none}
use Rattle.hg_history.proofs.StateLaws.{replay-push}
use Rattle.hg_world.specs.declared.step.Step.{Step}
use Rattle.hg_world.specs.declared.step.Step.TheVariants.{Make, Deliver, Freeze, Publish}
use Rattle.hg_runs.specs.Safety.{IsSafe}
use Rattle.hg_world.specs.World.{Secrets, Site, WorldView, new_site, new_world, no_site, node_at, rows_at, run_of, frozen_by, with_site}
use Rattle.hg_world.specs.Steps.{after_step, after_steps, node_published, settle_steps}
use Rattle.hg_script.specs.declared.line.Line.{Line}
use Rattle.hg_play.specs.Lines.{action_steps}
use Rattle.hg_play.specs.Play.{Stage, IsSafePlay, after_line, after_lines, block_at, end_steps, end_steps_of, first_stage, lines_steps, play_run, play_steps, played_world}
use Rattle.hg_play.specs.Sites.{IsMadeWith, start_in, starts, starts_of}

-- one step after the others
pub steps-append : (w : WorldView) (a b : List Step) → after_steps w (a ++ b) ≡ after_steps (after_steps w a) b
steps-append w a b = fold-append after_step w a b

-- another site, whose node began alike
with_starts : (w : WorldView) (m : ℕ) (site : Site) → site.node.start ≡ (node_at w m).start → starts_of (with_site w m site) ≡ starts_of w
with_starts w m site same = map-set_same (λ (s : Site). s.node.start) w.sites m site no_site same

-- a step leaves what the nodes began with
starts-step : (w : WorldView) (step : Step) → starts_of (after_step w step) ≡ starts_of w
starts-step w (Make m others time payload) = with_starts w m _ refl
starts-step w (Deliver m bytes) = with_starts w m _ refl
starts-step w (Freeze m worker) = with_starts w m _ refl
starts-step w (Publish m worker share) = with_starts w m _ refl

pub starts-steps : (w : WorldView) (steps : List Step) → starts_of (after_steps w steps) ≡ starts_of w
starts-steps w [] = refl
starts-steps w (step ∷ steps) = starts-steps (after_step w step) steps ∙ starts-step w step

-- there are as many nodes as members
pub starts_length : (members : MemberList) (w : WorldView) → starts_of w ≡ starts members → length w.sites ≡ length members.entries
starts_length members w are =
    sym (length-map w.sites (λ (s : Site). s.node.start)) ∙ (ap length are ∙ length-map-range_with_len (start_in members) 0 (length members.entries))

-- what the node of a member began with
pub start_read : (members : MemberList) (w : WorldView) (m : ℕ) → starts_of w ≡ starts members → m < length w.sites → (node_at w m).start ≡ start_in members m
start_read members w m are inside =
    let long = starts_length members w are in
    let none : Start Secrets = no_site.node.start in
    sym (get_or-map (λ (s : Site). s.node.start) w.sites m no_site none inside)
    ∙ (ap (λ (xs : List (Start Secrets)). get_or xs m none) are
    ∙ get_or-map-range_with_len (start_in members) 0 (length members.entries) m m none (omega (arith, inside, long)) (zero-add m))

-- and it is a node made with these members
pub made_in : (members : MemberList) (m : ℕ) (v : NodeView Secrets) → v.start ≡ start_in members m → IsMadeWith members v
made_in members m v is = is ∙ sym (ap₂ (start_of members) (ap (λ (s : Start Secrets). s.own) is) (ap (λ (s : Start Secrets). s.keys) is))

-- the rows of all nodes
abbrev all_rows : WorldView → List (List Row)
all_rows w = map (λ (s : Site). node_rows s.node) w.sites

pub rows_read : (v w : WorldView) (m : ℕ) → all_rows v ≡ all_rows w → m < length w.sites → rows_at v m ≡ rows_at w m
rows_read v w m same inside =
    let rows = λ (s : Site). node_rows s.node in
    let long : length v.sites ≡ length w.sites = sym (length-map v.sites rows) ∙ (ap length same ∙ length-map w.sites rows) in
    sym (get_or-map rows v.sites m no_site [] (omega (arith, inside, long)))
    ∙ (ap (λ (xs : List (List Row)). get_or xs m []) same ∙ get_or-map rows w.sites m no_site [] inside)

-- to publish leaves the rows
rows_published_if : (v : NodeView Secrets) (len : ℕ) (share : Share) (none : Bool) → node_rows (with_changes v (cond none [] (Marked len share ∷ []))) ≡ node_rows v
rows_published_if v len share true = ap (λ (w : NodeView Secrets). node_rows w) (with_none v [] refl)
rows_published_if v len share false = ap (λ (s : State). s.rows) (replay-push v.start.members v.start.coin v.history (Marked len share))

pub rows_published : (v : NodeView Secrets) (len : ℕ) (share : Share) → node_rows (node_published v len share) ≡ node_rows v
unfolding publish_changes
rows_published v len share = rows_published_if v len share (publish_answer v len share == 0)

with_rows : (w : WorldView) (m : ℕ) (site : Site) → node_rows site.node ≡ rows_at w m → all_rows (with_site w m site) ≡ all_rows w
with_rows w m site same = map-set_same (λ (s : Site). node_rows s.node) w.sites m site no_site same

-- so to settle a node leaves the rows of all
rows-settle : (w : WorldView) (m : ℕ) → all_rows (after_steps w (settle_steps m)) ≡ all_rows w
rows-settle w m =
    let v = after_step w (Freeze m 0) in
    with_rows v m _ (rows_published (node_at v m) (frozen_by v m 0) whole) ∙ with_rows w m _ refl

rows-end_step : (w : WorldView) (m : ℕ) (has : Bool) → all_rows (after_steps w (cond has (settle_steps m) [])) ≡ all_rows w
rows-end_step w m true = rows-settle w m
rows-end_step w m false = refl

pub rows-end : (members : MemberList) (w : WorldView) (k : ℕ) → all_rows (after_steps w (end_steps members k)) ≡ all_rows w
rows-end members w zero = refl
rows-end members w (suc k) =
    let before = end_steps members k in
    ap all_rows (steps-append w before (cond (has_node members k) (settle_steps k) []))
    ∙ (rows-end_step (after_steps w before) k (has_node members k) ∙ rows-end members w k)

-- and the blocks of all
pub block_same : (members : MemberList) (w : WorldView) (k m : ℕ) → m < length w.sites → block_at members (after_steps w (end_steps members k)) m ≡ block_at members w m
block_same members w k m inside =
    ap (λ (G : List Row). let p : Printed = printed.Block (block_of members m G) in p) (rows_read (after_steps w (end_steps members k)) w m (rows-end members w k) inside)

-- the steps of one more node
pub steps-more : (members : MemberList) (w : WorldView) (m : ℕ) (before after : WorldView) → before ≡ after_steps w (end_steps members m) →
    after ≡ after_steps before (cond (has_node members m) (settle_steps m) []) → after ≡ after_steps w (end_steps members (m + 1))
steps-more members w m before after before_is after_is =
    rw add-one
    (after_is ∙ (ap (λ (v : WorldView). after_steps v (cond (has_node members m) (settle_steps m) [])) before_is
    ∙ sym (steps-append w (end_steps members m) (cond (has_node members m) (settle_steps m) []))))

-- lines leave what the nodes began with
pub starts-lines : (members : MemberList) (s : Stage) (lines : List Line) → starts_of (after_lines members s lines).world ≡ starts_of s.world
starts-lines members s [] = refl
starts-lines members s (line ∷ lines) =
    starts-lines members (after_line members s line) lines ∙ starts-steps s.world (action_steps s.world s.labels line.action)

-- and how many nodes there are
pub sites_length : (v w : WorldView) → starts_of v ≡ starts_of w → length v.sites ≡ length w.sites
sites_length v w same =
    sym (length-map v.sites (λ (s : Site). s.node.start)) ∙ (ap length same ∙ length-map w.sites (λ (s : Site). s.node.start))

-- the world after lines is that after their steps
pub lines-steps : (members : MemberList) (s : Stage) (lines : List Line) → (after_lines members s lines).world ≡ after_steps s.world (lines_steps members s lines)
lines-steps members s [] = refl
lines-steps members s (line ∷ lines) =
    let now = action_steps s.world s.labels line.action in
    lines-steps members (after_line members s line) lines
    ∙ sym (steps-append s.world now (lines_steps members (after_line members s line) lines))

-- one node more is settled
pub settled_more : (members : MemberList) (w now new : WorldView) (m : ℕ) → now ≡ after_steps w (end_steps members m) → new ≡ after_steps now (end_steps_of members m) → new ≡ after_steps w (end_steps members (m + 1))
settled_more members w now new m before step =
    rw add-one
    (step ∙ (ap (λ (u : WorldView). after_steps u (end_steps_of members m)) before ∙ sym (steps-append w (end_steps members m) (end_steps_of members m))))

-- and after all steps of a script it is that in which the play ends
pub play-steps : (members : MemberList) (lines : List Line) (last : WorldView) →
    last ≡ after_steps (after_lines members (first_stage members) lines).world (end_steps members (length members.entries)) →
    last ≡ after_steps (new_world members) (play_steps members lines)
play-steps members lines last is =
    let all = lines_steps members (first_stage members) lines in
    let ends = end_steps members (length members.entries) in
    is ∙ (ap (λ (w : WorldView). after_steps w ends) (lines-steps members (first_stage members) lines) ∙ sym (steps-append (new_world members) all ends))

-- steps leave members and coin period
pub members-steps : (w : WorldView) (steps : List Step) → (after_steps w steps).members ≡ w.members
members-steps w [] = refl
members-steps w (step ∷ steps) = members-steps (after_step w step) steps ∙ members-step w step
  where
    members-step : (w : WorldView) (step : Step) → (after_step w step).members ≡ w.members
    members-step w (Make m others time payload) = refl
    members-step w (Deliver m bytes) = refl
    members-step w (Freeze m worker) = refl
    members-step w (Publish m worker share) = refl

pub coin-steps : (w : WorldView) (steps : List Step) → (after_steps w steps).coin ≡ w.coin
coin-steps w [] = refl
coin-steps w (step ∷ steps) = coin-steps (after_step w step) steps ∙ coin-step w step
  where
    coin-step : (w : WorldView) (step : Step) → (after_step w step).coin ≡ w.coin
    coin-step w (Make m others time payload) = refl
    coin-step w (Deliver m bytes) = refl
    coin-step w (Freeze m worker) = refl
    coin-step w (Publish m worker share) = refl

-- so it is safe, where the last world is
pub safe-played : (members : MemberList) (lines : List Line) (last : WorldView) → last ≡ played_world members lines →
    IsSafe last.members last.coin (run_of last) → IsSafePlay members lines
unfolding play_run
safe-played members lines last all safe =
    let whole = play_steps members lines in
    let count : last.members ≡ stakes_of members = ap (λ (w : WorldView). w.members) all ∙ members-steps (new_world members) whole in
    let coin : last.coin ≡ members.coin = ap (λ (w : WorldView). w.coin) all ∙ coin-steps (new_world members) whole in
    subst (λ (w : WorldView). IsSafe (stakes_of members) members.coin (run_of w)) all
    (subst (λ (n : Stakes). IsSafe n members.coin (run_of last)) count (subst (λ (k : ℕ). IsSafe last.members k (run_of last)) coin safe))

pub safe-play : (members : MemberList) (lines : List Line) (last : WorldView) →
    last ≡ after_steps (after_lines members (first_stage members) lines).world (end_steps members (length members.entries)) →
    IsSafe last.members last.coin (run_of last) → IsSafePlay members lines
safe-play members lines last is safe = safe-played members lines last (play-steps members lines last is) safe

-- the nodes of a new world
starts-sites : (members : MemberList) (ms : List ℕ) → map (λ (s : Site). s.node.start) (map (new_site members) ms) ≡ map (start_in members) ms
starts-sites members [] = refl
starts-sites members (m ∷ ms) = ap (λ (xs : List (Start Secrets)). start_in members m ∷ xs) (starts-sites members ms)

pub starts-new : (members : MemberList) → starts_of (new_world members) ≡ starts members
starts-new members = starts-sites members (range_with_len 0 (length members.entries))
