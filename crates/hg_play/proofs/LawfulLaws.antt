-- The run of a script's steps is lawful, where the rows that were made over other nodes, alike but for marks, are events
use Rattle.std.proofs.Common.{◌≡◌, ℕ, zero, suc, ◌<◌, ◌≤◌, Bool, true, false, cond, List, [], ◌∷◌, ◌++◌, length, map, get_or, Option, Some, None, sym, refl, ap, ◌∙◌, subst, arith}
use Rattle.std.specs.Prelude.{All}
use Rattle.std.specs.List.{AllByRecursion}
use Rattle.std.proofs.lemmas.List.{length-map}
use Rattle.std.proofs.lemmas.List.Elements.{All-head, All-tail}
use Rattle.hg_graph.specs.Held.{AreEvents}
use Rattle.hg_outcome.specs.declared.outcome.Printed.{Printed}
use Rattle.hg_outcome.specs.declared.outcome.Outcome.{Outcome}
use Rattle.hg_life.specs.Members.{MemberList, has_node}
use Rattle.hg_script.specs.declared.line.Gossip.{Gossip}
use Rattle.hg_script.specs.declared.line.Gossip.TheVariants.{Create, Sync, Pull, Join, Give}
use Rattle.hg_script.specs.declared.line.Part.TheVariants as part
use Rattle.hg_script.specs.declared.line.Action.{Action}
use Rattle.hg_script.specs.declared.line.Action.TheVariants as action
use Rattle.hg_script.specs.declared.line.Line.{Line}
use Rattle.hg_script.specs.Lawful.{IsLine, IsWithWorkers}
use Rattle.hg_world.specs.declared.step.Step.{Step}
use Rattle.hg_world.specs.declared.step.Step.TheVariants.{Deliver}
use Rattle.hg_world.specs.World.{WorldView, new_world}
use Rattle.hg_world.specs.Steps.{IsBounded, IsStepOf, actor, after_steps, settle_steps}
use Rattle.hg_world.specs.Syncs.{make_steps, pull_steps}
use Rattle.hg_world.specs.Parts.{HaveEvents, IsWorld}
use Rattle.hg_world.proofs.LawfulLaws.{steps_lawful, worlds_have_events}
use Rattle.hg_world.proofs.WorldLaws.{safe}
use Rattle.hg_play.specs.Agree.{IsAgreed}
use Rattle.hg_play.specs.Alike.{WorldsAlike}
use Rattle.hg_play.specs.Batch.{IsLineOfRows, IsPlayed}
use Rattle.hg_play.specs.Labels.{name_of_label}
use Rattle.hg_play.specs.Lines.{IsBelow, IsGossipBelow, IsLineBelow, action_steps, gossip_steps}
use Rattle.hg_play.specs.Nodes.{Closes, MatchesBlocks, seen_alone}
use Rattle.hg_play.specs.Play.{IsSafePlay, Stage, after_line, after_lines, end_blocks, end_steps, first_stage, lines_steps, play_steps}
use Rattle.hg_play.specs.Sites.{starts, starts_of}
use Rattle.hg_play.specs.Through.{IsOfRows}
use Rattle.hg_play.proofs.AgreeLaws.{agreed}
use Rattle.hg_play.proofs.AlikeLaws.{step_alike}
use Rattle.hg_play.proofs.LikeLaws.{blocks_alike, starts_alike}
use Rattle.hg_play.proofs.PlayLaws.{lines_below}
use Rattle.hg_play.proofs.WorldLaws.{play-steps, safe-play, starts-lines, starts-new, starts_length}

-- with workers the lines do not depend on marks
line_of_rows : (workers : ℕ) (a : Action) → 0 < workers → IsWithWorkers workers a → IsOfRows a
line_of_rows workers (action.Part p) some with = tt
line_of_rows workers (action.Freeze m worker) some with = absurd (omega (arith, with, some))
line_of_rows workers (action.Publish m worker) some with = absurd (omega (arith, with, some))
line_of_rows workers (action.Kept m) some with = absurd (omega (arith, with, some))
line_of_rows workers (action.Show m) some with = tt
line_of_rows workers (action.Names m) some with = tt

pub lines_of_rows : (members : MemberList) (workers : ℕ) (lines : List Line) → 0 < workers → All (IsLine members workers) lines → All IsLineOfRows lines
lines_of_rows members workers lines some lawful = λ k d low. line_of_rows workers (get_or lines k d).action some (lawful k d low).1

-- the steps of lines are steps of the world

module _ (n : ℕ) where
  abbrev IsStepBelow : Step → Type 0
  IsStepBelow step = (actor step < n) × IsBounded step

  both : (xs ys : List Step) → AllByRecursion IsStepBelow xs → AllByRecursion IsStepBelow ys → AllByRecursion IsStepBelow (xs ++ ys)
  both [] ys all more = more
  both (x ∷ xs) ys all more = (all.0, both xs ys all.1 more)

  delivered : (m : ℕ) (events : List (List ℕ)) → m < n → AllByRecursion IsStepBelow (map (λ (bytes : List ℕ). Deliver m bytes) events)
  delivered m [] low = tt
  delivered m (bytes ∷ events) low = ((low, tt), delivered m events low)

  made : (m : ℕ) (other : Option (List ℕ)) (time : ℕ) (payload : List ℕ) → m < n → AllByRecursion IsStepBelow (make_steps m other time payload)
  made m None time payload low = tt
  made m (Some other) time payload low = ((low, omega arith), tt)

  settled : (m : ℕ) → m < n → AllByRecursion IsStepBelow (settle_steps m)
  settled m low = ((low, omega arith), ((low, omega arith), tt))

  gossip_below : (w : WorldView) (labels : List (List ℕ)) (g : Gossip) → IsGossipBelow n g → AllByRecursion IsStepBelow (gossip_steps w labels g)
  gossip_below w labels (Create m time payload) below = ((below, omega arith), tt)
  gossip_below w labels (Sync taker peer time payload) below = both (pull_steps w taker peer) _ (delivered taker _ below.0) (made taker _ time payload below.0)
  gossip_below w labels (Pull taker peer) below = delivered taker _ below.0
  gossip_below w labels (Join m others time payload) below = ((below.0, omega (arith, below.1, length-map others (name_of_label labels))), tt)
  gossip_below w labels (Give m label) below = ((below, tt), tt)

  action_below : (w : WorldView) (labels : List (List ℕ)) (a : Action) → IsBelow n a → AllByRecursion IsStepBelow (action_steps w labels a)
  action_below w labels (action.Part (part.Gossip g)) below = gossip_below w labels g below
  action_below w labels (action.Part (part.Label source)) below = tt
  action_below w labels (action.Freeze m worker) below = (below, tt)
  action_below w labels (action.Publish m worker) below = (below, tt)
  action_below w labels (action.Kept m) below = tt
  action_below w labels (action.Show m) below = settled m below
  action_below w labels (action.Names m) below = settled m below

  steps_below : (members : MemberList) (s : Stage) (lines : List Line) → All (IsLineBelow n) lines → AllByRecursion IsStepBelow (lines_steps members s lines)
  steps_below members s [] below = tt
  steps_below members s (line ∷ lines) below =
      both (action_steps s.world s.labels line.action) (lines_steps members (after_line members s line) lines)
      (action_below s.world s.labels line.action (All-head (IsLineBelow n) line lines below)) (steps_below members (after_line members s line) lines (All-tail (IsLineBelow n) line lines below))

  settled_if : (m : ℕ) (has : Bool) → m < n → AllByRecursion IsStepBelow (cond has (settle_steps m) [])
  settled_if m true low = settled m low
  settled_if m false low = tt

  ends_below : (members : MemberList) (k : ℕ) → k ≤ n → AllByRecursion IsStepBelow (end_steps members k)
  ends_below members zero few = tt
  ends_below members (suc k) few = both (end_steps members k) _ (ends_below members k (omega (arith, few))) (settled_if k (has_node members k) (omega (arith, few)))

of_world : (w : WorldView) (n : ℕ) (steps : List Step) → n ≡ length w.sites → AllByRecursion (IsStepBelow n) steps → AllByRecursion (IsStepOf w) steps
of_world w n [] same below = tt
of_world w n (step ∷ steps) same below = ((omega (arith, same, below.0.0), below.0.1), of_world w n steps same below.1)

pub steps_like : (steps : List Step) (w v : WorldView) → WorldsAlike w v → WorldsAlike (after_steps w steps) (after_steps v steps)
steps_like [] w v alike = alike
steps_like (step ∷ steps) w v alike = steps_like steps _ _ (step_alike w v step alike).0

-- what comes of a play, from the nodes that were played and the blocks behind what was printed
pub record Ends (members : MemberList) (lines : List Line) (before pieces : List Printed) : Type 0 where
  pub shown : pieces ≡ before ++ end_blocks members (after_lines members (first_stage members) lines).world
  pub safely : IsSafePlay members lines
  pub agreeing : IsAgreed members lines

pub ends : (members : MemberList) (lines : List Line) (world last : WorldView) (printed before pieces : List Printed) → IsWorld (new_world members) → All (IsLineBelow (length members.entries)) lines →
    IsPlayed members lines world printed → MatchesBlocks (seen_alone world) (seen_alone last) members before pieces → IsWorld last → Ends members lines before pieces
ends members lines world last printed before pieces new below played told is_last =
    let s = after_lines members (first_stage members) lines in
    let tail = end_steps members (length members.entries) in
    let run = after_steps s.world tail in
    let begun : starts_of s.world ≡ starts members = starts-lines members (first_stage members) lines ∙ starts-new members in
    let begun_here : starts_of world ≡ starts members = starts_alike world s.world played.world ∙ begun in
    let shown = told tt world refl in
    let alike : WorldsAlike last run = subst (λ (w : WorldView). WorldsAlike w run) (sym shown.1) (steps_like tail world s.world played.world) in
    let all = play_steps members lines in
    let is_run : run ≡ after_steps (new_world members) all = play-steps members lines run refl in
    let count : length members.entries ≡ length (new_world members).sites = sym (starts_length members (new_world members) (starts-new members)) in
    let may : AllByRecursion (IsStepOf (new_world members)) all =
    of_world (new_world members) (length members.entries) all count
    (both (length members.entries) (lines_steps members (first_stage members) lines) tail (steps_below (length members.entries) members (first_stage members) lines below)
    (ends_below (length members.entries) members (length members.entries) (omega arith))) in
    let events : HaveEvents run = λ m low. subst AreEvents (alike.nodes m).rows (worlds_have_events last is_last m (omega (arith, low, alike.count))) in
    let lawful : IsWorld run = subst IsWorld (sym is_run) (steps_lawful (new_world members) all new may (subst HaveEvents is_run events)) in
    let so : IsSafePlay members lines = safe-play members lines run refl (safe run lawful) in
    record {
      shown = shown.0 begun_here ∙ ap (λ (ps : List Printed). before ++ ps) (blocks_alike world s.world played.world members);
      safely = so;
      agreeing = agreed members lines run refl lawful below so;
    }

-- the same of an outcome
pub ended : (members : MemberList) (workers : ℕ) (lines : List Line) (world : WorldView) (printed before : List Printed) (outcome : Outcome) → All (IsLine members workers) lines → IsWorld (new_world members) →
    IsPlayed members lines world printed → Closes members world before outcome → Ends members lines before outcome.printed
ended members workers lines world printed before outcome lawful new played closes =
    ends members lines world closes.last printed before outcome.printed new (lines_below members workers (length members.entries) lines refl lawful) played closes.blocks closes.lawful

-- there is a node for each member
pub played_count : (members : MemberList) (lines : List Line) (world : WorldView) (printed : List Printed) → IsPlayed members lines world printed → length world.sites ≡ length members.entries
played_count members lines world printed played =
    let s = after_lines members (first_stage members) lines in
    played.world.count ∙ starts_length members s.world (starts-lines members (first_stage members) lines ∙ starts-new members)

pub new_count : (members : MemberList) (world : WorldView) → world ≡ new_world members → length world.sites ≡ length members.entries
new_count members world is = starts_length members world (ap starts_of is ∙ starts-new members)
