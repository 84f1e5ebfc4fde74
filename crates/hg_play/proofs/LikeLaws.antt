-- Lines over a world whose nodes are those of a stage, but for marks
use Rattle.std.proofs.Common.{◌≡◌, ℕ, ◌<◌, List, [], ◌∷◌, ◌++◌, length, option_map, unwrap_or, sym, refl, ap, ap₂, ◌∙◌, subst, arith}
use Rattle.std.proofs.lemmas.List.{length-map, get_or-map, ext_get_or}
use Rattle.hg_model.specs.declared.row.Row.{Row}
use Rattle.hg_life.specs.declared.answers.PutAnswer.{PutAnswer}
use Rattle.hg_life.specs.declared.answers.MakeAnswer.{MakeAnswer}
use Rattle.hg_life.specs.declared.answers.SyncReport.{SyncReport}
use Rattle.hg_outcome.specs.declared.outcome.Printed.{Printed}
use Rattle.hg_outcome.specs.declared.outcome.Printed.TheVariants as printed
use Rattle.hg_life.specs.Members.{MemberList, has_node}
use Rattle.hg_outcome.specs.Ledger.{block_of}
use Rattle.hg_model.specs.Places.{list_below}
use Rattle.hg_life.specs.Signing.{secrets_of}
use Rattle.hg_life.specs.Verdict.{last_name}
use Rattle.hg_life.specs.NodeView.{Start}
use Rattle.hg_gossip.specs.declared.gossip.Taken.{Taken}
use Rattle.hg_script.specs.declared.line.Gossip.{Gossip}
use Rattle.hg_script.specs.declared.line.Gossip.TheVariants.{Create, Sync, Pull, Join, Give}
use Rattle.hg_script.specs.declared.line.Source.{Source}
use Rattle.hg_script.specs.declared.line.Source.TheVariants.{Last, Forged, Raw, Altered, Front}
use Rattle.hg_script.specs.declared.line.Part.TheVariants as part
use Rattle.hg_script.specs.declared.line.Action.{Action}
use Rattle.hg_script.specs.declared.line.Action.TheVariants as action
use Rattle.hg_script.specs.declared.line.Line.{Line}
use Rattle.hg_world.specs.declared.step.Step.{Step}
use Rattle.hg_world.specs.World.{Secrets, Site, WorldView, no_site, node_at, rows_at}
use Rattle.hg_world.specs.Steps.{after_step, after_steps}
use Rattle.hg_play.specs.Alike.{WorldsAlike}
use Rattle.hg_play.specs.Labels.{bytes_named, names_of_labels, source_bytes}
use Rattle.hg_play.specs.Lines.{action_labels, action_printed, action_steps, gossip_printed, gossip_steps}
use Rattle.hg_play.specs.Nodes.{IsStage, MatchesLine, seen_alone}
use Rattle.hg_play.specs.Play.{Stage, after_line, end_blocks, stage}
use Rattle.hg_play.specs.Sites.{starts_of}
use Rattle.hg_play.specs.Tape.{TapeView, tape}
use Rattle.hg_play.specs.Through.{IsOfRows, IsStageLike, LinesNeedRowsAlone, StagesAlike}
use Rattle.hg_play.proofs.AlikeLaws.{gossip_alike, same_of, stay_alike, step_alike}
use Rattle.hg_play.proofs.WorldLaws.{starts-steps}

module _ (w v : WorldView) (alike : WorldsAlike w v) where
  rows_alike : (m : ℕ) → rows_at w m ≡ rows_at v m
  rows_alike m = (alike.nodes m).rows

  -- the nodes began alike
  pub starts_alike : starts_of w ≡ starts_of v
  starts_alike =
      let start : Site → Start Secrets = λ site. site.node.start in
      let none : Start Secrets = no_site.node.start in
      ext_get_or none (starts_of w) (starts_of v) (length-map w.sites start ∙ (alike.count ∙ sym (length-map v.sites start)))
      (λ k low.
      let inside : k < length w.sites = omega (arith, low, length-map w.sites start) in
      get_or-map start w.sites k no_site none inside
      ∙ ((alike.nodes k).start ∙ sym (get_or-map start v.sites k no_site none (omega (arith, inside, alike.count)))))

  gossip_steps_alike : (labels : List (List ℕ)) (g : Gossip) → gossip_steps w labels g ≡ gossip_steps v labels g
  gossip_steps_alike labels (Create m time payload) = refl
  gossip_steps_alike labels (Sync taker peer time payload) = (gossip_alike w v taker peer alike).sync time payload
  gossip_steps_alike labels (Pull taker peer) = (gossip_alike w v taker peer alike).pull
  gossip_steps_alike labels (Join m others time payload) = refl
  gossip_steps_alike labels (Give m label) = refl

  action_steps_alike : (labels : List (List ℕ)) (a : Action) → IsOfRows a → action_steps w labels a ≡ action_steps v labels a
  action_steps_alike labels (action.Part (part.Gossip g)) of = gossip_steps_alike labels g
  action_steps_alike labels (action.Part (part.Label source)) of = refl
  action_steps_alike labels (action.Freeze m worker) of = absurd of
  action_steps_alike labels (action.Publish m worker) of = absurd of
  action_steps_alike labels (action.Kept m) of = absurd of
  action_steps_alike labels (action.Show m) of = refl
  action_steps_alike labels (action.Names m) of = refl

  gossip_printed_alike : (labels : List (List ℕ)) (number : ℕ) (g : Gossip) → gossip_printed w labels number g ≡ gossip_printed v labels number g
  gossip_printed_alike labels number (Create m time payload) =
      ap (λ (a : MakeAnswer). printed.Create number a) ((stay_alike (node_at w m) (node_at v m) (alike.nodes m)).made [] time payload).0
  gossip_printed_alike labels number (Sync taker peer time payload) = ap (λ (r : SyncReport). printed.Sync number r) ((gossip_alike w v taker peer alike).report time payload)
  gossip_printed_alike labels number (Pull taker peer) = ap (λ (t : Taken). printed.Pull number t.taken t.refused) (gossip_alike w v taker peer alike).counts
  gossip_printed_alike labels number (Join m others time payload) =
      ap (λ (a : MakeAnswer). printed.Join number a) ((stay_alike (node_at w m) (node_at v m) (alike.nodes m)).made (names_of_labels labels others) time payload).0
  gossip_printed_alike labels number (Give m label) = ap (λ (a : PutAnswer). printed.Give number a) ((stay_alike (node_at w m) (node_at v m) (alike.nodes m)).put _).0

  action_printed_alike : (members : MemberList) (labels : List (List ℕ)) (number : ℕ) (a : Action) → IsOfRows a → action_printed members w labels number a ≡ action_printed members v labels number a
  action_printed_alike members labels number (action.Part (part.Gossip g)) of = ap (λ (p : Printed). p ∷ []) (gossip_printed_alike labels number g)
  action_printed_alike members labels number (action.Part (part.Label source)) of = refl
  action_printed_alike members labels number (action.Freeze m worker) of = absurd of
  action_printed_alike members labels number (action.Publish m worker) of = absurd of
  action_printed_alike members labels number (action.Kept m) of = absurd of
  action_printed_alike members labels number (action.Show m) of = ap (λ (G : List Row). printed.Block (block_of members m G) ∷ []) (rows_alike m)
  action_printed_alike members labels number (action.Names m) of = ap (λ (G : List Row). printed.Names (block_of members m G) ∷ []) (rows_alike m)

  source_alike : (secrets : Secrets) (labels : List (List ℕ)) (source : Source) → source_bytes secrets w labels source ≡ source_bytes secrets v labels source
  source_alike secrets labels (Last m) = same_of (λ s G. unwrap_or (option_map (bytes_named G) (last_name s.own G)) []) (node_at w m) (node_at v m) (alike.nodes m)
  source_alike secrets labels (Forged m parents time payload) = refl
  source_alike secrets labels (Raw bytes) = refl
  source_alike secrets labels (Altered label at mask) = refl
  source_alike secrets labels (Front label len) = refl

  action_labels_alike : (members : MemberList) (labels : List (List ℕ)) (a : Action) → action_labels members w labels a ≡ action_labels members v labels a
  action_labels_alike members labels (action.Part (part.Gossip g)) = refl
  action_labels_alike members labels (action.Part (part.Label source)) = ap (λ (bytes : List ℕ). labels ++ bytes ∷ []) (source_alike (secrets_of members) labels source)
  action_labels_alike members labels (action.Freeze m worker) = refl
  action_labels_alike members labels (action.Publish m worker) = refl
  action_labels_alike members labels (action.Kept m) = refl
  action_labels_alike members labels (action.Show m) = refl
  action_labels_alike members labels (action.Names m) = refl

  -- and at the end the same blocks are shown
  pub blocks_alike : (members : MemberList) → end_blocks members w ≡ end_blocks members v
  blocks_alike members = λ i. list_below (λ (m : ℕ). let p : Printed = printed.Block (block_of members m (rows_alike m i)) in p) (length members.entries) (has_node members)

steps_alike : (steps : List Step) (w v : WorldView) → WorldsAlike w v → WorldsAlike (after_steps w steps) (after_steps v steps)
steps_alike [] w v alike = alike
steps_alike (step ∷ steps) w v alike = steps_alike steps (after_step w step) (after_step v step) (step_alike w v step alike).0

pub worlds_alike : (w : WorldView) → WorldsAlike w w
worlds_alike w = record { count = refl; nodes = λ m. record { start = refl; rows = refl } }

-- lines print alike, and leave stages alike
pub stage_alike : LinesNeedRowsAlone
stage_alike members s t line of like =
    let a : Action = line.action in
    let w : WorldView = s.world in
    let v : WorldView = t.world in
    let steps : action_steps w s.labels a ≡ action_steps v t.labels a =
    action_steps_alike w v like.world s.labels a of ∙ ap (λ (ls : List (List ℕ)). action_steps v ls a) like.labels in
    record {
      world = subst (λ (ss : List Step). WorldsAlike (after_steps w (action_steps w s.labels a)) (after_steps v ss)) steps (steps_alike (action_steps w s.labels a) w v like.world);
      labels = action_labels_alike w v like.world members s.labels a ∙ ap (λ (ls : List (List ℕ)). action_labels members v ls a) like.labels;
      printed = ap₂ (λ (ps qs : List Printed). ps ++ qs) like.printed
          (action_printed_alike w v like.world members s.labels line.number a of ∙ ap (λ (ls : List (List ℕ)). action_printed members v ls line.number a) like.labels);
    }

-- a line that was played over a world whose nodes are those of a stage, but for marks
pub line_like : (members : MemberList) (line : Line) (old new : WorldView) (t t_new : TapeView) → IsOfRows line.action → MatchesLine members line (seen_alone old) t (seen_alone new) t_new →
    (s : Stage) → IsStageLike members old t s → IsStageLike members new t_new (after_line members s line)
line_like members line old new t t_new of told s is =
    let own : Stage = stage old t.labels t.printed in
    let like : StagesAlike own s = record {
      world = is.agrees;
      labels = ap (λ (u : TapeView). u.labels) is.taped;
      printed = ap (λ (u : TapeView). u.printed) is.taped;
    } in
    let here : IsStage members (seen_alone old) t own = record { agrees = refl; begun = starts_alike old s.world is.agrees ∙ is.begun; taped = refl } in
    let after = told tt own here in
    let both = stage_alike members own s line of like in
    record {
      agrees = subst (λ (u : WorldView). WorldsAlike u (after_line members s line).world) (sym after.agrees) both.world;
      begun = starts-steps s.world (action_steps s.world s.labels line.action) ∙ is.begun;
      taped = after.taped ∙ ap₂ tape both.labels both.printed;
    }
