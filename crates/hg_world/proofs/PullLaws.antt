-- Pulls and syncs as steps
use Rattle.std.proofs.Common.{inl, inr, ◌≡◌, ℕ, ◌<◌, List, [], ◌∷◌, ◌++◌, length, fold, Option, Some, None, Result, Ok, Err, refl, subst, sym, ap, ap₂, ◌∙◌, arith}
use Rattle.std.specs.Prelude.{OnErr, IfOk}
use Rattle.std.proofs.lemmas.List.{get_or-set_same, length-set, set-get_or, set-set}
use Rattle.hg_life.specs.declared.answers.SyncMade.{SyncMade}
use Rattle.hg_life.specs.declared.answers.SyncReport.{SyncReport}
use Rattle.hg_life.specs.Signing.{accepts_by}
use Rattle.hg_life.specs.NodeView.{NodeView}
use Rattle.hg_gossip.specs.declared.gossip.Taken.{Taken}
use Rattle.hg_gossip.specs.Gossip.{WouldMakeAfter, none_taken, with_answer}
use Rattle.hg_gossip.specs.Holding.{seen_whole}
use Rattle.hg_gossip.specs.Nodes.{Taking, lacked, take_event, taking, taking_of}
use Rattle.hg_world.specs.declared.step.Step.{Step}
use Rattle.hg_world.specs.declared.step.Step.TheVariants.{Deliver, Make}
use Rattle.hg_world.specs.World.{Secrets, WorldView, Site, no_site, node_at, site_at, site_of, with_node_at, with_site}
use Rattle.hg_world.specs.Steps.{NeedsMemory, RanFirst, RanSome, after_step, after_steps, node_put, putting_at}
use Rattle.hg_world.specs.Syncs.{HasMadeAfter, HasPulled, HasSynced, HasTaken, deliver_steps, last_made, make_steps, made_after, pull_steps, pulled, sync_steps}
use Rattle.hg_world.specs.Laws.{PullsSetOneNode}
use Rattle.hg_world.proofs.StepLaws.{after_both, ran_before}

pub errs : {A E : Type 0} (result : Result A E) (P : Type 0) → P → OnErr result P
errs (Ok a) P p = tt
errs (Err e) P p = p

-- what a pull leaves, by what it takes
pulls : (old new : WorldView) (taker peer : ℕ) (events : List (List ℕ)) (counts : Taken) → events ≡ lacked (node_at old taker) (node_at old peer) → HasTaken old taker events counts new → HasPulled old taker peer counts new
pulls old new taker peer events counts is taken =
    let counted : taking_of (node_at new taker) counts ≡ pulled old taker peer = taken.counted ∙ ap (taking accepts_by (node_at old taker)) is in
    record {
      counts = ap (λ (t : Taking Secrets). t.counts) counted;
      after = taken.after ∙ ap (λ (es : List (List ℕ)). after_steps old (deliver_steps taker es)) is;
      node = ap (λ (t : Taking Secrets). t.node) counted;
    }

pub pull_ended : {E : Type 0} (old new : WorldView) (taker peer : ℕ) (events put : List (List ℕ)) (result : Result Taken E) → events ≡ lacked (node_at old taker) (node_at old peer) → put ≡ events →
    IfOk result (λ counts. HasTaken old taker put counts new) → IfOk result (λ counts. HasPulled old taker peer counts new)
pull_ended old new taker peer events put (Ok counts) is same taken = pulls old new taker peer put counts (same ∙ is) taken
pull_ended old new taker peer events put (Err e) is same taken = tt

-- a pull without memory: to hand the rows over, or for the next of them
pub pull_none : {A E : Type 0} (old new : WorldView) (taker peer : ℕ) (result : Result A E) → new ≡ old → OnErr result (RanSome old (pull_steps old taker peer) new)
pull_none old new taker peer (Ok a) same = tt
pull_none old new taker peer (Err e) same = inl same

pub pull_stopped : {A E : Type 0} (old new : WorldView) (taker peer : ℕ) (events put : List (List ℕ)) (result : Result A E) → events ≡ lacked (node_at old taker) (node_at old peer) → put ≡ events →
    OnErr result (RanFirst old (deliver_steps taker put) new) → OnErr result (RanSome old (pull_steps old taker peer) new)
pull_stopped old new taker peer events put (Ok a) is same ran = tt
pull_stopped old new taker peer events put (Err e) is same ran =
    inr (subst (λ (rows : List (List ℕ)). RanFirst old (deliver_steps taker rows) new) (same ∙ is) ran)

-- a sync without memory: in its pull, or for its event
pub sync_stopped : {E : Type 0} (old new : WorldView) (taker peer time : ℕ) (payload : List ℕ) (result : Result SyncReport E) → RanSome old (pull_steps old taker peer) new →
    OnErr result (RanSome old (sync_steps old taker peer time payload) new)
sync_stopped old new taker peer time payload (Ok a) ran = tt
sync_stopped old new taker peer time payload (Err e) ran = ran_before old new (pull_steps old taker peer) (make_steps taker (last_made (node_at old peer)) time payload) ran

make_stopped : (old now new : WorldView) (taker : ℕ) (steps : List Step) (last : Option (List ℕ)) (time : ℕ) (payload : List ℕ) → now ≡ after_steps old steps → new ≡ now →
    WouldMakeAfter (seen_whole (node_at now taker)) last payload → RanSome old (steps ++ make_steps taker last time payload) new
make_stopped old now new taker steps None time payload after same would = absurd would
make_stopped old now new taker steps (Some other) time payload after same would = inr (record {
  first = steps;
  next = Make taker (other ∷ []) time payload;
  rest = [];
  whole = refl;
  after = same ∙ after;
  needs = subst (λ (w : WorldView). NeedsMemory w (Make taker (other ∷ []) time payload)) (sym same) would;
})

pub make_missed : {E : Type 0} (old now new : WorldView) (taker peer : ℕ) (last : Option (List ℕ)) (time : ℕ) (payload : List ℕ) (counts : Taken) (result : Result SyncReport E) → last ≡ last_made (node_at old peer) →
    HasPulled old taker peer counts now → new ≡ now → WouldMakeAfter (seen_whole (node_at now taker)) last payload → OnErr result (RanSome old (sync_steps old taker peer time payload) new)
make_missed old now new taker peer last time payload counts (Ok a) is pull same would = tt
make_missed old now new taker peer last time payload counts (Err e) is pull same would =
    subst (λ (o : Option (List ℕ)). RanSome old (pull_steps old taker peer ++ make_steps taker o time payload) new) is
    (make_stopped old now new taker (pull_steps old taker peer) last time payload pull.after same would)

-- what a sync leaves and reports
pub syncs : (old now new : WorldView) (taker peer : ℕ) (last : Option (List ℕ)) (time : ℕ) (payload : List ℕ) (counts : Taken) (made : SyncMade) → last ≡ last_made (node_at old peer) →
    HasPulled old taker peer counts now → HasMadeAfter now taker last time payload made new →
    HasSynced old taker peer time payload (record { taken = counts.taken; refused = counts.refused; made = made }) new
syncs old now new taker peer last time payload counts made is pull makes =
    let report : Taken → SyncMade → SyncReport = λ t r. record { taken = t.taken; refused = t.refused; made = r } in (
      ap₂ report pull.counts (makes.0 ∙ ap₂ (λ (v : NodeView Secrets) (o : Option (List ℕ)). made_after v o time payload) pull.node is),
      makes.1
          ∙ (ap₂ (λ (w : WorldView) (o : Option (List ℕ)). after_steps w (make_steps taker o time payload)) pull.after is
          ∙ sym (after_both old (pull_steps old taker peer) (make_steps taker (last_made (node_at old peer)) time payload))),
    )

-- events that come to one node set that node
pub puts_set : (events : List (List ℕ)) (w : WorldView) (m : ℕ) (counts : Taken) → m < length w.sites →
    after_steps w (deliver_steps m events) ≡ with_node_at w m (fold (take_event accepts_by) (taking_of (node_at w m) counts) events).node
puts_set [] w m counts low =
    ap (λ (sites : List Site). let u : WorldView = record { members = w.members; coin = w.coin; sites = sites } in u) (sym (set-get_or w.sites m no_site))
puts_set (bytes ∷ events) w m counts low =
    let site : Site = site_of (node_put (node_at w m) bytes) (site_at w m).frozen in
    let next : WorldView = after_step w (Deliver m bytes) in
    let more : Taken = with_answer counts (putting_at (node_at w m) bytes) in
    let read : site_at next m ≡ site = get_or-set_same w.sites m site no_site low in
    let end : NodeView Secrets → NodeView Secrets = λ v. (fold (take_event accepts_by) (taking_of v more) events).node in
    puts_set events next m more (omega (arith, low, length-set w.sites m site))
    ∙ (ap (λ (s : Site). with_site next m (site_of (end s.node) s.frozen)) read
    ∙ ap (λ (sites : List Site). let u : WorldView = record { members = w.members; coin = w.coin; sites = sites } in u)
    (set-set w.sites m site (site_of (end site.node) site.frozen)))

pub pulls_set : PullsSetOneNode
pulls_set w taker peer low = puts_set (lacked (node_at w taker) (node_at w peer)) w taker none_taken low
