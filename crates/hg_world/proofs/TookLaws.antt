-- Events that come to one node of a world, one after the other
use Rattle.std.proofs.Common.{◌≡◌, ℕ, ◌<◌, List, [], ◌∷◌, length, get_or, Option, None, Some, Result, Ok, Err, sym, refl, ap, subst, ◌∙◌}
use Rattle.std.specs.Prelude.{IfOk, OnErr}
use Rattle.std.proofs.lemmas.List.{get_or-set_same, map-append, set-get_or}
use Rattle.hg_life.specs.declared.answers.SyncMade.{SyncMade}
use Rattle.hg_life.specs.Calls.{make_changes}
use Rattle.hg_life.specs.Gossip.{made_in_sync}
use Rattle.hg_life.specs.Signing.{accepts_by}
use Rattle.hg_life.specs.History.{Change}
use Rattle.hg_life.specs.NodeView.{NodeView, with_changes}
use Rattle.hg_gossip.specs.declared.gossip.Taken.{Taken}
use Rattle.hg_gossip.specs.Gossip.{WouldMakeAfter, none_taken}
use Rattle.hg_gossip.specs.Holding.{seen_whole}
use Rattle.hg_history.proofs.CallLaws.{with_none}
use Rattle.hg_node.specs.Puts.{WouldAccept}
use Rattle.hg_gossip.specs.Nodes.{MakesOn, Taking, taking, taking_of}
use Rattle.hg_gossip.specs.Taking.{TookSome}
use Rattle.hg_gossip.proofs.TakingLaws.{takes_change}
use Rattle.hg_world.specs.declared.step.Step.{Step}
use Rattle.hg_world.specs.declared.step.Step.TheVariants.{Deliver}
use Rattle.hg_world.specs.World.{Secrets, Site, WorldView, no_site, node_at, site_of, with_node_at, with_site}
use Rattle.hg_world.specs.Steps.{RanFirst, after_steps}
use Rattle.hg_world.specs.Syncs.{HasMadeAfter, HasTaken, deliver_steps}
use Rattle.hg_world.proofs.NodeLaws.{makes}
use Rattle.hg_world.proofs.PullLaws.{puts_set}
use Rattle.hg_world.proofs.WorldLaws.{set_node, site_here}

-- what some events made of the node are some changes
pub grown : {E : Type 0} (v u : NodeView Secrets) (events : List (List ℕ)) (result : Result Taken E) → IfOk result (λ t. taking_of u t ≡ taking accepts_by v events) → OnErr result (TookSome accepts_by v events u) →
    (es : List Change) × (u ≡ with_changes v es)
grown v u events (Ok t) ok err =
    let more = takes_change accepts_by events (taking_of v none_taken) in
    (more.0, ap (λ (t : Taking Secrets). t.node) ok ∙ more.1)
grown v u events (Err e) ok err =
    let more = takes_change accepts_by err.first (taking_of v none_taken) in
    (more.0, err.after ∙ more.1)

-- the world with that node
module _ (w : WorldView) (m : ℕ) (low : m < length w.sites) (site : Site) (read : site ≡ get_or w.sites m site) (u : NodeView Secrets) where
  here : site.node ≡ node_at w m
  here = ap (λ (s : Site). s.node) (site_here w m low site read)

  set_here : node_at (with_site w m (site_of u site.frozen)) m ≡ u
  set_here = ap (λ (s : Site). s.node) (get_or-set_same w.sites m (site_of u site.frozen) no_site low)

  -- the same node
  pub same_is : u ≡ site.node → with_site w m (site_of u site.frozen) ≡ w
  same_is is =
      ap (λ (s : Site). with_site w m s) (ap (λ (v : NodeView Secrets). site_of v site.frozen) is ∙ site_here w m low site read)
      ∙ ap (λ (sites : List Site). let v : WorldView = record { members = w.members; coin = w.coin; sites = sites } in v) (set-get_or w.sites m no_site)

  -- so what it would make, the world's would
  pub would_make : (now : WorldView) → w ≡ now → u ≡ site.node → (other : Option (List ℕ)) (payload : List ℕ) → WouldMakeAfter (seen_whole u) other payload → WouldMakeAfter (seen_whole (node_at now m)) other payload
  would_make now is same other payload would =
      subst (λ (v : NodeView Secrets). WouldMakeAfter (seen_whole v) other payload) (same ∙ (here ∙ ap (λ (x : WorldView). node_at x m) is)) would

  steps_are : (events : List (List ℕ)) → u ≡ (taking accepts_by site.node events).node → with_site w m (site_of u site.frozen) ≡ after_steps w (deliver_steps m events)
  steps_are events is =
      set_node w m low site read u
      ∙ (ap (with_node_at w m) (is ∙ ap (λ (v : NodeView Secrets). (taking accepts_by v events).node) here) ∙ sym (puts_set events w m none_taken low))

  pub took_all : (events : List (List ℕ)) (t : Taken) → taking_of u t ≡ taking accepts_by site.node events → HasTaken w m events t (with_site w m (site_of u site.frozen))
  took_all events t at = record {
    after = steps_are events (ap (λ (s : Taking Secrets). s.node) at);
    counted =
        ap (λ (s : Site). taking_of s.node t) (get_or-set_same w.sites m (site_of u site.frozen) no_site low)
        ∙ (at ∙ ap (λ (v : NodeView Secrets). taking accepts_by v events) here);
  }

  pub took_some : (events : List (List ℕ)) → TookSome accepts_by site.node events u → RanFirst w (deliver_steps m events) (with_site w m (site_of u site.frozen))
  took_some events some = record {
    first = deliver_steps m some.first;
    next = Deliver m some.next;
    rest = deliver_steps m some.rest;
    whole = ap (deliver_steps m) some.whole ∙ map-append (λ (b : List ℕ). let s : Step = Deliver m b in s) some.first (some.next ∷ some.rest);
    after = steps_are some.first some.after;
    needs = subst (λ (v : NodeView Secrets). WouldAccept accepts_by v some.next) (sym set_here) some.full;
  }

  -- an event was made on this other-parent, or none where there is no name
  pub made_so : (other : Option (List ℕ)) (time : ℕ) (payload : List ℕ) (made : SyncMade) → MakesOn accepts_by site.node other time payload u made → HasMadeAfter w m other time payload made (with_site w m (site_of u site.frozen))
  made_so None time payload made is = (is.1, same_is is.0)
  made_so (Some other) time payload made is =
      let one = makes (node_at w m) site.node u (other ∷ []) time payload is.0 here is.1 in
      (is.2 ∙ ap made_in_sync one.0, set_node w m low site read u ∙ ap (with_node_at w m) one.1)

-- what that made of the node is some changes
pub made_changes : (v u : NodeView Secrets) (other : Option (List ℕ)) (time : ℕ) (payload : List ℕ) (made : SyncMade) → MakesOn accepts_by v other time payload u made → (es : List Change) × (u ≡ with_changes v es)
made_changes v u None time payload made is = ([], is.0 ∙ sym (with_none v [] refl))
made_changes v u (Some other) time payload made is = (make_changes v (other ∷ []) time payload is.1.sig, is.1.grown)

-- the same of what came of it
pub all_of : {E : Type 0} (result : Result Taken E) (P Q : Taken → Type 0) → ((t : Taken) → P t → Q t) → IfOk result P → IfOk result Q
all_of (Ok t) P Q then is = then t is
all_of (Err e) P Q then is = tt

pub some_of : {E : Type 0} (result : Result Taken E) (P Q : Type 0) → (P → Q) → OnErr result P → OnErr result Q
some_of (Ok t) P Q then is = tt
some_of (Err e) P Q then is = then is
