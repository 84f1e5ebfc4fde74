-- Events that are put to a node, or come back to it, in their order: how many it accepted, how many it had, which it refused
use Rattle.std.specs.Prelude.{ℕ, suc, Bool, true, false, List, [], ◌∷◌, ◌++◌, fold}
use Rattle.std.specs.List.{list_any}
use Rattle.hg_life.specs.NodeView.{NodeView}
use Rattle.hg_life.specs.Calls.{put_answer}
use Rattle.hg_life.specs.Signing.{Accepts}
use Rattle.hg_life.specs.declared.answers.Fault.{Fault}
use Rattle.hg_life.specs.declared.answers.Fault.TheVariants as fault
use Rattle.hg_life.specs.declared.answers.PutAnswer.{PutAnswer}
use Rattle.hg_life.specs.declared.answers.PutAnswer.TheVariants.{Accepted, Known, Refused}
use Rattle.hg_node.specs.Puts.{after_put}
use Rattle.hg_node.specs.Restore.{after_restore, restore_answer}
use Rattle.hg_service.specs.declared.answer.RefusedEvent.{RefusedEvent}

-- ---- what came of events, by the answers to them

-- how many there were, and what came of them
pub record PutTally : Type 0 where
  pub count : ℕ
  pub accepted : ℕ
  pub known : ℕ
  pub refused : List RefusedEvent

abbrev pub no_puts : PutTally
no_puts = record { count = 0; accepted = 0; known = 0; refused = [] }

-- with one answer more
abbrev pub tallied : PutTally → PutAnswer → PutTally
tallied t (Accepted place) = record { count = suc t.count; accepted = suc t.accepted; known = t.known; refused = t.refused }
tallied t (Known place) = record { count = suc t.count; accepted = t.accepted; known = suc t.known; refused = t.refused }
tallied t (Refused f) = record {
  count = suc t.count;
  accepted = t.accepted;
  known = t.known;
  refused = t.refused ++ record { number = t.count; fault = f } ∷ [];
}

-- an event by the node's own member that the node did not make
abbrev pub is_impostor : Fault → Bool
is_impostor fault.Impostor = true
is_impostor _ = false

abbrev pub has_impostor : List RefusedEvent → Bool
has_impostor refused = list_any (λ (r : RefusedEvent). is_impostor r.fault) refused

-- ---- what comes of events at a node

-- the node once they were put, and what came of them
pub record Putting (K : Type 0) : Type 0 where
  pub node : NodeView K
  pub tally : PutTally

abbrev pub nothing_put : {K : Type 0} → NodeView K → Putting K
nothing_put v = record { node = v; tally = no_puts }

-- with one event more
abbrev pub put_one : {K : Type 0} → (K → Accepts) → Putting K → List ℕ → Putting K
put_one accepts p bytes = record {
  node = after_put accepts p.node bytes;
  tally = tallied p.tally (put_answer accepts p.node bytes);
}

abbrev pub restore_one : {K : Type 0} → (K → Accepts) → Putting K → List ℕ → Putting K
restore_one accepts p bytes = record {
  node = after_restore accepts p.node bytes;
  tally = tallied p.tally (restore_answer accepts p.node bytes);
}

abbrev pub puts : {K : Type 0} → (K → Accepts) → NodeView K → List (List ℕ) → Putting K
puts accepts v events = fold (put_one accepts) (nothing_put v) events

abbrev pub restores : {K : Type 0} → (K → Accepts) → NodeView K → List (List ℕ) → Putting K
restores accepts v events = fold (restore_one accepts) (nothing_put v) events
