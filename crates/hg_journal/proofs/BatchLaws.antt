-- Records one behind the other, and the node that they lead to.
use Rattle.std.proofs.Common.{◌≡◌, inl, inr, ℕ, ◌+◌, ◌<◌, ◌≤◌, List, [], ◌∷◌, ◌++◌, length, Some, sym, ◌∙◌, ap, subst, arith, append_assoc, length-append}
use Rattle.std.proofs.lemmas.Nat.{from_be_bytes-to_be_bytes_2}
use Rattle.hg_io.specs.FileView.{FileView}
use Rattle.hg_life.specs.NodeView.{NodeView}
use Rattle.hg_life.specs.Signing.{Accepts}
use Rattle.hg_journal.specs.Batches.{BatchKeeps, BatchLeads, BatchStores, IsBatch, IsPending, PendingKeeps, PendingStores, joined}
use Rattle.hg_journal.specs.Journal.{next_node}
use Rattle.hg_journal.specs.Places.{Leads}
use Rattle.hg_journal.specs.Reading.{Next}
use Rattle.hg_journal.specs.Records.{spelled}
use Rattle.hg_journal.specs.Stored.{IsNear, IsStored}
use Rattle.hg_journal.proofs.NodeLaws.{next_more}
use Rattle.hg_journal.proofs.Scanning.{leads_more}
use Rattle.hg_journal.proofs.Steps.{near_then, still_keeps}

module _ {S : Type 0} (next : Next S) (s t : S) (kind : ℕ) (body : List ℕ) (small : length body < 65536) (to : next s kind body ≡ Some t) where
  -- one record, behind an open gate
  record_leads : (first : S) (head front : List ℕ) (gate : ℕ) → (gate ≡ 0 → ⊥) → Leads next first head front s → Leads next first head (front ++ gate ∷ spelled kind body) t
  record_leads first head front gate open_gate leads =
      leads_more next first head front s t gate kind _ _ body leads open_gate to (from_be_bytes-to_be_bytes_2 (length body) small)

  pub batch_of_one : IsBatch next s (spelled kind body) t
  batch_of_one = record { leads = record_leads }

  -- one more, behind a batch
  pub batch_and_one : (was : S) (bytes : List ℕ) → IsBatch next was bytes s → IsBatch next was (bytes ++ 1 ∷ spelled kind body) t
  batch_and_one was bytes batch = record {
    leads = λ first head front gate open_gate leads.
        subst (λ (l : List ℕ). Leads next first head l t) (append_assoc front (gate ∷ bytes) (1 ∷ spelled kind body))
        (record_leads first head (front ++ gate ∷ bytes) 1 (λ no. omega (arith, no)) (batch.leads first head front gate open_gate leads));
  }

pub length-joined : (bytes more : List ℕ) → length (joined bytes more) ≤ length bytes + (1 + length more)
length-joined [] more = omega arith
length-joined (byte ∷ bytes) more = omega (arith, length-append bytes (1 ∷ more))

module _ {K : Type 0} (accepts : K → Accepts) where
  module _ (v w : NodeView K) (kind : ℕ) (body : List ℕ) (small : length body < 65536) (to : next_node accepts v kind body ≡ Some w) where
    first_leads : BatchLeads accepts v (spelled kind body) w
    first_leads =
        let more = next_more v w accepts kind body to in
        record { begins = more.0; some = omega arith; batch = batch_of_one (next_node accepts) v w kind body small to; grown = omega (arith, more.1, small) }

    next_leads : (was : NodeView K) (bytes : List ℕ) → BatchLeads accepts was bytes v → BatchLeads accepts was (bytes ++ 1 ∷ spelled kind body) w
    next_leads was bytes leads =
        let more = next_more v w accepts kind body to in
        record {
          begins = more.0 ∙ leads.begins;
          some = omega (arith, leads.some, length-append bytes (1 ∷ spelled kind body));
          batch = batch_and_one (next_node accepts) v w kind body small to was bytes leads.batch;
          grown = omega (arith, more.1, small, leads.grown, length-append bytes (1 ∷ spelled kind body));
        }

    -- a record more is pending
    pub pends_more : (was : NodeView K) (bytes : List ℕ) → IsPending accepts was bytes v → IsPending accepts was (joined bytes (spelled kind body)) w
    pends_more was [] (inl none) = inr (subst (λ (u : NodeView K). BatchLeads accepts u (spelled kind body) w) none.1 first_leads)
    pends_more was [] (inr leads) = absurd (omega (arith, leads.some))
    pends_more was (byte ∷ bytes) (inl none) = absurd cc
    pends_more was (byte ∷ bytes) (inr leads) = inr (next_leads was (byte ∷ bytes) leads)

  -- ---- storing what is pending

  -- nothing
  pub none_keeps : (file : FileView) (gate : ℕ) (bytes : List ℕ) → length bytes ≡ 0 → PendingKeeps accepts bytes file file gate
  none_keeps file gate bytes none v w (inl same) stored told = still_keeps accepts file v w gate stored told
  none_keeps file gate bytes none v w (inr leads) stored told = absurd (omega (arith, leads.some, none))

  pub none_stores : (file : FileView) (gate : ℕ) (bytes : List ℕ) → bytes ≡ [] → PendingStores accepts bytes file file gate gate
  none_stores file gate bytes none v w (inl same) stored near =
      (subst (λ (u : NodeView K). IsStored accepts file u gate) (sym same.1) stored, subst (IsNear gate) (sym same.1) near)
  none_stores file gate bytes none v w (inr leads) stored near = absurd (omega (arith, leads.some, ap length none))

  -- a batch
  pub batch_keeps : (old new : FileView) (gate : ℕ) (bytes : List ℕ) → (bytes ≡ [] → ⊥) → BatchKeeps accepts bytes old new gate → PendingKeeps accepts bytes old new gate
  batch_keeps old new gate bytes some keeps v w (inl same) stored told = absurd (some same.0)
  batch_keeps old new gate bytes some keeps v w (inr leads) stored told = keeps v w leads stored told

  pub batch_stores : (old new : FileView) (gate next : ℕ) (bytes : List ℕ) → (bytes ≡ [] → ⊥) → next ≡ gate + 1 + length bytes → BatchStores accepts bytes old new gate next → PendingStores accepts bytes old new gate next
  batch_stores old new gate next bytes some goes stores v w (inl same) stored near = absurd (some same.0)
  batch_stores old new gate next bytes some goes stores v w (inr leads) stored near =
      (stores v w leads stored, subst (λ (k : ℕ). IsNear k w) (sym goes) (near_then accepts v w gate bytes leads near))
