-- What is staged of a node, and what storing it makes of the file.
use Rattle.std.proofs.Common.{◌≡◌, ℕ, ◌^◌, ◌<◌, ◌≤◌, List, [], length, Option, Some, option_map, inl, inr, refl, sym, ◌∙◌, ap, subst, arith, length-append}
use Rattle.std.proofs.lemmas.List.{length-take-le, take-append-le, take_all}
use Rattle.std.specs.Option.{ForSome}
use Rattle.hg_io.specs.FileView.{FileView}
use Rattle.hg_life.specs.History.{Change}
use Rattle.hg_life.specs.NodeView.{NodeView, IsNode, with_changes}
use Rattle.hg_life.specs.Signing.{Accepts}
use Rattle.hg_journal.specs.Batches.{IsPending, PendingKeeps, PendingStores, joined}
use Rattle.hg_journal.specs.Journal.{next_node}
use Rattle.hg_journal.specs.Records.{spelled}
use Rattle.hg_journal.specs.Staging.{IsStaged, StopsKeepStaged}
use Rattle.hg_journal.specs.Stored.{IsNear, IsStored, StopsKeep, StoredView, StoresWritten, node_at}
use Rattle.hg_journal.proofs.BatchLaws.{length-joined, pends_more}
use Rattle.hg_journal.proofs.NodeLaws.{changes_few}
use Rattle.hg_journal.proofs.Steps.{gate_in_file}

module _ {K : Type 0} where
  pub at_front : (n : ℕ) (v w : NodeView K) (es : List Change) → w ≡ with_changes v es → n ≤ length v.history → node_at n w ≡ node_at n v
  at_front n v w es is within =
      ap (λ (x : NodeView K). node_at n x) is
      ∙ ap (λ (h : List Change). (let x : NodeView K = record { start = v.start; history = h } in x)) (take-append-le n v.history es within)

  pub at_end : (n : ℕ) (v : NodeView K) → n ≡ length v.history → node_at n v ≡ v
  at_end n v all = ap (λ (h : List Change). (let x : NodeView K = record { start = v.start; history = h } in x)) (take_all n v.history (omega (arith, all)))

  pub written_front : (n : ℕ) (v w : NodeView K) (es : List Change) → w ≡ with_changes v es → n ≤ length v.history
      → option_map (λ (x : NodeView K). node_at n x) (Some w) ≡ option_map (λ (x : NodeView K). node_at n x) (Some v)
  written_front n v w es is within = ap (λ (x : NodeView K). Some x) (at_front n v w es is within)

  pub is_same : (o : Option (NodeView K)) (v w : NodeView K) → o ≡ Some v → o ≡ Some w → v ≡ w
  is_same o v w one other =
      let both : Some v ≡ Some w = sym one ∙ other in
      cc

  pub there_is : (P : NodeView K → Type 0) (w : NodeView K) → P w → ForSome (Some w) P
  there_is P w has x is =
      let same : w ≡ x = cc in
      subst P same has

module _ {K : Type 0} (accepts : K → Accepts) where
  -- a node without changes that are staged
  pub staged_none : (written gate : ℕ) (w : NodeView K) → written ≡ length w.history → IsNear gate w → IsStaged accepts written gate [] w
  staged_none written gate w all near =
      let same = at_end written w all in
      record {
        within = omega (arith, all);
        near = subst (IsNear gate) (sym same) near;
        fits = omega arith;
        pending = inl (refl, sym same);
      }

  module _ (v w : NodeView K) (written gate : ℕ) (records : List ℕ) (staged : IsStaged accepts written gate records v) where
    pub staged_same : w ≡ v → IsStaged accepts written gate records w
    staged_same same = subst (λ (x : NodeView K). IsStaged accepts written gate records x) (sym same) staged

    pub staged_more : (es : List Change) (kind : ℕ) (body : List ℕ) → w ≡ with_changes v es → next_node accepts v kind body ≡ Some w → length body ≤ 1345 → length records ≤ 64000
        → IsStaged accepts written gate (joined records (spelled kind body)) w
    staged_more es kind body is to short room =
        let front = sym (at_front written v w es is staged.within) in
        record {
          within = omega (arith, staged.within, ap (λ (x : NodeView K). length x.history) is, length-append v.history es);
          near = subst (IsNear gate) front staged.near;
          fits = omega (arith, short, room, length-joined records (spelled kind body));
          pending = subst (λ (x : NodeView K). IsPending accepts x (joined records (spelled kind body)) w) front
              (pends_more accepts v w kind body (omega (arith, short)) to (node_at written v) records staged.pending);
        }

  pub staged_small : (w : NodeView K) (written gate : ℕ) (records : List ℕ) → IsStaged accepts written gate records w → IsNode accepts w → gate < 2 ^ 62
  staged_small w written gate records staged node = omega (arith, staged.near, staged.within, length-take-le written w.history staged.within, changes_few accepts w node)

  -- ---- storing it

  module _ (old : FileView) (s : StoredView K) (w : NodeView K) (written gate : ℕ) (records : List ℕ)
      (here : s.written ≡ Some (node_at written w)) (place : s.gate ≡ gate) (staged : IsStaged accepts written gate records w) (stores : StoresWritten accepts old s) where
    stored_here : IsStored accepts old (node_at written w) gate
    stored_here = subst (λ (k : ℕ). IsStored accepts old (node_at written w) k) place (stores (node_at written w) here)

    pub gate_within : ForSome old.reads (λ bytes. gate < length bytes)
    gate_within = gate_in_file accepts old (node_at written w) gate stored_here

    module _ (new : FileView) where
      pub stops_staged : s.node ≡ Some w → PendingKeeps accepts records old new gate → StopsKeepStaged accepts old new s
      stops_staged there keeps x is told =
          let both : Some (node_at written w) ≡ Some x = sym here ∙ is in
          let same : node_at written w ≡ x = cc in
          (w, there, subst (λ (y : NodeView K). StopsKeep accepts old new y w) same (keeps (node_at written w) w staged.pending stored_here told))

      pub stored_then : (next : ℕ) → PendingStores accepts records old new gate next → IsStored accepts new w next × IsNear next w
      stored_then next stores = stores (node_at written w) w staged.pending stored_here staged.near

  -- where no other node comes to be, nothing is pending
  pub staged_idle : (w : NodeView K) (written gate : ℕ) (records : List ℕ) → IsStaged accepts written gate records w → Some w ≡ option_map (λ (x : NodeView K). node_at written x) (Some w) → records ≡ []
  staged_idle w written gate records staged same = nothing staged.pending
    where
      nothing : IsPending accepts (node_at written w) records w → records ≡ []
      nothing (inl none) = none.0
      nothing (inr leads) =
          let is : w ≡ node_at written w = cc in
          absurd (omega (arith, leads.grown, ap (λ (x : NodeView K). length x.history) is))
