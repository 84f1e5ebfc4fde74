-- What comes of the whole work, from the opening on.
use Rattle.std.proofs.Common.{◌≡◌, inl, inr, ⊎_elim, ℕ, List, Option, Some, is_some, refl, sym, ◌∙◌, ap, subst, arith}
use Rattle.std.specs.Prelude.{Result, IsErrOf, IsSome}
use Rattle.std.specs.Option.{ForSome}
use Rattle.hg_io.specs.FileView.{FileView, Leaves}
use Rattle.hg_io.proofs.Going.{goes_on, weaker}
use Rattle.hg_life.specs.Members.{MemberList}
use Rattle.hg_life.specs.NodeView.{NodeView, Start, start_of}
use Rattle.hg_life.specs.Signing.{Accepts}
use Rattle.hg_journal.proofs.OpenLaws.{anew_is}
use Rattle.hg_journal.specs.Journal.{head_of, journal}
use Rattle.hg_journal.specs.Opening.{IsWrong, StaysUnlessDisk, SyncsFirst, SyncsOrFails, WritesOnlyAnew}
use Rattle.hg_journal.specs.Stored.{StoredView, StoresNode}
use Rattle.hg_journal.specs.declared.errors.OpenError.{OpenError}
use Rattle.hg_journal.specs.declared.errors.OpenError.TheVariants as open_error
use Rattle.hg_journal.specs.declared.errors.StoreError.{StoreError}
use Rattle.hg_journal.specs.declared.errors.StoreError.TheVariants as store_error
use Rattle.hg_keep.specs.declared.kept.KeepReport.{KeepReport}
use Rattle.hg_keep.specs.Keeping.{IsKept, IsMadeWithOf, IsOnTheWay, KeptOf}
use Rattle.hg_keep.specs.Stops.{KeepsSome, KeepsTask, SparesOthers, StaysIfRefused, StopsLeaveOf, SyncsOnTheWay, SyncsWayOrFails}
use Rattle.hg_keep.specs.Stores.{open_error_of}
use Rattle.hg_keep.proofs.StopLaws.{some_value, told_still}
use Rattle.hg_keep.proofs.WayLaws.{makes_start, puts_start}

pub syncs_wider : {a b : FileView} {P Q : List ℕ → Type 0} → SyncsFirst a b P → ((left : List ℕ) → P left → Q left) → SyncsFirst a b Q
syncs_wider first then_has = record {
  since = first.since;
  from = first.from;
  to = first.to;
  after = λ left since. then_has left (first.after left since);
  before = weaker first.before (λ left was. ⊎_elim (λ may. inl may) (λ has. inr (then_has left has)) was);
}

pub syncs_on : {a b c : FileView} {Q : List ℕ → Type 0} → SyncsFirst a b Q → Leaves b c Q → SyncsFirst a c Q
syncs_on first leaves = record {
  since = first.since;
  from = first.from;
  to = omega (arith, first.to, leaves.older);
  after = λ left since. ⊎_elim (λ was. first.after left was) (λ has. has) (leaves.only first.since left first.to since);
  before = goes_on first.before (weaker leaves (λ left has. inr has));
}

module _ {K : Type 0} (accepts : K → Accepts) (start : Start K) where
  pub wrong_store : (e : StoreError) (file : List ℕ) → IsWrong accepts start file (open_error_of e)
  wrong_store store_error.Disk file = tt
  wrong_store store_error.Closed file = tt
  wrong_store store_error.Memory file = tt

  module _ (comes : NodeView K → NodeView K → Type 0) (own : (v : NodeView K) → comes v v) where
    begun : (v : NodeView K) (left : List ℕ) → journal accepts start left ≡ Some v → KeepsSome accepts start (comes v) left
    begun v left keeps = (v, own v, keeps)

    -- where the journal was not opened
    pub syncs_open : {T U : Type 0} (old new : FileView) (r : Result T OpenError) (s : Result U OpenError) → (IsErrOf r open_error.Disk → IsErrOf s open_error.Disk) → SyncsOrFails accepts start old new r
        → SyncsWayOrFails accepts start comes old new s
    syncs_open old new r s same (inl syncs) = inl (λ bytes told v is. syncs_wider (syncs bytes told v is) (begun v))
    syncs_open old new r s same (inr fails) = inr (same fails.0, fails.1)

    syncs_for : {T : Type 0} (old mid new : FileView) (r : Result T OpenError) (node : Option (NodeView K)) → (IsErrOf r open_error.Disk → ⊥) → SyncsOrFails accepts start old mid r → is_some mid.reads ≡ is_some old.reads
        → ForSome old.reads (λ bytes. journal accepts start bytes ≡ node) → ForSome node (λ v. v.start ≡ start) → StopsLeaveOf accepts comes node mid new
        → ForSome old.reads (SyncsOnTheWay accepts start comes old new)
    syncs_for old mid new r node opened (inr fails) shown opens begins leaves = absurd (opened fails.0)
    syncs_for old mid new r node opened (inl syncs) shown opens begins leaves = λ bytes told v is.
        let there : node ≡ Some v = sym (opens bytes told) ∙ is in
        let later = subst (λ (s : Start K). Leaves mid new (KeepsSome accepts s (comes v))) (begins v there) (leaves v there (told_still old.reads mid.reads shown (subst (λ (o : Option (List ℕ)). IsSome o) (sym told) refl))).meanwhile in
        syncs_on (syncs_wider (syncs bytes told v is) (begun v)) later

    -- where it was, and the work went on
    pub syncs_work : {T U : Type 0} (old mid new : FileView) (r : Result T OpenError) (node : Option (NodeView K)) (s : Result U OpenError) → (IsErrOf r open_error.Disk → ⊥) → SyncsOrFails accepts start old mid r
        → is_some mid.reads ≡ is_some old.reads → ForSome old.reads (λ bytes. journal accepts start bytes ≡ node) → ForSome node (λ v. v.start ≡ start) → StopsLeaveOf accepts comes node mid new
        → SyncsWayOrFails accepts start comes old new s
    syncs_work old mid new r node s opened syncs shown opens begins leaves = inl (syncs_for old mid new r node opened syncs shown opens begins leaves)

  -- what is no journal, or a broken one, is not to be made anew, and is not opened
  pub spares_open : (old new : FileView) → WritesOnlyAnew (head_of start) old new → SparesOthers accepts start old new
  spares_open old new only bytes told none = only bytes told (λ cases. absurd (let is = sym none ∙ anew_is accepts start (head_of start) refl bytes cases in cc))

  pub spares_work : (old new : FileView) (node : Option (NodeView K)) → IsSome node → ForSome old.reads (λ bytes. journal accepts start bytes ≡ node) → SparesOthers accepts start old new
  spares_work old new node there opens bytes told none =
      let v = some_value node there in
      absurd (let is = sym none ∙ opens bytes told ∙ v.1 in cc)

  pub own_way : (events : List (List ℕ)) (time : Option ℕ) (v : NodeView K) → IsOnTheWay accepts events time v v
  own_way events time v = inl (0, refl)

  kept_start : (members : MemberList) (events : List (List ℕ)) (time : Option ℕ) (v w : NodeView K) (kept : KeepReport) → IsKept accepts members events time v kept w → w.start ≡ v.start
  kept_start members events time v w kept is = ap (λ (x : NodeView K). x.start) is.last ∙ makes_start accepts _ is.made time kept.made is.makes ∙ puts_start accepts v events

  pub task_kept : (members : MemberList) (events : List (List ℕ)) (time : Option ℕ) (old new : FileView) (s t : StoredView K) (kept : KeepReport) → IsSome s.node
      → ForSome old.reads (λ bytes. journal accepts start bytes ≡ s.node) → ForSome s.node (λ v. v.start ≡ start) → KeptOf accepts members events time s.node t.node kept → StoresNode accepts new t
      → KeepsTask accepts members start events time old new kept
  task_kept members events time old new s t kept there opens begins keeps stores =
      let v = some_value s.node there in
      let done = keeps v.0 v.1 in
      let w = done.0 in
      let stored = stores.kept w done.1 in
      let same : w.start ≡ start = kept_start members events time v.0 w kept done.2 ∙ begins v.0 v.1 in (
        v.0,
        w,
        record { begun = begins v.0 v.1; keeps = λ bytes told. opens bytes told ∙ v.1 },
        done.2,
        record { synced = stored.synced; keeps = λ bytes told. subst (λ (b : Start K). journal accepts b bytes ≡ Some w) same (stored.keeps bytes told) },
      )

pub refused_open : (e : OpenError) (old new : FileView) → StaysUnlessDisk e old new → StaysIfRefused e old new
refused_open open_error.Disk old new stays = tt
refused_open open_error.Memory old new stays = tt
refused_open open_error.Foreign old new stays = stays
refused_open (open_error.Broken at) old new stays = stays

pub refused_store : (e : StoreError) (old new : FileView) → StaysIfRefused (open_error_of e) old new
refused_store store_error.Disk old new = tt
refused_store store_error.Closed old new = tt
refused_store store_error.Memory old new = tt

pub made_with : {K : Type 0} (members : MemberList) (own : ℕ) (keys : K) (node : Option (NodeView K)) → ForSome node (λ v. v.start ≡ start_of members own keys) → IsMadeWithOf members node
made_with members own keys node begins v there =
    let e = begins v there in
    e ∙ ap (λ (s : Start _). start_of members s.own s.keys) (sym e)

-- what is told as a fault of the disk is one
pub store_disk : (e : StoreError) → (e ≡ store_error.Closed → ⊥) → open_error_of e ≡ open_error.Disk → e ≡ store_error.Disk
store_disk store_error.Disk never is = refl
store_disk store_error.Closed never is = absurd (never refl)
store_disk store_error.Memory never is = absurd cc
