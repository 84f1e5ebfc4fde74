-- A relay from the opening of its journal on.
use Rattle.std.proofs.Common.{◌≡◌, inl, inr, ⊎_elim, ℕ, ◌≤◌, List, Option, Some, is_some, refl, sym, ◌∙◌, ap, subst}
use Rattle.std.specs.Prelude.{Result, Ok, Err, IfErr, IsErrAnd, IsErrOf, IsSome}
use Rattle.std.specs.Option.{ForSome}
use Rattle.hg_io.specs.FileView.{FileView}
use Rattle.hg_io.specs.Faults.{Rose}
use Rattle.hg_io.specs.declared.disk.Disk as disk
use Rattle.hg_io.specs.declared.sink.Sink as sink
use Rattle.hg_io.specs.declared.source.Source as source
use Rattle.hg_journal.specs.Faults.{IsFaultCounted}
use Rattle.hg_journal.specs.Journal.{journal}
use Rattle.hg_journal.specs.Opening.{Opens, StaysUnlessDisk, SyncsOrFails}
use Rattle.hg_journal.specs.Stored.{StoredView, StoresNode}
use Rattle.hg_journal.specs.declared.errors.OpenError.{OpenError}
use Rattle.hg_journal.specs.declared.errors.OpenError.TheVariants as open_error
use Rattle.hg_keep.specs.Keeping.{settled}
use Rattle.hg_keep.proofs.StopLaws.{some_value}
use Rattle.hg_keep.proofs.TaskLaws.{syncs_open, syncs_work}
use Rattle.hg_life.specs.Members.{MemberList}
use Rattle.hg_life.specs.NodeView.{NodeView, Start, start_of}
use Rattle.hg_life.specs.Signing.{Accepts}
use Rattle.hg_play.specs.Sites.{IsMadeWith}
use Rattle.hg_top.specs.Keeps.{open_status}
use Rattle.hg_top.specs.declared.status.Status.{Status}
use Rattle.hg_top.specs.declared.status.Status.TheVariants as status
use Rattle.relay.specs.declared.gossip.Outside.{Outside}
use Rattle.relay.specs.declared.request.Request.{Request}
use Rattle.relay.specs.Moments.{HasCause, Moment, NoMemory, Unheard, Unkept, Unsaid, moment, streams}
use Rattle.relay.specs.Relaying.{Damaged, Ended, IsHalted, OfOthers, RelaySyncs, Relays, RelaysStored, unopened}
use Rattle.relay.specs.Steps.{IsRelayed, RelaysAll, StopsRelayOf}
use Rattle.relay.proofs.Leading.{relayed_start, still}
use Rattle.relay.proofs.Passing.{rose_on}

-- what a `?` hands on
err_is : {T : Type 0} (r : Result T Status) (s : Status) → IsErrAnd r (λ x. x ≡ s) → r ≡ Err s
err_is (Ok x) s is = absurd is
err_is {T} (Err e) s is = ap (λ (x : Status). (let r : Result T Status = Err x in r)) is

disk_stopped : (e : OpenError) → (let r : Result Unit OpenError = Err e in r) ≡ Err open_error.Disk → open_status e ≡ status.Disk
disk_stopped open_error.Disk is = refl
disk_stopped open_error.Memory is = absurd cc
disk_stopped open_error.Foreign is = absurd cc
disk_stopped (open_error.Broken at) is = absurd cc

disk_failed : {T : Type 0} (e : OpenError) → IsErrOf (let r : Result T OpenError = Err e in r) open_error.Disk → (let r : Result Unit OpenError = Err e in r) ≡ Err open_error.Disk
disk_failed open_error.Disk is = refl
disk_failed open_error.Memory is = absurd cc
disk_failed open_error.Foreign is = absurd cc
disk_failed (open_error.Broken at) is = absurd cc

module _ {K : Type 0} (accepts : K → Accepts) (start : Start K) where
  -- ---- what stops leave

  failed_syncs : {T U : Type 0} (old new : FileView) (e : OpenError) (s : Result U Status) → IsErrAnd s (λ x. x ≡ open_status e) → SyncsOrFails accepts start old new (let r : Result T OpenError = Err e in r) → RelaySyncs accepts start old new s
  failed_syncs {T} {U} old new e s is syncs = ⊎_elim (λ x. inl x)
      (λ fails. inr (err_is s (open_status e) is ∙ ap (λ (x : Status). (let r : Result U Status = Err x in r)) (disk_stopped e fails.0), fails.1))
      (syncs_open accepts start (IsRelayed accepts) (still accepts) old new (let r : Result T OpenError = Err e in r) (let r : Result Unit OpenError = Err e in r) (disk_failed e) syncs)

  pub open_syncs : {T U : Type 0} (old new : FileView) (e : OpenError) (s : Result U Status) → IsErrAnd s (λ x. x ≡ open_status e) → SyncsOrFails accepts start old new (let r : Result T OpenError = Err e in r) → RelaySyncs accepts start old new s
  open_syncs old new e s is syncs = failed_syncs old new e s is syncs

  never : {T : Type 0} (x : T) → IsErrOf (let r : Result T OpenError = Ok x in r) open_error.Disk → ⊥
  never x is = absurd cc

  no_fault : (let r : Result Unit OpenError = Ok tt in r) ≡ Err open_error.Disk → ⊥
  no_fault is = absurd cc

  pub gossip_syncs : {T U : Type 0} (old mid new : FileView) (x : T) (node : Option (NodeView K)) (s : Result U Status) → SyncsOrFails accepts start old mid (let r : Result T OpenError = Ok x in r) → is_some mid.reads ≡ is_some old.reads
      → ForSome old.reads (λ bytes. journal accepts start bytes ≡ node) → ForSome node (λ v. v.start ≡ start) → StopsRelayOf accepts node mid new → RelaySyncs accepts start old new s
  gossip_syncs {T} old mid new x node s syncs shown opens begins stops = ⊎_elim (λ y. inl y) (λ fails. absurd (no_fault fails.0))
      (syncs_work accepts start (IsRelayed accepts) (still accepts) old mid new (let r : Result T OpenError = Ok x in r) node (let r : Result Unit OpenError = Ok tt in r) (never x) syncs shown opens begins stops)

  -- ---- what came of it

  pub relays_stored : (asked : Request) (a b : Moment K) (s t : StoredView K) → IsSome s.node → ForSome a.file.reads (λ bytes. journal accepts start bytes ≡ s.node) → ForSome s.node (λ v. v.start ≡ start)
      → ForSome s.node (λ v. RelaysAll accepts asked (streams a) (streams b) v t.node) → StoresNode accepts b.file t → RelaysStored accepts start asked a b t
  relays_stored asked a b s t there opens begins all stores =
      let v = some_value s.node there in
      let u = all v.0 v.1 in
      let done = u.settles u.last refl in
      let w = settled u.last in
      let stored = stores.kept w done.0 in
      let same : w.start ≡ start = relayed_start accepts v.0 u.last u.relayed ∙ begins v.0 v.1 in (
        w,
        done.0,
        record {
          first = v.0;
          last = u.last;
          begins = record { begun = begins v.0 v.1; keeps = λ bytes told. opens bytes told ∙ v.1 };
          relayed = u.relayed;
          exchanges = u.exchanges;
          is = refl;
          settled_is = done.1;
          stores = record { synced = stored.synced; keeps = λ bytes told. subst (λ (b : Start K). journal accepts b bytes ≡ Some w) same (stored.keeps bytes told) };
        },
      )

  pub relays_start : (asked : Request) (a b : Moment K) (w : NodeView K) → Relays accepts start asked a b w → w.start ≡ start
  relays_start asked a b w relays = ap (λ (x : NodeView K). x.start) relays.is ∙ relayed_start accepts relays.first relays.last relays.relayed ∙ relays.begins.begun

  -- ---- why it ended early

  module _ {A B C : Type 0} (D : disk.Ghosts A) (S : source.Ghosts B) (T : sink.Ghosts C) (name : List ℕ) (out : Outside A B C) (d : A) where
    pub open_halts : {X : Type 0} (e : OpenError) → IsFaultCounted (let r : Result X OpenError = Err e in r) open_error.Disk (D.faults out.disk) (D.faults d) name → StaysUnlessDisk e (D.file out.disk) (D.file d)
        → (node_of : X → Option (NodeView K)) → ForSome (D.file out.disk).reads (Opens accepts start node_of (Err e))
        → IsHalted accepts start (moment D S T (unopened name) out) (moment D S T (unopened name) (record out { disk = d })) (open_status e)
    open_halts open_error.Disk cause stays node_of opens = Ended (Unkept refl (cause refl))
    open_halts open_error.Memory cause stays node_of opens = Ended (NoMemory refl)
    open_halts open_error.Foreign cause stays node_of opens = OfOthers refl stays opens
    open_halts (open_error.Broken at) cause stays node_of opens = Damaged at refl stays opens

    pub gossip_halts : (after : Outside A B C) (s t : StoredView K) (why : Status) → s.name ≡ name → t.name ≡ s.name → ((other : List ℕ) → D.faults out.disk other ≤ D.faults d other)
        → HasCause (moment D S T s (record out { disk = d })) (moment D S T t after) why → HasCause (moment D S T (unopened {K = K} name) out) (moment D S T (unopened name) after) why
    gossip_halts after s t why first second counts (Unkept is rose) =
        let one = subst (λ (n : List ℕ). Rose (D.faults d s.name) (D.faults after.disk n)) (second ∙ first) rose in
        let two = subst (λ (n : List ℕ). Rose (D.faults d n) (D.faults after.disk name)) first one in
        Unkept is (rose_on (D.faults out.disk name) (D.faults d name) (D.faults after.disk name) (counts name) two)
    gossip_halts after s t why first second counts (NoMemory is) = NoMemory is
    gossip_halts after s t why first second counts (Unheard want from read none) = Unheard want from read none
    gossip_halts after s t why first second counts (Unsaid is rose) = Unsaid is rose

-- a node was made with these members that begins so
pub made_with : {K : Type 0} (members : MemberList) (own : ℕ) (keys : K) (v : NodeView K) → v.start ≡ start_of members own keys → IsMadeWith members v
made_with members own keys v e = e ∙ ap (λ (s : Start _). start_of members s.own s.keys) (sym e)
