-- Work that is in part staged: what is written and what is there came of the node that was there, and so is what a stop leaves.
use Rattle.std.proofs.Common.{◌≡◌, ◌⊎◌, inl, inr, ℕ, List, take, Option, Some, is_some, refl, sym, ◌∙◌, subst}
use Rattle.std.specs.Prelude.{IsSome}
use Rattle.hg_io.specs.FileView.{FileView}
use Rattle.hg_life.specs.NodeView.{NodeView}
use Rattle.hg_life.specs.Signing.{Accepts}
use Rattle.hg_life.specs.declared.answers.MakeAnswer.{MakeAnswer}
use Rattle.hg_journal.specs.Staging.{StopsKeepStaged}
use Rattle.hg_journal.specs.Stored.{IsStored, StoredView, StoresNode, StoresWritten}
use Rattle.hg_journal.proofs.Steps.{still_keeps}
use Rattle.hg_keep.specs.declared.kept.Making.{Making}
use Rattle.hg_keep.specs.declared.kept.PutCounts.{PutCounts}
use Rattle.hg_keep.specs.Keeping.{IsMadeSome, IsOnTheWay, IsPutSome, IsSettledSome, MakesOf, PutsAll, SettlesOf, TurnOf, puts, settled, told_of}
use Rattle.hg_keep.specs.Stops.{CameOf, IsUnderWay, MovesOn, StopsLeaveOf}
use Rattle.hg_keep.proofs.StopLaws.{leaves_either, leaves_on, leaves_wider, some_is, some_value, told_still}
use Rattle.hg_keep.proofs.WayLaws.{makes_start, puts_start, stops_still, turn_start}

module _ {K : Type 0} (accepts : K → Accepts) where
  pub stores_written : (file : FileView) (s : StoredView K) → StoresNode accepts file s → StoresWritten accepts file s
  stores_written file s stores v is = stores.kept v (sym stores.all ∙ is)

  -- without a call on the disk
  pub stops_idle : (file : FileView) (s : StoredView K) → StoresWritten accepts file s → IsSome s.node → StopsKeepStaged accepts file file s
  stops_idle file s stores there v is told =
      let w = some_value s.node there in (w.0, w.1, still_keeps accepts file v w.0 s.gate (stores v is) told)

  module _ (Comes : NodeView K → NodeView K → Type 0) (first : Option (NodeView K)) (a : FileView) where
    pub way_begins : (s : StoredView K) → first ≡ s.node → ((v : NodeView K) → Comes v v) → StoresNode accepts a s → IsUnderWay accepts Comes first a a s
    way_begins s same own stores = record {
      stores = stores_written a s stores;
      written = λ v is. (v, stores.all ∙ sym same ∙ is, refl, own v);
      node = λ v is. (v, sym same ∙ is, refl, own v);
      stops = subst (λ (o : Option (NodeView K)). StopsLeaveOf accepts Comes o a a) (sym same) (stops_still accepts Comes own a s stores);
    }

    module _ (b c : FileView) (s : StoredView K) (way : IsUnderWay accepts Comes first a b s) (shown : is_some b.reads ≡ is_some a.reads) where
      -- what a stop leaves while it is stored
      pub way_stops : StopsKeepStaged accepts b c s → StopsLeaveOf accepts Comes first a c
      way_stops step v is told =
          let was = way.written v is in
          let now = way.node v is in
          let keeps = step was.0 was.1 (told_still a.reads b.reads shown told) in
          let same : now.0 ≡ keeps.0 = some_is now.0 keeps.0 (sym now.1 ∙ keeps.1) in
          leaves_on accepts v.start (Comes v) a b c (way.stops v is told)
          (leaves_either accepts v.start (Comes v) b c was.0 keeps.0 was.2 (subst (λ (w : NodeView K). w.start ≡ v.start) same now.2) was.3 (subst (Comes v) same now.3) keeps.2)

      came_either : (t : StoredView K) → (t.written ≡ s.written) ⊎ (t.written ≡ s.node) → CameOf Comes first t.written
      came_either t (inl same) = subst (CameOf Comes first) (sym same) way.written
      came_either t (inr same) = subst (CameOf Comes first) (sym same) way.node

      -- a step on the way
      pub way_on : (t : StoredView K) → StopsKeepStaged accepts b c s → MovesOn accepts c s t → CameOf Comes first t.node → IsUnderWay accepts Comes first a c t
      way_on t step moves came = record { stores = moves.stores; written = came_either t moves.written; node = came; stops = way_stops step }

  -- .. behind which changes were staged
  pub staged_on : (file : FileView) (was mid is : StoredView K) → MovesOn accepts file was mid → is.written ≡ mid.written → is.gate ≡ mid.gate → MovesOn accepts file was is
  staged_on file was mid is moves written gate = record {
    stores = λ v there. subst (IsStored accepts file v) (sym gate) (moves.stores v (sym written ∙ there));
    written = either (moves.written);
  }
    where
      either : (mid.written ≡ was.written) ⊎ (mid.written ≡ was.node) → (is.written ≡ was.written) ⊎ (is.written ≡ was.node)
      either (inl same) = inl (written ∙ same)
      either (inr same) = inr (written ∙ same)

  pub way_wider : (Was Comes : NodeView K → NodeView K → Type 0) (first : Option (NodeView K)) (a b : FileView) (s : StoredView K) → ((v w : NodeView K) → Was v w → Comes v w)
      → IsUnderWay accepts Was first a b s → IsUnderWay accepts Comes first a b s
  way_wider Was Comes first a b s then way = record {
    stores = way.stores;
    written = λ v is. let x = way.written v is in (x.0, x.1, x.2, then v x.0 x.3);
    node = λ v is. let x = way.node v is in (x.0, x.1, x.2, then v x.0 x.3);
    stops = λ v is told. leaves_wider accepts v.start (Was v) (Comes v) a b (λ w was. then v w was) (way.stops v is told);
  }

  pub came_puts : (events : List (List ℕ)) (n : ℕ) (first now : Option (NodeView K)) (counts : PutCounts) → PutsAll accepts (take n events) first now counts → CameOf (IsPutSome accepts events) first now
  came_puts events n first now counts all v is = ((puts accepts v (take n events)).0, (all v is).0, puts_start accepts v (take n events), (n, refl))

  module _ (events : List (List ℕ)) (time : Option ℕ) (first next last : Option (NodeView K)) (counts : PutCounts) (told : Option Making)
      (all : PutsAll accepts events first next counts) (makes : MakesOf accepts time next last told) where
    pub came_made : CameOf (IsOnTheWay accepts events time) first last
    came_made v is =
        let made = makes (puts accepts v events).0 (all v is).0 in
        (made.0, made.1, makes_start accepts (puts accepts v events).0 made.0 time told made.2 ∙ puts_start accepts v events, inr (made.0, told, made.2, inl refl))

    pub came_settled : (final : Option (NodeView K)) → SettlesOf accepts last final → CameOf (IsOnTheWay accepts events time) first final
    came_settled final done v is =
        let made = makes (puts accepts v events).0 (all v is).0 in
        (settled made.0, (done made.0 made.1).0, makes_start accepts (puts accepts v events).0 made.0 time told made.2 ∙ puts_start accepts v events, inr (made.0, told, made.2, inr refl))

  -- ---- a step that is staged and then stored

  -- what a stop leaves meanwhile
  pub step_stops : (Comes : NodeView K → NodeView K → Type 0) → ((v : NodeView K) → Comes v v) → (a b : FileView) (old mid : StoredView K) → StoresNode accepts a old → mid.written ≡ old.written
      → CameOf Comes old.node mid.node → StopsKeepStaged accepts a b mid → StopsLeaveOf accepts Comes old.node a b
  step_stops Comes own a b old mid stores same came stops v is told =
      let keeps = stops v (same ∙ stores.all ∙ is) told in
      let now = came v is in
      let here : now.0 ≡ keeps.0 = some_is now.0 keeps.0 (sym now.1 ∙ keeps.1) in
      leaves_either accepts v.start (Comes v) a b v keeps.0 refl (subst (λ (w : NodeView K). w.start ≡ v.start) here now.2) (own v) (subst (Comes v) here now.3) keeps.2

  pub came_turn : (time : ℕ) (node next : Option (NodeView K)) (a : Option MakeAnswer) → TurnOf accepts time node next a → CameOf (IsMadeSome accepts (Some time)) node next
  came_turn time node next a turn v is =
      let one = turn v is in
      (one.0, one.1, turn_start accepts v one.0 time a one.2, inr (Some (told_of one.0 a), (a, one.2, refl)))

  pub came_marks : (node next : Option (NodeView K)) → SettlesOf accepts node next → CameOf IsSettledSome node next
  came_marks node next settles v is = (settled v, (settles v is).0, refl, inr refl)
