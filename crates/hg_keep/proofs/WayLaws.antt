-- The nodes on the way through the work.
use Rattle.std.proofs.Common.{◌≡◌, inl, inr, ℕ, ◌+◌, ◌<◌, ◌≤◌, ◌^◌, List, [], ◌∷◌, ◌++◌, take, drop, length, fold, is_some, Option, Some, None, refl, sym, ◌∙◌, ap, ap₂, subst, arith}
use Rattle.std.proofs.lemmas.List.{drop-take, take-append-drop, take-take}
use Rattle.std.proofs.lemmas.List.Sums.{fold-append, fold_push}
use Rattle.std.proofs.lemmas.Option.{slice_get_within}
use Rattle.std.specs.Prelude.{IsErrOf, IsSome, Result, Ok, Err}
use Rattle.std.specs.Option.{ForSome}
use Rattle.hg_io.specs.FileView.{FileView}
use Rattle.hg_model.specs.declared.row.Row.{Row}
use Rattle.hg_model.specs.Fame.{fame_marks}
use Rattle.hg_model.specs.Links.{links, most_others}
use Rattle.hg_model.specs.Order.{coin_at}
use Rattle.hg_model.specs.Shares.{Share, whole}
use Rattle.hg_model.specs.Stakes.{Stakes}
use Rattle.hg_life.specs.Calls.{IsMaking, IsSettled, publish_changes, put_answer}
use Rattle.hg_life.specs.Members.{MemberList, names_of, stakes_of}
use Rattle.hg_life.specs.NodeView.{IsNode, NodeView, Start, node_rows, start_of, with_changes}
use Rattle.hg_life.specs.Signing.{Accepts}
use Rattle.hg_life.specs.declared.answers.MakeAnswer.{MakeAnswer}
use Rattle.hg_life.specs.declared.answers.MakeAnswer.TheVariants as answer
use Rattle.hg_history.proofs.NodeLaws.{settles_all}
use Rattle.hg_node.specs.Next.{next_others}
use Rattle.hg_node.specs.Puts.{after_put}
use Rattle.hg_node.specs.ReplayLaws.{MakesReplay}
use Rattle.hg_outcome.specs.declared.outcome.Block.{Block}
use Rattle.hg_outcome.specs.declared.outcome.Outcome.{Outcome}
use Rattle.hg_outcome.specs.declared.outcome.Printed.TheVariants as printed
use Rattle.hg_outcome.specs.Ledger.{block_of, marked_block}
use Rattle.hg_play.specs.Lines.{kept_block}
use Rattle.hg_play.specs.Outcomes.{kept_outcome}
use Rattle.hg_play.specs.Sites.{IsMadeWith}
use Rattle.hg_life.specs.declared.answers.PutAnswer.{PutAnswer}
use Rattle.hg_journal.specs.Staging as staging
use Rattle.hg_journal.specs.Staging.{PutsFront, StopsKeepPuts}
use Rattle.hg_journal.specs.Stored.{MakesNode, StoredView, StoresNode}
use Rattle.hg_keep.specs.declared.kept.PutCounts.{PutCounts}
use Rattle.hg_keep.specs.declared.kept.KeepReport.{KeepReport}
use Rattle.hg_keep.specs.declared.kept.Making.{Making}
use Rattle.hg_keep.specs.Keeping.{HasRow, IsMadeSome, IsMadeWithOf, IsOnTheWay, IsPutSome, IsSettledSome, IsTurn, KeptOf, MakesAt, MakesOf, PutsAll, PutsSome, SettlesOf, TurnOf, counted, no_counts, put_one, puts, settled, told_of}
use Rattle.hg_keep.specs.Stops.{StopsLeaveOf}
use Rattle.hg_keep.proofs.StopLaws.{leaves_either, leaves_on, leaves_still, leaves_wider, some_is, some_value, told_still}

-- a result has one error at most
pub no_other_error : {T E : Type 0} (r : Result T E) (d e : E) → (d ≡ e → ⊥) → IsErrOf r d → IsErrOf r e → ⊥
no_other_error {T} {E} r d e other is also =
    let both : (let q : Result T E = Err d in q) ≡ Err e = sym is ∙ also in
    let same : d ≡ e = cc in
    other same

pub ok_no_error : {T E : Type 0} (r : Result T E) (x : T) (e : E) → r ≡ Ok x → IsErrOf r e → ⊥
ok_no_error r x e is of = absurd cc

module _ {K : Type 0} (accepts : K → Accepts) where
  puts_start_from : (v : NodeView K × PutCounts) (events : List (List ℕ)) → (fold (put_one accepts) v events).0.start ≡ v.0.start
  puts_start_from v [] = refl
  puts_start_from v (bytes ∷ events) = puts_start_from (put_one accepts v bytes) events

  -- none of this changes with what a node began
  pub puts_start : (v : NodeView K) (events : List (List ℕ)) → (puts accepts v events).0.start ≡ v.start
  puts_start v events = puts_start_from _ events

  pub turn_start : (v w : NodeView K) (time : ℕ) (a : Option MakeAnswer) → IsTurn accepts v time a w → w.start ≡ v.start
  turn_start v w time None turn = ap (λ (x : NodeView K). x.start) turn.0
  turn_start v w time (Some a) turn = ap (λ (x : NodeView K). x.start) turn.2.grown

  pub makes_start : (v w : NodeView K) (time : Option ℕ) (told : Option Making) → MakesAt accepts v time told w → w.start ≡ v.start
  makes_start v w None told makes = ap (λ (x : NodeView K). x.start) makes.1
  makes_start v w (Some time) told makes = turn_start v w time makes.0 makes.1

  -- ---- putting

  pub puts_none : (node : Option (NodeView K)) → PutsAll accepts [] node node no_counts
  puts_none node v is = (is, refl)

  -- the nodes that a stop leaves before any event is put
  pub stops_none : (file : FileView) (s : StoredView K) (events : List (List ℕ)) → StoresNode accepts file s → StopsLeaveOf accepts (IsPutSome accepts events) s.node file file
  stops_none file s events stores v is told = leaves_still accepts v.start (IsPutSome accepts events v) file v s.gate refl (0, refl) (stores.kept v is) told

  -- ---- putting part by part

  -- a node with these counts and those of what was answered
  abbrev with_counts : PutCounts → NodeView K × List PutAnswer → NodeView K × PutCounts
  with_counts c so_far = (so_far.0, fold counted c so_far.1)

  counts_answers : (c : PutCounts) (events : List (List ℕ)) (w : NodeView K) (answers : List PutAnswer)
      → fold (put_one accepts) (w, fold counted c answers) events ≡ with_counts c (fold (staging.put_one accepts) (w, answers) events)
  counts_answers c [] w answers = refl
  counts_answers c (bytes ∷ events) w answers =
      ap (λ (k : PutCounts). fold (put_one accepts) (after_put accepts w bytes, k) events) (sym (fold_push counted c answers (put_answer accepts w bytes)))
      ∙ counts_answers c events (after_put accepts w bytes) (answers ++ put_answer accepts w bytes ∷ [])

  take_sum : (n m : ℕ) (xs : List (List ℕ)) → take (n + m) xs ≡ take n xs ++ take m (drop n xs)
  take_sum n m xs =
      let parts = take-append-drop n (take (n + m) xs) in
      sym (rw (take-take n (n + m) xs (omega arith), drop-take n m xs) at parts)

  -- i first events are put, and then n of those behind them
  puts_sum : (v : NodeView K) (events : List (List ℕ)) (i n : ℕ)
      → puts accepts v (take (i + n) events) ≡ with_counts (puts accepts v (take i events)).1 (staging.puts accepts (puts accepts v (take i events)).0 (take n (drop i events)))
  puts_sum v events i n =
      ap (fold (put_one accepts) (v, no_counts)) (take_sum i n events)
      ∙ fold-append (put_one accepts) (v, no_counts) (take i events) (take n (drop i events))
      ∙ counts_answers (puts accepts v (take i events)).1 (take n (drop i events)) (puts accepts v (take i events)).0 []

  module _ (first : Option (NodeView K)) (events rest : List (List ℕ)) (i : ℕ) (now : Option (NodeView K)) (counts : PutCounts) (left : rest ≡ drop i events) (so_far : PutsAll accepts (take i events) first now counts) where
    pub puts_part : (next : Option (NodeView K)) (answers : List PutAnswer) (more : PutCounts) → PutsFront accepts now rest answers next → more ≡ fold counted counts answers
        → PutsAll accepts (take (i + length answers) events) first next more
    puts_part next answers more front more_is v is =
        let here = so_far v is in
        let one = front (puts accepts v (take i events)).0 here.0 in
        let goes = puts_sum v events i (length answers) in
        let same : take (length answers) (drop i events) ≡ take (length answers) rest = ap (take (length answers)) (sym left) in
        let goes_left = rw same at goes in (
          one.1 ∙ ap (λ (x : NodeView K). Some x) (one.2.node ∙ ap (λ (x : NodeView K × PutCounts). x.0) (sym goes_left)),
          more_is ∙ ap₂ (λ (c : PutCounts) (given : List PutAnswer). fold counted c given) here.1 one.2.given ∙ ap (λ (x : NodeView K × PutCounts). x.1) (sym goes_left),
        )

    -- .. and no more, where memory ran out
    pub puts_part_some : (next : Option (NodeView K)) (answers : List PutAnswer) → PutsFront accepts now rest answers next → PutsSome accepts events first next
    puts_part_some next answers front v is =
        let all = puts_part next answers (fold counted counts answers) front refl v is in
        ((puts accepts v (take (i + length answers) events)).0, all.0, (i + length answers, refl))

    -- the nodes that a stop leaves while a part is stored
    pub stops_part : (then : Option (NodeView K)) (a b c : FileView) → is_some b.reads ≡ is_some a.reads → StopsLeaveOf accepts (IsPutSome accepts events) first a b
        → StopsKeepPuts accepts rest b c now then → StopsLeaveOf accepts (IsPutSome accepts events) first a c
    stops_part then a b c shown before step v is told =
        let so = puts accepts v (take i events) in
        let keeps = step so.0 (so_far v is).0 (told_still a.reads b.reads shown told) in
        let n = keeps.1.0.0 in
        let goes = puts_sum v events i n in
        let last : keeps.0 ≡ (puts accepts v (take (i + n) events)).0 =
        keeps.1.0.2 ∙ ap (λ (l : List (List ℕ)). (staging.puts accepts so.0 (take n l)).0) left ∙ ap (λ (x : NodeView K × PutCounts). x.0) (sym goes) in
        leaves_on accepts v.start (IsPutSome accepts events v) a b c (before v is told)
        (leaves_either accepts v.start (IsPutSome accepts events v) b c so.0 keeps.0 (puts_start v (take i events))
        (ap (λ (x : NodeView K). x.start) last ∙ puts_start v (take (i + n) events)) (i, refl) (i + n, last) keeps.2)

  pub part_there : (old : Option (NodeView K)) (events : List (List ℕ)) (answers : List PutAnswer) (new : Option (NodeView K)) → IsSome old → PutsFront accepts old events answers new
      → IsSome new × (length answers ≤ length events)
  part_there None events answers new there front = absurd cc
  part_there (Some v) events answers new there front =
      let one = front v refl in
      (subst (λ (o : Option (NodeView K)). IsSome o) (sym one.1) refl, one.2.within)

  -- ---- making an event

  -- where none comes next
  pub turn_none : (time : ℕ) (node : Option (NodeView K)) (v : NodeView K) → node ≡ Some v → next_others v ≡ None → TurnOf accepts time node node None
  turn_none time node v there none x is =
      let same : v ≡ x = some_is v x (sym there ∙ is) in
      (x, is, (refl, subst (λ (y : NodeView K). next_others y ≡ None) same none))

  pub turn_some : (time : ℕ) (node next : Option (NodeView K)) (v : NodeView K) (others : List (List ℕ)) (answer : MakeAnswer) → node ≡ Some v → next_others v ≡ Some others
      → ForSome node (MakesNode accepts others time [] answer next) → TurnOf accepts time node next (Some answer)
  turn_some time node next v others answer there comes makes x is =
      let same : v ≡ x = some_is v x (sym there ∙ is) in
      let made = makes x is in
      (made.0, made.1, (others, subst (λ (y : NodeView K). next_others y ≡ Some others) same comes, made.2))

  row_for : (v w : NodeView K) (others : List (List ℕ)) (time : ℕ) (answer : MakeAnswer) → MakesReplay K → IsNode accepts v → length others ≤ most_others → time < 2 ^ 64 → IsMaking accepts v others time [] answer w
      → HasRow (Some answer) (Some w)
  row_for v w others time (answer.Made place) law is_node few small making = λ x is.
      let has = law accepts v w others time [] place is_node few small making in
      subst (λ (y : NodeView K). place < length (node_rows y)) (some_is w x is) (slice_get_within (node_rows w) place has.0 has.1)
  row_for v w others time (answer.Refused fault) law is_node few small making = tt

  pub has_row : (node next : Option (NodeView K)) (v : NodeView K) (others : List (List ℕ)) (time : ℕ) (answer : MakeAnswer) → MakesReplay K → IsNode accepts v → length others ≤ most_others → time < 2 ^ 64 → node ≡ Some v
      → ForSome node (MakesNode accepts others time [] answer next) → HasRow (Some answer) next
  has_row node next v others time a law is_node few small there makes =
      let made = makes v there in
      subst (λ (o : Option (NodeView K)). HasRow (Some a) o) (sym made.1) (row_for v made.0 others time a law is_node few small made.2)

  -- where nothing is done to the disk
  pub stops_still : (Is : NodeView K → NodeView K → Type 0) → ((v : NodeView K) → Is v v) → (file : FileView) (s : StoredView K) → StoresNode accepts file s → StopsLeaveOf accepts Is s.node file file
  stops_still Is own file s stores v is told = leaves_still accepts v.start (Is v) file v s.gate refl (own v) (stores.kept v is) told

  pub makes_none : (node : Option (NodeView K)) → MakesOf accepts None node node None
  makes_none node v is = (v, is, (refl, refl))

  pub makes_told : (time : ℕ) (node next : Option (NodeView K)) (w : NodeView K) (a : Option MakeAnswer) (told : Making) → next ≡ Some w → told ≡ told_of w a → TurnOf accepts time node next a
      → MakesOf accepts (Some time) node next (Some told)
  makes_told time node next w a told there is turn v here =
      let one = turn v here in
      let same : w ≡ one.0 = some_is w one.0 (sym there ∙ one.1) in
      (one.0, one.1, (a, one.2, ap (λ (t : Making). Some t) (is ∙ ap (λ (y : NodeView K). told_of y a) same)))

  -- ---- settling

  pub settles : (node next : Option (NodeView K)) (v : NodeView K) (len : ℕ) (share : Share) → node ≡ Some v → IsNode accepts v → len ≡ length (node_rows v) → share ≡ whole
      → ForSome node (λ x. next ≡ Some (with_changes x (publish_changes x len share))) → SettlesOf accepts node next
  settles node next v len share there is_node all one changes x is =
      let same : v ≡ x = some_is v x (sym there ∙ is) in (
        changes x is ∙ ap₂ (λ (n : ℕ) (s : Share). Some (with_changes x (publish_changes x n s))) (all ∙ ap (λ (y : NodeView K). length (node_rows y)) same) one,
        settles_all K accepts x (subst (IsNode accepts) same is_node),
      )

  -- ---- all of it

  module _ (events : List (List ℕ)) (time : Option ℕ) where
    take_all : (xs : List (List ℕ)) → take (length xs) xs ≡ xs
    take_all [] = refl
    take_all (x ∷ xs) = ap (λ (ys : List (List ℕ)). x ∷ ys) (take_all xs)

    pub stops_put : (node : Option (NodeView K)) (a b : FileView) → StopsLeaveOf accepts (IsPutSome accepts events) node a b → StopsLeaveOf accepts (IsOnTheWay accepts events time) node a b
    stops_put node a b stops v is told = leaves_wider accepts v.start (IsPutSome accepts events v) (IsOnTheWay accepts events time v) a b (λ w some. inl some) (stops v is told)

    -- the block of a settled node
    shown_block : (members : MemberList) (x : ℕ) (m w : NodeView K) → m.start.members ≡ stakes_of members → m.start.coin ≡ members.coin → IsSettled m w
        → kept_block members x w ≡ block_of members x (node_rows w)
    shown_block members x m w stakes coin is =
        ap (marked_block members x (node_rows w))
        (is.marks ∙ ap (λ (G : List Row). fame_marks m.start.members m.start.coin (links G) (coin_at G)) (sym is.rows)
        ∙ ap₂ (λ (n : Stakes) (c : ℕ). fame_marks n c (links (node_rows w)) (coin_at (node_rows w))) stakes coin)

    -- there is still a node after each part of the work
    pub there_puts : (node next : Option (NodeView K)) (counts : PutCounts) → IsSome node → PutsAll accepts events node next counts → IsSome next
    there_puts node next counts there all = let v = some_value node there in subst (λ (o : Option (NodeView K)). IsSome o) (sym (all v.0 v.1).0) refl

    pub there_makes : (node next : Option (NodeView K)) (told : Option Making) → IsSome node → MakesOf accepts time node next told → IsSome next
    there_makes node next told there makes = let v = some_value node there in subst (λ (o : Option (NodeView K)). IsSome o) (sym (makes v.0 v.1).1) refl

    -- and it is one that was made with these members
    pub made_still : (members : MemberList) (node next last final : Option (NodeView K)) (counts : PutCounts) (told : Option Making) (w : NodeView K) → IsSome node → PutsAll accepts events node next counts
        → MakesOf accepts time next last told → SettlesOf accepts last final → final ≡ Some w → IsMadeWithOf members node → IsMadeWith members w
    made_still members node next last final counts told w there all makes settles_it here with =
        let v = some_value node there in
        let u = (puts accepts v.0 events).0 in
        let made = makes u (all v.0 v.1).0 in
        let done = settles_it made.0 made.1 in
        let same : w.start ≡ v.0.start =
        ap (λ (x : NodeView K). x.start) (some_is w (settled made.0) (sym here ∙ done.0)) ∙ makes_start u made.0 time told made.2 ∙ puts_start v.0 events in
        same ∙ with v.0 v.1 ∙ ap (λ (s : Start K). start_of members s.own s.keys) (sym same)

    -- what came of all of it
    pub kept_is : (members : MemberList) (node next last settled_node : Option (NodeView K)) (v w : NodeView K) (kept : KeepReport) → node ≡ Some v → settled_node ≡ Some w → kept.opened ≡ length (node_rows v)
        → PutsAll accepts events node next kept.counts → MakesOf accepts time next last kept.made → SettlesOf accepts last settled_node → IsMadeWithOf members node
        → kept.outcome ≡ kept_outcome members w → KeptOf accepts members events time node settled_node kept
    kept_is members node next last settled_node v w kept there here opened all makes settles_it with outcome x is =
        let same : v ≡ x = some_is v x (sym there ∙ is) in
        let u = (puts accepts x events).0 in
        let made = makes u (all x is).0 in
        let m = made.0 in
        let done = settles_it m made.1 in
        let last_is : w ≡ settled m = some_is w (settled m) (sym here ∙ done.0) in
        let start : m.start ≡ x.start = makes_start u m time kept.made made.2 ∙ puts_start x events in
        let begun : x.start ≡ start_of members x.start.own x.start.keys = with x is in
        let stakes : m.start.members ≡ stakes_of members = ap (λ (s : Start K). s.members) (start ∙ begun) in
        let coin : m.start.coin ≡ members.coin = ap (λ (s : Start K). s.coin) (start ∙ begun) in
        let block : kept_block members w.start.own w ≡ block_of members w.start.own (node_rows w) =
        shown_block members w.start.own m w stakes coin (subst (IsSettled m) (sym last_is) done.1) in (
          w,
          here,
          record {
            opened = opened ∙ ap (λ (y : NodeView K). length (node_rows y)) same;
            counts = (all x is).1;
            made = m;
            makes = made.2;
            last = last_is;
            outcome = outcome ∙ ap (λ (b : Block). (let o : Outcome = record { names = names_of members; printed = printed.Block b ∷ [] } in o)) block;
          },
        )
