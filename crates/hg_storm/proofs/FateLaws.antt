-- One message more: what came of those before it stays so, and what comes of it
use Rattle.std.proofs.Common.{◌≡◌, ◌⊎◌, ⊎_elim, inl, inr, ℕ, zero, suc, ◌<◌, ◌≤◌, IsTrue, List, [], ◌∷◌, ◌++◌, length, length-append, take, Result, Ok, Err, Some, slice_get, refl, sym, ap, ◌∙◌, subst, arith}
use mathlib.Core.Logic.{dite}
use native.Mathlib.Decide.{ℕ_discrete}
use Rattle.std.specs.List.{AllByRecursion}
use Rattle.std.proofs.lemmas.List.{append-nil, get_or_append_left, get_or_push, take-append-le}
use Rattle.std.proofs.Math.Seq.{take-length}
use Rattle.std.proofs.lemmas.Option.{slice_get_within}
use Rattle.hg_model.specs.declared.row.Row.{Row}
use Rattle.hg_model.specs.Orders.{IsPrefix}
use Rattle.hg_model.specs.Held.{is_held}
use Rattle.hg_life.specs.declared.answers.ByteFault.{ByteFault}
use Rattle.hg_life.specs.declared.answers.Fault.{Fault}
use Rattle.hg_life.specs.declared.answers.PutAnswer.{PutAnswer}
use Rattle.hg_life.specs.declared.answers.PutAnswer.TheVariants.{Accepted, Known, Refused}
use Rattle.hg_life.specs.Reading.{read_event}
use Rattle.hg_life.specs.Verdict.{verdict_of}
use Rattle.hg_life.specs.History.{Change}
use Rattle.hg_life.specs.History.Change.{Took, Made}
use Rattle.hg_life.specs.NodeView.{NodeView, node_rows, with_changes, terms_of}
use Rattle.hg_life.specs.Calls.{put_answer, put_changes}
use Rattle.hg_life.specs.Signing.{Accepts}
use Rattle.hg_history.proofs.CallLaws as node
use Rattle.hg_history.proofs.HeldLaws.{accepted_held, held_stays, known_held}
use Rattle.hg_mail.specs.declared.message.Message.{Message}
use Rattle.hg_board.specs.Table.{node_at}
use Rattle.hg_board.specs.Seats.{SharedNode, SeatView}
use Rattle.hg_board.specs.Calls.{SeatPuts}
use Rattle.hg_board.proofs.ChangeLaws.{other_puts_add_none, puts_add_one}
use Rattle.hg_board.proofs.PrefixLaws.{prefix_length, prefix_self}
use Rattle.hg_storm.specs.declared.taking.RefusedMessage.{RefusedMessage}
use Rattle.hg_storm.specs.Fates.{AreHeld, AreRising, CameBy, HasFates, HoldsEvent, IsMade, IsOfMessage, IsRefused, IsTaken, Refuses, after_put, bytes_at, no_message}

-- lists that have grown

module _ {A : Type 0} where
  get_front : (xs ys : List A) (k : ℕ) → k < length xs → slice_get (xs ++ ys) k ≡ slice_get xs k
  get_front [] ys k inside = absurd (omega (arith, inside))
  get_front (x ∷ xs) ys zero inside = refl
  get_front (x ∷ xs) ys (suc k) inside = get_front xs ys k (omega (arith, inside))

  get_last : (xs : List A) (x : A) → slice_get (xs ++ x ∷ []) (length xs) ≡ Some x
  get_last [] x = refl
  get_last (y ∷ xs) x = get_last xs x

  pub get_later : (xs ys : List A) (k : ℕ) (x : A) → IsPrefix xs ys → slice_get xs k ≡ Some x → slice_get ys k ≡ Some x
  get_later xs ys k x p is = ap (λ (zs : List A). slice_get zs k) p.1 ∙ (get_front xs p.0 k (slice_get_within xs k x is) ∙ is)

  pub take_later : (n : ℕ) (xs ys : List A) → n ≤ length xs → IsPrefix xs ys → take n xs ≡ take n ys
  take_later n xs ys le p = sym (ap (take n) p.1 ∙ take-append-le n xs p.0 le)

  pub all_map : (P Q : A → Type 0) → ((x : A) → P x → Q x) → (xs : List A) → AllByRecursion P xs → AllByRecursion Q xs
  all_map P Q f [] all = tt
  all_map P Q f (x ∷ xs) all = (f x all.0, all_map P Q f xs all.1)

  pub all_append : (P : A → Type 0) (xs ys : List A) → AllByRecursion P xs → AllByRecursion P ys → AllByRecursion P (xs ++ ys)
  all_append P [] ys all more = more
  all_append P (x ∷ xs) ys all more = (all.0, all_append P xs ys all.1 more)

  all_push : (P : A → Type 0) (xs : List A) (x : A) → AllByRecursion P xs → P x → AllByRecursion P (xs ++ x ∷ [])
  all_push P [] x all last = (last, tt)
  all_push P (y ∷ xs) x all last = (all.0, all_push P xs x all.1 last)

-- what is held is held later
pub holds_later : {V : Type 0} (start : NodeView V) (h later : List Change) (bytes : List ℕ) → IsPrefix h later → HoldsEvent (node_at start h) bytes → HoldsEvent (node_at start later) bytes
holds_later start h later bytes p e = record {
  row = e.row;
  reads = e.reads;
  held = subst (λ (l : List Change). IsTrue (is_held (node_rows (node_at start l)) e.row.name)) (sym p.1) (held_stays start.start.members start.start.coin h p.0 e.row.name e.held);
}

bytes_front : (taken : List Message) (m : Message) (j : ℕ) → j < length taken → bytes_at taken j ≡ bytes_at (taken ++ m ∷ []) j
bytes_front taken m j inside = ap (λ (l : Message). l.bytes) (sym (get_or_append_left taken (m ∷ []) no_message j inside))

bytes_last : (taken : List Message) (m : Message) (j : ℕ) → j ≡ length taken → m.bytes ≡ bytes_at (taken ++ m ∷ []) j
bytes_last taken m j e = ap (λ (l : Message). l.bytes) (sym (get_or_push taken m no_message j (sym e)))

refused_more : (j : ℕ) (rs more : List RefusedMessage) → IsRefused j rs → IsRefused j (rs ++ more)
refused_more j [] more is = absurd is
refused_more j (r ∷ rs) more is = ⊎_elim (λ e. inl e) (λ t. inr (refused_more j rs more t)) is

refused_last : (rs : List RefusedMessage) (r : RefusedMessage) → IsRefused r.index (rs ++ r ∷ [])
refused_last [] r = inl refl
refused_last (x ∷ rs) r = inr (refused_last rs r)

held_later : {V : Type 0} (p : SharedNode V) (h later : List Change) (taken : List Message) (m : Message) (rs more : List RefusedMessage) (end : ℕ) →
    IsPrefix h later → end ≤ length taken → AreHeld p h taken rs end → AreHeld p later (taken ++ m ∷ []) (rs ++ more) end
held_later p h later taken m rs more end first le held j inside = ⊎_elim
    (λ x. inl (refused_more j rs more x))
    (λ e. inr (subst (HoldsEvent (node_at p.start later)) (bytes_front taken m j (omega (arith, le, inside))) (holds_later p.start h later (bytes_at taken j) first e)))
    (held j inside)

of_more : (taken : List Message) (m : Message) (row : Row) → IsOfMessage taken row → IsOfMessage (taken ++ m ∷ []) row
of_more taken m row of = record {
  index = of.index;
  inside = omega (arith, of.inside, length-append taken (m ∷ []));
  reads = subst (λ (b : List ℕ). read_event b ≡ Ok row) (bytes_front taken m of.index of.inside) of.reads;
}

-- a change came so in a longer history too
pub came_still : (h later : List Change) (taken : List Message) (q : ℕ) → IsPrefix h later → CameBy h taken q → CameBy later taken q
came_still h later taken q first came = ⊎_elim
    (λ (made : IsMade h q). inl (record { row = made.row; at = get_later h later q (Made made.row) first made.at }))
    (λ (took : IsTaken h taken q). inr (record { row = took.row; at = get_later h later q (Took took.row) first took.at; message = took.message }))
    came

came_more : (h : List Change) (taken : List Message) (m : Message) (q : ℕ) → CameBy h taken q → CameBy h (taken ++ m ∷ []) q
came_more h taken m q came = ⊎_elim
    (λ (made : IsMade h q). inl made)
    (λ (took : IsTaken h taken q). inr (record { row = took.row; at = took.at; message = of_more taken m took.row took.message }))
    came

-- a longer history, and the same messages
pub refuses_still : {V : Type 0} (accepts : V → Accepts) (p : SharedNode V) (h later : List Change) (taken : List Message) (refused : List RefusedMessage) (r : RefusedMessage) →
    IsPrefix h later → Refuses accepts p h taken refused r → Refuses accepts p later taken refused r
refuses_still accepts p h later taken refused r first was =
    let same : take r.at h ≡ take r.at later = take_later r.at h later was.within first in
    record {
      index = was.index;
      within = omega (arith, was.within, prefix_length h later first);
      verdict = subst (λ (k : List Change). put_answer accepts (node_at p.start k) (bytes_at taken r.index) ≡ Refused r.why) same was.verdict;
      before = subst (λ (k : List Change). AreHeld p k taken refused r.index) same was.before;
    }

-- the same messages and one more
refuses_more : {V : Type 0} (accepts : V → Accepts) (p : SharedNode V) (h : List Change) (taken : List Message) (m : Message) (refused more : List RefusedMessage) (r : RefusedMessage) →
    Refuses accepts p h taken refused r → Refuses accepts p h (taken ++ m ∷ []) (refused ++ more) r
refuses_more accepts p h taken m refused more r was = record {
  index = omega (arith, was.index, length-append taken (m ∷ []));
  within = was.within;
  verdict = subst (λ (b : List ℕ). put_answer accepts (node_at p.start (take r.at h)) b ≡ Refused r.why) (bytes_front taken m r.index was.index) was.verdict;
  before = held_later p (take r.at h) (take r.at h) taken m refused more r.index (prefix_self (take r.at h)) (omega (arith, was.index)) was.before;
}

-- bytes that are known spell an event, whose name is held
module _ {V : Type 0} (accepts : V → Accepts) (v : NodeView V) (bytes : List ℕ) (place : ℕ) where
  known_reads : (read : Result Row ByteFault) → read_event bytes ≡ read → put_answer accepts v bytes ≡ Known place → (row : Row) × (read_event bytes ≡ Ok row)
  unfolding put_answer
  known_reads (Err e) is known =
      (let no_event : Refused _ ≡ Known place = sym (ap (λ (r : Result Row ByteFault). verdict_of (terms_of accepts v.start) v.start.members v.start.own (node_rows v) r) is) ∙ known in cc)
  known_reads (Ok row) is known = (row, is)

  known_holds : put_answer accepts v bytes ≡ Known place → HoldsEvent v bytes
  known_holds known =
      let reads = known_reads (read_event bytes) refl known in
      record { row = reads.0; reads = reads.1; held = (known_held V accepts v bytes reads.0 place reads.1 known).1 }

same_row : (a b : Row) → ◌≡◌ {A = Result Row ByteFault} (Ok a) (Ok b) → a ≡ b
same_row a b e = cc

-- an event that was accepted is held, and its row is the last one that was taken
pub accepted_holds : {V : Type 0} (accepts : V → Accepts) (start : NodeView V) (h later : List Change) (bytes : List ℕ) (row : Row) (place : ℕ) →
    read_event bytes ≡ Ok row → put_answer accepts (node_at start h) bytes ≡ Accepted place → later ≡ h ++ Took row ∷ [] → HoldsEvent (node_at start later) bytes
accepted_holds {V} accepts start h later bytes row place reads accepted grown =
    let v : NodeView V = node_at start h in
    let one = node.puts_add_one V accepts v bytes place accepted in
    let same : one.1.0 ≡ row = same_row one.1.0 row (sym one.1.1 ∙ reads) in
    let after : with_changes v (put_changes accepts v bytes) ≡ node_at start later =
    ap (λ (es : List Change). node_at start (h ++ es)) (one.1.2 ∙ ap (λ (r : Row). Took r ∷ []) same) ∙ ap (node_at start) (sym grown) in
    record {
      row = row;
      reads = reads;
      held = subst (λ (w : NodeView V). IsTrue (is_held (node_rows w) row.name)) after (accepted_held V accepts v bytes row place reads accepted);
    }

-- the next message that is refused stands behind all before it
rising_push : (from : ℕ) (rs : List RefusedMessage) (r : RefusedMessage) → from ≤ r.index → AllByRecursion (λ (x : RefusedMessage). x.index < r.index) rs → AreRising from rs → AreRising from (rs ++ r ∷ [])
rising_push from [] r low below rising = (low, tt)
rising_push from (x ∷ rs) r low below rising = (rising.0, rising_push (suc x.index) rs r (omega (arith, below.0)) below.1 rising.1)

module _ {V : Type 0} (accepts : V → Accepts) (p : SharedNode V) (s t : SeatView V) (taken : List Message) (refused : List RefusedMessage) (m : Message) (fates : HasFates accepts p s taken refused) (first : IsPrefix s.seen t.seen) where
  all_refused : (more : List RefusedMessage) → AllByRecursion (Refuses accepts p t.seen (taken ++ m ∷ []) (refused ++ more)) refused
  all_refused more = all_map (Refuses accepts p s.seen taken refused) (Refuses accepts p t.seen (taken ++ m ∷ []) (refused ++ more))
      (λ r was. refuses_more accepts p t.seen taken m refused more r (refuses_still accepts p s.seen t.seen taken refused r first was)) refused fates.refusals

  all_came : AllByRecursion (CameBy t.seen (taken ++ m ∷ [])) s.mine
  all_came = all_map (CameBy s.seen taken) (CameBy t.seen (taken ++ m ∷ [])) (λ q was. came_more t.seen taken m q (came_still s.seen t.seen taken q first was)) s.mine fates.came

  all_held : (more : List RefusedMessage) → IsRefused (length taken) (refused ++ more) ⊎ HoldsEvent (node_at p.start t.seen) m.bytes → AreHeld p t.seen (taken ++ m ∷ []) (refused ++ more) (length (taken ++ m ∷ []))
  all_held more last j inside = dite (ℕ_discrete j (length taken))
      (λ e. ⊎_elim (λ x. inl (subst (λ (n : ℕ). IsRefused n (refused ++ more)) (sym e) x)) (λ b. inr (subst (HoldsEvent (node_at p.start t.seen)) (bytes_last taken m j e) b)) last)
      (λ ne. held_later p s.seen t.seen taken m refused more (length taken) first (omega arith) fates.held j (omega (arith, inside, ne, length-append taken (m ∷ []))))

  below : AllByRecursion (λ (r : RefusedMessage). r.index < length taken) refused
  below = all_map (Refuses accepts p s.seen taken refused) (λ (r : RefusedMessage). r.index < length taken) (λ r is. is.index) refused fates.refusals

  -- nothing was refused
  unrefused : HoldsEvent (node_at p.start t.seen) m.bytes → AllByRecursion (CameBy t.seen (taken ++ m ∷ [])) t.mine → HasFates accepts p t (taken ++ m ∷ []) refused
  unrefused has came = subst (HasFates accepts p t (taken ++ m ∷ [])) (append-nil refused) (record {
    refusals = subst (AllByRecursion (Refuses accepts p t.seen (taken ++ m ∷ []) (refused ++ []))) (sym (append-nil refused)) (all_refused []);
    once = subst (AreRising 0) (sym (append-nil refused)) fates.once;
    held = all_held [] (inr has);
    came = came;
  })

  accepted : (place : ℕ) → SeatPuts accepts p s m.bytes t (Accepted place) → HasFates accepts p t (taken ++ m ∷ []) refused
  accepted place puts =
      let one = puts_add_one V accepts p s t m.bytes place puts in
      let at : slice_get t.seen (length one.0) ≡ Some (Took one.1) = ap (λ (h : List Change). slice_get h (length one.0)) one.2.grown ∙ get_last one.0 (Took one.1) in
      let of : IsOfMessage (taken ++ m ∷ []) one.1 = record {
        index = length taken;
        inside = omega (arith, length-append taken (m ∷ []));
        reads = subst (λ (b : List ℕ). read_event b ≡ Ok one.1) (bytes_last taken m (length taken) refl) one.3;
      } in
      let came : CameBy t.seen (taken ++ m ∷ []) (length one.0) = inr (record { row = one.1; at = at; message = of }) in
      unrefused (accepted_holds accepts p.start one.0 t.seen m.bytes one.1 place one.3 one.4 one.2.grown)
      (subst (AllByRecursion (CameBy t.seen (taken ++ m ∷ []))) (sym one.2.mine) (all_push (CameBy t.seen (taken ++ m ∷ [])) s.mine (length one.0) all_came came))

  known : (place : ℕ) → SeatPuts accepts p s m.bytes t (Known place) → HasFates accepts p t (taken ++ m ∷ []) refused
  known place puts =
      let none = other_puts_add_none V accepts p s t m.bytes (Known place) puts (λ q e. cc) in
      unrefused (known_holds accepts (node_at p.start t.seen) m.bytes place (sym none.1)) (subst (AllByRecursion (CameBy t.seen (taken ++ m ∷ []))) (sym none.0.mine) all_came)

  refuses : (why : Fault) (at : ℕ) → at ≡ length t.seen → SeatPuts accepts p s m.bytes t (Refused why) → HasFates accepts p t (taken ++ m ∷ []) (refused ++ record { index = length taken; why = why; at = at } ∷ [])
  refuses why at at_is puts =
      let r : RefusedMessage = record { index = length taken; why = why; at = at } in
      let none = other_puts_add_none V accepts p s t m.bytes (Refused why) puts (λ q e. cc) in
      let all : t.seen ≡ take at t.seen = sym (ap (λ (n : ℕ). take n t.seen) at_is ∙ take-length t.seen) in
      record {
        refusals = all_push (Refuses accepts p t.seen (taken ++ m ∷ []) (refused ++ r ∷ [])) refused r (all_refused (r ∷ [])) (record {
          index = omega (arith, length-append taken (m ∷ []));
          within = omega (arith, at_is);
          verdict = subst (λ (y : List Change × List ℕ). put_answer accepts (node_at p.start y.0) y.1 ≡ Refused why) (λ i. (all i, bytes_last taken m (length taken) refl i)) (sym none.1);
          before = subst (λ (h : List Change). AreHeld p h (taken ++ m ∷ []) (refused ++ r ∷ []) (length taken)) all
              (held_later p s.seen t.seen taken m refused (r ∷ []) (length taken) first (omega arith) fates.held);
        });
        once = rising_push 0 refused r (omega arith) below fates.once;
        held = all_held (r ∷ []) (inl (refused_last refused r));
        came = subst (AllByRecursion (CameBy t.seen (taken ++ m ∷ []))) (sym none.0.mine) all_came;
      }

  -- one message more
  pub fates_one : (answer : PutAnswer) (at : ℕ) → at ≡ length t.seen → SeatPuts accepts p s m.bytes t answer → HasFates accepts p t (taken ++ m ∷ []) (after_put (length taken) at refused answer)
  fates_one (Accepted place) at at_is puts = accepted place puts
  fates_one (Known place) at at_is puts = known place puts
  fates_one (Refused why) at at_is puts = refuses why at at_is puts
