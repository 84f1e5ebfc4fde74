-- What a record does to a node.
use Rattle.std.proofs.Common.{◌≡◌, ℕ, ◌+◌, ◌^◌, ◌<◌, ◌≤◌, Bool, true, false, nat_lt, nat_eq, if◌then◌else◌, List, [], ◌∷◌, length, drop, Option, Some, None, refl, sym, ◌∙◌, ap, ap₂, arith, length-append}
use Rattle.std.specs.Prelude.{◌&&◌, nat_le, option_and_then}
use Rattle.std.proofs.lemmas.Bool.{and_from}
use Rattle.std.specs.Int.{w32, from_be_bytes, to_be_bytes}
use Rattle.std.proofs.lemmas.Bool.Decides.{nat_tests}
use Rattle.std.proofs.lemmas.Nat.{from_be_bytes-to_be_bytes_4}
use Rattle.hg_model.specs.Shares.{Share}
use Rattle.hg_life.specs.declared.answers.PutAnswer.TheVariants.{Accepted}
use Rattle.hg_life.specs.Calls.{put_answer, put_changes, publish_changes}
use Rattle.hg_life.specs.History.{Change}
use Rattle.hg_life.specs.NodeView.{NodeView, IsNode, node_rows, with_changes, terms_of}
use Rattle.hg_life.specs.Signing.{Accepts}
use Rattle.hg_event.proofs.Reading.{AreBytes}
use Rattle.hg_event.proofs.Spells.{read_event-Spells}
use Rattle.hg_history.proofs.CallLaws.{puts_add_one}
use Rattle.hg_history.proofs.SoundLaws.{node_graph}
use Rattle.hg_node.specs.Restore.{restore_changes}
use Rattle.hg_node.specs.Replay.{StoredChange, grown_by, may_mark, replay_one}
use Rattle.hg_node.specs.Replay.StoredChange.{StoredTook, StoredMade, StoredMarked}
use Rattle.hg_node.proofs.FewLaws.{changes_are_few, spellings_are_short}
use Rattle.hg_journal.specs.Journal.{CanMark, change_in, marked_body, marked_in, next_node}

-- ---- how much there may be

pub rows_few : {K : Type 0} (accepts : K → Accepts) (v : NodeView K) → IsNode accepts v → length (node_rows v) ≤ 1048576
rows_few accepts v node =
    let few = (node_graph (terms_of accepts v.start) v.start.members v.start.coin v.start.own v.history node.coin node.history).few in
    let limit = node.limit in
    omega arith

pub changes_few : {K : Type 0} (accepts : K → Accepts) (v : NodeView K) → IsNode accepts v → length v.history ≤ 2097152
changes_few accepts v node = omega (arith, changes_are_few (terms_of accepts v.start) v.start.members v.start.coin v.start.own v.history node.history, rows_few accepts v node)

pub accepted_short : {K : Type 0} (accepts : K → Accepts) (v : NodeView K) (bytes : List ℕ) (place : ℕ) → AreBytes bytes → put_answer accepts v bytes ≡ Accepted place → length bytes ≤ 1345
accepted_short {K} accepts v bytes place fit accepted =
    let one = puts_add_one K accepts v bytes place accepted in
    spellings_are_short bytes one.1.0 (read_event-Spells bytes one.1.0 fit one.1.1)

-- ---- that a node has grown is told by how many changes it has

module _ {K : Type 0} (v w : NodeView K) where
  longer : (es : List Change) → w ≡ with_changes v es → length w.history ≡ length v.history + length es
  longer es is = ap (λ (x : NodeView K). length x.history) is ∙ length-append v.history es

  pub grown_if_more : (es : List Change) → w ≡ with_changes v es → grown_by v es ≡ (if nat_lt (length v.history) (length w.history) then Some w else None)
  grown_if_more [] is =
      let no : nat_lt (length v.history) (length w.history) ≡ false = (let size = longer [] is in grind (arith, nat_tests)) in
      sym (ap (λ (t : Bool). if t then Some w else None) no)
  grown_if_more (e ∷ es) is =
      let yes : nat_lt (length v.history) (length w.history) ≡ true = (let size = longer (e ∷ es) is in grind (arith, nat_tests)) in
      ap (λ (x : NodeView K). Some x) (sym is) ∙ sym (ap (λ (t : Bool). if t then Some w else None) yes)

  -- .. from the same start, and by some changes
  abbrev Grown : Type 0
  Grown = (w.start ≡ v.start) × (length v.history < length w.history)

  grown_more : (es : List Change) → grown_by v es ≡ Some w → Grown
  grown_more [] e = absurd cc
  grown_more (c ∷ es) e =
      let is : w ≡ with_changes v (c ∷ es) = cc in
      (ap (λ (x : NodeView K). x.start) is, omega (arith, longer (c ∷ es) is))

  module _ (accepts : K → Accepts) where
    marked_more : (t : Bool) (es : List Change) → (if t then grown_by v es else None) ≡ Some w → Grown
    marked_more true es e = grown_more es e
    marked_more false es e = absurd cc

    replay_more : (change : StoredChange) → replay_one accepts v change ≡ Some w → Grown
    unfolding replay_one
    replay_more (StoredTook bytes) e = grown_more _ e
    replay_more (StoredMade bytes) e = grown_more _ e
    replay_more (StoredMarked len k m) e = marked_more (may_mark v len k m) _ e

    from_change : (o : Option StoredChange) → option_and_then (replay_one accepts v) o ≡ Some w → Grown
    from_change None e = absurd cc
    from_change (Some change) e = replay_more change e

    pub next_more : (kind : ℕ) (body : List ℕ) → next_node accepts v kind body ≡ Some w → Grown
    unfolding next_node
    next_more kind body e = from_change (change_in kind body) e

-- ---- what comes again

le_test : (a b : ℕ) → a ≤ b → nat_le a b ≡ true
le_test a b le = grind (arith, nat_tests)

lt_test : (a b : ℕ) → a < b → nat_lt a b ≡ true
lt_test a b lt = grind (arith, nat_tests)

and_fails : (a b : Bool) → a ≡ false → (a && b) ≡ false
and_fails a b fails = ap (λ (t : Bool). t && b) fails

and_fails_then : (a b : Bool) → b ≡ false → (a && b) ≡ false
and_fails_then true b fails = fails
and_fails_then false b fails = refl

-- there are not so many rows, or there is no such share
pub no_rows : {K : Type 0} (v : NodeView K) (len k m : ℕ) → length (node_rows v) < len → may_mark v len k m ≡ false
no_rows v len k m few = and_fails _ (nat_lt k m) (let no : nat_le len (length (node_rows v)) ≡ false = grind (arith, nat_tests) in no)

pub no_share : {K : Type 0} (v : NodeView K) (len k m : ℕ) → m ≤ k → may_mark v len k m ≡ false
no_share v len k m high = and_fails_then (nat_le len (length (node_rows v))) _ (let no : nat_lt k m ≡ false = grind (arith, nat_tests) in no)

twelve : (n : ℕ) → nat_eq n 12 ≡ true → n ≡ 12
twelve n same = grind (arith, nat_tests)

-- what is read of a body fits, and so does what the body tells
marks_fit : (t : Bool) (a b c len k m rows : ℕ) → (if t then Some (StoredMarked a b c) else None) ≡ Some (StoredMarked len k m) → len ≤ rows → k < m →
    (t ≡ true) × (a ≤ rows) × (b < c)
marks_fit true a b c len k m rows is within lawful =
    let first : a ≡ len = cc in
    let second : b ≡ k = cc in
    let third : c ≡ m = cc in
    (refl, omega arith, omega arith)
marks_fit false a b c len k m rows is within lawful = absurd cc

module _ {K : Type 0} (accepts : K → Accepts) (v : NodeView K) where
  module _ (w : NodeView K) (before after : ℕ) (had : before ≡ length v.history) (has : after ≡ length w.history) where
    -- where there are more changes than before, they made this node of it
    abbrev Came : StoredChange → Type 0
    Came change = replay_one accepts v change ≡ (if nat_lt before after then Some w else None)

    counted : (es : List Change) → w ≡ with_changes v es → grown_by v es ≡ (if nat_lt before after then Some w else None)
    counted es is = grown_if_more v w es is ∙ ap₂ (λ (m n : ℕ). if nat_lt m n then Some w else None) (sym had) (sym has)

    pub put_comes : (bytes : List ℕ) → w ≡ with_changes v (put_changes accepts v bytes) → Came (StoredTook bytes)
    unfolding replay_one
    put_comes bytes is = counted (put_changes accepts v bytes) is

    pub restore_comes : (bytes : List ℕ) → w ≡ with_changes v (restore_changes accepts v bytes) → Came (StoredMade bytes)
    unfolding replay_one
    restore_comes bytes is = counted (restore_changes accepts v bytes) is

    pub mark_comes : (len : ℕ) (share : Share) → len ≤ length (node_rows v) → share.k < share.of → w ≡ with_changes v (publish_changes v len share) → Came (StoredMarked len share.k share.of)
    unfolding replay_one
    mark_comes len share within lawful is =
        let may : may_mark v len share.k share.of ≡ true = and_from (nat_le len (length (node_rows v))) (nat_lt share.k share.of) (le_test len (length (node_rows v)) within) (lt_test share.k share.of lawful) in
        ap (λ (t : Bool). if t then grown_by v (publish_changes v len share) else None) may ∙ counted (publish_changes v len share) is

  pub took_is : (bytes : List ℕ) → next_node accepts v 1 bytes ≡ replay_one accepts v (StoredTook bytes)
  unfolding next_node
  took_is bytes = refl

  pub made_is : (bytes : List ℕ) → next_node accepts v 2 bytes ≡ replay_one accepts v (StoredMade bytes)
  unfolding next_node
  made_is bytes = refl

  pub no_kind : (kind : ℕ) (body : List ℕ) → (kind ≡ 1 → ⊥) → (kind ≡ 2 → ⊥) → (kind ≡ 3 → ⊥) → next_node accepts v kind body ≡ None
  unfolding next_node
  no_kind kind body one two three =
      let a : nat_eq kind 1 ≡ false = grind (arith, nat_tests) in
      let b : nat_eq kind 2 ≡ false = grind (arith, nat_tests) in
      let c : nat_eq kind 3 ≡ false = grind (arith, nat_tests) in
      let none : change_in kind body ≡ None =
      ap (λ (t : Bool). if t then Some (StoredTook body) else if nat_eq kind 2 then Some (StoredMade body) else if nat_eq kind 3 then marked_in body else None) a
      ∙ ap (λ (t : Bool). if t then Some (StoredMade body) else if nat_eq kind 3 then marked_in body else None) b
      ∙ ap (λ (t : Bool). if t then marked_in body else None) c in
      ap (option_and_then (replay_one accepts v)) none

  pub marked_none : (body : List ℕ) → marked_in body ≡ None → next_node accepts v 3 body ≡ None
  unfolding next_node
  marked_none body none = ap (option_and_then (replay_one accepts v)) none

  pub marked_some : (body : List ℕ) (len k m : ℕ) → marked_in body ≡ Some (StoredMarked len k m) → next_node accepts v 3 body ≡ replay_one accepts v (StoredMarked len k m)
  unfolding next_node
  marked_some body len k m is = ap (option_and_then (replay_one accepts v)) is

  pub marked_unfit : (body : List ℕ) (len k m : ℕ) → marked_in body ≡ Some (StoredMarked len k m) → may_mark v len k m ≡ false → next_node accepts v 3 body ≡ None
  unfolding replay_one
  marked_unfit body len k m is unfit =
      marked_some body len k m is ∙ ap (λ (t : Bool). if t then grown_by v (publish_changes v len (record { k = k; «of» = m })) else None) unfit

  pub can_mark : (body : List ℕ) (len k m : ℕ) → marked_in body ≡ Some (StoredMarked len k m) → len ≤ length (node_rows v) → k < m → CanMark v body
  can_mark body len k m is within lawful =
      let fit = marks_fit (nat_eq (length body) 12) (from_be_bytes w32 body) (from_be_bytes w32 (drop 4 body)) (from_be_bytes w32 (drop 8 body)) len k m (length (node_rows v)) is within lawful in
      (twelve (length body) fit.0, fit.1, fit.2)

  pub marked_body_in : (len k m : ℕ) → len < 2 ^ 32 → k < 2 ^ 32 → m < 2 ^ 32 → marked_in (marked_body len k m) ≡ Some (StoredMarked len k m)
  marked_body_in len k m a b c =
      ap (λ (n : ℕ). Some (StoredMarked n (from_be_bytes w32 (to_be_bytes w32 k)) (from_be_bytes w32 (to_be_bytes w32 m)))) (from_be_bytes-to_be_bytes_4 len a)
      ∙ ap (λ (n : ℕ). Some (StoredMarked len n (from_be_bytes w32 (to_be_bytes w32 m)))) (from_be_bytes-to_be_bytes_4 k b)
      ∙ ap (λ (n : ℕ). Some (StoredMarked len k n)) (from_be_bytes-to_be_bytes_4 m c)
