-- Rows that come in one turn: where none is refused, the node has the names of all of them then
use Rattle.std.proofs.Common.{◌≡◌, inl, inr, ℕ, ◌+◌, ◌*◌, ◌≤◌, Bool, true, false, cond, not, if◌then◌else◌, List, [], ◌∷◌, fold, Option, Some, None, option_map, unwrap_or, length, Result, sym, refl, ap, ◌∙◌, subst, arith}
use Rattle.std.specs.Prelude.{nat_le, ◌==◌}
use Rattle.std.specs.Option.{option_or}
use Rattle.std.proofs.lemmas.Bool.{cases_Bool, true≢false}
use Rattle.hg_model.specs.declared.row.Row.{Row}
use Rattle.hg_life.specs.declared.answers.ByteFault.{ByteFault}
use Rattle.hg_life.specs.declared.answers.Fault.{Fault}
use Rattle.hg_life.specs.declared.answers.Fault.TheVariants as fault
use Rattle.hg_life.specs.declared.answers.PutAnswer.{PutAnswer}
use Rattle.hg_life.specs.declared.answers.PutAnswer.TheVariants.{Accepted, Known, Refused}
use Rattle.hg_model.specs.Graph.{creator_at}
use Rattle.hg_model.specs.Links.{ParentNames, place_of}
use Rattle.hg_model.specs.Orders.{IsPrefix}
use Rattle.hg_life.specs.Signing.{accepts_by}
use Rattle.hg_life.specs.Spelling.{Spells, body_of, spelling}
use Rattle.hg_model.specs.Stakes.{Stakes, member_count, total}
use Rattle.hg_life.specs.Verdict.{arrival_rule, creator_rule, first_by, first_missing, forkers_rule, forking_with, full_rule, has_bytes, impostor_rule, member_rule, missing_rule, name_rule, row_verdict, signature_rule, verdict_of}
use Rattle.hg_model.specs.Held.{is_held}
use Rattle.hg_life.specs.Calls.{put_answer, put_changes}
use Rattle.hg_life.specs.NodeView.{NodeView, node_rows, terms_of}
use Rattle.hg_life.specs.Terms.{Terms}
use Rattle.hg_event.proofs.Spells.{Spells-read_event}
use Rattle.hg_history.proofs.StateLaws.{prefix_more, prefix_same, rows_grow}
use Rattle.hg_gossip.specs.declared.gossip.Taken.{Taken}
use Rattle.hg_gossip.specs.Gossip.{none_taken}
use Rattle.hg_gossip.specs.Handing.{AreKnown}
use Rattle.hg_gossip.specs.Nodes.{Taking, take_event, taking_of}
use Rattle.hg_gossip.specs.Holding.{Seen}
use Rattle.hg_gossip.proofs.HandLaws.{held_more}
use Rattle.hg_board.specs.Seats.{SharedNode, SeatView}
use Rattle.hg_board.specs.Taking.{AreSpelled, SeatTakes, take_row, taking_rows}
use Rattle.hg_world.specs.World.{Secrets}
use Rattle.hg_world.proofs.PutsLaws.{accepted_held}
use Rattle.hg_play.specs.Through.{node_seen}

-- the rule tells of a row that is known
abbrev tells_known : Option PutAnswer → Bool
tells_known None = false
tells_known (Some (Accepted p)) = false
tells_known (Some (Known p)) = true
tells_known (Some (Refused f)) = false

-- no rule but that of names does

or_known : (a b : Option PutAnswer) → tells_known a ≡ false → tells_known b ≡ false → tells_known (option_or a b) ≡ false
or_known None b one two = two
or_known (Some answer) b one two = one

refused_if : (b : Bool) (f : Fault) → tells_known (if b then Some (Refused f) else None) ≡ false
refused_if true f = refl
refused_if false f = refl

refused_unless : (b : Bool) (f : Fault) → tells_known (if b then None else Some (Refused f)) ≡ false
refused_unless true f = refl
refused_unless false f = refl

refused_map : {A : Type 0} (f : A → Fault) (o : Option A) → tells_known (option_map (λ x. Refused (f x)) o) ≡ false
refused_map f None = refl
refused_map f (Some x) = refl

refused_or : (b : Bool) (f : Fault) (o : Option PutAnswer) → tells_known o ≡ false → tells_known (if b then Some (Refused f) else o) ≡ false
refused_or true f o none = refl
refused_or false f o none = none

missing_known : (G : List Row) (parents : ParentNames) → tells_known (missing_rule G parents) ≡ false
missing_known G None = refl
missing_known G (Some names) =
    refused_or (not (is_held G names.0)) (fault.MissingSelf names.0) (option_map (λ name. Refused (fault.MissingOther name)) (first_missing G names.1))
    (refused_map (λ (name : List ℕ). fault.MissingOther name) (first_missing G names.1))

creator_known : (G : List Row) (m : ℕ) (parents : ParentNames) → tells_known (creator_rule G m parents) ≡ false
creator_known G m None = refl
creator_known G m (Some names) =
    refused_or (not (creator_at G (place_of G names.0) == m)) (fault.SelfCreator (place_of G names.0)) (option_map (λ place. Refused (fault.OtherCreator place)) (first_by G m names.1))
    (refused_map (λ (place : ℕ). fault.OtherCreator place) (first_by G m names.1))

name_known : (b c : Bool) (p : ℕ) → b ≡ false → tells_known (if not b then None else if c then Some (Known p) else Some (Refused (fault.Collision p))) ≡ false
name_known true c p is = absurd (true≢false is)
name_known false c p is = refl

answer_known : (o : Option PutAnswer) (n p : ℕ) → tells_known o ≡ false → unwrap_or o (Accepted n) ≡ Known p → true ≡ false
answer_known None n p none is = absurd cc
answer_known (Some (Accepted q)) n p none is = absurd cc
answer_known (Some (Known q)) n p none is = none
answer_known (Some (Refused f)) n p none is = absurd cc

-- a row of which the answer is that it is known is held
row_known : (terms : Terms) (n : Stakes) (own : ℕ) (G : List Row) (row : Row) (p : ℕ) → row_verdict terms n own G row ≡ Known p → is_held G row.name ≡ true
row_known terms n own G row p is = elim (cases_Bool (is_held G row.name)) [
  | inl held ↦ held
  | inr other ↦ absurd (true≢false (answer_known (option_or (arrival_rule terms.accepts n own G row) (option_or (forkers_rule n G row) (full_rule terms.limit G))) (length G) p
      (or_known (arrival_rule terms.accepts n own G row) (option_or (forkers_rule n G row) (full_rule terms.limit G))
      (or_known (member_rule n row) _ (refused_if (nat_le (member_count n) row.creator) (fault.Member row.creator))
      (or_known (name_rule G row) _ (name_known (is_held G row.name) (has_bytes G (place_of G row.name) (spelling row)) (place_of G row.name) other)
      (or_known (signature_rule terms.accepts row) _ (refused_unless (terms.accepts row.creator (body_of row) row.sig) fault.Signature)
      (or_known (impostor_rule own row) _ (refused_if (row.creator == own) fault.Impostor)
      (or_known (missing_rule G row.parents) (creator_rule G row.creator row.parents) (missing_known G row.parents) (creator_known G row.creator row.parents))))))
      (or_known (forkers_rule n G row) (full_rule terms.limit G) (refused_if (nat_le (total n) (3 * forking_with n G row)) (fault.TooManyForkers (forking_with n G row)))
      (refused_if (nat_le terms.limit (length G)) (fault.Full terms.limit)))) is))
]

known_held : (v : NodeView Secrets) (row : Row) (p : ℕ) → Spells (spelling row) row → put_answer accepts_by v (spelling row) ≡ Known p → is_held (node_rows v) row.name ≡ true
unfolding put_answer
known_held v row p spells is =
    row_known (terms_of accepts_by v.start) v.start.members v.start.own (node_rows v) row p
    (sym (ap (λ (read : Result Row ByteFault). verdict_of (terms_of accepts_by v.start) v.start.members v.start.own (node_rows v) read) (Spells-read_event (spelling row) row spells)) ∙ is)

-- one row more

abbrev with_row : Bool → Taking Secrets → Row → Taking Secrets
with_row b t row = cond b t (take_event accepts_by t (spelling row))

row_grows : (b : Bool) (t : Taking Secrets) (row : Row) → IsPrefix (node_rows t.node) (node_rows (with_row b t row).node)
row_grows true t row = prefix_same (node_rows t.node) (node_rows t.node) refl
row_grows false t row = rows_grow t.node.start.members t.node.start.coin t.node.history (put_changes accepts_by t.node (spelling row))

row_counts : (b : Bool) (t : Taking Secrets) (row : Row) → t.counts.refused ≤ (with_row b t row).counts.refused
row_counts true t row = omega arith
row_counts false t row = omega arith

rows_all : (rows : List Row) (t : Taking Secrets) → IsPrefix (node_rows t.node) (node_rows (fold (take_row accepts_by) t rows).node)
rows_all [] t = prefix_same (node_rows t.node) (node_rows t.node) refl
rows_all (row ∷ rows) t =
    prefix_more (node_rows t.node) (node_rows (take_row accepts_by t row).node) (node_rows (fold (take_row accepts_by) (take_row accepts_by t row) rows).node)
    (row_grows (is_held (node_rows t.node) row.name) t row) (rows_all rows (take_row accepts_by t row))

counts_all : (rows : List Row) (t : Taking Secrets) → t.counts.refused ≤ (fold (take_row accepts_by) t rows).counts.refused
counts_all [] t = omega arith
counts_all (row ∷ rows) t = omega (arith, row_counts (is_held (node_rows t.node) row.name) t row, counts_all rows (take_row accepts_by t row))

none_refused : (rows : List Row) (t : Taking Secrets) → AreSpelled rows → (fold (take_row accepts_by) t rows).counts.refused ≡ 0 → AreKnown (node_rows (fold (take_row accepts_by) t rows).node) rows
none_refused [] t spelled none = tt
none_refused (row ∷ rows) t spelled none = (first (is_held (node_rows t.node) row.name) refl, none_refused rows next spelled.1 none)
  where
    next : Taking Secrets
    next = take_row accepts_by t row

    end : Taking Secrets
    end = fold (take_row accepts_by) next rows

    put : Taking Secrets
    put = take_event accepts_by t (spelling row)

    later : is_held (node_rows next.node) row.name ≡ true → is_held (node_rows end.node) row.name ≡ true
    later held = held_more (node_rows next.node) (node_rows end.node) row.name (rows_all rows next) held

    answered : is_held (node_rows t.node) row.name ≡ false → (answer : PutAnswer) → put_answer accepts_by t.node (spelling row) ≡ answer → is_held (node_rows end.node) row.name ≡ true
    answered other (Accepted p) is =
        later (subst (λ (u : Taking Secrets). is_held (node_rows u.node) row.name ≡ true) (sym (ap (λ (b : Bool). with_row b t row) other)) (accepted_held t.node row p spelled.0 is))
    answered other (Known p) is = absurd (true≢false (sym (known_held t.node row p spelled.0 is) ∙ other))
    answered other (Refused f) is =
        let one : next.counts.refused ≡ put.counts.refused = ap (λ (b : Bool). (with_row b t row).counts.refused) other in
        let more : put.counts.refused ≡ t.counts.refused + 1 = ap (λ (a : PutAnswer). (Rattle.hg_gossip.specs.Gossip.with_answer t.counts a).refused) is in
        absurd (omega (arith, none, one, more, counts_all rows next))

    first : (b : Bool) → is_held (node_rows t.node) row.name ≡ b → is_held (node_rows end.node) row.name ≡ true
    first true is = held_more (node_rows t.node) (node_rows end.node) row.name (rows_all (row ∷ rows) t) is
    first false is = answered is (put_answer accepts_by t.node (spelling row)) refl

-- rows that came through a seat in one turn
pub took_known : (p : SharedNode Secrets) (m n : SeatView Secrets) (rows : List Row) (counts : Taken) → SeatTakes accepts_by p m rows n counts → AreSpelled rows → counts.refused ≡ 0 → AreKnown (node_rows (node_seen p n)) rows
unfolding taking_rows
took_known p m n rows counts takes spelled none =
    let r : NodeView Secrets = takes.reached.node in
    let ended : fold (take_row accepts_by) (taking_of r none_taken) rows ≡ taking_of (node_seen p n) counts =
    takes.taken ∙ ap (λ (v : NodeView Secrets). taking_of v counts) (sym (ap (λ (s : Seen Secrets). s.node) takes.grown)) in
    subst (λ (t : Taking Secrets). AreKnown (node_rows t.node) rows) ended
    (none_refused rows (taking_of r none_taken) spelled (ap (λ (t : Taking Secrets). t.counts.refused) ended ∙ none))
