-- A turn's row, which is made or could not be
use Rattle.std.proofs.lemmas.Bool.{lt-leb}
use Rattle.hg_life.specs.declared.answers.MakeFault.TheVariants as made_fault
use Rattle.hg_life.specs.Verdict.{made_or}
use Rattle.std.proofs.Common.{slice_get, ◌≡◌, inl, inr, ℕ, suc, ◌+◌, ◌<◌, ◌⊎◌, Bool, true, false, cond, List, [], ◌∷◌, length, Option, Some, None, refl, sym, ap, ◌∙◌, subst, arith}
use Rattle.std.proofs.lemmas.Bool.{cases_Bool, true≢false}
use Rattle.std.proofs.lemmas.List.{length-map, length_push}
use Rattle.std.proofs.lemmas.Option.{slice_get_within}
use Rattle.std.proofs.Math.Seq.{take-length}
use Rattle.hg_model.specs.declared.row.Row.{Row}
use Rattle.hg_life.specs.declared.answers.MakeAnswer.{MakeAnswer}
use Rattle.hg_life.specs.declared.answers.MakeAnswer.TheVariants as answer
use Rattle.hg_life.specs.History.{Change}
use Rattle.hg_life.specs.History.Change.{Made}
use Rattle.hg_life.specs.NodeView.{NodeView, node_rows}
use Rattle.hg_life.specs.Verdict.{last_name, making}
use Rattle.hg_life.specs.Calls.{make_answer}
use Rattle.hg_life.specs.Spelling.{spelling}
use Rattle.hg_life.specs.Signing.{accepts_by}
use Rattle.hg_node.specs.Next.{MakesNext, last_other, next_others, others_after}
use Rattle.hg_gossip.specs.Holding.{Seen}
use Rattle.hg_board.specs.Positions.{AreBelow}
use Rattle.hg_board.specs.Table.{node_at}
use Rattle.hg_board.specs.Seats.{SharedNode, SeatView}
use Rattle.hg_board.specs.Calls.{SeatMakesNext}
use Rattle.hg_history.proofs.CallLaws.{with_none}
use Rattle.hg_history.proofs.ChangeLaws.{changes_left}
use Rattle.hg_storm.specs.Keeping.{Secrets, rows_made}
use Rattle.hg_storm.specs.Sending.{bytes_seen}
use Rattle.hg_storm.specs.Turning.{IsIdle, IsIdleAt, IsMadeAt, is_row}
use Rattle.hg_storm.proofs.MadeLaws.{AddsFor, get_end, made_none, made_one, next_adds, next_none, next_one, reached_by}

-- the first event is made

first_made : (limit own time : ℕ) (sig : List ℕ) → 0 < limit → making limit own [] [] time [] sig ≡ answer.Made 0
first_made limit own time sig room = ap (λ (full : Bool). made_or (cond full (Some (made_fault.Full limit)) None) 0) (lt-leb limit 0 room)

made_of_none : (v : NodeView Secrets) (others : List (List ℕ)) (time : ℕ) (sig : List ℕ) → 0 < v.start.limit → node_rows v ≡ [] → next_others v ≡ Some others → make_answer v others time [] sig ≡ answer.Made 0
unfolding make_answer
made_of_none v others time sig room none next =
    let own : ℕ = v.start.own in
    let first : ◌≡◌ {A = Option (List (List ℕ))} (Some []) (Some others) =
    sym (ap (λ (G : List Row). others_after (last_name own G) (last_other own G)) none) ∙ next in
    let bare : others ≡ [] = sym (one_of [] others first) in
    ap (λ (G : List Row). making v.start.limit own G others time [] sig) none ∙ (ap (λ (os : List (List ℕ)). making v.start.limit own [] os time [] sig) bare ∙ first_made v.start.limit own time sig room)
  where
    one_of : (xs ys : List (List ℕ)) → ◌≡◌ {A = Option (List (List ℕ))} (Some xs) (Some ys) → xs ≡ ys
    one_of xs ys e = cc

-- a node without rows makes one
no_row_makes : (v w : NodeView Secrets) (time : ℕ) (made : Option MakeAnswer) → 0 < v.start.limit → node_rows v ≡ [] → MakesNext accepts_by v time made w → is_row made ≡ true
no_row_makes v w time None room none next =
    let own : ℕ = v.start.own in
    absurd (something (sym (ap (λ (G : List Row). others_after (last_name own G) (last_other own G)) none) ∙ next.1))
  where
    something : ◌≡◌ {A = Option (List (List ℕ))} (Some []) None → ⊥
    something e = cc
no_row_makes v w time (Some (answer.Made place)) room none next = refl
no_row_makes v w time (Some (answer.Refused f)) room none next =
    let m = next.2.making in
    absurd (made_not (m.answers ∙ made_of_none v next.0 time m.sig room none next.1))
  where
    made_not : answer.Refused f ≡ answer.Made 0 → ⊥
    made_not e = cc

some_of_list : (G : List Row) → (G ≡ [] → ⊥) → 0 < length G
some_of_list [] some = absurd (some refl)
some_of_list (row ∷ G) some = omega arith

idle_of : (a : Option MakeAnswer) → is_row a ≡ false → IsIdle a
idle_of None e = tt
idle_of (Some (answer.Made place)) e = absurd (true≢false e)
idle_of (Some (answer.Refused fault)) e = tt

none_of : (time : ℕ) (a : Option MakeAnswer) (more : List Change) → is_row a ≡ false → AddsFor time a more → more ≡ []
none_of time None more e adds = adds
none_of time (Some (answer.Made place)) more e adds = absurd (true≢false e)
none_of time (Some (answer.Refused fault)) more e adds = adds

one_of : (time : ℕ) (a : Option MakeAnswer) (more : List Change) → is_row a ≡ true → AddsFor time a more → (row : Row) × (more ≡ Made row ∷ []) × (row.time ≡ time)
one_of time None more e adds = absurd (true≢false (sym e))
one_of time (Some (answer.Made place)) more e adds = adds
one_of time (Some (answer.Refused fault)) more e adds = absurd (true≢false (sym e))

module _ (p : SharedNode Secrets) (s t : SeatView Secrets) (time : ℕ) (a : Option MakeAnswer) (next : SeatMakesNext accepts_by p s time t a) where
  adds : AddsFor time a next.more
  adds = next_adds accepts_by p s t time a next

  -- how many changes the node had before
  abbrev many : ℕ
  many = length (reached_by accepts_by p s t time a next)

  -- where no row was made, the node is the one that made none
  same_node : is_row a ≡ false → node_at p.start t.seen ≡ next.reached.node
  same_node unmade = ap (λ (x : Seen Secrets). x.node) next.grown ∙ with_none next.reached.node next.more (none_of time a next.more unmade adds)

  makes_here : is_row a ≡ false → MakesNext accepts_by (node_at p.start t.seen) time a (node_at p.start t.seen)
  makes_here unmade = subst (λ (v : NodeView Secrets). MakesNext accepts_by v time a (node_at p.start t.seen)) (sym (same_node unmade)) next.makes

  pub idle_now : is_row a ≡ false → IsIdleAt (node_at p.start t.seen) time (length t.seen)
  idle_now unmade = record {
    made = a;
    idle = idle_of a unmade;
    next = subst (λ (h : List Change). MakesNext accepts_by (node_at p.start h) time a (node_at p.start h)) (sym (take-length t.seen)) (makes_here unmade);
  }

  made_there : (row : Row) → next.more ≡ Made row ∷ [] → slice_get t.seen many ≡ Some (Made row)
  made_there row is =
      ap (λ (h : List Change). slice_get h many) (next_one accepts_by p s t time a next row is).grown ∙ get_end (reached_by accepts_by p s t time a next) (Made row)

  pub ends_now : IsMadeAt (node_at p.start t.seen) time (length t.seen) ⊎ IsIdleAt (node_at p.start t.seen) time (length t.seen)
  ends_now = elim (cases_Bool (is_row a)) [
    | inl was_made ↦
        let one = one_of time a next.more was_made adds in
        let grown = (next_one accepts_by p s t time a next one.0 one.1).grown in
        let long : length t.seen ≡ suc many = omega (arith, ap length grown, length_push (reached_by accepts_by p s t time a next) (Made one.0)) in
        inl (record { row = one.0; of_time = one.2; last = many; first = long; made = made_there one.0 one.1 })
    | inr unmade ↦ inr (idle_now unmade)
  ]

  pub some_rows : 0 < p.start.start.limit → 0 < length (bytes_seen p t)
  some_rows room = elim (cases_Bool (is_row a)) [
    | inl was_made ↦
        let one = one_of time a next.more was_made adds in
        let held = changes_left p.start.start.members p.start.start.coin t.seen one.0 (inl (many, made_there one.0 one.1)) in
        omega (arith, slice_get_within (node_rows (node_at p.start t.seen)) held.0 one.0 held.1, length-map (node_rows (node_at p.start t.seen)) spelling)
    | inr unmade ↦
        let some : 0 < length (node_rows (node_at p.start t.seen)) =
        some_of_list (node_rows (node_at p.start t.seen)) (λ none. true≢false (sym (no_row_makes (node_at p.start t.seen) (node_at p.start t.seen) time a room none (makes_here unmade)) ∙ unmade)) in
        omega (arith, some, length-map (node_rows (node_at p.start t.seen)) spelling)
  ]

  pub rows_after : AreBelow (length s.seen) s.mine → rows_made t ≡ rows_made s + cond (is_row a) 1 0
  rows_after below = elim (cases_Bool (is_row a)) [
    | inl was_made ↦
        let one = one_of time a next.more was_made adds in
        made_one s t below (reached_by accepts_by p s t time a next) (Made one.0) (next_one accepts_by p s t time a next one.0 one.1)
        ∙ ap (λ (b : Bool). rows_made s + cond b 1 0) (sym was_made)
    | inr unmade ↦
        made_none s t below (next_none accepts_by p s t time a next (none_of time a next.more unmade adds))
        ∙ (plus_none (rows_made s) ∙ ap (λ (b : Bool). rows_made s + cond b 1 0) (sym unmade))
  ]
    where
      plus_none : (n : ℕ) → n ≡ n + cond false 1 0
      plus_none n = omega arith
