-- Names that are held: they stay so, and which answers tell of them
use Rattle.std.proofs.Common.{◌≡◌, inl, inr, ℕ, ◌<◌, ◌*◌, Bool, true, false, cond, not, eqb, lt-ltb, List, [], ◌∷◌, ◌++◌, length, get_or, slice_get, Option, Some, None, option_map, Result, Ok, refl, sym, ap, ◌∙◌, subst, arith}
use Rattle.std.specs.Prelude.{nat_le, unwrap_or, IfSome}
use Rattle.std.specs.Option.{option_or}
use Rattle.std.specs.Str.{bytes_eq}
use Rattle.std.proofs.lemmas.Bool.{cases_lt, ltb-true, true≢false}
use Rattle.std.proofs.lemmas.List.Sums.{fails_before_first, passes_at_first}
use Rattle.std.proofs.lemmas.Option.{slice_get-get_or, slice_get_within, get_or_from_slice_get}
use Rattle.hg_model.specs.declared.row.Row.{Row}
use Rattle.hg_model.specs.Stakes.{Stakes, member_count, total}
use Rattle.hg_model.specs.Links.{ParentNames, is_named, place_of}
use Rattle.hg_model.specs.Graph.{creator_at}
use Rattle.hg_model.specs.Held.{is_held}
use Rattle.hg_model.specs.Orders.{IsPrefix}
use Rattle.hg_model.proofs.LongerLaws.{slice_get-append}
use Rattle.hg_model.proofs.NameLaws.{bytes_eq-same, bytes_same}
use Rattle.hg_model.proofs.PushLaws.{nobody, slice_get-last}
use Rattle.hg_life.specs.declared.answers.ByteFault.{ByteFault}
use Rattle.hg_life.specs.declared.answers.Fault.{Fault}
use Rattle.hg_life.specs.declared.answers.Fault.TheVariants as fault
use Rattle.hg_life.specs.declared.answers.PutAnswer.{PutAnswer}
use Rattle.hg_life.specs.declared.answers.PutAnswer.TheVariants.{Accepted, Known, Refused}
use Rattle.hg_life.specs.Spelling.{body_of, spelling}
use Rattle.hg_life.specs.Reading.{read_event}
use Rattle.hg_life.specs.Signing.{Accepts}
use Rattle.hg_life.specs.Verdict.{arrival_rule, creator_rule, first_by, first_missing, forkers_rule, forking_with, full_rule, has_bytes, impostor_rule, made_row, member_rule, missing_rule, name_rule, row_verdict, signature_rule, verdict_of}
use Rattle.hg_life.specs.History.{Change, State, replay}
use Rattle.hg_life.specs.History.Change.{Took, Made}
use Rattle.hg_life.specs.NodeView.{NodeView, node_rows, with_changes, IsNode, terms_of}
use Rattle.hg_life.specs.Calls.{put_answer, put_changes}
use Rattle.hg_life.specs.Terms.{Terms, row_limit}
use Rattle.hg_event.proofs.Reading.{same_done, AreBytes}
use Rattle.hg_event.proofs.Spells.{read_event-Spells, Spells-read_event}
use Rattle.hg_history.specs.Laws.{AcceptedIsHeld, HeldStays, KnownHasEntry, KnownIsHeld, MadeIsHeld}
use Rattle.hg_history.proofs.StateLaws.{replay-push, rows_grow}
use Rattle.hg_history.proofs.SoundLaws.{node_graph}
use Rattle.hg_history.proofs.LogLaws.{row_entry}
use Rattle.hg_history.proofs.CallLaws.{makes_add_one, puts_add_one}

-- the name of a row that stands somewhere is held
pub held_at : (G : List Row) (x : ℕ) (row : Row) → slice_get G x ≡ Some row → is_held G row.name ≡ true
held_at G x row at = elim (cases_lt (place_of G row.name) (length G)) [
  | inl held ↦ lt-ltb (place_of G row.name) (length G) held
  | inr past ↦ (
      let inside = slice_get_within G x row at in
      let here : get_or G x nobody ≡ row = get_or_from_slice_get G x row nobody at in
      let fails = fails_before_first (is_named row.name) G x nobody (omega arith) in
      absurd (true≢false (sym (bytes_eq-same (get_or G x nobody).name row.name (ap (λ (r : Row). r.name) here)) ∙ fails)))
]

-- and is held among more rows
pub held_longer : (G H : List Row) (name : List ℕ) → IsPrefix G H → is_held G name ≡ true → is_held H name ≡ true
held_longer G H name first held =
    let p = place_of G name in
    let inside : p < length G = ltb-true p (length G) held in
    let row : Row = get_or G p nobody in
    let there : slice_get H p ≡ Some row =
    ap (λ (U : List Row). slice_get U p) first.1 ∙ (slice_get-append G first.0 nobody p inside ∙ slice_get-get_or G p nobody inside) in
    subst (λ (k : List ℕ). is_held H k ≡ true) (bytes_same row.name name (passes_at_first (is_named name) G nobody inside)) (held_at H p row there)

pub held_stays : HeldStays
held_stays n c a b name held = held_longer (replay n c a).rows (replay n c (a ++ b)).rows name (rows_grow n c a b) held

-- an answer that a row is known tells the place of its name, and is given only where that is held by a row with the same bytes

abbrev Tells : List Row → Row → PutAnswer → Type 0
Tells G row (Accepted p) = Unit {0}
Tells G row (Known p) = (place_of G row.name ≡ p) × (is_held G row.name ≡ true) × (has_bytes G p (spelling row) ≡ true)
Tells G row (Refused f) = Unit {0}

abbrev RuleTells : List Row → Row → Option PutAnswer → Type 0
RuleTells G row rule = IfSome rule (Tells G row)

module _ (G : List Row) (row : Row) where
  either_tells : (a b : Option PutAnswer) → RuleTells G row a → RuleTells G row b → RuleTells G row (option_or a b)
  either_tells None b first second = second
  either_tells (Some x) b first second = first

  refused_where : (t : Bool) (f : Fault) (o : Option PutAnswer) → RuleTells G row o → RuleTells G row (cond t (Some (Refused f)) o)
  refused_where true f o tells = tt
  refused_where false f o tells = tells

  refused_but : (t : Bool) (f : Fault) → RuleTells G row (cond t None (Some (Refused f)))
  refused_but true f = tt
  refused_but false f = tt

  refused_of : {A : Type 0} (f : A → Fault) (o : Option A) → RuleTells G row (option_map (λ x. Refused (f x)) o)
  refused_of f None = tt
  refused_of f (Some x) = tt

  missing_tells : (parents : ParentNames) → RuleTells G row (missing_rule G parents)
  missing_tells None = tt
  missing_tells (Some names) =
      refused_where (not (is_held G names.0)) (fault.MissingSelf names.0) (option_map (λ other. Refused (fault.MissingOther other)) (first_missing G names.1))
      (refused_of (λ (other : List ℕ). fault.MissingOther other) (first_missing G names.1))

  creators_tell : (m : ℕ) (parents : ParentNames) → RuleTells G row (creator_rule G m parents)
  creators_tell m None = tt
  creators_tell m (Some names) =
      refused_where (not (eqb (creator_at G (place_of G names.0)) m)) (fault.SelfCreator (place_of G names.0)) (option_map (λ place. Refused (fault.OtherCreator place)) (first_by G m names.1))
      (refused_of (λ (place : ℕ). fault.OtherCreator place) (first_by G m names.1))

  name_tells : (held same : Bool) → is_held G row.name ≡ held → has_bytes G (place_of G row.name) (spelling row) ≡ same →
      RuleTells G row (cond (not held) None (cond same (Some (Known (place_of G row.name))) (Some (Refused (fault.Collision (place_of G row.name))))))
  name_tells false same is bytes = tt
  name_tells true false is bytes = tt
  name_tells true true is bytes = (refl, is, bytes)

  answer_tells : (o : Option PutAnswer) (place : ℕ) → RuleTells G row o → Tells G row (unwrap_or o (Accepted place))
  answer_tells None place tells = tt
  answer_tells (Some answer) place tells = tells

verdict_tells : (terms : Terms) (n : Stakes) (own : ℕ) (G : List Row) (row : Row) → Tells G row (row_verdict terms n own G row)
verdict_tells terms n own G row =
    let member = refused_where G row (nat_le (member_count n) row.creator) (fault.Member row.creator) None tt in
    let known = name_tells G row (is_held G row.name) (has_bytes G (place_of G row.name) (spelling row)) refl refl in
    let signature = refused_but G row (terms.accepts row.creator (body_of row) row.sig) fault.Signature in
    let impostor = refused_where G row (eqb row.creator own) fault.Impostor None tt in
    let forks = refused_where G row (nat_le (total n) (3 * forking_with n G row)) (fault.TooManyForkers (forking_with n G row)) None tt in
    let full = refused_where G row (nat_le terms.limit (length G)) (fault.Full terms.limit) None tt in
    answer_tells G row (option_or (arrival_rule terms.accepts n own G row) (option_or (forkers_rule n G row) (full_rule terms.limit G))) (length G)
    (either_tells G row (arrival_rule terms.accepts n own G row) _
    (either_tells G row (member_rule n row) _ member
    (either_tells G row (name_rule G row) _ known
    (either_tells G row (signature_rule terms.accepts row) _ signature
    (either_tells G row (impostor_rule own row) _ impostor
    (either_tells G row (missing_rule G row.parents) (creator_rule G row.creator row.parents) (missing_tells G row row.parents) (creators_tell G row row.creator row.parents))))))
    (either_tells G row (forkers_rule n G row) (full_rule terms.limit G) forks full))

module _ (K : Type 0) (accepts : K → Accepts) (v : NodeView K) (bytes : List ℕ) (row : Row) (place : ℕ) (is : read_event bytes ≡ Ok row) (known : put_answer accepts v bytes ≡ Known place) where
  known_tells : Tells (node_rows v) row (Known place)
  unfolding put_answer
  known_tells =
      let answer : row_verdict (terms_of accepts v.start) v.start.members v.start.own (node_rows v) row ≡ Known place =
      sym (ap (λ (read : Result Row ByteFault). verdict_of (terms_of accepts v.start) v.start.members v.start.own (node_rows v) read) is) ∙ known in
      subst (Tells (node_rows v) row) answer (verdict_tells (terms_of accepts v.start) v.start.members v.start.own (node_rows v) row)

  known_inside : place < length (node_rows v)
  known_inside = (let inside = ltb-true (place_of (node_rows v) row.name) (length (node_rows v)) known_tells.1 in omega (arith, known_tells.0))

  -- the row with the same bytes is the same row
  known_row : AreBytes bytes → IsNode accepts v → slice_get (node_rows v) place ≡ Some row
  known_row fit node =
      let G : List Row = node_rows v in
      let there : Row = get_or G place nobody in
      let at : slice_get G place ≡ Some there = slice_get-get_or G place nobody known_inside in
      let event = (node_graph (terms_of accepts v.start) v.start.members v.start.coin v.start.own v.history node.coin node.history).events place there at in
      let alike = bytes_same (spelling there) (spelling row) (subst (λ (o : Option Row). bytes_eq (unwrap_or (option_map spelling o) []) (spelling row) ≡ true) at known_tells.2) in
      let spelled : spelling row ≡ bytes = sym (read_event-Spells bytes row fit is).spelled in
      at ∙ ap (λ (r : Row). Some r) (same_done there row (sym (Spells-read_event (spelling there) there event.spelled) ∙ (ap read_event (alike ∙ spelled) ∙ is)))

pub known_held : (K : Type 0) → KnownIsHeld K
known_held K accepts v bytes row place is known = (let tells = known_tells K accepts v bytes row place is known in (tells.0, tells.1))

pub known_entry : (K : Type 0) → KnownHasEntry K
known_entry K accepts v bytes row place fit node is known =
    (known_row K accepts v bytes row place is known fit node, row_entry v.start.members v.start.coin v.history place (known_inside K accepts v bytes row place is known))

-- a row that comes

held_last : (G : List Row) (row : Row) → is_held (G ++ row ∷ []) row.name ≡ true
held_last G row = held_at (G ++ row ∷ []) (length G) row (slice_get-last G row)

pub accepted_held : (K : Type 0) → AcceptedIsHeld K
accepted_held K accepts v bytes row place is accepted =
    let one = puts_add_one K accepts v bytes place accepted in
    let same : one.1.0 ≡ row = same_done one.1.0 row (sym one.1.1 ∙ is) in
    let rows : node_rows (with_changes v (put_changes accepts v bytes)) ≡ node_rows v ++ row ∷ [] =
    ap (λ (es : List Change). node_rows (with_changes v es)) (one.1.2 ∙ ap (λ (r : Row). Took r ∷ []) same)
    ∙ ap (λ (s : State). s.rows) (replay-push v.start.members v.start.coin v.history (Took row)) in
    subst (λ (G : List Row). is_held G row.name ≡ true) (sym rows) (held_last (node_rows v) row)

pub made_held : (K : Type 0) → MadeIsHeld K
made_held K v others time payload sig place made =
    let row : Row = made_row v.start.own (node_rows v) others time payload sig in
    let rows = ap (λ (es : List Change). node_rows (with_changes v es)) (makes_add_one K v others time payload sig place made).1
    ∙ ap (λ (s : State). s.rows) (replay-push v.start.members v.start.coin v.history (Made row)) in
    subst (λ (G : List Row). is_held G row.name ≡ true) (sym rows) (held_last (node_rows v) row)
