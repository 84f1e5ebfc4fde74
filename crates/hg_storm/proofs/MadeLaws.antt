-- The rows that a seat's own calls made, as the node goes on
use Rattle.std.proofs.Common.{◌≡◌, ⊎_elim, ℕ, zero, suc, ◌+◌, ◌<◌, ◌≤◌, Bool, false, cond, List, [], ◌∷◌, ◌++◌, append_assoc, length, take, Option, Some, None, slice_get, refl, sym, ap, ◌∙◌, arith}
use Rattle.std.specs.Prelude.{count_by}
use Rattle.std.specs.List.{AllByRecursion}
use Rattle.std.proofs.lemmas.List.{append-nil, length-take-le, take_all}
use Rattle.std.proofs.lemmas.List.Sums.{sum_by-append, sum_by-cons}
use Rattle.std.proofs.lemmas.Option.{slice_get_past, slice_get_within}
use Rattle.hg_model.specs.Orders.{IsPrefix}
use Rattle.hg_model.specs.declared.row.Row.{Row}
use Rattle.hg_life.specs.declared.answers.PutAnswer.{PutAnswer}
use Rattle.hg_life.specs.declared.answers.PutAnswer.TheVariants.{Accepted, Known, Refused}
use Rattle.hg_life.specs.declared.answers.MakeAnswer.{MakeAnswer}
use Rattle.hg_life.specs.declared.answers.MakeAnswer.TheVariants as answer
use Rattle.hg_life.specs.Verdict.{made_row}
use Rattle.hg_life.specs.History.{Change}
use Rattle.hg_life.specs.History.Change.{Took, Made}
use Rattle.hg_life.specs.NodeView.{NodeView, node_rows}
use Rattle.hg_life.specs.Calls.{made_by, make_changes}
use Rattle.hg_life.specs.Signing.{Accepts}
use Rattle.hg_node.specs.Next.{MakesNext}
use Rattle.hg_gossip.specs.Holding.{Seen, positions_from}
use Rattle.hg_history.proofs.StateLaws.{prefix_more}
use Rattle.hg_mail.specs.declared.message.Message.{Message}
use Rattle.hg_board.specs.Positions.{AreBelow}
use Rattle.hg_board.specs.Seats.{SharedNode, SeatView, seen_by}
use Rattle.hg_board.specs.Calls.{SeatMakesNext, SeatPuts, SeatWaits}
use Rattle.hg_board.specs.Laws.{AddsNone, AddsOne}
use Rattle.hg_board.proofs.ChangeLaws.{other_puts_add_none, puts_add_one}
use Rattle.hg_board.proofs.PrefixLaws.{prefix_length}
use Rattle.hg_crowd.proofs.MarkLaws.{get_front}
use Rattle.hg_storm.specs.Fates.{CameBy, IsMade, IsTaken}
use Rattle.hg_storm.specs.Keeping.{AddsNoRow, is_made, rows_made, rows_made_in}
use Rattle.hg_storm.proofs.FateLaws.{all_append, all_map}

abbrev pub is_made_in : List Change → ℕ → Bool
is_made_in h q = is_made (slice_get h q)

-- as many pass a test as pass another that is the same of each
count_same : (f g : ℕ → Bool) (qs : List ℕ) → AllByRecursion (λ q. f q ≡ g q) qs → count_by f qs ≡ count_by g qs
count_same f g [] same = refl
count_same f g (q ∷ qs) same =
    let one : ◌≡◌ {A = ℕ} (cond (f q) 1 0) (cond (g q) 1 0) = ap (λ (b : Bool). cond b 1 0) same.0 in
    let rest = count_same f g qs same.1 in
    sum_by-cons (λ y. cond (f y) 1 0) q qs ∙ ((λ i. one i + rest i) ∙ sym (sum_by-cons (λ y. cond (g y) 1 0) q qs))

-- positions within a history have in a longer one what they had
pub made_front : (h later : List Change) (qs : List ℕ) → IsPrefix h later → AreBelow (length h) qs → count_by (is_made_in later) qs ≡ count_by (is_made_in h) qs
made_front h later qs first below =
    count_same (is_made_in later) (is_made_in h) qs
    (all_map (λ q. q < length h) (λ q. is_made_in later q ≡ is_made_in h q) (λ q inside. ap is_made (ap (λ (l : List Change). slice_get l q) first.1 ∙ get_front h first.0 q inside)) qs below)

pub came_below : (h : List Change) (taken : List Message) (qs : List ℕ) → AllByRecursion (CameBy h taken) qs → AreBelow (length h) qs
came_below h taken qs came = all_map (CameBy h taken) (λ q. q < length h)
    (λ q one. ⊎_elim (λ (m : IsMade h q). slice_get_within h q (Made m.row) m.at) (λ (t : IsTaken h taken q). slice_get_within h q (Took t.row) t.at) one) qs came

-- among the first changes of a longer history too
get_first : (at : ℕ) (h rest : List Change) (q : ℕ) → q < length h → slice_get (take at (h ++ rest)) q ≡ slice_get (take at h) q
get_first zero h rest q inside = refl
get_first (suc at) [] rest q inside = absurd (omega (arith, inside))
get_first (suc at) (e ∷ h) rest zero inside = refl
get_first (suc at) (e ∷ h) rest (suc q) inside = get_first at h rest q (omega (arith, inside))

made_first : (at : ℕ) (h later : List Change) (qs : List ℕ) → IsPrefix h later → AreBelow (length h) qs → count_by (is_made_in (take at later)) qs ≡ count_by (is_made_in (take at h)) qs
made_first at h later qs first below =
    count_same (is_made_in (take at later)) (is_made_in (take at h)) qs
    (all_map (λ q. q < length h) (λ q. is_made_in (take at later) q ≡ is_made_in (take at h) q)
    (λ q inside. ap is_made (ap (λ (l : List Change). slice_get (take at l) q) first.1 ∙ get_first at h first.0 q inside)) qs below)

-- a row that was taken is none that was made, nor is what comes after the first changes
took_end : (at : ℕ) (h : List Change) (row : Row) → is_made_in (take at (h ++ Took row ∷ [])) (length h) ≡ false
took_end zero h row = refl
took_end (suc at) [] row = refl
took_end (suc at) (e ∷ h) row = took_end at h row

past_none : (h : List Change) (n : ℕ) (es : List Change) → length h ≤ n → count_by (is_made_in h) (positions_from n es) ≡ 0
past_none h n [] past = refl
past_none h n (e ∷ es) past =
    let first : ◌≡◌ {A = ℕ} (cond (is_made_in h n) 1 0) 0 = ap (λ (o : Option Change). cond (is_made o) 1 0) (slice_get_past h n past) in
    omega (arith, sum_by-cons (λ y. cond (is_made_in h y) 1 0) n (positions_from (suc n) es), first, past_none h (suc n) es (omega (arith, past)))

-- all changes of a history are its first ones
pub made_whole : {V : Type 0} (s : SeatView V) (at : ℕ) → length s.seen ≤ at → rows_made_in s at ≡ rows_made s
made_whole s at past = ap (λ (h : List Change). count_by (is_made_in h) s.mine) (take_all at s.seen past)

pub no_row_more : {V : Type 0} (s t : SeatView V) → IsPrefix s.seen t.seen → AddsNoRow s t → rows_made t ≡ rows_made s
no_row_more s t first adds =
    sym (made_whole t (length t.seen) (omega arith)) ∙ (adds.rows (length t.seen) ∙ made_whole s (length t.seen) (prefix_length s.seen t.seen first))

-- one after the other
pub no_row_self : {V : Type 0} (s : SeatView V) → AddsNoRow s s
no_row_self s = record { more = []; mine = sym (append-nil s.mine); later = tt; rows = λ at. refl }

pub no_row_on : {V : Type 0} (s t u : SeatView V) → IsPrefix s.seen t.seen → AddsNoRow s t → AddsNoRow t u → AddsNoRow s u
no_row_on s t u first one two = record {
  more = one.more ++ two.more;
  mine = two.mine ∙ (ap (λ (qs : List ℕ). qs ++ two.more) one.mine ∙ append_assoc s.mine one.more two.more);
  later = all_append (λ q. length s.seen ≤ q) one.more two.more one.later
      (all_map (λ q. length t.seen ≤ q) (λ q. length s.seen ≤ q) (λ q past. omega (arith, past, prefix_length s.seen t.seen first)) two.more two.later);
  rows = λ at. two.rows at ∙ one.rows at;
}

-- positions from a bound on
pub from_past : (m n : ℕ) (es : List Change) → m ≤ n → AllByRecursion (λ q. m ≤ q) (positions_from n es)
from_past m n [] le = tt
from_past m n (e ∷ es) le = (le, from_past m (suc n) es (omega (arith, le)))

pub get_end : (h : List Change) (e : Change) → slice_get (h ++ e ∷ []) (length h) ≡ Some e
get_end [] e = refl
get_end (x ∷ h) e = get_end h e

-- a call that waited added nothing
pub waits_none : {V : Type 0} (accepts : V → Accepts) (p : SharedNode V) (s t : SeatView V) → SeatWaits accepts p s t → AddsNone s t
waits_none {V} accepts p s t waits = record {
  begins = (waits.others, ap (λ (x : Seen V). x.node.history) waits.later);
  mine = ap (λ (x : Seen V). x.positions) waits.later;
}

module _ {V : Type 0} (s t : SeatView V) (below : AreBelow (length s.seen) s.mine) where
  pub none_made : AddsNone s t → AddsNoRow s t
  none_made adds = record {
    more = [];
    mine = adds.mine ∙ sym (append-nil s.mine);
    later = tt;
    rows = λ at. ap (count_by (is_made_in (take at t.seen))) adds.mine ∙ made_first at s.seen t.seen s.mine adds.begins below;
  }

  pub made_none : AddsNone s t → rows_made t ≡ rows_made s
  made_none adds = no_row_more s t adds.begins (none_made adds)

  pub made_one : (h : List Change) (e : Change) → AddsOne s t h e → rows_made t ≡ rows_made s + cond (is_made (Some e)) 1 0
  made_one h e adds =
      let F : ℕ → Bool = is_made_in t.seen in
      let first : IsPrefix s.seen t.seen = prefix_more s.seen h t.seen adds.begins (e ∷ [], adds.grown) in
      let old : count_by F s.mine ≡ rows_made s = made_front s.seen t.seen s.mine first below in
      let last : F (length h) ≡ is_made (Some e) = ap is_made (ap (λ (l : List Change). slice_get l (length h)) adds.grown ∙ get_end h e) in
      let one : count_by F (length h ∷ []) ≡ cond (F (length h)) 1 0 + 0 = sum_by-cons (λ q. cond (F q) 1 0) (length h) [] in
      let all : count_by F (s.mine ++ length h ∷ []) ≡ count_by F s.mine + count_by F (length h ∷ []) = sum_by-append (λ q. cond (F q) 1 0) s.mine (length h ∷ []) in
      let last_one : ◌≡◌ {A = ℕ} (cond (F (length h)) 1 0) (cond (is_made (Some e)) 1 0) = ap (λ (b : Bool). cond b 1 0) last in
      ap (count_by F) adds.mine ∙ omega (arith, all, old, one, last_one)

  -- a put makes no row
  took_rows : (h : List Change) (row : Row) → AddsOne s t h (Took row) → (at : ℕ) → rows_made_in t at ≡ rows_made_in s at
  took_rows h row adds at =
      let F : ℕ → Bool = is_made_in (take at t.seen) in
      let first : IsPrefix s.seen t.seen = prefix_more s.seen h t.seen adds.begins (Took row ∷ [], adds.grown) in
      let old : count_by F s.mine ≡ rows_made_in s at = made_first at s.seen t.seen s.mine first below in
      let last : F (length h) ≡ false = ap (λ (l : List Change). is_made_in (take at l) (length h)) adds.grown ∙ took_end at h row in
      let none : ◌≡◌ {A = ℕ} (cond (F (length h)) 1 0) 0 = ap (λ (b : Bool). cond b 1 0) last in
      let one : count_by F (length h ∷ []) ≡ cond (F (length h)) 1 0 + 0 = sum_by-cons (λ q. cond (F q) 1 0) (length h) [] in
      let all : count_by F (s.mine ++ length h ∷ []) ≡ count_by F s.mine + count_by F (length h ∷ []) = sum_by-append (λ q. cond (F q) 1 0) s.mine (length h ∷ []) in
      ap (count_by F) adds.mine ∙ omega (arith, all, old, one, none)

  took_none : (h : List Change) (row : Row) → AddsOne s t h (Took row) → AddsNoRow s t
  took_none h row adds = record { more = length h ∷ []; mine = adds.mine; later = (prefix_length s.seen h adds.begins, tt); rows = took_rows h row adds }

  pub put_makes_none : (accepts : V → Accepts) (p : SharedNode V) (bytes : List ℕ) (a : PutAnswer) → SeatPuts accepts p s bytes t a → AddsNoRow s t
  put_makes_none accepts p bytes (Accepted place) puts = let one = puts_add_one V accepts p s t bytes place puts in took_none one.0 one.1 one.2
  put_makes_none accepts p bytes (Known place) puts = none_made (other_puts_add_none V accepts p s t bytes (Known place) puts (λ q e. cc)).0
  put_makes_none accepts p bytes (Refused why) puts = none_made (other_puts_add_none V accepts p s t bytes (Refused why) puts (λ q e. cc)).0

-- what a call that makes the next row adds

abbrev pub AddsFor : ℕ → Option MakeAnswer → List Change → Type 0
AddsFor time None more = more ≡ []
AddsFor time (Some (answer.Made place)) more = (row : Row) × (more ≡ Made row ∷ []) × (row.time ≡ time)
AddsFor time (Some (answer.Refused fault)) more = more ≡ []

pub cancelled : (h xs ys : List Change) → h ++ xs ≡ h ++ ys → xs ≡ ys
cancelled [] xs ys e = e
cancelled (x ∷ h) xs ys e = cancelled h xs ys (tails e)
  where
    tails : (x ∷ (h ++ xs)) ≡ (x ∷ (h ++ ys)) → h ++ xs ≡ h ++ ys
    tails f = cc f

adds_by : (a : MakeAnswer) (row : Row) (more : List Change) → more ≡ made_by a row → AddsFor row.time (Some a) more
adds_by (answer.Made place) row more is = (row, is, refl)
adds_by (answer.Refused fault) row more is = is

pub adds_for : {V : Type 0} (accepts : V → Accepts) (v w : NodeView V) (time : ℕ) (made : Option MakeAnswer) (more : List Change) → w.history ≡ v.history ++ more → MakesNext accepts v time made w → AddsFor time made more
unfolding make_changes
adds_for accepts v w time None more grown next =
    cancelled v.history more [] (sym grown ∙ (ap (λ (x : NodeView _). x.history) next.0 ∙ sym (append-nil v.history)))
adds_for accepts v w time (Some a) more grown next =
    let m = next.2.making in
    let row : Row = made_row v.start.own (node_rows v) next.0 time [] m.sig in
    let same : more ≡ make_changes v next.0 time [] m.sig = cancelled v.history more (make_changes v next.0 time [] m.sig) (sym grown ∙ ap (λ (x : NodeView _). x.history) m.grown) in
    adds_by a row more (same ∙ ap (λ (b : MakeAnswer). made_by b row) (sym m.answers))

-- what it leaves of the seat
module _ {V : Type 0} (accepts : V → Accepts) (p : SharedNode V) (s t : SeatView V) (time : ℕ) (made : Option MakeAnswer) (next : SeatMakesNext accepts p s time t made) where
  abbrev pub reached_by : List Change
  reached_by = next.reached.node.history

  pub next_begins : IsPrefix s.seen reached_by
  next_begins = (next.waits.others, ap (λ (x : Seen V). x.node.history) next.waits.later)

  pub next_seen : t.seen ≡ reached_by ++ next.more
  next_seen = ap (λ (x : Seen V). x.node.history) next.grown

  pub next_mine : t.mine ≡ s.mine ++ positions_from (length reached_by) next.more
  next_mine =
      ap (λ (x : Seen V). x.positions) next.grown ∙ ap (λ (l : List ℕ). l ++ positions_from (length reached_by) next.more) (ap (λ (x : Seen V). x.positions) next.waits.later)

  pub next_adds : AddsFor time made next.more
  next_adds = adds_for accepts next.reached.node (seen_by p t).node time made next.more next_seen next.makes

  next_first : IsPrefix s.seen t.seen
  next_first = prefix_more s.seen reached_by t.seen next_begins (next.more, next_seen)

  -- among the first changes that the seat had seen before
  pub next_early : AreBelow (length s.seen) s.mine → (at : ℕ) → at ≤ length s.seen → rows_made_in t at ≡ rows_made_in s at
  next_early below at inside =
      let F : ℕ → Bool = is_made_in (take at t.seen) in
      let long : length (take at t.seen) ≡ at = length-take-le at t.seen (omega (arith, inside, prefix_length s.seen t.seen next_first)) in
      let none : count_by F (positions_from (length reached_by) next.more) ≡ 0 =
      past_none (take at t.seen) (length reached_by) next.more (omega (arith, long, inside, prefix_length s.seen reached_by next_begins)) in
      let all : count_by F (s.mine ++ positions_from (length reached_by) next.more) ≡ count_by F s.mine + count_by F (positions_from (length reached_by) next.more) =
      sum_by-append (λ q. cond (F q) 1 0) s.mine (positions_from (length reached_by) next.more) in
      let old : count_by F s.mine ≡ rows_made_in s at = made_first at s.seen t.seen s.mine next_first below in
      ap (count_by F) next_mine ∙ omega (arith, all, none, old)

  pub next_none : next.more ≡ [] → AddsNone s t
  next_none none = record {
    begins = next_first;
    mine = next_mine ∙ (ap (λ (es : List Change). s.mine ++ positions_from (length reached_by) es) none ∙ append-nil s.mine);
  }

  pub next_one : (row : Row) → next.more ≡ Made row ∷ [] → AddsOne s t reached_by (Made row)
  next_one row is = record {
    begins = next_begins;
    grown = next_seen ∙ ap (λ (es : List Change). reached_by ++ es) is;
    mine = next_mine ∙ ap (λ (es : List Change). s.mine ++ positions_from (length reached_by) es) is;
  }
