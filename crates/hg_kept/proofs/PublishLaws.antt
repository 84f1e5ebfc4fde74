-- More marks leave what is ordered, and rounds that they close are ordered after it
use Rattle.std.proofs.Common.{◌≡◌, inl, inr, ℕ, zero, suc, ◌+◌, ◌<◌, ◌≤◌, Bool, true, false, not, [], length, Some, sym, refl, ap, ◌∙◌, subst, arith}
use Rattle.std.proofs.lemmas.Bool.{cases_eq}
use Rattle.std.specs.Prelude.{All}
use Rattle.std.proofs.lemmas.List.FromFn.{length-map-range_with_len}
use Rattle.hg_model.specs.Stakes.{Stakes}
use Rattle.hg_model.specs.Links.{links}
use Rattle.hg_model.specs.Fame.{Marks, mark_at, is_closed}
use Rattle.hg_model.specs.Prefix.{Graph, links_of}
use Rattle.hg_model.specs.declared.share.Found.{Found}
use Rattle.hg_model.specs.Shares.{Share}
use Rattle.hg_life.specs.History.{State, with_marks, new_mark}
use Rattle.hg_life.specs.History.Change.{Marked}
use Rattle.hg_life.specs.Kept.{kept_up_to, kept_in}
use Rattle.hg_model.specs.Orders.{IsPrefix, AreFame}
use Rattle.hg_life.specs.StateWords.{state_by, news_by, marks_by}
use Rattle.hg_model.proofs.LinkLaws.{length-links}
use Rattle.hg_prefix.specs.Standing.{IsMarkedPart}
use Rattle.hg_prefix.proofs.GrowthLaws.{stands_in_itself}
use Rattle.hg_history.specs.Adding.{Adding, add_marks}
use Rattle.hg_history.proofs.AddLaws.{found_inside, adds_marks}
use Rattle.hg_history.proofs.MarkLaws.{fame_with_marks, closed_with_marks}
use Rattle.hg_history.proofs.RoundLaws.{order_by_rounds}
use Rattle.hg_history.proofs.StateLaws.{IsEven, marks_step, prefix_same}
use Rattle.hg_kept.specs.Published.{Published, IsReached, KeepsUpTo, Keeps, FindsNewsOf, is_pending}
use Rattle.hg_kept.proofs.LaterLaws.{order_stays, received_stays}
use Rattle.hg_kept.proofs.WaitLaws.{waiting_same}
use Rattle.hg_kept.proofs.NextLaws.{last_here, last_reached, closed_to_reached}

module _ (g : Graph) (three : 2 < g.coin) (v : Published) (keeps : Keeps g v) (h : Marks) (even : length h ≡ length g.rows) (fame : AreFame g.members g.coin g.rows h)
    (stay : (x : ℕ) (b : Bool) → mark_at v.marks x ≡ Some b → mark_at h x ≡ Some b) where
  reached : IsReached g v.marks v.closed
  reached = subst (IsReached g v.marks) (sym keeps.closed) (last_reached g v.marks keeps.graph.shaped.earlier)

  closed_before : (r : ℕ) → 0 < r → r ≤ v.closed → is_closed g.members (links g.rows) v.marks r ≡ true
  closed_before = closed_to_reached g v.marks keeps.graph.shaped.earlier v.closed reached

  closed_after : (r : ℕ) → 0 < r → r ≤ v.closed → is_closed g.members (links g.rows) h r ≡ true
  closed_after r pos le = closed_with_marks g.members (links g.rows) v.marks h stay r (closed_before r pos le)

  part : (marks : Marks) → AreFame g.members g.coin g.rows marks → IsMarkedPart g.members g.coin g.rows g.rows marks
  part marks are = record { graph = keeps.graph; stands = stands_in_itself g.rows; fame = are }

  first : IsPrefix g.rows g.rows
  first = prefix_same g.rows g.rows refl

  waits_on : (x : ℕ) → x < length g.rows → is_pending g h v.closed x ≡ is_pending g v.marks v.closed x
  waits_on x inside =
      ap not (received_stays g.members g.coin g.rows keeps.graph three g.rows v.marks h (part v.marks keeps.fame) (part h fame) first v.closed closed_before closed_after
      x (rw (length-links g.rows) inside))

  pub keeps_more : KeepsUpTo g (record v { marks = h })
  keeps_more = record {
    graph = keeps.graph;
    even = even;
    fame = fame;
    reached = elim reached [ inl none ↦ inl none | inr closed ↦ inr (closed_with_marks g.members (links g.rows) v.marks h stay v.closed closed) ];
    order =
        keeps.order
        ∙ (order_by_rounds g.members (state_by g v.marks) keeps.graph.shaped.earlier
        ∙ (ap (kept_up_to g.members (state_by g v.marks)) (sym keeps.closed)
        ∙ sym (order_stays g.members g.coin g.rows keeps.graph three g.rows v.marks h (part v.marks keeps.fame) (part h fame) first v.closed closed_before closed_after
        v.closed (omega arith))));
    pending = waiting_same (links_of g) v.waiting (is_pending g v.marks v.closed) (is_pending g h v.closed) (λ x inside. sym (waits_on x (rw (← length-links g.rows) inside))) keeps.pending;
  }

-- so do the marks of a share
module _ (g : Graph) (three : 2 < g.coin) (v : Published) (keeps : Keeps g v) (len : ℕ) (share : Share) (le : len ≤ length g.rows) where
  abbrev s : State
  s = state_by g v.marks

  pub keeps_share : KeepsUpTo g (record v { marks = (with_marks g.members g.coin s len share).marks })
  keeps_share =
      let even : IsEven s = record { links = length-links g.rows; marks = keeps.even } in
      keeps_more g three v keeps (with_marks g.members g.coin s len share).marks
      (length-map-range_with_len (new_mark g.members g.coin s len share) 0 (length g.rows))
      (fame_with_marks g.members g.coin s keeps.graph refl len share le keeps.fame)
      (marks_step g.members g.coin s (Marked len share) even)

-- where the next round is not closed, all closed rounds are ordered
pub keeps_all : (g : Graph) (v : Published) → KeepsUpTo g v → is_closed g.members (links_of g) v.marks (v.closed + 1) ≡ false → Keeps g v
keeps_all g v keeps fails =
    let e = keeps.graph.shaped.earlier in
    let last = last_here g v.marks e v.closed keeps.reached fails in
    record {
      graph = keeps.graph;
      even = keeps.even;
      fame = keeps.fame;
      closed = last;
      order = keeps.order ∙ (ap (kept_up_to g.members (state_by g v.marks)) last ∙ sym (order_by_rounds g.members (state_by g v.marks) e));
      pending = keeps.pending;
    }

-- what more rounds receive comes after what fewer do
pub order_grows : (n : Stakes) (s : State) (m k : ℕ) → m ≤ k → IsPrefix (kept_up_to n s m) (kept_up_to n s k)
unfolding kept_up_to
order_grows n s zero zero le = ([], refl)
order_grows n s (suc m) zero le = absurd (omega arith)
order_grows n s m (suc k) le = elim (cases_eq m (suc k)) [
  | inl same ↦ prefix_same (kept_up_to n s m) (kept_up_to n s (suc k)) (ap (kept_up_to n s) same)
  | inr other ↦ (
      let before = order_grows n s m k (omega arith) in
      Rattle.hg_history.proofs.StateLaws.prefix_more (kept_up_to n s m) (kept_up_to n s k) (kept_up_to n s (suc k)) before (kept_in n s (suc k), refl))
]

-- what a share has found becomes marks
module _ (g : Graph) (three : 2 < g.coin) (v : Published) (keeps : Keeps g v) (found : Found) (finds : FindsNewsOf g v.marks found) where
  even_state : IsEven (state_by g v.marks)
  even_state = record { links = length-links g.rows; marks = keeps.even }

  pub inside : All (λ (f : ℕ × Bool). f.0 < length v.marks) found.marks
  inside = found_inside g.members g.coin (state_by g v.marks) even_state found.len found.share found.marks finds

  module _ (marks : Marks) (count : ℕ) (added : record { marks = marks; count = count } ≡ add_marks v.marks found.marks) where
    adds : ((add_marks v.marks found.marks).marks ≡ marks_by g v.marks found.len found.share) × ((add_marks v.marks found.marks).count ≡ news_by g v.marks found.len found.share)
    adds = adds_marks g.members g.coin (state_by g v.marks) even_state found.len found.share found.marks finds

    pub marks_published : marks ≡ marks_by g v.marks found.len found.share
    marks_published = ap (λ (a : Adding). a.marks) added ∙ adds.0

    pub count_published : count ≡ news_by g v.marks found.len found.share
    count_published = ap (λ (a : Adding). a.count) added ∙ adds.1

    pub keeps_published : KeepsUpTo g (record v { marks = marks })
    keeps_published =
        subst (λ (h : Marks). KeepsUpTo g (record v { marks = h })) (sym marks_published) (keeps_share g three v keeps found.len found.share finds.within)
