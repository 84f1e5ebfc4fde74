-- Of the books of two nodes one is an earlier state of the other
use Rattle.std.proofs.Common.{◌≡◌, inl, inr, ◌⊎◌, ℕ, ◌<◌, List, [], ◌∷◌, ◌++◌, length, map, get_or, slice_get, sym, refl, ap, ap₂, ◌∙◌, arith}
use Rattle.std.specs.Prelude.{All}
use Rattle.std.proofs.lemmas.List.{append-nil}
use Rattle.std.proofs.lemmas.List.Elements.{All-head, All-tail}
use Rattle.std.proofs.lemmas.Option.{slice_get-get_or}
use Rattle.hg_model.specs.declared.row.Row.{Row}
use Rattle.hg_model.specs.declared.row.Placed.{Placed}
use Rattle.hg_model.specs.Graph.{name_at}
use Rattle.hg_model.specs.Links.{no_row}
use Rattle.hg_model.specs.Order.{Ordered, named_in}
use Rattle.hg_life.specs.Kept.{kept}
use Rattle.hg_model.specs.Orders.{IsPrefix}
use Rattle.hg_life.specs.History.{replay}
use Rattle.hg_prefix.specs.Chains.{HaveEqualRows}
use Rattle.hg_runs.specs.Safety.{IsSafe, order_after}
use Rattle.hg_world.specs.World.{WorldView, run_of}
use Rattle.hg_world.specs.Parts.{IsWorld}
use Rattle.order_match.specs.Books.{Event, book_of}
use Rattle.order_match.specs.Laws.{IsEarlier}
use Rattle.order_match.proofs.BookLaws.{book_more}
use Rattle.order_market.specs.Market.{AreOneBook, IsBookBefore, event_in, events_at}
use Rattle.order_market.proofs.GrowthLaws.{kept_places}

-- rows of one name are one event
same_event : (G H : List Row) (x y : Placed) → HaveEqualRows G H → x.place < length G → y.place < length H → name_at G x.place ≡ name_at H y.place → event_in G x ≡ event_in H y
same_event G H x y equal low high names =
    let one = slice_get-get_or G x.place no_row low in
    let other = slice_get-get_or H y.place no_row high in
    let rows : slice_get G x.place ≡ slice_get H y.place = equal.equal x.place y.place low high names in
    let same : get_or G x.place no_row ≡ get_or H y.place no_row = cc in
    ap (λ (row : Row). let e : Event = record { member = row.creator; payload = row.payload } in e) same

-- what begins with the same names begins with the same events
events_prefix : (G H : List Row) (xs ys : List Placed) → HaveEqualRows G H → All (λ (p : Placed). p.place < length G) xs → All (λ (p : Placed). p.place < length H) ys →
    (rest : List Ordered) → map (named_in H) ys ≡ map (named_in G) xs ++ rest → IsPrefix (map (event_in G) xs) (map (event_in H) ys)
events_prefix G H [] ys equal low high rest is = (map (event_in H) ys, refl)
events_prefix G H (x ∷ xs) [] equal low high rest is = absurd cc
events_prefix G H (x ∷ xs) (y ∷ ys) equal low high rest is =
    let first : named_in H y ≡ named_in G x = cc in
    let others : map (named_in H) ys ≡ map (named_in G) xs ++ rest = cc in
    let more = events_prefix G H xs ys equal (All-tail (λ (p : Placed). p.place < length G) x xs low) (All-tail (λ (p : Placed). p.place < length H) y ys high) rest others in
    let event = same_event G H x y equal (All-head (λ (p : Placed). p.place < length G) x xs low) (All-head (λ (p : Placed). p.place < length H) y ys high) (sym (ap (λ (o : Ordered). o.name) first)) in
    (more.0, ap₂ (λ (e : Event) (events : List Event). e ∷ events) (sym event) more.1)

-- what begins with the same events leaves a book that goes on
earlier : (a b : List Event) → IsPrefix a b → IsEarlier (book_of a) (book_of b)
earlier a b prefix = (prefix.0, ap book_of prefix.1 ∙ book_more a prefix.0)

pub one_book : (w : WorldView) → IsWorld w → IsSafe w.members w.coin (run_of w) → AreOneBook w
one_book w is safe few apart j k low high =
    by (safe few apart j k (run_of w j) (run_of w k)
    (record { member = omega (arith, low, is.count); later = []; whole = sym (append-nil (run_of w j)) })
    (record { member = omega (arith, high, is.count); later = []; whole = sym (append-nil (run_of w k)) }))
  where
    prefix : (i m : ℕ) → i < length w.sites → m < length w.sites → IsPrefix (order_after w.members w.coin (run_of w i)) (order_after w.members w.coin (run_of w m)) → IsBookBefore w i m
    prefix i m inside within begins =
        let s = replay w.members w.coin (run_of w i) in
        let t = replay w.members w.coin (run_of w m) in
        let front : IsPrefix (events_at w i) (events_at w m) =
        events_prefix s.rows t.rows (kept w.members s) (kept w.members t) (apart.equal i m (omega (arith, inside, is.count)) (omega (arith, within, is.count)))
        (kept_places w.members w.coin (run_of w i)) (kept_places w.members w.coin (run_of w m)) begins.0 begins.1 in
        (front, earlier (events_at w i) (events_at w m) front)

    by : IsPrefix (order_after w.members w.coin (run_of w j)) (order_after w.members w.coin (run_of w k)) ⊎ IsPrefix (order_after w.members w.coin (run_of w k)) (order_after w.members w.coin (run_of w j)) →
        IsBookBefore w j k ⊎ IsBookBefore w k j
    by (inl first) = inl (prefix j k low high first)
    by (inr second) = inr (prefix k j high low second)
