-- Events that a book reads
use Rattle.std.proofs.Common.{◌≡◌, ℕ, zero, suc, ◌+◌, ◌^◌, ◌<◌, ◌≤◌, List, [], ◌∷◌, ◌++◌, length, map, take, drop, get_or, replicate, sym, refl, ap, ap₂, ◌∙◌, zero-add, arith}
use Rattle.std.specs.Prelude.{fold}
use Rattle.std.proofs.Math.Seq.{drop-append_seam}
use Rattle.std.proofs.lemmas.List.{length-append, length-map, length-replicate, length-take-le, map-append, take_more, drop-map}
use Rattle.std.proofs.lemmas.List.Sums.{fold-append}
use Rattle.hg_model.specs.declared.row.Row.{Row}
use Rattle.hg_model.specs.declared.row.Placed.{Placed}
use Rattle.hg_model.specs.Stakes.{Stakes}
use Rattle.hg_life.specs.NodeView.{NodeView, kept_of, node_rows}
use Rattle.hg_world.specs.World.{Secrets, WorldView, IsSiteOf, node_at, site_at}
use Rattle.order_match.specs.Books.{BookView, Event, book_of, no_book, with_event, with_events}
use Rattle.order_match.proofs.BookLaws.{more_count}
use Rattle.order_match.specs.Laws.{BooksGoOn, EventsAreCounted}
use Rattle.order_market.specs.Market.{AreBehind, IsBehind, event_at, event_in, events_after, events_at, events_of}

-- no event read, and one more
pub none_read : (b : BookView) → b ≡ with_events b []
unfolding with_events
none_read b = refl

pub one_read : (before now after : BookView) (G : List Row) (order : List Placed) (i : ℕ) (d : Placed) → i < length order →
    now ≡ with_events before (map (event_in G) (take i order)) → after ≡ with_event now (event_at G (get_or order i d).place) → after ≡ with_events before (map (event_in G) (take (i + 1) order))
unfolding with_events
one_read before now after G order i d low had one =
    let more : take (i + 1) order ≡ take i order ++ get_or order i d ∷ [] = take_more order i d low in
    let e : Event = event_in G (get_or order i d) in
    one
    ∙ (ap (λ (b : BookView). with_event b e) had
    ∙ (sym (fold-append with_event before (map (event_in G) (take i order)) (e ∷ []))
    ∙ ap (fold with_event before) (sym (map-append (event_in G) (take i order) (get_or order i d ∷ [])) ∙ ap (map (event_in G)) (sym more))))

-- and there is room for one more
pub few_read : (before now : BookView) (G : List Row) (order : List Placed) (i : ℕ) → i < length order → before.events + length order < 2 ^ 64 →
    now ≡ with_events before (map (event_in G) (take i order)) → now.events + 1 < 2 ^ 64
few_read before now G order i low few had =
    let count : now.events ≡ before.events + length (map (event_in G) (take i order)) = ap (λ (b : BookView). b.events) had ∙ more_count before (map (event_in G) (take i order)) in
    let long : length (map (event_in G) (take i order)) ≡ i = length-map (take i order) (event_in G) ∙ length-take-le i order (omega arith) in
    omega (arith, low, few, count, long)

-- a book that is behind has no more events than the order
behind_long : (b : BookView) (events : List Event) → EventsAreCounted → (is : IsBehind b events) → b.events ≡ length is.first
behind_long b events counted is = ap (λ (x : BookView). x.events) is.is ∙ (counted no_book is.first ∙ zero-add (length is.first))

pub behind_few : (b : BookView) (events : List Event) → EventsAreCounted → IsBehind b events → b.events ≤ length events
behind_few b events counted is = omega (arith, behind_long b events counted is, ap (λ (xs : List Event). length xs) is.whole ∙ length-append is.first is.rest)

pub kept_few : (b : BookView) (v : NodeView Secrets) → EventsAreCounted → IsBehind b (events_of v) → b.events ≤ length (kept_of v)
kept_few b v counted is = omega (arith, behind_few b (events_of v) counted is, length-map (kept_of v) (event_in (node_rows v)))

-- the rest of the order makes it the book of the order
pub rest_read : (b after : BookView) (v : NodeView Secrets) (order : List Placed) → EventsAreCounted → BooksGoOn → IsBehind b (events_of v) →
    after ≡ with_events b (map (event_in (node_rows v)) order) → order ≡ drop b.events (kept_of v) → after ≡ book_of (events_of v)
rest_read b after v order counted on is now same =
    let read : after ≡ with_events b (map (event_in (node_rows v)) (drop b.events (kept_of v))) =
    now ∙ ap (λ (xs : List Placed). with_events b (map (event_in (node_rows v)) xs)) same in
    let rest : map (event_in (node_rows v)) (drop b.events (kept_of v)) ≡ is.rest =
    sym (drop-map (event_in (node_rows v)) b.events (kept_of v))
    ∙ (ap₂ (λ (k : ℕ) (events : List Event). drop k events) (behind_long b (events_of v) counted is) is.whole ∙ drop-append_seam is.first is.rest) in
    read ∙ (ap₂ (λ (x : BookView) (events : List Event). with_events x events) is.is rest ∙ (sym (on is.first is.rest) ∙ ap book_of (sym is.whole)))

-- the events of a member's node are those of the member
pub site_events : (w : WorldView) (m : ℕ) → IsSiteOf w m (site_at w m) → events_of (node_at w m) ≡ events_at w m
site_events w m is = ap₂ (λ (n : Stakes) (c : ℕ). events_after n c (node_at w m).history) is.members is.coin

-- books of no events are behind
none_there : (count m : ℕ) → get_or (replicate count no_book) m no_book ≡ no_book
none_there zero m = refl
none_there (suc count) zero = refl
none_there (suc count) (suc m) = none_there count m

pub none_behind : (w : WorldView) (books : List BookView) (count : ℕ) → books ≡ replicate count no_book → count ≡ length w.sites → AreBehind w books
none_behind w books count are is = record {
  count = ap (λ (xs : List BookView). length xs) are ∙ (length-replicate count no_book ∙ is);
  each = λ m low. record {
    first = [];
    rest = events_at w m;
    whole = refl;
    is = ap (λ (xs : List BookView). get_or xs m no_book) are ∙ (none_there count m ∙ none_read no_book);
  };
}
