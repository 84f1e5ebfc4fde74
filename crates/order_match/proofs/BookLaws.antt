-- Quantities through a book, and orders in their places
use Rattle.std.proofs.Common.{◌≡◌, ℕ, suc, ◌+◌, ◌-◌, ◌<◌, ◌≤◌, Bool, true, false, cond, not, List, [], ◌∷◌, ◌++◌, length, get_or, take, drop, refl, sym, ap, ◌∙◌, arith, append_assoc, add-one}
use Rattle.std.specs.Prelude.{◌==◌, min, fold, Result, Ok, Err}
use Rattle.std.specs.List.{filter, sum_by}
use Rattle.std.proofs.lemmas.Bool.{eqb-true}
use Rattle.std.proofs.lemmas.List.{drop_all, take_more}
use Rattle.std.proofs.lemmas.List.Sums.{sum_by-append, sum_by-cons, fold-append}
use Rattle.std.proofs.lemmas.List.Filters.{sum_by-filter_both}
use Rattle.std.proofs.Math.Seq.{drop-cons}
use Rattle.order_match.specs.declared.request.Side.{Side}
use Rattle.order_match.specs.declared.request.Side.TheVariants.{Buy, Sell}
use Rattle.order_match.specs.declared.request.Request.{Request}
use Rattle.order_match.specs.declared.request.Request.TheVariants.{Nothing, Place, Cancel}
use Rattle.order_match.specs.declared.request.RequestFault.{RequestFault}
use Rattle.order_match.specs.declared.orders.Order.{Order}
use Rattle.order_match.specs.declared.orders.Trade.{Trade}
use Rattle.order_match.specs.Requests.{read_request}
use Rattle.order_match.specs.Matching.{Meeting, insert_order, is_better, is_good_enough, meet, met, quantity_met, trade_of, unless_zero, with_quantity}
use Rattle.order_match.specs.Books.{BookView, Event, SideView, book_of, is_own, no_book, order_of, with_event, with_events, with_left, with_read, without}
use Rattle.order_match.specs.Laws.{IsWhole, placed, placed_by, side_of, total, traded}

-- ---- an order in its place

drop_next : (xs : List Order) (i : ℕ) (d : Order) → i < length xs → drop i xs ≡ get_or xs i d ∷ drop (i + 1) xs
drop_next xs i d low = drop-cons xs i d low ∙ ap (λ (n : ℕ). get_or xs i d ∷ drop n xs) (sym (add-one i))

-- past one that it does not come before
pub insert_past : (side : Side) (o : Order) (xs : List Order) (i : ℕ) (d : Order) → i < length xs → is_better side o.price (get_or xs i d).price ≡ false →
    take i xs ++ insert_order side o (drop i xs) ≡ take (i + 1) xs ++ insert_order side o (drop (i + 1) xs)
insert_past side o xs i d low stands =
    let p = get_or xs i d in
    let next : drop i xs ≡ p ∷ drop (i + 1) xs = drop_next xs i d low in
    let stays : insert_order side o (p ∷ drop (i + 1) xs) ≡ p ∷ insert_order side o (drop (i + 1) xs) =
    ap (λ (b : Bool). cond b (o ∷ p ∷ drop (i + 1) xs) (p ∷ insert_order side o (drop (i + 1) xs))) stands in
    ap (λ (rest : List Order). take i xs ++ insert_order side o rest) next
    ∙ (ap (λ (rest : List Order). take i xs ++ rest) stays
    ∙ (sym (append_assoc (take i xs) (p ∷ []) (insert_order side o (drop (i + 1) xs)))
    ∙ ap (λ (front : List Order). front ++ insert_order side o (drop (i + 1) xs)) (sym (take_more xs i d low))))

-- before one that it comes before
pub insert_here : (side : Side) (o : Order) (xs : List Order) (i : ℕ) (d : Order) → i < length xs → is_better side o.price (get_or xs i d).price ≡ true →
    insert_order side o (drop i xs) ≡ o ∷ drop i xs
insert_here side o xs i d low comes =
    let p = get_or xs i d in
    let next : drop i xs ≡ p ∷ drop (i + 1) xs = drop_next xs i d low in
    let goes : insert_order side o (p ∷ drop (i + 1) xs) ≡ o ∷ p ∷ drop (i + 1) xs =
    ap (λ (b : Bool). cond b (o ∷ p ∷ drop (i + 1) xs) (p ∷ insert_order side o (drop (i + 1) xs))) comes in
    ap (insert_order side o) next ∙ (goes ∙ ap (λ (rest : List Order). o ∷ rest) (sym next))

-- behind all
pub insert_last : (side : Side) (o : Order) (xs : List Order) (i : ℕ) → length xs ≤ i → insert_order side o (drop i xs) ≡ o ∷ drop i xs
insert_last side o xs i past =
    let none : drop i xs ≡ [] = drop_all i xs past in
    ap (insert_order side o) none ∙ ap (λ (rest : List Order). o ∷ rest) (sym none)

-- ---- a meeting

unless_by : {A : Type 0} (f : A → ℕ) (q : ℕ) (x : A) (b : Bool) → (q == 0) ≡ b → f x ≡ q → sum_by f (cond b [] (x ∷ [])) ≡ q
unless_by f q x true none is = sym (eqb-true q 0 none)
unless_by f q x false some is = omega (arith, is)

unless_sum : {A : Type 0} (f : A → ℕ) (q : ℕ) (x : A) → f x ≡ q → sum_by f (unless_zero q x) ≡ q
unless_sum f q x is = unless_by f q x (q == 0) refl is

quantity_fits : (left quantity : ℕ) (b : Bool) → (cond b (min left quantity) 0 ≤ left) × (cond b (min left quantity) 0 ≤ quantity)
quantity_fits left quantity true = (omega arith, omega arith)
quantity_fits left quantity false = (omega arith, omega arith)

trade_quantity : (side : Side) (taker resting : Order) (q : ℕ) → (trade_of side taker resting q).quantity ≡ q
trade_quantity Buy taker resting q = refl
trade_quantity Sell taker resting q = refl

one_met : (side : Side) (taker : Order) (m : Meeting) (o : Order) →
    (traded (meet side taker m o).trades + total (meet side taker m o).kept ≡ traded m.trades + total m.kept + o.quantity)
    × ((meet side taker m o).left + traded (meet side taker m o).trades ≡ m.left + traded m.trades)
one_met side taker m o =
    let q = quantity_met side taker.price m.left o in
    let fits = quantity_fits m.left o.quantity (is_good_enough side taker.price o.price) in
    let trades : traded (meet side taker m o).trades ≡ traded m.trades + q =
    sum_by-append (λ (t : Trade). t.quantity) m.trades (unless_zero q (trade_of side taker o q))
    ∙ ap (λ (k : ℕ). traded m.trades + k) (unless_sum (λ (t : Trade). t.quantity) q (trade_of side taker o q) (trade_quantity side taker o q)) in
    let kept : total (meet side taker m o).kept ≡ total m.kept + (o.quantity - q) =
    sum_by-append (λ (x : Order). x.quantity) m.kept (unless_zero (o.quantity - q) (with_quantity o (o.quantity - q)))
    ∙ ap (λ (k : ℕ). total m.kept + k) (unless_sum (λ (x : Order). x.quantity) (o.quantity - q) (with_quantity o (o.quantity - q)) refl) in
    sums q m.left o.quantity (traded m.trades) (total m.kept) _ _ trades kept fits.0 fits.1
  where
    sums : (q left quantity t k t' k' : ℕ) → t' ≡ t + q → k' ≡ k + (quantity - q) → q ≤ left → q ≤ quantity → (t' + k' ≡ t + k + quantity) × ((left - q) + t' ≡ left + t)
    sums q left quantity t k t' k' et ek low few = (omega arith, omega arith)

met_from : (side : Side) (taker : Order) (m : Meeting) (xs : List Order) →
    (traded (fold (meet side taker) m xs).trades + total (fold (meet side taker) m xs).kept ≡ traded m.trades + total m.kept + total xs)
    × ((fold (meet side taker) m xs).left + traded (fold (meet side taker) m xs).trades ≡ m.left + traded m.trades)
met_from side taker m [] = (omega arith, refl)
met_from side taker m (o ∷ xs) =
    let one = one_met side taker m o in
    let rest = met_from side taker (meet side taker m o) xs in
    let all : total (o ∷ xs) ≡ o.quantity + total xs = sum_by-cons (λ (x : Order). x.quantity) o xs in
    (rest.0 ∙ added _ _ _ _ _ one.0 all, rest.1 ∙ one.1)
  where
    added : (a b quantity more whole : ℕ) → a ≡ b + quantity → whole ≡ quantity + more → a + more ≡ b + whole
    added a b quantity more whole ea ew = omega arith

met_even : (side : Side) (taker : Order) (xs : List Order) →
    (traded (met side taker xs).trades + total (met side taker xs).kept ≡ total xs) × ((met side taker xs).left + traded (met side taker xs).trades ≡ taker.quantity)
met_even side taker xs =
    let all = met_from side taker (record { left = taker.quantity; trades = []; kept = [] }) xs in
    (omega (arith, all.0), omega (arith, all.1))

-- ---- a side

insert_by : (o p : Order) (rest more : List Order) (b : Bool) → total more ≡ o.quantity + total rest → total (cond b (o ∷ p ∷ rest) (p ∷ more)) ≡ o.quantity + total (p ∷ rest)
insert_by o p rest more true is = sum_by-cons (λ (x : Order). x.quantity) o (p ∷ rest)
insert_by o p rest more false is =
    let a = sum_by-cons (λ (x : Order). x.quantity) p more in
    let b = sum_by-cons (λ (x : Order). x.quantity) p rest in
    moved _ _ _ _ _ _ a b is
  where
    moved : (pm pr p m o r : ℕ) → pm ≡ p + m → pr ≡ p + r → m ≡ o + r → pm ≡ o + pr
    moved pm pr p m o r ea eb em = omega arith

insert_total : (side : Side) (o : Order) (xs : List Order) → total (insert_order side o xs) ≡ o.quantity + total xs
insert_total side o [] = sum_by-cons (λ (x : Order). x.quantity) o []
insert_total side o (p ∷ rest) = insert_by o p rest (insert_order side o rest) (is_better side o.price p.price) (insert_total side o rest)

left_by : (side : Side) (o : Order) (left : ℕ) (xs : List Order) (b : Bool) → (left == 0) ≡ b → total (cond b xs (insert_order side (with_quantity o left) xs)) ≡ left + total xs
left_by side o left xs true none = omega (arith, eqb-true left 0 none)
left_by side o left xs false some = insert_total side (with_quantity o left) xs

left_total : (side : Side) (o : Order) (left : ℕ) (s : SideView) → total (with_left side o left s).resting ≡ left + total s.resting
left_total side o left s = left_by side o left s.resting (left == 0) refl

without_total : (member number : ℕ) (s : SideView) → total (without member number s).resting + total (without member number s).cancelled ≡ total s.resting + total s.cancelled
without_total member number s =
    let both = sum_by-filter_both (is_own member number) (λ o. not (is_own member number o)) (λ o. refl) (λ (x : Order). x.quantity) s.resting in
    let gone = sum_by-append (λ (x : Order). x.quantity) s.cancelled (filter (is_own member number) s.resting) in
    parts _ _ _ _ _ both gone
  where
    parts : (own others all before after : ℕ) → own + others ≡ all → after ≡ before + own → others + after ≡ all + before
    parts own others all before after eb ea = omega arith

-- ---- a book

-- what was traded, and what rests of a side, or was taken back
abbrev held : Side → BookView → ℕ
held side b = traded b.trades + total (side_of side b).resting + total (side_of side b).cancelled

trades_more : (b : BookView) (trades : List Trade) → traded (b.trades ++ trades) ≡ traded b.trades + traded trades
trades_more b trades = sum_by-append (λ (t : Trade). t.quantity) b.trades trades

-- an order's own side, and the other
own_held : (t0 t r r' c left quantity t' : ℕ) → t' ≡ t0 + t → r' ≡ left + r → left + t ≡ quantity → t' + r' + c ≡ t0 + r + c + quantity
own_held t0 t r r' c left quantity t' et er eq = omega arith

other_held : (t0 t r r' c t' : ℕ) → t' ≡ t0 + t → t + r' ≡ r → t' + r' + c ≡ t0 + r + c + 0
other_held t0 t r r' c t' et er = omega arith

side_held : (t r c r' c' : ℕ) → r' + c' ≡ r + c → t + r' + c' ≡ t + r + c + 0
side_held t r c r' c' e = omega arith

read_held : (side : Side) (b : BookView) (member : ℕ) (r : Result Request RequestFault) → held side (with_read b member r) ≡ held side b + placed_by side r
read_held side b member (Ok Nothing) = omega arith
read_held Buy b member (Ok (Place Buy price quantity)) =
    let o = order_of b member price quantity in
    let m = met Buy o b.asks.resting in
    own_held _ _ _ _ _ _ _ _ (trades_more b m.trades) (left_total Buy o m.left b.bids) (met_even Buy o b.asks.resting).1
read_held Buy b member (Ok (Place Sell price quantity)) =
    let o = order_of b member price quantity in
    let m = met Sell o b.bids.resting in
    other_held _ _ _ _ _ _ (trades_more b m.trades) (met_even Sell o b.bids.resting).0
read_held Sell b member (Ok (Place Buy price quantity)) =
    let o = order_of b member price quantity in
    let m = met Buy o b.asks.resting in
    other_held _ _ _ _ _ _ (trades_more b m.trades) (met_even Buy o b.asks.resting).0
read_held Sell b member (Ok (Place Sell price quantity)) =
    let o = order_of b member price quantity in
    let m = met Sell o b.bids.resting in
    own_held _ _ _ _ _ _ _ _ (trades_more b m.trades) (left_total Sell o m.left b.asks) (met_even Sell o b.bids.resting).1
read_held Buy b member (Ok (Cancel number)) = side_held _ _ _ _ _ (without_total member number b.bids)
read_held Sell b member (Ok (Cancel number)) = side_held _ _ _ _ _ (without_total member number b.asks)
read_held Buy b member (Err fault) = omega arith
read_held Sell b member (Err fault) = omega arith

event_held : (side : Side) (b : BookView) (e : Event) → held side (with_event b e) ≡ held side b + placed_by side (read_request e.payload)
event_held Buy b e = read_held Buy b e.member (read_request e.payload)
event_held Sell b e = read_held Sell b e.member (read_request e.payload)

events_held : (side : Side) (b : BookView) (events : List Event) → held side (fold with_event b events) ≡ held side b + placed side events
events_held side b [] = omega arith
events_held side b (e ∷ events) =
    events_held side (with_event b e) events
    ∙ added _ _ _ _ _ (event_held side b e) (sum_by-cons (λ (x : Event). placed_by side (read_request x.payload)) e events)
  where
    added : (a b one more whole : ℕ) → a ≡ b + one → whole ≡ one + more → a + more ≡ b + whole
    added a b one more whole ea ew = omega arith

none_held : (side : Side) → held side no_book ≡ 0
none_held Buy = refl
none_held Sell = refl

pub book_whole : (events : List Event) → IsWhole events (book_of events)
unfolding with_events
book_whole events side = sym (events_held side no_book events ∙ omega (arith, none_held side))

pub book_more : (events more : List Event) → book_of (events ++ more) ≡ with_events (book_of events) more
unfolding with_events
book_more events more = fold-append with_event no_book events more

-- ---- how many events a book has

read_count : (b : BookView) (member : ℕ) (r : Result Request RequestFault) → (with_read b member r).events ≡ b.events
read_count b member (Ok Nothing) = refl
read_count b member (Ok (Place Buy price quantity)) = refl
read_count b member (Ok (Place Sell price quantity)) = refl
read_count b member (Ok (Cancel number)) = refl
read_count b member (Err fault) = refl

count_from : (b : BookView) (events : List Event) → (fold with_event b events).events ≡ b.events + length events
count_from b [] = omega arith
count_from b (e ∷ events) = counts _ _ _ _ (count_from (with_event b e) events) (read_count b e.member (read_request e.payload))
  where
    counts : (all before now more : ℕ) → all ≡ (now + 1) + more → now ≡ before → all ≡ before + suc more
    counts all before now more ea en = omega arith

pub more_count : (b : BookView) (events : List Event) → (with_events b events).events ≡ b.events + length events
unfolding with_events
more_count b events = count_from b events
