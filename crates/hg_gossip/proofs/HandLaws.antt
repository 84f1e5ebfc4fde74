-- What a node has of another one's rows: none of them is lacking, it stays known, and what is lacking is handed over
use Rattle.std.proofs.Common.{◌≡◌, inl, inr, ℕ, zero, suc, ◌+◌, ◌<◌, Bool, true, false, not, cond, ◌||◌, List, [], ◌∷◌, ◌++◌, length, take, drop, get_or, slice_get, Some, option_map, sym, refl, ap, ap₂, ◌∙◌, subst, add-one, append_assoc, arith}
use Rattle.std.specs.Prelude.{reverse}
use Rattle.std.specs.List.{list_any}
use Rattle.std.specs.Str.{bytes_eq}
use Rattle.std.specs.declared.sync.Arc.{Arc}
use Rattle.std.proofs.lemmas.Bool.{cases_Bool, true≢false}
use Rattle.std.proofs.lemmas.Grind.{reverse_onto}
use Rattle.std.proofs.lemmas.List.{length-append, map-append, reverse-append, take-append-drop, take-append-le, take_all}
use Rattle.std.proofs.lemmas.List.Elements.{filter-append}
use Rattle.std.proofs.lemmas.List.Folds.{list_any-append}
use Rattle.std.proofs.lemmas.Option.{slice_get_within, slice_get-get_or, get_or_from_slice_get}
use Rattle.std.proofs.Math.Seq.{drop-cons, take-suc}
use Rattle.std.proofs.lemmas.Slice.Eq.{bytes_eq-Decides}
use Rattle.hg_model.specs.declared.row.Row.{Row}
use Rattle.hg_model.specs.Held.{lacking, is_held}
use Rattle.hg_model.specs.Links.{no_row}
use Rattle.hg_model.specs.Orders.{IsPrefix}
use Rattle.hg_graph.specs.RowsWithRoom.{rows_of}
use Rattle.hg_gossip.specs.Holding.{row_names}
use Rattle.hg_gossip.specs.Handing.{AreInside, AreKnown, HeardView, Knows, all_heard, none_heard, rows_at, unheld}
use Rattle.hg_gossip.proofs.RowLaws.{held_is}

or_more : (a b : Bool) → a ≡ true → (a || b) ≡ true
or_more true b is = refl
or_more false b is = absurd (true≢false (sym is))

or_last : (a b : Bool) → b ≡ true → (a || b) ≡ true
or_last true b is = refl
or_last false b is = is

among_both : (G H : List Row) (name : List ℕ) → is_held (G ++ H) name ≡ (is_held G name || is_held H name)
among_both G H name =
    sym (held_is (G ++ H) name)
    ∙ (ap (list_any (bytes_eq name)) (map-append (λ (row : Row). row.name) G H)
    ∙ (list_any-append (bytes_eq name) (row_names G) (row_names H)
    ∙ (ap (λ (b : Bool). b || list_any (bytes_eq name) (row_names H)) (held_is G name) ∙ ap (λ (b : Bool). is_held G name || b) (held_is H name))))

pub held_more : (G H : List Row) (name : List ℕ) → IsPrefix G H → is_held G name ≡ true → is_held H name ≡ true
held_more G H name grown held =
    ap (λ (rows : List Row). is_held rows name) grown.1 ∙ (among_both G grown.0 name ∙ or_more (is_held G name) (is_held grown.0 name) held)

pub held_last : (G : List Row) (row : Row) → is_held (G ++ row ∷ []) row.name ≡ true
held_last G row =
    among_both G (row ∷ []) row.name
    ∙ or_last (is_held G row.name) (is_held (row ∷ []) row.name)
    (sym (held_is (row ∷ []) row.name) ∙ ap (λ (b : Bool). b || false) ((bytes_eq-Decides row.name row.name).1 refl))

-- a name that H has is among those of its rows
through : (G H : List Row) (name : List ℕ) → AreKnown G H → list_any (bytes_eq name) (row_names H) ≡ true → is_held G name ≡ true
through G [] name known there = absurd (true≢false (sym there))
through G (row ∷ H) name known there = elim (cases_Bool (bytes_eq name row.name)) [
  | inl same ↦ subst (λ (k : List ℕ). is_held G k ≡ true) (sym ((bytes_eq-Decides name row.name).0 same)) known.0
  | inr other ↦ through G H name known.1 (sym (ap (λ (b : Bool). b || list_any (bytes_eq name) (row_names H)) other) ∙ there)
]

pub known_through : (G H rows : List Row) → AreKnown G H → AreKnown H rows → AreKnown G rows
known_through G H [] first then = tt
known_through G H (row ∷ rows) first then = (through G H row.name first (held_is H row.name ∙ then.0), known_through G H rows first then.1)

pub known_more : (G H rows : List Row) → IsPrefix G H → AreKnown G rows → AreKnown H rows
known_more G H [] grown known = tt
known_more G H (row ∷ rows) grown known = (held_more G H row.name grown known.0, known_more G H rows grown known.1)

-- its own names
all_first : (G first rows : List Row) → G ≡ first ++ rows → AreKnown G rows
all_first G first [] is = tt
all_first G first (row ∷ rows) is = (
  held_more (first ++ row ∷ []) G row.name (rows, is ∙ sym (append_assoc first (row ∷ []) rows)) (held_last first row),
  all_first G (first ++ row ∷ []) rows (is ∙ sym (append_assoc first (row ∷ []) rows)),
)

pub known_own : (G : List Row) → AreKnown G G
known_own G = all_first G [] G refl

pub known_take : (G : List Row) (k : ℕ) (rows : List Row) → AreKnown G rows → AreKnown G (take k rows)
known_take G zero rows known = tt
known_take G (suc k) [] known = tt
known_take G (suc k) (row ∷ rows) known = (known.0, known_take G k rows known.1)

-- what is known is not lacking
pub known_lacks : (G rows : List Row) → AreKnown G rows → lacking G rows ≡ []
known_lacks G [] known = refl
known_lacks G (row ∷ rows) known = ap (λ (b : Bool). cond (not b) (row ∷ lacking G rows) (lacking G rows)) known.0 ∙ known_lacks G rows known.1

-- so what lacks nothing is known
none_lacks : (G rows : List Row) → lacking G rows ≡ [] → AreKnown G rows
none_lacks G [] none = tt
none_lacks G (row ∷ rows) none = by (is_held G row.name) refl none (none_lacks G rows)
  where
    by : (b : Bool) → is_held G row.name ≡ b → cond (not b) (row ∷ lacking G rows) (lacking G rows) ≡ [] → (lacking G rows ≡ [] → AreKnown G rows) → AreKnown G (row ∷ rows)
    by true is rest then = (is, then rest)
    by false is rest then = (let long = ap length rest in absurd (omega (arith, long)))

pub lacks_both : (G first rest : List Row) → lacking G (first ++ rest) ≡ lacking G first ++ lacking G rest
lacks_both G first rest = filter-append (λ (row : Row). not (is_held G row.name)) first rest

-- what is lacking later was lacking before
pub lacks_again : (G now rows : List Row) → IsPrefix G now → lacking now (lacking G rows) ≡ lacking now rows
lacks_again G now [] grown = refl
lacks_again G now (row ∷ rows) grown = by (is_held G row.name) refl (lacks_again G now rows grown)
  where
    by : (b : Bool) → is_held G row.name ≡ b → lacking now (lacking G rows) ≡ lacking now rows → lacking now (cond (not b) (row ∷ lacking G rows) (lacking G rows)) ≡ lacking now (row ∷ rows)
    by true is rest = rest ∙ sym (ap (λ (b : Bool). cond (not b) (row ∷ lacking now rows) (lacking now rows)) (held_more G now row.name grown is))
    by false is rest = ap (λ (rows : List Row). cond (not (is_held now row.name)) (row ∷ rows) rows) rest

-- once what was lacking is known, all is
pub known_all : (G now rows : List Row) → IsPrefix G now → AreKnown now (lacking G rows) → AreKnown now rows
known_all G now [] grown known = tt
known_all G now (row ∷ rows) grown known = by (is_held G row.name) refl known (known_all G now rows grown)
  where
    by : (b : Bool) → is_held G row.name ≡ b → AreKnown now (cond (not b) (row ∷ lacking G rows) (lacking G rows)) → (AreKnown now (lacking G rows) → AreKnown now rows) → AreKnown now (row ∷ rows)
    by true is known then = (held_more G now row.name grown is, then known)
    by false is known then = (known.0, then known.1)

-- the rows of both only get more
pub knows_more : (G now H then : List Row) (heard : HeardView) → IsPrefix G now → IsPrefix H then → Knows G H heard → Knows now then heard
knows_more G now H then heard grown longer knows = record {
  within = (let long = ap length longer.1 ∙ length-append H longer.0 in let low = knows.within in omega (arith, long, low));
  lacks =
      ap (lacking now) (ap (take heard.len) longer.1 ∙ take-append-le heard.len H longer.0 knows.within)
      ∙ (sym (lacks_again G now (take heard.len H) grown)
      ∙ (ap (lacking now) knows.lacks ∙ lacks_again G now heard.refused grown));
}

pub knows_none : (G H : List Row) → Knows G H none_heard
knows_none G H = record { within = omega (arith); lacks = refl }

pub knows_all : (G H : List Row) → AreKnown G H → Knows G H (all_heard (length H))
knows_all G H known = record { within = omega (arith); lacks = known_lacks G (take (length H) H) (known_take G (length H) H known) }

-- handed on: who has all names of the second knows what the second knows, where that refused nothing
pub knows_through : (G H rows : List Row) (len : ℕ) → AreKnown G H → Knows H rows (all_heard len) → Knows G rows (all_heard len)
knows_through G H rows len first then = record {
  within = then.within;
  lacks = known_lacks G (take len rows) (known_through G H (take len rows) first (none_lacks H (take len rows) then.lacks));
}

-- all of them but for the rest
pub knows_rest : (G H rest : List Row) → lacking G H ≡ lacking G rest → Knows G H (record { len = length H; refused = rest })
knows_rest G H rest is = record { within = omega (arith); lacks = ap (lacking G) (take_all (length H) H (omega (arith))) ∙ is }

-- what is lacking: those that were refused, and what is lacking of the rows behind
pub lacks_heard : (G H : List Row) (heard : HeardView) → Knows G H heard → lacking G heard.refused ++ lacking G (drop heard.len H) ≡ lacking G H
lacks_heard G H heard knows =
    ap (λ (first : List Row). first ++ lacking G (drop heard.len H)) (sym knows.lacks)
    ∙ (sym (lacks_both G (take heard.len H) (drop heard.len H)) ∙ ap (lacking G) (take-append-drop heard.len H))

-- a row is held under its own name
pub held_at : (G : List Row) (x : ℕ) (row : Row) (name : List ℕ) → slice_get G x ≡ Some row → row.name ≡ name → is_held G name ≡ true
held_at G x row name at named =
    let low : x < length G = slice_get_within G x row at in
    let front : take (suc x) G ≡ take x G ++ row ∷ [] = take-suc G x row low ∙ ap (λ (r : Row). take x G ++ r ∷ []) (get_or_from_slice_get G x row row at) in
    let all : G ≡ (take x G ++ row ∷ []) ++ drop (suc x) G = sym (take-append-drop (suc x) G) ∙ ap (λ (rows : List Row). rows ++ drop (suc x) G) front in
    subst (λ (k : List ℕ). is_held G k ≡ true) named (held_more (take x G ++ row ∷ []) G row.name (drop (suc x) G, all) (held_last (take x G) row))

-- one item more
pub taken_more : {A : Type 0} (xs : List A) (i : ℕ) (x : A) → i < length xs → x ≡ get_or xs i x → take (i + 1) xs ≡ take i xs ++ x ∷ []
taken_more xs i x low is = ap (λ (n : ℕ). take n xs) (add-one i) ∙ (take-suc xs i x low ∙ ap (λ y. take i xs ++ y ∷ []) (sym is))

-- one row more that the taker lacks
lacked_at : (held rows : List Row) (k : ℕ) (d : Row) → k < length rows → unheld held (get_or rows k d) ++ lacking held (drop (k + 1) rows) ≡ lacking held (drop k rows)
lacked_at held rows k d inside = rw (add-one, drop-cons rows k d inside) (one (is_held held (get_or rows k d).name) (get_or rows k d) (lacking held (drop (suc k) rows)))
  where
    one : (b : Bool) (row : Row) (rest : List Row) → cond b [] (row ∷ []) ++ rest ≡ cond (not b) (row ∷ rest) rest
    one true row rest = refl
    one false row rest = refl

-- the rows of events in turned order
pub rows_reversed : {A : Type 0} (events : List (Arc Row A)) → rows_of (reverse events) ≡ reverse (rows_of events)
rows_reversed [] = refl
rows_reversed (event ∷ events) =
    ap rows_of (reverse_onto events event [])
    ∙ (map-append (λ e. e.value) (reverse events) (event ∷ [])
    ∙ (ap (λ (rows : List Row). rows ++ event.value ∷ []) (rows_reversed events) ∙ sym (reverse_onto (rows_of events) event.value [])))

one_reversed : (held : List Row) (row : Row) → reverse (unheld held row) ≡ unheld held row
one_reversed held row = one (is_held held row.name)
  where
    one : (b : Bool) → reverse (cond b [] (row ∷ [])) ≡ cond b [] (row ∷ [])
    one true = refl
    one false = refl

-- with the row before those that were walked, the last one first
pub lacked_before : (held rows : List Row) (k : ℕ) (before after : List Row) → k < length rows → option_map (λ (row : Row). before ++ unheld held row) (slice_get rows k) ≡ Some after →
    before ≡ reverse (lacking held (drop (k + 1) rows)) → after ≡ reverse (lacking held (drop k rows))
lacked_before held rows k before after inside grown is =
    let row : Row = get_or rows k no_row in
    let rest : List Row = lacking held (drop (k + 1) rows) in
    let some : Some (before ++ unheld held row) ≡ Some after = sym (ap (option_map (λ (r : Row). before ++ unheld held r)) (slice_get-get_or rows k no_row inside)) ∙ grown in
    let same : before ++ unheld held row ≡ after = cc in
    sym same
    ∙ (ap₂ (λ (xs ys : List Row). xs ++ ys) is (sym (one_reversed held row))
    ∙ (sym (reverse-append (unheld held row) rest) ∙ ap (λ (xs : List Row). reverse xs) (lacked_at held rows k no_row inside)))

-- the row, unless it is held, is what is lacking of it
unheld_lacks : (held : List Row) (row : Row) → unheld held row ≡ lacking held (row ∷ [])
unheld_lacks held row = one (is_held held row.name)
  where
    one : (b : Bool) → cond b [] (row ∷ []) ≡ cond (not b) (row ∷ []) []
    one true = refl
    one false = refl

-- one event more, of which the row is lacking or not
pub lacks_more : {A : Type 0} (held : List Row) (events : List (Arc Row A)) (i : ℕ) (event : Arc Row A) (before after : List Row) → i < length events → event ≡ get_or events i event →
    before ≡ lacking held (rows_of (take i events)) → after ≡ before ++ unheld held event.value → after ≡ lacking held (rows_of (take (i + 1) events))
lacks_more held events i event before after low is so_far pushed =
    pushed
    ∙ (ap₂ (λ (xs ys : List Row). xs ++ ys) so_far (unheld_lacks held event.value)
    ∙ (sym (lacks_both held (rows_of (take i events)) (event.value ∷ []))
    ∙ ap (lacking held) (sym (ap rows_of (taken_more events i event low is) ∙ map-append (λ e. e.value) (take i events) (event ∷ [])))))

-- one event more behind the first
pub rows_joined : {A : Type 0} (first : List Row) (events old new : List (Arc Row A)) (i : ℕ) (event copy : Arc Row A) → i < length events → event ≡ get_or events i event → copy.value ≡ event.value →
    rows_of old ≡ first ++ rows_of (take i events) → new ≡ old ++ copy ∷ [] → rows_of new ≡ first ++ rows_of (take (i + 1) events)
rows_joined first events old new i event copy low is same so_far pushed =
    ap rows_of pushed
    ∙ (map-append (λ e. e.value) old (copy ∷ [])
    ∙ (ap₂ (λ (rows : List Row) (row : Row). rows ++ row ∷ []) so_far same
    ∙ (append_assoc first (rows_of (take i events)) (event.value ∷ [])
    ∙ ap (λ (rows : List Row). first ++ rows) (sym (ap rows_of (taken_more events i event low is) ∙ map-append (λ e. e.value) (take i events) (event ∷ []))))))

-- with one place more its row is there too
pub rows_at_more : (H : List Row) (xs : List ℕ) (x : ℕ) (row : Row) → slice_get H x ≡ Some row → rows_at H (xs ++ x ∷ []) ≡ rows_at H xs ++ row ∷ []
rows_at_more H xs x row at =
    map-append (λ y. get_or H y no_row) xs (x ∷ []) ∙ ap (λ (r : Row). rows_at H xs ++ r ∷ []) (get_or_from_slice_get H x row no_row at)

pub inside_more : (H : List Row) (xs : List ℕ) (x : ℕ) → AreInside H xs → x < length H → AreInside H (xs ++ x ∷ [])
inside_more H [] x inside low = (low, tt)
inside_more H (y ∷ xs) x inside low = (inside.0, inside_more H xs x inside.1 low)

-- a place was pushed whose row is lacked
pub pushes_place : (G H : List Row) (old new : List ℕ) (x : ℕ) (row : Row) → slice_get H x ≡ Some row → is_held G row.name ≡ false → new ≡ old ++ x ∷ [] →
    option_map (λ (r : Row). rows_at H old ++ unheld G r) (slice_get H x) ≡ Some (rows_at H new)
pushes_place G H old new x row at lacked pushed =
    ap (option_map (λ (r : Row). rows_at H old ++ unheld G r)) at
    ∙ ap (λ (rows : List Row). Some rows)
    (ap (λ (b : Bool). rows_at H old ++ cond b [] (row ∷ [])) lacked
    ∙ (sym (rows_at_more H old x row at) ∙ sym (ap (rows_at H) pushed)))

-- one event more, of the place before
pub events_more : {A : Type 0} (H : List Row) (places : List ℕ) (k : ℕ) (old new : List (Arc Row A)) (event : Arc Row A) → k < length places →
    slice_get H (get_or places k 0) ≡ Some event.value → rows_of old ≡ reverse (rows_at H (drop (k + 1) places)) → new ≡ old ++ event ∷ [] → rows_of new ≡ reverse (rows_at H (drop k places))
events_more H places k old new event inside at so_far pushed =
    let rest : List Row = rows_at H (drop (k + 1) places) in
    let first : drop k places ≡ get_or places k 0 ∷ drop (k + 1) places = rw (add-one) (drop-cons places k 0 inside) in
    ap rows_of pushed
    ∙ (map-append (λ e. e.value) old (event ∷ [])
    ∙ (ap (λ (rows : List Row). rows ++ event.value ∷ []) so_far
    ∙ (sym (reverse_onto rest event.value [])
    ∙ ap (λ (rows : List Row). reverse rows)
    (ap (λ (r : Row). r ∷ rest) (sym (get_or_from_slice_get H (get_or places k 0) event.value no_row at)) ∙ sym (ap (rows_at H) first)))))
