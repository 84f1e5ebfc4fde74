-- Writes are counted, and what was ordered by the same names makes one register
use Rattle.std.proofs.Common.{◌≡◌, inl, inr, ◌⊎◌, ℕ, ◌+◌, ◌^◌, ◌<◌, ◌≤◌, Bool, true, false, cond, eqb, List, [], ◌∷◌, ◌++◌, length, map, take, get_or, slice_get, sym, refl, ap, ap₂, ◌∙◌, subst, arith}
use Rattle.std.specs.Prelude.{All, fold}
use Rattle.std.proofs.lemmas.List.{append-nil, length-take-le, take_more}
use Rattle.std.proofs.lemmas.List.Sums.{fold-append}
use Rattle.std.proofs.lemmas.List.Elements.{All-head, All-tail}
use Rattle.std.proofs.lemmas.Option.{slice_get-get_or}
use Rattle.hg_model.specs.declared.row.Row.{Row}
use Rattle.hg_model.specs.declared.row.Placed.{Placed}
use Rattle.hg_model.specs.Stakes.{Stakes}
use Rattle.hg_model.specs.Graph.{name_at}
use Rattle.hg_model.specs.Links.{no_row}
use Rattle.hg_model.specs.Order.{Ordered, named_in}
use Rattle.hg_life.specs.Kept.{kept}
use Rattle.hg_model.specs.Orders.{IsPrefix}
use Rattle.hg_life.specs.History.{Change, replay}
use Rattle.hg_life.specs.NodeView.{kept_of, node_rows}
use Rattle.hg_model.proofs.OrderLaws.{ordered_within}
use Rattle.hg_history.proofs.StateLaws.{even_after}
use Rattle.hg_prefix.specs.Chains.{HaveEqualRows}
use Rattle.hg_runs.specs.Safety.{IsSafe, order_after}
use Rattle.hg_world.specs.World.{WorldView, IsSiteOf, node_at, run_of, site_at}
use Rattle.hg_world.specs.Parts.{IsWorld}
use Rattle.register.specs.declared.replica.Register.{Register}
use Rattle.register.specs.Replicas.{AreOneRegister, after_event, after_payload, after_row, order_at, register_at, register_in, state_at, unchanged, unwritten, written}

-- a payload counts once at most
count_payload : (r : Register) (payload : List ℕ) → (after_payload r payload).done + (after_payload r payload).skipped ≤ r.done + r.skipped + 1
count_payload r [] = omega arith
count_payload r (old ∷ []) = omega arith
count_payload r (old ∷ value ∷ []) = by (eqb old r.value)
  where
    by : (stands : Bool) → (cond stands (written r value) (unchanged r)).done + (cond stands (written r value) (unchanged r)).skipped ≤ r.done + r.skipped + 1
    by true = omega arith
    by false = omega arith
count_payload r (old ∷ value ∷ other ∷ rest) = omega arith

count_events : (G : List Row) (order : List Placed) (r : Register) →
    (fold (after_event G) r order).done + (fold (after_event G) r order).skipped ≤ r.done + r.skipped + length order
count_events G [] r = omega arith
count_events G (p ∷ order) r =
    let one = count_payload r (get_or G p.place no_row).payload in
    let more = count_events G order (after_event G r p) in
    omega (arith, one, more)

-- there is room for one more, and it goes on the register of those before
module _ (G : List Row) (order items : List Placed) (same : items ≡ order) (i : ℕ) (low : i < length items) (r : Register) (is : r ≡ register_in G (take i order)) where
  within : i < length order
  within = omega (arith, low, ap (λ (xs : List Placed). length xs) same)

  pub few_counted : length items < 2 ^ 64 → r.done + r.skipped + 1 < 2 ^ 64
  few_counted few =
      let count = count_events G (take i order) unwritten in
      let long : length (take i order) ≡ i = length-take-le i order (omega (arith, within)) in
      let counted : r.done + r.skipped ≡ (register_in G (take i order)).done + (register_in G (take i order)).skipped = ap (λ (s : Register). s.done + s.skipped) is in
      omega (arith, low, few, count, long, counted)

  pub one_more : (d : Placed) (after : Register) → after ≡ after_row G r (get_or items i d).place → after ≡ register_in G (take (i + 1) order)
  one_more d after one =
      let p : Placed = get_or order i d in
      let here : get_or items i d ≡ p = ap (λ (xs : List Placed). get_or xs i d) same in
      one
      ∙ (ap₂ (λ (s : Register) (q : Placed). after_event G s q) is here
      ∙ (sym (fold-append (after_event G) unwritten (take i order) (p ∷ []))
      ∙ ap (fold (after_event G) unwritten) (sym (take_more order i d within))))

-- rows of one name are one
same_row : (G H : List Row) (x y : Placed) → HaveEqualRows G H → x.place < length G → y.place < length H → name_at G x.place ≡ name_at H y.place → get_or G x.place no_row ≡ get_or H y.place no_row
same_row G H x y equal low high names =
    let one = slice_get-get_or G x.place no_row low in
    let other = slice_get-get_or H y.place no_row high in
    let rows : slice_get G x.place ≡ slice_get H y.place = equal.equal x.place y.place low high names in
    cc

-- so as many rows of the same names make one register
same_register : (G H : List Row) (xs ys : List Placed) → HaveEqualRows G H → All (λ (p : Placed). p.place < length G) xs → All (λ (p : Placed). p.place < length H) ys →
    (rest : List Ordered) → map (named_in H) ys ≡ map (named_in G) xs ++ rest → length xs ≡ length ys → (r : Register) → fold (after_event G) r xs ≡ fold (after_event H) r ys
same_register G H [] [] equal low high rest is long r = refl
same_register G H [] (y ∷ ys) equal low high rest is long r = absurd (omega (arith, long))
same_register G H (x ∷ xs) [] equal low high rest is long r = absurd (omega (arith, long))
same_register G H (x ∷ xs) (y ∷ ys) equal low high rest is long r =
    let first : named_in H y ≡ named_in G x = cc in
    let others : map (named_in H) ys ≡ map (named_in G) xs ++ rest = cc in
    let row = same_row G H x y equal (All-head (λ (p : Placed). p.place < length G) x xs low) (All-head (λ (p : Placed). p.place < length H) y ys high) (sym (ap (λ (o : Ordered). o.name) first)) in
    let next : after_event G r x ≡ after_event H r y = ap (λ (row : Row). after_payload r row.payload) row in
    same_register G H xs ys equal (All-tail (λ (p : Placed). p.place < length G) x xs low) (All-tail (λ (p : Placed). p.place < length H) y ys high) rest others (omega (arith, long)) (after_event G r x)
    ∙ ap (λ (s : Register). fold (after_event H) s ys) next

kept_places : (n : Stakes) (c : ℕ) (h : List Change) → All (λ (p : Placed). p.place < length (replay n c h).rows) (kept n (replay n c h))
kept_places n c h =
    let s = replay n c h in
    subst (λ (k : ℕ). All (λ (p : Placed). p.place < k) (kept n s)) (even_after n c h).links (ordered_within n s.rows s.links s.marks)

pub one_register : (w : WorldView) → IsWorld w → IsSafe w.members w.coin (run_of w) → AreOneRegister w
one_register w is safe few apart j k low high long =
    by (safe few apart j k (run_of w j) (run_of w k)
    (record { member = omega (arith, low, is.count); later = []; whole = sym (append-nil (run_of w j)) })
    (record { member = omega (arith, high, is.count); later = []; whole = sym (append-nil (run_of w k)) }))
  where
    same : (i m : ℕ) → i < length w.sites → m < length w.sites → length (order_at w i) ≡ length (order_at w m) →
        IsPrefix (order_after w.members w.coin (run_of w i)) (order_after w.members w.coin (run_of w m)) → register_at w i ≡ register_at w m
    same i m inside within even begins =
        same_register (state_at w i).rows (state_at w m).rows (order_at w i) (order_at w m)
        (apart.equal i m (omega (arith, inside, is.count)) (omega (arith, within, is.count)))
        (kept_places w.members w.coin (run_of w i)) (kept_places w.members w.coin (run_of w m)) begins.0 begins.1 even unwritten

    by : IsPrefix (order_after w.members w.coin (run_of w j)) (order_after w.members w.coin (run_of w k)) ⊎ IsPrefix (order_after w.members w.coin (run_of w k)) (order_after w.members w.coin (run_of w j)) →
        register_at w j ≡ register_at w k
    by (inl first) = same j k low high long first
    by (inr second) = sym (same k j high low (sym long) second)

-- the register of a member's node is the member's
pub site_register : (w : WorldView) (m : ℕ) → IsSiteOf w m (site_at w m) → register_in (node_rows (node_at w m)) (kept_of (node_at w m)) ≡ register_at w m
site_register w m is = ap₂ (λ (n : Stakes) (c : ℕ). let s = replay n c (node_at w m).history in register_in s.rows (kept n s)) is.members is.coin
