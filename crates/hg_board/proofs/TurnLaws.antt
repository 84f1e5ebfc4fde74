-- What a seat has between the steps of one call
use Rattle.std.proofs.Common.{◌≡◌, ℕ, ◌<◌, ◌≤◌, List, [], ◌∷◌, ◌++◌, length, drop, get_or, Option, Some, None, refl, sym, ap, ◌∙◌, subst, arith, length-append}
use Rattle.std.specs.Prelude.{IsSome}
use Rattle.std.proofs.lemmas.List.{append-nil}
use Rattle.atomic_table.specs.Table.{Step, rest}
use Rattle.hg_model.specs.Orders.{IsPrefix}
use Rattle.hg_life.specs.History.{Change}
use Rattle.hg_life.specs.NodeView.{NodeView, IsNode, with_changes}
use Rattle.hg_life.specs.Signing.{Accepts}
use Rattle.hg_gossip.specs.Holding.{positions_from}
use Rattle.hg_board.specs.declared.view.Hold.TheVariants.{Free, Taken, Loaded}
use Rattle.hg_board.specs.declared.view.View.{View}
use Rattle.hg_board.specs.Table.{HasSeen, node_at, view}
use Rattle.hg_board.specs.Steps.{Hand, HasTaken, IsAtRest, given, loaded, raised, taken, with_hold}
use Rattle.hg_board.specs.Turns.{Enters, IsGrown, IsInside, inside_at, last_change, mine_with, outside_at}

module _ {A : Type 0} where
  abbrev some_or : A → Option A → A
  some_or d None = d
  some_or d (Some x) = x

  pub same_some : (x y : A) → Some x ≡ Some y → x ≡ y
  same_some x y e = ap (some_or x) e

  -- what an exchange gives of the slot that was taken last
  pub given_by_exchange : (x found : A) (c : List (ℕ × A)) → c ≡ (0, x) ∷ [] → c ≡ (0, found) ∷ rest c → found ≡ x
  given_by_exchange x found c is was = ap (λ (l : List (ℕ × A)). (get_or l 0 (0, x)).1) (sym was ∙ is)

  pub holds_one : (x : A) (c : List (ℕ × A)) → c ≡ (0, x) ∷ [] → c ≡ (0, x) ∷ rest c
  holds_one x c is = is ∙ ap (λ (l : List (ℕ × A)). (0, x) ∷ rest l) (sym is)

  pub is_there : (x : A) (found : Option A) → found ≡ Some x → IsSome found
  is_there x found is = subst IsSome (sym is) refl

  pub drop_front : (xs ys : List A) → drop (length xs) (xs ++ ys) ≡ ys
  drop_front [] ys = refl
  drop_front (x ∷ xs) ys = drop_front xs ys

module _ {V : Type 0} (accepts : V → Accepts) (start : NodeView V) where
  -- after the turn was taken, by a seat that knows the start
  pub record Took (m n : Hand V) : Type 0 where
    pub history : List Change
    pub knows : HasSeen start m.0.seen m.0.mine
    pub seen : IsPrefix m.0.seen history
    pub node : IsNode accepts (node_at start history)
    pub taken : n ≡ (with_hold m.0 (Taken history), (0, Some (node_at start history)) ∷ [])

  took_from : (m n : Hand V) → m.0.start ≡ Some start → HasTaken accepts m n → Took m n
  took_from m n from t =
      let same : t.start ≡ start = same_some t.start start (sym t.from ∙ from) in
      subst (λ (x : NodeView V). HasSeen x m.0.seen m.0.mine → IsNode accepts (node_at x t.history) → n ≡ (with_hold m.0 (Taken t.history), (0, Some (node_at x t.history)) ∷ []) → Took m n) (sym same)
      (λ knows node is. record { history = t.history; knows = knows; seen = t.seen; node = node; taken = is }) t.knows t.node t.taken

  pub took : (m n : Hand V) (step : Step (Option (NodeView V))) (found : ℕ) → m.0.start ≡ Some start → taken accepts step m found n → found ≡ 0 → Took m n
  took m n step found from told hit = took_from m n from (told.0 hit)

  pub took_hold : (m n : Hand V) (t : Took m n) → n.0.hold ≡ Taken t.history
  took_hold m n t = ap (λ (x : Hand V). x.0.hold) t.taken

  pub took_parts : (m n : Hand V) (t : Took m n) → 0 < m.0.parts → 0 < n.0.parts
  took_parts m n t alive = let same : n.0.parts ≡ m.0.parts = ap (λ (x : Hand V). x.0.parts) t.taken in omega (arith, same, alive)

  -- with a node in the slot that the seat has
  abbrev pub with_node : View V → List Change → List ℕ → NodeView V → Hand V
  with_node v history mine node = (view v.start history [] mine v.parts Loaded, (0, Some node) ∷ [])

  -- after the count was loaded too
  pub record Looked (m o : Hand V) (count : ℕ) : Type 0 where
    pub history : List Change
    pub knows : HasSeen start m.0.seen m.0.mine
    pub seen : IsPrefix m.0.seen history
    pub node : IsNode accepts (node_at start history)
    pub counted : count ≡ length history
    pub looked : o ≡ with_node m.0 history m.0.mine (node_at start history)

  looked_in : (m n o : Hand V) (step : Step (Option (NodeView V))) (count : ℕ) → m.0.told ≡ [] → Took m n → loaded step n count o → Looked m o count
  looked_in m n o step count blank t told =
      let is = subst (λ (x : Hand V). loaded step x count o) t.taken told t.history refl in
      record {
        history = t.history;
        knows = t.knows;
        seen = t.seen;
        node = t.node;
        counted = is.0;
        looked = is.1 ∙ (λ i. (view m.0.start t.history (blank i) m.0.mine m.0.parts Loaded, (0, Some (node_at start t.history)) ∷ []));
      }

  pub entered : (m m' n o : Hand V) (step step' : Step (Option (NodeView V))) (found count : ℕ) → IsAtRest m → m.0.start ≡ Some start → m' ≡ m →
      taken accepts step m' found n → found ≡ 0 → loaded step' n count o → Looked m o count
  entered m m' n o step step' found count rests from same told hit told' =
      looked_in m n o step' count rests.untold (took m n step found from (subst (λ (x : Hand V). taken accepts step x found n) same told) hit) told'

  pub carries : (m o : Hand V) (count : ℕ) (t : Looked m o count) → o.1 ≡ (0, Some (node_at start t.history)) ∷ []
  carries m o count t = ap (λ (x : Hand V). x.1) t.looked

  -- the node is out
  pub moved_out : (m o p : Hand V) (count : ℕ) (t : Looked m o count) (found : Option (NodeView V)) → o.1 ≡ (0, found) ∷ rest o.1 → p ≡ (o.0, (0, None) ∷ rest o.1) →
      (found ≡ Some (node_at start t.history)) × (p ≡ inside_at m.0 t.history m.0.mine)
  moved_out m o p count t found was left = (
    given_by_exchange (Some (node_at start t.history)) found o.1 (carries m o count t) was,
    left ∙ ap (λ (x : Hand V). (x.0, (0, None) ∷ rest x.1)) t.looked,
  )

  pub enters : (m o p : Hand V) (count : ℕ) (t : Looked m o count) (found : Option (NodeView V)) (node : NodeView V) → 0 < m.0.parts → o.1 ≡ (0, found) ∷ rest o.1 →
      p ≡ (o.0, (0, None) ∷ rest o.1) → found ≡ Some node → Enters accepts start m p node count
  enters m o p count t found node alive was left is =
      let out = moved_out m o p count t found was left in
      record {
        history = t.history;
        knows = t.knows;
        seen = t.seen;
        lawful = t.node;
        alive = alive;
        inside = out.1;
        found = same_some node (node_at start t.history) (sym is ∙ out.0);
        counted = t.counted;
      }

  -- the node is in the slot, which the seat has still
  pub put_in : (m n : Hand V) (node : NodeView V) → IsInside m → n ≡ (m.0, (0, Some node) ∷ rest m.1) → n ≡ with_node m.0 m.0.seen m.0.mine node
  put_in m n node t is = is ∙ ap (λ (x : Hand V). (x.0, (0, Some node) ∷ rest x.1)) t.inside

  -- and the turn is given
  pub went_out : (m n o : Hand V) (node : NodeView V) (step : Step (Option (NodeView V))) → n ≡ with_node m.0 m.0.seen m.0.mine node → given step n 0 o → o ≡ outside_at m.0 m.0.seen m.0.mine
  went_out m n o node step is told = told ∙ ap (λ (x : Hand V). (with_hold x.0 Free, [])) is

pub empty_handed : {V : Type 0} (m : Hand V) → IsInside m → m.1 ≡ (0, None) ∷ []
empty_handed {V} m t = ap (λ (x : Hand V). x.1) t.inside

pub last_pushed : (h : List Change) (e : Change) → last_change (h ++ e ∷ []) ≡ e
last_pushed [] e = refl
last_pushed (d ∷ []) e = refl
last_pushed (d ∷ c ∷ h) e = last_pushed (c ∷ h) e

module _ {V : Type 0} where
  -- the count is raised for one change
  pub raised_one : (m n : Hand V) (e : Change) (step : Step (Option (NodeView V))) (found : ℕ) (history : List Change) → IsInside m → history ≡ m.0.seen ++ e ∷ [] → raised e step m found n →
      n ≡ inside_at m.0 history (mine_with m.0 history)
  raised_one m n e step found history t is told =
      let added : drop (length m.0.seen) history ≡ e ∷ [] = ap (drop (length m.0.seen)) is ∙ drop_front m.0.seen (e ∷ []) in
      let untold : m.0.told ≡ [] = ap (λ (x : Hand V). x.0.told) t.inside in
      told ∙ (λ i. (view m.0.start (sym is i) (untold i) (m.0.mine ++ positions_from (length m.0.seen) (sym added i)) m.0.parts Loaded, empty_handed m t i))

  -- a node with a change more, if the count has it not
  grown_by : (v node : NodeView V) (es : List Change) → length es ≤ 1 → node ≡ with_changes v es → length v.history < length node.history →
      node ≡ node_at v (v.history ++ last_change node.history ∷ [])
  grown_by v node [] few is more = absurd (omega (arith, more, ap (λ (x : NodeView V). length x.history) is, ap length (append-nil v.history)))
  grown_by v node (e ∷ []) few is more =
      let last : last_change node.history ≡ e = ap (λ (x : NodeView V). last_change x.history) is ∙ last_pushed v.history e in
      is ∙ ap (λ (d : Change). node_at v (v.history ++ d ∷ [])) (sym last)
  grown_by v node (e ∷ d ∷ es) few is more = absurd (omega (arith, few))

  pub grown_one : (v node : NodeView V) → IsGrown v node → length v.history < length node.history → node ≡ node_at v (v.history ++ last_change node.history ∷ [])
  grown_one v node g more = grown_by v node g.changes g.few g.grown more

  same_by : (v node : NodeView V) (es : List Change) → node ≡ with_changes v es → length node.history ≤ length v.history → node ≡ v
  same_by v node [] is few = is ∙ ap (λ (h : List Change). node_at v h) (append-nil v.history)
  same_by v node (e ∷ es) is few = absurd (omega (arith, few, ap (λ (x : NodeView V). length x.history) is, length-append v.history (e ∷ es)))

  pub grown_none : (v node : NodeView V) → IsGrown v node → length node.history ≤ length v.history → node ≡ v
  grown_none v node g few = same_by v node g.changes g.grown few

  -- then what the seat has seen is the history
  pub raised_none : (m : Hand V) (history : List Change) → IsInside m → history ≡ m.0.seen → m ≡ inside_at m.0 history (mine_with m.0 history)
  raised_none m history t is =
      let added : drop (length m.0.seen) history ≡ [] = ap (drop (length m.0.seen)) (is ∙ sym (append-nil m.0.seen)) ∙ drop_front m.0.seen [] in
      t.inside ∙ (λ i. inside_at m.0 (sym is i) ((sym (append-nil m.0.mine) ∙ ap (λ (es : List Change). m.0.mine ++ positions_from (length m.0.seen) es) (sym added)) i))
