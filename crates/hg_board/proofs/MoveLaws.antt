-- Each kind of step keeps the rule, and tells what it tells
use Rattle.std.proofs.Common.{◌≡◌, ◌≢◌, ℕ, suc, ◌+◌, ◌%◌, ◌^◌, ◌<◌, ◌≤◌, eqb, List, [], ◌∷◌, ◌++◌, map, length, get_or, set, Option, Some, cond, sum_by, refl, sym, ap, ◌∙◌, subst, ⊎_elim, arith, length-append}
use mathlib.Core.Option.{none, some, some-ne-none}
use mathlib.Core.Option as maybe
use lib.ListN.{get_elem?}
use lib.Seq.{set-get_or}
use prog.Atomic.{either}
use Rattle.atomic_table.specs.Table.{State, step, Act, keeps, takes, gives, Valid, carried_after, stepped, opening, Allows, Splits, Joins}
use Rattle.atomic_table.proofs.Lists.{at_set, set_else, set_again, at_snoc, exchanged}
use Rattle.hg_model.specs.Orders.{IsPrefix}
use Rattle.hg_life.specs.History.{Change}
use Rattle.hg_life.specs.NodeView.{NodeView, IsNode, terms_of}
use Rattle.hg_life.specs.Signing.{Accepts}
use Rattle.hg_history.proofs.SoundLaws.{moment}
use Rattle.hg_history.proofs.StateLaws.{prefix_more}
use Rattle.hg_board.specs.Positions.{times, once_from}
use Rattle.hg_board.specs.declared.view.Hold.{Hold}
use Rattle.hg_board.specs.declared.view.Hold.TheVariants.{Free, Taken, Loaded}
use Rattle.hg_board.specs.declared.view.View.{View}
use Rattle.hg_board.specs.Table.{all_parts, turns_of, node_at, view, first_view, spent, Holds, Fits, Orderly}
use Rattle.hg_board.specs.Steps.{Hand, IsAtRest, after_split, compared, given, joined, loaded, raised, split_off, taken, with_hold}
use Rattle.hg_board.proofs.PrefixLaws.{longest, of_longer, of_shorter, prefix_length, prefix_none, prefix_of_prefix, prefix_self}
use Rattle.hg_board.proofs.PositionLaws.{alone_in_sum, below_append, below_more, once_few, once_none, once_push, one_in_sum, sum_push, sum_replaced, times-append, times_none, times_push, two_in_sum}

is_free : (hold : Hold) → turns_of hold ≡ 0 → hold ≡ Free
is_free Free e = refl
is_free (Taken history) e = absurd (omega arith)
is_free Loaded e = absurd (omega arith)

-- a prefix of a node's history is one
pub node_earlier : {V : Type 0} (accepts : V → Accepts) (start : NodeView V) (seen history : List Change) → IsPrefix seen history → IsNode accepts (node_at start history) → IsNode accepts (node_at start seen)
node_earlier {V} accepts start seen history first node = record {
  few_members = node.few_members;
  coin = node.coin;
  balances = node.balances;
  limit = node.limit;
  history = moment (terms_of accepts start.start) start.start.members start.start.coin start.start.own seen first.0
      (subst (λ (h : List Change). IsNode accepts (node_at start h)) first.1 node).history;
}

abbrev Tables : Type 0 → Type 0
Tables V = State (Option (NodeView V)) (View V)

abbrev Homes : Type 0 → Type 0
Homes V = List (maybe.Option (Option (NodeView V)))

module _ {V : Type 0} where
  abbrev table : List ℕ → Homes V → List (View V) → Tables V
  table words homes views = record { words = words; homes = homes; views = views }

  free_holds : (history : List Change) (v : View V) → v.hold ≡ Free → Holds history v v.hold
  free_holds history v free = subst (Holds history v) (sym free) tt

  module _ (start : NodeView V) where
    held_as : (history : List Change) (v : View V) (hold : Hold) → Fits start history v → v.hold ≡ hold → Holds history v hold
    held_as history v hold fits is = subst (Holds history v) is fits.held

    -- another view, once the history has grown
    fits_later : (history more : List Change) (v : View V) → IsPrefix history more → Holds more v v.hold → Fits start history v → Fits start more v
    fits_later history more v first held fits = record {
      seen = prefix_more v.seen history more fits.seen first;
      told = prefix_more v.told history more fits.told first;
      held = held;
      within = fits.within;
      alive = fits.alive;
      begun = fits.begun;
      gone = fits.gone;
    }

    fits_spent : (history : List Change) → Fits start history spent
    fits_spent history = record { seen = prefix_none history; told = prefix_none history; held = tt; within = tt; alive = λ some_parts. absurd (omega arith); begun = λ some_parts. absurd (omega arith); gone = λ e. refl }

  module _ (accepts : V → Accepts) (start : NodeView V) where
    -- what a step of the seat `id` may change: its view from v to w, the words, the slot, and the history
    record Step' (s : Tables V) (o : Orderly accepts start s) (id : ℕ) (v w : View V) (words : List ℕ) (homes : Homes V) (turn : ℕ) (history : List Change) : Type 0 where
      at : get_elem? s.views id ≡ some v
      words_are : words ≡ turn ∷ length history ∷ []
      one : turn ≤ 1
      home : turn ≡ 0 → homes ≡ some (Some (node_at start history)) ∷ []
      away : turn ≡ 1 → homes ≡ none ∷ []
      later : IsPrefix o.history history
      node : IsNode accepts (node_at start history)
      others : (j : ℕ) (u : View V) → j ≢ id → get_elem? s.views j ≡ some u → Holds history u u.hold
      fits : Fits start history w
      turns : turns_of w.hold + o.turn ≡ turns_of v.hold + turn
      parts : w.parts ≡ v.parts
      once : (p : ℕ) → times p w.mine + once_from (length start.history) (length o.history) p ≡ times p v.mine + once_from (length start.history) (length history) p

    moved : (s : Tables V) (o : Orderly accepts start s) (id : ℕ) (v w : View V) (words : List ℕ) (homes : Homes V) (turn : ℕ) (history : List Change) →
        Step' s o id v w words homes turn history → Orderly accepts start (table words homes (set s.views id w))
    moved s o id v w words homes turn history step = record {
      history = history;
      turn = turn;
      words = step.words_are;
      one_turn = step.one;
      holders = omega (arith, sum_replaced (λ (u : View V). turns_of u.hold) s.views id v w step.at, o.holders, step.turns);
      home = step.home;
      away = step.away;
      later = prefix_more start.history o.history history o.later step.later;
      node = step.node;
      each = λ j u at. ⊎_elim
          (λ (t : (j ≡ id) × (w ≡ u)). subst (Fits start history) t.1 step.fits)
          (λ (t : (j ≢ id) × (get_elem? s.views j ≡ some u)). fits_later start o.history history u step.later (step.others j u t.0 t.1) (o.each j u t.1))
          (at_set s.views id j w u at);
      parts = omega (arith, sum_replaced (λ (u : View V). u.parts) s.views id v w step.at, o.parts, step.parts);
      once = λ p. omega (arith, sum_replaced (λ (u : View V). times p u.mine) s.views id v w step.at, o.once p, step.once p);
    }

    -- nothing changed
    unmoved : (s : Tables V) (o : Orderly accepts start s) (id k : ℕ) (v : View V) → get_elem? s.views id ≡ some v → Orderly accepts start (table (set s.words k (get_or s.words k 0)) s.homes (set s.views id v))
    unmoved s o id k v at = subst (Orderly accepts start) (λ i. table (sym (set-get_or s.words k 0) i) s.homes (sym (set_again s.views id v at) i)) o

    -- a word was read, and the view alone changed
    looked : (s : Tables V) (o : Orderly accepts start s) (id k : ℕ) (v w : View V) → get_elem? s.views id ≡ some v →
        Fits start o.history w → turns_of w.hold ≡ turns_of v.hold → w.parts ≡ v.parts → w.mine ≡ v.mine →
        Orderly accepts start (table (set s.words k (get_or s.words k 0)) s.homes (set s.views id w))
    looked s o id k v w at fits turns parts mine = moved s o id v w (set s.words k (get_or s.words k 0)) s.homes o.turn o.history record {
      at = at;
      words_are = set-get_or s.words k 0 ∙ o.words;
      one = o.one_turn;
      home = o.home;
      away = o.away;
      later = prefix_self o.history;
      node = o.node;
      others = λ j u apart there. (o.each j u there).held;
      fits = fits;
      turns = omega (arith, turns);
      parts = parts;
      once = λ p. omega (arith, ap (times p) mine);
    }

    turn_is : (s : Tables V) (o : Orderly accepts start s) → get_or s.words 0 0 ≡ o.turn
    turn_is s o = ap (λ (words : List ℕ). get_or words 0 0) o.words

    count_is : (s : Tables V) (o : Orderly accepts start s) → get_or s.words 1 0 ≡ length o.history
    count_is s o = ap (λ (words : List ℕ). get_or words 1 0) o.words

    -- a view that holds the turn is the only one that does
    has_turn : (s : Tables V) (o : Orderly accepts start s) (id : ℕ) (v : View V) → get_elem? s.views id ≡ some v → turns_of v.hold ≡ 1 → o.turn ≡ 1
    has_turn s o id v at one = omega (arith, one_in_sum (λ (u : View V). turns_of u.hold) s.views id v at, o.holders, o.one_turn, one)

    others_free : (s : Tables V) (o : Orderly accepts start s) (id : ℕ) (v : View V) → get_elem? s.views id ≡ some v → turns_of v.hold ≡ 1 →
        (j : ℕ) (u : View V) → j ≢ id → get_elem? s.views j ≡ some u → u.hold ≡ Free
    others_free s o id v at one j u apart there =
        is_free u.hold (omega (arith, two_in_sum (λ (x : View V). turns_of x.hold) s.views id j v u apart at there, o.holders, o.one_turn, one))

    -- what a step of the word k to `new` owes, and tells by `then`
    abbrev Goes : Tables V → ℕ → ℕ → Hand V → (ℕ → Hand V → Type 0) → ℕ → Type 0
    Goes s k id m then new =
        (w : View V) × (a : Act (Option (NodeView V))) × Valid s.homes m.1 a × Orderly accepts start (stepped s k new id m.1 w a) × then (get_or s.words k 0) (w, carried_after m.1 a)

    -- 1, take the turn
    pub takes_turn : (n id : ℕ) (v : View V) → v.hold ≡ Free → 0 < v.parts →
        Allows (Orderly accepts start) n id (v, []) 0 (λ y. either (eqb y 0) 1 y) (taken accepts (step n 0 0 1 none) (v, []))
    takes_turn n id v idle alive s o wide me _ =
        exchanged (get_or s.words 0 0) 0 1 (Goes s 0 id (v, []) (taken accepts (step n 0 0 1 none) (v, [])))
        (λ hit.
        let free : o.turn ≡ 0 = omega (arith, turn_is s o, hit) in
        let at_home = o.home free in
        let node : NodeView V = node_at start o.history in
        let w : View V = with_hold v (Taken o.history) in
        let f = o.each id v me in (
          w,
          takes 0 (Some node),
          ap (λ homes. get_elem? homes 0) at_home,
          moved s o id v w (set s.words 0 1) (set s.homes 0 none) 1 o.history record {
            at = me;
            words_are = ap (λ (words : List ℕ). set words 0 1) o.words;
            one = omega arith;
            home = λ e. absurd (omega arith);
            away = λ _. ap (λ homes. set homes 0 none) at_home;
            later = prefix_self o.history;
            node = o.node;
            others = λ j u apart there. (o.each j u there).held;
            fits = record { seen = f.seen; told = f.told; held = refl; within = f.within; alive = f.alive; begun = f.begun; gone = λ e. absurd (omega (arith, alive, e)) };
            turns = omega (arith, ap turns_of idle, free);
            parts = refl;
            once = λ p. refl;
          },
          ((λ _. record { start = start; history = o.history; from = f.alive alive; knows = record { begun = f.begun alive; within = f.within }; seen = f.seen; node = o.node; taken = refl }), λ miss. absurd (miss hit)),
        ))
        (λ miss. (v, keeps, tt, unmoved s o id 0 v me, ((λ hit. absurd (miss hit)), λ _. refl)))

    -- 5, load the count, with the turn
    pub loads : (n id : ℕ) (v : View V) (c : List (ℕ × Option (NodeView V))) (history : List Change) → v.hold ≡ Taken history → 0 < v.parts →
        Allows (Orderly accepts start) n id (v, c) 1 (λ y. y) (loaded (step n 1 0 0 none) (v, c))
    loads n id v c history has alive s o wide me _ =
        let f = o.each id v me in
        let same : history ≡ o.history = held_as start o.history v (Taken history) f has in
        let w : View V = view v.start o.history v.told v.mine v.parts Loaded in
        let fits : Fits start o.history w = record {
          seen = prefix_self o.history;
          told = f.told;
          held = refl;
          within = below_more (length v.seen) (length o.history) v.mine (prefix_length v.seen o.history f.seen) f.within;
          alive = f.alive;
          begun = λ _. o.later;
          gone = λ e. absurd (omega (arith, alive, e));
        } in (
          w,
          keeps,
          tt,
          looked s o id 1 v w me fits (sym (ap turns_of has)) refl refl,
          λ h has_h.
              let also : h ≡ o.history = held_as start o.history v (Taken h) f has_h in
              (count_is s o ∙ ap length (sym also), λ i. (view v.start (sym also i) v.told v.mine v.parts Loaded, c)),
        )

    -- 4, raise the count, for a change that is named
    pub raises : (n id : ℕ) (v : View V) (c : List (ℕ × Option (NodeView V))) (change : Change) → v.hold ≡ Loaded → 0 < v.parts → length v.seen + 1 < 2 ^ 64 →
        IsNode accepts (node_at start (v.seen ++ change ∷ [])) →
        Allows (Orderly accepts start) n id (v, c) 1 (λ y. (y + 1) % 2 ^ 64) (raised change (step n 1 1 0 none) (v, c))
    raises n id v c change has alive short lawful s o wide me _ =
        let f = o.each id v me in
        let same : v.seen ≡ o.history = held_as start o.history v Loaded f has in
        let h : List Change = v.seen ++ change ∷ [] in
        let grown : h ≡ o.history ++ change ∷ [] = ap (λ (l : List Change). l ++ change ∷ []) same in
        let count : length h ≡ suc (length o.history) = omega (arith, ap length grown, length-append o.history (change ∷ [])) in
        let count_seen : length v.seen ≡ length o.history = ap length same in
        let later : IsPrefix o.history h = (change ∷ [], grown) in
        let w : View V = view v.start h v.told (v.mine ++ length v.seen ∷ []) v.parts Loaded in
        let one : turns_of v.hold ≡ 1 = ap turns_of has in
        let busy = has_turn s o id v me one in
        let now : (get_or s.words 1 0 + 1) % 2 ^ 64 ≡ length h = omega (arith, count_is s o, count, count_seen, short) in (
          w,
          keeps,
          tt,
          moved s o id v w (set s.words 1 ((get_or s.words 1 0 + 1) % 2 ^ 64)) s.homes o.turn h record {
            at = me;
            words_are = ap (λ (x : ℕ). set s.words 1 x) now ∙ ap (λ (words : List ℕ). set words 1 (length h)) o.words;
            one = o.one_turn;
            home = λ e. absurd (omega (arith, busy, e));
            away = o.away;
            later = later;
            node = lawful;
            others = λ j u apart there. free_holds h u (others_free s o id v me one j u apart there);
            fits = record {
              seen = prefix_self h;
              told = prefix_more v.told o.history h f.told later;
              held = refl;
              within = below_append (length h) v.mine (length v.seen ∷ []) (below_more (length v.seen) (length h) v.mine (omega (arith, count, count_seen)) f.within) (omega (arith, count, count_seen), tt);
              alive = f.alive;
              begun = λ _. prefix_more start.history o.history h o.later later;
              gone = λ e. absurd (omega (arith, alive, e));
            };
            turns = omega (arith, one);
            parts = refl;
            once = λ p. omega (
              arith,
              times_push p v.mine (length v.seen),
              once_push (length start.history) (length o.history) p (prefix_length start.history o.history o.later),
              ap (λ (k : ℕ). once_from (length start.history) k p) count,
              ap {B = ℕ} (λ (k : ℕ). cond (eqb k p) 1 0) count_seen,
            );
          },
          refl,
        )

    -- 6, give the turn
    pub gives_turn : (n id : ℕ) (v : View V) → v.hold ≡ Loaded → 0 < v.parts →
        Allows (Orderly accepts start) n id (v, (0, Some (node_at start v.seen)) ∷ []) 0 (λ _. 0) (λ _. given (step n 0 0 0 none) (v, (0, Some (node_at start v.seen)) ∷ []) 0)
    gives_turn n id v has alive s o wide me _ =
        let f = o.each id v me in
        let same : v.seen ≡ o.history = held_as start o.history v Loaded f has in
        let node : NodeView V = node_at start v.seen in
        let w : View V = with_hold v Free in
        let one : turns_of v.hold ≡ 1 = ap turns_of has in
        let busy = has_turn s o id v me one in
        let out = o.away busy in (
          w,
          gives,
          tt,
          moved s o id v w (set s.words 0 0) (set s.homes 0 (some (Some node))) 0 o.history record {
            at = me;
            words_are = ap (λ (words : List ℕ). set words 0 0) o.words;
            one = omega arith;
            home = λ _. ap (λ homes. set homes 0 (some (Some node))) out ∙ ap (λ (h : List Change). some (Some (node_at start h)) ∷ []) same;
            away = λ e. absurd (omega arith);
            later = prefix_self o.history;
            node = o.node;
            others = λ j u apart there. (o.each j u there).held;
            fits = record { seen = f.seen; told = f.told; held = tt; within = f.within; alive = f.alive; begun = f.begun; gone = λ e. absurd (omega (arith, alive, e)) };
            turns = omega (arith, one, busy);
            parts = refl;
            once = λ p. refl;
          },
          refl,
        )

    -- 5 after 8, load the count, and compare
    pub compares : (n id : ℕ) (v : View V) (c : List (ℕ × Option (NodeView V))) → v.hold ≡ Free → 0 < v.parts →
        Allows (Orderly accepts start) n id (v, c) 1 (λ y. y) (compared accepts (step n 1 0 0 none) (v, c))
    compares n id v c idle alive s o wide me _ =
        let f = o.each id v me in
        let w : View V = view v.start v.seen [] v.mine v.parts v.hold in
        let fits : Fits start o.history w = record {
          seen = f.seen;
          told = prefix_none o.history;
          held = free_holds o.history w idle;
          within = f.within;
          alive = f.alive;
          begun = f.begun;
          gone = λ e. absurd (omega (arith, alive, e));
        } in (
          w,
          keeps,
          tt,
          looked s o id 1 v w me fits refl refl refl,
          record {
            start = start;
            from = f.alive alive;
            told = λ le. prefix_of_prefix v.told v.seen o.history f.told f.seen le;
            node = node_earlier accepts start v.seen o.history f.seen o.node;
            once = λ p. omega (arith, o.once p, once_few (length start.history) (length o.history) p, one_in_sum (λ (u : View V). times p u.mine) s.views id v me);
            within = f.within;
            parts = omega (arith, o.parts, one_in_sum (λ (u : View V). u.parts) s.views id v me);
            cleared = refl;
          },
        )

    -- 7, split a seat
    pub splits : (id : ℕ) (v : View V) → v.hold ≡ Free → 1 < v.parts → Splits (Orderly accepts start) id v (after_split v) (split_off v)
    splits id v idle more s o me =
        let f = o.each id v me in
        let left : View V = after_split v in
        let right : View V = split_off v in
        let views : List (View V) = set s.views id left in
        let fits_left : Fits start o.history left = record {
          seen = f.seen;
          told = f.told;
          held = free_holds o.history left idle;
          within = f.within;
          alive = λ _. f.alive (omega (arith, more));
          begun = λ _. f.begun (omega (arith, more));
          gone = λ e. absurd (omega (arith, more, e));
        } in
        let fits_right : Fits start o.history right = record {
          seen = f.seen;
          told = prefix_none o.history;
          held = tt;
          within = tt;
          alive = λ _. f.alive (omega (arith, more));
          begun = λ _. f.begun (omega (arith, more));
          gone = λ e. absurd (omega (arith, e));
        } in
        record {
          history = o.history;
          turn = o.turn;
          words = o.words;
          one_turn = o.one_turn;
          holders = omega (arith, sum_push (λ (u : View V). turns_of u.hold) views right, sum_replaced (λ (u : View V). turns_of u.hold) s.views id v left me, o.holders);
          home = o.home;
          away = o.away;
          later = o.later;
          node = o.node;
          each = λ j u at. ⊎_elim
              (λ (was : get_elem? views j ≡ some u). ⊎_elim
              (λ (t : (j ≡ id) × (left ≡ u)). subst (Fits start o.history) t.1 fits_left)
              (λ (t : (j ≢ id) × (get_elem? s.views j ≡ some u)). o.each j u t.1)
              (at_set s.views id j left u was))
              (λ (last : right ≡ u). subst (Fits start o.history) last fits_right)
              (at_snoc views right u j at);
          parts = omega (arith, sum_push (λ (u : View V). u.parts) views right, sum_replaced (λ (u : View V). u.parts) s.views id v left me, o.parts, more);
          once = λ p. omega (arith, sum_push (λ (u : View V). times p u.mine) views right, sum_replaced (λ (u : View V). times p u.mine) s.views id v left me, o.once p, times_none p);
        }

    -- 8, join a seat into another
    pub joins : (id : ℕ) (v : View V) (other : ℕ) (w : View V) → v.hold ≡ Free → w.hold ≡ Free → 0 < v.parts → Joins (Orderly accepts start) id v other w (joined v w) spent
    joins id v other w idle idle_other alive s o me apart them =
        let f = o.each id v me in
        let both : View V = joined v w in
        let views : List (View V) = set s.views id both in
        let there : get_elem? s.views other ≡ some w = sym (set_else s.views id other both apart) ∙ them in
        let g = o.each other w there in
        let size = longest v.seen w.seen in
        let sums : (weight : View V → ℕ) → sum_by weight (set views other spent) + weight w + weight v ≡ sum_by weight s.views + weight both + weight spent =
        λ weight. omega (arith, sum_replaced weight s.views id v both me, sum_replaced weight views other w spent them) in
        let fits : Fits start o.history both = record {
          seen = of_longer (λ h. IsPrefix h o.history) v.seen w.seen f.seen g.seen;
          told = of_shorter (λ h. IsPrefix h o.history) v.seen w.seen f.seen g.seen;
          held = free_holds o.history both idle;
          within = below_append (length both.seen) v.mine w.mine (below_more (length v.seen) (length both.seen) v.mine size.first f.within) (below_more (length w.seen) (length both.seen) w.mine size.second g.within);
          alive = λ _. f.alive alive;
          begun = λ _. prefix_more start.history v.seen both.seen (f.begun alive) (prefix_of_prefix v.seen both.seen o.history f.seen (of_longer (λ h. IsPrefix h o.history) v.seen w.seen f.seen g.seen) size.first);
          gone = λ e. absurd (omega (arith, alive, e));
        } in
        record {
          history = o.history;
          turn = o.turn;
          words = o.words;
          one_turn = o.one_turn;
          holders = omega (arith, sums (λ (u : View V). turns_of u.hold), o.holders, ap turns_of idle, ap turns_of idle_other);
          home = o.home;
          away = o.away;
          later = o.later;
          node = o.node;
          each = λ j u at. ⊎_elim
              (λ (t : (j ≡ other) × (spent ≡ u)). subst (Fits start o.history) t.1 (fits_spent start o.history))
              (λ (t : (j ≢ other) × (get_elem? views j ≡ some u)). ⊎_elim
              (λ (q : (j ≡ id) × (both ≡ u)). subst (Fits start o.history) q.1 fits)
              (λ (q : (j ≢ id) × (get_elem? s.views j ≡ some u)). o.each j u q.1)
              (at_set s.views id j both u t.1))
              (at_set views other j spent u at);
          parts = omega (arith, sums (λ (u : View V). u.parts), o.parts);
          once = λ p. omega (arith, sums (λ (u : View V). times p u.mine), o.once p, times-append p v.mine w.mine, times_none p);
        }

    -- the table at the start
    pub starts : (words : List ℕ) (slots : List (Option (NodeView V))) → IsNode accepts start → words ≡ 0 ∷ length start.history ∷ [] → slots ≡ Some start ∷ [] →
        Orderly accepts start (opening words slots (first_view start))
    starts words slots node words_are slots_are = record {
      history = start.history;
      turn = 0;
      words = words_are;
      one_turn = omega arith;
      holders = refl;
      home = λ _. ap (λ (ys : List (Option (NodeView V))). map some ys) slots_are;
      away = λ e. absurd (omega arith);
      later = prefix_self start.history;
      node = node;
      each = λ j v at. ⊎_elim
          (λ (none_there : get_elem? [] j ≡ some v). absurd (some-ne-none v (sym none_there)))
          (λ (t : first_view start ≡ v). subst (Fits start start.history) t record {
            seen = prefix_self start.history;
            told = prefix_none start.history;
            held = tt;
            within = tt;
            alive = λ _. refl;
            begun = λ _. prefix_self start.history;
            gone = λ e. absurd (omega (arith, e));
          })
          (at_snoc [] (first_view start) v j at);
      parts = refl;
      once = λ p. omega (arith, once_none (length start.history) p, times_none p);
    }

    -- what is so in the end, by the seat that has the turn and all parts
    pub ends : (s : Tables V) (o : Orderly accepts start s) (id : ℕ) (v : View V) → get_elem? s.views id ≡ some v → v.hold ≡ Loaded → v.parts ≡ all_parts →
        (p : ℕ) → times p v.mine ≡ once_from (length start.history) (length v.seen) p
    ends s o id v me has every p = omega (
      arith,
      o.once p,
      ap (λ (h : List Change). once_from (length start.history) (length h) p) (held_as start o.history v Loaded (o.each id v me) has),
      alone_in_sum (λ (u : View V). u.parts) (λ (u : View V). times p u.mine) s.views id v me (omega (arith, o.parts, every))
          (λ j u at none_there. ap (λ (x : View V). times p x.mine) ((o.each j u at).gone none_there) ∙ times_none p),
    )

    -- the same of a seat between two calls, and of one that is loaded
    pub takes_at : (n id : ℕ) (m : Hand V) → IsAtRest m → Allows (Orderly accepts start) n id m 0 (λ y. either (eqb y 0) 1 y) (taken accepts (step n 0 0 1 none) m)
    takes_at n id m rests =
        subst (λ (x : Hand V). Allows (Orderly accepts start) n id x 0 (λ y. either (eqb y 0) 1 y) (taken accepts (step n 0 0 1 none) x)) (λ i. (m.0, sym rests.empty i)) (takes_turn n id m.0 rests.free rests.alive)

    pub gives_at : (n id : ℕ) (m : Hand V) → m.0.hold ≡ Loaded → 0 < m.0.parts → m.1 ≡ (0, Some (node_at start m.0.seen)) ∷ [] →
        Allows (Orderly accepts start) n id m 0 (λ _. 0) (λ _. given (step n 0 0 0 none) m 0)
    gives_at n id m has alive carried =
        subst (λ (x : Hand V). Allows (Orderly accepts start) n id x 0 (λ _. 0) (λ _. given (step n 0 0 0 none) x 0)) (λ i. (m.0, sym carried i)) (gives_turn n id m.0 has alive)
