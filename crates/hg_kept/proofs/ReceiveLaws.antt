-- What a closed round that comes next receives, and what waits on
use Rattle.std.proofs.Common.{◌≡◌, inr, ℕ, ◌+◌, ◌<◌, ◌≤◌, Bool, true, false, ◌&&◌, not, leb, eqb, List, [], ◌++◌, length, map, sym, refl, ap, ap₂, ◌∙◌, subst, arith, add-one, length-append}
use Rattle.std.specs.List.{AllByRecursion}
use Rattle.std.proofs.lemmas.Bool.{and_parts}
use Rattle.std.proofs.Math.Bool.{and-true, and-false}
use Rattle.std.proofs.lemmas.List.{append-nil}
use Rattle.hg_model.specs.declared.row.Placed.{Placed}
use Rattle.hg_model.specs.Places.{list_below}
use Rattle.hg_model.specs.Stakes.{Stakes}
use Rattle.hg_model.specs.Links.{Link}
use Rattle.hg_model.specs.Fame.{Marks, is_closed}
use Rattle.hg_model.specs.Order.{sort_by, comes_before, keyed_at, is_received_in, ordered_in, can_receive}
use Rattle.hg_model.specs.Prefix.{Graph, links_of}
use Rattle.hg_life.specs.Kept.{kept_up_to}
use Rattle.hg_model.specs.GraphWords.{famous_of, received_order}
use Rattle.hg_life.specs.StateWords.{state_by}
use Rattle.hg_model.proofs.OrderLaws.{length-ordered_in, length-ordered_in-le}
use Rattle.hg_model.proofs.ListLaws.{all_list_below}
use Rattle.hg_model.proofs.PlacesLaws.{list_below-same, list_below-longer}
use Rattle.hg_history.proofs.RoundLaws.{up_to_is}
use Rattle.hg_order.specs.Famous.{all_have, IsBelowAll}
use Rattle.hg_order.specs.Round.{received_places}
use Rattle.hg_kept.specs.Published.{KeepsUpTo, is_pending}
use Rattle.hg_kept.specs.Waiting.{HasWaiting}
use Rattle.hg_kept.specs.Receiving.{Parted, published_as, AreParted, Receives, is_left_of}
use Rattle.hg_kept.proofs.WaitLaws.{waiting_same}
use Rattle.hg_kept.proofs.FreshLaws.{pending_next, fresh_next, none_receive, all_receive}

module _ (g : Graph) (marks : Marks) (closed : ℕ) (order : List Placed) (w : Parted) (keeps : KeepsUpTo g (published_as marks closed order w)) where
  abbrev n : Stakes
  n = g.members

  abbrev L : List Link
  L = links_of g

  pub has_waiting : HasWaiting (links_of g) w.waiting
  has_waiting = record { waits = is_pending g marks closed; are = keeps.pending }

  module _ (next : is_closed g.members (links_of g) marks (closed + 1) ≡ true) where
    -- a round without a unique famous witness
    none_received : length (famous_of g marks (closed + 1)) ≡ 0 → (x : ℕ) → is_received_in n L marks (λ k. eqb k (closed + 1)) x ≡ false
    none_received none x =
        fresh_next g marks keeps.graph.shaped.earlier closed x
        ∙ (ap (λ (b : Bool). is_pending g marks closed x && b) (none_receive n L marks (closed + 1) none x) ∙ and-false (is_pending g marks closed x))

    waits_on : length (famous_of g marks (closed + 1)) ≡ 0 → (x : ℕ) → is_pending g marks (closed + 1) x ≡ is_pending g marks closed x
    waits_on none x =
        pending_next g marks keeps.graph.shaped.earlier closed x
        ∙ (ap (λ (b : Bool). is_pending g marks closed x && not b) (none_receive n L marks (closed + 1) none x) ∙ and-true (is_pending g marks closed x))

    order_next : (more : List Placed) → more ≡ received_order g marks (closed + 1) → order ++ more ≡ kept_up_to n (state_by g marks) (closed + 1)
    unfolding kept_up_to
    order_next more is = rw (add-one closed) (ap₂ (λ (xs ys : List Placed). xs ++ ys) keeps.order (is ∙ ap (received_order g marks) (add-one closed)))

    pub keeps_none : length (famous_of g marks (closed + 1)) ≡ 0 → KeepsUpTo g (published_as marks (closed + 1) order w)
    unfolding ordered_in sort_by list_below
    keeps_none none = record {
      graph = keeps.graph;
      even = keeps.even;
      fame = keeps.fame;
      reached = inr next;
      order =
          sym (append-nil order)
          ∙ order_next [] (ap (λ (xs : List (List ℕ × Placed)). map (λ (keyed : List ℕ × Placed). keyed.1) (sort_by comes_before xs))
          (sym (list_below-longer (keyed_at n g.rows L marks) 0 (length L) (is_received_in n L marks (λ k. eqb k (closed + 1))) (omega arith) (λ x ge low. none_received none x))));
      pending = waiting_same L w.waiting (is_pending g marks closed) (is_pending g marks (closed + 1)) (λ x inside. sym (waits_on none x)) keeps.pending;
    }

    -- a round with some
    module _ (famous : List ℕ) (are : famous ≡ famous_of g marks (closed + 1)) (some : 0 < length famous) where
      can_is : (x : ℕ) → can_receive n L marks x (closed + 1) ≡ all_have L famous x
      can_is x =
          all_receive n L marks (closed + 1) next (let e = ap length are in omega arith) x
          ∙ ap (λ (ws : List ℕ). all_have L ws x) (sym are)

      module _ (w' : Parted) (receives : Receives g famous w.waiting w') where
        parted : AreParted g famous (is_pending g marks closed) w'
        parted = receives (is_pending g marks closed) keeps.pending

        fresh_test : (x : ℕ) → is_received_in n L marks (λ k. eqb k (closed + 1)) x ≡ (is_pending g marks closed x && all_have L famous x)
        fresh_test x = fresh_next g marks keeps.graph.shaped.earlier closed x ∙ ap (λ (b : Bool). is_pending g marks closed x && b) (can_is x)

        pub fresh_are : w'.fresh ≡ received_places g marks (closed + 1)
        fresh_are =
            parted.fresh
            ∙ list_below-same (λ x. x) (λ x. x) (length L) (λ x. is_pending g marks closed x && all_have L famous x) (is_received_in n L marks (λ k. eqb k (closed + 1)))
            (λ x low. sym (fresh_test x)) (λ x low is. refl)

        pub fresh_below : AllByRecursion (IsBelowAll g famous) w'.fresh
        fresh_below =
            subst (AllByRecursion (IsBelowAll g famous)) (sym fresh_are)
            (all_list_below (IsBelowAll g famous) (λ x. x) (length L) (is_received_in n L marks (λ k. eqb k (closed + 1))) (λ x inside is. (
              inside,
              (and_parts (is_pending g marks closed x) (all_have L famous x) (sym (fresh_test x) ∙ is)).1,
            )))

        pub order_fits : length order + length w'.fresh ≤ length L
        order_fits =
            let s = state_by g marks in
            let upto : ℕ → Bool = λ k. leb k (closed + 1) in
            let more = order_next (received_order g marks (closed + 1)) refl ∙ sym (up_to_is n s keeps.graph.shaped.earlier (closed + 1)) in
            let sized = ap length more in
            let counted = length-ordered_in n g.rows L marks (λ k. eqb k (closed + 1)) in
            let e = ap length fresh_are in
            omega (arith, length-append order (received_order g marks (closed + 1)), length-ordered_in-le n g.rows L marks upto)

        pub keeps_next : (more : List Placed) → more ≡ order ++ received_order g marks (closed + 1) → KeepsUpTo g (published_as marks (closed + 1) more w')
        keeps_next more is = record {
          graph = keeps.graph;
          even = keeps.even;
          fame = keeps.fame;
          reached = inr next;
          order = is ∙ order_next (received_order g marks (closed + 1)) refl;
          pending = waiting_same L w'.waiting (is_left_of g famous (is_pending g marks closed)) (is_pending g marks (closed + 1)) (λ x inside. waiting x) parted.left;
        }
          where
            waiting : (x : ℕ) → (is_pending g marks closed x && not (all_have L famous x)) ≡ is_pending g marks (closed + 1) x
            waiting x =
                ap (λ (b : Bool). is_pending g marks closed x && not b) (sym (can_is x))
                ∙ sym (pending_next g marks keeps.graph.shaped.earlier closed x)
