-- What is published of a graph without a mark
use Rattle.std.proofs.Common.{◌≡◌, inl, inr, ℕ, suc, ◌<◌, Bool, true, false, not, leb, [], List, length, get_or, replicate, Option, Some, None, sym, refl, ◌∙◌, arith}
use Rattle.std.proofs.lemmas.Bool.{cases_lt, le-leb, false_from_ne_true, true≢false}
use Rattle.std.proofs.lemmas.List.{get_or-replicate, get_or_past, length-replicate}
use Rattle.hg_model.specs.declared.row.Row.{Row}
use Rattle.hg_model.specs.Links.{Link, creator, links, parents}
use Rattle.hg_model.specs.Places.{some_below, IsEarlier}
use Rattle.hg_model.specs.Stakes.{Stakes, member_count, stake_of, total}
use Rattle.hg_model.specs.Forks.{has_fork, forking}
use Rattle.hg_model.specs.Fame.{Marks, mark_at, is_closed}
use Rattle.hg_model.specs.Order.{can_receive, round_received, ordered_in, last_closed, is_received_in}
use Rattle.hg_model.specs.Prefix.{Graph, graph_of, links_of}
use Rattle.hg_model.specs.GraphWords.{IsLawfulGraph}
use Rattle.hg_model.proofs.NameLaws.{distinct-none}
use Rattle.hg_model.proofs.OrderLaws.{ordered_in-same, ordered_in-none}
use Rattle.hg_model.proofs.PlacesLaws.{weight_below_none, list_below_zero}
use Rattle.hg_model.proofs.PushLaws.{shaped-none}
use Rattle.hg_model.proofs.SearchLaws.{least_below_none}
use Rattle.hg_agree.proofs.LateLaws.{closed_mark}
use Rattle.hg_prefix.proofs.ClosedLaws.{closed_up_to}
use Rattle.hg_prefix.proofs.FamousLaws.{witness_of_closed, receives_is}
use Rattle.hg_order.proofs.BoundLaws.{no_number}
use Rattle.hg_kept.specs.Published.{Keeps, is_pending, unpublished, unpublished_of}

no_mark : (rows x : ℕ) → mark_at (replicate rows None) x ≡ None
no_mark rows x = elim (cases_lt x rows) [
  | inl inside ↦ get_or-replicate {A = Option Bool} rows x None None inside
  | inr past ↦ get_or_past {X = Option Bool} (replicate rows None) x None (rw (length-replicate {A = Option Bool} rows None) past)
]

-- a closed round has a witness with a mark
module _ (n : Stakes) (L : List Link) (e : IsEarlier (parents L)) (marks : Marks) (none : (x : ℕ) → mark_at marks x ≡ None) where
  never_closed : (r : ℕ) → is_closed n L marks r ≡ true → ⊥
  never_closed r closed =
      let w = witness_of_closed n L marks r closed in
      let here = w.1.in_round in
      let mark = closed_mark n L marks r closed w.0 w.1.inside w.1.witness (omega arith) in
      let clash : None ≡ Some mark.0 = sym (none w.0) ∙ mark.1 in
      cc

  none_closed : 0 ≡ last_closed n L marks
  none_closed = elim (cases_lt 0 (last_closed n L marks)) [
    | inl some ↦ absurd (never_closed (last_closed n L marks) (closed_up_to n L e marks (last_closed n L marks) some (omega arith)))
    | inr low ↦ omega arith
  ]

  never_received : (x : ℕ) → round_received n L marks x ≡ None
  unfolding round_received
  never_received x =
      least_below_none (λ r. r) (suc (length L)) (can_receive n L marks x)
      (λ r inside. false_from_ne_true (can_receive n L marks x r) (λ can. never_closed r (receives_is n L marks x r can).closed))

  none_ordered : (G : List Row) → [] ≡ ordered_in n G L marks (λ r. true)
  none_ordered G =
      sym (ordered_in-same n G L marks (λ r. true) (λ r. false)
      (λ x r inside is. (let clash : None ≡ Some r = sym (never_received x) ∙ is in cc)) ∙ ordered_in-none n G L marks)

  all_wait : (test : ℕ → Bool) (x : ℕ) → not (is_received_in n L marks test x) ≡ true
  all_wait test x = rw (never_received x) refl

pub keeps_unpublished : (g : Graph) → IsLawfulGraph g → Keeps g (unpublished_of g)
keeps_unpublished g lawful =
    let n = g.members in
    let L = links_of g in
    let e = lawful.shaped.earlier in
    let rows = length g.rows in
    let marks : Marks = replicate rows None in
    let none = no_mark rows in record {
      graph = lawful;
      even = length-replicate {A = Option Bool} rows None;
      fame = record { fame = λ x v is. (let clash : None ≡ Some v = sym (none x) ∙ is in cc) };
      closed = none_closed n L e marks none;
      order = none_ordered n L e marks none g.rows;
      pending = record {
        looked = omega arith;
        below = sym (list_below_zero (λ x. x) (is_pending g marks 0));
        above = λ x high inside.
            all_wait n L e marks none (λ k. leb k 0) x
            ∙ sym (le-leb (get_or (replicate 128 0) (creator L x) 0) x (rw (no_number 128 (creator L x)) (omega arith)));
        ends = λ m. rw (no_number 128 m) (omega arith);
      };
    }

no_forkers : (n : Stakes) → forking n (links []) ≡ 0
unfolding forking has_fork some_below links
no_forkers n = weight_below_none (stake_of n) (member_count n) (has_fork (links [])) (λ m inside forks. absurd (true≢false (sym forks)))

pub keeps_nothing : (n : Stakes) (c : ℕ) → 0 < total n → Keeps (graph_of n c []) unpublished
keeps_nothing n c some =
    keeps_unpublished (graph_of n c []) (record { distinct = distinct-none; few_others = refl; shaped = shaped-none n; few_forkers = omega (arith, no_forkers n) })
