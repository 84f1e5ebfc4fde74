-- Worked examples, computed: a row that would be a fork too many, transfers, and the two forms of events
use Rattle.std.proofs.Common.{◌≡◌, ℕ, true, List, [], ◌∷◌, ◌++◌, map, replicate, Some, None, Err, refl}
use Rattle.std.specs.Prelude.{codes}
use Rattle.hg_model.specs.declared.row.Row.{Row}
use Rattle.hg_model.specs.declared.row.Placed.{Placed}
use Rattle.hg_life.specs.declared.answers.Fault.TheVariants as fault
use Rattle.hg_life.specs.declared.answers.ByteFault.TheVariants.{Short, BadMagic, BadKind}
use Rattle.hg_life.specs.declared.answers.PutAnswer.TheVariants.{Accepted, Refused}
use Rattle.hg_life.specs.declared.pay.Transfer.{Transfer}
use Rattle.hg_life.specs.declared.pay.Effect.TheVariants as effect
use Rattle.hg_model.specs.Places.{weight_below, some_below, values_below, by_place, reaches}
use Rattle.hg_model.specs.Stakes.{total}
use Rattle.hg_model.specs.Links.{ParentNames, links, parents, self_parent, creator}
use Rattle.hg_model.specs.Ancestry.{is_self_ancestor}
use Rattle.hg_model.specs.Forks.{is_fork, has_fork, forking}
use Rattle.hg_life.specs.Spelling.{form_bytes, parent_bytes}
use Rattle.hg_life.specs.Reading.{read_event, form_field, form_of, parents_field, number_field, bytes_field}
use Rattle.hg_life.specs.Terms.{row_limit}
use Rattle.hg_life.specs.Verdict.{row_verdict}
use Rattle.hg_life.specs.Pay.{pay_bytes, read_pay, paid, book_of}
use Rattle.hg_model.proofs.Worked.{members, first, made, forked_members}

-- a second event on the third member's first would be a second fork, and two of four are not below a third
second_forker : row_verdict (record { accepts = λ m body sig. true; limit = row_limit }) (members 4) 0 forked_members (made 2 3 1 12) ≡ Refused (fault.TooManyForkers 2)
unfolding forking total has_fork is_fork is_self_ancestor weight_below some_below reaches by_place values_below self_parent parents creator links
second_forker = refl

-- of three members the first has 3 of 5 and makes a second event without parents: that is one forker, with too much stake
heavy_forker : row_verdict (record { accepts = λ m body sig. true; limit = row_limit }) (3 ∷ 1 ∷ 1 ∷ []) 1 (first 0 1 ∷ []) (first 0 2) ≡ Refused (fault.TooManyForkers 3)
unfolding forking total has_fork is_fork is_self_ancestor weight_below some_below reaches by_place values_below self_parent parents creator links
heavy_forker = refl

-- the last of four, with 2 of 7, may
light_forker : row_verdict (record { accepts = λ m body sig. true; limit = row_limit }) (2 ∷ 1 ∷ 2 ∷ 2 ∷ []) 1 (first 3 1 ∷ []) (first 3 2) ≡ Accepted 1
unfolding forking total has_fork is_fork is_self_ancestor weight_below some_below reaches by_place values_below self_parent parents creator links
light_forker = refl

-- transfers between two members, and to a third who is none
abbrev pub to : ℕ → ℕ → Transfer
to receiver amount = record { receiver = receiver; amount = amount }

pay_read : read_pay (pay_bytes (to 1 30 ∷ to 2 80 ∷ [])) ≡ Some (to 1 30 ∷ to 2 80 ∷ [])
unfolding read_pay pay_bytes
pay_read = refl

pay_spelled : pay_bytes (to 258 1027 ∷ []) ≡ 1 ∷ 1 ∷ 2 ∷ 0 ∷ 0 ∷ 0 ∷ 0 ∷ 0 ∷ 0 ∷ 4 ∷ 3 ∷ []
unfolding pay_bytes
pay_spelled = refl

-- a byte short, a byte long, 65 transfers
pay_refused : (read_pay (1 ∷ 0 ∷ 1 ∷ []) ∷ read_pay (0 ∷ 0 ∷ []) ∷ read_pay (pay_bytes (replicate 65 (to 1 0))) ∷ []) ≡ None ∷ None ∷ None ∷ []
unfolding read_pay pay_bytes
pay_refused = refl

-- the first two events' transfers, one of each above what the payer holds, one to oneself and one to no member, and
-- three bytes that are no transfers
abbrev pub paying : ℕ → List ℕ → Row
paying m payload = record { creator = m; parents = None; time = 0; payload = payload; sig = []; name = [] }

abbrev pub ordered_at : ℕ → Placed
ordered_at place = record { place = place; received = 2; time = 0 }

four_paid : book_of (100 ∷ 0 ∷ [])
    (paying 0 (pay_bytes (to 1 30 ∷ to 1 80 ∷ [])) ∷ paying 1 (pay_bytes (to 0 31 ∷ to 0 0 ∷ []))
    ∷ paying 0 (pay_bytes (to 0 70 ∷ to 2 1 ∷ [])) ∷ paying 1 (1 ∷ 2 ∷ 3 ∷ []) ∷ paying 1 [] ∷ [])
    (map ordered_at (0 ∷ 1 ∷ 2 ∷ 3 ∷ 4 ∷ []))
    ≡ record {
      balances = 70 ∷ 30 ∷ [];
      effects = effect.Paid 1 2 ∷ effect.Paid 1 2 ∷ effect.Paid 1 2 ∷ effect.Unread ∷ effect.Empty ∷ [];
    }
unfolding book_of paid read_pay pay_bytes
four_paid = refl

-- both forms of an event begin alike; the first has no kind above 1, the second none below 2 or above 4
short_magic : read_event (codes "HG") ≡ Err (Short 2)
unfolding read_event form_field form_of
short_magic = refl

other_form : read_event (codes "HGE3") ≡ Err BadMagic
unfolding read_event form_field form_of
other_form = refl

kind_of_first_form : read_event (codes "HGE1" ++ 0 ∷ 0 ∷ 2 ∷ []) ≡ Err (BadKind 2)
unfolding read_event form_field form_of parents_field number_field bytes_field
kind_of_first_form = refl

kind_of_second_form : read_event (codes "HGE2" ++ 0 ∷ 0 ∷ 1 ∷ []) ≡ Err (BadKind 1)
unfolding read_event form_field form_of parents_field number_field bytes_field
kind_of_second_form = refl

kind_above_four : read_event (codes "HGE2" ++ 0 ∷ 0 ∷ 5 ∷ []) ≡ Err (BadKind 5)
unfolding read_event form_field form_of parents_field number_field bytes_field
kind_above_four = refl

-- one other-parent has the first form, two have the second
abbrev named_parents : List (List ℕ) → ParentNames
named_parents others = Some (7 ∷ [], others)

spelled_one : form_bytes (named_parents ((8 ∷ []) ∷ [])) ++ parent_bytes (named_parents ((8 ∷ []) ∷ [])) ≡ codes "HGE1" ++ 1 ∷ 7 ∷ 8 ∷ []
spelled_one = refl

spelled_two : form_bytes (named_parents ((8 ∷ []) ∷ (9 ∷ []) ∷ [])) ++ parent_bytes (named_parents ((8 ∷ []) ∷ (9 ∷ []) ∷ [])) ≡ codes "HGE2" ++ 2 ∷ 7 ∷ 8 ∷ 9 ∷ []
spelled_two = refl
