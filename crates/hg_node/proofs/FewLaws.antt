-- How much a journal holds: at most two entries for each row, each of at most 1,345 bytes of an event
use Rattle.std.proofs.Common.{◌≡◌, ℕ, ◌+◌, ◌*◌, ◌≤◌, true, ◌&&◌, List, [], ◌∷◌, ◌++◌, length, fold, Some, None, is_some, refl, ap, arith}
use Rattle.std.specs.List.{AllByRecursion, concat}
use Rattle.std.specs.Prelude.{IfSome, nat_le, nat_lt}
use Rattle.std.specs.Int.{w16, w64, to_be_bytes}
use Rattle.std.proofs.lemmas.Bool.{and_parts}
use Rattle.std.proofs.lemmas.Bool.Decides.{nat_tests}
use Rattle.std.proofs.lemmas.List.{length_push, length-append}
use Rattle.hg_model.specs.Stakes.{Stakes}
use Rattle.hg_model.specs.Links.{ParentNames}
use Rattle.hg_model.specs.Fame.{mark_at}
use Rattle.hg_life.specs.Spelling.{AreNames, spelling, body_of, form_bytes, parent_bytes, payload_bytes}
use Rattle.hg_life.specs.History.{Change, State, empty, with_row, with_marks, first_mark, step, replay, AreSteps}
use Rattle.hg_life.specs.History.Change.{Took, Made, Marked}
use Rattle.hg_life.specs.Terms.{Terms}
use Rattle.hg_model.proofs.PlacesLaws.{count_below-le}
use Rattle.hg_history.proofs.StateLaws.{IsEven, even_row, even_step, even_after}
use Rattle.hg_node.specs.ChronicleView.{marked}
use Rattle.hg_node.proofs.NewsLaws.{marked_push, marked_news}
use Rattle.hg_node.specs.ReplayLaws.{ChangesAreFew, SpellingsAreShort}

module _ (terms : Terms) (n : Stakes) (c own : ℕ) where
  few_from : (s : State) (h : List Change) → IsEven s → AreSteps terms n c own s h →
      length h + (length s.rows + marked s.marks) ≤ length (fold (step n c) s h).rows + marked (fold (step n c) s h).marks
  few_from s [] even steps = omega arith
  few_from s (Took row ∷ h) even steps =
      let later = few_from (with_row n s row) h (even_row n c s row even) steps.1 in
      omega (arith, later, length_push s.rows row, marked_push s.marks (first_mark n s row))
  few_from s (Made row ∷ h) even steps =
      let later = few_from (with_row n s row) h (even_row n c s row even) steps.1 in
      omega (arith, later, length_push s.rows row, marked_push s.marks (first_mark n s row))
  few_from s (Marked len share ∷ h) even steps =
      let later = few_from (with_marks n c s len share) h (even_step n c s (Marked len share) even) steps.1 in
      omega (arith, later, marked_news n c s even len share steps.0.within, steps.0.some)

pub changes_are_few : ChangesAreFew
unfolding replay marked
changes_are_few terms n c own h is =
    let t = replay n c h in
    let few = few_from terms n c own empty h (record { links = refl; marks = refl }) is.steps in
    let marks = count_below-le (length t.marks) (λ x. is_some (mark_at t.marks x)) in
    omega (arith, few, marks, (even_after n c h).marks)

names_long : (names : List (List ℕ)) → AllByRecursion (λ name. length name ≡ 48) names → length (concat names) ≡ 48 * length names
names_long [] sized = refl
names_long (name ∷ names) sized = (let later = names_long names sized.1 in omega (arith, length-append name (concat names), sized.0, later))

few_names : (k : ℕ) → (nat_lt 0 k && nat_le k 4) ≡ true → k ≤ 4
few_names k few = (let low = (and_parts (nat_lt 0 k) (nat_le k 4) few).1 in grind (arith, nat_tests))

parents_short : (parents : ParentNames) → IfSome parents AreNames → length (parent_bytes parents) ≤ 241
parents_short None sized = omega arith
parents_short (Some names) sized =
    omega (arith, length-append names.0 (concat names.1), sized.first, names_long names.1 sized.others, few_names (length names.1) sized.few)

pub spellings_are_short : SpellingsAreShort
unfolding spelling body_of
spellings_are_short bytes row spells =
    let has = spells.sized in
    let a : List ℕ = to_be_bytes w16 row.creator in
    let b : List ℕ = parent_bytes row.parents in
    let t : List ℕ = to_be_bytes w64 row.time in
    let l : List ℕ = to_be_bytes w16 (length row.payload) in
    let la : length (to_be_bytes w16 row.creator) ≡ 2 = refl in
    let lt : length (to_be_bytes w64 row.time) ≡ 8 = refl in
    let ll : length (to_be_bytes w16 (length row.payload)) ≡ 2 = refl in
    let lm : length (form_bytes row.parents) ≡ 4 = refl in
    let e5 = length-append (to_be_bytes w16 (length row.payload)) row.payload in
    let e4 = length-append (to_be_bytes w64 row.time) (payload_bytes row.payload) in
    let e3 = length-append (parent_bytes row.parents) (to_be_bytes w64 row.time ++ payload_bytes row.payload) in
    let e2 = length-append (to_be_bytes w16 row.creator) (parent_bytes row.parents ++ (to_be_bytes w64 row.time ++ payload_bytes row.payload)) in
    let e1 = length-append (form_bytes row.parents) (to_be_bytes w16 row.creator ++ (parent_bytes row.parents ++ (to_be_bytes w64 row.time ++ payload_bytes row.payload))) in
    let e0 = length-append (body_of row) row.sig in
    let whole = ap length spells.spelled in
    omega (arith, whole, e0, e1, e2, e3, e4, e5, la, lt, ll, lm, parents_short row.parents has.parents, has.payload, has.sig)
