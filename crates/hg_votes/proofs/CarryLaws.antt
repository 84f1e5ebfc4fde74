-- What is entered of a graph is so of every longer one
use Rattle.std.proofs.Common.{◌≡◌, ℕ, zero, suc, ◌+◌, ◌-◌, ◌*◌, ◌<◌, ◌≤◌, Bool, false, cond, ◌&&◌, ltb, eqb, List, [], ◌∷◌, ◌++◌, length, get_or, refl, sym, ap, ap₂, ◌∙◌, subst, inl, inr, arith, add-suc, add-zero, append_assoc, length-append}
use Rattle.std.specs.List.{AllByRecursion}
use Rattle.std.proofs.lemmas.Bool.{cases_lt, and_left, and_parts, and_right, eqb-true, false_from_ne_true, lt-ltb, le-ltb}
use Rattle.std.proofs.lemmas.List.{append-nil, get_or_append_left, get_or-append_right}
use Rattle.std.proofs.lemmas.List.Elements.{All-from_recursion}
use Rattle.hg_model.specs.declared.row.Row.{Row}
use Rattle.hg_model.specs.Places.{list_below}
use Rattle.hg_model.specs.Stakes.{Stakes}
use Rattle.hg_model.specs.Links.{links}
use Rattle.hg_model.specs.Graph.{IsShaped}
use Rattle.hg_model.specs.Seeing.{strongly_sees}
use Rattle.hg_model.specs.Prefix.{Graph, graph_of}
use Rattle.hg_model.specs.GraphWords.{is_witness_in, round_in, shape_in, IsShapedIn}
use Rattle.hg_model.proofs.AncestryLaws.{is_ancestor-le}
use Rattle.hg_model.proofs.LinkLaws.{length-links}
use Rattle.hg_model.proofs.ListLaws.{all_list_below}
use Rattle.hg_model.proofs.LongerLaws.{IsLonger, links-longer, is_witness-longer, round_of-longer, strongly_sees-longer}
use Rattle.hg_model.proofs.PlacesLaws.{list_below-same, weight_below-same}
use Rattle.hg_model.proofs.PrefixLaws.{IsWitnessOf, witness_read}
use Rattle.hg_model.proofs.SightLaws.{strongly_sees-is_ancestor}
use Rattle.hg_model.proofs.StandingLaws.{witnesses_in-standings}
use Rattle.hg_bits.specs.Words.{has_bit}
use Rattle.hg_votes.specs.Slots.{HoldsSlots}
use Rattle.hg_votes.specs.Counting.{Begins, CarriesTo, Counting, Entered, HasMost, HasRoom, HoldsVoters, IsVotersOf, number_of, witnesses_of}

-- more places, after the first
list_below-add : (a b : ℕ) (test : ℕ → Bool) → list_below (λ k. k) (a + b) test ≡ list_below (λ k. k) a test ++ list_below (λ k. a + k) b (λ k. test (a + k))
unfolding list_below
list_below-add a zero test = rw (add-zero a) (sym (append-nil (list_below (λ k. k) a test)))
list_below-add a (suc b) test =
    rw (add-suc)
    (ap (λ xs. xs ++ cond (test (a + b)) ((a + b) ∷ []) []) (list_below-add a b test)
    ∙ append_assoc (list_below (λ k. k) a test) (list_below (λ k. a + k) b (λ k. test (a + k))) (cond (test (a + b)) ((a + b) ∷ []) []))

module _ (n : Stakes) (c : ℕ) (G more : List Row) (shaped : IsShaped n (links G)) (whole : IsShaped n (links (G ++ more))) where
  abbrev pub first : Graph
  first = graph_of n c G

  abbrev pub later : Graph
  later = graph_of n c (G ++ more)

  longer : IsLonger (links G) (links (G ++ more))
  longer = links-longer n G more shaped

  round_stays : (y : ℕ) → y < length G → round_in later y ≡ round_in first y
  round_stays y h = round_of-longer (links G) (links (G ++ more)) longer n y (omega (arith, length-links G))

  witness_stays : (y : ℕ) → y < length G → is_witness_in later y ≡ is_witness_in first y
  witness_stays y h = is_witness-longer (links G) (links (G ++ more)) longer n shaped.earlier y (omega (arith, length-links G))

  number_stays : (y : ℕ) → y ≤ length G → number_of later y ≡ number_of first y
  number_stays y le = weight_below-same (λ _. 1) y (is_witness_in later) (is_witness_in first) (λ k h. witness_stays k (omega arith))

  -- the witnesses of a round that are new
  new_witnesses : ℕ → List ℕ
  new_witnesses r =
      list_below (λ k. length (links G) + k) (length (links (G ++ more)) - length (links G))
      (λ k. is_witness_in later (length (links G) + k) && eqb (round_in later (length (links G) + k)) r)

  witnesses_go_on : (r : ℕ) → witnesses_of later r ≡ witnesses_of first r ++ new_witnesses r
  unfolding new_witnesses
  witnesses_go_on r =
      let old : ℕ = length (links G) in
      let test : ℕ → Bool = λ k. is_witness_in later k && eqb (round_in later k) r in
      let all : length (links (G ++ more)) ≡ old + (length (links (G ++ more)) - old) = omega (arith, longer.more) in
      witnesses_in-standings n (links (G ++ more)) r
      ∙ (ap (λ k. list_below (λ x. x) k test) all
      ∙ (list_below-add old (length (links (G ++ more)) - old) test
      ∙ ap (λ xs. xs ++ list_below (λ k. old + k) (length (links (G ++ more)) - old) (λ k. test (old + k)))
      (list_below-same (λ x. x) (λ x. x) old test (λ k. is_witness_in first k && eqb (round_in first k) r)
      (λ k h. ap₂ (λ a b. a && eqb b r) (witness_stays k (omega (arith, length-links G))) (round_stays k (omega (arith, length-links G)))) (λ k h passes. refl)
      ∙ sym (witnesses_in-standings n (links G) r))))

  -- a row of this round behind the first
  abbrev IsNewOf : ℕ → ℕ → Type 0
  IsNewOf r w = (length (links G) ≤ w) × (w < length (links (G ++ more))) × (round_in later w ≡ r)

  new_are_late : (r : ℕ) → AllByRecursion (IsNewOf r) (new_witnesses r)
  unfolding new_witnesses
  new_are_late r =
      all_list_below (IsNewOf r) (λ k. length (links G) + k) (length (links (G ++ more)) - length (links G))
      (λ k. is_witness_in later (length (links G) + k) && eqb (round_in later (length (links G) + k)) r)
      (λ k h passes. (omega arith, omega arith, eqb-true (round_in later (length (links G) + k)) r (and_parts (is_witness_in later (length (links G) + k)) (eqb (round_in later (length (links G) + k)) r) passes).1))

  -- a later row is not seen
  late_unseen : (y w : ℕ) → y < length G → length (links G) ≤ w → strongly_sees n (links (G ++ more)) y w ≡ false
  late_unseen y w h late = false_from_ne_true (strongly_sees n (links (G ++ more)) y w) (λ seen.
      absurd (omega (arith, length-links G, is_ancestor-le (links (G ++ more)) whole.earlier y w (strongly_sees-is_ancestor (links (G ++ more)) whole.earlier n y w seen))))

  module _ (y : ℕ) (h : y < length G) (set : List ℕ) (r : ℕ) (held : HoldsSlots set (witnesses_of first r) (strongly_sees n (links G) y)) where
    old_slot : (i : ℕ) → i < length (witnesses_of first r) → has_bit set i ≡ (ltb i (length (witnesses_of later r)) && strongly_sees n (links (G ++ more)) y (get_or (witnesses_of later r) i 0))
    old_slot i inside =
        let w : IsWitnessOf first r (get_or (witnesses_of first r) i 0) = witness_read first r _ (witnesses_of first r) i refl refl inside in
        let place : get_or (witnesses_of first r) i 0 < length (links G) = omega (arith, w.place, length-links G) in
        let there : get_or (witnesses_of later r) i 0 ≡ get_or (witnesses_of first r) i 0 =
        ap (λ ws. get_or ws i 0) (witnesses_go_on r) ∙ get_or_append_left (witnesses_of first r) (new_witnesses r) 0 i inside in
        let all : length (witnesses_of later r) ≡ length (witnesses_of first r) + length (new_witnesses r) = ap (λ (ws : List ℕ). length ws) (witnesses_go_on r) ∙ length-append (witnesses_of first r) (new_witnesses r) in
        held.bits i
        ∙ (ap₂ (λ a b. a && b) (lt-ltb i (length (witnesses_of first r)) inside ∙ sym (lt-ltb i (length (witnesses_of later r)) (omega arith)))
        (sym (ap (strongly_sees n (links (G ++ more)) y) there
        ∙ strongly_sees-longer (links G) (links (G ++ more)) longer n y (get_or (witnesses_of first r) i 0) (omega (arith, length-links G)) place)))

    new_slot : (i : ℕ) → length (witnesses_of first r) ≤ i → has_bit set i ≡ (ltb i (length (witnesses_of later r)) && strongly_sees n (links (G ++ more)) y (get_or (witnesses_of later r) i 0))
    new_slot i past =
        let all : length (witnesses_of later r) ≡ length (witnesses_of first r) + length (new_witnesses r) = ap (λ (ws : List ℕ). length ws) (witnesses_go_on r) ∙ length-append (witnesses_of first r) (new_witnesses r) in
        held.bits i
        ∙ (and_left (ltb i (length (witnesses_of first r))) (strongly_sees n (links G) y (get_or (witnesses_of first r) i 0)) (le-ltb i (length (witnesses_of first r)) past)
        ∙ sym (elim (cases_lt i (length (witnesses_of later r))) [
          | inr over ↦ and_left (ltb i (length (witnesses_of later r))) (strongly_sees n (links (G ++ more)) y (get_or (witnesses_of later r) i 0)) (le-ltb i (length (witnesses_of later r)) over)
          | inl inside ↦
              (let late = (All-from_recursion (IsNewOf r) (new_witnesses r) (new_are_late r) (i - length (witnesses_of first r)) 0 (omega arith)).0 in
              let there : get_or (witnesses_of later r) i 0 ≡ get_or (new_witnesses r) (i - length (witnesses_of first r)) 0 =
              ap (λ ws. get_or ws i 0) (witnesses_go_on r) ∙ get_or-append_right (witnesses_of first r) (new_witnesses r) (length (witnesses_of first r)) i 0 refl past in
              and_right (ltb i (length (witnesses_of later r))) (strongly_sees n (links (G ++ more)) y (get_or (witnesses_of later r) i 0))
              (late_unseen y (get_or (witnesses_of later r) i 0) h (omega (arith, late, there))))
        ]))

    slots_stay : HoldsSlots set (witnesses_of later r) (strongly_sees n (links (G ++ more)) y)
    slots_stay = record {
      bits = λ i. elim (cases_lt i (length (witnesses_of first r))) [ inl inside ↦ old_slot i inside | inr past ↦ new_slot i past ];
    }

  more_witnesses : (r : ℕ) → length (witnesses_of first r) ≤ length (witnesses_of later r)
  more_witnesses r = omega (arith, ap (λ (ws : List ℕ). length ws) (witnesses_go_on r), length-append (witnesses_of first r) (new_witnesses r))

  -- words for the first rows and for the rounds of the new ones are enough
  room_stays : (old most words : ℕ) → HasRoom first old → HasMost later (length G) (length (G ++ more)) most → old ≤ words → most ≤ 64 * words → HasRoom later words
  room_stays old most words room new_most enough fits = record {
    room = λ r.
        let all : length (witnesses_of later r) ≡ length (witnesses_of first r) + length (new_witnesses r) = ap (λ (ws : List ℕ). length ws) (witnesses_go_on r) ∙ length-append (witnesses_of first r) (new_witnesses r) in
        elim (cases_lt 0 (length (new_witnesses r))) [
          | inr none ↦ omega (arith, all, room.room r)
          | inl some ↦
              (let w = All-from_recursion (IsNewOf r) (new_witnesses r) (new_are_late r) 0 0 some in
              omega (arith, new_most (get_or (new_witnesses r) 0 0) (omega (arith, w.0, length-links G)) (omega (arith, w.1, length-links (G ++ more))), ap (λ k. length (witnesses_of later k)) w.2))
        ];
  }

  voters_stay : (y : ℕ) → y < length G → (set : List ℕ) → IsVotersOf first y set → IsVotersOf later y set
  voters_stay y h set voters = record {
    slots = subst (λ r. HoldsSlots set (witnesses_of later (r - 1)) (strongly_sees n (links (G ++ more)) y)) (sym (round_stays y h)) (slots_stay y h set (round_in first y - 1) voters.slots);
    few = omega (arith, voters.few, more_witnesses (round_in first y - 1), ap (λ r. length (witnesses_of later (r - 1))) (round_stays y h));
  }

  entered_in_longer : (entered : Entered) → HoldsVoters first (length G) entered → HoldsVoters later (length G) entered
  entered_in_longer entered held = record {
    long = held.long;
    number = λ y h. held.number y h ∙ sym (number_stays y (omega arith));
    many = held.many ∙ sym (number_stays (length G) (omega arith));
    voters = λ y h witness.
        subst (λ k. IsVotersOf later y (get_or entered.sets k [])) (sym (number_stays y (omega arith)))
        (voters_stay y h (get_or entered.sets (number_of first y) []) (held.voters y h (sym (witness_stays y h) ∙ witness)));
  }

pub entered_later : (first g : Graph) (entered : Entered) → Begins first g → IsShapedIn (shape_in first) → IsShapedIn (shape_in g) → HoldsVoters first (length first.rows) entered → HoldsVoters g (length first.rows) entered
entered_later first g entered begins shaped whole held =
    let n = first.members in
    let more = begins.rows.0 in
    let is : graph_of n first.coin (first.rows ++ more) ≡ g = λ i. graph_of (begins.members i) (begins.coin i) (sym begins.rows.1 i) in
    subst (λ (h : Graph). HoldsVoters h (length first.rows) entered) is
    (entered_in_longer n first.coin first.rows more shaped (subst (λ (h : Graph). IsShapedIn (shape_in h)) (sym is) whole) entered held)

pub room_later : (first g : Graph) (old most words : ℕ) → Begins first g → IsShapedIn (shape_in first) → IsShapedIn (shape_in g) → HasRoom first old → HasMost g (length first.rows) (length g.rows) most →
    old ≤ words → most ≤ 64 * words → HasRoom g words
room_later first g old most words begins shaped whole room new_most enough fits =
    let n = first.members in
    let more = begins.rows.0 in
    let is : graph_of n first.coin (first.rows ++ more) ≡ g = λ i. graph_of (begins.members i) (begins.coin i) (sym begins.rows.1 i) in
    subst (λ (h : Graph). HasRoom h words) is
    (room_stays n first.coin first.rows more shaped (subst (λ (h : Graph). IsShapedIn (shape_in h)) (sym is) whole) old most words room
    (subst (λ (h : Graph). HasMost h (length first.rows) (length h.rows) most) (sym is) new_most) enough fits)

-- the graph without rows
pub begins_empty : (g : Graph) → Begins (graph_of g.members g.coin []) g
begins_empty g = record { members = refl; coin = refl; rows = (g.rows, refl) }

pub begins_itself : (g : Graph) → Begins g g
begins_itself g = record { members = refl; coin = refl; rows = ([], sym (append-nil g.rows)) }

pub carries_on : (counting : Counting) (g more : Graph) → CarriesTo counting g → Begins g more → CarriesTo counting more
carries_on counting g more carries two =
    let one = carries.2 in (
      carries.0,
      carries.1,
      record {
        members = one.members ∙ two.members;
        coin = one.coin ∙ two.coin;
        rows = (one.rows.0 ++ two.rows.0, two.rows.1 ∙ (ap (λ rows. rows ++ two.rows.0) one.rows.1 ∙ append_assoc carries.0.rows one.rows.0 two.rows.0));
      },
    )
