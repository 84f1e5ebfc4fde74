-- What a longer graph decides of the rows that it shares with a shorter one, and of those that it adds
use Rattle.std.proofs.Common.{◌≡◌, ℕ, ◌*◌, ◌<◌, ◌≤◌, Bool, true, false, not, ◌&&◌, leb, eqb, List, length, Some, sym, refl, ◌∙◌, inl, inr, arith}
use Rattle.std.specs.Prelude.{is_none}
use Rattle.std.proofs.lemmas.Bool.{and_parts, and_from, both_ways, cases_lt, eqb-true, eq-eqb, leb-true, false_from_ne_true, not_from_false}
use Rattle.hg_model.specs.Places.{some_below}
use Rattle.hg_model.specs.Stakes.{Stakes, total}
use Rattle.hg_model.specs.Links.{Link}
use Rattle.hg_model.specs.Ancestry.{is_ancestor}
use Rattle.hg_model.specs.Forks.{forking}
use Rattle.hg_model.specs.Rounds.{round_of, is_witness}
use Rattle.hg_model.specs.Votes.{vote_of, decides}
use Rattle.hg_model.specs.Fame.{Marks, mark_at, fame_of, fame_marks, is_witness_of_round, is_unmarked, is_closed}
use Rattle.hg_model.specs.Graph.{IsShaped}
use Rattle.hg_model.proofs.AncestryLaws.{is_ancestor-le}
use Rattle.hg_agree.proofs.AgreeLaws.{deciders_agree}
use Rattle.hg_agree.proofs.LateLaws.{decider_of_fame, fame_of_decider, late_fame, fame_of_mark, mark_of_fame, closed_witness, closed_mark, closed_has_above}
use Rattle.hg_model.proofs.PlacesLaws.{some_below_from, some_below_none}
use Rattle.hg_model.proofs.LongerLaws.{IsLonger, round_of-longer, is_witness-longer, vote_of-longer, decides-longer}

module _ (n : Stakes) (c : ℕ) (L M : List Link) (s : IsShaped n L) (t : IsShaped n M) (few : 3 * forking n M < total n) (longer : IsLonger L M) (one two : ℕ → Bool) (same_coin : (y : ℕ) → y < length L → two y ≡ one y) where
  -- two deciders decide alike, one in the shorter graph and one in the longer
  pub deciders_agree-later : (x a b : ℕ) → x < length L → a < length L → b < length M → decides n c L one x a ≡ true → decides n c M two x b ≡ true →
      vote_of n c L one x a ≡ vote_of n c M two x b
  deciders_agree-later x a b hx ha hb da db =
      let more = longer.more in
      sym (vote_of-longer L M longer n s.earlier c one two same_coin x hx a ha)
      ∙ deciders_agree n M t few c two x a b (omega arith) hb (decides-longer L M longer n s.earlier c one two same_coin x hx a ha ∙ da) db

  -- what a row decides in the shorter graph, it decides in the longer
  pub fame_kept : (x : ℕ) (v : Bool) → fame_of n c L one x ≡ Some v → fame_of n c M two x ≡ Some v
  fame_kept x v is =
      let y = decider_of_fame n c L one x v is in
      let d = y.1 in
      let hx = d.of_row in
      let hy = d.by_row in
      let more = longer.more in
      fame_of_decider n M t few c two x v y.0
      (record {
        of_row = omega arith;
        of_witness = is_witness-longer L M longer n s.earlier x hx ∙ d.of_witness;
        by_row = omega arith;
        decides = decides-longer L M longer n s.earlier c one two same_coin x hx y.0 hy ∙ d.decides;
        vote = vote_of-longer L M longer n s.earlier c one two same_coin x hx y.0 hy ∙ d.vote;
      })

  -- a witness that is added to a closed round, or to an earlier one, is decided not to be famous
  pub late_is_not_famous : (marks : Marks) (r x : ℕ) → ((x : ℕ) (v : Bool) → mark_at marks x ≡ Some v → fame_of n c L one x ≡ Some v) → is_closed n L marks r ≡ true → 2 < c →
      length L ≤ x → x < length M → is_witness n M x ≡ true → round_of n M x ≤ r → fame_of n c M two x ≡ Some false
  late_is_not_famous marks r x marked closed hc late hx wx le =
      let y = closed_has_above n c L one marks r marked closed in
      let more = longer.more in
      let hy : y.0 < length L = y.1 in
      let far = y.3 in
      let same = round_of-longer L M longer n y.0 hy in
      late_fame n M t few c two x y.0 hx (omega arith) hc wx (omega arith)
      (false_from_ne_true (is_ancestor M y.0 x) (λ up. absurd (omega (arith, is_ancestor-le M t.earlier y.0 x up))))

  -- so each witness of the longer graph in such a round is decided
  decided_later : (r x : ℕ) → is_closed n L (fame_marks n c L one) r ≡ true → 2 < c → x < length M → is_witness n M x ≡ true → round_of n M x ≤ r →
      (v : Bool) × (fame_of n c M two x ≡ Some v)
  decided_later r x closed hc hx wx le = elim (cases_lt x (length L)) [
    | inl old ↦
        (let wL = sym (is_witness-longer L M longer n s.earlier x old) ∙ wx in
        let same = round_of-longer L M longer n x old in
        let mark = closed_mark n L (fame_marks n c L one) r closed x old wL (omega arith) in
        (mark.0, fame_kept x mark.0 (fame_of_mark n c L one x mark.0 mark.1)))
    | inr new ↦ (false, late_is_not_famous (fame_marks n c L one) r x (fame_of_mark n c L one) closed hc new hx wx le)
  ]

  -- and the round stays closed
  pub closed_stays : (r : ℕ) → is_closed n L (fame_marks n c L one) r ≡ true → 2 < c → is_closed n M (fame_marks n c M two) r ≡ true
  unfolding is_closed
  closed_stays r closed hc =
      let w = closed_witness n L (fame_marks n c L one) r closed in
      let parts = and_parts (is_witness n L w.0) (eqb (round_of n L w.0) r) w.2 in
      let more = longer.more in
      let inside : w.0 < length L = w.1 in
      let witness = is_witness-longer L M longer n s.earlier w.0 inside ∙ parts.0 in
      let here = round_of-longer L M longer n w.0 inside ∙ eqb-true (round_of n L w.0) r parts.1 in
      let marks = fame_marks n c M two in
      let none : some_below (length M) (is_unmarked n M marks r) ≡ false = some_below_none (length M) (is_unmarked n M marks r) (λ x hx u.
      let un = and_parts (is_witness n M x && leb (round_of n M x) r) (is_none (mark_at marks x)) u in
      let of_x = and_parts (is_witness n M x) (leb (round_of n M x) r) un.0 in
      let v = decided_later r x closed hc hx of_x.0 (leb-true (round_of n M x) r of_x.1) in
      let mark : mark_at marks x ≡ Some v.0 = mark_of_fame n c M two x v.0 hx v.1 in
      both_ways (is_none (mark_at marks x)) (rw mark refl) un.1) in
      and_from (some_below (length M) (is_witness_of_round n M r)) (not (some_below (length M) (is_unmarked n M marks r)))
      (some_below_from (length M) (is_witness_of_round n M r) w.0 (omega arith) (and_from (is_witness n M w.0) (eqb (round_of n M w.0) r) witness (eq-eqb (round_of n M w.0) r here)))
      (not_from_false (some_below (length M) (is_unmarked n M marks r)) none)
