-- Which rows wait, and how a round parts them: where each member's rows are in one line, by one number a member
use Rattle.std.proofs.Common.{◌≡◌, inl, inr, ℕ, ◌+◌, ◌<◌, ◌≤◌, Bool, true, false, cond, ◌&&◌, not, max, leb, ltb, List, [], ◌∷◌, ◌++◌, length, get_or, sym, refl, ap, ap₂, ◌∙◌, subst, arith}
use Rattle.std.specs.Prelude.{All, filter}
use Rattle.std.specs.List.{AllByRecursion, list_all}
use Rattle.std.proofs.lemmas.Bool.{cases_lt, and_parts, false_from_ne_true, le-leb, lt-leb, le-ltb, lt-ltb}
use Rattle.std.proofs.lemmas.Bool.Decides.{nat_tests}
use Rattle.std.proofs.Math.Bool.{and-true, and-false}
use Rattle.std.proofs.lemmas.List.Elements.{All-from_recursion}
use Rattle.hg_model.specs.Places.{list_below, IsEarlier}
use Rattle.hg_model.specs.Stakes.{member_count}
use Rattle.hg_model.specs.Links.{Link, creator, parents}
use Rattle.hg_model.specs.Ancestry.{is_ancestor}
use Rattle.hg_model.specs.Graph.{IsShaped}
use Rattle.hg_model.specs.Fame.{is_unique_famous}
use Rattle.hg_model.specs.Order.{famous_places}
use Rattle.hg_model.specs.Prefix.{Graph, links_of}
use Rattle.hg_model.proofs.AncestryLaws.{is_ancestor-le}
use Rattle.hg_model.proofs.ListLaws.{all_list_below, filter-list_below, length-list_below-le}
use Rattle.hg_model.proofs.LongerLaws.{IsLonger, creator-longer}
use Rattle.hg_model.proofs.PlacesLaws.{list_below-same, list_below-longer, list_below_zero, list_below_passes, list_below_fails}
use Rattle.hg_order.specs.Famous.{AreFamous, all_have}
use Rattle.hg_kept.specs.Waiting.{Waiting, AreWaiting, HasWaiting, AreRaised, ListsTo, is_newly_below}
use Rattle.hg_kept.specs.Receiving.{Parted, Receives, AreLeastEnds, others_of}

-- the same rows wait by the same test
pub waiting_same : (L : List Link) (w : Waiting) (one two : ℕ → Bool) → ((x : ℕ) → x < length L → one x ≡ two x) → AreWaiting L w one → AreWaiting L w two
waiting_same L w one two same are = record {
  looked = are.looked;
  below = are.below ∙ list_below-same (λ x. x) (λ x. x) w.looked one two (λ x low. same x (let le = are.looked in omega arith)) (λ x low is. refl);
  above = λ x high inside. sym (same x inside) ∙ are.above x high inside;
  ends = are.ends;
}

-- and all rows that come
pub waiting_longer : (L M : List Link) → IsLonger L M → (w : Waiting) (one two : ℕ → Bool) → ((x : ℕ) → x < length L → one x ≡ two x) → ((x : ℕ) → length L ≤ x → x < length M → two x ≡ true) →
    AreWaiting L w one → AreWaiting M w two
waiting_longer L M longer w one two same comes are = record {
  looked = (let le = are.looked in let more = longer.more in omega arith);
  below = are.below ∙ list_below-same (λ x. x) (λ x. x) w.looked one two (λ x low. same x (let le = are.looked in omega arith)) (λ x low is. refl);
  above = λ x high inside. elim (cases_lt x (length L)) [
    | inl old ↦ sym (same x old) ∙ (are.above x high old ∙ ap (λ (m : ℕ). leb (get_or w.ends m 0) x) (sym (creator-longer L M longer x old)))
    | inr late ↦ comes x late inside ∙ sym (le-leb (get_or w.ends (creator M x) 0) x (let le = are.ends (creator M x) in omega arith))
  ];
  ends = λ m. (let le = are.ends m in let more = longer.more in omega arith);
}

-- where no row is listed, and just the rows below these numbers are below all of these: the rows that a round receives are
-- those from the ends up to below the numbers, and its ends the greater of both

past_both : (a b x : ℕ) (w h : Bool) → w ≡ leb a x → ltb x b ≡ h → leb (max a b) x ≡ (w && not h)
past_both a b x w h is just = rw (is, ← just) (tests a b x)
  where
    tests : (a b x : ℕ) → leb (max a b) x ≡ (leb a x && not (ltb x b))
    tests a b x = grind (arith, nat_tests)

pub parted_by_ends : (g : Graph) → IsShaped g.members (links_of g) → (famous least : List ℕ) (old : Waiting) (new : Parted) → AreLeastEnds g famous least → old.looked ≡ 0 →
    new.waiting.looked ≡ old.looked → new.waiting.places ≡ old.places → AreRaised (member_count g.members) old.ends least new.waiting.ends →
    new.fresh ≡ list_below (λ x. x) (length (links_of g)) (is_newly_below (links_of g) old.ends least) → Receives g famous old new
parted_by_ends g s famous least old new are none looked places raised fresh waits w = let L = links_of g in record {
  fresh = fresh ∙ list_below-same (λ x. x) (λ x. x) (length L) (is_newly_below L old.ends least) (λ x. waits x && all_have L famous x)
      (λ x inside. ap₂ (λ (a b : Bool). a && b) (sym (w.above x (omega arith) inside)) (are.just x inside)) (λ x inside is. refl);
  left = record {
    looked = omega (arith, looked, none);
    below = places ∙ (w.below ∙ (ap (λ (k : ℕ). list_below (λ x. x) k waits) none ∙ (list_below_zero (λ x. x) waits
        ∙ sym (ap (λ (k : ℕ). list_below (λ x. x) k (λ x. waits x && not (all_have L famous x))) (looked ∙ none) ∙ list_below_zero (λ x. x) (λ x. waits x && not (all_have L famous x))))));
    above = λ x high inside.
        let m = creator L x in
        let by : ltb m (member_count g.members) ≡ true = lt-ltb m (member_count g.members) (s.members x inside) in
        let is : get_or new.waiting.ends m 0 ≡ max (get_or old.ends m 0) (get_or least m 0) = raised m ∙ ap (λ (b : Bool). cond b (max (get_or old.ends m 0) (get_or least m 0)) (get_or old.ends m 0)) by in
        sym (ap (λ (k : ℕ). leb k x) is ∙ past_both (get_or old.ends m 0) (get_or least m 0) x (waits x) (all_have L famous x) (w.above x (omega arith) inside) (are.just x inside));
    ends = λ m. elim (cases_lt m (member_count g.members)) [
      | inl by ↦
          (let is = raised m ∙ ap (λ (b : Bool). cond b (max (get_or old.ends m 0) (get_or least m 0)) (get_or old.ends m 0)) (lt-ltb m (member_count g.members) by) in
          let one = w.ends m in
          let two = are.lines.within m by in
          rw is (omega arith))
      | inr past ↦
          (let is = raised m ∙ ap (λ (b : Bool). cond b (max (get_or old.ends m 0) (get_or least m 0)) (get_or old.ends m 0)) (le-ltb m (member_count g.members) past) in
          rw is (w.ends m))
    ];
  };
}

-- where rows are listed

module _ (L : List Link) (ends : List ℕ) (looked x : ℕ) (order : looked ≤ x) (old now : List ℕ) (lists : ListsTo L ends looked x old now) (m : ℕ) (by : m ≡ creator L x) where
  pub lists_yes : get_or ends m 0 ≤ x → ListsTo L ends looked (x + 1) old (now ++ x ∷ [])
  lists_yes past waits start above =
      let is : waits x ≡ true = above x order (omega arith) ∙ le-leb (get_or ends (creator L x) 0) x (rw (← by) past) in
      ap (λ (xs : List ℕ). xs ++ x ∷ []) (lists waits start (λ k high low. above k high (omega arith))) ∙ sym (list_below_passes (λ x. x) x waits is)

  pub lists_no : x < get_or ends m 0 → ListsTo L ends looked (x + 1) old now
  lists_no under waits start above =
      let is : waits x ≡ false = above x order (omega arith) ∙ lt-leb (get_or ends (creator L x) 0) x (rw (← by) under) in
      lists waits start (λ k high low. above k high (omega arith)) ∙ sym (list_below_fails (λ x. x) x waits is)

-- the first unique famous witness is a row
pub famous_first : (g : Graph) (famous : List ℕ) → AreFamous g famous → 0 < length famous → get_or famous 0 0 < length (links_of g)
unfolding famous_places
famous_first g famous are some =
    let L = links_of g in
    All-from_recursion (λ x. x < length L) famous
    (subst (AllByRecursion (λ x. x < length L)) (sym are.are) (all_list_below (λ x. x < length L) (λ x. x) (length L) (is_unique_famous g.members L are.marks are.round) (λ x inside passes. inside)))
    0 0 some

module _ (L : List Link) (w : Waiting) (has : HasWaiting L w) where
  pub places_few : length w.places ≤ w.looked
  places_few = (let e = ap length has.are.below in omega (arith, length-list_below-le (λ x. x) w.looked has.waits))

  -- once they are listed up to `end` all are rows
  pub listed_inside : («end» : ℕ) (listed : List ℕ) → w.looked ≤ «end» → «end» ≤ length L → ListsTo L w.ends w.looked «end» w.places listed → All (λ x. x < length L) listed
  listed_inside «end» listed order inside lists =
      let is = lists has.waits has.are.below (λ x high low. has.are.above x high (omega arith)) in
      All-from_recursion (λ x. x < length L) listed
      (subst (AllByRecursion (λ x. x < length L)) (sym is) (all_list_below (λ x. x < length L) (λ x. x) «end» has.waits (λ x low passes. omega arith)))

  pub listed_few : («end» : ℕ) (listed : List ℕ) → «end» ≤ length L → ListsTo L w.ends w.looked «end» w.places listed → length listed ≤ «end»
  listed_few «end» listed inside lists =
      let is = lists has.waits has.are.below (λ x high low. has.are.above x high (omega arith)) in
      (let e = ap length is in omega (arith, length-list_below-le (λ x. x) «end» has.waits))

has_first : (L : List Link) (ws : List ℕ) (x : ℕ) → 0 < length ws → all_have L ws x ≡ true → is_ancestor L (get_or ws 0 0) x ≡ true
has_first L [] x pos all = absurd (omega arith)
has_first L (y ∷ ys) x pos all = (and_parts (is_ancestor L y x) (list_all (λ z. is_ancestor L z x) ys) all).0

-- no row after the first of them is received
past_first : (L : List Link) → IsEarlier (parents L) → (famous : List ℕ) → 0 < length famous → (x : ℕ) → get_or famous 0 0 < x → all_have L famous x ≡ false
past_first L e famous some x past = false_from_ne_true (all_have L famous x) (λ all.
    let low = is_ancestor-le L e (get_or famous 0 0) x (has_first L famous x some all) in
    omega arith)

pub parted_by_list : (g : Graph) → IsEarlier (parents (links_of g)) → (famous : List ℕ) → 0 < length famous → get_or famous 0 0 < length (links_of g) →
    (old : Waiting) (listed : List ℕ) (new : Parted) → new.waiting.looked ≡ max old.looked (get_or famous 0 0 + 1) → new.waiting.ends ≡ old.ends →
    ListsTo (links_of g) old.ends old.looked new.waiting.looked old.places listed → new.fresh ≡ filter (all_have (links_of g) famous) listed → new.waiting.places ≡ others_of g famous listed →
    Receives g famous old new
parted_by_list g e famous some first old listed new looked ends lists fresh places waits w =
    let L = links_of g in
    let order = w.looked in
    let is = lists waits w.below (λ x high low. w.above x high (omega arith)) in record {
      fresh =
          fresh
          ∙ (ap (filter (all_have L famous)) is
          ∙ (filter-list_below (all_have L famous) (λ x. x) new.waiting.looked waits
          ∙ sym (list_below-longer (λ x. x) new.waiting.looked (length L) (λ x. waits x && all_have L famous x) (omega arith)
          (λ x high low. ap (λ (b : Bool). waits x && b) (past_first L e famous some x (omega arith)) ∙ and-false (waits x)))));
      left = record {
        looked = omega arith;
        below = places ∙ (ap (filter (λ x. not (all_have L famous x))) is ∙ filter-list_below (λ x. not (all_have L famous x)) (λ x. x) new.waiting.looked waits);
        above = λ x high inside.
            ap (λ (b : Bool). waits x && not b) (past_first L e famous some x (omega arith))
            ∙ (and-true (waits x) ∙ (w.above x (omega arith) inside ∙ ap (λ (ends : List ℕ). leb (get_or ends (creator L x) 0) x) (sym ends)));
        ends = λ m. rw ends (w.ends m);
      };
    }
