-- What one state decides a later one decides too, and marks once it is published
use Rattle.std.proofs.Common.{◌≡◌, ℕ, ◌+◌, ◌%◌, ◌<◌, ◌≤◌, Bool, true, false, cond, ◌&&◌, ltb, eqb, List, [], ◌∷◌, ◌++◌, length, length-append, take, Option, Some, None, is_some, sym, refl, ap, ap₂, ◌∙◌, subst, arith}
use Rattle.std.specs.Option.{option_or}
use Rattle.std.proofs.Math.Seq.{take-length}
use Rattle.std.proofs.lemmas.Bool.{and_from, and_parts, eqb-true, lt-ltb, ltb-true}
use Rattle.std.proofs.lemmas.List.{append-nil}
use Rattle.hg_model.specs.declared.row.Row.{Row}
use Rattle.hg_model.specs.Stakes.{Stakes}
use Rattle.hg_model.specs.Links.{Link, links}
use Rattle.hg_model.specs.Graph.{IsGraph, IsShaped}
use Rattle.hg_model.specs.Places.{count_below}
use Rattle.hg_model.specs.Rounds.{is_witness}
use Rattle.hg_model.specs.Fame.{Marks, mark_at, fame_of}
use Rattle.hg_model.specs.Order.{coin_at}
use Rattle.hg_model.specs.Orders.{AreFame, IsPrefix}
use Rattle.hg_model.specs.Shares.{Share, early_fame, found_in, is_of_share, share_fame}
use Rattle.hg_life.specs.History.{Change, State, news, new_mark, replay, with_marks}
use Rattle.hg_life.specs.History.Change.{Marked}
use Rattle.hg_life.specs.NodeView.{NodeView, IsNode, node_marks, node_rows, node_state, with_changes, terms_of}
use Rattle.hg_life.specs.Calls.{publish_answer, publish_changes}
use Rattle.hg_life.specs.Signing.{Accepts}
use Rattle.hg_model.proofs.LongerLaws.{IsLonger, is_witness-longer, longer-append}
use Rattle.hg_model.proofs.PlacesLaws.{count_below-le, count_below_zero, list_below_zero, weight_below-same, weight_below_grows}
use Rattle.hg_model.proofs.ShapeLaws.{shaped-shorter}
use Rattle.hg_history.specs.News.{FindsNews}
use Rattle.hg_history.proofs.FoundLaws.{found_is_news, same_first}
use Rattle.hg_history.proofs.MarkLaws.{early_is_fame}
use Rattle.hg_history.proofs.SoundLaws.{IsSound, sound}
use Rattle.hg_history.proofs.StateLaws.{IsEven, even_after, mark_of_table, marks_stay, replay-push, rows_grow}
use Rattle.hg_node.specs.ChronicleView.{marked}
use Rattle.hg_node.proofs.NewsLaws.{marked_news, same_marks}

-- what a share tells of a row is the fame of a row of the share
is_share_fame : (mine : Bool) (fame : Option Bool) (v : Bool) → cond mine fame None ≡ Some v → (mine ≡ true) × (fame ≡ Some v)
is_share_fame true fame v is = (refl, is)
is_share_fame false fame v is = cc

pub some_of : (o : Option Bool) → is_some o ≡ true → (v : Bool) × (o ≡ Some v)
some_of None is = absurd (cc)
some_of (Some v) is = (v, refl)

module _ (n : Stakes) (c : ℕ) (s t : State) (even : IsEven s) (later : IsEven t) (rows : IsPrefix s.rows t.rows) (ties : IsPrefix s.links t.links) where
  within : length s.rows ≤ length t.rows
  within = omega (arith, ap length rows.1, length-append s.rows rows.0)

  -- the first rows of the later state are those of the earlier
  pub early_is : (share : Share) (x : ℕ) → early_fame n c t.rows t.links (length s.rows) share x ≡ share_fame n c s.rows s.links share x
  early_is share x =
      let first : take (length s.rows) t.rows ≡ s.rows = same_first (length s.rows) s.rows t.rows rows (omega arith) ∙ take-length s.rows in
      let tied : take (length s.rows) t.links ≡ s.links =
      same_first (length s.rows) s.links t.links ties (omega (arith, even.links)) ∙ (ap (λ (k : ℕ). take k s.links) (sym even.links) ∙ take-length s.links) in
      ap₂ (λ (G : List Row) (L : List Link). share_fame n c G L share x) first tied

  module _ (g : IsGraph n t.rows) (linked : t.links ≡ links t.rows) where
    longer : IsLonger s.links t.links
    longer = subst (IsLonger s.links) (sym ties.1) (longer-append s.links ties.0)

    still_of_share : (share : Share) (x : ℕ) → is_of_share n s.links share x ≡ true → is_of_share n t.links share x ≡ true
    still_of_share share x is =
        let one = and_parts (ltb x (length s.links) && is_witness n s.links x) (eqb (count_below x (is_witness n s.links) % share.of) share.k) is in
        let two = and_parts (ltb x (length s.links)) (is_witness n s.links x) one.0 in
        let inside : x < length s.links = ltb-true x (length s.links) two.0 in
        let more = longer.more in
        let earlier = (shaped-shorter n s.links t.links longer (subst (λ (L : List Link). IsShaped n L) (sym linked) g.shaped)).earlier in
        let witness : is_witness n t.links x ≡ true = is_witness-longer s.links t.links longer n earlier x inside ∙ two.1 in
        let same : count_below x (is_witness n t.links) ≡ count_below x (is_witness n s.links) =
        weight_below-same (λ _. 1) x (is_witness n t.links) (is_witness n s.links) (λ k low. is_witness-longer s.links t.links longer n earlier k (omega arith)) in
        and_from (ltb x (length t.links) && is_witness n t.links x) (eqb (count_below x (is_witness n t.links) % share.of) share.k)
        (and_from (ltb x (length t.links)) (is_witness n t.links x) (lt-ltb x (length t.links) (omega arith)) witness)
        (ap (λ (k : ℕ). eqb (k % share.of) share.k) same ∙ one.1)

    pub fame_later : (share : Share) (x : ℕ) (v : Bool) → share_fame n c s.rows s.links share x ≡ Some v → fame_of n c t.links (coin_at t.rows) x ≡ Some v
    fame_later share x v is =
        ap (λ (L : List Link). fame_of n c L (coin_at t.rows) x) linked
        ∙ early_is_fame n c t g linked (length s.rows) share within x v (early_is share x ∙ is)

    -- what a share decides it decides later too
    pub share_later : (share : Share) (x : ℕ) (v : Bool) → share_fame n c s.rows s.links share x ≡ Some v → share_fame n c t.rows t.links share x ≡ Some v
    unfolding share_fame
    share_later share x v is =
        let parts = is_share_fame (is_of_share n s.links share x) (fame_of n c s.links (coin_at s.rows) x) v is in
        let fame = fame_later share x v is in
        ap (λ (b : Bool). cond b (fame_of n c t.links (coin_at t.rows) x) None) (still_of_share share x parts.0) ∙ fame

    -- it is a row
    pub share_inside : (share : Share) (x : ℕ) (v : Bool) → share_fame n c s.rows s.links share x ≡ Some v → x < length t.rows
    unfolding share_fame
    share_inside share x v is =
        let parts = is_share_fame (is_of_share n s.links share x) (fame_of n c s.links (coin_at s.rows) x) v is in
        let one = and_parts (ltb x (length s.links) && is_witness n s.links x) (eqb (count_below x (is_witness n s.links) % share.of) share.k) parts.0 in
        let two = and_parts (ltb x (length s.links)) (is_witness n s.links x) one.0 in
        let inside : x < length s.links = ltb-true x (length s.links) two.0 in
        omega (arith, inside, even.links, within)

    marked_as : (mark fame : Option Bool) (v : Bool) → fame ≡ Some v → ((w : Bool) → mark ≡ Some w → w ≡ v) → option_or mark fame ≡ Some v
    marked_as None fame v is alike = is
    marked_as (Some w) fame v is alike = ap (λ (b : Bool). Some b) (alike w refl)

    -- and once that is published, it has its mark
    pub published_later : AreFame n c t.rows t.marks → (share : Share) (x : ℕ) (v : Bool) → share_fame n c s.rows s.links share x ≡ Some v →
        mark_at (with_marks n c t (length s.rows) share).marks x ≡ Some v
    published_later fame share x v is =
        let early : early_fame n c t.rows t.links (length s.rows) share x ≡ Some v = early_is share x ∙ is in
        let whole = early_is_fame n c t g linked (length s.rows) share within x v early in
        mark_of_table (new_mark n c t (length s.rows) share) (length t.rows) x (share_inside share x v is)
        ∙ marked_as (mark_at t.marks x) (early_fame n c t.rows t.links (length s.rows) share x) v early
        (λ w mark. (let same : Some w ≡ Some v = sym (fame.fame x w mark) ∙ whole in cc))

-- a history that goes on keeps its marks
pub marked_later : (n : Stakes) (c : ℕ) (a b : List Change) → marked (replay n c a).marks ≤ marked (replay n c (a ++ b)).marks
unfolding marked
marked_later n c a b =
    let s = replay n c a in
    let t = replay n c (a ++ b) in
    let one = even_after n c a in
    let two = even_after n c (a ++ b) in
    let rows = rows_grow n c a b in
    weight_below_grows (λ _. 1) (length s.marks) (length t.marks) (λ x. is_some (mark_at s.marks x)) (λ x. is_some (mark_at t.marks x))
    (omega (arith, one.marks, two.marks, ap length rows.1, length-append s.rows rows.0))
    (λ x low is. (let mark = some_of (mark_at s.marks x) is in ap is_some (marks_stay n c a b x mark.0 mark.1)))

module _ {K : Type 0} (accepts : K → Accepts) (v : NodeView K) (node : IsNode accepts v) where
  pub node_sound : IsSound (terms_of accepts v.start) v.start.members v.start.coin v.start.own (node_state v)
  node_sound = sound (terms_of accepts v.start) v.start.members v.start.coin v.start.own v.history node.coin node.history

  -- a node has few marks
  pub few_marks : marked (node_marks v) ≤ 1048576
  unfolding marked
  few_marks =
      let s = node_sound in
      let limit = node.limit in
      omega (arith, limit, count_below-le (length (node_marks v)) (λ x. is_some (mark_at (node_marks v) x)), s.even.marks, s.few)

-- what a publication leaves as marks
module _ {K : Type 0} (v : NodeView K) (len : ℕ) (share : Share) (within : len ≤ length (node_rows v)) where
  even : IsEven (node_state v)
  even = even_after v.start.members v.start.coin v.history

  marks_by : (b : Bool) → eqb (publish_answer v len share) 0 ≡ b →
      node_marks (with_changes v (cond b [] (Marked len share ∷ []))) ≡ (with_marks v.start.members v.start.coin (node_state v) len share).marks
  unfolding publish_answer
  marks_by true none =
      ap (λ (h : List Change). (replay v.start.members v.start.coin h).marks) (append-nil v.history)
      ∙ sym (same_marks v.start.members v.start.coin (node_state v) even len share within (eqb-true (publish_answer v len share) 0 none))
  marks_by false some = ap (λ (s : State). s.marks) (replay-push v.start.members v.start.coin v.history (Marked len share))

  pub published_marks : node_marks (with_changes v (publish_changes v len share)) ≡ (with_marks v.start.members v.start.coin (node_state v) len share).marks
  unfolding publish_changes
  published_marks = marks_by (eqb (publish_answer v len share) 0) refl

  -- so many more
  pub published_more : marked (node_marks v) + publish_answer v len share ≤ marked (node_marks (with_changes v (publish_changes v len share)))
  unfolding publish_answer
  published_more =
      subst (λ (marks : Marks). marked (node_marks v) + news v.start.members v.start.coin (node_state v) len share ≤ marked marks) (sym published_marks)
      (marked_news v.start.members v.start.coin (node_state v) even len share within)

-- no share finds anything in no rows, and to publish that marks none

pub nothing_found : (n : Stakes) (c : ℕ) (s : State) (share : Share) (marks : List (ℕ × Bool)) → marks ≡ [] → FindsNews n c s 0 share marks
unfolding found_in
nothing_found n c s share marks none = found_is_news n c s 0 share marks (record { within = omega arith; matches = none ∙ sym (list_below_zero _ _) })

pub nothing_published : {K : Type 0} (v : NodeView K) (share : Share) → publish_answer v 0 share ≡ 0
unfolding publish_answer news
nothing_published v share = count_below_zero _
