-- What a share finds, row by row
use Rattle.std.proofs.Common.{◌≡◌, ℕ, ◌+◌, ◌<◌, ◌≤◌, ◌%◌, Bool, true, false, cond, ◌&&◌, ltb, eqb, List, [], ◌∷◌, ◌++◌, length, take, get_or, Option, Some, None, is_some, option_map, IsTrue, sym, ap, ap₂, ◌∙◌, arith, lt-ltb}
use Rattle.std.specs.List.{cons_option, filter_map}
use Rattle.std.proofs.Math.Seq.{take-length}
use Rattle.std.proofs.lemmas.List.{append-nil, take_all, take_more}
use Rattle.std.proofs.lemmas.List.Elements.{filter_map-append}
use Rattle.std.proofs.lemmas.Bool.{and_from, and_left, and_right, ne_eqb, eq-eqb}
use Rattle.hg_model.specs.Places.{count_below, list_below}
use Rattle.hg_model.specs.Rounds.{is_witness}
use Rattle.hg_model.specs.Fame.{fame_of, is_yes}
use Rattle.hg_model.specs.Order.{coin_at}
use Rattle.hg_model.specs.Prefix.{Graph, links_of}
use Rattle.hg_model.specs.GraphWords.{fame_in}
use Rattle.hg_model.specs.Shares.{Share, Speaks, is_of_share, share_fame, found_in}
use Rattle.hg_model.proofs.LinkLaws.{length-links}
use Rattle.hg_fame.specs.Decisions.{fame_within, fames_among}
use Rattle.hg_model.proofs.PlacesLaws.{count_below_zero, count_below_passes, count_below_fails, list_below_zero, list_below_passes, list_below_fails}

-- the fame of x for a share of this graph
abbrev pub fame_for : Graph → Share → ℕ → Option Bool
fame_for g share x = share_fame g.members g.coin g.rows (links_of g) share x

-- what the share finds among the rows below k
abbrev pub found_below : Graph → Share → ℕ → List (ℕ × Bool)
found_below g share k = list_below (λ x. (x, is_yes (fame_for g share x))) k (λ x. is_some (fame_for g share x))

pub found_none : (g : Graph) (share : Share) → found_below g share 0 ≡ []
found_none g share = list_below_zero (λ x. (x, is_yes (fame_for g share x))) (λ x. is_some (fame_for g share x))

pub found_more : (g : Graph) (share : Share) (x : ℕ) (fame : Bool) → Some fame ≡ fame_for g share x → found_below g share (x + 1) ≡ found_below g share x ++ (x, fame) ∷ []
found_more g share x fame is =
    list_below_passes (λ x. (x, is_yes (fame_for g share x))) x (λ x. is_some (fame_for g share x)) (ap is_some (sym is))
    ∙ ap (λ f. found_below g share x ++ (x, is_yes f) ∷ []) (sym is)

pub found_same : (g : Graph) (share : Share) (x : ℕ) → None ≡ fame_for g share x → found_below g share (x + 1) ≡ found_below g share x
found_same g share x is = list_below_fails (λ x. (x, is_yes (fame_for g share x))) x (λ x. is_some (fame_for g share x)) (ap is_some (sym is))

-- a row that is no witness is of no share
pub no_fame_other : (g : Graph) (share : Share) (x : ℕ) → is_witness g.members (links_of g) x ≡ false → None ≡ fame_for g share x
unfolding share_fame
no_fame_other g share x other =
    let n = g.members in
    let L = links_of g in
    let none : is_of_share n L share x ≡ false = and_left (ltb x (length L) && is_witness n L x) _ (and_right (ltb x (length L)) (is_witness n L x) other) in
    sym (ap (λ b. cond b (fame_of n g.coin L (coin_at g.rows) x) None) none)

pub fame_of_share : (g : Graph) (share : Share) (x index : ℕ) → x < length g.rows → IsTrue (is_witness g.members (links_of g) x) → index ≡ count_below x (is_witness g.members (links_of g)) →
    index % share.of ≡ share.k → fame_of g.members g.coin (links_of g) (coin_at g.rows) x ≡ fame_for g share x
unfolding share_fame
fame_of_share g share x index place witness is here =
    let n = g.members in
    let L = links_of g in
    let of_share : is_of_share n L share x ≡ true =
    and_from (ltb x (length L) && is_witness n L x) (eqb (count_below x (is_witness n L) % share.of) share.k) (and_from (ltb x (length L)) (is_witness n L x) (lt-ltb x (length L) (omega (arith, length-links g.rows))) witness)
    (eq-eqb (count_below x (is_witness n L) % share.of) share.k (ap (λ i. i % share.of) (sym is) ∙ here)) in
    sym (ap (λ b. cond b (fame_of n g.coin L (coin_at g.rows) x) None) of_share)

pub no_fame_of_others : (g : Graph) (share : Share) (x index : ℕ) → index ≡ count_below x (is_witness g.members (links_of g)) → (index % share.of ≡ share.k → ⊥) → None ≡ fame_for g share x
unfolding share_fame
no_fame_of_others g share x index is apart =
    let n = g.members in
    let L = links_of g in
    let none : is_of_share n L share x ≡ false =
    and_right (ltb x (length L) && is_witness n L x) _ (ne_eqb (count_below x (is_witness n L) % share.of) share.k (λ same. apart (ap (λ i. i % share.of) is ∙ same))) in
    sym (ap (λ b. cond b (fame_of n g.coin L (coin_at g.rows) x) None) none)

-- all rows
pub speaks_of : (g : Graph) (share : Share) (k : ℕ) (marks : List (ℕ × Bool)) → marks ≡ found_below g share k → k ≡ length g.rows → Speaks g.members g.coin g.rows (links_of g) k share marks
unfolding found_in
speaks_of g share k marks is all =
    let rows_all : take k g.rows ≡ g.rows = ap (λ j. take j g.rows) all ∙ take-length g.rows in
    let links_long : k ≡ length (links_of g) = all ∙ sym (length-links g.rows) in
    let links_all : take k (links_of g) ≡ links_of g = ap (λ j. take j (links_of g)) links_long ∙ take-length (links_of g) in
    record {
      within = omega arith;
      matches = is ∙ (ap (found_below g share) links_long ∙ ap₂ (λ G L. found_in g.members g.coin G L share) (sym rows_all) (sym links_all));
    }

-- The fames among places

fames_next : (fame : ℕ → Option Bool) (places : List ℕ) (i : ℕ) (found : Option Bool) → i < length places → found ≡ fame (get_or places i 0) →
    fames_among fame (take (i + 1) places) ≡ fames_among fame (take i places) ++ cons_option (option_map (λ (v : Bool). (get_or places i 0, v)) found) []
fames_next fame places i found h is =
    let one : ℕ → Option (ℕ × Bool) = λ x. option_map (λ (v : Bool). (x, v)) (fame x) in
    ap (filter_map one) (take_more places i 0 h)
    ∙ (filter_map-append one (take i places) (get_or places i 0 ∷ [])
    ∙ ap (λ f. fames_among fame (take i places) ++ cons_option (option_map (λ (v : Bool). (get_or places i 0, v)) f) []) (sym is))

pub fames_some : (fame : ℕ → Option Bool) (places : List ℕ) (i : ℕ) (v : Bool) → i < length places → Some v ≡ fame (get_or places i 0) →
    fames_among fame (take (i + 1) places) ≡ fames_among fame (take i places) ++ (get_or places i 0, v) ∷ []
fames_some fame places i v h is = fames_next fame places i (Some v) h is

pub fames_none : (fame : ℕ → Option Bool) (places : List ℕ) (i : ℕ) → i < length places → None ≡ fame (get_or places i 0) → fames_among fame (take (i + 1) places) ≡ fames_among fame (take i places)
fames_none fame places i h is = fames_next fame places i None h is ∙ append-nil (fames_among fame (take i places))

-- of all places
pub fames_all : (fame : ℕ → Option Bool) (places : List ℕ) (i : ℕ) → length places ≤ i → fames_among fame (take i places) ≡ fames_among fame places
fames_all fame places i all = ap (fames_among fame) (take_all i places all)

-- where the first rows are all
pub whole_fames : (g : Graph) (len : ℕ) (places : List ℕ) → len ≡ length g.rows → fames_among (fame_within g len) places ≡ fames_among (fame_in g) places
whole_fames g len places all =
    ap₂ (λ L G. fames_among (λ x. fame_of g.members g.coin L (coin_at G) x) places)
    (take_all len (links_of g) (omega (arith, length-links g.rows))) (take_all len g.rows (omega arith))

pub ruleset share_steps = (found_none, found_more, found_same, no_fame_other, count_below_zero, count_below_passes, count_below_fails)
