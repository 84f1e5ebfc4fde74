use Rattle.std.proofs.Common.{◌≡◌, ◌∙◌, ◌+◌, ◌*◌, ◌<◌, ◌≤◌, ℕ, List, true, false, take, ap, ap₂, sym, arith}
use Rattle.std.proofs.lemmas.Bool.{ltb-true, lt-ltb}
use Rattle.hg_model.specs.Counts.{numbers_of}
use Rattle.hg_model.specs.Stakes.{Stakes, member_count, stake_of, stake_where, total}
use Rattle.hg_model.specs.Seeing.{is_supermajority}
use Rattle.hg_model.proofs.PlacesLaws.{weight_below-le, weight_below-same}
use Rattle.hg_bits.specs.Lanes.{is_at_least}
use Rattle.hg_bits.specs.Masks.{mask_has}
use Rattle.hg_branches.specs.Lines.{own_sees, others_see}
use Rattle.hg_branches.proofs.ReachedLaws.{own_taken}
use Rattle.hg_branches.proofs.SeveralLaws.{not_more, others_within}
use Rattle.hg_branches.proofs.seeing.strong_by_firsts.Goals as goal

more : (all own beside : ℕ) → is_supermajority all own ≡ true → is_supermajority all (own + beside) ≡ true
more all own beside enough =
    let over : 2 * all < 3 * own = ltb-true (2 * all) (3 * own) enough in
    lt-ltb (2 * all) (3 * (own + beside)) (omega arith)

-- what the comparison of the own branches weighs
own_weight : (n stakes : Stakes) (firsts row own : List ℕ) (members result : ℕ) → result ≡ stake_where stakes (is_at_least own firsts) → stakes ≡ n → own ≡ take members row → members ≡ member_count n →
    result ≡ stake_where n (own_sees firsts row)
own_weight n stakes firsts row own members result value same taken wide =
    value
    ∙ (ap₂ (λ (s : Stakes) (r : List ℕ). stake_where s (is_at_least r firsts)) same (taken ∙ ap (λ k. take k row) wide)
    ∙ own_taken n firsts row)

pub returns-then-is_over : goal.returns-then-is_over
returns-then-is_over c =
    let n : Stakes = c.args.sight.now.shape.members in
    let firsts = numbers_of c.args.firsts in
    let row = c.args.counts.now.row in
    let own = own_weight n c.stakes-stakes.result.now firsts row (numbers_of c.own.result) c.args.counts.now.members c.weigh_counts-own.result c.weigh_counts-own.ensures.value c.stakes-stakes.ensures c.own.ensures.value
    (sym c.requires.wide ∙ c.requires.all) in
    let beside : ℕ = stake_where n (others_see c.args.sight.now.shape.links c.args.makers.now firsts row c.args.y) in
    let enough : is_supermajority (total n) (stake_where n (own_sees firsts row)) ≡ true =
    ap₂ (λ (s : Stakes) (w : ℕ). is_supermajority (total s) w) (sym c.stakes-stakes.ensures) (sym own) ∙ (sym c.is_over.ensures ∙ c.if-is_over.true) in
    sym (more (total n) (stake_where n (own_sees firsts row)) beside enough)

pub returns-then-not-is_over : goal.returns-then-not-is_over
returns-then-not-is_over c =
    let n : Stakes = c.args.sight.now.shape.members in
    let firsts = numbers_of c.args.firsts in
    let row = c.args.counts.now.row in
    let own = own_weight n c.stakes-stakes.result.now firsts row (numbers_of c.own.result) c.args.counts.now.members c.weigh_counts-own.result c.weigh_counts-own.ensures.value c.stakes-stakes.ensures c.own.ensures.value
    (sym c.requires.wide ∙ c.requires.all) in
    let seen = others_see c.args.sight.now.shape.links c.args.makers.now firsts row c.args.y in
    let several : c.weigh.result ≡ stake_where n (mask_has c.args.several) =
    c.weigh.ensures.value ∙ ap (λ (s : Stakes). stake_where s (mask_has c.args.several)) c.stakes-stakes.ensures in
    let within : stake_where n seen ≤ stake_where n (mask_has c.args.several) =
    weight_below-le (stake_of n) (member_count n) seen (mask_has c.args.several)
    (λ m member h. others_within c.args.sight.now.shape.links c.args.makers.now firsts row c.args.y c.args.several c.requires.several m h) in
    let little : is_supermajority (total n) (c.weigh_counts-own.result + c.weigh.result) ≡ false =
    ap (λ (s : Stakes). is_supermajority (total s) (c.weigh_counts-own.result + c.weigh.result)) (sym c.stakes-stakes.ensures) ∙ (sym c.is_over-2.ensures ∙ c.if-not-is_over.true) in
    sym (not_more (total n) (stake_where n (own_sees firsts row) + stake_where n seen) (c.weigh_counts-own.result + c.weigh.result) (omega (arith, own, several, within)) little)

pub returns : goal.returns
returns c =
    let n : Stakes = c.args.sight.now.shape.members in
    let firsts = numbers_of c.args.firsts in
    let row = c.args.counts.now.row in
    let own = own_weight n c.stakes-stakes.result.now firsts row (numbers_of c.own.result) c.args.counts.now.members c.weigh_counts-own.result c.weigh_counts-own.ensures.value c.stakes-stakes.ensures c.own.ensures.value
    (sym c.requires.wide ∙ c.requires.all) in
    let seen = others_see c.args.sight.now.shape.links c.args.makers.now firsts row c.args.y in
    let beside : c.weigh-beside.result ≡ stake_where n seen =
    c.weigh-beside.ensures.value
    ∙ (ap (λ (s : Stakes). stake_where s (mask_has c.others.result)) c.stakes-stakes.ensures
    ∙ weight_below-same (stake_of n) (member_count n) (mask_has c.others.result) seen (λ m member. c.others.ensures m)) in
    c.is_over-3.ensures
    ∙ (ap (λ (s : Stakes). is_supermajority (total s) (c.weigh_counts-own.result + c.weigh-beside.result)) c.stakes-stakes.ensures
    ∙ ap₂ (λ (a b : ℕ). is_supermajority (total n) (a + b)) own beside)
