use Rattle.std.proofs.Common.{◌≡◌, ◌∙◌, ◌&&◌, ◌||◌, eqb, nat_lt, max, true, false, sym, ap, ap₂}
use Rattle.std.proofs.Math.Bool.{or-false}
use Rattle.std.proofs.lemmas.Bool.{lt-ltb, le-ltb}
use Rattle.hg_bits.proofs.MaskLaws.{mask_none}
use Rattle.hg_branches.specs.Branches.{greatest_count}
use Rattle.hg_branches.specs.Columns.{count_in, joined_counts}
use Rattle.hg_branches.proofs.forks.own_fork.Goals as goal

pub returns-then-most-at : goal.returns-then-most-at
returns-then-most-at c = λ m.
    let by = c.args.by in
    let rows = c.args.counts.now.rows in
    let here : c.greatest-most.result ≡ joined_counts rows c.args.first c.args.others.now by = c.greatest-most.ensures
    ∙ (ap (λ n. max n (greatest_count (count_in rows) c.args.others.now c.from-own.result)) c.at.ensures ∙ ap (joined_counts rows c.args.first c.args.others.now) c.from-own.ensures) in
    let more : nat_lt (joined_counts rows c.args.first c.args.others.now by) (count_in rows c.args.next by) ≡ true =
    sym (ap₂ (λ a b. nat_lt a b) here (c.at-2.ensures ∙ ap (count_in rows c.args.next) c.from-own.ensures)) ∙ lt-ltb c.greatest-most.result c.at-2.result c.if-most-at.true in
    c.with_member.ensures m ∙ (ap (λ b. eqb m by || b) (mask_none m) ∙ (or-false (eqb m by) ∙ sym (ap (λ b. b && eqb m by) more)))

pub returns-else-most-at : goal.returns-else-most-at
returns-else-most-at c = λ m.
    let by = c.args.by in
    let rows = c.args.counts.now.rows in
    let here : c.greatest-most.result ≡ joined_counts rows c.args.first c.args.others.now by = c.greatest-most.ensures
    ∙ (ap (λ n. max n (greatest_count (count_in rows) c.args.others.now c.from-own.result)) c.at.ensures ∙ ap (joined_counts rows c.args.first c.args.others.now) c.from-own.ensures) in
    let none : nat_lt (joined_counts rows c.args.first c.args.others.now by) (count_in rows c.args.next by) ≡ false =
    sym (ap₂ (λ a b. nat_lt a b) here (c.at-2.ensures ∙ ap (count_in rows c.args.next) c.from-own.ensures)) ∙ le-ltb c.greatest-most.result c.at-2.result c.if-most-at.false in
    mask_none m ∙ sym (ap (λ b. b && eqb m by) none)
