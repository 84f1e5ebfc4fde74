use Rattle.std.proofs.Common.{◌≡◌, ◌∙◌, ◌-◌, ap, ap₂, arith, ltb}
use Rattle.std.specs.List.{list_all}
use Rattle.hg_model.specs.Links.{first_place}
use Rattle.hg_model.specs.Rounds.{parent_round}
use Rattle.hg_model.specs.Standings.{round_at}
use Rattle.hg_rounds.specs.Tabled.{last_parents, seen_weight}
use Rattle.hg_rounds.proofs.PlaceLaws.{parents_known, witnesses_below, greatest_fits, last_round_known, last_witness_known, first_known, next_known, whole_known}
use Rattle.hg_rounds.proofs.place.place_round.Goals as goal

pub parent_round-greatest-requires : goal.parent_round-greatest-requires
parent_round-greatest-requires g c =
    rw c.requires.parents (parents_known _ _ c.rows-last.ensures.shaped c.requires.some _ c.requires.before)

pub is_first-requires : goal.is_first-requires
is_first-requires g c =
    rw c.requires.parents (parents_known _ _ c.rows-last.ensures.shaped c.requires.some _ c.requires.before)

pub rises-many-requires-clause-places : goal.rises-many-requires-clause-places
rises-many-requires-clause-places g c =
    rw (c.rows-last.ensures.value, c.witnesses.ensures) (witnesses_below _ _ c.rows-last.ensures.shaped c.requires.some _ c.requires.before _)

pub next_round-round-requires : goal.next_round-round-requires
next_round-round-requires g c =
    let shape = g.S.Sight.shape c.args.sight.now in
    let same : c.parent_round-greatest.result ≡ parent_round (round_at c.args.table.now.standings) (last_parents shape) =
    c.parent_round-greatest.ensures ∙ ap (parent_round (round_at c.args.table.now.standings)) c.requires.parents in
    let fits = greatest_fits _ _ c.rows-last.ensures.shaped c.requires.some _ c.requires.before in
    let value = c.rows-last.ensures.value in
    let short = c.rows-last.ensures.short in
    omega arith

pub returns-clause-round : goal.returns-clause-round
returns-clause-round g c =
    let shape = g.S.Sight.shape c.args.sight.now in
    let r_is = c.parent_round-greatest.ensures ∙ ap (parent_round (round_at c.args.table.now.standings)) c.requires.parents in
    let seen_is = ap₂ (seen_weight shape) (ap (λ k. k - 1) c.rows-last.ensures.value) c.witnesses.ensures in
    let many_is = c.rises-many.ensures in
    c.next_round-round.ensures ∙ last_round_known _ _ c.rows-last.ensures.shaped c.requires.some _ c.requires.before _ _ _ r_is seen_is many_is

pub returns-clause-witness : goal.returns-clause-witness
returns-clause-witness g c =
    c.is_first.ensures
    ∙ (ap (λ ps. list_all (λ p. ltb (round_at c.args.table.now.standings p) c.next_round-round.result) (first_place ps)) c.requires.parents
    ∙ last_witness_known _ _ c.rows-last.ensures.shaped c.requires.some _ c.requires.before _ (returns-clause-round g c))

pub returns-clause-first : goal.returns-clause-first
returns-clause-first g c =
    rw (returns-clause-round g c) (first_known _ _ c.rows-last.ensures.shaped c.requires.some _ c.requires.before)

pub returns-clause-next : goal.returns-clause-next
returns-clause-next g c =
    rw (returns-clause-round g c) (next_known _ _ c.rows-last.ensures.shaped c.requires.some _ c.requires.before)

pub returns-clause-whole : goal.returns-clause-whole
returns-clause-whole g c =
    whole_known _ _ c.rows-last.ensures.shaped c.requires.some _ c.requires.before _ _ (returns-clause-round g c) (returns-clause-witness g c)
