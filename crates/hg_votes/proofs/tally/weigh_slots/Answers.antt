use Rattle.std.proofs.Common.{◌∙◌, ◌*◌, ◌&&◌, not, ℕ, IfSome, length, ap, ap₂, sym, subst, arith}
use Rattle.std.proofs.lemmas.Bool.{and_left}
use Rattle.hg_model.specs.Stakes.{AllWeigh}
use Rattle.hg_bits.specs.Words.{has_bit}
use Rattle.hg_votes.specs.declared.tally.Tally.{Tally}
use Rattle.hg_votes.specs.Slots.{slot_weight}
use Rattle.hg_votes.specs.Tallies.{stake_in}
use Rattle.hg_votes.proofs.SlotLaws.{few_slots, weighed_slots}
use Rattle.hg_votes.proofs.EvenLaws.{even_slots}
use Rattle.hg_votes.proofs.tally.weigh_slots.Goals as goal

pub count_slots-counted-requires-clause-short : goal.count_slots-counted-requires-clause-short
count_slots-counted-requires-clause-short g c =
    omega (arith, few_slots c.args.voters.now (length c.args.rows.now) c.requires.within, c.requires.short)

pub returns-in-None : goal.returns-in-None
returns-in-None g c =
    let rows = c.args.rows.now in
    let voters = c.args.voters.now in
    let voted = c.args.voted.now in
    let weight = slot_weight (stake_in (g.S.Sight.shape c.args.sight.now)) rows in
    ap₂ (λ (y n : ℕ). record { yes = y; no = n })
    (ap (λ (t : Tally). t.yes) c.sum_slots.ensures ∙ sym (weighed_slots weight voters (length rows) (λ i. has_bit voters i && has_bit voted i) c.requires.within (λ i h. and_left (has_bit voters i) (has_bit voted i) h)))
    (ap (λ (t : Tally). t.no) c.sum_slots.ensures ∙ sym (weighed_slots weight voters (length rows) (λ i. has_bit voters i && not (has_bit voted i)) c.requires.within (λ i h. and_left (has_bit voters i) (not (has_bit voted i)) h)))

pub returns-in-Some : goal.returns-in-Some
returns-in-Some g c =
    let shape = g.S.Sight.shape c.args.sight.now in
    let voted = c.args.voted.now in
    let even : AllWeigh shape.members c.in-Some.stake = subst (λ one. IfSome one (λ s. AllWeigh shape.members s)) c.in-Some.is c.even.ensures in
    let more = even_slots shape c.is_shaped.ensures.shaped c.in-Some.stake even c.args.rows.now c.args.voters.now c.requires.places c.requires.within in
    ap₂ (λ (y n : ℕ). record { yes = y; no = n })
    (ap (λ k. c.count_slots-counted.result.yes * k) c.from-each.ensures ∙ more (has_bit voted) _ (ap (λ (t : Tally). t.yes) c.count_slots-counted.ensures.value))
    (ap (λ k. c.count_slots-counted.result.no * k) c.from-each.ensures ∙ more (λ i. not (has_bit voted i)) _ (ap (λ (t : Tally). t.no) c.count_slots-counted.ensures.value))
