use Rattle.std.proofs.Common.{◌≡◌, ◌∙◌, ℕ, length, max, ap, subst, sym, arith, rules, length-append}
use Rattle.std.proofs.lemmas.Grind.{div_ceil_times}
use Rattle.hg_votes.specs.Counting.{Counting, Entered, HasMost, HasRoom, HoldsVoters}
use Rattle.hg_votes.proofs.MadeLaws.{made_new}
use Rattle.hg_votes.proofs.CarryLaws.{entered_later, room_later}
use Rattle.hg_votes.proofs.table.VoteTable.carry.Goals as goal

pub enter-requires-clause-few : goal.enter-requires-clause-few
enter-requires-clause-few g c =
    let made = c.requires.1 in
    let begins = c.requires.2 in
    omega (arith, ap (λ (t : Counting). length t.voters.numbers) c.self.view_is, made.voters.long, ap length begins.rows.1, length-append c.requires.0.rows begins.rows.0)

pub enter-requires-clause-before : goal.enter-requires-clause-before
enter-requires-clause-before g c =
    let graph = g.P.Prefix.graph c.args.p.now in
    let first = c.requires.0 in
    let made = c.requires.1 in
    let held : HoldsVoters graph (length first.rows) c.args.self.now.voters = entered_later first graph c.args.self.now.voters c.requires.2 made.shaped c.is_of_graph.ensures.shaped made.voters in
    let entered : HoldsVoters graph (length c.args.self.now.voters.numbers) c.args.self.now.voters = subst (λ (k : ℕ). HoldsVoters graph k c.args.self.now.voters) (sym made.voters.long) held in
    subst (λ (t : Counting). HoldsVoters graph (length t.voters.numbers) t.voters) (sym c.self.view_is) entered

pub returns-clause-ok : goal.returns-clause-ok
returns-clause-ok g c =
    let graph = g.P.Prefix.graph c.args.p.now in
    let first = c.requires.0 in
    let made = c.requires.1 in
    let shaped = c.is_of_graph.ensures.shaped in
    let times = div_ceil_times c.most_witnesses-most.result 64 (omega arith) in
    let from : c.rows.result ≡ length first.rows = c.rows.ensures ∙ (ap (λ (e : Entered). length e.numbers) c.as_voters.ensures ∙ (ap (λ (t : Counting). length t.voters.numbers) c.self.view_is ∙ made.voters.long)) in
    let most : HasMost graph (length first.rows) (length graph.rows) c.most_witnesses-most.result =
    subst (λ (k : ℕ). HasMost graph k (length graph.rows) c.most_witnesses-most.result) from c.most_witnesses-most.ensures in
    let top : c.max-words.result ≡ max c.div_ceil.result c.len.result = search rules in
    let before : c.len.result ≡ length c.args.self.now.voted = omega (arith, c.len.ensures, ap (λ (t : Counting). length t.voted) c.self.view_is) in
    let words : length c.in_ok-voted.voted.items ≡ c.max-words.result = omega (arith, c.in_ok-voted.ensures.len) in
    let room : HasRoom graph (length c.in_ok-voted.voted.items) = room_later first graph (length c.args.self.now.voted) c.most_witnesses-most.result (length c.in_ok-voted.voted.items)
    c.requires.2 made.shaped shaped made.room most (omega (arith, top, before, words)) (omega (arith, times.0, c.div_ceil.ensures, top, words)) in
    made_new graph _ c.enter.new.ballots.items c.in_ok-voted.voted.items shaped c.is_of_graph.ensures.short c.in_ok-enter.ensures.entered.voters
    (omega (arith, c.in_ok-enter.ensures.entered.ballots)) room
