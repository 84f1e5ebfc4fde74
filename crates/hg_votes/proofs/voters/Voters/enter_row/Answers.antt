use Rattle.std.proofs.Common.{◌≡◌, ◌∙◌, ◌-◌, ◌<◌, ◌++◌, ◌∷◌, [], ℕ, List, ap, sym, length, arith}
use Rattle.hg_model.specs.Shape.{Shape}
use Rattle.hg_model.specs.Standings.{Standing, witness_at}
use Rattle.hg_model.specs.Prefix.{links_of}
use Rattle.hg_model.specs.GraphWords.{is_witness_in}
use Rattle.hg_model.proofs.LinkLaws.{length-links}
use Rattle.hg_model.proofs.PrefixLaws.{round_read}
use Rattle.hg_model.proofs.StandingLaws.{witness_at-standings}
use Rattle.hg_votes.specs.Counting.{Entered}
use Rattle.hg_votes.specs.declared.voters.Voters.TheInside.{Inside}
use Rattle.hg_votes.proofs.VoterLaws.{number-le, witnesses_few, witnesses_there, voters_made, entered_other, entered_witness}
use Rattle.hg_votes.proofs.voters.Voters.enter_row.Goals as goal
use Rattle.hg_votes.proofs.voters.Voters.enter_row.Goals.{then-is_witness+in_ok-push_seen, else-is_witness}

pub overflow_cast-number : goal.overflow_cast-number
overflow_cast-number g c =
    omega (arith, number-le (g.P.Prefix.graph c.args.p.now) c.args.y, c.requires.before.many, c.len-number.ensures, ap (λ (e : Entered). length e.sets) c.self.view_is)

pub push_seen-requires-clause-short : goal.push_seen-requires-clause-short
push_seen-requires-clause-short g c =
    omega (arith, witnesses_few (g.P.Prefix.graph c.args.p.now) _ _ _ (g.met.P.Prefix.has_rounds c.args.p.now) c.witnesses.ensures)

pub push_seen-requires-clause-places : goal.push_seen-requires-clause-places
push_seen-requires-clause-places g c =
    witnesses_there _ _ _ _ _ _ (g.met.P.Prefix.has_rounds c.args.p.now) c.witnesses.ensures (ap (λ (s : Shape). length s.links) (sym (g.met.P.Prefix.sees_graph c.args.p.now)))

pub returns-clause-ok : goal.returns-clause-ok
returns-clause-ok g c =
    let graph = g.P.Prefix.graph c.args.p.now in
    let matches = g.met.P.Prefix.has_rounds c.args.p.now in
    let entered = c.args.self.now in
    let there : c.args.y < length (links_of graph) = omega (arith, length-links graph.rows) in
    let test : c.is_witness.result ≡ is_witness_in graph c.args.y =
    c.is_witness.ensures ∙ (ap (λ (S : List Standing). witness_at S c.args.y) matches ∙ witness_at-standings graph.members (links_of graph) c.args.y there) in
    let number : c.len-number.result ≡ length entered.sets = c.len-number.ensures ∙ ap (λ (e : Entered). length e.sets) c.self.view_is in
    let numbers : c.reserve.new.self.items ≡ entered.numbers = c.in_ok-reserve.ensures.items ∙ ap (λ (e : Entered). e.numbers) c.self.view_is in
    let pushed = λ (s : Inside) (is : s.numbers.items ≡ entered.numbers). ap (λ (xs : List ℕ). xs ++ c.len-number.result ∷ []) is in
    elim c.if-is_witness.branch [
      | then-is_witness+in_ok-push_seen w ↦
          (let made = w.in_ok-push_seen.ensures.ok in
          let before = w.saturating_sub.ensures ∙ ap (λ (k : ℕ). k - 1) (w.round.ensures ∙ round_read graph _ c.args.y matches c.requires.row) in
          let voters = voters_made graph c.args.y w.saturating_sub.result _ _ _ made.set (g.met.P.Prefix.sees_graph c.args.p.now) matches before w.witnesses.ensures made.is_set in
          entered_witness graph c.args.y entered _ c.len-number.result c.requires.before number
          (c.push_reserved.ensures.items ∙ pushed c.if-is_witness.self-inside (ap (λ (s : Inside). s.numbers.items) w.self-inside-is ∙ numbers))
          made.set (sym test ∙ w.if-is_witness.true) voters
          (ap (λ (s : Inside). s.sets) w.self-inside-is ∙ (made.grown ∙ ap (λ (e : Entered). e.sets ++ made.set ∷ []) c.self.view_is)))
      | else-is_witness w ↦
          entered_other graph c.args.y entered _ c.len-number.result c.requires.before number
          (c.push_reserved.ensures.items ∙ pushed c.if-is_witness.self-inside (ap (λ (s : Inside). s.numbers.items) w.self-inside-is ∙ numbers))
          (sym test ∙ w.if-is_witness.false)
          (ap (λ (s : Inside). s.sets) w.self-inside-is ∙ ap (λ (e : Entered). e.sets) c.self.view_is)
    ]
