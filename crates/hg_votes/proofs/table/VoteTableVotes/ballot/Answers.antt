use Rattle.std.proofs.Common.{◌≡◌, ◌∙◌, ◌<◌, ℕ, length, get_or, ap, ap₂, refl, arith}
use Rattle.std.proofs.lemmas.List.{get_or_read_under}
use Rattle.hg_votes.specs.Counting.{Counting, Entered, number_of}
use Rattle.hg_votes.specs.Tallies.{no_ballot}
use Rattle.hg_votes.proofs.VoterLaws.{number-below}
use Rattle.hg_votes.proofs.table.VoteTableVotes.ballot.Goals as goal

pub index-requires : goal.index-requires
index-requires c =
    let graph = c.requires.0 in
    let made = c.requires.1 in
    let counted = c.requires.2 in
    let numbered = made.voters.number c.args.y counted.place in
    let read = ap (λ (e : Entered). get_or e.numbers c.args.y 0) c.as_voters.ensures ∙ ap (λ (t : Counting). get_or t.voters.numbers c.args.y 0) c.self.view_is in
    omega (arith, c.number.ensures, read, numbered, number-below graph c.args.y (length graph.rows) counted.place counted.witness, made.ballots.len, ap (λ (t : Counting). length t.ballots) c.self.view_is)

pub returns : goal.returns
returns c = λ graph made counted.
    let ballots = c.self.inside.ballots.items in
    let is : c.number.result ≡ number_of graph c.args.y =
    c.number.ensures ∙ (ap (λ (e : Entered). get_or e.numbers c.args.y 0) c.as_voters.ensures ∙ ap (λ (t : Counting). get_or t.voters.numbers c.args.y 0) c.self.view_is ∙ made.voters.number c.args.y counted.place) in
    let inside : c.number.result < length ballots =
    omega (arith, is, number-below graph c.args.y (length graph.rows) counted.place counted.witness, made.ballots.len, ap (λ (t : Counting). length t.ballots) c.self.view_is) in
    get_or_read_under ballots c.number.result (length ballots) c.index.result.now no_ballot c.index.ensures inside refl
    ∙ (ap₂ (λ (t : Counting) (k : ℕ). get_or t.ballots k no_ballot) c.self.view_is is ∙ made.ballots.at c.args.y counted)
