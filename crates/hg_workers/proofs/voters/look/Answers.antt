use Rattle.std.proofs.Common.{◌∙◌}
use Rattle.hg_workers.proofs.StateLaws.{nothing_found}
use Rattle.hg_workers.proofs.TurnLaws.{nothing_added}
use Rattle.hg_workers.proofs.voters.look.Goals as goal

pub publish-requires-clause-found : goal.publish-requires-clause-found
publish-requires-clause-found g c = nothing_found _ _ _ _ _ (c.from_vec.ensures ∙ c.new.ensures.items)

pub returns-clause-none : goal.returns-clause-none
returns-clause-none g c = nothing_added c.args.shared.now g.V.Verifier.accepts c.args.seat.now c.publish.new.seat c.args.share c.publish.result c.publish.ensures.marks
