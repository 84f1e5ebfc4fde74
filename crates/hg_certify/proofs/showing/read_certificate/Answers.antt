use Rattle.hg_certify.proofs.ShowLaws.{IsFor, safe_beside, shows_to}
use Rattle.hg_certify.proofs.showing.read_certificate.Goals as goal

pub returns-in-Yes-clause-safe : goal.returns-in-Yes-clause-safe
returns-in-Yes-clause-safe c =
    let is : IsFor c.args.members.now _ _ = record { keys = c.in_ok-keys.ensures.accepts; empty = c.in_ok-graph.ensures } in
    safe_beside c.certificates_are_safe.ensures c.args.members.now c.args.bytes.now c.in-Yes.shown
    (shows_to c.args.members.now _ _ is c.args.bytes.now c.in-Yes.shown (rw c.in-Yes.is at c.in_ok-shown.ensures.yes))
