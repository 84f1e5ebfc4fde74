use Rattle.std.proofs.Common.{◌∙◌, ◌++◌, List, ℕ, ap}
use Rattle.hg_life.specs.Spelling.{body_bytes}
use Rattle.hg_sign.proofs.Secrets.{accepted_is_signature}
use Rattle.hg_play.proofs.labels.forged.Goals as goal

pub returns : goal.returns
returns c =
    let body = body_bytes c.args.creator c.args.parents.now c.args.time c.args.payload.now in
    c.from_vec.ensures ∙ (c.in_ok-event.ensures.bytes ∙ ap (λ (sig : List ℕ). body ++ sig) (accepted_is_signature c.args.keys.now c.args.creator body c.in_ok-event.event.sig c.in_ok-event.ensures.signed))
