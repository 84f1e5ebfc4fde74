use Rattle.std.proofs.Common.{refl}
use Rattle.hg_answering.proofs.TellLaws.{few_flags, state_noted}
use Rattle.hg_answering.proofs.telling.state.Goals as goal

pub strange-requires : goal.strange-requires
strange-requires g c = few_flags c.args.members.now c.args.node.now c.args.notes.now c.requires c.is_lawful.ensures.few

pub returns : goal.returns
returns g c =
    let strange = state_noted c.args.members.now c.args.node.now c.args.notes.now c.requires in
    rw (c.rows.ensures, c.forkers.ensures, c.greatest.ensures, c.closed.ensures, c.kept.ensures.order, c.waiting.ensures, c.last_told.ensures, c.from_vec.ensures, c.in_ok-strange.ensures, strange) refl
