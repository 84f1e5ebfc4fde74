use Rattle.std.proofs.Common.{rules, ap, subst, sym, ◌∙◌, [], ◌<◌, length}
use Rattle.std.proofs.lemmas.List.{append-nil}
use Rattle.hg_wire.specs.declared.message.Fed.{Fed}
use Rattle.hg_wire.specs.Outcome.{Faulty, Finished}
use Rattle.hg_wire.specs.Ears.{Answers, GoesOn, means}
use Rattle.hg_wire.proofs.Bytes.{none_fit}
use Rattle.hg_wire.proofs.Streams.{ends_in, heard_all, heard_more, pieces_fit}
use Rattle.hg_wire.proofs.laws.hear_each.Goals as goal

pub loop-piece-init : goal.loop-piece-init
loop-piece-init c = record { heard = c.new-ear.ensures.heard; waits = c.new-ear.ensures.waits; fit = none_fit }

pub returns-in-Whole-clause-says : goal.returns-in-Whole-clause-says
returns-in-Whole-clause-says c =
    let here : c.loop-piece.piece-index < length c.args.pieces.now = search rules in
    let heard = subst (λ (a : Fed). Answers c.as_slice-bytes.result.now (means c.loop-piece.ear c.as_slice-bytes.result.now) a) c.in-Whole.is c.in_ok-feed.ensures.answers in
    (_, heard_all c.args.want c.args.pieces.now c.loop-piece.piece-index c.piece-item.result c.loop-piece.ear c.as_slice-bytes.result.now (Finished c.in-Whole.message _) here (sym c.piece-item.is) c.as_slice-bytes.ensures.value c.loop-piece.invariant.heard heard.1)

pub returns-in-Whole-clause-ends : goal.returns-in-Whole-clause-ends
returns-in-Whole-clause-ends c =
    let here : c.loop-piece.piece-index < length c.args.pieces.now = search rules in
    let heard = subst (λ (a : Fed). Answers c.as_slice-bytes.result.now (means c.loop-piece.ear c.as_slice-bytes.result.now) a) c.in-Whole.is c.in_ok-feed.ensures.answers in
    ends_in c.args.want c.args.pieces.now c.loop-piece.piece-index c.piece-item.result c.loop-piece.ear c.as_slice-bytes.result.now c.in-Whole.message c.in-Whole.used here (sym c.piece-item.is)
    c.as_slice-bytes.ensures.value c.loop-piece.invariant.heard c.loop-piece.invariant.waits c.loop-piece.invariant.fit c.are_bytes.ensures heard

pub returns-in-Refused-clause-says : goal.returns-in-Refused-clause-says
returns-in-Refused-clause-says c =
    let here : c.loop-piece.piece-index < length c.args.pieces.now = search rules in
    let heard = subst (λ (a : Fed). Answers c.as_slice-bytes.result.now (means c.loop-piece.ear c.as_slice-bytes.result.now) a) c.in-Refused.is c.in_ok-feed.ensures.answers in
    heard_all c.args.want c.args.pieces.now c.loop-piece.piece-index c.piece-item.result c.loop-piece.ear c.as_slice-bytes.result.now (Faulty c.in-Refused.fault) here (sym c.piece-item.is) c.as_slice-bytes.ensures.value c.loop-piece.invariant.heard heard

pub loop-piece-preserved : goal.loop-piece-preserved
loop-piece-preserved c =
    let here : c.loop-piece.piece-index < length c.args.pieces.now = search rules in
    let goes = subst (λ (a : Fed). GoesOn c.loop-piece.ear c.feed.new.self c.as_slice-bytes.result.now a) c.in-More.is c.in_ok-feed.ensures.goes_on in
    let heard = subst (λ (a : Fed). Answers c.as_slice-bytes.result.now (means c.loop-piece.ear c.as_slice-bytes.result.now) a) c.in-More.is c.in_ok-feed.ensures.answers in
    record {
      heard = heard_more c.args.want c.args.pieces.now c.loop-piece.piece-index c.piece-item.result c.loop-piece.ear c.feed.new.self c.as_slice-bytes.result.now here (sym c.piece-item.is) c.as_slice-bytes.ensures.value c.loop-piece.invariant.heard goes;
      waits = goes [] ∙ ap (means c.loop-piece.ear) (append-nil c.as_slice-bytes.result.now) ∙ heard;
      fit = pieces_fit c.args.pieces.now c.loop-piece.piece-index c.piece-item.result c.as_slice-bytes.result.now here (sym c.piece-item.is) c.as_slice-bytes.ensures.value c.loop-piece.invariant.fit c.are_bytes.ensures;
    }
