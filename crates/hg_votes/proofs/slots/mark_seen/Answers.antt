use Rattle.std.proofs.Common.{refl, get_or}
use Rattle.hg_model.specs.GraphWords.{strongly_sees_in}
use Rattle.hg_votes.proofs.SlotLaws.{none_marked}
use Rattle.hg_votes.proofs.slots.mark_seen.Goals as goal

pub loop-slot-init : goal.loop-slot-init
loop-slot-init g c = record {
  len = refl;
  bits = none_marked _ _ (λ i. strongly_sees_in (g.S.Sight.shape c.args.sight.now) c.args.y (get_or c.args.rows.now i 0)) c.requires.empty;
}
