use Rattle.std.proofs.Common.{rules, ◌∙◌}
use Rattle.hg_io.proofs.Filling.{more_filled}
use Rattle.hg_io.proofs.Going.{stays_on}
use Rattle.hg_io.proofs.disk_reading.fill.Goals as goal

pub pieces-preserved : goal.pieces-preserved
pieces-preserved g c =
    let so_far = c.pieces.invariant in
    let next = c.in_ok-count.ensures in
    record {
      within = search rules;
      front = λ bytes told.
          more_filled c.pieces.buf c.read.new.buf _ bytes c.pieces.at c.in_ok-count.count so_far.within next.within (so_far.front bytes told) (next.bytes bytes (so_far.stays.reads ∙ told)).1;
      stays = stays_on so_far.stays c.read.ensures.stays;
      started = search rules;
      counts = search rules;
    }
