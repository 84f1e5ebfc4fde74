use Rattle.std.proofs.Common.{rules, drop, take, sym, ◌∙◌, ap}
use Rattle.std.proofs.lemmas.List.{drop-drop}
use Rattle.hg_io.proofs.Filling.{more_filled}
use Rattle.hg_io.proofs.Going.{stays_on}
use Rattle.hg_journal.proofs.filling.fill_from.Goals as goal

pub pieces-preserved : goal.pieces-preserved
pieces-preserved g c =
    let so_far = c.pieces.invariant in
    let next = c.in_ok-more.ensures in
    record {
      within = search rules;
      small = search rules;
      front = λ bytes told.
          more_filled c.pieces.buf c.read.new.buf _ (drop c.args.at bytes) c.pieces.count c.in_ok-more.more so_far.within next.within (so_far.front bytes told)
          ((next.bytes bytes (so_far.stays.reads ∙ told)).1 ∙ ap (take c.in_ok-more.more) (sym (drop-drop c.pieces.count c.args.at bytes)));
      stays = stays_on so_far.stays c.read.ensures.stays;
      started = search rules;
      counts = search rules;
    }
