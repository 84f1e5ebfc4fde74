-- What a view shows: a row.
use Rattle.hg_model.specs.declared.row.Row.{Row}
use Rattle.hg_life.specs.Verdict.{signed_row}
use Rattle.hg_event.specs.declared.view.EventView.{EventView}
use Rattle.hg_event.specs.Names.{names_lent}

-- the row of the view's fields, named by their spelling
abbrev pub row_of : EventView → Row
row_of view = signed_row view.creator (names_lent view.parents) view.time view.payload.now view.sig.now
