use Rattle.std.proofs.Common.{◌<◌, subst, sym}
use Rattle.hg_branches.specs.OwnCounts.{OwnWithRoom}
use Rattle.hg_branches.proofs.own_counts.OwnCounts.row.Goals as goal

pub row_in-requires : goal.row_in-requires
row_in-requires c = record {
  rows = c.self.inside.rows;
  held = c.self.invariant;
  inside = subst (λ (t : OwnWithRoom). c.args.x < t.rows) (sym c.self.view_is) c.requires;
}

pub returns-clause-value : goal.returns-clause-value
returns-clause-value c = rw (← c.self.view_is) c.row_in.ensures.value

pub returns-clause-len : goal.returns-clause-len
returns-clause-len c = rw (← c.self.view_is) c.row_in.ensures.len
