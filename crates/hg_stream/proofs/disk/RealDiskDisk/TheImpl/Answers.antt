use Rattle.std.proofs.Common.{length, refl, rules}
use Rattle.hg_io.proofs.Going.{stays_same}
use Rattle.hg_io.proofs.Tearing.{torn_same}
use Rattle.hg_io.specs.FileView.{unknown}
use Rattle.hg_stream.proofs.Outcomes.{any_ok, at_err, at_ok, none_told}
use Rattle.hg_stream.proofs.disk.RealDiskDisk.TheImpl.Goals as goal

pub read-tells : goal.read-tells
read-tells g c = record {
  within = search rules;
  bytes = any_ok c.result _ (λ k. none_told _);
  end = any_ok c.result _ (λ k. none_told _);
  started = search rules;
  stays = stays_same unknown;
  cause = search rules;
  counts = search rules;
}

pub write-tells : goal.write-tells
write-tells g c = record {
  written = at_ok c.result refl;
  part = at_err c.result (none_told _);
  shown = refl;
  torn = λ left may. (left, tt, torn_same c.args.at (length c.args.piece.now) left);
  leaves = record { older = search rules; still = λ age left before since. since; only = λ age left before since. search rules };
  started = search rules;
  cause = search rules;
  counts = search rules;
}
