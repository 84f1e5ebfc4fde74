use Rattle.std.proofs.Common.{refl, rules}
use Rattle.hg_stream.proofs.Outcomes.{any_ok, at_err}
use Rattle.hg_stream.proofs.shelf.RealShelfShelf.TheImpl.Goals as goal

pub read-tells : goal.read-tells
read-tells g c = record {
  within = search rules;
  next = any_ok c.result _ (λ k. refl);
  end = any_ok c.result _ (λ k none. tt);
  none = at_err c.result refl;
  started = search rules;
  same = refl;
  cause = search rules;
  counts = search rules;
  begun = search rules;
}
