use Rattle.std.proofs.Common.{ℕ, length}
use Rattle.std.proofs.lemmas.List.{drop-replicate}
use Rattle.hg_sign.proofs.key.padded_block.Goals as goal

pub returns : goal.returns
returns c = rw (c.write_front.ensures, drop-replicate {X = ℕ} (length c.args.secret.now) 128 0)
