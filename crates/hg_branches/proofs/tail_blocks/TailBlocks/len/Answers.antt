use Rattle.std.proofs.Common.{length, ap, arith}
use Rattle.hg_branches.specs.Tails.{TailsWithRoom}
use Rattle.hg_branches.proofs.TailBlockLaws.{length_joined}
use Rattle.hg_branches.proofs.tail_blocks.TailBlocks.len.Goals as goal

pub overflow_mul-result : goal.overflow_mul-result
overflow_mul-result c =
    omega (arith, ap (λ (t : TailsWithRoom). length t.rows) c.self.view_is, length_joined c.self.inside.sealed.items c.self.inside.last.rows c.self.invariant.full, c.requires)

pub overflow_add-result : goal.overflow_add-result
overflow_add-result c =
    omega (arith, ap (λ (t : TailsWithRoom). length t.rows) c.self.view_is, length_joined c.self.inside.sealed.items c.self.inside.last.rows c.self.invariant.full, c.requires, c.len-2.ensures)

pub returns : goal.returns
returns c =
    omega (arith, ap (λ (t : TailsWithRoom). length t.rows) c.self.view_is, length_joined c.self.inside.sealed.items c.self.inside.last.rows c.self.invariant.full, c.len-2.ensures)
