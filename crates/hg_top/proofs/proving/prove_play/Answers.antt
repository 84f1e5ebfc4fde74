use Rattle.std.proofs.Common.{◌≡◌, List, ℕ, refl, subst}
use Rattle.hg_script.specs.declared.line.Line.{Line}
use Rattle.hg_certify.specs.Proving.{IsProofOf}
use Rattle.hg_io.specs.Printing.{Prints}
use Rattle.hg_top.specs.declared.status.File.TheVariants as file
use Rattle.hg_top.specs.Course.{no_disk}
use Rattle.hg_top.specs.Commands.{bad_script, lines_for}
use Rattle.hg_top.specs.Work.Work.{Writes}
use Rattle.hg_top.proofs.KeepLaws.{idle_none}
use Rattle.hg_top.proofs.WorkLaws.{takes_none, takes_on, wrote}
use Rattle.hg_top.proofs.proving.prove_play.Goals as goal

pub returns-in-Err-clause-ends : goal.returns-in-Err-clause-ends
returns-in-Err-clause-ends g c =
    takes_none g.F.Shelf g.K.Sink c.args.shelf.now c.lines_from.new.shelf c.args.out.now no_disk file.Script bad_script (lines_for c.args.members.now 0) c.args.script.now
    (λ (lines : List Line). Writes (IsProofOf c.args.members.now lines c.args.own)) c.in-Err.status idle_none c.in-Err.ensures.err

pub returns-in-Ok-prove_order-clause-ends : goal.returns-in-Ok-prove_order-clause-ends
returns-in-Ok-prove_order-clause-ends g c =
    let K = g.K.Sink in
    let members = c.args.members.now in
    let own = c.args.own in
    let lines : List Line = c.in-Ok.lines in
    let same : c.as_slice.result.now ≡ lines = c.as_slice.ensures in
    let text : List ℕ = c.in-Ok-prove_order.bytes.items in
    let proof : IsProofOf members lines own text = subst (λ (ls : List Line). IsProofOf members ls own text) same c.in-Ok-prove_order.ensures in
    let prints = subst (λ (t : List ℕ). Prints K c.args.out.now c.print_text.new.err t c.print_text.result) c.as_slice-in-Ok-prove_order.ensures.value c.print_text.ensures in
    takes_on g.F.Shelf K c.args.shelf.now c.lines_from.new.shelf c.lines_from.new.shelf c.args.out.now c.print_text.new.err
    no_disk file.Script bad_script (lines_for members 0) c.args.script.now (λ (lines : List Line). Writes (IsProofOf members lines own)) lines c.status_of.result
    c.in-Ok.ensures.ok c.lines_from.ensures.starts
    (refl, rw c.status_of.ensures (wrote K c.args.out.now c.print_text.new.err (IsProofOf members lines own) text c.print_text.result proof prints), idle_none)
