use Rattle.std.proofs.Common.{◌∙◌, ◌++◌, List, ℕ, [], ap, append_assoc, arith, get_or, sym}
use Rattle.hg_event.proofs.NameLists.{are_long, concat_more}
use Rattle.hg_event.proofs.write.push_names.Goals as goal

pub loop-name-preserved : goal.loop-name-preserved
loop-name-preserved c =
    let names = c.args.names.now in
    let i = c.loop-name.name-index in
    let more : List ℕ = get_or names i [] in
    let written = c.in_ok-extend_from_slice.ensures in
    record {
      bytes = written.items ∙ ap (λ (t : List ℕ). t ++ more) c.loop-name.invariant.bytes ∙ append_assoc c.args.body.now.items _ more
          ∙ ap (λ (t : List ℕ). c.args.body.now.items ++ t) (sym (concat_more names i c.loop-name-test.true));
      len = omega (arith, written.len, c.told-names i c.loop-name-test.true);
      capacity = omega (arith, written.capacity);
    }

pub returns-clause-names : goal.returns-clause-names
returns-clause-names c = are_long c.args.names.now c.told-names
