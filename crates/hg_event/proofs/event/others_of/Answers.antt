use Rattle.std.proofs.Common.{◌∙◌, ◌∷◌, ◌++◌, [], ℕ, List, ap, arith, get_or, length-set, sym}
use Rattle.std.proofs.lemmas.List.{take_more}
use Rattle.hg_event.proofs.NameLists.{lent_more}
use Rattle.hg_event.proofs.event.others_of.Goals as goal

pub loop-place-preserved : goal.loop-place-preserved
loop-place-preserved c =
    let names = c.args.names.now in
    let place = c.loop-place.place in
    let more : List ℕ = get_or names place [] in
    record {
      same = lent_more c.loop-place.lent place _ (omega arith) ∙ ap (λ (t : List (List ℕ)). t ++ more ∷ []) c.loop-place.invariant.same ∙ sym (take_more names place [] c.loop-place-test.true);
      size = length-set c.loop-place.lent place _ ∙ c.loop-place.invariant.size;
    }
