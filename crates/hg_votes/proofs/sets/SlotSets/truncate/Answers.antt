use Rattle.std.proofs.Common.{◌∙◌, ap, sym, map, take}
use Rattle.std.proofs.lemmas.List.{take-map}
use Rattle.hg_votes.specs.Slots.{words_in}
use Rattle.hg_votes.proofs.sets.SlotSets.truncate.Goals as goal

pub returns : goal.returns
returns c =
    let words = c.self.inside.words.items in
    ap (map (words_in words)) c.truncate.ensures.items ∙ (sym (take-map (words_in words) c.args.len c.self.inside.spans.items) ∙ ap (take c.args.len) c.self.view_is)
