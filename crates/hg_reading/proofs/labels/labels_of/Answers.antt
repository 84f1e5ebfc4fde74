use Rattle.std.proofs.Common.{◌≡◌, ◌≤◌, ◌<◌, ℕ, List, Bor, length, ap, sym, ◌∙◌, arith}
use Rattle.std.proofs.lemmas.List.{length-map}
use Rattle.hg_script.specs.Argument.{parts_of}
use Rattle.hg_reading.proofs.PayloadLaws.{some_parts}
use Rattle.hg_reading.proofs.labels.labels_of.Goals as goal

pub returns-clause-few : goal.returns-clause-few
returns-clause-few c =
    let words = c.in_ok-words.words.items in
    let kept : length c.from_vec.result ≡ length c.as_slice.result.now = ap (λ (l : List ℕ). length l) c.from_vec.ensures ∙ c.in_ok-labels.ensures.many in
    let same : length c.as_slice.result.now ≡ length words = ap (λ (l : List (Bor (List ℕ))). length l) c.as_slice.ensures.value in
    let parts : length words ≡ length (parts_of c.args.word.now) = sym (length-map words (λ (word : Bor (List ℕ)). word.now)) ∙ ap (λ (l : List (List ℕ)). length l) c.in_ok-words.ensures in
    let few = c.if-len-gt-MOST_LABELS.false in
    (omega (arith, kept, same, parts, some_parts c.args.word.now), omega (arith, kept, same, few, c.len.ensures))
