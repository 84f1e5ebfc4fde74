use Rattle.std.proofs.Common.{◌≡◌, ◌∙◌, ℕ, List, [], ◌∷◌, length, Bor, Vec, Global, refl, sym, ap, arith}
use Rattle.std.proofs.lemmas.List.{length-append}
use Rattle.hg_script.specs.Argument.{label_of}
use Rattle.hg_reading.proofs.WalkLaws.{gives_refused, one_read, one_refused}
use Rattle.hg_reading.proofs.labels.labels_each.Goals as goal

pub returns-in_err-label_of-clause-value : goal.returns-in_err-label_of-clause-value
returns-in_err-label_of-clause-value c =
    let refused = one_refused (λ (word : Bor (List ℕ)). word.now) (label_of c.args.above.now.labels) c.args.words.now c.loop-word.word-index _ c.loop-word.labels.items _ c.loop-word-test.true c.loop-word.invariant.read c.in_err-label_of.ensures in
    gives_refused (λ (labels : Vec ℕ Global). labels.items) c.in_err-label_of.field-0.0 c.from_residual-in_err-label_of.result _ c.from_residual-in_err-label_of.ensures.1 refused

pub loop-word-preserved : goal.loop-word-preserved
loop-word-preserved c =
    let read = one_read (λ (word : Bor (List ℕ)). word.now) (label_of c.args.above.now.labels) c.args.words.now c.loop-word.word-index _ c.loop-word.labels.items _ c.loop-word-test.true c.loop-word.invariant.read c.in_ok-label_of.ensures in
    record {
      read = rw (c.push_reserved.ensures.items) read;
      many = omega (arith, ap (λ (l : List ℕ). length l) c.push_reserved.ensures.items, length-append c.loop-word.labels.items (c.in_ok-label_of.field-0 ∷ []), c.loop-word.invariant.many);
      room = omega (arith, c.push_reserved.ensures.capacity, c.loop-word.invariant.room);
    }
