use Rattle.std.proofs.Common.{◌≡◌, ◌+◌, fold, take}
use Rattle.hg_keep.specs.Keeping.{counted}
use Rattle.hg_keep.proofs.kept.PutCounts.count_all.Given as goal

abbrev pub invariant-loop-answer : goal.invariant-loop-answer
invariant-loop-answer l = record {
  counted : l.self ≡ fold counted l.fn.self (take l.answer-index l.answers);
  more : l.self.accepted + (l.self.known + l.self.refused) ≡ l.fn.self.accepted + (l.fn.self.known + l.fn.self.refused) + l.answer-index;
}
