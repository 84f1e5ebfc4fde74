-- Gossip: what a peer has that a node lacks, and how the answers of a sync are counted. SWIRLDS-TR-2016-01, section 3
use Rattle.std.specs.Prelude.{ℕ}
use Rattle.hg_life.specs.declared.answers.PutAnswer.{PutAnswer}
use Rattle.hg_life.specs.declared.answers.PutAnswer.TheVariants.{Accepted, Known, Refused}
use Rattle.hg_life.specs.declared.answers.MakeAnswer.{MakeAnswer}
use Rattle.hg_life.specs.declared.answers.MakeAnswer.TheVariants as make_answer
use Rattle.hg_life.specs.declared.answers.SyncMade.{SyncMade}
use Rattle.hg_life.specs.declared.answers.SyncMade.TheVariants as sync_made

-- what one answer adds to the events that were taken, and to those that were refused; a known one adds to neither
abbrev pub count_taken : PutAnswer → ℕ
count_taken (Accepted p) = 1
count_taken (Known p) = 0
count_taken (Refused f) = 0

abbrev pub count_refused : PutAnswer → ℕ
count_refused (Accepted p) = 0
count_refused (Known p) = 0
count_refused (Refused f) = 1

-- what came of the event at the end of a sync
abbrev pub made_in_sync : MakeAnswer → SyncMade
made_in_sync (make_answer.Made p) = sync_made.Row p
made_in_sync (make_answer.Refused f) = sync_made.Fault f
