-- The text of the report. Every line ends with one line feed; numbers are decimal, without leading zeros
use Rattle.std.specs.Prelude.{ℕ, suc, Bool, true, false, cond, List, [], ◌∷◌, ◌++◌, length, slice_get, unwrap_or, codes}
use Rattle.std.specs.Fmt.{decimal}
use Rattle.hex.specs.Hex.{encode_lower}
use Rattle.hg_life.specs.declared.answers.ByteFault.{ByteFault}
use Rattle.hg_life.specs.declared.answers.ByteFault.TheVariants as byte_fault
use Rattle.hg_life.specs.declared.answers.Fault.{Fault}
use Rattle.hg_life.specs.declared.answers.Fault.TheVariants as fault
use Rattle.hg_life.specs.declared.answers.MakeFault.{MakeFault}
use Rattle.hg_life.specs.declared.answers.MakeFault.TheVariants as make_fault
use Rattle.hg_life.specs.declared.answers.MakeAnswer.{MakeAnswer}
use Rattle.hg_life.specs.declared.answers.MakeAnswer.TheVariants as make_answer
use Rattle.hg_life.specs.declared.answers.PutAnswer.{PutAnswer}
use Rattle.hg_life.specs.declared.answers.PutAnswer.TheVariants as put_answer
use Rattle.hg_life.specs.declared.answers.SyncMade.{SyncMade}
use Rattle.hg_life.specs.declared.answers.SyncMade.TheVariants as sync_made
use Rattle.hg_life.specs.declared.answers.SyncReport.{SyncReport}
use Rattle.hg_life.specs.declared.pay.Effect.{Effect}
use Rattle.hg_life.specs.declared.pay.Effect.TheVariants as effect
use Rattle.hg_outcome.specs.declared.outcome.OrderLine.{OrderLine}
use Rattle.hg_outcome.specs.declared.outcome.Block.{Block}
use Rattle.hg_outcome.specs.declared.outcome.Head.{Head}
use Rattle.hg_outcome.specs.declared.outcome.Printed.{Printed}
use Rattle.hg_outcome.specs.declared.outcome.Printed.TheVariants as printed
use Rattle.hg_outcome.specs.declared.outcome.Outcome.{Outcome}

-- a word, a space and a number
abbrev pub with_number : List ℕ → ℕ → List ℕ
with_number word number = word ++ codes " " ++ decimal number

abbrev pub byte_fault_text : ByteFault → List ℕ
byte_fault_text (byte_fault.Short at) = with_number (codes "short") at
byte_fault_text byte_fault.BadMagic = codes "bad-magic"
byte_fault_text (byte_fault.BadKind kind) = with_number (codes "bad-kind") kind
byte_fault_text (byte_fault.BadLength len) = with_number (codes "bad-length") len
byte_fault_text (byte_fault.Trailing count) = with_number (codes "trailing") count

abbrev pub fault_text : Fault → List ℕ
fault_text (fault.Bytes e) = byte_fault_text e
fault_text (fault.Member id) = with_number (codes "member") id
fault_text (fault.Collision p) = with_number (codes "collision") p
fault_text fault.Signature = codes "signature"
fault_text fault.Impostor = codes "impostor"
fault_text (fault.MissingSelf name) = codes "missing-self " ++ encode_lower name
fault_text (fault.MissingOther name) = codes "missing-other " ++ encode_lower name
fault_text (fault.SelfCreator p) = with_number (codes "self-creator") p
fault_text (fault.OtherCreator p) = with_number (codes "other-creator") p
fault_text (fault.TooManyForkers k) = with_number (codes "too-many-forkers") k
fault_text (fault.Full limit) = with_number (codes "full") limit

abbrev pub make_fault_text : MakeFault → List ℕ
make_fault_text make_fault.HasFirst = codes "has-first"
make_fault_text make_fault.NoFirst = codes "no-first"
make_fault_text (make_fault.MissingOther name) = codes "missing-other " ++ encode_lower name
make_fault_text (make_fault.OtherCreator p) = with_number (codes "other-creator") p
make_fault_text (make_fault.PayloadLong len) = with_number (codes "payload-long") len
make_fault_text (make_fault.Collision p) = with_number (codes "collision") p
make_fault_text (make_fault.Full limit) = with_number (codes "full") limit

abbrev pub make_answer_text : MakeAnswer → List ℕ
make_answer_text (make_answer.Made p) = with_number (codes "made") p
make_answer_text (make_answer.Refused f) = codes "refused " ++ make_fault_text f

abbrev pub put_answer_text : PutAnswer → List ℕ
put_answer_text (put_answer.Accepted p) = with_number (codes "accepted") p
put_answer_text (put_answer.Known p) = with_number (codes "known") p
put_answer_text (put_answer.Refused f) = codes "refused " ++ fault_text f

abbrev pub sync_made_text : SyncMade → List ℕ
sync_made_text (sync_made.Row p) = decimal p
sync_made_text sync_made.PeerBare = codes "none peer-bare"
sync_made_text (sync_made.Fault f) = codes "none " ++ make_fault_text f

-- the name of a member, by its number
abbrev pub name_of_member : List (List ℕ) → ℕ → List ℕ
name_of_member names m = unwrap_or (slice_get names m) []

-- what came of an event's payload
abbrev pub effect_text : Effect → List ℕ
effect_text effect.Empty = codes "-"
effect_text effect.Unread = codes "unread"
effect_text (effect.Paid done of_all) = with_number (codes "paid") done ++ with_number (codes " of") of_all

-- the end of a line of the order, with the event's name where it is asked for
abbrev pub line_end : Bool → OrderLine → List ℕ
line_end named line =
    codes " " ++ (effect_text line.effect ++ (cond named (codes " " ++ encode_lower line.name) [] ++ codes "\n"))

-- the line of a row of the order, numbered from 1
abbrev pub order_line_text : Bool → List (List ℕ) → ℕ → OrderLine → List ℕ
order_line_text named names number line =
    decimal number ++ codes " " ++ name_of_member names line.creator ++ with_number [] line.sequence
    ++ with_number (codes " round") line.received ++ with_number (codes " time") line.time ++ line_end named line

-- the lines of an order, the first with this number
abbrev pub order_text : Bool → List (List ℕ) → ℕ → List OrderLine → List ℕ
order_text named names number [] = []
order_text named names number (line ∷ lines) = order_line_text named names number line ++ order_text named names (suc number) lines

abbrev pub balance_text : List (List ℕ) → ℕ → ℕ → List ℕ
balance_text names m balance = codes "balance " ++ name_of_member names m ++ with_number [] balance ++ codes "\n"

-- the balances of the members from m on
abbrev pub balances_text : List (List ℕ) → ℕ → List ℕ → List ℕ
balances_text names m [] = []
balances_text names m (balance ∷ balances) = balance_text names m balance ++ balances_text names (suc m) balances

-- the first line of a block, of what it tells
abbrev pub head_line : List (List ℕ) → Head → List ℕ
head_line names h =
    codes "node " ++ name_of_member names h.member ++ with_number (codes " events") h.events ++ with_number (codes " forkers") h.forkers
    ++ with_number (codes " round") h.greatest ++ with_number (codes " closed") h.closed ++ with_number (codes " ordered") h.ordered ++ codes "\n"

-- what the first line of the block tells
abbrev pub head_of : Block → Head
head_of b = record {
  member = b.member;
  events = b.events;
  forkers = b.forkers;
  greatest = b.greatest;
  closed = b.closed;
  ordered = length b.order;
}

abbrev pub head_text : List (List ℕ) → Block → List ℕ
head_text names b = head_line names (head_of b)

abbrev pub block_text : Bool → List (List ℕ) → Block → List ℕ
block_text named names b = head_text names b ++ order_text named names 1 b.order ++ balances_text names 0 b.balances

-- the line that a line of the script prints: its number, the script's own word, and what came of it
abbrev pub answer_line : ℕ → List ℕ → List ℕ → List ℕ
answer_line line word answer = decimal line ++ codes " " ++ word ++ codes " " ++ answer ++ codes "\n"

abbrev pub pull_line : ℕ → ℕ → ℕ → List ℕ
pull_line line taken refused =
    decimal line ++ (with_number (codes " pull taken") taken ++ (with_number (codes " refused") refused ++ codes "\n"))

abbrev pub sync_line : ℕ → SyncReport → List ℕ
sync_line line r =
    decimal line ++ (with_number (codes " sync taken") r.taken ++ (with_number (codes " refused") r.refused
    ++ (codes " made " ++ (sync_made_text r.made ++ codes "\n"))))

abbrev pub printed_text : List (List ℕ) → Printed → List ℕ
printed_text names (printed.Create line answer) = answer_line line (codes "create") (make_answer_text answer)
printed_text names (printed.Join line answer) = answer_line line (codes "join") (make_answer_text answer)
printed_text names (printed.Sync line report) = sync_line line report
printed_text names (printed.Pull line taken refused) = pull_line line taken refused
printed_text names (printed.Give line answer) = answer_line line (codes "give") (put_answer_text answer)
printed_text names (printed.Freeze line len) = answer_line line (codes "freeze") (decimal len)
printed_text names (printed.Publish line count) = answer_line line (codes "publish") (decimal count)
printed_text names (printed.Block b) = block_text false names b
printed_text names (printed.Names b) = block_text true names b

-- one piece after the other
abbrev pub printed_texts : List (List ℕ) → List Printed → List ℕ
printed_texts names [] = []
printed_texts names (piece ∷ pieces) = printed_text names piece ++ printed_texts names pieces

-- the text of all that a run prints
abbrev pub report_text : Outcome → List ℕ
report_text o = printed_texts o.names o.printed
