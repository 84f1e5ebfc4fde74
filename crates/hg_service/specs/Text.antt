-- How an answer is written: how many lines follow its first one, the first line, and these lines
use Rattle.std.specs.Prelude.{ℕ, zero, suc, Bool, true, false, List, [], ◌∷◌, ◌++◌, length, take, drop, codes, Option, Some, None}
use Rattle.std.specs.Fmt.{decimal}
use Rattle.hex.specs.Hex.{encode_lower}
use Rattle.hg_life.specs.Members.{MemberList, names_of}
use Rattle.hg_life.specs.declared.members.MemberEntry.{MemberEntry}
use Rattle.hg_outcome.specs.Report.{effect_text, fault_text, make_fault_text, name_of_member, with_number}
use Rattle.hg_script.specs.Text.{why_text}
use Rattle.hg_service.specs.Binding.{entry_text}
use Rattle.hg_service.specs.declared.answer.Answer.{Answer}
use Rattle.hg_service.specs.declared.answer.Answer.TheVariants as answer
use Rattle.hg_service.specs.declared.answer.NotMade.{NotMade}
use Rattle.hg_service.specs.declared.answer.NotMade.TheVariants as not_made
use Rattle.hg_service.specs.declared.answer.OrderedEvent.{OrderedEvent}
use Rattle.hg_service.specs.declared.answer.RefusedEvent.{RefusedEvent}
use Rattle.hg_service.specs.declared.request.LineFault.{LineFault}
use Rattle.hg_service.specs.declared.request.LineFault.TheVariants as fault

-- ---- parts of lines

abbrev pub line_fault_text : LineFault → List ℕ
line_fault_text fault.Long = codes "long"
line_fault_text fault.Name = codes "name"
line_fault_text fault.Digits = codes "digits"
line_fault_text (fault.Script why) = why_text why

abbrev pub not_made_text : NotMade → List ℕ
not_made_text not_made.Impostor = codes "impostor"
not_made_text not_made.PeerBare = codes "peer-bare"
not_made_text not_made.Idle = codes "idle"
not_made_text (not_made.Fault f) = make_fault_text f

-- bytes in digits; `-` where there are none
abbrev pub digits_or_dash : List ℕ → List ℕ
digits_or_dash [] = codes "-"
digits_or_dash (b ∷ bytes) = encode_lower (b ∷ bytes)

-- the place and the time of an event
abbrev pub placed_text : Option (ℕ × ℕ) → List ℕ
placed_text None = codes "- -"
placed_text (Some (place, time)) = decimal place ++ with_number [] time

abbrev pub yes_no : Bool → List ℕ
yes_no true = codes "yes"
yes_no false = codes "no"

-- the names of members, with a comma before each
abbrev pub more_names : List (List ℕ) → List ℕ → List ℕ
more_names names [] = []
more_names names (m ∷ ms) = codes "," ++ name_of_member names m ++ more_names names ms

-- the names of members between commas; `-` where there are none
abbrev pub names_or_dash : List (List ℕ) → List ℕ → List ℕ
names_or_dash names [] = codes "-"
names_or_dash names (m ∷ ms) = name_of_member names m ++ more_names names ms

-- ---- lines behind the first

-- an ordered event of this number
abbrev pub ordered_text : List (List ℕ) → ℕ → OrderedEvent → List ℕ
ordered_text names number x =
    decimal number ++ codes " " ++ name_of_member names x.line.creator ++ with_number [] x.line.sequence
    ++ with_number (codes " round") x.line.received ++ with_number (codes " time") x.line.time
    ++ codes " " ++ encode_lower x.line.name ++ codes " " ++ digits_or_dash x.payload ++ codes " " ++ effect_text x.line.effect

abbrev pub ordered_texts : List (List ℕ) → ℕ → List OrderedEvent → List (List ℕ)
ordered_texts names number [] = []
ordered_texts names number (x ∷ xs) = ordered_text names number x ∷ ordered_texts names (suc number) xs

abbrev pub refused_text : RefusedEvent → List ℕ
refused_text r = decimal r.number ++ codes " " ++ fault_text r.fault

abbrev pub refused_texts : List RefusedEvent → List (List ℕ)
refused_texts [] = []
refused_texts (r ∷ rs) = refused_text r ∷ refused_texts rs

-- each of these in digits
abbrev pub digits_each : List (List ℕ) → List (List ℕ)
digits_each [] = []
digits_each (bytes ∷ rest) = encode_lower bytes ∷ digits_each rest

abbrev pub balance_texts : List (List ℕ) → ℕ → List ℕ → List (List ℕ)
balance_texts names m [] = []
balance_texts names m (b ∷ bs) = with_number (name_of_member names m) b ∷ balance_texts names (suc m) bs

abbrev pub entry_texts : List MemberEntry → List (List ℕ)
entry_texts [] = []
entry_texts (e ∷ es) = entry_text e ∷ entry_texts es

-- how many bytes of a certificate a line tells
abbrev pub cut_size : ℕ
cut_size = 32768

-- bytes in parts of that many, of which the last may be shorter; n is no less than their number
abbrev pub cut_for : ℕ → List ℕ → List (List ℕ)
cut_for zero bytes = []
cut_for (suc n) [] = []
cut_for (suc n) (b ∷ bytes) = take cut_size (b ∷ bytes) ∷ cut_for n (drop cut_size (b ∷ bytes))

unfoldable pub cut : List ℕ → List (List ℕ)
cut bytes = cut_for (length bytes) bytes

-- ---- answers

abbrev pub put_line : List ℕ → ℕ → ℕ → ℕ → List ℕ
put_line word before accepted known = with_number word before ++ with_number [] accepted ++ with_number [] known

abbrev pub state_line : List (List ℕ) → ℕ → ℕ → ℕ → ℕ → ℕ → ℕ → Option (ℕ × ℕ) → Bool → List ℕ → List ℕ
state_line names events forkers greatest closed ordered waiting own impostor strange =
    with_number (codes "state events") events ++ with_number (codes " forkers") forkers ++ with_number (codes " round") greatest
    ++ with_number (codes " closed") closed ++ with_number (codes " ordered") ordered ++ with_number (codes " waiting") waiting
    ++ codes " own " ++ placed_text own ++ codes " impostor " ++ yes_no impostor ++ codes " strange " ++ names_or_dash names strange

-- the first line, without its count, and the lines that follow
abbrev pub parts_of : MemberList → Answer → List ℕ × List (List ℕ)
parts_of members (answer.Bad why) = (codes "bad " ++ line_fault_text why, [])
parts_of members (answer.Members own digest) = (
  codes "members " ++ name_of_member (names_of members) own ++ with_number [] members.coin ++ codes " " ++ encode_lower digest,
  entry_texts members.entries,
)
parts_of members (answer.State events forkers greatest closed ordered waiting own impostor strange) =
    (state_line (names_of members) events forkers greatest closed ordered waiting own impostor strange, [])
parts_of members (answer.Heads names) = (codes "heads", digits_each names)
parts_of members (answer.Beyond all rows events) = (with_number (codes "beyond") all ++ with_number [] rows, digits_each events)
parts_of members (answer.Put before accepted known refused) = (put_line (codes "put") before accepted known, refused_texts refused)
parts_of members (answer.Restored before accepted known refused) =
    (put_line (codes "restored") before accepted known, refused_texts refused)
parts_of members (answer.Made place event) = (with_number (codes "made") place ++ codes " " ++ encode_lower event, [])
parts_of members (answer.NotMade why) = (codes "refused " ++ not_made_text why, [])
parts_of members (answer.Settled count) = (with_number (codes "settled") count, [])
parts_of members (answer.Order all first events) = (with_number (codes "order") all, ordered_texts (names_of members) first events)
parts_of members (answer.Events all events) = (with_number (codes "events") all, digits_each events)
parts_of members (answer.Balances ordered balances) =
    (with_number (codes "balances") ordered, balance_texts (names_of members) 0 balances)
parts_of members (answer.Proof bytes) = (with_number (codes "proof") (length bytes), digits_each (cut bytes))

-- each with its line feed
abbrev pub lines_text : List (List ℕ) → List ℕ
lines_text [] = []
lines_text (line ∷ lines) = line ++ codes "\n" ++ lines_text lines

-- behind the count of the lines that follow
abbrev pub counted_text : List ℕ × List (List ℕ) → List ℕ
counted_text (first, lines) = decimal (length lines) ++ codes " " ++ first ++ codes "\n" ++ lines_text lines

unfoldable pub answer_text : MemberList → Answer → List ℕ
answer_text members a = counted_text (parts_of members a)
