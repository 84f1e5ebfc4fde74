-- The parts of an answer's text that are put one after the other
use Rattle.std.specs.Prelude.{ℕ, Bool, List, [], ◌++◌, length, codes, Option}
use Rattle.std.specs.Fmt.{decimal}
use Rattle.hex.specs.Hex.{encode_lower}
use Rattle.hg_life.specs.Members.{MemberList, names_of}
use Rattle.hg_outcome.specs.Report.{effect_text, name_of_member, with_number}
use Rattle.hg_outcome.specs.declared.outcome.OrderLine.{OrderLine}
use Rattle.hg_life.specs.declared.members.MemberEntry.{MemberEntry}
use Rattle.hg_service.specs.Text.{balance_texts, digits_or_dash, entry_texts, line_fault_text, lines_text, more_names, names_or_dash, not_made_text, ordered_text, ordered_texts, parts_of, placed_text, refused_texts, yes_no}
use Rattle.hg_service.specs.declared.answer.NotMade.{NotMade}
use Rattle.hg_service.specs.declared.answer.RefusedEvent.{RefusedEvent}
use Rattle.hg_service.specs.declared.request.LineFault.{LineFault}
use Rattle.hg_service.specs.declared.answer.Answer.{Answer}
use Rattle.hg_service.specs.declared.answer.Answer.TheVariants as answer
use Rattle.hg_service.specs.declared.answer.OrderedEvent.{OrderedEvent}

-- ---- the first line, up to what may be of any length

abbrev pub counts_text : ℕ → ℕ → ℕ → ℕ → ℕ → ℕ → List ℕ
counts_text events forkers greatest closed ordered waiting =
    with_number (codes "state events") events ++ with_number (codes " forkers") forkers ++ with_number (codes " round") greatest
    ++ with_number (codes " closed") closed ++ with_number (codes " ordered") ordered ++ with_number (codes " waiting") waiting

abbrev pub counts_of : Answer → List ℕ
counts_of (answer.State events forkers greatest closed ordered waiting own impostor strange) =
    counts_text events forkers greatest closed ordered waiting
counts_of a = []

abbrev pub own_text : Option (ℕ × ℕ) → Bool → List ℕ
own_text own impostor = codes " own " ++ placed_text own ++ codes " impostor " ++ yes_no impostor ++ codes " strange "

abbrev pub state_head : Answer → Option (ℕ × ℕ) → Bool → List ℕ
state_head a own impostor = counts_of a ++ own_text own impostor

abbrev pub bad_head : LineFault → List ℕ
bad_head why = codes "bad " ++ line_fault_text why

abbrev pub not_made_head : NotMade → List ℕ
not_made_head why = codes "refused " ++ not_made_text why

abbrev pub members_head : MemberList → ℕ → List ℕ → List ℕ
members_head members own digest =
    codes "members " ++ name_of_member (names_of members) own ++ with_number [] members.coin ++ codes " " ++ encode_lower digest

abbrev pub beyond_head : ℕ → ℕ → List ℕ
beyond_head all rows = with_number (codes "beyond") all ++ with_number [] rows

abbrev pub made_head : ℕ → List ℕ
made_head place = with_number (codes "made") place ++ codes " "

-- up to the names of strange members, or to the bytes of the event that was made; else all of it
abbrev pub head_text : MemberList → Answer → List ℕ
head_text members (answer.State events forkers greatest closed ordered waiting own impostor strange) =
    counts_text events forkers greatest closed ordered waiting ++ own_text own impostor
head_text members (answer.Made place event) = made_head place
head_text members a = (parts_of members a).0

-- the names of members, with a comma before each, and between commas
abbrev pub more_names_in : MemberList → List ℕ → List ℕ
more_names_in members others = more_names (names_of members) others

abbrev pub names_in : MemberList → List ℕ → List ℕ
names_in members listed = names_or_dash (names_of members) listed

-- these names, or these bytes
abbrev pub tail_text : MemberList → Answer → List ℕ
tail_text members (answer.State events forkers greatest closed ordered waiting own impostor strange) = names_in members strange
tail_text members (answer.Made place event) = encode_lower event
tail_text members a = []

-- the name of a member behind a comma
abbrev pub more_name : MemberList → ℕ → List ℕ
more_name members member = codes "," ++ name_of_member (names_of members) member

abbrev pub some_names : MemberList → ℕ → List ℕ → List ℕ
some_names members first others = name_of_member (names_of members) first ++ more_names (names_of members) others

-- ---- the lines that follow

abbrev pub refused_lines : List RefusedEvent → List ℕ
refused_lines events = lines_text (refused_texts events)

abbrev pub entry_lines : List MemberEntry → List ℕ
entry_lines entries = lines_text (entry_texts entries)

abbrev pub balance_line : MemberList → ℕ → ℕ → List ℕ
balance_line members member balance = with_number (name_of_member (names_of members) member) balance ++ codes "\n"

-- the lines of these balances, the first of this member
abbrev pub balance_lines : MemberList → ℕ → List ℕ → List ℕ
balance_lines members member balances = lines_text (balance_texts (names_of members) member balances)

-- a line of the order up to the event's name
abbrev pub ordered_front : MemberList → ℕ → OrderLine → List ℕ
ordered_front members number line =
    decimal number ++ codes " " ++ name_of_member (names_of members) line.creator ++ with_number [] line.sequence
    ++ with_number (codes " round") line.received ++ with_number (codes " time") line.time ++ codes " "

-- and behind the payload
abbrev pub ordered_end : OrderLine → List ℕ
ordered_end line = codes " " ++ effect_text line.effect ++ codes "\n"

abbrev pub ordered_line : MemberList → ℕ → OrderedEvent → List ℕ
ordered_line members number event = ordered_text (names_of members) number event ++ codes "\n"

abbrev pub ordered_parts : MemberList → ℕ → OrderedEvent → List ℕ
ordered_parts members number event =
    ordered_front members number event.line ++ (encode_lower event.line.name ++ codes " ") ++ digits_or_dash event.payload
    ++ ordered_end event.line

-- the lines of these events, the first of this number
abbrev pub ordered_lines : MemberList → ℕ → List OrderedEvent → List ℕ
ordered_lines members number events = lines_text (ordered_texts (names_of members) number events)

-- ---- the whole

-- how many lines follow
abbrev pub further_count : MemberList → Answer → ℕ
further_count members a = length (parts_of members a).1

abbrev pub count_text : ℕ → List ℕ
count_text count = decimal count ++ codes " "

-- the lines that follow
abbrev pub further_text : MemberList → Answer → List ℕ
further_text members a = lines_text (parts_of members a).1

-- the answer's text in these parts
abbrev pub text_in_parts : MemberList → Answer → List ℕ
text_in_parts members a =
    count_text (further_count members a) ++ head_text members a ++ tail_text members a ++ codes "\n" ++ further_text members a
