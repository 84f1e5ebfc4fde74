-- Worked scripts, computed: what is taken, and one for each why
use Rattle.std.proofs.Common.{◌≡◌, ℕ, zero, suc, replicate, true, false, List, [], ◌∷◌, ◌++◌, codes, Result, Ok, Err, Some, None, refl}
use Rattle.hg_life.specs.Members.{MemberList, listed}
use Rattle.hg_life.specs.Pay.{pay_bytes}
use Rattle.hg_script.specs.declared.fault.ScriptFault.{ScriptFault}
use Rattle.hg_script.specs.declared.fault.Why.{Why}
use Rattle.hg_script.specs.declared.fault.Why.TheVariants.{Utf8, Word, Arity, Member, NoNode, Number, Payload, Label, DoubleLabel, NotFirst, First, Workers}
use Rattle.hg_script.specs.declared.line.Gossip.{Gossip}
use Rattle.hg_script.specs.declared.line.Gossip.TheVariants.{Create, Sync, Pull, Join, Give}
use Rattle.hg_script.specs.declared.line.Source.{Source}
use Rattle.hg_script.specs.declared.line.Source.TheVariants.{Last, Forged, Raw, Altered, Front}
use Rattle.hg_script.specs.declared.line.Part.TheVariants as part
use Rattle.hg_script.specs.declared.line.Action.{Action}
use Rattle.hg_script.specs.declared.line.Action.TheVariants as action
use Rattle.hg_script.specs.declared.line.Line.{Line}
use Rattle.hg_script.specs.Script.{lines_of}
use Rattle.hg_script.proofs.OnLiterals.{script_on_literals}

-- A and B have nodes, N has none
abbrev members : MemberList
members = listed
    (record { name = codes "A"; secret = 1 ∷ []; balance = 0; stake = 1; has_node = true }
    ∷ record { name = codes "B"; secret = 2 ∷ []; balance = 0; stake = 1; has_node = true }
    ∷ record { name = codes "N"; secret = 3 ∷ []; balance = 0; stake = 1; has_node = false } ∷ []) 10

abbrev script : List ℕ → Result (List Line) ScriptFault
script bytes = lines_of bytes members 0

abbrev refused : ℕ → Why → Result (List Line) ScriptFault
refused line why = Err (record { line = line; why = why })

abbrev line_at : ℕ → Action → Line
line_at number action = record { number = number; action = action }

abbrev does : ℕ → Gossip → Line
does number gossip = line_at number (action.Part (part.Gossip gossip))

abbrev makes : ℕ → Source → Line
makes number source = line_at number (action.Part (part.Label source))

-- the same in a run with a worker
abbrev script_with_worker : List ℕ → Result (List Line) ScriptFault
script_with_worker bytes = lines_of bytes members 1

no_bytes : script [] ≡ Ok []
unfolding script_on_literals
no_bytes = refl

three_lines : script (codes "create A 1\n" ++ 9 ∷ (codes "create  B 18446744073709551615 " ++ 13 ∷ 10 ∷ (codes "sync B" ++ 9 ∷ codes "A 00000000000000000007")))
    ≡ Ok (does 1 (Create 0 1 []) ∷ does 2 (Create 1 18446744073709551615 []) ∷ does 3 (Sync 1 0 7 []) ∷ [])
unfolding script_on_literals
three_lines = refl

no_text : script (codes "create A 1\nfoo " ++ 195 ∷ 10 ∷ []) ≡ refused 2 Utf8
unfolding script_on_literals
no_text = refl

other_word : script (codes "make A 1\n") ≡ refused 1 Word
unfolding script_on_literals
other_word = refl

-- a vertical tab parts no words
one_word : script (codes "create" ++ 11 ∷ codes "A 1\n") ≡ refused 1 Word
unfolding script_on_literals
one_word = refl

no_words : script (codes "create A 1\n \n") ≡ Ok (does 1 (Create 0 1 []) ∷ [])
unfolding script_on_literals
no_words = refl

comment : script (codes "# a comment\ncreate A 1\n") ≡ Ok (does 2 (Create 0 1 []) ∷ [])
unfolding script_on_literals
comment = refl

few_words : script (codes "create A\n") ≡ refused 1 Arity
unfolding script_on_literals
few_words = refl

many_words : script (codes "create ? ? ? ? ? ? ? ?") ≡ refused 1 Arity
unfolding script_on_literals
many_words = refl

no_member : script (codes "create a 1\n") ≡ refused 1 Member
unfolding script_on_literals
no_member = refl

itself : script (codes "create A 1\nsync A A x\n") ≡ refused 2 Member
unfolding script_on_literals
itself = refl

no_node : script (codes "create N x\n") ≡ refused 1 NoNode
unfolding script_on_literals
no_node = refl

peer_no_node : script (codes "create A 1\nsync A N x\n") ≡ refused 2 NoNode
unfolding script_on_literals
peer_no_node = refl

large_number : script (codes "create A 18446744073709551616\n") ≡ refused 1 Number
unfolding script_on_literals
large_number = refl

long_number : script (codes "create A 000000000000000000001\n") ≡ refused 1 Number
unfolding script_on_literals
long_number = refl

signed_number : script (codes "create A +1\n") ≡ refused 1 Number
unfolding script_on_literals
signed_number = refl

-- a carriage return at the very end belongs to the word
bare_return : script (codes "create A 1" ++ 13 ∷ []) ≡ refused 1 Number
unfolding script_on_literals
bare_return = refl

created_twice : script (codes "create A 1\ncreate A 2\n") ≡ refused 2 NotFirst
unfolding script_on_literals
created_twice = refl

not_created : script (codes "create B 1\nsync A B 2\ncreate A") ≡ refused 2 First
unfolding script_on_literals
not_created = refl

every_line : script (codes "create A 1\ncreate B 2\nname a A\njoin B a 3\npull A B\nforge f N a a 9\nforge g A - - 0\nraw r 00fF\nalter s r 1 255\ncut A s 18446744073709551615\ngive A A\nfreeze A 15\npublish B 00\nkept A\nshow A\nnames B\nsync A B 4")
    ≡ Ok (does 1 (Create 0 1 []) ∷ does 2 (Create 1 2 []) ∷ makes 3 (Last 0) ∷ does 4 (Join 1 (0 ∷ []) 3 []) ∷ does 5 (Pull 0 1) ∷ makes 6 (Forged 2 (Some (0, 0 ∷ [])) 9 [])
    ∷ makes 7 (Forged 0 None 0 []) ∷ makes 8 (Raw (0 ∷ 255 ∷ [])) ∷ makes 9 (Altered 3 1 255) ∷ makes 10 (Front 4 18446744073709551615)
    ∷ does 11 (Give 0 5) ∷ line_at 12 (action.Freeze 0 15) ∷ line_at 13 (action.Publish 1 0) ∷ line_at 14 (action.Kept 0)
    ∷ line_at 15 (action.Show 0) ∷ line_at 16 (action.Names 1) ∷ does 17 (Sync 0 1 4 []) ∷ [])
unfolding script_on_literals
every_line = refl

raw_one_digit : script (codes "raw r 0") ≡ refused 1 Payload
unfolding script_on_literals
raw_one_digit = refl

raw_odd : script (codes "raw r 000") ≡ refused 1 Payload
unfolding script_on_literals
raw_odd = refl

raw_no_digit : script (codes "raw r 0g") ≡ refused 1 Payload
unfolding script_on_literals
raw_no_digit = refl

unknown_label : script (codes "give A a") ≡ refused 1 Label
unfolding script_on_literals
unknown_label = refl

-- a line's own label is not made above it
own_label : script (codes "cut a a 1") ≡ refused 1 Label
unfolding script_on_literals
own_label = refl

later_label : script (codes "give A a\nraw a 00") ≡ refused 1 Label
unfolding script_on_literals
later_label = refl

digit_label : script (codes "raw 1a 00") ≡ refused 1 Label
unfolding script_on_literals
digit_label = refl

-- 16 letters are a label
long_label : script (codes "raw abcdefghijklmnop 00\nraw abcdefghijklmnopq 00") ≡ refused 2 Label
unfolding script_on_literals
long_label = refl

dash_label : script (codes "raw - 00") ≡ refused 1 Label
unfolding script_on_literals
dash_label = refl

-- one dash alone, told before the time
self_dash : script (codes "raw a 00\nforge b A - a x") ≡ refused 2 Label
unfolding script_on_literals
self_dash = refl

other_dash : script (codes "raw a 00\nforge b A a - x") ≡ refused 2 Label
unfolding script_on_literals
other_dash = refl

-- several labels of other-parents

four_labels : script (codes "create A 1\ncreate B 2\nname a A\nname b B\njoin A b,a,b,b 3\nforge f N a b,a 4")
    ≡ Ok (does 1 (Create 0 1 []) ∷ does 2 (Create 1 2 []) ∷ makes 3 (Last 0) ∷ makes 4 (Last 1) ∷ does 5 (Join 0 (1 ∷ 0 ∷ 1 ∷ 1 ∷ []) 3 [])
    ∷ makes 6 (Forged 2 (Some (0, 1 ∷ 0 ∷ [])) 4 []) ∷ [])
unfolding script_on_literals
four_labels = refl

five_labels : script (codes "raw a 00\nforge f A a a,a,a,a,a 1") ≡ refused 2 Label
unfolding script_on_literals
five_labels = refl

no_label_between : script (codes "raw a 00\nforge f A a a,,a 1") ≡ refused 2 Label
unfolding script_on_literals
no_label_between = refl

no_label_behind : script (codes "raw a 00\nforge f A a a, 1") ≡ refused 2 Label
unfolding script_on_literals
no_label_behind = refl

dash_before_label : script (codes "raw a 00\nforge f A a -,a 1") ≡ refused 2 Label
unfolding script_on_literals
dash_before_label = refl

dash_behind_label : script (codes "raw a 00\nforge f A a a,- 1") ≡ refused 2 Label
unfolding script_on_literals
dash_behind_label = refl

several_self_parents : script (codes "raw a 00\nforge f A a,a a 1") ≡ refused 2 Label
unfolding script_on_literals
several_self_parents = refl

own_parent : script (codes "forge a A a a 1") ≡ refused 1 Label
unfolding script_on_literals
own_parent = refl

label_twice : script (codes "raw a 00\nname a x") ≡ refused 2 DoubleLabel
unfolding script_on_literals
label_twice = refl

wide_mask : script (codes "raw a 00\nalter b a 0 256") ≡ refused 2 Number
unfolding script_on_literals
wide_mask = refl

label_first : script (codes "join A a x") ≡ refused 1 Label
unfolding script_on_literals
label_first = refl

join_first : script (codes "raw a 00\njoin A a 1") ≡ refused 2 First
unfolding script_on_literals
join_first = refl

name_no_node : script (codes "name a N") ≡ refused 1 NoNode
unfolding script_on_literals
name_no_node = refl

give_no_node : script (codes "give N a") ≡ refused 1 NoNode
unfolding script_on_literals
give_no_node = refl

great_worker : script (codes "publish A 16") ≡ refused 1 Number
unfolding script_on_literals
great_worker = refl

node_before_worker : script (codes "freeze N x") ≡ refused 1 NoNode
unfolding script_on_literals
node_before_worker = refl

show_no_node : script (codes "show N") ≡ refused 1 NoNode
unfolding script_on_literals
show_no_node = refl

names_no_member : script (codes "names n") ≡ refused 1 Member
unfolding script_on_literals
names_no_member = refl

pull_itself : script (codes "pull A A") ≡ refused 1 Member
unfolding script_on_literals
pull_itself = refl

many_forge_words : script (codes "forge f A - - 1 hex: 1") ≡ refused 1 Arity
unfolding script_on_literals
many_forge_words = refl

few_raw_words : script (codes "raw a") ≡ refused 1 Arity
unfolding script_on_literals
few_raw_words = refl

-- the time comes before the rule on first events

number_before_first : script (codes "create A 1\ncreate A x\n") ≡ refused 2 Number
unfolding script_on_literals
number_before_first = refl

number_before_later : script (codes "sync A B x\n") ≡ refused 1 Number
unfolding script_on_literals
number_before_later = refl

-- one carriage return is dropped, and not two
two_returns : script (codes "create A 1" ++ 13 ∷ 13 ∷ 10 ∷ []) ≡ refused 1 Number
unfolding script_on_literals
two_returns = refl

-- a dash is no label to be made, and it is looked at before the member
dash_before_member : script (codes "forge - ? - - 1\n") ≡ refused 1 Label
unfolding script_on_literals
dash_before_member = refl

-- in a run with a worker

freeze_with_worker : script_with_worker (codes "create A 1\nfreeze A 0\nkept A") ≡ refused 2 Workers
unfolding script_on_literals
freeze_with_worker = refl

publish_with_worker : script_with_worker (codes "publish B 15") ≡ refused 1 Workers
unfolding script_on_literals
publish_with_worker = refl

kept_with_worker : script_with_worker (codes "create A 1\nkept A") ≡ refused 2 Workers
unfolding script_on_literals
kept_with_worker = refl

-- which is looked at last
number_before_workers : script_with_worker (codes "freeze A 16") ≡ refused 1 Number
unfolding script_on_literals
number_before_workers = refl

other_with_worker : script_with_worker (codes "create A 1\nshow A\nnames B") ≡ Ok (does 1 (Create 0 1 []) ∷ line_at 2 (action.Show 0) ∷ line_at 3 (action.Names 1) ∷ [])
unfolding script_on_literals
other_with_worker = refl

-- a payload word, looked at last

-- so large an amount below 256, in eight bytes
abbrev eight_bytes : ℕ → List ℕ
eight_bytes amount = 0 ∷ 0 ∷ 0 ∷ 0 ∷ 0 ∷ 0 ∷ 0 ∷ amount ∷ []

payloads : script (codes "create A 1 pay:B=30,#7=80\ncreate B 2 hex:\nsync A B 3 hex:00fF\nname a A\njoin B a 4 pay:A=0\nforge f N a a 5 hex:7F")
    ≡ Ok (does 1 (Create 0 1 (2 ∷ 0 ∷ 1 ∷ (eight_bytes 30 ++ 0 ∷ 7 ∷ eight_bytes 80))) ∷ does 2 (Create 1 2 []) ∷ does 3 (Sync 0 1 3 (0 ∷ 255 ∷ []))
    ∷ makes 4 (Last 0) ∷ does 5 (Join 1 (0 ∷ []) 4 (1 ∷ 0 ∷ 0 ∷ eight_bytes 0)) ∷ makes 6 (Forged 2 (Some (0, 0 ∷ [])) 5 (127 ∷ [])) ∷ [])
unfolding script_on_literals
payloads = refl

-- the greatest amount, and the greatest number of a receiver
greatest_amount : script (codes "create A 1 pay:#65535=18446744073709551615") ≡ Ok (does 1 (Create 0 1 (1 ∷ replicate 10 255)) ∷ [])
unfolding script_on_literals
greatest_amount = refl

large_amount : script (codes "create A 1 pay:A=18446744073709551616") ≡ refused 1 Number
unfolding script_on_literals
large_amount = refl

large_id : script (codes "create A 1 pay:#65536=1") ≡ refused 1 Number
unfolding script_on_literals
large_id = refl

-- so many items more
abbrev items_more : ℕ → List ℕ
items_more zero = []
items_more (suc n) = codes ",B=1" ++ items_more n

sixty_four_items : script (codes "create A 1 pay:B=1" ++ items_more 63) ≡ Ok (does 1 (Create 0 1 (pay_bytes (replicate 64 (record { receiver = 1; amount = 1 })))) ∷ [])
unfolding script_on_literals
sixty_four_items = refl

sixty_five_items : script (codes "create A 1 pay:B=1" ++ items_more 64) ≡ refused 1 Payload
unfolding script_on_literals
sixty_five_items = refl

no_items : script (codes "create A 1 pay:") ≡ refused 1 Payload
unfolding script_on_literals
no_items = refl

no_last_item : script (codes "create A 1 pay:A=1,") ≡ refused 1 Payload
unfolding script_on_literals
no_last_item = refl

two_equals : script (codes "create A 1 pay:A=1=1") ≡ refused 1 Payload
unfolding script_on_literals
two_equals = refl

no_amount : script (codes "create A 1 pay:A=") ≡ refused 1 Number
unfolding script_on_literals
no_amount = refl

no_id : script (codes "create A 1 pay:#=1") ≡ refused 1 Number
unfolding script_on_literals
no_id = refl

digit_receiver : script (codes "create A 1 pay:9=1") ≡ refused 1 Member
unfolding script_on_literals
digit_receiver = refl

no_receiver : script (codes "create A 1 pay:=1") ≡ refused 1 Member
unfolding script_on_literals
no_receiver = refl

-- the form of all items is looked at before the first receiver, and a receiver before its amount
form_before_receiver : script (codes "create A 1 pay:a=1,B") ≡ refused 1 Payload
unfolding script_on_literals
form_before_receiver = refl

receiver_before_amount : script (codes "create A 1 pay:B=1,a=x") ≡ refused 1 Member
unfolding script_on_literals
receiver_before_amount = refl

amount_before_receiver : script (codes "create A 1 pay:B=x,a=1") ≡ refused 1 Number
unfolding script_on_literals
amount_before_receiver = refl

hex_odd : script (codes "create A 1 hex:000") ≡ refused 1 Payload
unfolding script_on_literals
hex_odd = refl

no_form : script (codes "create A 1 00") ≡ refused 1 Payload
unfolding script_on_literals
no_form = refl

time_before_payload : script (codes "create A x pay:") ≡ refused 1 Number
unfolding script_on_literals
time_before_payload = refl

payload_before_first : script (codes "create A 1\ncreate A 2 pay:") ≡ refused 2 Payload
unfolding script_on_literals
payload_before_first = refl

payload_before_later : script (codes "sync A B 1 hex:0") ≡ refused 1 Payload
unfolding script_on_literals
payload_before_later = refl
