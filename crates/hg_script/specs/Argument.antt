-- What a word of a line can have to be
use Rattle.std.specs.Prelude.{ℕ, ◌+◌, ◌-◌, ◌*◌, ◌^◌, ◌<◌, ◌≤◌, IfSome, Bool, ◌&&◌, ◌||◌, ◌==◌, nat_le, nat_lt, if◌then◌else◌, List, [], ◌∷◌, length, position, codes, Option, Some, None, Result, Ok, Err}
use Rattle.std.specs.List.{list_any, slice_split}
use Rattle.std.specs.Option.{ok_or}
use Rattle.std.specs.Result.{result_ok}
use Rattle.std.specs.Str.{bytes_eq}
use Rattle.hex.specs.Hex.{decode_of}
use Rattle.hg_model.specs.Links.{most_others}
use Rattle.hg_life.specs.Members.{MemberList, is_digit, is_member_name, has_node, member_named}
use Rattle.hg_life.specs.Results.{◌>>=◌}
use Rattle.hg_life.specs.Workers.{worker_limit}
use Rattle.hg_script.specs.Words.{read_each}
use Rattle.hg_script.specs.declared.fault.Why.{Why}
use Rattle.hg_script.specs.declared.fault.Why.TheVariants.{Member, NoNode, Number, Payload, Label, DoubleLabel}

-- what decimal digits spell, behind others that spell n; nothing where another byte stands among them
abbrev pub value_after : ℕ → List ℕ → Option ℕ
value_after n [] = Some n
value_after n (b ∷ rest) = if is_digit b then value_after (n * 10 + (b - 48)) rest else None

abbrev pub below : ℕ → Option ℕ → Result ℕ Why
below limit None = Err Number
below limit (Some n) = if nat_lt n limit then Ok n else Err Number

-- 1 to 20 decimal digits, whose value is below 2^64
abbrev pub number_of : List ℕ → Result ℕ Why
number_of word = if nat_le 1 (length word) && nat_le (length word) 20 then below (2 ^ 64) (value_after 0 word) else Err Number

-- the same, with a value below 256
abbrev pub byte_of : List ℕ → Result ℕ Why
byte_of word = number_of word >>= (λ n. below 256 (Some n))

-- the number of a worker
abbrev pub worker_of : List ℕ → Result ℕ Why
worker_of word = number_of word >>= (λ w. below worker_limit (Some w))

-- the number of the member with this name
abbrev pub member_of : MemberList → List ℕ → Result ℕ Why
member_of members word = ok_or (member_named members word) Member

abbrev pub with_node : MemberList → ℕ → Result ℕ Why
with_node members m = if has_node members m then Ok m else Err NoNode

abbrev pub other_than : ℕ → ℕ → Result ℕ Why
other_than x y = if y == x then Err Member else Ok y

-- a member with a node
abbrev pub node_of : MemberList → List ℕ → Result ℕ Why
node_of members word = member_of members word >>= with_node members

-- a member with a node, other than x
abbrev pub peer_of : MemberList → ℕ → List ℕ → Result ℕ Why
peer_of members x word = member_of members word >>= other_than x >>= with_node members

-- the number of a label that was made above
abbrev pub label_of : List (List ℕ) → List ℕ → Result ℕ Why
label_of labels word = ok_or (position (bytes_eq word) labels) Label

-- the name of a label to be made, which has the form of a member's name
abbrev pub new_label : List (List ℕ) → List ℕ → Result (List ℕ) Why
new_label labels word =
    if is_member_name word then (if list_any (bytes_eq word) labels then Err DoubleLabel else Ok word) else Err Label

-- the word `-`
abbrev pub is_dash : List ℕ → Bool
is_dash word = bytes_eq word (codes "-")

abbrev pub is_comma : ℕ → Bool
is_comma b = b == 44

-- the parts between commas
abbrev pub parts_of : List ℕ → List (List ℕ)
parts_of text = slice_split is_comma text

-- the numbers of one to four labels between commas
abbrev pub labels_of : List (List ℕ) → List ℕ → Result (List ℕ) Why
labels_of labels word =
    if nat_le (length (parts_of word)) most_others then read_each (label_of labels) (parts_of word) else Err Label

-- a label and one to four, or none for `- -`
abbrev pub parents_of : List (List ℕ) → List ℕ → List ℕ → Result (Option (ℕ × List ℕ)) Why
parents_of labels s o =
    if is_dash s && is_dash o then Ok None
    else if is_dash s || is_dash o then Err Label
    else label_of labels s >>= (λ self_label. labels_of labels o >>= (λ others. Ok (Some (self_label, others))))

-- there are one to four labels
abbrev pub AreFewLabels : List ℕ → Type 0
AreFewLabels labels = (0 < length labels) × (length labels ≤ most_others)

-- with a label for the self-parent there are so many others
abbrev pub AreLabels : Option (ℕ × List ℕ) → Type 0
AreLabels parents = IfSome parents (λ pair. AreFewLabels pair.1)

-- the bytes of so many hexadecimal digits, of either case
abbrev pub digits_form : ℕ → ℕ → List ℕ → Option (List ℕ)
digits_form least most word = if nat_le least (length word) && nat_le (length word) most then result_ok (decode_of word) else None

-- the bytes of 2 to 8,192 digits
abbrev pub raw_bytes : List ℕ → Result (List ℕ) Why
raw_bytes word = ok_or (digits_form 2 8192 word) Payload
