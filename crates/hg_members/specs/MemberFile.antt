-- What a member file tells: the members, or the first fault in the order of the checks.
-- Keys that are not named here are passed over.
use Rattle.std.specs.Prelude.{ℕ, suc, ℤ, pos, negsuc, ◌^◌, Bool, true, ◌&&◌, nat_le, nat_lt, if◌then◌else◌, List, [], ◌∷◌, ◌++◌, length, sum_by, codes, Option, Some, None, option_and_then, option_map, unwrap_or, Result, Ok, Err}
use Rattle.std.specs.Option.{ok_or}
use Rattle.std.specs.Result.{result_ok}
use Rattle.std.specs.Str.{is_utf8}
use Rattle.hex.specs.Hex.{decode_of}
use Rattle.toml.specs.Data.{Data, Items, no_items, item, table, get, as_array, as_bool, as_integer, as_str}
use Rattle.toml.specs.Parse.{parse_document}
use Rattle.hg_life.specs.declared.members.MemberEntry.{MemberEntry}
use Rattle.hg_life.specs.Members.{MemberList, listed, is_member_name, has_name}
use Rattle.hg_life.specs.Results.{◌>>=◌}
use Rattle.hg_members.specs.declared.fault.MemberFault.{MemberFault}
use Rattle.hg_members.specs.declared.fault.MemberFault.TheVariants.{NotToml, BadCoin, Count, BadName, DoubleName, BadSecret, BadBalance, BadNode, BadStake, SumTooLarge}

-- the document that the bytes are, if they are one
abbrev pub document_of : List ℕ → Option Data
document_of bytes = if is_utf8 bytes then option_map table (parse_document bytes) else None

-- a whole number from 3 to 100
abbrev pub coin_number : ℤ → Result ℕ MemberFault
coin_number (pos n) = if nat_le 3 n && nat_le n 100 then Ok n else Err (BadCoin (pos n))
coin_number (negsuc n) = Err (BadCoin (negsuc n))

-- the coin, 10 where none is given
abbrev pub coin_of : Option Data → Result ℕ MemberFault
coin_of None = Ok 10
coin_of (Some value) = coin_number (unwrap_or (as_integer value) (pos 0))

-- the entries of an array, whatever they are
abbrev pub entries_of : Option Data → Items
entries_of found = unwrap_or (option_and_then as_array found) no_items

-- what a document has under `member`, where it is an array, and the entries there, where they are not too few or too many
abbrev pub member_array : Data → Option Items
member_array document = option_and_then as_array (get (codes "member") document)

abbrev pub count_of : Items → ℕ
count_of no_items = 0
count_of (item value rest) = suc (count_of rest)

-- 2 to 128 entries
abbrev pub checked_count : Items → Result Items MemberFault
checked_count entries = if nat_le 2 (count_of entries) && nat_le (count_of entries) 128 then Ok entries else Err (Count (count_of entries))

abbrev pub member_entries : Data → Result Items MemberFault
member_entries document = checked_count (entries_of (get (codes "member") document))

-- the text under a key of an entry
abbrev pub text_at : List ℕ → Data → Option (List ℕ)
text_at key entry = option_and_then as_str (get key entry)

abbrev pub name_form : List ℕ → Option (List ℕ)
name_form text = if is_member_name text then Some text else None

-- the bytes of 2 to 256 hexadecimal digits, of either case
abbrev pub secret_form : List ℕ → Option (List ℕ)
secret_form text = if nat_le 2 (length text) && nat_le (length text) 256 then result_ok (decode_of text) else None

-- a whole number from 0 on; TOML has none above 2^63 - 1
abbrev pub balance_number : ℤ → Option ℕ
balance_number (pos n) = Some n
balance_number (negsuc n) = None

-- the fields of an entry, where they have their form

abbrev pub entry_name : Data → Option (List ℕ)
entry_name entry = option_and_then name_form (text_at (codes "name") entry)

abbrev pub entry_secret : Data → Option (List ℕ)
entry_secret entry = option_and_then secret_form (text_at (codes "secret") entry)

-- 0 where none is given
abbrev pub balance_of : Option Data → Option ℕ
balance_of None = Some 0
balance_of (Some value) = option_and_then balance_number (as_integer value)

-- true where none is given
abbrev pub node_flag : Option Data → Option Bool
node_flag None = Some true
node_flag (Some value) = as_bool value

-- a whole number from 1 to 2^32 - 1
abbrev pub stake_number : ℤ → Option ℕ
stake_number (pos n) = if nat_le 1 n && nat_lt n (2 ^ 32) then Some n else None
stake_number (negsuc n) = None

-- 1 where none is given
abbrev pub given_stake : Option Data → Option ℕ
given_stake None = Some 1
given_stake (Some value) = option_and_then stake_number (as_integer value)

-- a name that no earlier member has
abbrev pub name_of : List MemberEntry → Data → Result (List ℕ) MemberFault
name_of earlier entry = do
  name ← ok_or (entry_name entry) (BadName (length earlier))
  if has_name earlier name then Err (DoubleName (length earlier)) else Ok name

-- the member that an entry tells, behind the earlier ones
abbrev pub checked_member : List MemberEntry → Data → Result MemberEntry MemberFault
checked_member earlier entry = do
  name ← name_of earlier entry
  secret ← ok_or (entry_secret entry) (BadSecret (length earlier))
  balance ← ok_or (balance_of (get (codes "balance") entry)) (BadBalance (length earlier))
  has_node ← ok_or (node_flag (get (codes "node") entry)) (BadNode (length earlier))
  stake ← ok_or (given_stake (get (codes "stake") entry)) (BadStake (length earlier))
  Ok (record { name = name; secret = secret; balance = balance; stake = stake; has_node = has_node })

-- the earlier members, and those of the entries
abbrev pub members_after : List MemberEntry → Items → Result (List MemberEntry) MemberFault
members_after earlier no_items = Ok earlier
members_after earlier (item entry rest) = checked_member earlier entry >>= (λ m. members_after (earlier ++ m ∷ []) rest)

-- members whose balances add up to less than 2^63
abbrev pub summed : ℕ → List MemberEntry → Result MemberList MemberFault
summed coin members =
    if nat_lt (sum_by (λ (e : MemberEntry). e.balance) members) (2 ^ 63) then Ok (listed members coin) else Err SumTooLarge

abbrev pub members_in : Data → Result MemberList MemberFault
members_in document = do
  coin ← coin_of (get (codes "coin") document)
  entries ← checked_count (entries_of (get (codes "member") document))
  members ← members_after [] entries
  summed coin members

-- what the bytes of a member file tell
unfoldable pub members_of : List ℕ → Result MemberList MemberFault
members_of bytes = ok_or (document_of bytes) NotToml >>= members_in
