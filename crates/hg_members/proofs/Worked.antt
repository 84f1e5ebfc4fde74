-- Worked member files, computed: two that are taken, and one for each fault
use Rattle.std.proofs.Common.{◌≡◌, ℕ, pos, negsuc, true, false, List, [], ◌∷◌, ◌++◌, codes, Ok, Err, refl}
use Rattle.std.specs.Char.{encode_utf8}
use Rattle.std.specs.Str.{chars, is_utf8}
use Rattle.hex.proofs.OnLiterals.{hex_on_literals}
use Rattle.toml.proofs.OnLiterals.{toml_on_literals}
use Rattle.hg_life.specs.Members.{listed}
use Rattle.hg_members.specs.declared.fault.MemberFault.TheVariants.{NotToml, BadCoin, Count, BadName, DoubleName, BadSecret, BadBalance, BadNode, BadStake, SumTooLarge}
use Rattle.hg_members.specs.MemberFile.{members_of}

-- two entries that are taken
abbrev a : List ℕ
a = codes "[[member]]\nname = \"A\"\nsecret = \"0b0b\"\n"

abbrev b : List ℕ
b = codes "[[member]]\nname = \"B\"\nsecret = \"0C0c\"\nbalance = 7\nnode = false\nstake = 3\n"

two_members : members_of (codes "coin = 0x10\nother = 1\n" ++ (a ++ b)) ≡ Ok (listed
    (record { name = codes "A"; secret = 0x0b ∷ 0x0b ∷ []; balance = 0; stake = 1; has_node = true }
    ∷ record { name = codes "B"; secret = 0x0c ∷ 0x0c ∷ []; balance = 7; stake = 3; has_node = false } ∷ []) 16)
unfolding members_of toml_on_literals hex_on_literals is_utf8 chars encode_utf8
two_members = refl

in_one_line : members_of (codes "member = [{name='a_1',secret='0b',other='x'},{name='B',secret='0c',balance=0x7FFFFFFFFFFFFFFF,stake=0xFFFFFFFF}]") ≡ Ok (listed
    (record { name = codes "a_1"; secret = 0x0b ∷ []; balance = 0; stake = 1; has_node = true }
    ∷ record { name = codes "B"; secret = 0x0c ∷ []; balance = 0x7FFFFFFFFFFFFFFF; stake = 0xFFFFFFFF; has_node = true } ∷ []) 10)
unfolding members_of toml_on_literals hex_on_literals is_utf8 chars encode_utf8
in_one_line = refl

no_value : members_of (codes "coin =\n" ++ (a ++ b)) ≡ Err NotToml
unfolding members_of toml_on_literals hex_on_literals is_utf8 chars encode_utf8
no_value = refl

-- a comment that is not UTF-8
no_text : members_of (a ++ (b ++ codes "# " ++ 255 ∷ 10 ∷ [])) ≡ Err NotToml
unfolding members_of toml_on_literals hex_on_literals is_utf8 chars encode_utf8
no_text = refl

coin_low : members_of (codes "coin = 2\n") ≡ Err (BadCoin (pos 2))
unfolding members_of toml_on_literals hex_on_literals is_utf8 chars encode_utf8
coin_low = refl

coin_negative : members_of (codes "coin = -7\n" ++ (a ++ b)) ≡ Err (BadCoin (negsuc 6))
unfolding members_of toml_on_literals hex_on_literals is_utf8 chars encode_utf8
coin_negative = refl

coin_of_no_number : members_of (codes "coin = 10.0\n" ++ (a ++ b)) ≡ Err (BadCoin (pos 0))
unfolding members_of toml_on_literals hex_on_literals is_utf8 chars encode_utf8
coin_of_no_number = refl

no_members : members_of [] ≡ Err (Count 0)
unfolding members_of toml_on_literals hex_on_literals is_utf8 chars encode_utf8
no_members = refl

no_array : members_of (codes "[member]\nname = \"A\"\n") ≡ Err (Count 0)
unfolding members_of toml_on_literals hex_on_literals is_utf8 chars encode_utf8
no_array = refl

one_member : members_of a ≡ Err (Count 1)
unfolding members_of toml_on_literals hex_on_literals is_utf8 chars encode_utf8
one_member = refl

no_tables : members_of (codes "member = [1, 2]\n") ≡ Err (BadName 0)
unfolding members_of toml_on_literals hex_on_literals is_utf8 chars encode_utf8
no_tables = refl

name_from_digit : members_of (a ++ codes "[[member]]\nname = \"1\"\nsecret = \"0\"\n") ≡ Err (BadName 1)
unfolding members_of toml_on_literals hex_on_literals is_utf8 chars encode_utf8
name_from_digit = refl

name_twice : members_of (a ++ codes "[[member]]\nname = \"A\"\nsecret = \"x\"\n") ≡ Err (DoubleName 1)
unfolding members_of toml_on_literals hex_on_literals is_utf8 chars encode_utf8
name_twice = refl

odd_secret : members_of (codes "[[member]]\nname = \"A\"\nsecret = \"0\"\nbalance = -1\n" ++ b) ≡ Err (BadSecret 0)
unfolding members_of toml_on_literals hex_on_literals is_utf8 chars encode_utf8
odd_secret = refl

balance_negative : members_of (b ++ codes "[[member]]\nname = \"A\"\nsecret = \"0b\"\nbalance = -1\nnode = 1\n") ≡ Err (BadBalance 1)
unfolding members_of toml_on_literals hex_on_literals is_utf8 chars encode_utf8
balance_negative = refl

node_of_number : members_of (b ++ codes "[[member]]\nname = \"A\"\nsecret = \"0b\"\nnode = 1\nstake = 0\n") ≡ Err (BadNode 1)
unfolding members_of toml_on_literals hex_on_literals is_utf8 chars encode_utf8
node_of_number = refl

no_stake : members_of (codes "[[member]]\nname = \"A\"\nsecret = \"0b\"\nstake = 0\n" ++ b) ≡ Err (BadStake 0)
unfolding members_of toml_on_literals hex_on_literals is_utf8 chars encode_utf8
no_stake = refl

stake_negative : members_of (b ++ codes "[[member]]\nname = \"A\"\nsecret = \"0b\"\nstake = -1\n") ≡ Err (BadStake 1)
unfolding members_of toml_on_literals hex_on_literals is_utf8 chars encode_utf8
stake_negative = refl

stake_too_great : members_of (b ++ codes "[[member]]\nname = \"A\"\nsecret = \"0b\"\nstake = 4294967296\n") ≡ Err (BadStake 1)
unfolding members_of toml_on_literals hex_on_literals is_utf8 chars encode_utf8
stake_too_great = refl

stake_of_no_number : members_of (b ++ codes "[[member]]\nname = \"A\"\nsecret = \"0b\"\nstake = 1.0\n") ≡ Err (BadStake 1)
unfolding members_of toml_on_literals hex_on_literals is_utf8 chars encode_utf8
stake_of_no_number = refl

sum_large : members_of (b ++ codes "[[member]]\nname = \"A\"\nsecret = \"0b\"\nbalance = 9223372036854775801\n") ≡ Err SumTooLarge
unfolding members_of toml_on_literals hex_on_literals is_utf8 chars encode_utf8
sum_large = refl
