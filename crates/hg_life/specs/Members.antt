-- The members: who they are, and what every list of them keeps to.
use Rattle.std.specs.Prelude.{ℕ, ◌≡◌, ◌<◌, ◌≤◌, ◌^◌, Bool, true, false, not, ◌&&◌, ◌||◌, ◌==◌, nat_le, nat_lt, List, [], ◌∷◌, length, map, position, slice_get, sum_by, AllPairs, All, Option}
use Rattle.std.specs.List.{list_all, list_any}
use Rattle.std.specs.Option.{option_map_or}
use Rattle.std.specs.Str.{bytes_eq}
use Rattle.hg_model.specs.Stakes.{Stakes}
use Rattle.hg_life.specs.declared.members.MemberEntry.{MemberEntry}

-- members in their order, and the coin period
pub record MemberList : Type 0 where
  pub entries : List MemberEntry
  pub coin : ℕ

abbrev pub listed : List MemberEntry → ℕ → MemberList
listed entries coin = record { entries = entries; coin = coin }

-- the members' balances, and their names, in their order
abbrev pub balances_of : MemberList → List ℕ
balances_of members = map (λ (e : MemberEntry). e.balance) members.entries

-- their stakes, in their order
abbrev pub stakes_of : MemberList → Stakes
stakes_of members = map (λ (e : MemberEntry). e.stake) members.entries

abbrev pub names_of : MemberList → List (List ℕ)
names_of members = map (λ (e : MemberEntry). e.name) members.entries

abbrev pub is_letter : ℕ → Bool
is_letter b = nat_le 65 b && nat_le b 90 || nat_le 97 b && nat_le b 122

abbrev pub is_digit : ℕ → Bool
is_digit b = nat_le 48 b && nat_le b 57

-- a letter, a digit or an underscore
abbrev pub is_name_byte : ℕ → Bool
is_name_byte b = is_letter b || is_digit b || b == 95

abbrev pub starts_with_letter : List ℕ → Bool
starts_with_letter [] = false
starts_with_letter (b ∷ rest) = is_letter b

-- 1 to 16 letters, digits and underscores, the first a letter
abbrev pub is_member_name : List ℕ → Bool
is_member_name name = starts_with_letter name && nat_le (length name) 16 && list_all is_name_byte name

-- what a member keeps to
pub record IsEntry (e : MemberEntry) : Type 0 where
  pub name : is_member_name e.name ≡ true
  pub secret_some : 1 ≤ length e.secret
  pub secret_fits : length e.secret ≤ 128
  pub stake_some : 1 ≤ e.stake
  pub stake_fits : e.stake < 2 ^ 32

-- what a list of members keeps to
pub record IsMemberList (m : MemberList) : Type 0 where
  pub some : 2 ≤ length m.entries
  pub few : length m.entries ≤ 128
  pub coin_low : 3 ≤ m.coin
  pub coin_high : m.coin ≤ 100
  pub entries : All IsEntry m.entries
  pub distinct : AllPairs (λ (a : MemberEntry) (b : MemberEntry). a.name ≡ b.name → ⊥) m.entries
  pub sum : sum_by (λ (e : MemberEntry). e.balance) m.entries < 2 ^ 63

-- the number of the member with this name, if there is one
abbrev pub member_named : MemberList → List ℕ → Option ℕ
member_named members name = position (λ (e : MemberEntry). bytes_eq e.name name) members.entries

-- the program runs a node for the member; false for a number that is no member's
abbrev pub has_node : MemberList → ℕ → Bool
has_node members m = option_map_or (λ (e : MemberEntry). e.has_node) (slice_get members.entries m) false

-- the same rules as a test: of one member, of a name among members, of names that differ, and of a whole list
abbrev pub is_entry : MemberEntry → Bool
is_entry e =
    is_member_name e.name && nat_le 1 (length e.secret) && nat_le (length e.secret) 128
    && nat_le 1 e.stake && nat_lt e.stake (2 ^ 32)

abbrev pub has_name : List MemberEntry → List ℕ → Bool
has_name entries name = list_any (λ (e : MemberEntry). bytes_eq e.name name) entries

abbrev pub are_named_apart : List MemberEntry → Bool
are_named_apart [] = true
are_named_apart (e ∷ entries) = not (has_name entries e.name) && are_named_apart entries

abbrev pub are_in_range : List MemberEntry → ℕ → Bool
are_in_range entries coin = nat_le 2 (length entries) && nat_le (length entries) 128 && nat_le 3 coin && nat_le coin 100

abbrev pub is_member_list : List MemberEntry → ℕ → Bool
is_member_list entries coin =
    are_in_range entries coin && list_all is_entry entries && are_named_apart entries
    && nat_lt (sum_by (λ (e : MemberEntry). e.balance) entries) (2 ^ 63)
