-- What every node's rows keep to. SWIRLDS-TR-2016-01, sections 3 and 5
use Rattle.std.specs.Prelude.{ℕ, ◌*◌, ◌<◌, ◌≡◌, ◌≢◌, Bool, true, not, ◌&&◌, ◌==◌, nat_lt, List, length, Option, Some, None, slice_get, []}
use Rattle.std.specs.List.{list_all}
use Rattle.hg_model.specs.declared.row.Row.{Row}
use Rattle.hg_model.specs.Places.{has_place, IsEarlier}
use Rattle.hg_model.specs.Stakes.{Stakes, member_count, total}
use Rattle.hg_model.specs.Links.{Link, links, has_few_others, parents, self_parent, other_parents, creator}
use Rattle.hg_model.specs.Forks.{forking}

-- events by members, each after its parents, with a self-parent by its own creator and other-parents by others
pub record IsShaped (n : Stakes) (L : List Link) : Type 0 where
  pub members : (x : ℕ) → x < length L → creator L x < member_count n
  pub earlier : IsEarlier (parents L)
  pub self_by_same : (x p : ℕ) → has_place (self_parent L x) p ≡ true → creator L p ≡ creator L x
  pub others_by_others : (x p : ℕ) → has_place (other_parents L x) p ≡ true → creator L p ≢ creator L x

abbrev pub name_in : Option Row → List ℕ
name_in None = []
name_in (Some row) = row.name

-- the name of row x
unfoldable pub name_at : List Row → ℕ → List ℕ
name_at G x = name_in (slice_get G x)

abbrev pub creator_of_row : Option Row → ℕ
creator_of_row None = 0
creator_of_row (Some row) = row.creator

-- the creator of row x
abbrev pub creator_at : List Row → ℕ → ℕ
creator_at G x = creator_of_row (slice_get G x)

-- no two rows have one name
pub record HasDistinctNames (G : List Row) : Type 0 where
  pub one : (x y : ℕ) → x < length G → y < length G → name_at G x ≡ name_at G y → x ≡ y

-- each row has no parents, or a self-parent and one to four other-parents
abbrev pub have_few_others : List Row → Bool
have_few_others G = list_all (λ row. has_few_others row.parents) G

-- a graph whose members with a fork have less than a third of the stake
pub record IsGraph (n : Stakes) (G : List Row) : Type 0 where
  pub distinct : HasDistinctNames G
  pub few_others : have_few_others G ≡ true
  pub shaped : IsShaped n (links G)
  pub few_forkers : 3 * forking n (links G) < total n

-- x is so placed, as a test
abbrev pub is_shaped_at : Stakes → List Link → ℕ → Bool
is_shaped_at n L x =
    nat_lt (creator L x) (member_count n) && list_all (λ p. nat_lt p x) (parents L x)
    && list_all (λ p. creator L p == creator L x) (self_parent L x)
    && list_all (λ p. not (creator L p == creator L x)) (other_parents L x)
