-- What is noted of rows for strongly seeing them
use Rattle.std.specs.Prelude.{◌≡◌, ◌≢◌, ℕ, ◌+◌, ◌-◌, ◌^◌, ◌<◌, ◌≤◌, ◌⊎◌, ◌&&◌, nat_lt, nat_le, min, Bool, true, false, cond, List, [], length, get_or, slice_index, slice_set, Option, Some, None}
use Rattle.hg_model.specs.Stakes.{Stakes, member_count, stake_where}
use Rattle.hg_model.specs.Links.{Link}
use Rattle.hg_branches.specs.Branches.{FirstDescendants}
use Rattle.hg_branches.specs.Columns.{branching_of}
use Rattle.hg_branches.specs.Firsts.{none_by, wide_first}
use Rattle.hg_branches.specs.Lines.{is_strong_by_own}
use Rattle.hg_branches.specs.declared.landmarks.NextRow.{NextRow}

-- one more than the place of the row; its branch; the number of the landmark before it on that branch, or 0; what stands
-- where a branch has no descendant; for each member's own its first one; and what those members weigh at most who have
-- one. The number of a landmark is one more than its index
pub record LandmarkView : Type 0 where
  pub end : ℕ
  pub branch : ℕ
  pub before : ℕ
  pub none : ℕ
  pub firsts : List ℕ
  pub reached : ℕ

-- what is read where there is no landmark
abbrev pub no_landmark : LandmarkView
no_landmark = record { end = 0; branch = 0; before = 0; none = 0; firsts = []; reached = 0 }

-- the landmark at this index
abbrev pub landmark_at : List LandmarkView → ℕ → LandmarkView
landmark_at landmarks i = get_or landmarks i no_landmark

-- member m has a descendant on its own branch
abbrev pub is_reached : ℕ → List ℕ → ℕ → Bool
is_reached none firsts m = nat_lt (slice_index firsts m) none

-- the members who have one weigh no more than is noted
abbrev pub IsWeighed : Stakes → LandmarkView → Type 0
IsWeighed n k = stake_where n (is_reached k.none k.firsts) ≤ k.reached

-- no counts of a row tell of first descendants with more than two thirds of the stake
abbrev pub IsNeverStrong : Stakes → LandmarkView → Type 0
IsNeverStrong n k =
    (counts : List ℕ) → ((b : ℕ) → b < member_count n → slice_index counts b < k.none) →
    is_strong_by_own n k.firsts counts ≡ false

-- a landmark has the first descendants of a row of the graph
pub record HoldsFirsts (n : Stakes) (L : List Link) (branches makers : List ℕ) (k : LandmarkView) : Type 0 where
  pub some : 0 < k.end
  pub inside : k.end ≤ length L
  pub short : length L < k.none
  pub long : length k.firsts ≡ member_count n
  pub on : slice_index branches (k.end - 1) ≡ k.branch
  pub told : FirstDescendants (member_count n) k.none L (branching_of branches makers) (k.end - 1) (slice_index k.firsts)
  pub weighed : IsWeighed n k

-- of the first `many` landmarks the last on branch c has this number, or it is 0 where none is on c
pub record IsLastOn (landmarks : List LandmarkView) (many c number : ℕ) : Type 0 where
  pub inside : number ≤ many
  pub on : 0 < number → (landmark_at landmarks (number - 1)).branch ≡ c
  pub none_later : (i : ℕ) → number ≤ i → i < many → (landmark_at landmarks i).branch ≢ c

-- the landmarks stand in the order of the graph, and each names the one before it on its branch
pub record HoldsChains (landmarks : List LandmarkView) : Type 0 where
  pub low : (i : ℕ) → i < length landmarks → i < (landmark_at landmarks i).end
  pub rise : (i j : ℕ) → i ≤ j → j < length landmarks → (landmark_at landmarks i).end ≤ (landmark_at landmarks j).end
  pub before : (j : ℕ) → j < length landmarks → IsLastOn landmarks j (landmark_at landmarks j).branch (landmark_at landmarks j).before

-- the number of the last landmark of each branch
abbrev pub HoldsNewest : List LandmarkView → List ℕ → Type 0
HoldsNewest landmarks newest = (c : ℕ) → IsLastOn landmarks (length landmarks) c (slice_index newest c)

-- where row y has a number, it is that of its landmark
abbrev pub HoldsNumbers : List LandmarkView → List ℕ → Type 0
HoldsNumbers landmarks numbers = (y : ℕ) → 0 < slice_index numbers y → (slice_index numbers y ≤ length landmarks) × ((landmark_at landmarks (slice_index numbers y - 1)).end ≡ y + 1)

-- each landmark has its first descendants, and is found by its branch and by its place
pub record HoldsLandmarks (n : Stakes) (L : List Link) (branches makers : List ℕ) (landmarks : List LandmarkView) (newest numbers : List ℕ) : Type 0 where
  pub each : (i : ℕ) → i < length landmarks → HoldsFirsts n L branches makers (landmark_at landmarks i)
  pub chains : HoldsChains landmarks
  pub by_branch : HoldsNewest landmarks newest
  pub newest_all : length newest ≡ length makers
  pub by_place : HoldsNumbers landmarks numbers
  pub numbers_all : length numbers ≤ length L

-- the landmark is an ancestor of the next row, which counts so much of its branch, and of no row before it on the branch of
-- that one
abbrev pub is_first : ℕ → NextRow → LandmarkView → Bool
is_first count next k = nat_le k.end count && nat_lt next.end (slice_index k.firsts next.branch)

-- what members weigh at most with one of this stake more
abbrev pub with_stake : ℕ → ℕ → ℕ
with_stake reached stake = min (reached + stake) (2 ^ 64 - 1)

-- what is noted once that row has come
abbrev pub noted_once : ℕ → NextRow → LandmarkView → LandmarkView
noted_once count next k = record {
  end = k.end;
  branch = k.branch;
  before = k.before;
  none = k.none;
  firsts = cond (is_first count next k) (slice_set k.firsts next.branch next.end) k.firsts;
  reached = cond (is_first count next k) (with_stake k.reached next.stake) k.reached;
}

-- the same by what the row counts of each branch
abbrev pub noted : List ℕ → NextRow → LandmarkView → LandmarkView
noted counts next k = noted_once (slice_index counts k.branch) next k

-- the landmarks of branch c up to this end need no note
abbrev pub AreNotedOn : ℕ → ℕ → ℕ → NextRow → List LandmarkView → Type 0
AreNotedOn c known count next landmarks =
    (i : ℕ) → i < length landmarks → (landmark_at landmarks i).branch ≡ c → (landmark_at landmarks i).end ≤ known → noted_once count next (landmark_at landmarks i) ≡ landmark_at landmarks i

-- the same where these are the counts of the self-parent and of the row
abbrev pub AreNotedBy : List ℕ → List ℕ → NextRow → List LandmarkView → ℕ → Type 0
AreNotedBy known counts next landmarks c = AreNotedOn c (slice_index known c) (slice_index counts c) next landmarks

-- the landmarks of branch c behind this end have no descendant yet on the branch of the next row
abbrev pub AreFreshOn : ℕ → ℕ → NextRow → List LandmarkView → Type 0
AreFreshOn c known next landmarks =
    (i : ℕ) → i < length landmarks → (landmark_at landmarks i).branch ≡ c → known < (landmark_at landmarks i).end →
    (next.end < (landmark_at landmarks i).none) ×
    (next.branch < length (landmark_at landmarks i).firsts → next.end < slice_index (landmark_at landmarks i).firsts next.branch)

-- the same where these are the counts of the self-parent
abbrev pub AreFreshBy : List ℕ → NextRow → List LandmarkView → ℕ → Type 0
AreFreshBy known next landmarks c = AreFreshOn c (slice_index known c) next landmarks

-- the landmarks of branch c are noted
abbrev pub NotesOn : ℕ → ℕ → NextRow → List LandmarkView → List LandmarkView → Type 0
NotesOn c count next old new = (i : ℕ) → i < length old → (landmark_at old i).branch ≡ c → landmark_at new i ≡ noted_once count next (landmark_at old i)

-- the same by the counts of the row
abbrev pub NotesBy : List ℕ → NextRow → List LandmarkView → List LandmarkView → ℕ → Type 0
NotesBy counts next old new c = NotesOn c (slice_index counts c) next old new

-- each landmark is noted
abbrev pub NotesAll : List ℕ → NextRow → List LandmarkView → List LandmarkView → Type 0
NotesAll counts next old new = (i : ℕ) → i < length old → landmark_at new i ≡ noted counts next (landmark_at old i)

-- those of branch k and the ones behind it stay
abbrev pub LeavesFrom : ℕ → List LandmarkView → List LandmarkView → Type 0
LeavesFrom k old new = (i : ℕ) → k ≤ (landmark_at old i).branch → landmark_at new i ≡ landmark_at old i

-- those of the branches before k stay
abbrev pub LeavesBelow : ℕ → List LandmarkView → List LandmarkView → Type 0
LeavesBelow k old new = (i : ℕ) → (landmark_at old i).branch < k → landmark_at new i ≡ landmark_at old i

-- those of other branches than c stay
abbrev pub LeavesOthers : ℕ → List LandmarkView → List LandmarkView → Type 0
LeavesOthers c old new = (i : ℕ) → (landmark_at old i).branch ≢ c → landmark_at new i ≡ landmark_at old i

-- the lanes in which a row counts more than is known, below the top, have 1, and the others 0
abbrev pub AreNews : List ℕ → List ℕ → List ℕ → List ℕ → Type 0
AreNews known tops counts news =
    (c : ℕ) → c < length counts → slice_index news c ≡ cond (nat_lt (slice_index known c) (min (slice_index tops c) (slice_index counts c))) 1 0

-- no landmark of a branch is later than its top
abbrev pub HoldsTops : List LandmarkView → List ℕ → Type 0
HoldsTops landmarks tops = (i : ℕ) → i < length landmarks → (landmark_at landmarks i).end ≤ slice_index tops (landmark_at landmarks i).branch

-- the landmark in 32 bits
pub record Widens (old new : LandmarkView) : Type 0 where
  pub end : new.end ≡ old.end
  pub branch : new.branch ≡ old.branch
  pub before : new.before ≡ old.before
  pub reached : new.reached ≡ old.reached
  pub none : new.none ≡ none_by true
  pub low : old.none ≤ none_by true
  pub long : length new.firsts ≡ length old.firsts
  pub each : (b : ℕ) → b < length old.firsts → slice_index new.firsts b ≡ wide_first old.none (slice_index old.firsts b)

-- the landmark as it was, or in 32 bits
abbrev pub IsWidened : LandmarkView → LandmarkView → Type 0
IsWidened old new = (new ≡ old) ⊎ Widens old new

-- all landmarks are in 32 bits
abbrev pub AllWide : List LandmarkView → Type 0
AllWide landmarks = (i : ℕ) → i < length landmarks → (landmark_at landmarks i).none ≡ none_by true

-- the memory for one more landmark, if there is any, with ends below `none`
abbrev pub IsSpareLandmark : ℕ → ℕ → Option LandmarkView → Type 0
IsSpareLandmark n none None = Unit {0}
IsSpareLandmark n none (Some k) = (length k.firsts ≡ n) × (none ≤ k.none)

-- for how many more that serves
abbrev pub spare_room : Option LandmarkView → ℕ
spare_room None = 0
spare_room (Some k) = 1
