-- The rows of a member stand in one line until a row stands on another than the last of them
use Rattle.std.specs.Prelude.{ℕ, ◌≡◌, ◌≢◌, ◌<◌, ◌≤◌, ◌^◌, Bool, true, false, not, cond, ◌==◌, List, length, get_or, slice_set, Option, Some, None}
use Rattle.std.specs.Int.{from_bool}
use Rattle.hg_model.specs.Stakes.{Stakes, member_count, stake_of, total}
use Rattle.hg_model.specs.Links.{Link, creator}
use Rattle.hg_model.specs.Ancestry.{is_self_ancestor}
use Rattle.hg_model.specs.Forks.{forkers, forking}
use Rattle.hg_model.specs.Graph.{IsShaped}
use Rattle.hg_forks.specs.declared.line.Line.{Line}
use Rattle.hg_forks.specs.declared.line.Line.TheVariants.{Empty, Ends, Forked}
use Rattle.hg_forks.specs.Pairs.{IsForkOf}

-- the self-parent is this row
abbrev pub is_on : Option ℕ → ℕ → Bool
is_on None last = false
is_on (Some p) last = p == last

-- a row on this self-parent makes the first fork
abbrev pub makes_fork : Line → Option ℕ → Bool
makes_fork Empty self_parent = false
makes_fork (Ends last) self_parent = not (is_on self_parent last)
makes_fork (Forked a b) self_parent = false

-- the line once row x stands on this self-parent
abbrev pub next_line : Line → Option ℕ → ℕ → Line
next_line Empty self_parent x = Ends x
next_line (Ends last) self_parent x = cond (is_on self_parent last) (Ends x) (Forked last x)
next_line (Forked a b) self_parent x = Forked a b

-- the fork that the line keeps
abbrev pub fork_in : Line → Option (ℕ × ℕ)
fork_in Empty = None
fork_in (Ends last) = None
fork_in (Forked a b) = Some (a, b)

-- the line of member m
abbrev pub line_at : List Line → ℕ → Line
line_at lines m = get_or lines m Empty

-- 1 where a row by m on this self-parent makes the first fork of m, else 0
abbrev pub new_forkers : List Line → ℕ → Option ℕ → ℕ
new_forkers lines m self_parent = from_bool (makes_fork (line_at lines m) self_parent)

-- the stake of m where a row by m on this self-parent makes the first fork of m, else 0
abbrev pub new_forking : Stakes → List Line → ℕ → Option ℕ → ℕ
new_forking n lines m self_parent = cond (makes_fork (line_at lines m) self_parent) (stake_of n m) 0

-- the lines once m has made row x on this self-parent
abbrev pub lengthened : List Line → ℕ → Option ℕ → ℕ → List Line
lengthened lines m self_parent x = slice_set lines m (next_line (line_at lines m) self_parent x)

-- all rows by m are self-ancestors of its row `last`
pub record IsLast (L : List Link) (m last : ℕ) : Type 0 where
  pub there : last < length L
  pub by_m : creator L last ≡ m
  pub above : (x : ℕ) → x < length L → creator L x ≡ m → is_self_ancestor L last x ≡ true

-- what the line says of the rows by m
abbrev pub IsLineOf : List Link → ℕ → Line → Type 0
IsLineOf L m Empty = (x : ℕ) → x < length L → creator L x ≢ m
IsLineOf L m (Ends last) = IsLast L m last
IsLineOf L m (Forked a b) = IsForkOf L m a b

-- a line for each member of a shaped graph, how many members have a fork, and the stake of these
pub record KeepsLines (n : Stakes) (L : List Link) (lines : List Line) (forks weight : ℕ) : Type 0 where
  pub few : member_count n < 2 ^ 32
  pub low : total n ≤ 2 ^ 39
  pub long : length lines ≡ member_count n
  pub shaped : IsShaped n L
  pub matches : (m : ℕ) → m < member_count n → IsLineOf L m (line_at lines m)
  pub count : forks ≡ forkers n L
  pub stake : weight ≡ forking n L
