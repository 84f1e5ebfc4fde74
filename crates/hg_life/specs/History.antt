-- What a node did, change by change, and the rows and published marks that this leaves. SWIRLDS-TR-2016-01, sections 3 and 4.
-- A change is what happened at a node; the events that members gossip are rows here. Departures: fame is published by
-- shares, of the first rows only, so that workers can decide while rows come; and a witness that comes into a closed round
-- is at once marked as not famous.
use Rattle.std.specs.Prelude.{ℕ, ◌≡◌, ◌<◌, ◌≤◌, Bool, true, false, cond, ◌&&◌, List, [], ◌∷◌, ◌++◌, length, fold, Option, Some, None, is_none, is_some}
use Rattle.std.specs.Option.{option_or}
use Rattle.hg_model.specs.declared.row.Row.{Row}
use Rattle.hg_life.specs.declared.answers.PutAnswer.TheVariants.{Accepted}
use Rattle.hg_life.specs.declared.answers.MakeAnswer.TheVariants as make_answer
use Rattle.hg_model.specs.Places.{count_below, table}
use Rattle.hg_model.specs.Stakes.{Stakes, member_count, total}
use Rattle.hg_model.specs.Links.{Link, link_in}
use Rattle.hg_model.specs.Rounds.{round_of, is_witness}
use Rattle.hg_model.specs.Fame.{Marks, mark_at, is_closed}
use Rattle.hg_life.specs.Spelling.{body_of, spelling, Spells}
use Rattle.hg_life.specs.Verdict.{row_verdict, made_row, making}
use Rattle.hg_model.specs.Shares.{Share, early_fame}
use Rattle.hg_life.specs.Terms.{Terms}

-- a row was taken, or made, or the witnesses of a share were marked with the fame that the first so many rows decide
pub data Change : Type 0 where
  Took : Row → Change
  Made : Row → Change
  Marked : ℕ → Share → Change

-- the rows, the link of each as it was when the row came, and the published marks
pub record State : Type 0 where
  pub rows : List Row
  pub links : List Link
  pub marks : Marks

-- the state before any change
abbrev pub empty : State
empty = record { rows = []; links = []; marks = [] }

-- the links once the row has come
abbrev pub links_with : State → Row → List Link
links_with s row = s.links ++ link_in s.rows row ∷ []

-- the row comes as a witness of a round that the marks have closed
abbrev pub is_late : Stakes → State → Row → Bool
is_late n s row =
    let L = links_with s row in
    let x = length s.links in
    is_witness n L x && is_closed n s.links s.marks (round_of n L x)

-- then it is not famous; else it has no mark yet
abbrev pub first_mark : Stakes → State → Row → Option Bool
first_mark n s row = cond (is_late n s row) (Some false) None

-- the state once the row has come
abbrev pub with_row : Stakes → State → Row → State
with_row n s row = record { rows = s.rows ++ row ∷ []; links = links_with s row; marks = s.marks ++ first_mark n s row ∷ [] }

-- x has no mark, and is of the share and decided in the first `len` rows
abbrev pub is_news : Stakes → ℕ → State → ℕ → Share → ℕ → Bool
is_news n c s len share x = is_none (mark_at s.marks x) && is_some (early_fame n c s.rows s.links len share x)

-- how many witnesses are marked when that is published
unfoldable pub news : Stakes → ℕ → State → ℕ → Share → ℕ
news n c s len share = count_below len (is_news n c s len share)

-- the mark of x then: each mark stays
abbrev pub new_mark : Stakes → ℕ → State → ℕ → Share → ℕ → Option Bool
new_mark n c s len share x = option_or (mark_at s.marks x) (early_fame n c s.rows s.links len share x)

abbrev pub with_marks : Stakes → ℕ → State → ℕ → Share → State
with_marks n c s len share = record { rows = s.rows; links = s.links; marks = table (new_mark n c s len share) (length s.rows) }

-- what one change does to a state of a node among these members, with coin period c
abbrev pub step : Stakes → ℕ → State → Change → State
step n c s (Took row) = with_row n s row
step n c s (Made row) = with_row n s row
step n c s (Marked len share) = with_marks n c s len share

-- the state after these changes
unfoldable pub replay : Stakes → ℕ → List Change → State
replay n c h = fold (step n c) empty h

-- the row has the sizes and the name of an event, and the node of the member `own` with the rows G accepts it
pub record IsTaken (terms : Terms) (n : Stakes) (own : ℕ) (G : List Row) (row : Row) : Type 0 where
  pub spelled : Spells (spelling row) row
  pub accepted : row_verdict terms n own G row ≡ Accepted (length G)

-- the row has the sizes and the name of an event, and is what the node makes for some arguments, under a signature that
-- is accepted; its self-parent is then the last row that the node made
pub record IsMade (terms : Terms) (own : ℕ) (G : List Row) (row : Row) : Type 0 where
  pub others : List (List ℕ)
  pub time : ℕ
  pub payload : List ℕ
  pub sig : List ℕ
  pub fields : row ≡ made_row own G others time payload sig
  pub spelled : Spells (spelling row) row
  pub signed : terms.accepts own (body_of row) sig ≡ true
  pub made : making terms.limit own G others time payload sig ≡ make_answer.Made (length G)

-- there are so many rows, and they decide some witness of the share that has no mark
pub record MarksSome (n : Stakes) (c : ℕ) (s : State) (len : ℕ) (share : Share) : Type 0 where
  pub within : len ≤ length s.rows
  pub some : 0 < news n c s len share

-- the change may come in this state
abbrev pub IsStep : Terms → Stakes → ℕ → ℕ → State → Change → Type 0
IsStep terms n c own s (Took row) = IsTaken terms n own s.rows row
IsStep terms n c own s (Made row) = IsMade terms own s.rows row
IsStep terms n c own s (Marked len share) = MarksSome n c s len share

-- so may these, one after the other
abbrev pub AreSteps : Terms → Stakes → ℕ → ℕ → State → List Change → Type 0
AreSteps terms n c own s [] = Unit {0}
AreSteps terms n c own s (e ∷ h) = IsStep terms n c own s e × AreSteps terms n c own (step n c s e) h

-- a history of the node of the member `own` among these, who have some stake, with coin period c; a moment of it is any
-- prefix
pub record IsHistory (terms : Terms) (n : Stakes) (c own : ℕ) (h : List Change) : Type 0 where
  pub member : own < member_count n
  pub stake : 0 < total n
  pub steps : AreSteps terms n c own empty h
