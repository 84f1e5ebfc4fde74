-- What holds of every history, and of every node, as public functions state it. No law here asks anything of the other members
use Rattle.std.specs.Prelude.{ℕ, zero, suc, ◌≡◌, ◌≢◌, ◌<◌, ◌≤◌, ◌^◌, ◌⊎◌, Bool, true, List, [], ◌∷◌, ◌++◌, length, take, get_or, Some, None, Ok, slice_get, IsTrue}
use Rattle.hg_model.specs.declared.row.Row.{Row}
use Rattle.hg_life.specs.declared.answers.PutAnswer.TheVariants.{Accepted, Known}
use Rattle.hg_life.specs.declared.answers.MakeAnswer.TheVariants as made
use Rattle.hg_life.specs.declared.entry.Entry.{Entry}
use Rattle.hg_life.specs.declared.entry.Entry.TheVariants as entry
use Rattle.hg_model.specs.Stakes.{Stakes}
use Rattle.hg_model.specs.Links.{most_others, links, place_of}
use Rattle.hg_model.specs.Held.{is_held}
use Rattle.hg_model.specs.Graph.{IsGraph}
use Rattle.hg_model.specs.Fame.{mark_at, fame_marks, is_closed}
use Rattle.hg_model.specs.Order.{coin_at, order_of, last_closed}
use Rattle.hg_life.specs.Spelling.{body_of, spelling, Spells}
use Rattle.hg_life.specs.Reading.{read_event}
use Rattle.hg_life.specs.Verdict.{verdict, row_verdict, made_row}
use Rattle.hg_model.specs.Shares.{Share, Speaks}
use Rattle.hg_history.specs.Adding.{add_marks}
use Rattle.hg_history.specs.News.{FindsNews}
use Rattle.hg_life.specs.History.{Change, State, with_marks, replay, news, IsHistory}
use Rattle.hg_life.specs.Kept.{kept, kept_in, kept_up_to, kept_by_names}
use Rattle.hg_life.specs.History.Change.{Took, Made, Marked}
use Rattle.hg_life.specs.NodeView.{NodeView, with_changes, node_rows, log, log_from, history_of, IsNode}
use Rattle.hg_life.specs.Calls.{put_answer, put_changes, make_answer, make_changes, make_body, make_draft, publish_changes, settle_changes, IsSettled}
use Rattle.hg_life.specs.Signing.{Accepts}
use Rattle.hg_life.specs.Terms.{Terms, row_limit}
use Rattle.hg_model.specs.Orders.{IsPrefix, HasNameSizes, AreFame}
use Rattle.hg_model.specs.Chains.{IsChain}

-- the row has the sizes and the name of an event, and its signature is accepted
pub record IsEvent (accepts : Accepts) (row : Row) : Type 0 where
  pub spelled : Spells (spelling row) row
  pub signed : IsTrue (accepts row.creator (body_of row) row.sig)

-- a graph of signed events with names of 48 bytes, not more than a node takes, in which the own member's rows are one chain
pub record IsNodeGraph (terms : Terms) (n : Stakes) (own : ℕ) (G : List Row) : Type 0 where
  pub graph : IsGraph n G
  pub events : (x : ℕ) (row : Row) → slice_get G x ≡ Some row → IsEvent terms.accepts row
  pub sizes : HasNameSizes 48 G
  pub few : length G ≤ terms.limit
  pub own_chain : IsChain own G

-- a row came
abbrev pub IsRow : Change → Type 0
IsRow (Took row) = Unit {0}
IsRow (Made row) = Unit {0}
IsRow (Marked len share) = ⊥

-- after each history the rows are such a graph
abbrev pub RowsAreAGraph : Type 0
RowsAreAGraph = (terms : Terms) (n : Stakes) (c own : ℕ) (h : List Change) → 2 < c → IsHistory terms n c own h → IsNodeGraph terms n own (replay n c h).rows

-- and the links, made as the rows came, are those of the rows
abbrev pub LinksAreThoseOfTheRows : Type 0
LinksAreThoseOfTheRows = (terms : Terms) (n : Stakes) (c own : ℕ) (h : List Change) → 2 < c → IsHistory terms n c own h → (replay n c h).links ≡ links (replay n c h).rows

-- the history has the change
abbrev pub HasChange : List Change → Change → Type 0
HasChange h e = (i : ℕ) × (slice_get h i ≡ Some e)

-- the rows by the own member are those that were made, and the rows by others those that were taken
abbrev pub RowsCameByChanges : Type 0
RowsCameByChanges = (terms : Terms) (n : Stakes) (c own : ℕ) (h : List Change) → IsHistory terms n c own h → (x : ℕ) (row : Row) → slice_get (replay n c h).rows x ≡ Some row →
    (row.creator ≡ own → HasChange h (Made row)) × (row.creator ≢ own → HasChange h (Took row))

-- a row that came stands among the rows
abbrev pub ChangesLeftRows : Type 0
ChangesLeftRows = (n : Stakes) (c : ℕ) (h : List Change) (row : Row) → HasChange h (Made row) ⊎ HasChange h (Took row) → (x : ℕ) × (slice_get (replay n c h).rows x ≡ Some row)

-- the verdict on a row with the sizes and the name of an event is that on its bytes
abbrev pub VerdictsAreOfBytes : Type 0
VerdictsAreOfBytes = (terms : Terms) (n : Stakes) (own : ℕ) (G : List Row) (bytes : List ℕ) (row : Row) → Spells bytes row → verdict terms n own G bytes ≡ row_verdict terms n own G row

-- there is a link and a place for a mark for each row
abbrev pub ListsAreEven : Type 0
ListsAreEven = (n : Stakes) (c : ℕ) (h : List Change) → (length (replay n c h).links ≡ length (replay n c h).rows) × (length (replay n c h).marks ≡ length (replay n c h).rows)

-- each mark is the fame of the graph now
abbrev pub MarksAreFame : Type 0
MarksAreFame = (terms : Terms) (n : Stakes) (c own : ℕ) (h : List Change) → 2 < c → IsHistory terms n c own h → AreFame n c (replay n c h).rows (replay n c h).marks

-- at a later moment of a history the rows of an earlier one are the first rows, with the same links
abbrev pub RowsGrow : Type 0
RowsGrow = (n : Stakes) (c : ℕ) (a b : List Change) → IsPrefix (replay n c a).rows (replay n c (a ++ b)).rows

abbrev pub LinksGrow : Type 0
LinksGrow = (n : Stakes) (c : ℕ) (a b : List Change) → IsPrefix (replay n c a).links (replay n c (a ++ b)).links

-- a mark stays
abbrev pub MarksStay : Type 0
MarksStay = (n : Stakes) (c : ℕ) (a b : List Change) (x : ℕ) (v : Bool) → mark_at (replay n c a).marks x ≡ Some v → mark_at (replay n c (a ++ b)).marks x ≡ Some v

-- a closed round stays closed
abbrev pub ClosedStays : Type 0
ClosedStays = (terms : Terms) (n : Stakes) (c own : ℕ) (a b : List Change) → 2 < c → IsHistory terms n c own (a ++ b) → (r : ℕ) →
    IsTrue (is_closed n (replay n c a).links (replay n c a).marks r) → IsTrue (is_closed n (replay n c (a ++ b)).links (replay n c (a ++ b)).marks r)

-- a moment of a history is a history
abbrev pub MomentsAreHistories : Type 0
MomentsAreHistories = (terms : Terms) (n : Stakes) (c own : ℕ) (a b : List Change) → IsHistory terms n c own (a ++ b) → IsHistory terms n c own a

-- to publish fame leaves the rows and their links
abbrev pub MarkingLeavesRows : Type 0
MarkingLeavesRows = (n : Stakes) (c : ℕ) (h : List Change) (len : ℕ) (share : Share) →
    ((replay n c (h ++ Marked len share ∷ [])).rows ≡ (replay n c h).rows) × ((replay n c (h ++ Marked len share ∷ [])).links ≡ (replay n c h).links)

-- a name that some row has at one moment some row has at each later one
abbrev pub HeldStays : Type 0
HeldStays = (n : Stakes) (c : ℕ) (a b : List Change) (name : List ℕ) → IsTrue (is_held (replay n c a).rows name) → IsTrue (is_held (replay n c (a ++ b)).rows name)

-- what a share has found at one moment speaks of the rows at each later one
abbrev pub FoundLasts : Type 0
FoundLasts = (n : Stakes) (c : ℕ) (a b : List Change) (len : ℕ) (share : Share) (marks : List (ℕ × Bool)) →
    Speaks n c (replay n c a).rows (replay n c a).links len share marks → Speaks n c (replay n c (a ++ b)).rows (replay n c (a ++ b)).links len share marks

-- all that a share found may be published
abbrev pub FoundIsNews : Type 0
FoundIsNews = (n : Stakes) (c : ℕ) (s : State) (len : ℕ) (share : Share) (found : List (ℕ × Bool)) →
    Speaks n c s.rows s.links len share found → FindsNews n c s len share found

-- what may be published at one moment may be at each later one
abbrev pub NewsLasts : Type 0
NewsLasts = (n : Stakes) (c : ℕ) (a b : List Change) (len : ℕ) (share : Share) (found : List (ℕ × Bool)) →
    FindsNews n c (replay n c a) len share found → FindsNews n c (replay n c (a ++ b)) len share found

-- of two moments of a history the order kept at the earlier is a prefix of that kept at the later
abbrev pub KeptOrderGrows : Type 0
KeptOrderGrows = (terms : Terms) (n : Stakes) (c own : ℕ) (a b : List Change) → 2 < c → IsHistory terms n c own (a ++ b) →
    IsPrefix (kept n (replay n c a)) (kept n (replay n c (a ++ b)))

-- so by names
abbrev pub NamedOrderGrows : Type 0
NamedOrderGrows = (terms : Terms) (n : Stakes) (c own : ℕ) (a b : List Change) → 2 < c → IsHistory terms n c own (a ++ b) →
    IsPrefix (kept_by_names n (replay n c a)) (kept_by_names n (replay n c (a ++ b)))

-- the kept order is a prefix of the order of the graph with its own fame
abbrev pub KeptIsOfTheGraph : Type 0
KeptIsOfTheGraph = (terms : Terms) (n : Stakes) (c own : ℕ) (h : List Change) → 2 < c → IsHistory terms n c own h →
    IsPrefix (kept n (replay n c h)) (order_of n c (replay n c h).rows)

-- the first k of m shares of the first `len` rows, published one after the other
abbrev pub shares_published : ℕ → ℕ → ℕ → List Change
shares_published len m zero = []
shares_published len m (suc k) = shares_published len m k ++ Marked len (record { k = k; «of» = m }) ∷ []

-- all shares of the whole graph have all its fame
abbrev pub SharesAreAll : Type 0
SharesAreAll = (terms : Terms) (n : Stakes) (c own : ℕ) (h : List Change) → 2 < c → IsHistory terms n c own h → (m : ℕ) → 0 < m →
    let G = (replay n c h).rows in
    let t = replay n c (h ++ shares_published (length G) m m) in
    (t.rows ≡ G) × (t.marks ≡ fame_marks n c (links G) (coin_at G))

-- to publish what a share found is to add its marks one after the other, where what has its mark may be left out
abbrev pub PublishingAddsMarks : Type 0
PublishingAddsMarks = (n : Stakes) (c : ℕ) (h : List Change) (len : ℕ) (share : Share) (found : List (ℕ × Bool)) →
    let s = replay n c h in FindsNews n c s len share found →
    ((add_marks s.marks found).marks ≡ (with_marks n c s len share).marks) × ((add_marks s.marks found).count ≡ news n c s len share)

-- what a share found in the first rows is no news once it was published, whatever comes then
abbrev pub PublishedIsNoNews : Type 0
PublishedIsNoNews = (n : Stakes) (c : ℕ) (a b : List Change) (len : ℕ) (share : Share) → len ≤ length (replay n c a).rows →
    news n c (replay n c (a ++ Marked len share ∷ b)) len share ≡ 0

-- the rows and the log tell the history
abbrev pub LogSpellsHistory : Type 0
LogSpellsHistory = (n : Stakes) (c : ℕ) (h : List Change) → history_of (replay n c h).rows (log_from 0 h) ≡ h

-- the first rows of a graph are a graph, with the first links
abbrev pub FirstRowsAreAGraph : Type 0
FirstRowsAreAGraph = (n : Stakes) (len : ℕ) (G : List Row) → IsGraph n G → IsGraph n (take len G) × (links (take len G) ≡ take len (links G))

-- the kept order is that of the closed rounds, one after the other
abbrev pub OrderByRounds : Type 0
OrderByRounds = (terms : Terms) (n : Stakes) (c own : ℕ) (h : List Change) → 2 < c → IsHistory terms n c own h →
    let s = replay n c h in kept n s ≡ kept_up_to n s (last_closed n s.links s.marks)

-- and what a closed round has received stays
abbrev pub RoundsStay : Type 0
RoundsStay = (terms : Terms) (n : Stakes) (c own : ℕ) (a b : List Change) → 2 < c → IsHistory terms n c own (a ++ b) → (r : ℕ) →
    IsTrue (is_closed n (replay n c a).links (replay n c a).marks r) → kept_in n (replay n c (a ++ b)) r ≡ kept_in n (replay n c a) r

-- a row that comes closes no round, and so leaves the kept order
abbrev pub RowsLeaveTheOrder : Type 0
RowsLeaveTheOrder = (terms : Terms) (n : Stakes) (c own : ℕ) (h : List Change) (e : Change) → 2 < c → IsHistory terms n c own (h ++ e ∷ []) → IsRow e →
    let s = replay n c h in let t = replay n c (h ++ e ∷ []) in
    (last_closed n t.links t.marks ≡ last_closed n s.links s.marks) × (kept n t ≡ kept n s)

-- Laws of a node with any keys K, as its callers see it

-- accepted bytes add one change, the row that they spell, at the next place
abbrev pub PutsAddOne : (K : Type 0) → Type 0
PutsAddOne K = (accepts : K → Accepts) (v : NodeView K) (bytes : List ℕ) (place : ℕ) → put_answer accepts v bytes ≡ Accepted place →
    (place ≡ length (node_rows v)) × ((row : Row) × (read_event bytes ≡ Ok row) × (put_changes accepts v bytes ≡ Took row ∷ []))

-- bytes that are not accepted add none
abbrev pub OtherPutsAddNone : (K : Type 0) → Type 0
OtherPutsAddNone K = (accepts : K → Accepts) (v : NodeView K) (bytes : List ℕ) → ((place : ℕ) → put_answer accepts v bytes ≡ Accepted place → ⊥) →
    put_changes accepts v bytes ≡ []

-- and leave a node
abbrev pub PutsLeaveANode : (K : Type 0) → Type 0
PutsLeaveANode K = (accepts : K → Accepts) (v : NodeView K) (bytes : List ℕ) → ((i : ℕ) → get_or bytes i 0 < 256) → IsNode accepts v →
    IsNode accepts (with_changes v (put_changes accepts v bytes))

-- accepted bytes leave the name of their row held
abbrev pub AcceptedIsHeld : (K : Type 0) → Type 0
AcceptedIsHeld K = (accepts : K → Accepts) (v : NodeView K) (bytes : List ℕ) (row : Row) (place : ℕ) → read_event bytes ≡ Ok row → put_answer accepts v bytes ≡ Accepted place →
    IsTrue (is_held (node_rows (with_changes v (put_changes accepts v bytes))) row.name)

-- of bytes that are known the name was held, and the answer tells where
abbrev pub KnownIsHeld : (K : Type 0) → Type 0
KnownIsHeld K = (accepts : K → Accepts) (v : NodeView K) (bytes : List ℕ) (row : Row) (place : ℕ) → read_event bytes ≡ Ok row → put_answer accepts v bytes ≡ Known place →
    (place_of (node_rows v) row.name ≡ place) × IsTrue (is_held (node_rows v) row.name)

-- an entry of the log tells that a row came at this place
abbrev pub HasEntry : List Entry → ℕ → Type 0
HasEntry entries place = (i : ℕ) × ((slice_get entries i ≡ Some (entry.Took place)) ⊎ (slice_get entries i ≡ Some (entry.Made place)))

-- the row that known bytes spell is the one at that place, and the log has the entry of its coming
abbrev pub KnownHasEntry : (K : Type 0) → Type 0
KnownHasEntry K = (accepts : K → Accepts) (v : NodeView K) (bytes : List ℕ) (row : Row) (place : ℕ) → ((i : ℕ) → get_or bytes i 0 < 256) → IsNode accepts v → read_event bytes ≡ Ok row →
    put_answer accepts v bytes ≡ Known place → (slice_get (node_rows v) place ≡ Some row) × HasEntry (log v) place

-- an event that is made adds one change, its row, at the next place
abbrev pub MakesAddOne : (K : Type 0) → Type 0
MakesAddOne K = (v : NodeView K) (others : List (List ℕ)) (time : ℕ) (payload sig : List ℕ) (place : ℕ) → make_answer v others time payload sig ≡ made.Made place →
    (place ≡ length (node_rows v)) × (make_changes v others time payload sig ≡ Made (made_row v.start.own (node_rows v) others time payload sig) ∷ [])

-- and leaves its name held
abbrev pub MadeIsHeld : (K : Type 0) → Type 0
MadeIsHeld K = (v : NodeView K) (others : List (List ℕ)) (time : ℕ) (payload sig : List ℕ) (place : ℕ) → make_answer v others time payload sig ≡ made.Made place →
    IsTrue (is_held (node_rows (with_changes v (make_changes v others time payload sig))) (made_row v.start.own (node_rows v) others time payload sig).name)

-- one that is refused adds none
abbrev pub OtherMakesAddNone : (K : Type 0) → Type 0
OtherMakesAddNone K = (v : NodeView K) (others : List (List ℕ)) (time : ℕ) (payload sig : List ℕ) → ((place : ℕ) → make_answer v others time payload sig ≡ made.Made place → ⊥) →
    make_changes v others time payload sig ≡ []

-- and leaves a node, where the other-parents are few and the signature is accepted; an event that is refused before is not signed
abbrev pub MakesLeaveANode : (K : Type 0) → Type 0
MakesLeaveANode K = (accepts : K → Accepts) (v : NodeView K) (others : List (List ℕ)) (time : ℕ) (payload sig : List ℕ) → length others ≤ most_others → time < 2 ^ 64 → length sig ≡ 64 →
    (make_draft v others payload ≡ None → accepts v.start.keys v.start.own (make_body v others time payload) sig ≡ true) → IsNode accepts v →
    IsNode accepts (with_changes v (make_changes v others time payload sig))

-- to publish leaves a node
abbrev pub PublishesLeaveANode : (K : Type 0) → Type 0
PublishesLeaveANode K = (accepts : K → Accepts) (v : NodeView K) (len : ℕ) (share : Share) → len ≤ length (node_rows v) → IsNode accepts v →
    IsNode accepts (with_changes v (publish_changes v len share))

abbrev pub SettlesAll : (K : Type 0) → Type 0
SettlesAll K = (accepts : K → Accepts) (v : NodeView K) → IsNode accepts v → IsSettled v (with_changes v (settle_changes v))
