-- That what is stored of a node comes again
use Rattle.std.specs.Prelude.{ℕ, ◌≡◌, ◌<◌, ◌≤◌, ◌*◌, ◌^◌, List, [], ◌∷◌, length, map, get_or, slice_get, Some, Ok}
use Rattle.std.specs.List.{AllByRecursion}
use Rattle.hg_model.specs.declared.row.Row.{Row}
use Rattle.hg_life.specs.declared.answers.PutAnswer.TheVariants.{Accepted}
use Rattle.hg_life.specs.declared.answers.MakeAnswer.TheVariants as made
use Rattle.hg_model.specs.Links.{most_others}
use Rattle.hg_model.specs.Stakes.{Stakes, member_count}
use Rattle.hg_model.specs.Graph.{IsGraph}
use Rattle.hg_model.specs.Chains.{IsChain}
use Rattle.hg_life.specs.Reading.{read_event}
use Rattle.hg_life.specs.Spelling.{Spells, spelling}
use Rattle.hg_model.specs.Shares.{Share}
use Rattle.hg_life.specs.Signing.{Accepts}
use Rattle.hg_life.specs.History.{Change, IsMade, IsHistory, replay}
use Rattle.hg_life.specs.History.Change.{Made}
use Rattle.hg_life.specs.NodeView.{NodeView, with_changes, node_rows, IsNode}
use Rattle.hg_life.specs.Calls.{put_answer, put_changes, publish_answer, publish_changes, IsMaking}
use Rattle.hg_life.specs.Terms.{Terms}
use Rattle.hg_node.specs.Restore.{restore_answer, restore_changes, restore_verdict}
use Rattle.hg_node.specs.Replay.{StoredChange, HasBytes, HasLawfulShare, new_node, replay_all, replay_one, stored_of}
use Rattle.hg_node.specs.Replay.StoredChange.{StoredTook, StoredMade, StoredMarked}

-- bytes that were accepted lead again to the node that they left
abbrev pub PutsReplay : (K : Type 0) → Type 0
PutsReplay K = (accepts : K → Accepts) (v : NodeView K) (bytes : List ℕ) (place : ℕ) → put_answer accepts v bytes ≡ Accepted place →
    replay_one accepts v (StoredTook bytes) ≡ Some (with_changes v (put_changes accepts v bytes))

-- so does the row that was made on few others, by its spelling
abbrev pub MakesReplay : (K : Type 0) → Type 0
MakesReplay K = (accepts : K → Accepts) (v w : NodeView K) (others : List (List ℕ)) (time : ℕ) (payload : List ℕ) (place : ℕ) → IsNode accepts v → length others ≤ most_others → time < 2 ^ 64 →
    IsMaking accepts v others time payload (made.Made place) w →
    (row : Row) × (slice_get (node_rows w) place ≡ Some row) × (replay_one accepts v (StoredMade (spelling row)) ≡ Some w)

-- and a share by which some were marked
abbrev pub MarksReplay : (K : Type 0) → Type 0
MarksReplay K = (accepts : K → Accepts) (v : NodeView K) (len : ℕ) (share : Share) → len ≤ length (node_rows v) → share.k < share.of → 0 < publish_answer v len share →
    replay_one accepts v (StoredMarked len share.k share.of) ≡ Some (with_changes v (publish_changes v len share))

-- in a graph just the rows that the member might have made there are accepted when they come back
abbrev pub RestoresAreMakes : Type 0
RestoresAreMakes =
    (terms : Terms) (n : Stakes) (own : ℕ) (G : List Row) (row : Row) → IsGraph n G → IsChain own G → own < member_count n → Spells (spelling row) row →
    (restore_verdict terms n own G row ≡ Accepted (length G) → IsMade terms own G row)
    × (IsMade terms own G row → restore_verdict terms n own G row ≡ Accepted (length G))

-- bytes that are accepted so add one change, the row that they spell, at the next place
abbrev pub RestoresAddOne : (K : Type 0) → Type 0
RestoresAddOne K = (accepts : K → Accepts) (v : NodeView K) (bytes : List ℕ) → ((i : ℕ) → get_or bytes i 0 < 256) → (place : ℕ) → restore_answer accepts v bytes ≡ Accepted place →
    (place ≡ length (node_rows v)) × ((row : Row) × (read_event bytes ≡ Ok row) × (restore_changes accepts v bytes ≡ Made row ∷ []))

-- and leave a node
abbrev pub RestoresLeaveANode : (K : Type 0) → Type 0
RestoresLeaveANode K = (accepts : K → Accepts) (v : NodeView K) (bytes : List ℕ) → ((i : ℕ) → get_or bytes i 0 < 256) → IsNode accepts v →
    IsNode accepts (with_changes v (restore_changes accepts v bytes))

-- what is stored of a change that leaves a node leads there again
abbrev pub ChangesReplay : (K : Type 0) → Type 0
ChangesReplay K = (accepts : K → Accepts) (v : NodeView K) (e : Change) → HasLawfulShare e → IsNode accepts (with_changes v (e ∷ [])) →
    replay_one accepts v (stored_of e) ≡ Some (with_changes v (e ∷ []))

-- and of a whole history
abbrev pub HistoriesReplay : (K : Type 0) → Type 0
HistoriesReplay K = (accepts : K → Accepts) (v : NodeView K) → IsNode accepts v → AllByRecursion HasLawfulShare v.history →
    replay_all accepts (new_node v.start) (map stored_of v.history) ≡ Some v

-- whatever comes again is a node
abbrev pub ReplaysAreNodes : (K : Type 0) → Type 0
ReplaysAreNodes K = (accepts : K → Accepts) (v w : NodeView K) (stored : StoredChange) → HasBytes stored → IsNode accepts v → replay_one accepts v stored ≡ Some w → IsNode accepts w

-- a history has at most two changes for each row that it leaves
abbrev pub ChangesAreFew : Type 0
ChangesAreFew =
    (terms : Terms) (n : Stakes) (c own : ℕ) (h : List Change) → IsHistory terms n c own h → length h ≤ 2 * length (replay n c h).rows

-- the bytes of an event are at most 1,345
abbrev pub SpellingsAreShort : Type 0
SpellingsAreShort = (bytes : List ℕ) (row : Row) → Spells bytes row → length bytes ≤ 1345
