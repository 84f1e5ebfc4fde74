-- A certificate as it is written, piece by piece, and what it then shows
use Rattle.std.proofs.Common.{◌≡◌, ℕ, zero, suc, ◌+◌, ◌<◌, List, [], ◌∷◌, ◌++◌, length, take, get_or, Some, option_map, slice_get, sym, ap, ap₂, append_assoc, ◌∙◌, subst, arith}
use Rattle.std.specs.Int.{to_be_bytes, w32, w64}
use Rattle.std.specs.List.{AllByRecursion}
use Rattle.std.proofs.lemmas.List.{flat_map_more, length-take, take_more}
use Rattle.std.proofs.lemmas.Option.{slice_get-get_or}
use Rattle.hg_model.specs.declared.row.Row.{Row}
use Rattle.hg_model.specs.declared.row.Placed.{Placed}
use Rattle.hg_model.specs.Stakes.{Stakes}
use Rattle.hg_model.proofs.PushLaws.{nobody}
use Rattle.hg_life.specs.NodeView.{IsNode, NodeView, node_rows, terms_of}
use Rattle.hg_life.specs.Signing.{Accepts}
use Rattle.hg_life.specs.Spelling.{spelling}
use Rattle.hg_history.proofs.SoundLaws.{node_graph}
use Rattle.hg_node.specs.ChronicleView.{graph_in}
use Rattle.hg_proof.specs.Answers.{order_in}
use Rattle.hg_proof.specs.Certificate.{AreEntries, IsEntry, certificate, certificate_bytes, entries_bytes, entry_bytes, rows_bytes}
use Rattle.hg_proof.specs.Least.{IsLeast, Proves}
use Rattle.hg_proof.proofs.FrontLaws.{first_lawful}

same_some : (a b : List ℕ) → Some a ≡ Some b → a ≡ b
same_some a b e = cc

pub rows_more : (before old new bytes : List ℕ) (G : List Row) (i : ℕ) → i < length G → option_map spelling (slice_get G i) ≡ Some bytes → new ≡ old ++ bytes →
    old ≡ before ++ rows_bytes (take i G) → new ≡ before ++ rows_bytes (take (i + 1) G)
rows_more before old new bytes G i inside here written so_far =
    let row : Row = get_or G i nobody in
    let spelled : spelling row ≡ bytes = same_some (spelling row) bytes (sym (ap (option_map spelling) (slice_get-get_or G i nobody inside)) ∙ here) in
    written ∙ ap₂ (λ (a b : List ℕ). a ++ b) so_far (sym spelled)
    ∙ flat_map_more spelling before (take i G) row
    ∙ ap (λ (rows : List Row). before ++ rows_bytes rows) (sym (take_more G i nobody inside))

pub entries_more : (before old new : List ℕ) (order : List Placed) (i : ℕ) (d : Placed) → i < length order → new ≡ old ++ entry_bytes (get_or order i d) →
    old ≡ before ++ entries_bytes (take i order) → new ≡ before ++ entries_bytes (take (i + 1) order)
entries_more before old new order i d inside written so_far =
    written ∙ ap (λ (a : List ℕ). a ++ entry_bytes (get_or order i d)) so_far
    ∙ flat_map_more entry_bytes before (take i order) (get_or order i d)
    ∙ ap (λ (ps : List Placed). before ++ entries_bytes ps) (sym (take_more order i d inside))

all_and : (ps : List Placed) (p : Placed) → AllByRecursion IsEntry ps → IsEntry p → AllByRecursion IsEntry (ps ++ p ∷ [])
all_and [] p are is = (is, tt)
all_and (q ∷ ps) p are is = (are.0, all_and ps p are.1 is)

pub entries_fit : (order : List Placed) (i : ℕ) (d : Placed) → i < length order → IsEntry (get_or order i d) → AllByRecursion IsEntry (take i order) →
    AllByRecursion IsEntry (take (i + 1) order)
entries_fit order i d inside is are = subst (AllByRecursion IsEntry) (sym (take_more order i d inside)) (all_and (take i order) (get_or order i d) are is)

-- an entry, number by number
pub entry_written : (old one two new a b e : List ℕ) (p : Placed) → one ≡ old ++ a → two ≡ one ++ b → new ≡ two ++ e →
    a ≡ to_be_bytes w32 p.place → b ≡ to_be_bytes w32 p.received → e ≡ to_be_bytes w64 p.time → new ≡ old ++ entry_bytes p
entry_written old one two new a b e p first second third place received time =
    third ∙ ap (λ (t : List ℕ). t ++ e) (second ∙ ap (λ (t : List ℕ). t ++ b) first)
    ∙ append_assoc (old ++ a) b e
    ∙ append_assoc old a (b ++ e)
    ∙ ap (λ (t : List ℕ). old ++ (t ++ (b ++ e))) place
    ∙ ap (λ (t : List ℕ). old ++ (to_be_bytes w32 p.place ++ (t ++ e))) received
    ∙ ap (λ (t : List ℕ). old ++ (to_be_bytes w32 p.place ++ (to_be_bytes w32 p.received ++ t))) time

-- a row of the first rows is a row
first_row : (len x : ℕ) (G : List Row) (row : Row) → slice_get (take len G) x ≡ Some row → slice_get G x ≡ Some row
first_row zero x G row at = cc
first_row (suc len) x [] row at = cc
first_row (suc len) zero (first ∷ G) row at = at
first_row (suc len) (suc x) (first ∷ G) row at = first_row len x G row at

-- what is written of the first rows of a node that have the whole order proves that order
pub proves : {K : Type 0} (accepts : K → Accepts) (v : NodeView K) → IsNode accepts v → (bytes : List ℕ) (len : ℕ) (order : List Placed) → IsLeast (graph_in v) len → order ≡ order_in (graph_in v) →
    AreEntries order → bytes ≡ certificate_bytes (certificate (take len (node_rows v)) order) → Proves accepts v bytes
proves accepts v is bytes len order least ordered sized spelled =
    let n : Stakes = v.start.members in
    let node = node_graph (terms_of accepts v.start) n v.start.coin v.start.own v.history is.coin is.history in
    record {
      len = len;
      least = least;
      shows = record {
        spelled = spelled ∙ ap (λ (ps : List Placed). certificate_bytes (certificate (take len (node_rows v)) ps)) ordered;
        few = omega (arith, length-take len (node_rows v), node.few, is.limit);
        sized = subst AreEntries ordered sized;
        graph = first_lawful (graph_in v) node.graph len;
        signed = λ x row at. node.events x row (first_row len x (node_rows v) row at);
        whole = sym least.whole;
      };
    }
