-- What nodes say fits into messages, and what a peer answered holds for the taker that reads it
use Rattle.std.proofs.Common.{◌≡◌, ℕ, zero, suc, ◌<◌, ◌≤◌, Bool, true, false, cond, not, List, [], ◌∷◌, ◌++◌, length, get_or, Option, Some, None, refl, sym, ap, subst, ◌∙◌, arith}
use Rattle.std.specs.Prelude.{IfSome}
use Rattle.std.specs.List.{AllByRecursion}
use Rattle.std.proofs.lemmas.List.{length-append}
use Rattle.std.proofs.lemmas.Option.{slice_get-get_or}
use Rattle.hg_model.specs.declared.row.Row.{Row}
use Rattle.hg_model.specs.Graph.{name_at}
use Rattle.hg_model.specs.Held.{is_held}
use Rattle.hg_model.specs.Links.{links, no_row}
use Rattle.hg_model.specs.Orders.{IsPrefix}
use Rattle.hg_model.specs.Places.{list_below}
use Rattle.hg_life.specs.Signing.{Accepts}
use Rattle.hg_life.specs.Verdict.{last_name}
use Rattle.hg_life.specs.NodeView.{IsNode, NodeView, node_rows, terms_of}
use Rattle.hg_life.proofs.LastLaws.{last_found}
use Rattle.hg_history.specs.Laws.{IsNodeGraph}
use Rattle.hg_history.proofs.HeldLaws.{held_longer}
use Rattle.hg_history.proofs.SoundLaws.{node_graph}
use Rattle.hg_node.specs.Beyond.{beyond_of, bytes_at, bytes_beyond, is_behind_some, is_parent, tips, tips_of}
use Rattle.hg_gossip.specs.Gossip.{TakesAll}
use Rattle.hg_gossip.specs.Refusals.{HoldsUnlessRefused}
use Rattle.hg_gossip.proofs.RefusalLaws.{beyond_holds, tips_are_held}
use Rattle.hg_wire.specs.declared.message.Want.TheVariants as want
use Rattle.hg_wire.specs.declared.message.Message.{Message}
use Rattle.hg_wire.specs.declared.message.Message.TheVariants.{Have}
use Rattle.hg_wire.specs.Outcome.{Finished}
use Rattle.hg_wire.specs.Reading.{count_limit, read}
use Rattle.hg_wire.specs.Grammar.{IsEvent, IsName, message_bytes}
use Rattle.hg_wire.specs.Exchange.{AnswersFit, AsksFit, AsksNameHeld, ExchangesHold, answer_of, asked_of, rows_in}
use Rattle.hg_wire.proofs.Again.{message_read}
use Rattle.hg_wire.proofs.Steps.{same_value}

-- ---- lists by places

all_joined : (P : List ℕ → Type 0) (xs ys : List (List ℕ)) → AllByRecursion P xs → AllByRecursion P ys → AllByRecursion P (xs ++ ys)
all_joined P [] ys first rest = rest
all_joined P (x ∷ xs) ys first rest = (first.0, all_joined P xs ys first.1 rest)

one_listed : (P : List ℕ → Type 0) (x : List ℕ) (b : Bool) → P x → AllByRecursion P (cond b (x ∷ []) [])
one_listed P x true is = (is, tt)
one_listed P x false is = tt

-- what the values at all places are, those that are listed are
all_listed : (P : List ℕ → Type 0) (value : ℕ → List ℕ) (n : ℕ) (test : ℕ → Bool) → ((x : ℕ) → x < n → P (value x)) → AllByRecursion P (list_below value n test)
unfolding list_below
all_listed P value zero test each = tt
all_listed P value (suc n) test each =
    all_joined P (list_below value n test) (cond (test n) (value n ∷ []) []) (all_listed P value n test (λ x low. each x (omega (arith, low)))) (one_listed P (value n) (test n) (each n (omega arith)))

one_at_most : (x : List ℕ) (b : Bool) → length (cond b (x ∷ []) []) ≤ 1
one_at_most x true = omega arith
one_at_most x false = omega arith

-- no more are listed than there are places
few_listed : (value : ℕ → List ℕ) (n : ℕ) (test : ℕ → Bool) → length (list_below value n test) ≤ n
unfolding list_below
few_listed value zero test = omega arith
few_listed value (suc n) test =
    let before = few_listed value n test in
    let last = one_at_most (value n) (test n) in
    omega (arith, before, last, length-append (list_below value n test) (cond (test n) (value n ∷ []) []))

-- ---- what nodes say

-- a node's rows are a graph of events
graph_of : {K : Type 0} (accepts : K → Accepts) (v : NodeView K) → IsNode accepts v → IsNodeGraph (terms_of accepts v.start) v.start.members v.start.own (node_rows v)
graph_of accepts v node = node_graph (terms_of accepts v.start) v.start.members v.start.coin v.start.own v.history node.coin node.history

pub asks_fit : (K : Type 0) → AsksFit K
unfolding tips
asks_fit K accepts v node =
    let G = node_rows v in
    let graph = graph_of accepts v node in
    let test : ℕ → Bool = λ x. not (is_parent (links G) x) in
    let limit = node.limit in
    (omega (arith, graph.few, limit, few_listed (name_at G) (length G) test), all_listed IsName (name_at G) (length G) test graph.sizes.sized)

last_named : (own : ℕ) (G : List Row) (last : Option (List ℕ)) → ((x : ℕ) → x < length G → length (name_at G x) ≡ 48) → last_name own G ≡ last → IfSome last IsName
last_named own G None sized is = tt
last_named own G (Some name) sized is =
    let found = last_found own G name is in
    ap length (sym found.2) ∙ sized found.0 found.1

pub answers_fit : (L : Type 0) → AnswersFit L
unfolding bytes_beyond
answers_fit L accepts names v node =
    let G = node_rows v in
    let graph = graph_of accepts v node in
    let limit = node.limit in
    let test : ℕ → Bool = λ x. not (is_behind_some G names x) in (
      omega (arith, graph.few, limit, few_listed (bytes_at G) (length G) test),
      all_listed IsEvent (bytes_at G) (length G) test (λ x low. (get_or G x no_row, (graph.events x (get_or G x no_row) (slice_get-get_or G x no_row low)).spelled)),
      last_named v.start.own G (last_name v.start.own G) graph.sizes.sized refl,
    )

-- so many names and rows may stand in a message
pub few_asked : {K : Type 0} (accepts : K → Accepts) (v : NodeView K) → IsNode accepts v → length (tips_of v) ≤ count_limit
few_asked {K} accepts v node = (asks_fit K accepts v node).0

pub few_answered : {L : Type 0} (accepts : L → Accepts) (names : List (List ℕ)) (v : NodeView L) → IsNode accepts v → length (beyond_of names v).rows ≤ count_limit
few_answered {L} accepts names v node = (answers_fit L accepts names v node).0

-- ---- what is read of it

read_asked : {K : Type 0} (accepts : K → Accepts) (v : NodeView K) (m : Message) (more rest : List ℕ) → IsNode accepts v → read want.Have (message_bytes (asked_of v) ++ more) ≡ Finished m rest → asked_of v ≡ m
read_asked {K} accepts v m more rest node e =
    same_value (asked_of v) m more rest (sym (message_read want.Have (message_bytes (asked_of v)) more (asked_of v) (asks_fit K accepts v node, refl)) ∙ e)

read_answer : {L : Type 0} (accepts : L → Accepts) (names : List (List ℕ)) (v : NodeView L) (m : Message) (more rest : List ℕ) → IsNode accepts v → read want.Rows (message_bytes (answer_of names v) ++ more) ≡ Finished m rest → answer_of names v ≡ m
read_answer {L} accepts names v m more rest node e =
    same_value (answer_of names v) m more rest (sym (message_read want.Rows (message_bytes (answer_of names v)) more (answer_of names v) (answers_fit L accepts names v node, refl)) ∙ e)

same_names : (a b : List (List ℕ)) → Have a ≡ Have b → a ≡ b
same_names a b e = cc

all_longer : (G H : List Row) → IsPrefix G H → (names : List (List ℕ)) → AllByRecursion (λ (name : List ℕ). is_held G name ≡ true) names → AllByRecursion (λ (name : List ℕ). is_held H name ≡ true) names
all_longer G H first [] held = tt
all_longer G H first (name ∷ names) held = (held_longer G H name first held.0, all_longer G H first names held.1)

pub asks_name_held : (K : Type 0) → AsksNameHeld K
asks_name_held K accepts v w names more rest node first e =
    let same : tips_of v ≡ names = same_names (tips_of v) names (read_asked accepts v (Have names) more rest node e) in
    subst (λ (names : List (List ℕ)). AllByRecursion (λ (name : List ℕ). is_held (node_rows w) name ≡ true) names) same
    (all_longer (node_rows v) (node_rows w) first (tips (node_rows v)) (tips_are_held (node_rows v)))

pub exchanges_hold : (K L : Type 0) → ExchangesHold K L
exchanges_hold K L rules accepts old new peer names m more rest taken node_old node equal held e takes =
    let same : answer_of names peer.node ≡ m = read_answer accepts names peer.node m more rest node e in
    subst (λ (m : Message). (takes : TakesAll rules old (rows_in m) new taken) → HoldsUnlessRefused rules old (rows_in m) new taken takes (node_rows peer.node)) same
    (λ takes. beyond_holds K L rules accepts old new peer names taken node_old node equal held takes) takes
