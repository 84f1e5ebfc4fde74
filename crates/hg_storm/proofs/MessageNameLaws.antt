-- A message that a member took: whose it is, and which row it carries
use Rattle.std.proofs.Common.{◌≡◌, ◌⊎◌, ⊎_elim, inl, inr, ℕ, ◌+◌, ◌<◌, IsTrue, List, [], ◌∷◌, length, take, drop, map, get_or, Option, Some, Ok, slice_get, refl, sym, ap, ◌∙◌, subst, arith}
use Rattle.std.specs.Global.{Vec}
use Rattle.std.proofs.Math.Seq.{take-length}
use mathlib.Core.Logic.{dite}
use native.Mathlib.Decide.{ℕ_discrete}
use Rattle.std.proofs.lemmas.List.{length-take-le, take-append-drop}
use Rattle.std.proofs.lemmas.List.Elements.{All-from_recursion}
use Rattle.std.proofs.lemmas.Option.{slice_get-get_or, slice_get_within}
use Rattle.hg_model.specs.declared.row.Row.{Row}
use Rattle.hg_model.specs.Held.{is_held}
use Rattle.hg_event.proofs.Reading.{same_done}
use Rattle.hg_event.proofs.Spells.{Spells-read_event}
use Rattle.hg_life.specs.Reading.{read_event}
use Rattle.hg_life.specs.History.{Change}
use Rattle.hg_life.specs.NodeView.{IsNode, NodeView, node_rows, terms_of}
use Rattle.hg_life.specs.Signing.{accepts_by}
use Rattle.hg_life.specs.Spelling.{spelling}
use Rattle.hg_history.proofs.SoundLaws.{node_graph}
use Rattle.hg_mail.specs.declared.message.Message.{Message}
use Rattle.hg_mail.specs.Messages.{messages_of}
use Rattle.hg_board.specs.Table.{node_at}
use Rattle.hg_board.specs.Seats.{SharedNode}
use Rattle.hg_storm.specs.declared.desk.Log.{Log}
use Rattle.hg_storm.specs.declared.plan.Plan.{Plan}
use Rattle.hg_storm.specs.declared.sending.Dispatch.{Dispatch}
use Rattle.hg_storm.specs.declared.taking.RefusedMessage.{RefusedMessage}
use Rattle.hg_storm.specs.Drawing.{HasDrawn}
use Rattle.hg_storm.specs.Fates.{HoldsEvent, IsRefused, bytes_at, no_message}
use Rattle.hg_storm.specs.Joins.{AreTold, dispatch_to, rows_of_node}
use Rattle.hg_storm.specs.Keeping.{Secrets}
use Rattle.hg_storm.specs.Mails.{AreOnce, names_in}
use Rattle.hg_storm.specs.Refusals.{HasOrRefused, IsRefusedName, message_at, name_of, name_sent, refusal_of}
use Rattle.hg_storm.specs.Sending.{messages_from}
use Rattle.hg_storm.specs.Threads.{place_of, turns_of}
use Rattle.hg_storm.proofs.CircleLaws.{value_of}
use Rattle.hg_storm.proofs.FateLaws.{get_later}
use Rattle.hg_storm.proofs.MailLaws.{all_front, name_read, names_long, once_of}
use Rattle.hg_storm.proofs.SenderLaws.{message_is, place, stands_at}

-- a refused message is refused by its name
refused_name : (nodes : List (NodeView Secrets)) (taken : List Message) (i : ℕ) (rs : List RefusedMessage) → IsRefused i rs →
    IsRefusedName (message_at taken i).from (name_sent nodes (message_at taken i)) (map (refusal_of nodes taken) rs)
refused_name nodes taken i [] is = absurd is
refused_name nodes taken i (r ∷ rs) is = ⊎_elim
    (λ (e : r.index ≡ i). inl (ap (λ (z : ℕ). (message_at taken z).from) e, ap (λ (z : ℕ). name_sent nodes (message_at taken z)) e))
    (λ (rest : IsRefused i rs). inr (refused_name nodes taken i rs rest)) is

module _ (plan : Plan) (room : ℕ) (nodes : List (NodeView Secrets)) (logs : List Log) (left : List (Vec Message)) (told : AreTold plan room nodes logs left) (v : NodeView Secrets) (g : Log) (l : Vec Message) where
  -- a member that sent rows to another has drawn it
  pub has_drawn : (j k : ℕ) → j < length nodes → k < length nodes → 0 < (dispatch_to (get_or logs j g) k).sent → HasDrawn plan j (place_of plan j) (turns_of plan j) k
  has_drawn j k j_in k_in some =
      let c = (told.sent j k v g j_in k_in).counted in
      dite (ℕ_discrete (dispatch_to (get_or logs j g) k).full 0) (λ none. c.drawn (omega (arith, some, c.sent none))) (λ often. c.drawn (omega (arith, often)))

  -- ---- one message that a member took

  module _ (k i : ℕ) (k_in : k < length nodes) (i_in : i < length (get_or logs k g).intake.taken.items) where
    abbrev took : List Message
    took = (get_or logs k g).intake.taken.items

    abbrev m : Message
    m = message_at took i

    pub from_in : m.from < length nodes
    from_in = All-from_recursion (λ (n : Message). n.from < length nodes) took (all_front (λ (n : Message). n.from < length nodes) took (get_or left k l).items (told.known k g l k_in)) i no_message i_in

    abbrev sender : NodeView Secrets
    sender = get_or nodes m.from v

    abbrev d : Dispatch
    d = dispatch_to (get_or logs m.from g) k

    abbrev its_place : ℕ
    its_place = place m.from took i

    at_put : slice_get (messages_from m.from 0 (take d.sent (rows_of_node sender))) its_place ≡ Some m
    at_put = get_later (messages_of m.from took) (messages_from m.from 0 (take d.sent (rows_of_node sender))) its_place m
        (messages_of m.from (get_or left k l).items, told.mail m.from k v g l from_in k_in) (stands_at m.from took i i_in refl)

    carried : (m.number ≡ 0 + its_place) × (slice_get (take d.sent (rows_of_node sender)) its_place ≡ Some m.bytes)
    carried = message_is m.from 0 (take d.sent (rows_of_node sender)) its_place m at_put

    pub number_is : m.number ≡ its_place
    number_is = omega (arith, carried.0)

    pub drawn : HasDrawn plan m.from (place_of plan m.from) (turns_of plan m.from) k
    drawn =
        let low = slice_get_within (take d.sent (rows_of_node sender)) its_place m.bytes carried.1 in
        let long = length-take-le d.sent (rows_of_node sender) (told.sent m.from k v g from_in k_in).within in
        has_drawn m.from k from_in k_in (omega (arith, low, long))

    -- the row that it carries
    found : (row : Row) × (slice_get (node_rows sender) its_place ≡ Some row) × (spelling row ≡ m.bytes)
    found = value_of spelling (node_rows sender) its_place m.bytes
        (get_later (take d.sent (rows_of_node sender)) (rows_of_node sender) its_place m.bytes (drop d.sent (rows_of_node sender), sym (take-append-drop d.sent (rows_of_node sender))) carried.1)

    pub its_row : Row
    its_row = found.0

    pub row_at : slice_get (node_rows sender) its_place ≡ Some its_row
    unfolding its_row
    row_at = found.1

    pub row_spells : spelling its_row ≡ m.bytes
    unfolding its_row
    row_spells = found.2

    pub row_read : read_event m.bytes ≡ Ok its_row
    row_read =
        let node : IsNode accepts_by sender = (told.each m.from v g from_in).1.lawful in
        let events = (node_graph (terms_of accepts_by sender.start) sender.start.members sender.start.coin sender.start.own sender.history node.coin node.history).events in
        ap read_event (sym row_spells) ∙ Spells-read_event (spelling its_row) its_row (events its_place its_row row_at).spelled

    pub sent_as : name_sent nodes m ≡ get_or (names_in sender) m.number []
    sent_as = ap (λ (o : Option (NodeView Secrets)). name_of o m.number) (slice_get-get_or nodes m.from v from_in)

    pub name_is : name_sent nodes m ≡ its_row.name
    name_is = sent_as ∙ (ap (λ (z : ℕ). get_or (names_in sender) z []) number_is ∙ name_read (node_rows sender) its_place its_row [] row_at)

    pub has_row_number : m.number < length (node_rows sender)
    has_row_number = omega (arith, number_is, slice_get_within (node_rows sender) its_place its_row row_at)

    -- it is held or was refused
    pub has_or_refused : (p : SharedNode Secrets) (history : List Change) (rs : List RefusedMessage) → IsRefused i rs ⊎ HoldsEvent (node_at p.start history) (bytes_at took i) →
        HasOrRefused p history (map (refusal_of nodes took) rs) m.from (name_sent nodes m)
    has_or_refused p history rs = ⊎_elim
        (λ (refused : IsRefused i rs). inl (refused_name nodes took i rs refused))
        (λ (e : HoldsEvent (node_at p.start history) (bytes_at took i)).
        let same : e.row ≡ its_row = same_done e.row its_row (sym e.reads ∙ row_read) in
        inr (subst (λ (name : List ℕ). IsTrue (is_held (node_rows (node_at p.start history)) name)) (ap (λ (r : Row). r.name) same ∙ sym name_is) e.held))

-- the names of a node's rows are different
pub names_once : (v : NodeView Secrets) → IsNode accepts_by v → (x y : ℕ) → x < length (node_rows v) → y < length (node_rows v) → get_or (names_in v) x [] ≡ get_or (names_in v) y [] → x ≡ y
names_once v node x y x_in y_in same =
    let whole : take (length (node_rows v)) (names_in v) ≡ names_in v = ap (λ (n : ℕ). take n (names_in v)) (sym (names_long v)) ∙ take-length (names_in v) in
    subst AreOnce whole (once_of v (length (node_rows v)) node (omega arith)) x y (omega (arith, x_in, names_long v)) (omega (arith, y_in, names_long v)) same
