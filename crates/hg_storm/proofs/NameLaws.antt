-- What the threads told, by the names of rows
use Rattle.std.proofs.Common.{◌≡◌, ⊎_elim, ℕ, suc, ◌+◌, ◌<◌, List, [], ◌∷◌, ◌++◌, length, take, map, get_or, Option, Some, slice_get, refl, sym, ap, ◌∙◌, subst, arith}
use Rattle.std.specs.Prelude.{All, option_map}
use Rattle.std.specs.Global.{Vec}
use Rattle.std.specs.List.{AllByRecursion}
use Rattle.std.proofs.lemmas.List.{get_or_default, get_or-map, length-map}
use Rattle.std.proofs.lemmas.List.Elements.{All-from_recursion}
use Rattle.std.proofs.lemmas.Option.{get_or_from_slice_get, slice_get-get_or, slice_get-map, slice_get_within}
use Rattle.hg_model.specs.declared.row.Row.{Row}
use Rattle.hg_event.proofs.Reading.{same_done}
use Rattle.hg_life.specs.History.{Change}
use Rattle.hg_life.specs.History.Change.{Took}
use Rattle.hg_life.specs.Calls.{put_answer}
use Rattle.hg_life.specs.Members.{MemberList}
use Rattle.hg_life.specs.NodeView.{IsNode, NodeView, node_rows}
use Rattle.hg_life.specs.Signing.{accepts_by}
use Rattle.hg_mail.specs.declared.message.Message.{Message}
use Rattle.hg_mail.specs.Messages.{messages_of}
use Rattle.hg_board.specs.Table.{node_at}
use Rattle.hg_board.specs.Seats.{SharedNode}
use Rattle.hg_crowd.proofs.ListLaws.{some_of}
use Rattle.hg_storm.specs.declared.desk.Log.{Log}
use Rattle.hg_storm.specs.declared.mails.Mail.{Mail}
use Rattle.hg_storm.specs.declared.plan.Plan.{Plan}
use Rattle.hg_storm.specs.declared.refusals.Refusal.{Refusal}
use Rattle.hg_storm.specs.declared.taking.RefusedMessage.{RefusedMessage}
use Rattle.hg_storm.specs.declared.threads.Joined.{Joined}
use Rattle.hg_storm.specs.Drawing.{circle_of}
use Rattle.hg_storm.specs.Fates.{AreHeld, AreRising, IsOfMessage, Refuses, no_message}
use Rattle.hg_storm.specs.Joins.{AreTold, IsTold}
use Rattle.hg_storm.specs.Keeping.{Secrets}
use Rattle.hg_storm.specs.Mails.{AreMailsOf, IsMailIn, names_in, names_told, pair_of}
use Rattle.hg_storm.specs.Refusals.{AreToldOnce, HasOrRefused, HasRow, HasTakenNames, HaveRows, IsMailAt, IsOfMail, IsRefusal, IsRefusedName, message_at, name_of, name_sent, refusal_of, refusals_of}
use Rattle.hg_storm.proofs.CircleLaws.{ArePeers, are_peers, pair_of_all, value_of}
use Rattle.hg_storm.proofs.FateLaws.{all_map}
use Rattle.hg_storm.proofs.MailLaws.{name_read}
use Rattle.hg_storm.proofs.MessageNameLaws.{drawn, from_in, has_or_refused, has_row_number, its_row, name_is, names_once, number_is, row_at, row_read, row_spells, sent_as}
use Rattle.hg_storm.proofs.WorldLaws.{mapped_more}
use Rattle.hg_storm.proofs.SenderLaws.{earlier, origin, place, place_later, stands_at}

-- ---- the mails

module _ (members : MemberList) (room : ℕ) (joined : Joined) (plan : Plan) (told : AreTold plan room joined.nodes.items joined.logs.items joined.left.items) (circle_is : plan.circle.items ≡ circle_of members)
    (mails : List Mail) (are : AreMailsOf joined plan.circle.items mails) where
  abbrev nodes : List (NodeView Secrets)
  nodes = joined.nodes.items

  abbrev logs : List Log
  logs = joined.logs.items

  abbrev left : List (Vec Message)
  left = joined.left.items

  mail_in : (x : ℕ) (m : Mail) → slice_get mails x ≡ Some m → IsMailIn nodes logs left m
  mail_in x m at = subst (IsMailIn nodes logs left) (get_or_from_slice_get mails x m m at) (are.each x m (slice_get_within mails x m at))

  -- there is one of each two that are peers
  mail_of : (from to : ℕ) → ArePeers plan.circle.items from to → (x : ℕ) × (m : Mail) × IsMailAt mails from to x m
  mail_of from to peers =
      let pair = pair_of_all plan.circle.items from to peers.sender peers.taker peers.apart in
      let there : slice_get (map pair_of mails) pair.0 ≡ Some (from, to) = ap (λ (ps : List (ℕ × ℕ)). slice_get ps pair.0) are.pairs ∙ pair.1 in
      let one = value_of pair_of mails pair.0 (from, to) there in
      (pair.0, one.0, record { here = one.1; pair = one.2 })

  module _ (v : NodeView Secrets) (g : Log) (l : Vec Message) where
    -- a message that was taken stands in its mail
    stands_in_mail : (k i : ℕ) (k_in : k < length nodes) (i_in : i < length (get_or logs k g).intake.taken.items) (x : ℕ) (mail : Mail) →
        IsMailAt mails (message_at (get_or logs k g).intake.taken.items i).from k x mail →
        slice_get mail.taken.items (place (message_at (get_or logs k g).intake.taken.items i).from (get_or logs k g).intake.taken.items i) ≡ Some (name_sent nodes (message_at (get_or logs k g).intake.taken.items i))
    stands_in_mail k i k_in i_in x mail at =
        let took : List Message = (get_or logs k g).intake.taken.items in
        let m : Message = message_at took i in
        let from_is : mail.from ≡ m.from = ap (λ (p : ℕ × ℕ). p.0) at.pair in
        let to_is : mail.to ≡ k = ap (λ (p : ℕ × ℕ). p.1) at.pair in
        let names : List (List ℕ) = names_in (get_or nodes m.from v) in
        let taken : mail.taken.items ≡ names_told names (messages_of m.from took) =
        subst (λ (p : ℕ × ℕ). mail.taken.items ≡ names_told (names_in (get_or nodes p.0 v)) (messages_of p.0 (get_or logs p.1 g).intake.taken.items)) (λ z. (from_is z, to_is z)) ((mail_in x mail at.here).mail v g l).taken in
        let carry : Message → List ℕ = λ (n : Message). get_or names n.number [] in
        ap (λ (ns : List (List ℕ)). slice_get ns (place m.from took i)) taken
        ∙ (slice_get-map carry (messages_of m.from took) (place m.from took i)
        ∙ (ap (option_map carry) (stands_at m.from took i i_in refl)
        ∙ ap (λ (n : List ℕ). Some n) (sym (sent_as plan room nodes logs left told v g l k i k_in i_in))))

    -- what stands in a mail is a message that was taken
    record Entry (k from x : ℕ) (name : List ℕ) : Type 0 where
      index : ℕ
      inside : index < length (get_or logs k g).intake.taken.items
      sender : (message_at (get_or logs k g).intake.taken.items index).from ≡ from
      is : name_sent nodes (message_at (get_or logs k g).intake.taken.items index) ≡ name
      at : place from (get_or logs k g).intake.taken.items index ≡ x

    entry_at : (k : ℕ) → k < length nodes → (x : ℕ) (mail : Mail) → slice_get mails x ≡ Some mail → mail.to ≡ k → (y : ℕ) (name : List ℕ) → slice_get mail.taken.items y ≡ Some name → Entry k mail.from y name
    entry_at k k_in x mail here to_is y name at =
        let took : List Message = (get_or logs k g).intake.taken.items in
        let names : List (List ℕ) = names_in (get_or nodes mail.from v) in
        let taken : mail.taken.items ≡ names_told names (messages_of mail.from took) =
        subst (λ (z : ℕ). mail.taken.items ≡ names_told names (messages_of mail.from (get_or logs z g).intake.taken.items)) to_is ((mail_in x mail here).mail v g l).taken in
        let one = value_of (λ (n : Message). get_or names n.number []) (messages_of mail.from took) y name (ap (λ (ns : List (List ℕ)). slice_get ns y) (sym taken) ∙ at) in
        let o = origin mail.from took y one.0 one.1 in
        let sender_is : (message_at took o.index).from ≡ mail.from = ap (λ (n : Message). n.from) o.is ∙ o.of in
        record {
          index = o.index;
          inside = o.inside;
          sender = sender_is;
          is = sent_as plan room nodes logs left told v g l k o.index k_in o.inside
              ∙ (ap (λ (z : ℕ). get_or (names_in (get_or nodes z v)) (message_at took o.index).number []) sender_is
              ∙ (ap (λ (n : Message). get_or names n.number []) o.is ∙ one.2));
          at = o.at;
        }

    -- ---- one member

    module _ (k : ℕ) (k_in : k < length nodes) (p : SharedNode Secrets) (is : IsTold plan k p (get_or nodes k v) (get_or logs k g)) where
      abbrev taken_all : List Message
      taken_all = (get_or logs k g).intake.taken.items

      abbrev refused_all : List RefusedMessage
      refused_all = (get_or logs k g).intake.refused.items

      abbrev named_all : List Refusal
      named_all = refusals_of nodes (get_or logs k g)

      abbrev its_history : List Change
      its_history = (get_or nodes k v).history

      -- each name that was taken, where those before some message are held or were refused
      entry_held : (history : List Change) (end : ℕ) → AreHeld p history taken_all refused_all end → (from y : ℕ) (name : List ℕ) (e : Entry k from y name) → e.index < end → HasOrRefused p history named_all from name
      entry_held history end held from y name e low =
          subst (λ (x : ℕ × List ℕ). HasOrRefused p history named_all x.0 x.1) (λ z. (e.sender z, e.is z))
          (has_or_refused plan room nodes logs left told v g l k e.index k_in e.inside p history refused_all (held e.index low))

      taken_held : All (λ (m : Mail). m.to ≡ k → All (HasOrRefused p its_history named_all m.from) m.taken.items) mails
      taken_held x d x_in to_is y name y_in =
          let mail : Mail = get_or mails x d in
          let e = entry_at k k_in x mail (slice_get-get_or mails x d x_in) to_is y (get_or mail.taken.items y name) (slice_get-get_or mail.taken.items y name y_in) in
          entry_held its_history (length taken_all) is.fates.held mail.from y (get_or mail.taken.items y name) e e.inside

      -- one refusal
      module _ (r : RefusedMessage) (refuses : Refuses accepts_by p its_history taken_all refused_all r) where
        abbrev message : Message
        message = message_at taken_all r.index

        peers_are : ArePeers plan.circle.items message.from k
        peers_are = are_peers members plan circle_is message.from k (drawn plan room nodes logs left told v g l k r.index k_in refuses.index)

        is_refusal : IsRefusal mails k p its_history named_all (refusal_of nodes taken_all r) (get_or nodes message.from v)
        is_refusal =
            let mail = mail_of message.from k peers_are in
            let row = its_row plan room nodes logs left told v g l k r.index k_in refuses.index in
            let spells = row_spells plan room nodes logs left told v g l k r.index k_in refuses.index in
            record {
              place = mail.0;
              mail = mail.1;
              at = mail.2;
              number = place message.from taken_all r.index;
              taken = stands_in_mail k r.index k_in refuses.index mail.0 mail.1 mail.2;
              within = refuses.within;
              row = row;
              sent = row_at plan room nodes logs left told v g l k r.index k_in refuses.index;
              name = sym (name_is plan room nodes logs left told v g l k r.index k_in refuses.index);
              verdict = ap (put_answer accepts_by (node_at p.start (take r.at its_history))) spells ∙ refuses.verdict;
              before = λ x name low at.
                  let from_is : mail.1.from ≡ message.from = ap (λ (q : ℕ × ℕ). q.0) mail.2.pair in
                  let e : Entry k message.from x name = subst (λ (z : ℕ). Entry k z x name) from_is (entry_at k k_in mail.0 mail.1 mail.2.here (ap (λ (q : ℕ × ℕ). q.1) mail.2.pair) x name at) in
                  entry_held (take r.at its_history) r.index refuses.before message.from x name e (earlier message.from taken_all e.index r.index (omega (arith, e.at, low)));
            }

      -- one row that the node took
      took_of : (q : ℕ) (row : Row) → slice_get its_history q ≡ Some (Took row) → IsOfMail mails k row.name
      took_of q row at =
          let of : IsOfMessage taken_all row = is.fates.took q row at in
          let sender : ℕ = (message_at taken_all of.index).from in
          let peers = are_peers members plan circle_is sender k (drawn plan room nodes logs left told v g l k of.index k_in of.inside) in
          let mail = mail_of sender k peers in
          let same : its_row plan room nodes logs left told v g l k of.index k_in of.inside ≡ row =
          same_done (its_row plan room nodes logs left told v g l k of.index k_in of.inside) row (sym (row_read plan room nodes logs left told v g l k of.index k_in of.inside) ∙ of.reads) in
          record {
            from = sender;
            place = mail.0;
            mail = mail.1;
            at = mail.2;
            number = place sender taken_all of.index;
            taken = stands_in_mail k of.index k_in of.inside mail.0 mail.1 mail.2 ∙ ap (λ (n : List ℕ). Some n) (name_is plan room nodes logs left told v g l k of.index k_in of.inside ∙ ap (λ (x : Row). x.name) same);
          }

      -- of two messages that were taken from one sender each carries a row of its own
      differ : (i j : ℕ) → i < j → j < length taken_all → (message_at taken_all j).from ≡ (message_at taken_all i).from →
          name_sent nodes (message_at taken_all j) ≡ name_sent nodes (message_at taken_all i) → ⊥
      differ i j less j_in from name =
          let i_in : i < length taken_all = omega (arith, less, j_in) in
          let sender : ℕ = (message_at taken_all i).from in
          let its : NodeView Secrets = get_or nodes sender v in
          let a : ℕ = (message_at taken_all i).number in
          let b : ℕ = (message_at taken_all j).number in
          let node : IsNode accepts_by its = (told.each sender v g (from_in plan room nodes logs left told v g l k i k_in i_in)).1.lawful in
          let a_is : a ≡ place sender taken_all i = number_is plan room nodes logs left told v g l k i k_in i_in in
          let b_is : b ≡ place sender taken_all j = subst (λ (f : ℕ). b ≡ place f taken_all j) from (number_is plan room nodes logs left told v g l k j k_in j_in) in
          let a_in : a < length (node_rows its) = has_row_number plan room nodes logs left told v g l k i k_in i_in in
          let b_in : b < length (node_rows its) = subst (λ (f : ℕ). b < length (node_rows (get_or nodes f v))) from (has_row_number plan room nodes logs left told v g l k j k_in j_in) in
          let names : get_or (names_in its) a [] ≡ get_or (names_in its) b [] =
          sym (sent_as plan room nodes logs left told v g l k i k_in i_in)
          ∙ (sym name ∙ (sent_as plan room nodes logs left told v g l k j k_in j_in ∙ ap (λ (f : ℕ). get_or (names_in (get_or nodes f v)) b []) from)) in
          let same : a ≡ b = names_once its node a b a_in b_in names in
          let later = place_later sender taken_all i j less i_in refl in
          absurd (omega (arith, a_is, b_is, same, later))

      not_again : (i : ℕ) (rs : List RefusedMessage) (from : ℕ) → i < from → AreRising from rs → AllByRecursion (λ (r : RefusedMessage). r.index < length taken_all) rs →
          IsRefusedName (message_at taken_all i).from (name_sent nodes (message_at taken_all i)) (map (refusal_of nodes taken_all) rs) → ⊥
      not_again i [] from less rising inside again = again
      not_again i (r ∷ rs) from less rising inside again = ⊎_elim
          (λ (is : ((message_at taken_all r.index).from ≡ (message_at taken_all i).from) × (name_sent nodes (message_at taken_all r.index) ≡ name_sent nodes (message_at taken_all i))).
          differ i r.index (omega (arith, less, rising.0)) inside.0 is.0 is.1)
          (λ (rest : IsRefusedName (message_at taken_all i).from (name_sent nodes (message_at taken_all i)) (map (refusal_of nodes taken_all) rs)).
          not_again i rs (suc r.index) (omega (arith, less, rising.0)) rising.1 inside.1 rest) again

      told_once : (rs : List RefusedMessage) (from : ℕ) → AreRising from rs → AllByRecursion (λ (r : RefusedMessage). r.index < length taken_all) rs → AreToldOnce (map (refusal_of nodes taken_all) rs)
      told_once [] from rising inside = tt
      told_once (r ∷ rs) from rising inside = (not_again r.index rs (suc r.index) (omega arith) rising.1 inside.1, told_once rs (suc r.index) rising.1 inside.1)

      -- what became of all of it
      pub has_taken_names : HasTakenNames plan nodes mails k p (get_or nodes k v) (get_or logs k g).idle named_all
      has_taken_names = record {
        turns = is.turns;
        taken = taken_held;
        refusals = λ x d x_in w.
            let at : x < length refused_all = omega (arith, x_in, length-map refused_all (refusal_of nodes taken_all)) in
            let r : RefusedMessage = some_of refused_all x at in
            let one : Refuses accepts_by p its_history taken_all refused_all (get_or refused_all x r) =
            All-from_recursion (Refuses accepts_by p its_history taken_all refused_all) refused_all is.fates.refusals x r at in
            let named : refusal_of nodes taken_all (get_or refused_all x r) ≡ get_or named_all x d = sym (get_or-map (refusal_of nodes taken_all) refused_all x r d at) in
            let m : Message = message_at taken_all (get_or refused_all x r).index in
            let node : get_or nodes m.from v ≡ get_or nodes m.from w = get_or_default nodes m.from v w (from_in plan room nodes logs left told v g l k (get_or refused_all x r).index k_in one.index) in
            subst (λ (y : Refusal). IsRefusal mails k p its_history named_all y (get_or nodes y.from w)) named
            (subst (IsRefusal mails k p its_history named_all (refusal_of nodes taken_all (get_or refused_all x r))) node (is_refusal (get_or refused_all x r) one));
        once = told_once refused_all 0 is.fates.once
            (all_map (Refuses accepts_by p its_history taken_all refused_all) (λ (r : RefusedMessage). r.index < length taken_all) (λ r one. one.index) refused_all is.fates.refusals);
        took = took_of;
      }

-- each message that was refused carries a row of a member's node
pub have_rows : (plan : Plan) (room : ℕ) (nodes : List (NodeView Secrets)) (logs : List Log) (left : List (Vec Message)) → AreTold plan room nodes logs left → All (HaveRows nodes) logs
have_rows plan room nodes logs left told k g k_in x r x_in =
    let inside : k < length nodes = omega (arith, k_in, told.logs_count) in
    let v : NodeView Secrets = some_of nodes k inside in
    let l : Vec Message = some_of left k (omega (arith, inside, told.left_count)) in
    let took : List Message = (get_or logs k g).intake.taken.items in
    let refused : List RefusedMessage = (get_or logs k g).intake.refused.items in
    let is = told.each k v g inside in
    let one : Refuses accepts_by is.0 (get_or nodes k v).history took refused (get_or refused x r) =
    All-from_recursion (Refuses accepts_by is.0 (get_or nodes k v).history took refused) refused is.1.fates.refusals x r x_in in
    record {
      index = one.index;
      from = from_in plan room nodes logs left told v g l k (get_or refused x r).index inside one.index;
      number = λ w. has_row_number plan room nodes logs left told w g l k (get_or refused x r).index inside one.index;
    }

-- ---- all members

abbrev pub items_of : Vec Refusal → List Refusal
items_of l = l.items

-- of each what its lists tell
module _ (members : MemberList) (room : ℕ) (joined : Joined) (plan : Plan) (told : AreTold plan room joined.nodes.items joined.logs.items joined.left.items) (circle_is : plan.circle.items ≡ circle_of members)
    (mails : List Mail) (are : AreMailsOf joined plan.circle.items mails) (idle : List ℕ) (refused : List (Vec Refusal))
    (idle_is : idle ≡ map (λ (g : Log). g.idle) joined.logs.items) (refused_is : map items_of refused ≡ map (refusals_of joined.nodes.items) joined.logs.items) where
  pub idle_long : length idle ≡ length joined.nodes.items
  idle_long = ap length idle_is ∙ (length-map joined.logs.items (λ (g : Log). g.idle) ∙ told.logs_count)

  pub refused_long : length refused ≡ length joined.nodes.items
  refused_long = sym (length-map refused items_of) ∙ (ap length refused_is ∙ (length-map joined.logs.items (refusals_of joined.nodes.items) ∙ told.logs_count))

  pub taken_names : (k : ℕ) (v : NodeView Secrets) (i : ℕ) (r : Vec Refusal) → k < length joined.nodes.items →
      (p : SharedNode Secrets) × HasTakenNames plan joined.nodes.items mails k p (get_or joined.nodes.items k v) (get_or idle k i) (get_or refused k r).items
  taken_names k v i r k_in =
      let low : k < length joined.logs.items = omega (arith, k_in, told.logs_count) in
      let g : Log = some_of joined.logs.items k low in
      let l : Vec Message = some_of joined.left.items k (omega (arith, k_in, told.left_count)) in
      let is = told.each k v g k_in in
      let turns_none : (get_or joined.logs.items k g).idle ≡ get_or idle k i = sym (ap (λ (ns : List ℕ). get_or ns k i) idle_is ∙ get_or-map (λ (h : Log). h.idle) joined.logs.items k g i low) in
      let names : refusals_of joined.nodes.items (get_or joined.logs.items k g) ≡ (get_or refused k r).items =
      sym (get_or-map (refusals_of joined.nodes.items) joined.logs.items k g (items_of r) low)
      ∙ (ap (λ (ls : List (List Refusal)). get_or ls k (items_of r)) (sym refused_is) ∙ get_or-map items_of refused k r (items_of r) (omega (arith, k_in, refused_long))) in (
        is.0,
        subst (λ (x : ℕ × List Refusal). HasTakenNames plan joined.nodes.items mails k is.0 (get_or joined.nodes.items k v) x.0 x.1) (λ z. (turns_none z, names z))
            (has_taken_names members room joined plan told circle_is mails are v g l k k_in is.0 is.1),
      )

-- one message more that was refused
pub named_more : (nodes : List (NodeView Secrets)) (taken : List Message) (refused : List RefusedMessage) (i : ℕ) (one : RefusedMessage) (m : Message) (v : NodeView Secrets) (row : Row) (old new : List Refusal) →
    All (HasRow nodes taken) refused → i < length refused → one ≡ get_or refused i one → m ≡ get_or taken one.index m → v ≡ get_or nodes m.from v → slice_get (node_rows v) m.number ≡ Some row →
    old ≡ map (refusal_of nodes taken) (take i refused) → new ≡ old ++ record { from = m.from; name = row.name; why = one.why; at = one.at } ∷ [] → new ≡ map (refusal_of nodes taken) (take (i + 1) refused)
named_more nodes taken refused i one m v row old new all low one_is m_is v_is row_is before pushed =
    let has : HasRow nodes taken one = subst (HasRow nodes taken) (sym one_is) (all i one low) in
    let same : m ≡ message_at taken one.index = m_is ∙ get_or_default taken one.index m no_message has.index in
    let from_in : m.from < length nodes = subst (λ (n : Message). n.from < length nodes) (sym same) has.from in
    let there : slice_get nodes m.from ≡ Some v = slice_get-get_or nodes m.from v from_in ∙ ap (λ (w : NodeView Secrets). Some w) (sym v_is) in
    let name : row.name ≡ name_sent nodes m = sym (ap (λ (o : Option (NodeView Secrets)). name_of o m.number) there ∙ name_read (node_rows v) m.number row [] row_is) in
    let whole : record { from = m.from; name = row.name; why = one.why; at = one.at } ≡ refusal_of nodes taken one =
    λ z. record { from = (same z).from; name = (name ∙ ap (name_sent nodes) same) z; why = one.why; at = one.at } in
    mapped_more (refusal_of nodes taken) refused i one (record { from = m.from; name = row.name; why = one.why; at = one.at }) old new low one_is before whole pushed
