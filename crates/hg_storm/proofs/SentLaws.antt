-- The mails by names alone: what each member sent each other, and what all sent to one
use Rattle.std.proofs.Common.{◌≡◌, ℕ, zero, suc, ◌+◌, ◌<◌, ◌≤◌, Bool, true, false, cond, eqb, nat_eq, List, [], ◌∷◌, ◌++◌, length, length-append, take, map, get_or, sum_by, refl, sym, ap, ◌∙◌, subst, arith}
use Rattle.std.specs.Prelude.{All}
use Rattle.std.proofs.lemmas.List.Sums.{sum_by-cons}
use Rattle.std.specs.Global.{Vec}
use Rattle.std.proofs.lemmas.List.{get_or_default, get_or-map, length-map, length-take-le}
use Rattle.std.proofs.lemmas.List.Elements.{filter-append}
use Rattle.hg_life.specs.Members.{MemberList}
use Rattle.hg_life.specs.NodeView.{NodeView}
use Rattle.hg_mail.specs.declared.message.Message.{Message}
use Rattle.hg_mail.specs.Messages.{AreFrom, messages_of}
use Rattle.hg_mail.specs.Mailboxes.{PortView}
use Rattle.hg_mail.proofs.MessageLaws.{count_all, count_from}
use Rattle.hg_crowd.proofs.ListLaws.{some_of}
use Rattle.hg_storm.specs.declared.desk.Log.{Log}
use Rattle.hg_storm.specs.declared.mails.Mail.{Mail}
use Rattle.hg_storm.specs.declared.plan.Plan.{Plan}
use Rattle.hg_storm.specs.declared.sending.Dispatch.{Dispatch}
use Rattle.hg_storm.specs.declared.threads.Joined.{Joined}
use Rattle.hg_storm.specs.Drawing.{circle_of}
use Rattle.hg_storm.specs.Joins.{AreTold, HaveCollected, IsSentTo, dispatch_to, full_to, put_to, rows_of_node, sum_below, tale_told}
use Rattle.hg_storm.specs.Keeping.{Secrets}
use Rattle.hg_storm.specs.Receiving.{TookAllDue}
use Rattle.hg_storm.specs.Mails.{AreMails, AreMailsOf, IsCollected, IsMail, IsMailIn, IsToldMail, dispatch_of, names_back, names_in, names_left, names_taken, names_to, pair_of, pairs_in}
use Rattle.hg_storm.proofs.BackLaws.{length-messages}
use Rattle.hg_storm.proofs.CircleLaws.{are_peers, circle_rises, in_pair, sum_in_all, sum_in_pairs, sum_of_map, sums_same}
use Rattle.hg_storm.proofs.MailLaws.{all_back, all_front}
use Rattle.hg_storm.proofs.MessageNameLaws.{has_drawn}
use Rattle.hg_storm.proofs.ToldLaws.{sum_same}

-- how many messages are of the first senders, each counted for itself
sum_of_senders : (n : ℕ) (ms : List Message) → sum_below n (λ j. length (messages_of j ms)) ≡ count_from n ms
sum_of_senders zero ms = refl
sum_of_senders (suc n) ms = ap (λ (x : ℕ). x + length (messages_of n ms)) (sum_of_senders n ms)

conds_add : (b : Bool) (n k j : ℕ) → n ≡ k + j → cond b n 0 ≡ cond b k 0 + cond b j 0
conds_add true n k j is = is
conds_add false n k j is = refl

sums_add : (f g h : Mail → ℕ) (ms : List Mail) → All (λ (m : Mail). f m ≡ g m + h m) ms → sum_by f ms ≡ sum_by g ms + sum_by h ms
sums_add f g h [] all = refl
sums_add f g h (m ∷ ms) all =
    omega (arith, sum_by-cons f m ms, sum_by-cons g m ms, sum_by-cons h m ms, all 0 m (omega arith), sums_add f g h ms (λ x d x_in. all (suc x) d (omega (arith, x_in))))

module _ (members : MemberList) (room : ℕ) (joined : Joined) (plan : Plan) (told : AreTold plan room joined.nodes.items joined.logs.items joined.left.items) (circle_is : plan.circle.items ≡ circle_of members)
    (below : All (λ j. j < length joined.nodes.items) plan.circle.items) (mails : List Mail) (are : AreMailsOf joined plan.circle.items mails) where
  abbrev nodes : List (NodeView Secrets)
  nodes = joined.nodes.items

  abbrev logs : List Log
  logs = joined.logs.items

  abbrev left : List (Vec Message)
  left = joined.left.items

  module _ (v : NodeView Secrets) (g : Log) (l : Vec Message) where
    -- how many rows one put into the mailbox of another
    abbrev many : ℕ → ℕ → ℕ
    many j k = length ((tale_told plan nodes logs v g).put j k)

    many_is : (j k : ℕ) → j < length nodes → k < length nodes → many j k ≡ (dispatch_to (get_or logs j g) k).sent
    many_is j k j_in k_in =
        length-messages j 0 (take (dispatch_to (get_or logs j g) k).sent (rows_of_node (get_or nodes j v)))
        ∙ length-take-le (dispatch_to (get_or logs j g) k).sent (rows_of_node (get_or nodes j v)) (told.sent j k v g j_in k_in).within

    long : (m : Mail) (d : Dispatch) (took rest : List Message) (names : List (List ℕ)) → IsToldMail names d took rest m → length m.sent.items ≡ d.sent
    long m d took rest names t = ap length t.sent ∙ length-take-le d.sent names t.within

    -- what all sent to one is what the mails to it have
    all_sent : (k : ℕ) → k < length nodes → put_to (tale_told plan nodes logs v g) (length nodes) k ≡ names_to mails k
    all_sent k k_in =
        let counts : Mail → ℕ = λ (m : Mail). cond (eqb m.to k) (length m.sent.items) 0 in
        let each : All (λ (m : Mail). counts m ≡ in_pair plan.circle.items many k (pair_of m)) mails = λ x d x_in.
        let m : Mail = get_or mails x d in
        let t = are.each x d x_in in
        let size : length m.sent.items ≡ many m.from m.to =
        long m (dispatch_to (get_or logs m.from g) m.to) (get_or logs m.to g).intake.taken.items (get_or left m.to l).items (names_in (get_or nodes m.from v)) (t.mail v g l) ∙ sym (many_is m.from m.to t.from t.to) in
        ap (λ (n : ℕ). cond (eqb m.to k) n 0) size in
        let by_pairs : names_to mails k ≡ sum_by (in_pair plan.circle.items many k) (pairs_in plan.circle.items) =
        sums_same counts (λ (m : Mail). in_pair plan.circle.items many k (pair_of m)) mails each
        ∙ (sym (sum_of_map (in_pair plan.circle.items many k) pair_of mails) ∙ ap (sum_by (in_pair plan.circle.items many k)) are.pairs) in
        let within = sum_in_pairs plan.circle.items many k (length nodes) below (λ j j_in some.
        are_peers members plan circle_is j k (has_drawn plan room nodes logs left told v g l j k j_in k_in (omega (arith, some, many_is j k j_in k_in)))) in
        let over = sum_in_all plan.circle.items many k (length nodes) (circle_rises members plan.circle.items circle_is) below in
        omega (arith, within, over, by_pairs)

    -- how often one came back from another's mailbox
    abbrev often : ℕ → ℕ → ℕ
    often j k = (dispatch_to (get_or logs j g) k).full

    all_full : (k : ℕ) → k < length nodes → full_to (tale_told plan nodes logs v g) (length nodes) k ≡ names_back mails k
    all_full k k_in =
        let counts : Mail → ℕ = λ (m : Mail). cond (eqb m.to k) m.full 0 in
        let each : All (λ (m : Mail). counts m ≡ in_pair plan.circle.items often k (pair_of m)) mails = λ x d x_in.
        let m : Mail = get_or mails x d in
        ap (λ (n : ℕ). cond (eqb m.to k) n 0) ((are.each x d x_in).mail v g l).full in
        let by_pairs : names_back mails k ≡ sum_by (in_pair plan.circle.items often k) (pairs_in plan.circle.items) =
        sums_same counts (λ (m : Mail). in_pair plan.circle.items often k (pair_of m)) mails each
        ∙ (sym (sum_of_map (in_pair plan.circle.items often k) pair_of mails) ∙ ap (sum_by (in_pair plan.circle.items often k)) are.pairs) in
        let within = sum_in_pairs plan.circle.items often k (length nodes) below (λ j j_in some.
        are_peers members plan circle_is j k ((told.sent j k v g j_in k_in).counted.drawn (omega (arith, some)))) in
        let over = sum_in_all plan.circle.items often k (length nodes) (circle_rises members plan.circle.items circle_is) below in
        omega (arith, within, over, by_pairs)

    -- all that was taken out of one's mailbox, then and at last
    all_out : (k : ℕ) → k < length nodes → length ((get_or logs k g).intake.taken.items ++ (get_or left k l).items) ≡ names_to mails k
    all_out k k_in =
        let took : List Message = (get_or logs k g).intake.taken.items in
        let rest : List Message = (get_or left k l).items in
        let each : put_to (tale_told plan nodes logs v g) (length nodes) k ≡ sum_below (length nodes) (λ j. length (messages_of j (took ++ rest))) =
        sum_same (length nodes) _ _ (λ j low. ap length (told.mail j k v g l low k_in ∙ sym (filter-append (λ (m : Message). nat_eq m.from j) took rest))) in
        sym (count_all (length nodes) (took ++ rest) (told.known k g l k_in)) ∙ (sym (sum_of_senders (length nodes) (took ++ rest)) ∙ (sym each ∙ all_sent k k_in))

    -- how many messages of one the mailbox of another had left
    abbrev rest_of : ℕ → ℕ → ℕ
    rest_of j k = length (messages_of j (get_or left k l).items)

    -- what the mails to one have left is what its mailbox had
    all_left : (k : ℕ) → k < length nodes → names_left mails k ≤ length (get_or left k l).items
    all_left k k_in =
        let counts : Mail → ℕ = λ (m : Mail). cond (eqb m.to k) (length m.left.items) 0 in
        let each : All (λ (m : Mail). counts m ≡ in_pair plan.circle.items rest_of k (pair_of m)) mails = λ x d x_in.
        let m : Mail = get_or mails x d in
        let t = are.each x d x_in in
        let names = names_in (get_or nodes m.from v) in
        let size : length m.left.items ≡ rest_of m.from m.to =
        ap length (t.mail v g l).left ∙ length-map (messages_of m.from (get_or left m.to l).items) (λ (n : Message). get_or names n.number []) in
        ap (λ (n : ℕ). cond (eqb m.to k) n 0) size in
        let by_pairs : names_left mails k ≡ sum_by (in_pair plan.circle.items rest_of k) (pairs_in plan.circle.items) =
        sums_same counts (λ (m : Mail). in_pair plan.circle.items rest_of k (pair_of m)) mails each
        ∙ (sym (sum_of_map (in_pair plan.circle.items rest_of k) pair_of mails) ∙ ap (sum_by (in_pair plan.circle.items rest_of k)) are.pairs) in
        let within = sum_in_all plan.circle.items rest_of k (length nodes) (circle_rises members plan.circle.items circle_is) below in
        let of_members : AreFrom (length nodes) (get_or left k l).items =
        all_back (λ (m : Message). m.from < length nodes) (get_or logs k g).intake.taken.items (get_or left k l).items (told.known k g l k_in) in
        omega (arith, within, by_pairs, sum_of_senders (length nodes) (get_or left k l).items, count_all (length nodes) (get_or left k l).items of_members)

    -- how many messages of one another took
    abbrev took_of : ℕ → ℕ → ℕ
    took_of j k = length (messages_of j (get_or logs k g).intake.taken.items)

    -- what the mails to one tell as taken it took
    all_taken : (k : ℕ) → k < length nodes → names_taken mails k ≤ length (get_or logs k g).intake.taken.items
    all_taken k k_in =
        let counts : Mail → ℕ = λ (m : Mail). cond (eqb m.to k) (length m.taken.items) 0 in
        let each : All (λ (m : Mail). counts m ≡ in_pair plan.circle.items took_of k (pair_of m)) mails = λ x d x_in.
        let m : Mail = get_or mails x d in
        let t = are.each x d x_in in
        let names = names_in (get_or nodes m.from v) in
        let size : length m.taken.items ≡ took_of m.from m.to =
        ap length (t.mail v g l).taken ∙ length-map (messages_of m.from (get_or logs m.to g).intake.taken.items) (λ (n : Message). get_or names n.number []) in
        ap (λ (n : ℕ). cond (eqb m.to k) n 0) size in
        let by_pairs : names_taken mails k ≡ sum_by (in_pair plan.circle.items took_of k) (pairs_in plan.circle.items) =
        sums_same counts (λ (m : Mail). in_pair plan.circle.items took_of k (pair_of m)) mails each
        ∙ (sym (sum_of_map (in_pair plan.circle.items took_of k) pair_of mails) ∙ ap (sum_by (in_pair plan.circle.items took_of k)) are.pairs) in
        let within = sum_in_all plan.circle.items took_of k (length nodes) (circle_rises members plan.circle.items circle_is) below in
        let of_members : AreFrom (length nodes) (get_or logs k g).intake.taken.items =
        all_front (λ (m : Message). m.from < length nodes) (get_or logs k g).intake.taken.items (get_or left k l).items (told.known k g l k_in) in
        omega (arith, within, by_pairs, sum_of_senders (length nodes) (get_or logs k g).intake.taken.items, count_all (length nodes) (get_or logs k g).intake.taken.items of_members)

    -- each name that was sent was taken or is left
    all_parts_of : (k : ℕ) → names_to mails k ≡ names_taken mails k + names_left mails k
    all_parts_of k = sums_add (λ (m : Mail). cond (eqb m.to k) (length m.sent.items) 0) (λ (m : Mail). cond (eqb m.to k) (length m.taken.items) 0)
        (λ (m : Mail). cond (eqb m.to k) (length m.left.items) 0) mails
        (λ x d x_in.
        let m : Mail = get_or mails x d in
        let parts = (are.each x d x_in).mail v g l in
        conds_add (eqb m.to k) (length m.sent.items) (length m.taken.items) (length m.left.items) (ap length parts.parts ∙ length-append m.taken.items m.left.items))

    took_same : (k : ℕ) → k < length nodes → length (get_or logs k g).intake.taken.items ≡ names_taken mails k
    took_same k k_in = omega (arith, all_parts_of k, all_out k k_in, length-append (get_or logs k g).intake.taken.items (get_or left k l).items, all_taken k k_in, all_left k k_in)

    mail_is : (x : ℕ) (m : Mail) → x < length mails → m ≡ get_or mails x m → IsMail plan room mails (get_or nodes m.from v) (get_or logs m.from g).idle m
    mail_is x m x_in m_is =
        let t = subst (λ (n : Mail). IsMailIn nodes logs left n) (sym m_is) (are.each x m x_in) in
        let d : Dispatch = dispatch_to (get_or logs m.from g) m.to in
        let told_mail = t.mail v g l in
        let size : length m.sent.items ≡ d.sent = long m d (get_or logs m.to g).intake.taken.items (get_or left m.to l).items (names_in (get_or nodes m.from v)) told_mail in
        let same : d ≡ dispatch_of m = λ i. record { sent = sym size i; full = sym told_mail.full i; due = sym told_mail.due i } in
        record {
          sent = told_mail.sent ∙ ap (λ (n : ℕ). take n (names_in (get_or nodes m.from v))) (sym size);
          once = told_mail.once;
          parts = told_mail.parts;
          due = subst (IsSentTo plan m.from m.to (get_or nodes m.from v) (get_or logs m.from g).idle) same (told.sent m.from m.to v g t.from t.to);
          full = λ often.
              let held = told.full m.from m.to v g t.from t.to (omega (arith, often, told_mail.full)) in
              omega (arith, held, all_sent m.to t.to);
          few = omega (arith, all_left m.to t.to, told.few m.to l t.to);
        }

  pub are_mails : (idle : List ℕ) → idle ≡ map (λ (h : Log). h.idle) logs → AreMails plan room nodes idle mails
  are_mails idle idle_is = record {
    pairs = are.pairs;
    each = λ x d x_in v i.
        let t = are.each x d x_in in
        let m : Mail = get_or mails x d in
        let g : Log = some_of logs m.from (omega (arith, t.from, told.logs_count)) in
        let l : Vec Message = some_of left m.from (omega (arith, t.from, told.left_count)) in
        let none : (get_or logs m.from g).idle ≡ get_or idle m.from i =
        sym (ap (λ (ns : List ℕ). get_or ns m.from i) idle_is ∙ get_or-map (λ (h : Log). h.idle) logs m.from g i (omega (arith, t.from, told.logs_count))) in
        subst (λ (n : ℕ). IsMail plan room mails (get_or nodes m.from v) n m) none (mail_is v g l x m x_in (get_or_default mails x d m x_in));
  }

  pub are_collected : (ports : List PortView) → HaveCollected plan room nodes logs left ports → (k : ℕ) (q : PortView) → k < length nodes → IsCollected plan room mails k (get_or ports k q)
  are_collected ports collected k q k_in =
      let v : NodeView Secrets = some_of nodes k k_in in
      let g : Log = some_of logs k (omega (arith, k_in, told.logs_count)) in
      let l : Vec Message = some_of left k (omega (arith, k_in, told.left_count)) in
      let its = collected.each k v g l q k_in in
      record {
        collects = its.collects;
        each = its.each;
        found = its.found;
        took = subst (TookAllDue room (get_or ports k q).count.findings) (took_same v g l k k_in) its.took;
        back = its.back ∙ all_full v g l k k_in;
        out = ap length its.taken ∙ all_out v g l k k_in;
      }
