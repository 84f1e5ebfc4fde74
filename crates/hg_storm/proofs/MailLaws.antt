-- The mails between members by the names of their nodes' rows
use Rattle.std.proofs.Common.{not, append_assoc, ◌≡◌, ◌≢◌, ℕ, suc, ◌+◌, ◌<◌, ◌≤◌, Bool, cond, true, false, eqb, eq-eqb, ne_eqb, List, [], ◌∷◌, ◌++◌, length, take, drop, map, get_or, Some, slice_get, refl, sym, ap, ap₂, ◌∙◌, subst, arith}
use Rattle.std.specs.Prelude.{All}
use Rattle.std.specs.Global.{Vec}
use Rattle.std.specs.List.{AllByRecursion, filter, flat_map}
use mathlib.Core.Logic.{dite}
use native.Mathlib.Decide.{ℕ_discrete}
use Rattle.std.proofs.lemmas.List.{append-nil, drop_more, flat_map_more, get_or_default, get_or-map, get_or-take, length-map, length-take-le, map-append, take_all, take_more}
use Rattle.std.proofs.lemmas.List.Elements.{All-from_recursion, All-push, filter-append}
use Rattle.std.proofs.lemmas.Option.{slice_get-get_or, slice_get_within}
use Rattle.hg_model.specs.declared.row.Row.{Row}
use Rattle.hg_model.specs.Graph.{name_at, name_in}
use Rattle.hg_life.specs.NodeView.{IsNode, NodeView, node_rows, terms_of}
use Rattle.hg_life.specs.Signing.{accepts_by}
use Rattle.hg_life.specs.Spelling.{spelling}
use Rattle.hg_history.proofs.SoundLaws.{node_graph}
use Rattle.hg_mail.specs.declared.message.Message.{Message}
use Rattle.hg_mail.specs.Messages.{messages_of}
use Rattle.hg_mail.proofs.ListLaws.{of_another, of_its_sender}
use Rattle.hg_crowd.proofs.ListLaws.{some_of}
use Rattle.hg_world.proofs.StepLaws.{taken_more}
use Rattle.hg_storm.specs.declared.desk.Log.{Log}
use Rattle.hg_storm.specs.declared.plan.Plan.{Plan}
use Rattle.hg_storm.specs.declared.threads.Joined.{Joined}
use Rattle.hg_storm.specs.declared.mails.Mail.{Mail}
use Rattle.hg_storm.specs.Joins.{AreTold, dispatch_to, rows_of_node}
use Rattle.hg_storm.specs.Keeping.{Secrets}
use Rattle.hg_storm.specs.Sending.{messages_from}
use Rattle.hg_storm.specs.Mails.{AreMailsOf, AreOnce, IsMailOf, IsOfRow, IsToldMail, names_in, names_told, pair_of, pairs_from}

-- ---- names of rows that were read

pub name_read : (rows : List Row) (x : ℕ) (row : Row) (d : List ℕ) → slice_get rows x ≡ Some row → get_or (map (λ (r : Row). r.name) rows) x d ≡ row.name
name_read rows x row d is =
    let low : x < length rows = slice_get_within rows x row is in
    let here : slice_get rows x ≡ Some (get_or rows x row) = slice_get-get_or rows x row low in
    let same : get_or rows x row ≡ row = cc in
    get_or-map (λ (r : Row). r.name) rows x row d low ∙ ap (λ (r : Row). r.name) same

pub names_long : (v : NodeView Secrets) → length (names_in v) ≡ length (node_rows v)
names_long v = length-map (node_rows v) (λ (r : Row). r.name)

-- one more of the first rows
pub first_more : (v : NodeView Secrets) (place : ℕ) (row : Row) (old new : List (List ℕ)) → slice_get (node_rows v) place ≡ Some row →
    old ≡ take place (names_in v) → new ≡ old ++ row.name ∷ [] → new ≡ take (place + 1) (names_in v)
first_more v place row old new is before pushed =
    let low : place < length (names_in v) = omega (arith, slice_get_within (node_rows v) place row is, names_long v) in
    pushed ∙ (ap₂ (λ (names : List (List ℕ)) (name : List ℕ). names ++ name ∷ []) before (sym (name_read (node_rows v) place row [] is)) ∙ sym (take_more (names_in v) place [] low))

-- one message more, of the sender or of another
module _ (v : NodeView Secrets) (from : ℕ) (messages : List Message) (i : ℕ) (m : Message) (low : i < length messages) (is : m ≡ get_or messages i m) (old : List (List ℕ))
    (before : old ≡ names_told (names_in v) (messages_of from (take i messages))) where
  pub told_more : (row : Row) (new : List (List ℕ)) → m.from ≡ from → slice_get (node_rows v) m.number ≡ Some row → new ≡ old ++ row.name ∷ [] →
      new ≡ names_told (names_in v) (messages_of from (take (i + 1) messages))
  told_more row new own here pushed =
      let more : messages_of from (take (i + 1) messages) ≡ messages_of from (take i messages) ++ m ∷ [] =
      ap (messages_of from) (taken_more messages i m low is) ∙ of_its_sender from (take i messages) m own in
      pushed
      ∙ (ap₂ (λ (names : List (List ℕ)) (name : List ℕ). names ++ name ∷ []) before (sym (name_read (node_rows v) m.number row [] here))
      ∙ (sym (map-append (λ (n : Message). get_or (names_in v) n.number []) (messages_of from (take i messages)) (m ∷ [])) ∙ ap (names_told (names_in v)) (sym more)))

  pub told_same : (new : List (List ℕ)) → m.from ≢ from → new ≡ old → new ≡ names_told (names_in v) (messages_of from (take (i + 1) messages))
  told_same new apart same =
      let more : messages_of from (take (i + 1) messages) ≡ messages_of from (take i messages) =
      ap (messages_of from) (taken_more messages i m low is) ∙ of_another from (take i messages) m apart in
      same ∙ (before ∙ ap (names_told (names_in v)) (sym more))

pub told_all : (v : NodeView Secrets) (from : ℕ) (messages : List Message) (i : ℕ) (names : List (List ℕ)) → length messages ≤ i →
    names ≡ names_told (names_in v) (messages_of from (take i messages)) → names ≡ names_told (names_in v) (messages_of from messages)
told_all v from messages i names past is = is ∙ ap (λ (ms : List Message). names_told (names_in v) (messages_of from ms)) (take_all i messages past)

-- ---- what was sent is what was taken, and what is left

names_from : (names : List (List ℕ)) (from at : ℕ) (rows : List (List ℕ)) → at + length rows ≤ length names → names_told names (messages_from from at rows) ≡ take (length rows) (drop at names)
names_from names from at [] within = refl
names_from names from at (bytes ∷ rows) within =
    ap (λ (l : List (List ℕ)). get_or names at [] ∷ l) (names_from names from (at + 1) rows (omega (arith, within)))
    ∙ ap (take (suc (length rows))) (sym (drop_more names at [] (omega (arith, within))))

numbers_from : (from at bound : ℕ) (rows : List (List ℕ)) → at + length rows ≤ bound → AllByRecursion (λ (m : Message). m.number < bound) (messages_from from at rows)
numbers_from from at bound [] within = tt
numbers_from from at bound (bytes ∷ rows) within = (omega (arith, within), numbers_from from (at + 1) bound rows (omega (arith, within)))

pub all_front : (P : Message → Type 0) (xs ys : List Message) → AllByRecursion P (xs ++ ys) → AllByRecursion P xs
all_front P [] ys all = tt
all_front P (x ∷ xs) ys all = (all.0, all_front P xs ys all.1)

pub all_back : (P : Message → Type 0) (xs ys : List Message) → AllByRecursion P (xs ++ ys) → AllByRecursion P ys
all_back P [] ys all = all
all_back P (x ∷ xs) ys all = all_back P xs ys all.1

of_row : (from bound : ℕ) (ms : List Message) → AllByRecursion (λ (m : Message). m.number < bound) (messages_of from ms) → AllByRecursion (IsOfRow from bound) ms
of_row from bound [] all = tt
of_row from bound (m ∷ ms) all = dite (ℕ_discrete m.from from)
    (λ same.
    let both = subst (λ (b : Bool). AllByRecursion (λ (n : Message). n.number < bound) (cond b (m ∷ messages_of from ms) (messages_of from ms))) (eq-eqb m.from from same) all in
    ((λ is. both.0), of_row from bound ms both.1))
    (λ apart.
    let rest = subst (λ (b : Bool). AllByRecursion (λ (n : Message). n.number < bound) (cond b (m ∷ messages_of from ms) (messages_of from ms))) (ne_eqb m.from from apart) all in
    ((λ is. absurd (apart is)), of_row from bound ms rest))

module _ (rows : List Row) (from sent : ℕ) (taken left : List Message) (within : sent ≤ length rows)
    (put : messages_from from 0 (take sent (map spelling rows)) ≡ messages_of from taken ++ messages_of from left) where
  abbrev names : List (List ℕ)
  names = map (λ (r : Row). r.name) rows

  many : length (take sent (map spelling rows)) ≡ sent
  many = length-take-le sent (map spelling rows) (omega (arith, within, length-map rows spelling))

  all_numbers : AllByRecursion (λ (m : Message). m.number < length rows) (messages_of from taken ++ messages_of from left)
  all_numbers = subst (AllByRecursion (λ (m : Message). m.number < length rows)) put (numbers_from from 0 (length rows) (take sent (map spelling rows)) (omega (arith, many, within)))

  pub taken_numbers : All (IsOfRow from (length rows)) taken
  taken_numbers = All-from_recursion (IsOfRow from (length rows)) taken (of_row from (length rows) taken (all_front (λ (m : Message). m.number < length rows) (messages_of from taken) (messages_of from left) all_numbers))

  pub left_numbers : All (IsOfRow from (length rows)) left
  left_numbers = All-from_recursion (IsOfRow from (length rows)) left (of_row from (length rows) left (all_back (λ (m : Message). m.number < length rows) (messages_of from taken) (messages_of from left) all_numbers))

  pub sent_parts : take sent names ≡ names_told names (messages_of from taken) ++ names_told names (messages_of from left)
  sent_parts =
      ap (λ (k : ℕ). take k names) (sym many)
      ∙ (sym (names_from names from 0 (take sent (map spelling rows)) (omega (arith, many, within, length-map rows (λ (r : Row). r.name))))
      ∙ (ap (names_told names) put ∙ map-append (λ (m : Message). get_or names m.number []) (messages_of from taken) (messages_of from left)))

-- the names of a node's rows are different
name_is : (rows : List Row) (x : ℕ) → x < length rows → get_or (map (λ (r : Row). r.name) rows) x [] ≡ name_at rows x
unfolding name_at
name_is rows x low =
    let row : Row = some_of rows x low in
    get_or-map (λ (r : Row). r.name) rows x row [] low ∙ ap name_in (sym (slice_get-get_or rows x row low))

pub once_of : (v : NodeView Secrets) (n : ℕ) → IsNode accepts_by v → n ≤ length (node_rows v) → AreOnce (take n (names_in v))
once_of v n node within x y low_x low_y same =
    let long : length (take n (names_in v)) ≡ n = length-take-le n (names_in v) (omega (arith, within, names_long v)) in
    let graph = (node_graph (terms_of accepts_by v.start) v.start.members v.start.coin v.start.own v.history node.coin node.history).graph in
    graph.distinct.one x y (omega (arith, low_x, long, within)) (omega (arith, low_y, long, within))
    (sym (name_is (node_rows v) x (omega (arith, low_x, long, within)))
    ∙ (sym (get_or-take n (names_in v) x [] (omega (arith, low_x, long)))
    ∙ (same ∙ (get_or-take n (names_in v) y [] (omega (arith, low_y, long)) ∙ name_is (node_rows v) y (omega (arith, low_y, long, within))))))

-- ---- what one member sent another

module _ (plan : Plan) (room : ℕ) (nodes : List (NodeView Secrets)) (logs : List Log) (left : List (Vec Message)) (told : AreTold plan room nodes logs left) (j k : ℕ) (in_j : j < length nodes) (in_k : k < length nodes)
    (v : NodeView Secrets) (g h : Log) (l : Vec Message) (v_is : v ≡ get_or nodes j v) (g_is : g ≡ get_or logs j g) (h_is : h ≡ get_or logs k h) (l_is : l ≡ get_or left k l) where
  pub log_inside : (i : ℕ) → i < length nodes → i < length logs
  log_inside i inside = omega (arith, inside, told.logs_count)

  pub left_inside : k < length left
  left_inside = omega (arith, in_k, told.left_count)

  pub sent_within : (dispatch_to g k).sent ≤ length (node_rows v)
  sent_within =
      let all : (dispatch_to g k).sent ≤ length (rows_of_node v) =
      subst (λ (x : NodeView Secrets × Log). (dispatch_to x.1 k).sent ≤ length (rows_of_node x.0)) (λ i. (sym v_is i, sym g_is i)) (told.sent j k v g in_j in_k).within in
      omega (arith, all, length-map (node_rows v) spelling)

  put : messages_from j 0 (take (dispatch_to g k).sent (rows_of_node v)) ≡ messages_of j h.intake.taken.items ++ messages_of j l.items
  put =
      let took : get_or logs k g ≡ h = get_or_default logs k g h (log_inside k in_k) ∙ sym h_is in
      subst (λ (x : NodeView Secrets × Log × Log × Vec Message). messages_from j 0 (take (dispatch_to x.1 k).sent (rows_of_node x.0)) ≡ messages_of j x.2.intake.taken.items ++ messages_of j x.3.items)
      (λ i. (sym v_is i, sym g_is i, took i, sym l_is i)) (told.mail j k v g l in_j in_k)

  pub taken_rows : All (IsOfRow j (length (node_rows v))) h.intake.taken.items
  taken_rows = taken_numbers (node_rows v) j (dispatch_to g k).sent h.intake.taken.items l.items sent_within put

  pub left_rows : All (IsOfRow j (length (node_rows v))) l.items
  left_rows = left_numbers (node_rows v) j (dispatch_to g k).sent h.intake.taken.items l.items sent_within put

  pub all_parts : take (dispatch_to g k).sent (names_in v) ≡ names_told (names_in v) (messages_of j h.intake.taken.items) ++ names_told (names_in v) (messages_of j l.items)
  all_parts = sent_parts (node_rows v) j (dispatch_to g k).sent h.intake.taken.items l.items sent_within put

module _ (plan : Plan) (room : ℕ) (joined : Joined) (told : AreTold plan room joined.nodes.items joined.logs.items joined.left.items) (m : Mail) (in_j : m.from < length joined.nodes.items) (in_k : m.to < length joined.nodes.items)
    (v : NodeView Secrets) (g h : Log) (l : Vec Message) (v_is : v ≡ get_or joined.nodes.items m.from v) (g_is : g ≡ get_or joined.logs.items m.from g) (h_is : h ≡ get_or joined.logs.items m.to h)
    (l_is : l ≡ get_or joined.left.items m.to l) where
  pub is_mail : IsNode accepts_by v → m.sent.items ≡ take (dispatch_to g m.to).sent (names_in v) → m.taken.items ≡ names_told (names_in v) (messages_of m.from h.intake.taken.items) →
      m.left.items ≡ names_told (names_in v) (messages_of m.from l.items) → m.full ≡ (dispatch_to g m.to).full → m.due ≡ (dispatch_to g m.to).due → IsMailOf joined m
  is_mail node sent taken left full due =
      let within = sent_within plan room joined.nodes.items joined.logs.items joined.left.items told m.from m.to in_j in_k v g h l v_is g_is h_is l_is in
      let here : IsToldMail (names_in v) (dispatch_to g m.to) h.intake.taken.items l.items m = record {
        within = omega (arith, within, names_long v);
        sent = sent;
        once = subst AreOnce (sym sent) (once_of v (dispatch_to g m.to).sent node within);
        taken = taken;
        left = left;
        parts = sent ∙ (all_parts plan room joined.nodes.items joined.logs.items joined.left.items told m.from m.to in_j in_k v g h l v_is g_is h_is l_is
            ∙ ap₂ (λ (xs ys : List (List ℕ)). xs ++ ys) (sym taken) (sym left));
        full = full;
        due = due;
      } in
      record {
        from = in_j;
        to = in_k;
        mail = λ v' g' l'.
            let node_is : v ≡ get_or joined.nodes.items m.from v' = v_is ∙ get_or_default joined.nodes.items m.from v v' in_j in
            let log_is : g ≡ get_or joined.logs.items m.from g' = g_is ∙ get_or_default joined.logs.items m.from g g' (omega (arith, in_j, told.logs_count)) in
            let took_is : h ≡ get_or joined.logs.items m.to g' = h_is ∙ get_or_default joined.logs.items m.to h g' (omega (arith, in_k, told.logs_count)) in
            let left_is : l ≡ get_or joined.left.items m.to l' = l_is ∙ get_or_default joined.left.items m.to l l' (omega (arith, in_k, told.left_count)) in
            subst (λ (x : NodeView Secrets × Log × Log × Vec Message). IsToldMail (names_in x.0) (dispatch_to x.1 m.to) x.2.intake.taken.items x.3.items m)
            (λ i. (node_is i, log_is i, took_is i, left_is i)) here;
      }

-- ---- one mail after the other

module _ (circle : List ℕ) (from i to : ℕ) (low : i < length circle) (is : to ≡ get_or circle i 0) where
  abbrev others : ℕ → Bool
  others k = not (eqb k from)

  grown : (b : Bool) → others to ≡ b → pairs_from (take (i + 1) circle) from ≡ pairs_from (take i circle) from ++ map (λ k. (from, k)) (cond b (to ∷ []) [])
  grown b test =
      ap (λ (l : List ℕ). pairs_from l from) (taken_more circle i to low (is ∙ get_or_default circle i 0 to low))
      ∙ (ap (map (λ k. (from, k))) (filter-append others (take i circle) (to ∷ []) ∙ ap (λ (c : Bool). filter others (take i circle) ++ cond c (to ∷ []) []) test)
      ∙ map-append (λ k. (from, k)) (filter others (take i circle)) (cond b (to ∷ []) []))

  -- one more, or none to the member itself
  pub pairs_more : (olds mails news : List Mail) (m : Mail) → to ≢ from → map pair_of mails ≡ map pair_of olds ++ pairs_from (take i circle) from → pair_of m ≡ (from, to) → news ≡ mails ++ m ∷ [] →
      map pair_of news ≡ map pair_of olds ++ pairs_from (take (i + 1) circle) from
  pairs_more olds mails news m apart before pair pushed =
      ap (map pair_of) pushed
      ∙ (map-append pair_of mails (m ∷ [])
      ∙ (ap₂ (λ (l : List (ℕ × ℕ)) (p : ℕ × ℕ). l ++ p ∷ []) before pair
      ∙ (append_assoc (map pair_of olds) (pairs_from (take i circle) from) ((from, to) ∷ [])
      ∙ ap (λ (l : List (ℕ × ℕ)). map pair_of olds ++ l) (sym (grown true (ap not (ne_eqb to from apart)))))))

  pub pairs_same : (olds mails news : List Mail) → to ≡ from → map pair_of mails ≡ map pair_of olds ++ pairs_from (take i circle) from → news ≡ mails →
      map pair_of news ≡ map pair_of olds ++ pairs_from (take (i + 1) circle) from
  pairs_same olds mails news same before is_same =
      ap (map pair_of) is_same
      ∙ (before
      ∙ ap (λ (l : List (ℕ × ℕ)). map pair_of olds ++ l) (sym (grown false (ap not (eq-eqb to from same)) ∙ append-nil (pairs_from (take i circle) from))))

-- those of one sender more
pub senders_more : (circle : List ℕ) (i from : ℕ) (mails news : List Mail) → i < length circle → from ≡ get_or circle i 0 → map pair_of mails ≡ flat_map (pairs_from circle) (take i circle) →
    map pair_of news ≡ map pair_of mails ++ pairs_from circle from → map pair_of news ≡ flat_map (pairs_from circle) (take (i + 1) circle)
senders_more circle i from mails news low is before more =
    more ∙ (ap (λ (l : List (ℕ × ℕ)). l ++ pairs_from circle from) before
    ∙ (flat_map_more (pairs_from circle) [] (take i circle) from ∙ ap (flat_map (pairs_from circle)) (sym (taken_more circle i from low (is ∙ get_or_default circle i 0 from low)))))

pub are_mails : (joined : Joined) (circle : List ℕ) (i : ℕ) (mails : List Mail) → length circle ≤ i → map pair_of mails ≡ flat_map (pairs_from circle) (take i circle) → All (IsMailOf joined) mails → AreMailsOf joined circle mails
are_mails joined circle i mails past pairs each = record {
  pairs = pairs ∙ ap (flat_map (pairs_from circle)) (take_all i circle past);
  each = each;
}

pub mails_same : (joined : Joined) (mails news : List Mail) → All (IsMailOf joined) mails → news ≡ mails → All (IsMailOf joined) news
mails_same joined mails news all is = subst (All (IsMailOf joined)) (sym is) all

pub mails_push : (joined : Joined) (mails news : List Mail) (m : Mail) → All (IsMailOf joined) mails → IsMailOf joined m → news ≡ mails ++ m ∷ [] → All (IsMailOf joined) news
mails_push joined mails news m all one is = subst (All (IsMailOf joined)) (sym is) (All-push (IsMailOf joined) mails m all one)
