-- Rows that are sent one after the other, and a node that goes on meanwhile
use Rattle.std.proofs.Common.{◌≡◌, inl, Bool, cond, eq-eqb, ⊎_elim, ℕ, zero, suc, ◌+◌, ◌<◌, ◌≤◌, List, [], ◌∷◌, ◌++◌, length, map, take, drop, refl, sym, ap, ◌∙◌, subst, append_assoc, arith}
use Rattle.std.proofs.lemmas.List.{append-nil, length-append, length-drop, length-map, length-take, length-take-le, map-append, take-append-drop, take-append-le, take-map}
use Rattle.std.proofs.lemmas.List.{drop-map}
use Rattle.std.proofs.Math.Seq.{take-length}
use Rattle.hg_model.specs.Orders.{IsPrefix}
use Rattle.hg_life.specs.History.{Change}
use Rattle.hg_life.specs.Spelling.{spelling}
use Rattle.hg_life.specs.NodeView.{node_rows}
use Rattle.hg_history.proofs.StateLaws.{prefix_more, rows_grow}
use Rattle.hg_mail.specs.declared.message.Message.{Message}
use Rattle.hg_mail.specs.declared.view.View.{View}
use Rattle.hg_mail.specs.Messages.{HasPort, IsSender, after_post, sender_view}
use Rattle.hg_mail.specs.Mailboxes.{IsFull, IsPortOf, IsPosted, MailboxView, PortView}
use Rattle.hg_board.specs.Copies.{bytes_from}
use Rattle.hg_board.specs.Table.{node_at}
use Rattle.hg_board.specs.Seats.{SharedNode, SeatView}
use Rattle.hg_board.proofs.PrefixLaws.{prefix_length, prefix_of_prefix}
use Rattle.hg_crowd.specs.Crowd.{IsStill}
use Rattle.hg_storm.specs.Sending.{AreIn, HasSent, IsDue, NoneBack, Sends, WasFull, bytes_seen, messages_from}
use Rattle.hg_storm.proofs.FateLaws.{take_later}

-- lists

module _ {A : Type 0} where
  take_take : (n m : ℕ) (xs : List A) → n ≤ m → take n (take m xs) ≡ take n xs
  take_take zero m xs le = refl
  take_take (suc n) zero xs le = absurd (omega (arith, le))
  take_take (suc n) (suc m) [] le = refl
  take_take (suc n) (suc m) (x ∷ xs) le = ap (λ (ys : List A). x ∷ ys) (take_take n m xs (omega (arith, le)))

  take_none : (m : ℕ) → ◌≡◌ {A = List A} (take m []) []
  take_none zero = refl
  take_none (suc m) = refl

  take_on : (n k : ℕ) (xs : List A) → take (n + k) xs ≡ take n xs ++ take k (drop n xs)
  take_on zero k xs = ap (λ (m : ℕ). take m xs) (omega arith)
  take_on (suc n) k [] = take_none (suc n + k) ∙ sym (take_none k)
  take_on (suc n) k (x ∷ xs) = ap (λ (m : ℕ). take m (x ∷ xs)) (same n k) ∙ ap (λ (ys : List A). x ∷ ys) (take_on n k xs)
    where
      same : (a b : ℕ) → suc a + b ≡ suc (a + b)
      same a b = omega arith

  pub take_next : (k : ℕ) (xs : List A) (x : A) (rest : List A) → drop k xs ≡ x ∷ rest → take (k + 1) xs ≡ take k xs ++ x ∷ []
  take_next k xs x rest is = take_on k 1 xs ∙ ap (λ (ys : List A). take k xs ++ take 1 ys) is

  pub drop_next : (k : ℕ) (xs : List A) (x : A) (rest : List A) → drop k xs ≡ x ∷ rest → drop (k + 1) xs ≡ rest
  drop_next zero xs x rest is = ap (drop 1) is
  drop_next (suc k) [] x rest is = absurd (cc is)
  drop_next (suc k) (y ∷ xs) x rest is = ap (λ (m : ℕ). drop m (y ∷ xs)) (same k) ∙ drop_next k xs x rest is
    where
      same : (a : ℕ) → suc a + 1 ≡ suc (a + 1)
      same a = omega arith

  -- a front of a list, in its first elements
  pub front_stays : (xs ys : List A) (n : ℕ) → length xs ≤ n → IsPrefix xs ys → IsPrefix xs (take n ys)
  front_stays xs ys n le first =
      prefix_of_prefix xs (take n ys) ys first (drop n ys, sym (take-append-drop n ys)) (omega (arith, le, length-take n ys, prefix_length xs ys first))

  pub drop_some : (k : ℕ) (xs : List A) (x : A) (rest : List A) → drop k xs ≡ x ∷ rest → k < length xs
  drop_some k xs x rest is = omega (arith, length-drop k xs, ap length is)

messages_from-append : (from place : ℕ) (xs ys : List (List ℕ)) → messages_from from place (xs ++ ys) ≡ messages_from from place xs ++ messages_from from (place + length xs) ys
messages_from-append from place [] ys = ap (λ (n : ℕ). messages_from from n ys) (omega arith)
messages_from-append from place (x ∷ xs) ys =
    ap (λ (ms : List Message). record { from = from; number = place; bytes = x } ∷ ms)
    (messages_from-append from (place + 1) xs ys ∙ ap (λ (n : ℕ). messages_from from (place + 1) xs ++ messages_from from n ys) (omega arith))

-- one row after the other

-- a port of one sender alone puts in for it, and what is put in through it is the sender's
pub its_port : (from : ℕ) (v : View) → IsSender from v → HasPort from v
its_port from v is = subst (HasPort from) (sym is.is) (inl refl)

posts_alone : (from : ℕ) (put : List Message) (m : Message) → m.from ≡ from → after_post (sender_view from put) m ≡ sender_view from (put ++ m ∷ [])
posts_alone from put m is = ap (λ (b : Bool). sender_view from (put ++ cond b (m ∷ []) [])) (eq-eqb m.from from is)

pub sends_none : (from place : ℕ) (p : PortView) → Sends from place [] p p
sends_none from place p = record {
  put = λ put is. is ∙ ap (sender_view from) (sym (append-nil put));
  parts = refl;
  mine = omega arith;
  collects = refl;
  finds = refl;
  seen = omega arith;
}

pub sends_one : (from place : ℕ) (rows : List (List ℕ)) (bytes : List ℕ) (p q r : PortView) → Sends from place rows p q →
    IsPosted q (record { from = from; number = place + length rows; bytes = bytes }) r → Sends from place (rows ++ bytes ∷ []) p r
sends_one from place rows bytes p q r sends posted =
    let m : Message = record { from = from; number = place + length rows; bytes = bytes } in record {
      put = λ put is.
          let all : List Message = put ++ messages_from from place rows in
          posted.put
          ∙ ap (λ (v : View). after_post v m) (sends.put put is)
          ∙ posts_alone from all m refl
          ∙ ap (sender_view from) (append_assoc put (messages_from from place rows) (m ∷ []) ∙ ap (λ (ms : List Message). put ++ ms) (sym (messages_from-append from place rows (bytes ∷ []))));
      parts = posted.parts ∙ sends.parts;
      mine = omega (arith, posted.mine, sends.mine, length_push rows bytes);
      collects = posted.collects ∙ sends.collects;
      finds = posted.findings ∙ sends.finds;
      seen = omega (arith, posted.seen, sends.seen);
    }
  where
    length_push : (xs : List (List ℕ)) (x : List ℕ) → length (xs ++ x ∷ []) ≡ length xs + 1
    length_push [] x = refl
    length_push (y ∷ ys) x = omega (arith, length_push ys x)

-- a message that came back changed nothing but what was seen
pub sends_still : (room from place : ℕ) (rows : List (List ℕ)) (m back : Message) (p q r : PortView) → Sends from place rows p q → IsFull room q m back r → Sends from place rows p r
sends_still room from place rows m back p q r sends full = record {
  put = λ put is. full.view ∙ sends.put put is;
  parts = full.parts ∙ sends.parts;
  mine = full.mine ∙ sends.mine;
  collects = full.collects ∙ sends.collects;
  finds = full.findings ∙ sends.finds;
  seen = omega (arith, full.seen, sends.seen);
}

pub was_full : (m : MailboxView) (message back : Message) (p q r : PortView) → NoneBack p q → IsFull m.room q message back r → WasFull m p r
was_full m message back p q r none full = record {
  once = omega (arith, full.full, none);
  counted = full.counted;
}

-- of a piece all was sent, or one came back
pub none_more : (m : MailboxView) (p q r : PortView) (count sent : ℕ) → NoneBack p q → AreIn m q r count sent → count ≤ sent → NoneBack p r
none_more m p q r count sent none rest all =
    ⊎_elim (λ (whole : (sent ≡ count) × NoneBack q r). whole.1 ∙ none) (λ (some : (sent < count) × WasFull m q r). absurd (omega (arith, some.0, all))) rest

pub some_back : (m : MailboxView) (p q r : PortView) (count sent : ℕ) → NoneBack p q → AreIn m q r count sent → sent < count → WasFull m p r
some_back m p q r count sent none rest less =
    ⊎_elim (λ (whole : (sent ≡ count) × NoneBack q r). absurd (omega (arith, whole.0, less)))
    (λ (some : (sent < count) × WasFull m q r). record { once = omega (arith, some.1.once, none); counted = some.1.counted }) rest

-- whose port it is stays so
pub still_sender : (from place : ℕ) (rows : List (List ℕ)) (p q : PortView) → Sends from place rows p q → IsSender from p.view → IsSender from q.view
still_sender from place rows p q sends is = record { put = is.put ++ messages_from from place rows; is = sends.put is.put is.is }

-- a piece of the rows more
pub sent_more : (m : MailboxView) (from : ℕ) (rows piece : List (List ℕ)) (place most k : ℕ) (p q : PortView) → HasSent m from rows place p → piece ≡ take most (drop place rows) → k ≤ length piece →
    IsPortOf m q → Sends from place (take k piece) p q → HasSent m from rows (place + k) q
sent_more m from rows piece place most k p q sent is le of sends =
    let long = length-take most (drop place rows) in
    let rest = length-drop place rows in
    let whole = ap length is in
    let first : take k piece ≡ take k (drop place rows) = ap (take k) is ∙ take_take k most (drop place rows) (omega (arith, le, whole, long)) in
    let early : length (take place rows) ≡ place = length-take-le place rows sent.within in record {
      of = of;
      put = sends.put (messages_from from 0 (take place rows)) sent.put
          ∙ ap (sender_view from)
          (ap (λ (ms : List Message). messages_from from 0 (take place rows) ++ ms)
          (ap (λ (y : ℕ × List (List ℕ)). messages_from from y.0 y.1) (λ i. (place_is (take place rows) place early i, first i)))
          ∙ sym (messages_from-append from 0 (take place rows) (take k (drop place rows)))
          ∙ ap (messages_from from 0) (sym (take_on place k rows)));
      within = omega (arith, le, whole, long, rest, sent.within);
      part = sends.parts ∙ sent.part;
      mine = omega (arith, sends.mine, sent.mine, length-take-le k piece le);
      none = sends.collects ∙ sent.none;
      finds = sends.finds ∙ sent.finds;
    }
  where
    place_is : (xs : List (List ℕ)) (n : ℕ) → length xs ≡ n → n ≡ 0 + length xs
    place_is xs n e = omega (arith, e)

-- as many as the port has counted
pub as_counted : (m : MailboxView) (from : ℕ) (rows : List (List ℕ)) (sent : ℕ) (q : PortView) → HasSent m from rows sent q → HasSent m from rows q.count.mine q
as_counted m from rows sent q has = subst (λ (n : ℕ). HasSent m from rows n q) (sym has.mine) has

-- the node goes on

pub still_on : {V : Type 0} (s t u : SeatView V) → IsStill s t → IsStill t u → IsStill s u
still_on s t u first second = record {
  same = second.same ∙ first.same;
  start = second.start ∙ first.start;
  parts = second.parts ∙ first.parts;
  seen = prefix_more s.seen t.seen u.seen first.seen second.seen;
}

module _ {V : Type 0} (p : SharedNode V) where
  pub rows_later : (s t : SeatView V) → IsPrefix s.seen t.seen → IsPrefix (bytes_seen p s) (bytes_seen p t)
  rows_later s t first =
      let grown = rows_grow p.start.start.members p.start.start.coin s.seen first.0 in (
        map spelling grown.0,
        ap (λ (h : _). map spelling (node_rows (node_at p.start h))) first.1 ∙ (ap (map spelling) grown.1 ∙ map-append spelling (node_rows (node_at p.start s.seen)) grown.0),
      )

  pub rows_longer : (s t : SeatView V) → IsPrefix s.seen t.seen → length (bytes_seen p s) ≤ length (bytes_seen p t)
  rows_longer s t first = let more = rows_later s t first in longer (bytes_seen p s) (bytes_seen p t) more
    where
      longer : (xs ys : List (List ℕ)) → IsPrefix xs ys → length xs ≤ length ys
      longer xs ys more = omega (arith, ap length more.1, length-append xs more.0)

  more_rows : (h later : List Change) → IsPrefix h later → length (node_rows (node_at p.start h)) ≤ length (node_rows (node_at p.start later))
  more_rows h later first =
      let grown = rows_grow p.start.start.members p.start.start.coin h first.0 in
      let all = prefix_length (node_rows (node_at p.start h)) (node_rows (node_at p.start (h ++ first.0))) grown in
      omega (arith, all, ap (λ (l : List Change). length (node_rows (node_at p.start l))) first.1)

  -- the rows that are due are those of a time of the call
  pub due_at : (s t : SeatView V) (due : ℕ) → IsPrefix s.seen t.seen → due ≡ length (bytes_seen p t) → IsDue p s t due
  due_at s t due first is = record {
    at = length t.seen;
    least = prefix_length s.seen t.seen first;
    most = omega arith;
    rows = is ∙ (length-map (node_rows (node_at p.start t.seen)) spelling ∙ ap (λ (h : List Change). length (node_rows (node_at p.start h))) (sym (take-length t.seen)));
  }

  pub due_on : (s t u : SeatView V) (due : ℕ) → IsPrefix t.seen u.seen → IsDue p s t due → IsDue p s u due
  due_on s t u due first was = record {
    at = was.at;
    least = was.least;
    most = omega (arith, was.most, prefix_length t.seen u.seen first);
    rows = was.rows ∙ ap (λ (h : List Change). length (node_rows (node_at p.start h))) (take_later was.at t.seen u.seen was.most first);
  }

  pub due_least : (s t : SeatView V) (due : ℕ) → IsPrefix s.seen t.seen → IsDue p s t due → length (bytes_seen p s) ≤ due
  due_least s t due first is =
      let some = more_rows s.seen (take is.at t.seen) (front_stays s.seen t.seen is.at is.least first) in
      omega (arith, is.rows, some, length-map (node_rows (node_at p.start s.seen)) spelling)

  pub due_most : (s t : SeatView V) (due : ℕ) → IsDue p s t due → due ≤ length (bytes_seen p t)
  due_most s t due is =
      let all = more_rows (take is.at t.seen) t.seen (drop is.at t.seen, sym (take-append-drop is.at t.seen)) in
      omega (arith, is.rows, all, length-map (node_rows (node_at p.start t.seen)) spelling)

  -- what was sent is the first rows still
  pub sent_later : (s t : SeatView V) (m : MailboxView) (from sent : ℕ) (q : PortView) → IsPrefix s.seen t.seen → HasSent m from (bytes_seen p s) sent q → HasSent m from (bytes_seen p t) sent q
  sent_later s t m from sent q first has =
      let more = rows_later s t first in
      let same : take sent (bytes_seen p t) ≡ take sent (bytes_seen p s) = ap (take sent) more.1 ∙ take-append-le sent (bytes_seen p s) more.0 has.within in record {
        of = has.of;
        put = has.put ∙ ap (λ (rows : List (List ℕ)). sender_view from (messages_from from 0 rows)) (sym same);
        within = omega (arith, has.within, rows_longer s t first);
        part = has.part;
        mine = has.mine;
        none = has.none;
        finds = has.finds;
      }

  pub counted_later : (s t : SeatView V) (m : MailboxView) (from sent : ℕ) (q : PortView) → IsPrefix s.seen t.seen → HasSent m from (bytes_seen p s) sent q → HasSent m from (bytes_seen p t) q.count.mine q
  counted_later s t m from sent q first has = as_counted m from (bytes_seen p t) sent q (sent_later s t m from sent q first has)

  -- the bytes of a piece of rows are a piece of their bytes
  piece_is : (t : SeatView V) (piece : List (List ℕ)) (place most : ℕ) → piece ≡ bytes_from (node_at p.start t.seen) place most → piece ≡ take most (drop place (bytes_seen p t))
  piece_is t piece place most is =
      let G = node_rows (node_at p.start t.seen) in
      is ∙ (sym (take-map spelling most (drop place G)) ∙ ap (take most) (sym (drop-map spelling place G)))

  pub piece_most : (t : SeatView V) (piece : List (List ℕ)) (place most : ℕ) → piece ≡ bytes_from (node_at p.start t.seen) place most → length piece ≤ most
  piece_most t piece place most is = omega (arith, ap length (piece_is t piece place most is), length-take most (drop place (bytes_seen p t)))

  pub piece_some : (t : SeatView V) (piece : List (List ℕ)) (place most : ℕ) → piece ≡ bytes_from (node_at p.start t.seen) place most → 0 < most → place < length (bytes_seen p t) → 0 < length piece
  piece_some t piece place most is some inside =
      omega (arith, ap length (piece_is t piece place most is), length-take most (drop place (bytes_seen p t)), length-drop place (bytes_seen p t), some, inside)

  -- the first rows of a piece were sent behind those before it
  pub piece_sent : (s t : SeatView V) (m : MailboxView) (from place most k : ℕ) (piece : List (List ℕ)) (q r : PortView) → IsPrefix s.seen t.seen →
      HasSent m from (bytes_seen p s) place q → piece ≡ bytes_from (node_at p.start t.seen) place most → k ≤ length piece → IsPortOf m r → Sends from place (take k piece) q r →
      HasSent m from (bytes_seen p t) (place + k) r
  piece_sent s t m from place most k piece q r first sent is le of sends =
      sent_more m from (bytes_seen p t) piece place most k q r (sent_later s t m from place q first sent) (piece_is t piece place most is) le of sends
