-- What comes of an event that is put to a node, and of one that a node makes: in each list the first rule that holds.
-- Departures from SWIRLDS-TR-2016-01: an event that would give the forking members a third of the stake or more is refused,
-- and so is one by the node's own member that the node did not make.
use Rattle.std.specs.Prelude.{ℕ, ◌*◌, Bool, cond, not, ◌==◌, nat_lt, nat_le, List, [], ◌∷◌, ◌++◌, length, fold, Option, Some, None, option_map, unwrap_or, slice_get, Result, Ok, Err, if◌then◌else◌}
use Rattle.std.specs.Option.{option_or}
use Rattle.std.specs.Str.{bytes_eq}
use Rattle.sha2.specs.Sha512.{sha384}
use Rattle.hg_model.specs.declared.row.Row.{Row}
use Rattle.hg_life.specs.declared.answers.ByteFault.{ByteFault}
use Rattle.hg_life.specs.declared.answers.Fault.TheVariants as fault
use Rattle.hg_life.specs.declared.answers.MakeFault.{MakeFault}
use Rattle.hg_life.specs.declared.answers.MakeFault.TheVariants as make_fault
use Rattle.hg_life.specs.declared.answers.PutAnswer.{PutAnswer}
use Rattle.hg_life.specs.declared.answers.PutAnswer.TheVariants.{Accepted, Known, Refused}
use Rattle.hg_life.specs.declared.answers.MakeAnswer.{MakeAnswer}
use Rattle.hg_life.specs.declared.answers.MakeAnswer.TheVariants as make_answer
use Rattle.hg_model.specs.Stakes.{Stakes, member_count, total}
use Rattle.hg_model.specs.Links.{links, place_of, ParentNames}
use Rattle.hg_model.specs.Graph.{creator_at}
use Rattle.hg_model.specs.Forks.{forking}
use Rattle.hg_model.specs.Held.{is_held}
use Rattle.hg_life.specs.Spelling.{body_of, body_bytes, spelling, payload_limit}
use Rattle.hg_life.specs.Reading.{read_event}
use Rattle.hg_life.specs.Signing.{Accepts}
use Rattle.hg_life.specs.Terms.{Terms}

-- the row of this place has these bytes
abbrev pub has_bytes : List Row → ℕ → List ℕ → Bool
has_bytes G p bytes = bytes_eq (unwrap_or (option_map spelling (slice_get G p)) []) bytes

-- the first of these names that no row has
abbrev pub first_missing : List Row → List (List ℕ) → Option (List ℕ)
first_missing G [] = None
first_missing G (name ∷ names) = if not (is_held G name) then Some name else first_missing G names

-- the place of the first of the rows with these names that is by member m
abbrev pub first_by : List Row → ℕ → List (List ℕ) → Option ℕ
first_by G m [] = None
first_by G m (name ∷ names) = if creator_at G (place_of G name) == m then Some (place_of G name) else first_by G m names

-- the rules of putting: each gives its answer where it holds

abbrev pub member_rule : Stakes → Row → Option PutAnswer
member_rule n row = if nat_le (member_count n) row.creator then Some (Refused (fault.Member row.creator)) else None

abbrev pub name_rule : List Row → Row → Option PutAnswer
name_rule G row =
    let p = place_of G row.name in
    if not (nat_lt p (length G)) then None
    else if has_bytes G p (spelling row) then Some (Known p) else Some (Refused (fault.Collision p))

abbrev pub signature_rule : Accepts → Row → Option PutAnswer
signature_rule accepts row = if accepts row.creator (body_of row) row.sig then None else Some (Refused fault.Signature)

abbrev pub impostor_rule : ℕ → Row → Option PutAnswer
impostor_rule own row = if row.creator == own then Some (Refused fault.Impostor) else None

abbrev pub missing_rule : List Row → ParentNames → Option PutAnswer
missing_rule G None = None
missing_rule G (Some names) =
    if not (is_held G names.0) then Some (Refused (fault.MissingSelf names.0))
    else option_map (λ name. Refused (fault.MissingOther name)) (first_missing G names.1)

abbrev pub creator_rule : List Row → ℕ → ParentNames → Option PutAnswer
creator_rule G m None = None
creator_rule G m (Some names) =
    if not (creator_at G (place_of G names.0) == m) then Some (Refused (fault.SelfCreator (place_of G names.0)))
    else option_map (λ place. Refused (fault.OtherCreator place)) (first_by G m names.1)

-- the stake of the members that would have a fork in the graph with the row behind its last one
abbrev pub forking_with : Stakes → List Row → Row → ℕ
forking_with n G row = forking n (links (G ++ row ∷ []))

-- the answer where k, the stake of the forking members, is a third of all stake or more
abbrev pub forkers_answer : ℕ → ℕ → Option PutAnswer
forkers_answer all k = if nat_le all (3 * k) then Some (Refused (fault.TooManyForkers k)) else None

abbrev pub forkers_rule : Stakes → List Row → Row → Option PutAnswer
forkers_rule n G row = forkers_answer (total n) (forking_with n G row)

abbrev pub full_rule : ℕ → List Row → Option PutAnswer
full_rule limit G = if nat_le limit (length G) then Some (Refused (fault.Full limit)) else None

-- what the rules on the row and on its parents answer, if one does: all but those on forking stake and on room
abbrev pub arrival_rule : Accepts → Stakes → ℕ → List Row → Row → Option PutAnswer
arrival_rule accepts n own G row =
    option_or (member_rule n row) (option_or (name_rule G row) (option_or (signature_rule accepts row)
    (option_or (impostor_rule own row) (option_or (missing_rule G row.parents) (creator_rule G row.creator row.parents)))))

-- what comes of a row that is put to the node of the member `own` with the rows G, among these members
abbrev pub row_verdict : Terms → Stakes → ℕ → List Row → Row → PutAnswer
row_verdict terms n own G row =
    unwrap_or (option_or (arrival_rule terms.accepts n own G row) (option_or (forkers_rule n G row) (full_rule terms.limit G))) (Accepted (length G))

-- what comes of bytes by what was read of them: a fault of the bytes comes before all others
abbrev pub verdict_of : Terms → Stakes → ℕ → List Row → Result Row ByteFault → PutAnswer
verdict_of terms n own G (Err e) = Refused (fault.Bytes e)
verdict_of terms n own G (Ok row) = row_verdict terms n own G row

-- what comes of bytes that are put to the node
abbrev pub verdict : Terms → Stakes → ℕ → List Row → List ℕ → PutAnswer
verdict terms n own G bytes = verdict_of terms n own G (read_event bytes)

-- the rules of making

-- the later of two names: the row's, where the member made it
abbrev pub later_name : ℕ → Option (List ℕ) → Row → Option (List ℕ)
later_name m last row = cond (row.creator == m) (Some row.name) last

-- the name of the member's last row
abbrev pub last_name : ℕ → List Row → Option (List ℕ)
last_name m G = fold (later_name m) None G

-- the parents' names of an event on the member's last row and these others
abbrev pub parents_on : Option (List ℕ) → List (List ℕ) → ParentNames
parents_on last [] = None
parents_on None (other ∷ others) = None
parents_on (Some last) (other ∷ others) = Some (last, other ∷ others)

-- the event with these fields
abbrev pub signed_row : ℕ → ParentNames → ℕ → List ℕ → List ℕ → Row
signed_row own parents time payload sig = record {
  creator = own;
  parents = parents;
  time = time;
  payload = payload;
  sig = sig;
  name = sha384 (body_bytes own parents time payload ++ sig);
}

abbrev pub first_rule : Option (List ℕ) → List (List ℕ) → Option MakeFault
first_rule None [] = None
first_rule (Some last) [] = Some make_fault.HasFirst
first_rule None (other ∷ others) = Some make_fault.NoFirst
first_rule (Some last) (other ∷ others) = None

abbrev pub other_rule : ℕ → List Row → List (List ℕ) → Option MakeFault
other_rule own G others =
    option_or (option_map (λ name. make_fault.MissingOther name) (first_missing G others))
    (option_map (λ place. make_fault.OtherCreator place) (first_by G own others))

abbrev pub payload_rule : List ℕ → Option MakeFault
payload_rule payload = if nat_lt payload_limit (length payload) then Some (make_fault.PayloadLong (length payload)) else None

abbrev pub collision_rule : List Row → Row → Option MakeFault
collision_rule G row = if is_held G row.name then Some (make_fault.Collision (place_of G row.name)) else None

abbrev pub room_rule : ℕ → List Row → Option MakeFault
room_rule limit G = if nat_le limit (length G) then Some (make_fault.Full limit) else None

-- what is wrong before the event is signed
abbrev pub draft_rule : ℕ → List Row → List (List ℕ) → List ℕ → Option MakeFault
draft_rule own G others payload =
    option_or (first_rule (last_name own G) others) (option_or (other_rule own G others) (payload_rule payload))

-- the row that the node of the member `own` makes under this signature
abbrev pub made_row : ℕ → List Row → List (List ℕ) → ℕ → List ℕ → List ℕ → Row
made_row own G others time payload sig = signed_row own (parents_on (last_name own G) others) time payload sig

abbrev pub made_or : Option MakeFault → ℕ → MakeAnswer
made_or None place = make_answer.Made place
made_or (Some fault) place = make_answer.Refused fault

-- what comes of making it
abbrev pub making : ℕ → ℕ → List Row → List (List ℕ) → ℕ → List ℕ → List ℕ → MakeAnswer
making limit own G others time payload sig =
    made_or (option_or (draft_rule own G others payload)
    (option_or (collision_rule G (made_row own G others time payload sig)) (room_rule limit G))) (length G)
