-- The table of lines: the word that begins each, how many words stand behind it, what they have to be, and what it does
use Rattle.std.specs.Prelude.{ℕ, Bool, false, ◌==◌, if◌then◌else◌, List, [], ◌∷◌, codes, Option, Some, None, Result, Ok, Err}
use Rattle.std.specs.List.{list_any}
use Rattle.std.specs.Option.{ok_or}
use Rattle.std.specs.Str.{bytes_eq}
use Rattle.hg_life.specs.Members.{MemberList}
use Rattle.hg_life.specs.Results.{◌>>=◌}
use Rattle.hg_script.specs.declared.fault.Why.{Why}
use Rattle.hg_script.specs.declared.fault.Why.TheVariants.{Word, Arity, NotFirst, First}
use Rattle.hg_script.specs.declared.line.Gossip.{Gossip}
use Rattle.hg_script.specs.declared.line.Gossip.TheVariants.{Create, Sync, Pull, Join, Give}
use Rattle.hg_script.specs.declared.line.Source.{Source}
use Rattle.hg_script.specs.declared.line.Source.TheVariants.{Last, Forged, Raw, Altered, Front}
use Rattle.hg_script.specs.declared.line.Part.TheVariants as part
use Rattle.hg_script.specs.declared.line.Action.{Action}
use Rattle.hg_script.specs.declared.line.Action.TheVariants as action
use Rattle.hg_script.specs.declared.line.Line.{Line}
use Rattle.hg_script.specs.declared.verb.Verb.{Verb}
use Rattle.hg_script.specs.declared.verb.Verb.TheVariants as verb
use Rattle.hg_script.specs.Argument.{byte_of, label_of, labels_of, member_of, new_label, node_of, number_of, parents_of, peer_of, raw_bytes, worker_of}
use Rattle.hg_script.specs.Payload.{payload_of}

-- what stands above a line: lines, and the names of the labels that they made, in order
pub record Above : Type 0 where
  pub lines : List Line
  pub labels : List (List ℕ)

-- what a line does, and the name of the label that it makes, if it makes one
pub record Found : Type 0 where
  pub action : Action
  pub label : Option (List ℕ)

abbrev pub does : Action → Found
does a = record { action = a; label = None }

abbrev pub makes : Source → List ℕ → Found
makes source name = record { action = action.Part (part.Label source); label = Some name }

-- the rules of a whole line, by the lines above it

abbrev pub creates : ℕ → Action → Bool
creates x (action.Part (part.Gossip (Create member time payload))) = member == x
creates x _ = false

abbrev pub is_created : List Line → ℕ → Bool
is_created lines x = list_any (λ (l : Line). creates x l.action) lines

-- a first event, unless the member made one above
abbrev pub first : List Line → ℕ → Found → Result Found Why
first lines x found = if is_created lines x then Err NotFirst else Ok found

-- a later event, if the member made its first above
abbrev pub later : List Line → ℕ → Found → Result Found Why
later lines x found = if is_created lines x then Ok found else Err First

abbrev pub gossip : Gossip → Found
gossip g = does (action.Part (part.Gossip g))

-- create X T P, of which P may be left out
unfoldable pub create : MemberList → Above → List ℕ → List ℕ → Option (List ℕ) → Result Found Why
create members above x t p = do
  member ← node_of members x
  time ← number_of t
  payload ← payload_of members p
  first above.lines member (gossip (Create member time payload))

-- sync X Y T P, of which P may be left out
unfoldable pub sync : MemberList → Above → List ℕ → List ℕ → List ℕ → Option (List ℕ) → Result Found Why
sync members above x y t p = do
  taker ← node_of members x
  peer ← peer_of members taker y
  time ← number_of t
  payload ← payload_of members p
  later above.lines taker (gossip (Sync taker peer time payload))

-- pull X Y
unfoldable pub pull : MemberList → List ℕ → List ℕ → Result Found Why
pull members x y = do
  taker ← node_of members x
  peer ← peer_of members taker y
  Ok (gossip (Pull taker peer))

-- join X L,.. T P, of which P may be left out
unfoldable pub join : MemberList → Above → List ℕ → List ℕ → List ℕ → Option (List ℕ) → Result Found Why
join members above x l t p = do
  member ← node_of members x
  others ← labels_of above.labels l
  time ← number_of t
  payload ← payload_of members p
  later above.lines member (gossip (Join member others time payload))

-- name L X
unfoldable pub name : MemberList → Above → List ℕ → List ℕ → Result Found Why
name members above l x = do
  label ← new_label above.labels l
  member ← node_of members x
  Ok (makes (Last member) label)

-- forge L M S O,.. T P, of which P may be left out
unfoldable pub forge : MemberList → Above → List ℕ → List ℕ → List ℕ → List ℕ → List ℕ → Option (List ℕ) → Result Found Why
forge members above l m s o t p = do
  label ← new_label above.labels l
  creator ← member_of members m
  parents ← parents_of above.labels s o
  time ← number_of t
  payload ← payload_of members p
  Ok (makes (Forged creator parents time payload) label)

-- raw L H
unfoldable pub raw : Above → List ℕ → List ℕ → Result Found Why
raw above l h = do
  label ← new_label above.labels l
  bytes ← raw_bytes h
  Ok (makes (Raw bytes) label)

-- alter L L2 AT B
unfoldable pub alter : Above → List ℕ → List ℕ → List ℕ → List ℕ → Result Found Why
alter above l l2 place b = do
  label ← new_label above.labels l
  altered ← label_of above.labels l2
  at ← number_of place
  mask ← byte_of b
  Ok (makes (Altered altered at mask) label)

-- cut L L2 K
unfoldable pub cut : Above → List ℕ → List ℕ → List ℕ → Result Found Why
cut above l l2 k = do
  label ← new_label above.labels l
  whole ← label_of above.labels l2
  len ← number_of k
  Ok (makes (Front whole len) label)

-- give X L
unfoldable pub give : MemberList → Above → List ℕ → List ℕ → Result Found Why
give members above x l = do
  member ← node_of members x
  label ← label_of above.labels l
  Ok (gossip (Give member label))

-- freeze X W
unfoldable pub freeze : MemberList → List ℕ → List ℕ → Result Found Why
freeze members x w = do
  member ← node_of members x
  worker ← worker_of w
  Ok (does (action.Freeze member worker))

-- publish X W
unfoldable pub publish : MemberList → List ℕ → List ℕ → Result Found Why
publish members x w = do
  member ← node_of members x
  worker ← worker_of w
  Ok (does (action.Publish member worker))

-- kept X
unfoldable pub show_kept : MemberList → List ℕ → Result Found Why
show_kept members x = node_of members x >>= (λ member. Ok (does (action.Kept member)))

-- show X
unfoldable pub show : MemberList → List ℕ → Result Found Why
show members x = node_of members x >>= (λ member. Ok (does (action.Show member)))

-- names X
unfoldable pub names : MemberList → List ℕ → Result Found Why
names members x = node_of members x >>= (λ member. Ok (does (action.Names member)))

-- just so many words

abbrev pub one_word : (List ℕ → Result Found Why) → List (List ℕ) → Result Found Why
one_word line (x ∷ []) = line x
one_word line _ = Err Arity

abbrev pub two_words : (List ℕ → List ℕ → Result Found Why) → List (List ℕ) → Result Found Why
two_words line (x ∷ y ∷ []) = line x y
two_words line _ = Err Arity

abbrev pub three_words : (List ℕ → List ℕ → List ℕ → Result Found Why) → List (List ℕ) → Result Found Why
three_words line (x ∷ y ∷ z ∷ []) = line x y z
three_words line _ = Err Arity

abbrev pub four_words : (List ℕ → List ℕ → List ℕ → List ℕ → Result Found Why) → List (List ℕ) → Result Found Why
four_words line (x ∷ y ∷ z ∷ u ∷ []) = line x y z u
four_words line _ = Err Arity

-- the same, and one word more that may be left out

abbrev pub two_or_three : (List ℕ → List ℕ → Option (List ℕ) → Result Found Why) → List (List ℕ) → Result Found Why
two_or_three line (x ∷ y ∷ []) = line x y None
two_or_three line (x ∷ y ∷ z ∷ []) = line x y (Some z)
two_or_three line _ = Err Arity

abbrev pub three_or_four : (List ℕ → List ℕ → List ℕ → Option (List ℕ) → Result Found Why) → List (List ℕ) → Result Found Why
three_or_four line (x ∷ y ∷ z ∷ []) = line x y z None
three_or_four line (x ∷ y ∷ z ∷ u ∷ []) = line x y z (Some u)
three_or_four line _ = Err Arity

abbrev pub five_or_six : (List ℕ → List ℕ → List ℕ → List ℕ → List ℕ → Option (List ℕ) → Result Found Why) → List (List ℕ) → Result Found Why
five_or_six line (x ∷ y ∷ z ∷ u ∷ v ∷ []) = line x y z u v None
five_or_six line (x ∷ y ∷ z ∷ u ∷ v ∷ w ∷ []) = line x y z u v (Some w)
five_or_six line _ = Err Arity

-- the table: the word that begins each line, and what the line does, with these words behind it and those lines above

abbrev pub verb_of : List ℕ → Option Verb
verb_of word =
    if bytes_eq word (codes "create") then Some verb.Create
    else if bytes_eq word (codes "sync") then Some verb.Sync
    else if bytes_eq word (codes "pull") then Some verb.Pull
    else if bytes_eq word (codes "join") then Some verb.Join
    else if bytes_eq word (codes "name") then Some verb.Name
    else if bytes_eq word (codes "forge") then Some verb.Forge
    else if bytes_eq word (codes "raw") then Some verb.Raw
    else if bytes_eq word (codes "alter") then Some verb.Alter
    else if bytes_eq word (codes "cut") then Some verb.Cut
    else if bytes_eq word (codes "give") then Some verb.Give
    else if bytes_eq word (codes "freeze") then Some verb.Freeze
    else if bytes_eq word (codes "publish") then Some verb.Publish
    else if bytes_eq word (codes "kept") then Some verb.Kept
    else if bytes_eq word (codes "show") then Some verb.Show
    else if bytes_eq word (codes "names") then Some verb.Names
    else None

abbrev pub line_by : MemberList → Above → Verb → List (List ℕ) → Result Found Why
line_by members above verb.Create arguments = two_or_three (create members above) arguments
line_by members above verb.Sync arguments = three_or_four (sync members above) arguments
line_by members above verb.Pull arguments = two_words (pull members) arguments
line_by members above verb.Join arguments = three_or_four (join members above) arguments
line_by members above verb.Name arguments = two_words (name members above) arguments
line_by members above verb.Forge arguments = five_or_six (forge members above) arguments
line_by members above verb.Raw arguments = two_words (raw above) arguments
line_by members above verb.Alter arguments = four_words (alter above) arguments
line_by members above verb.Cut arguments = three_words (cut above) arguments
line_by members above verb.Give arguments = two_words (give members above) arguments
line_by members above verb.Freeze arguments = two_words (freeze members) arguments
line_by members above verb.Publish arguments = two_words (publish members) arguments
line_by members above verb.Kept arguments = one_word (show_kept members) arguments
line_by members above verb.Show arguments = one_word (show members) arguments
line_by members above verb.Names arguments = one_word (names members) arguments

abbrev pub found_by : MemberList → Above → List ℕ → List (List ℕ) → Result Found Why
found_by members above word arguments = ok_or (verb_of word) Word >>= (λ v. line_by members above v arguments)
