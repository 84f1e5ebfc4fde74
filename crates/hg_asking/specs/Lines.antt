-- What a reader of lines stands for: the lines that it finds in the bytes to come
use Rattle.std.specs.Prelude.{◌≡◌, ℕ, ◌+◌, ◌<◌, Bool, true, false, nat_lt, if◌then◌else◌, All, List, [], ◌∷◌, ◌++◌, length, map, Option, Some, None, IfSome, Result, Ok, Err}
use Rattle.hg_io.specs.Bytes.{TakesOff}
use Rattle.hg_script.specs.Script.{is_line_feed}
use Rattle.hg_life.specs.Members.{MemberList}
use Rattle.hg_service.specs.Asking.{line_limit, lines_in, request_of}
use Rattle.hg_service.specs.declared.request.LineFault.{LineFault}
use Rattle.hg_service.specs.declared.request.LineFault.TheVariants.{Long}
use Rattle.hg_service.specs.declared.request.ServiceRequest.{ServiceRequest}
use Rattle.hg_asking.specs.declared.reader.Heard.{Heard}
use Rattle.hg_asking.specs.declared.reader.Heard.TheVariants as heard

-- what is kept of a line: nothing where it has more bytes than it may have
abbrev pub kept : List ℕ → Option (List ℕ)
kept line = if nat_lt line_limit (length line) then None else Some line

abbrev pub lines_kept : List ℕ → List (Option (List ℕ))
lines_kept bytes = map kept (lines_in bytes)

-- what a line asks, by what is kept of it
abbrev pub asked : MemberList → Option (List ℕ) → Result ServiceRequest LineFault
asked members None = Err Long
asked members (Some line) = request_of members line

-- the first of these lines has more bytes than it may have, whatever the others are
abbrev pub long_first : List (Option (List ℕ)) → List (Option (List ℕ))
long_first [] = []
long_first (line ∷ lines) = None ∷ lines

-- none of these bytes is a line feed
abbrev pub IsInLine : List ℕ → Type 0
IsInLine bytes = All (λ b. is_line_feed b ≡ false) bytes

-- the front of a line
pub record FrontView : Type 0 where
  pub bytes : List ℕ
  -- it has more bytes than a line may have, and none of them is kept
  pub is_long : Bool

abbrev pub no_front : FrontView
no_front = record { bytes = []; is_long = false }

abbrev pub long_front : FrontView
long_front = record { bytes = []; is_long = true }

-- the front with these bytes behind it
abbrev pub with_part : FrontView → List ℕ → FrontView
with_part front part =
    if front.is_long then front
    else if nat_lt line_limit (length front.bytes + length part) then long_front
    else record { bytes = front.bytes ++ part; is_long = false }

-- the lines of a front and the bytes behind it
abbrev pub lines_behind : FrontView → List ℕ → List (Option (List ℕ))
lines_behind front bytes =
    if front.is_long then long_first (lines_kept bytes) else lines_kept (front.bytes ++ bytes)

-- what a reader keeps: the line that it found last, the front of the one that comes next, and the bytes that were read behind it
pub record ReaderView : Type 0 where
  pub line : List ℕ
  pub front : FrontView
  pub ahead : List ℕ

abbrev pub new_reader : ReaderView
new_reader = record { line = []; front = no_front; ahead = [] }

-- the lines that a reader finds in the bytes to come
abbrev pub lines_after : ReaderView → List ℕ → List (Option (List ℕ))
lines_after reader more = lines_behind reader.front (reader.ahead ++ more)

-- what is kept is a line that was found, or the front of one
abbrev pub line_in : Bool → FrontView → List ℕ
line_in is_found front = if is_found then front.bytes else []

abbrev pub front_in : Bool → FrontView → FrontView
front_in is_found front = if is_found then no_front else front

abbrev pub reader_of : Bool → FrontView → List ℕ → ReaderView
reader_of is_found front ahead = record { line = line_in is_found front; front = front_in is_found front; ahead = ahead }

-- a whole line is there already
abbrev pub has_line : ReaderView → Bool
has_line reader = nat_lt 0 (length (lines_after reader []))

-- what was found: the line that is told now, or one that is too long
abbrev pub found : ReaderView → Heard → Option (List ℕ)
found reader heard.Line = Some reader.line
found reader heard.Long = None

-- what comes of a front that is a whole line
abbrev pub heard_of : FrontView → Heard
heard_of front = if front.is_long then heard.Long else heard.Line

-- the first of the lines was found, and the others are those to come; or none is there yet
abbrev pub Finds : ReaderView → ReaderView → Option Heard → Type 0
Finds old new (Some h) = (more : List ℕ) → lines_after old more ≡ found new h ∷ lines_after new more
Finds old new None = (has_line old ≡ false) × (new ≡ old)

-- the reader finds in the bytes to come what it found in these and them
abbrev pub IsBehind : ReaderView → ReaderView → List ℕ → Type 0
IsBehind old new bytes = (more : List ℕ) → lines_after new more ≡ lines_after old (bytes ++ more)

-- these bytes were read; some, where no whole line was there
pub record HearsSome (before after : Option (List ℕ)) (old new : ReaderView) : Type 0 where
  pub bytes : List ℕ
  pub taken : TakesOff before after bytes
  pub behind : IsBehind old new bytes
  pub some : has_line old ≡ false → 0 < length bytes

-- bytes of the source were read; or none, at its end or at a fault
abbrev pub Hears : {E : Type 0} → Option (List ℕ) → Option (List ℕ) → ReaderView → ReaderView → Result Bool E → Type 0
Hears before after old new (Ok true) = HearsSome before after old new
Hears before after old new (Ok false) = (after ≡ before) × IfSome after (λ rest. rest ≡ []) × IsBehind old new []
Hears before after old new (Err e) = (after ≡ before) × IsBehind old new []

-- nothing was read, and something is there
abbrev pub IsUnread : {S E : Type 0} → S → S → ReaderView → ReaderView → Result Bool E → Type 0
IsUnread before after old new r = (after ≡ before) × (new ≡ old) × (r ≡ Ok true)
