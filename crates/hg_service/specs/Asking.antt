-- From what is heard to requests: the lines of it, and the request that each line is
use Rattle.std.specs.Prelude.{ℕ, ◌+◌, ◌-◌, nat_le, nat_lt, if◌then◌else◌, List, [], ◌∷◌, length, take, codes, Some, Result, Ok, Err}
use Rattle.std.specs.List.{slice_split}
use Rattle.std.specs.Option.{ok_or}
use Rattle.std.specs.Str.{bytes_eq}
use Rattle.hg_model.specs.Links.{most_others}
use Rattle.hg_life.specs.Members.{MemberList}
use Rattle.hg_life.specs.Results.{◌>>=◌}
use Rattle.hg_script.specs.Argument.{below, digits_form, is_dash, number_of}
use Rattle.hg_script.specs.Payload.{payload_word}
use Rattle.hg_script.specs.Script.{is_line_feed, words_of}
use Rattle.hg_script.specs.Words.{read_each}
use Rattle.hg_script.specs.declared.fault.Why.{Why}
use Rattle.hg_script.specs.declared.fault.Why.TheVariants.{Arity, Number, Word}
use Rattle.hg_service.specs.declared.request.LineFault.{LineFault}
use Rattle.hg_service.specs.declared.request.LineFault.TheVariants as fault
use Rattle.hg_service.specs.declared.request.ServiceRequest.{ServiceRequest}
use Rattle.hg_service.specs.declared.request.ServiceRequest.TheVariants as request

-- ---- lines

abbrev pub without_last : {A : Type 0} → List A → List A
without_last xs = take (length xs - 1) xs

-- The lines that were heard whole. Bytes behind the last line feed are no line yet, even where they would be a lawful one: more
-- of them may come
unfoldable pub lines_in : List ℕ → List (List ℕ)
lines_in bytes = without_last (slice_split is_line_feed bytes)

-- the most bytes of a line, without its line feed
abbrev pub line_limit : ℕ
line_limit = 1048576

-- the most events or entries that one answer tells
abbrev pub answer_limit : ℕ
answer_limit = 4096

-- ---- words

-- a word that is read as in a script
abbrev pub as_in_script : {A : Type 0} → Result A Why → Result A LineFault
as_in_script (Ok x) = Ok x
as_in_script (Err why) = Err (fault.Script why)

-- a number below 2^64
abbrev pub number_in : List ℕ → Result ℕ LineFault
number_in word = as_in_script (number_of word)

abbrev pub at_least : ℕ → ℕ → Result ℕ LineFault
at_least least n = if nat_le least n then Ok n else Err (fault.Script Number)

-- the number of an ordered event, from 1 on
abbrev pub first_in : List ℕ → Result ℕ LineFault
first_in word = number_in word >>= at_least 1

-- how many events or entries are wanted: at least one
abbrev pub limit_in : List ℕ → Result ℕ LineFault
limit_in word = number_in word >>= at_least 1 >>= (λ n. as_in_script (below (answer_limit + 1) (Some n)))

-- the 48 bytes of a name
abbrev pub name_in : List ℕ → Result (List ℕ) LineFault
name_in word = ok_or (digits_form 96 96 word) fault.Name

-- the bytes of an event, at least one
abbrev pub event_in : List ℕ → Result (List ℕ) LineFault
event_in word = ok_or (digits_form 2 line_limit word) fault.Digits

-- the bytes of a payload, none for `-`
abbrev pub payload_in : MemberList → List ℕ → Result (List ℕ) LineFault
payload_in members word = if is_dash word then Ok [] else as_in_script (payload_word members word)

-- ---- requests, by the words behind the first one

abbrev pub arity : {A : Type 0} → Result A LineFault
arity = Err (fault.Script Arity)

-- no words
abbrev pub alone : ServiceRequest → List (List ℕ) → Result ServiceRequest LineFault
alone r [] = Ok r
alone r (word ∷ words) = arity

-- PLACE LIMIT {NAME}
abbrev pub beyond_in : List (List ℕ) → Result ServiceRequest LineFault
beyond_in (p ∷ l ∷ words) =
    number_in p >>= (λ place. limit_in l >>= (λ limit. read_each name_in words >>= (λ names. Ok (request.Beyond place limit names))))
beyond_in words = arity

-- {EVENT}
abbrev pub put_in : List (List ℕ) → Result ServiceRequest LineFault
put_in words = read_each event_in words >>= (λ events. Ok (request.Put events))

abbrev pub restore_in : List (List ℕ) → Result ServiceRequest LineFault
restore_in words = read_each event_in words >>= (λ events. Ok (request.Restore events))

-- the time, the payload and the names, each given
abbrev pub make_with : MemberList → List ℕ → List ℕ → List (List ℕ) → Result ServiceRequest LineFault
make_with members t p names =
    number_in t >>= (λ time. payload_in members p >>= (λ payload. read_each name_in names >>= (λ others.
    Ok (request.Make time payload others))))

-- TIME [PAYLOAD {NAME}], at most four names
abbrev pub make_in : MemberList → List (List ℕ) → Result ServiceRequest LineFault
make_in members [] = arity
make_in members (t ∷ []) = make_with members t (codes "-") []
make_in members (t ∷ p ∷ names) = if nat_le (length names) most_others then make_with members t p names else arity

-- FIRST LIMIT
abbrev pub order_in : List (List ℕ) → Result ServiceRequest LineFault
order_in (f ∷ l ∷ []) = first_in f >>= (λ first. limit_in l >>= (λ limit. Ok (request.Order first limit)))
order_in words = arity

-- PLACE LIMIT
abbrev pub events_in : List (List ℕ) → Result ServiceRequest LineFault
events_in (p ∷ l ∷ []) = number_in p >>= (λ place. limit_in l >>= (λ limit. Ok (request.Events place limit)))
events_in words = arity

-- by the first word
abbrev pub asked_by : MemberList → List ℕ → List (List ℕ) → Result ServiceRequest LineFault
asked_by members verb words =
    if bytes_eq verb (codes "members") then alone request.Members words
    else if bytes_eq verb (codes "state") then alone request.State words
    else if bytes_eq verb (codes "heads") then alone request.Heads words
    else if bytes_eq verb (codes "beyond") then beyond_in words
    else if bytes_eq verb (codes "put") then put_in words
    else if bytes_eq verb (codes "restore") then restore_in words
    else if bytes_eq verb (codes "make") then make_in members words
    else if bytes_eq verb (codes "settle") then alone request.Settle words
    else if bytes_eq verb (codes "order") then order_in words
    else if bytes_eq verb (codes "events") then events_in words
    else if bytes_eq verb (codes "balances") then alone request.Balances words
    else if bytes_eq verb (codes "proof") then alone request.Proof words
    else Err (fault.Script Word)

abbrev pub asked_in : MemberList → List (List ℕ) → Result ServiceRequest LineFault
asked_in members [] = Err (fault.Script Word)
asked_in members (verb ∷ words) = asked_by members verb words

-- the request that a line is, or the first reason why it is none
unfoldable pub request_of : MemberList → List ℕ → Result ServiceRequest LineFault
request_of members line = if nat_lt line_limit (length line) then Err fault.Long else asked_in members (words_of line)
