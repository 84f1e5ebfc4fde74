-- What comes of the bytes of an event that a node made, when they come back to it: the rules of putting, but that an event
-- is an impostor's where it is not the own member's next one
use Rattle.std.specs.Prelude.{ℕ, ◌≡◌, Bool, true, false, ◌&&◌, ◌==◌, List, [], ◌∷◌, length, Option, Some, None, option_map, unwrap_or, Result, Ok, Err, if◌then◌else◌}
use Rattle.std.specs.Option.{option_or}
use Rattle.std.specs.Str.{bytes_eq}
use Rattle.hg_model.specs.declared.row.Row.{Row}
use Rattle.hg_life.specs.declared.answers.ByteFault.{ByteFault}
use Rattle.hg_life.specs.declared.answers.Fault.TheVariants as fault
use Rattle.hg_life.specs.declared.answers.PutAnswer.{PutAnswer}
use Rattle.hg_life.specs.declared.answers.PutAnswer.TheVariants.{Accepted, Known, Refused}
use Rattle.hg_model.specs.Stakes.{Stakes}
use Rattle.hg_model.specs.Links.{ParentNames}
use Rattle.hg_life.specs.Reading.{read_event}
use Rattle.hg_life.specs.Signing.{Accepts}
use Rattle.hg_life.specs.Terms.{Terms}
use Rattle.hg_life.specs.Verdict.{member_rule, name_rule, signature_rule, missing_rule, creator_rule, forkers_rule, full_rule, last_name}
use Rattle.hg_life.specs.History.{Change}
use Rattle.hg_life.specs.History.Change.{Made}
use Rattle.hg_life.specs.NodeView.{NodeView, node_rows, with_changes, terms_of}

-- the name of the self-parent, if there is one
abbrev pub self_name : ParentNames → Option (List ℕ)
self_name names = option_map (λ pair. pair.0) names

-- the same name, or none on both sides
abbrev pub is_same_name : Option (List ℕ) → Option (List ℕ) → Bool
is_same_name None None = true
is_same_name None (Some b) = false
is_same_name (Some a) None = false
is_same_name (Some a) (Some b) = bytes_eq a b

-- the row is by the member, on its last row, or without parents where it has none
abbrev pub is_next_own : ℕ → List Row → Row → Bool
is_next_own own G row = (row.creator == own) && is_same_name (self_name row.parents) (last_name own G)

abbrev pub next_own_rule : ℕ → List Row → Row → Option PutAnswer
next_own_rule own G row = if is_next_own own G row then None else Some (Refused fault.Impostor)

-- what the rules on the row and on its parents answer, if one does: all but those on forking stake and on room
abbrev pub return_rule : Accepts → Stakes → ℕ → List Row → Row → Option PutAnswer
return_rule accepts n own G row =
    option_or (member_rule n row) (option_or (name_rule G row) (option_or (signature_rule accepts row)
    (option_or (next_own_rule own G row) (option_or (missing_rule G row.parents) (creator_rule G row.creator row.parents)))))

-- the answer of the first rule that speaks
abbrev pub restore_rules : Terms → Stakes → ℕ → List Row → Row → Option PutAnswer
restore_rules terms n own G row =
    option_or (return_rule terms.accepts n own G row) (option_or (forkers_rule n G row) (full_rule terms.limit G))

-- what comes of a row that comes back to the node of the member `own` with the rows G
abbrev pub restore_verdict : Terms → Stakes → ℕ → List Row → Row → PutAnswer
restore_verdict terms n own G row = unwrap_or (restore_rules terms n own G row) (Accepted (length G))

-- by what was read of the bytes
abbrev pub restore_verdict_of : Terms → Stakes → ℕ → List Row → Result Row ByteFault → PutAnswer
restore_verdict_of terms n own G (Err e) = Refused (fault.Bytes e)
restore_verdict_of terms n own G (Ok row) = restore_verdict terms n own G row

-- what comes of bytes that come back to the node
unfoldable pub restore_answer : {K : Type 0} → (K → Accepts) → NodeView K → List ℕ → PutAnswer
restore_answer accepts v bytes =
    restore_verdict_of (terms_of accepts v.start) v.start.members v.start.own (node_rows v) (read_event bytes)

abbrev pub restored_by : PutAnswer → Row → List Change
restored_by (Accepted p) row = Made row ∷ []
restored_by (Known p) row = []
restored_by (Refused f) row = []

-- by what was read of the bytes
abbrev pub restored_from : {K : Type 0} → (K → Accepts) → NodeView K → Result Row ByteFault → List Change
restored_from accepts v (Err e) = []
restored_from accepts v (Ok row) =
    restored_by (restore_verdict (terms_of accepts v.start) v.start.members v.start.own (node_rows v) row) row

-- the changes that they add: the row that they spell, as one that the node made, where they are accepted
unfoldable pub restore_changes : {K : Type 0} → (K → Accepts) → NodeView K → List ℕ → List Change
restore_changes accepts v bytes = restored_from accepts v (read_event bytes)

-- the node once bytes have come back to it
abbrev pub after_restore : {K : Type 0} → (K → Accepts) → NodeView K → List ℕ → NodeView K
after_restore accepts v bytes = with_changes v (restore_changes accepts v bytes)

-- the node accepts the bytes as a row more, so that memory is needed for them
abbrev pub WouldRestore : {K : Type 0} → (K → Accepts) → NodeView K → List ℕ → Type 0
WouldRestore accepts v bytes = restore_answer accepts v bytes ≡ Accepted (length (node_rows v))

-- whose event, had it been put, would be an impostor's: the row's creator, where it is not the member's next one
abbrev pub impostor_in : ℕ → List Row → Row → Option ℕ
impostor_in own G row = if is_next_own own G row then None else Some row.creator
