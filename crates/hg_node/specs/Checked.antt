-- What can be said against the bytes of an event before a node is asked: it is the same at all nodes of the same members and keys
use Rattle.std.specs.Prelude.{ℕ, ◌≡◌, ◌<◌, true, List, Option, Some, Result, Ok, Err}
use Rattle.std.specs.Option.{option_or}
use Rattle.hg_model.specs.declared.row.Row.{Row}
use Rattle.hg_life.specs.declared.answers.ByteFault.{ByteFault}
use Rattle.hg_life.specs.declared.answers.Fault.TheVariants as fault
use Rattle.hg_life.specs.declared.answers.PutAnswer.{PutAnswer}
use Rattle.hg_life.specs.declared.answers.PutAnswer.TheVariants.{Refused}
use Rattle.hg_model.specs.Stakes.{Stakes, member_count}
use Rattle.hg_life.specs.Members.{MemberList, stakes_of}
use Rattle.hg_life.specs.Reading.{read_event}
use Rattle.hg_life.specs.Spelling.{body_of, spelling}
use Rattle.hg_life.specs.Verdict.{member_rule, signature_rule}
use Rattle.hg_life.specs.Signing.{Accepts}

-- that it is of no member, else that its signature is not accepted
abbrev pub unfit_row : Accepts → Stakes → Row → Option PutAnswer
unfit_row accepts n row = option_or (member_rule n row) (signature_rule accepts row)

-- by what was read of the bytes
abbrev pub unfit_read : Accepts → Stakes → Result Row ByteFault → Option PutAnswer
unfit_read accepts n (Err e) = Some (Refused (fault.Bytes e))
unfit_read accepts n (Ok row) = unfit_row accepts n row

-- that the bytes spell no event, else what is said against the event
unfoldable pub unfit : Accepts → Stakes → List ℕ → Option PutAnswer
unfit accepts n bytes = unfit_read accepts n (read_event bytes)

-- a member made it, and the signature is accepted
pub record IsSignedRow (accepts : Accepts) (members : MemberList) (row : Row) : Type 0 where
  pub fits : row.creator < member_count (stakes_of members)
  pub signed : accepts row.creator (body_of row) row.sig ≡ true

-- and these bytes spell it
pub record IsChecked (accepts : Accepts) (members : MemberList) (bytes : List ℕ) (row : Row) : Type 0 where
  pub fits : row.creator < member_count (stakes_of members)
  pub signed : accepts row.creator (body_of row) row.sig ≡ true
  pub spelled : spelling row ≡ bytes
