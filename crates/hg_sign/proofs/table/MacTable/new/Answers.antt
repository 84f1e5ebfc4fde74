use Rattle.std.proofs.Common.{ap, map, ◌∙◌}
use Rattle.hg_life.specs.declared.members.MemberEntry.{MemberEntry}
use Rattle.hg_sign.proofs.Secrets.{accepts_alike, signs_alike}
use Rattle.hg_sign.proofs.table.MacTable.new.Goals as goal

pub returns-clause-signs : goal.returns-clause-signs
returns-clause-signs c = signs_alike _ c.args.members.now (c.in_ok-keys.ensures ∙ ap (map (λ (e : MemberEntry). e.secret)) c.entries.ensures.value)

pub returns-clause-accepts : goal.returns-clause-accepts
returns-clause-accepts c = accepts_alike _ c.args.members.now (c.in_ok-keys.ensures ∙ ap (map (λ (e : MemberEntry). e.secret)) c.entries.ensures.value)
