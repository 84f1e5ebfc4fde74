use Rattle.std.proofs.lemmas.Bool.{false≢true}
use Rattle.std.proofs.lemmas.Str.{is_utf8-from_IsUtf8}
use Rattle.toml.proofs.Views.{view-Table}
use Rattle.hg_members.proofs.Refused.{document_of-refused}
use Rattle.hg_members.proofs.file.document_of.Goals as goal

pub returns-in-Ok : goal.returns-in-Ok
returns-in-Ok c =
    rw (is_utf8-from_IsUtf8 c.args.bytes.now c.in-Ok.ensures.ok.0, c.in-Ok.ensures.ok.1, view-Table c.in-Ok.table)

pub returns-else-is_memory : goal.returns-else-is_memory
returns-else-is_memory c =
    let refused = document_of-refused c.args.bytes.now (c.in-Err.ensures.refused (λ is_memory. false≢true (c.if-is_memory.ensures.1 is_memory))) in
    rw refused
