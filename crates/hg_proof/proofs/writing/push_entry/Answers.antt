use Rattle.hg_proof.proofs.WriteLaws.{entry_written}
use Rattle.hg_proof.proofs.writing.push_entry.Goals as goal

pub returns-clause-bytes : goal.returns-clause-bytes
returns-clause-bytes c =
    entry_written c.args.bytes.now.items _ _ _ _ _ _ c.args.p.now
    c.in_ok-extend_from_slice.ensures.items c.in_ok-extend_from_slice-2.ensures.items c.in_ok-extend_from_slice-3.ensures.items
    c.to_be_bytes.ensures c.to_be_bytes-2.ensures c.to_be_bytes-3.ensures
