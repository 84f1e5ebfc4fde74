use Rattle.hg_wire.proofs.Again.{prefix_free}
use Rattle.hg_wire.proofs.Found.{read_message}
use Rattle.hg_wire.proofs.Stable.{read_stable}
use Rattle.hg_wire.proofs.Streams.{begun}
use Rattle.hg_wire.proofs.laws.messages.Goals as goal

pub returns-clause-found : goal.returns-clause-found
returns-clause-found c = read_message

pub returns-clause-read : goal.returns-clause-read
returns-clause-read c = begun

pub returns-clause-prefix_free : goal.returns-clause-prefix_free
returns-clause-prefix_free c = prefix_free

pub returns-clause-stand : goal.returns-clause-stand
returns-clause-stand c = read_stable
