-- What came of receiving a message from a source
use Rattle.std.specs.Prelude.{◌≡◌, ℕ, List, [], length, Option, Some, IfSome, ⊤}
use Rattle.hg_io.specs.Bytes.{TakesOff}
use Rattle.hg_wire.specs.declared.message.Message.{Message}
use Rattle.hg_wire.specs.declared.receiving.Receipt.{Receipt}
use Rattle.hg_wire.specs.declared.receiving.Receipt.TheVariants.{Got, Failed, Ended, Wire}
use Rattle.hg_wire.specs.Outcome.{Outcome, Unfinished, Faulty, Finished, Reader}

-- these bytes were read of the source, and the stream of them means this
pub record Receives (stream : Reader Message) (before after : Option (List ℕ)) (o : Outcome Message) : Type 0 where
  pub text : List ℕ
  pub taken : TakesOff before after text
  pub meant : stream text ≡ o

-- the bytes up to the end of the message were read, or up to a fault of the source, to its end, or to a fault of the bytes
abbrev pub Received : Reader Message → Option (List ℕ) → Option (List ℕ) → Receipt → Type 0
Received stream before after (Got m) = Receives stream before after (Finished m [])
Received stream before after Failed = Receives stream before after Unfinished
Received stream before after (Ended at) =
    (r : Receives stream before after Unfinished) × (length r.text ≡ at) × IfSome after (λ rest. rest ≡ [])
Received stream before after (Wire fault) = Receives stream before after (Faulty fault)

-- the same where the source tells its bytes: all of them decide, unless it failed
abbrev pub Told : Reader Message → List ℕ → Option (List ℕ) → Receipt → Type 0
Told stream bytes after (Got m) = (rest : List ℕ) × (after ≡ Some rest) × (stream bytes ≡ Finished m rest)
Told stream bytes after Failed = ⊤
Told stream bytes after (Ended at) = (stream bytes ≡ Unfinished) × (length bytes ≡ at)
Told stream bytes after (Wire fault) = stream bytes ≡ Faulty fault
