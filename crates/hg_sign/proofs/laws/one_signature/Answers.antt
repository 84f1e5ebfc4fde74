use Rattle.std.proofs.lemmas.Slice.Eq.{bytes_eq-Decides}
use Rattle.hg_life.specs.Signing.{signature_of}
use Rattle.hg_sign.proofs.laws.one_signature.Goals as goal

pub returns : goal.returns
returns c = λ members m body sig accepted. (bytes_eq-Decides sig (signature_of members m body)).0 accepted
