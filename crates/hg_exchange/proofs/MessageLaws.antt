-- A file that is to be one message.
use Rattle.std.proofs.Common.{◌≡◌, ◌∙◌, ℕ, ◌+◌, ◌<◌, ◌≤◌, List, [], ◌∷◌, length, drop, length-drop, refl, sym, ap, arith}
use Rattle.std.specs.Prelude.{Result, Ok, Err}
use Rattle.hg_wire.specs.declared.message.Message.{Message}
use Rattle.hg_wire.specs.declared.message.Want.{Want}
use Rattle.hg_wire.specs.declared.message.WireFault.{WireFault}
use Rattle.hg_wire.specs.Outcome.{Unfinished, Faulty, Finished}
use Rattle.hg_wire.specs.Grammar.{AreBytes, Fits}
use Rattle.hg_wire.specs.Laws.{ReadsAreMessages}
use Rattle.hg_wire.specs.Reading.{read}
use Rattle.hg_exchange.specs.declared.message.MessageFault.{MessageFault}
use Rattle.hg_exchange.specs.declared.message.MessageFault.TheVariants.{Wire, Ended, Trailing}
use Rattle.hg_exchange.specs.Messages.{message_of, whole}

-- what a file is, as the code answers it
abbrev pub Answer : Type 0
Answer = Result Message MessageFault

abbrev pub wrong : MessageFault → Answer
wrong fault = Err fault

abbrev pub right : Message → Answer
right m = Ok m

trailing : (count used : ℕ) (m : Message) (rest : List ℕ) → 0 < length rest → used + length rest ≡ count → whole count (Finished m rest) ≡ wrong (Trailing used)
trailing count used m [] some is = absurd (omega (arith, some))
trailing count used m (byte ∷ rest) some is = ap (λ (at : ℕ). wrong (Trailing at)) (omega (arith, is))

ending : (count : ℕ) (m : Message) (rest : List ℕ) → length rest ≡ 0 → whole count (Finished m rest) ≡ right m
ending count m [] none = refl
ending count m (byte ∷ rest) none = absurd (omega (arith, none))

module _ (want : Want) (bytes : List ℕ) where
  pub ends_early : read want bytes ≡ Unfinished → wrong (Ended (length bytes)) ≡ message_of want bytes
  unfolding message_of
  ends_early is = ap (whole (length bytes)) (sym is)

  pub is_wrong : (fault : WireFault) → read want bytes ≡ Faulty fault → wrong (Wire fault) ≡ message_of want bytes
  unfolding message_of
  is_wrong fault is = ap (whole (length bytes)) (sym is)

  pub trails : (m : Message) (used : ℕ) → used < length bytes → read want bytes ≡ Finished m (drop used bytes) → wrong (Trailing used) ≡ message_of want bytes
  unfolding message_of
  trails m used less is =
      let left = length-drop used bytes in
      sym (ap (whole (length bytes)) is ∙ trailing (length bytes) used m (drop used bytes) (omega (arith, left, less)) (omega (arith, left, less)))

  pub is_whole : (m : Message) (used : ℕ) → length bytes ≤ used → read want bytes ≡ Finished m (drop used bytes) → right m ≡ message_of want bytes
  unfolding message_of
  is_whole m used all is =
      let left = length-drop used bytes in
      sym (ap (whole (length bytes)) is ∙ ending (length bytes) m (drop used bytes) (omega (arith, left, all)))

  -- it is of the kind that is wanted
  pub fits : (m : Message) (rest : List ℕ) → ReadsAreMessages → AreBytes bytes → read want bytes ≡ Finished m rest → Fits want m
  fits m rest found are is = (found want bytes m rest are is).is.0
