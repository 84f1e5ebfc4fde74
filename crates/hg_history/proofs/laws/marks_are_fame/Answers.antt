use Rattle.hg_history.proofs.SoundLaws.{sound}
use Rattle.hg_history.proofs.laws.marks_are_fame.Goals as goal

pub returns : goal.returns
returns c = λ terms n period own h three is. (sound terms n period own h three is).fame
