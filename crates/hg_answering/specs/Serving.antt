-- All that a node says to what it hears, line by line
use Rattle.std.specs.Prelude.{ℕ, ◌≡◌, false, List, [], ◌∷◌, ◌++◌}
use Rattle.hg_life.specs.Members.{MemberList}
use Rattle.hg_life.specs.NodeView.{NodeView}
use Rattle.hg_life.specs.Signing.{Accepts}
use Rattle.hg_service.specs.Asking.{lines_in}
use Rattle.hg_service.specs.Text.{answer_text}
use Rattle.hg_service.specs.declared.answer.Answer.{Answer}
use Rattle.hg_answering.specs.Answering.{AnswersLine, ServiceView, just_opened}
use Rattle.hg_answering.specs.Telling.{state_told}

-- these lines were answered, each at the node that the one before it left, and this is the text of the answers
abbrev pub ServesLines : {K : Type 0} → (K → Accepts) → MemberList → ServiceView K → List (List ℕ) → List ℕ → ServiceView K → Type 0
ServesLines accepts members s [] said t = (said ≡ []) × (t ≡ s)
ServesLines {K} accepts members s (line ∷ lines) said t =
    (a : Answer) × (u : ServiceView K) × (rest : List ℕ)
    × AnswersLine accepts members s line a u × (said ≡ answer_text members a ++ rest) × ServesLines accepts members u lines rest t

-- what is said before the first line: how the node is
abbrev pub greeting : {K : Type 0} → MemberList → NodeView K → List ℕ
greeting members v = answer_text members (state_told members v false)

-- the node was opened, greeted, and answered every line of what was heard
pub record Serves {K : Type 0} (accepts : K → Accepts) (members : MemberList) (v : NodeView K) (heard said : List ℕ) (last : ServiceView K) : Type 0 where
  pub answers : List ℕ
  pub serves : ServesLines accepts members (just_opened v) (lines_in heard) answers last
  pub whole : said ≡ greeting members v ++ answers
