-- The parts of an answer's text are all of it
use Rattle.std.proofs.Common.{◌≡◌, ℕ, List, ◌++◌, codes, refl, ap, ◌∙◌, append_assoc, append-nil}
use Rattle.hg_life.specs.Members.{MemberList, names_of}
use Rattle.hg_service.specs.Text.{answer_text, names_or_dash, parts_of, placed_text, yes_no}
use Rattle.hg_service.specs.declared.answer.Answer.{Answer}
use Rattle.hg_service.specs.declared.answer.Answer.TheVariants as answer
use Rattle.hg_telling.specs.Parts.{count_text, counts_text, further_count, further_text, head_text, tail_text, text_in_parts}

behind_counts : (counts placed said names : List ℕ)
    → counts ++ (codes " own " ++ placed ++ codes " impostor " ++ said ++ codes " strange ") ++ names
    ≡ counts ++ codes " own " ++ placed ++ codes " impostor " ++ said ++ codes " strange " ++ names
behind_counts counts placed said names = simp append_assoc

head_tail : (members : MemberList) (a : Answer) → head_text members a ++ tail_text members a ≡ (parts_of members a).0
head_tail members (answer.Bad why) = append-nil _
head_tail members (answer.Members own digest) = append-nil _
head_tail members (answer.State events forkers greatest closed ordered waiting own impostor strange) =
    behind_counts (counts_text events forkers greatest closed ordered waiting) (placed_text own) (yes_no impostor) (names_or_dash (names_of members) strange)
head_tail members (answer.Heads names) = append-nil _
head_tail members (answer.Beyond all rows events) = append-nil _
head_tail members (answer.Put before accepted known refused) = append-nil _
head_tail members (answer.Restored before accepted known refused) = append-nil _
head_tail members (answer.Made place event) = refl
head_tail members (answer.NotMade why) = append-nil _
head_tail members (answer.Settled count) = append-nil _
head_tail members (answer.Order all first events) = append-nil _
head_tail members (answer.Events all events) = append-nil _
head_tail members (answer.Balances ordered balances) = append-nil _
head_tail members (answer.Proof bytes) = append-nil _

pub parts_whole : (members : MemberList) (a : Answer) → text_in_parts members a ≡ answer_text members a
unfolding answer_text
parts_whole members a =
    let count : List ℕ = count_text (further_count members a) in
    ap (λ (t : List ℕ). t ++ codes "\n" ++ further_text members a)
    (append_assoc count (head_text members a) (tail_text members a) ∙ ap (λ (t : List ℕ). count ++ t) (head_tail members a))
