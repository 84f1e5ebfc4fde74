-- One text after the other, hashed
use Rattle.std.proofs.Common.{◌≡◌, ℕ, zero, suc, ◌+◌, ◌<◌, List, [], ◌∷◌, ◌++◌, length, take, get_or, codes, sym, ap, subst, ◌∙◌, append_assoc, append-nil, add-one, arith}
use Rattle.sha2.specs.Hashers.{Holds384}
use Rattle.sha2.specs.declared.Sha384.{Sha384}
use Rattle.hg_life.specs.declared.members.MemberEntry.{MemberEntry}
use Rattle.hg_service.specs.Binding.{entry_lines, entry_text}
use Rattle.hg_telling.specs.Hashing.{Hashes}

pub hashes_then : (a b c : Sha384) (s t : List ℕ) → Hashes a b s → Hashes b c t → Hashes a c (s ++ t)
hashes_then a b c s t first second = λ m held. subst (Holds384 c) (append_assoc m s t) (second (m ++ s) (first m held))

lines_of_more : (entries : List MemberEntry) (i : ℕ) (d : MemberEntry) → i < length entries
    → entry_lines (take (suc i) entries) ≡ entry_lines (take i entries) ++ (entry_text (get_or entries i d) ++ codes "\n")
lines_of_more [] i d lt = absurd (omega arith)
lines_of_more (e ∷ entries) zero d lt = append-nil (entry_text e ++ codes "\n")
lines_of_more (e ∷ entries) (suc i) d lt =
    ap (λ (rest : List ℕ). entry_text e ++ codes "\n" ++ rest) (lines_of_more entries i d (omega arith))
    ∙ sym (append_assoc (entry_text e ++ codes "\n") (entry_lines (take i entries)) (entry_text (get_or entries i d) ++ codes "\n"))

-- the lines of one entry more
pub entries_more : (entries : List MemberEntry) (i : ℕ) (entry : MemberEntry) → entry ≡ get_or entries i entry → i < length entries
    → entry_lines (take i entries) ++ (entry_text entry ++ codes "\n") ≡ entry_lines (take (i + 1) entries)
entries_more entries i entry is lt =
    ap (λ (e : MemberEntry). entry_lines (take i entries) ++ (entry_text e ++ codes "\n")) is ∙ sym (lines_of_more entries i entry lt)
    ∙ ap (λ (k : ℕ). entry_lines (take k entries)) (sym (add-one i))
