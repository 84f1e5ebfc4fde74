-- The first of the lines that are left
use Rattle.std.proofs.Common.{◌≡◌, ℕ, suc, ◌+◌, ◌<◌, List, [], ◌∷◌, ◌++◌, length, drop, get_or, codes, refl, sym, ap, append_assoc, ◌∙◌, add-one}
use Rattle.hg_life.specs.Members.{MemberList, names_of}
use Rattle.hg_life.specs.declared.members.MemberEntry.{MemberEntry}
use Rattle.hg_service.specs.Binding.{entry_text}
use Rattle.hg_service.specs.Text.{balance_texts, digits_each, entry_texts, lines_text, more_names, ordered_texts, refused_text, refused_texts}
use Rattle.hg_service.specs.declared.answer.OrderedEvent.{OrderedEvent}
use Rattle.hg_service.specs.declared.answer.RefusedEvent.{RefusedEvent}
use Rattle.hg_pieces.proofs.Steps.{first_left}
use Rattle.hg_telling.specs.Parts.{balance_line, balance_lines, more_name, ordered_line, ordered_lines, ordered_parts}

pub refused_left : (events : List RefusedEvent) (i : ℕ) (d : RefusedEvent) → i < length events
    → lines_text (refused_texts (drop i events)) ≡ (refused_text (get_or events i d) ++ codes "\n") ++ lines_text (refused_texts (drop (i + 1) events))
refused_left events i d lt = ap (λ (es : List RefusedEvent). lines_text (refused_texts es)) (first_left events i d lt)

pub entries_left : (entries : List MemberEntry) (i : ℕ) (entry : MemberEntry) → entry ≡ get_or entries i entry → i < length entries
    → lines_text (entry_texts (drop i entries)) ≡ (entry_text entry ++ codes "\n") ++ lines_text (entry_texts (drop (i + 1) entries))
entries_left entries i entry is lt =
    ap (λ (es : List MemberEntry). lines_text (entry_texts es)) (first_left entries i entry lt)
    ∙ ap (λ (e : MemberEntry). (entry_text e ++ codes "\n") ++ lines_text (entry_texts (drop (i + 1) entries))) (sym is)

pub balances_left : (members : MemberList) (balances : List ℕ) (m i d : ℕ) → i < length balances
    → balance_lines members m (drop i balances) ≡ balance_line members m (get_or balances i d) ++ balance_lines members (m + 1) (drop (i + 1) balances)
balances_left members balances m i d lt =
    ap (balance_lines members m) (first_left balances i d lt)
    ∙ ap (λ (k : ℕ). balance_line members m (get_or balances i d) ++ balance_lines members k (drop (i + 1) balances)) (sym (add-one m))

-- the line of an event of the order in its parts
pub ordered_is : (members : MemberList) (number : ℕ) (event : OrderedEvent) → ordered_parts members number event ≡ ordered_line members number event
ordered_is members number event = simp append_assoc

pub ordered_left : (members : MemberList) (events : List OrderedEvent) (number next i : ℕ) (event : OrderedEvent) → event ≡ get_or events i event → i < length events
    → next ≡ number + 1 → ordered_lines members number (drop i events) ≡ ordered_parts members number event ++ ordered_lines members next (drop (i + 1) events)
ordered_left members events number next i event is lt one =
    ap (ordered_lines members number) (first_left events i event lt)
    ∙ ap (λ (e : OrderedEvent). ordered_line members number e ++ ordered_lines members (suc number) (drop (i + 1) events)) (sym is)
    ∙ ap (λ (k : ℕ). ordered_line members number event ++ ordered_lines members k (drop (i + 1) events)) (sym (add-one number) ∙ sym one)
    ∙ ap (λ (line : List ℕ). line ++ ordered_lines members next (drop (i + 1) events)) (sym (ordered_is members number event))

pub names_left : (members : MemberList) (others : List ℕ) (i d : ℕ) → i < length others
    → more_names (names_of members) (drop i others) ≡ more_name members (get_or others i d) ++ more_names (names_of members) (drop (i + 1) others)
names_left members others i d lt = ap (more_names (names_of members)) (first_left others i d lt)

-- ---- how many lines there are

pub count_entries : (entries : List MemberEntry) → length (entry_texts entries) ≡ length entries
count_entries [] = refl
count_entries (e ∷ entries) = ap suc (count_entries entries)

pub count_digits : (xs : List (List ℕ)) → length (digits_each xs) ≡ length xs
count_digits [] = refl
count_digits (x ∷ xs) = ap suc (count_digits xs)

pub count_refused : (events : List RefusedEvent) → length (refused_texts events) ≡ length events
count_refused [] = refl
count_refused (e ∷ events) = ap suc (count_refused events)

pub count_ordered : (names : List (List ℕ)) (number : ℕ) (events : List OrderedEvent) → length (ordered_texts names number events) ≡ length events
count_ordered names number [] = refl
count_ordered names number (e ∷ events) = ap suc (count_ordered names (suc number) events)

pub count_balances : (names : List (List ℕ)) (m : ℕ) (balances : List ℕ) → length (balance_texts names m balances) ≡ length balances
count_balances names m [] = refl
count_balances names m (b ∷ balances) = ap suc (count_balances names (suc m) balances)
