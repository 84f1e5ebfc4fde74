-- The first few words of a line are enough: with more of them the line is refused alike.
use Rattle.std.proofs.Common.{◌≡◌, ℕ, List, [], ◌∷◌, take, Option, Result, Ok, Err, refl}
use Rattle.std.specs.Option.{ok_or}
use Rattle.hg_life.specs.Members.{MemberList}
use Rattle.hg_life.specs.Results.{◌>>=◌}
use Rattle.hg_script.specs.declared.fault.Why.{Why}
use Rattle.hg_script.specs.declared.fault.Why.TheVariants.{Word}
use Rattle.hg_script.specs.declared.verb.Verb.{Verb}
use Rattle.hg_script.specs.declared.verb.Verb.TheVariants as verb
use Rattle.hg_reading.specs.declared.words.TheConstants.{MOST_WORDS}
use Rattle.hg_script.specs.Script.{line_in}
use Rattle.hg_script.specs.Table.{Above, Found, found_by, line_by, alter, create, cut, forge, freeze, give, join, name, names, publish, pull, raw, show, show_kept, sync, one_word, two_words, three_words, four_words, two_or_three, three_or_four, five_or_six, verb_of}

one_enough : (line : List ℕ → Result Found Why) (words : List (List ℕ)) → one_word line (take 7 words) ≡ one_word line words
one_enough line [] = refl
one_enough line (x ∷ []) = refl
one_enough line (x ∷ y ∷ rest) = refl

two_enough : (line : List ℕ → List ℕ → Result Found Why) (words : List (List ℕ)) → two_words line (take 7 words) ≡ two_words line words
two_enough line [] = refl
two_enough line (x ∷ []) = refl
two_enough line (x ∷ y ∷ []) = refl
two_enough line (x ∷ y ∷ z ∷ rest) = refl

three_enough : (line : List ℕ → List ℕ → List ℕ → Result Found Why) (words : List (List ℕ)) → three_words line (take 7 words) ≡ three_words line words
three_enough line [] = refl
three_enough line (x ∷ []) = refl
three_enough line (x ∷ y ∷ []) = refl
three_enough line (x ∷ y ∷ z ∷ []) = refl
three_enough line (x ∷ y ∷ z ∷ u ∷ rest) = refl

four_enough : (line : List ℕ → List ℕ → List ℕ → List ℕ → Result Found Why) (words : List (List ℕ)) → four_words line (take 7 words) ≡ four_words line words
four_enough line [] = refl
four_enough line (x ∷ []) = refl
four_enough line (x ∷ y ∷ []) = refl
four_enough line (x ∷ y ∷ z ∷ []) = refl
four_enough line (x ∷ y ∷ z ∷ u ∷ []) = refl
four_enough line (x ∷ y ∷ z ∷ u ∷ v ∷ rest) = refl

two_or_three_enough : (line : List ℕ → List ℕ → Option (List ℕ) → Result Found Why) (words : List (List ℕ)) → two_or_three line (take 7 words) ≡ two_or_three line words
two_or_three_enough line [] = refl
two_or_three_enough line (x ∷ []) = refl
two_or_three_enough line (x ∷ y ∷ []) = refl
two_or_three_enough line (x ∷ y ∷ z ∷ []) = refl
two_or_three_enough line (x ∷ y ∷ z ∷ u ∷ rest) = refl

three_or_four_enough : (line : List ℕ → List ℕ → List ℕ → Option (List ℕ) → Result Found Why) (words : List (List ℕ)) → three_or_four line (take 7 words) ≡ three_or_four line words
three_or_four_enough line [] = refl
three_or_four_enough line (x ∷ []) = refl
three_or_four_enough line (x ∷ y ∷ []) = refl
three_or_four_enough line (x ∷ y ∷ z ∷ []) = refl
three_or_four_enough line (x ∷ y ∷ z ∷ u ∷ []) = refl
three_or_four_enough line (x ∷ y ∷ z ∷ u ∷ v ∷ rest) = refl

five_or_six_enough : (line : List ℕ → List ℕ → List ℕ → List ℕ → List ℕ → Option (List ℕ) → Result Found Why) (words : List (List ℕ)) → five_or_six line (take 7 words) ≡ five_or_six line words
five_or_six_enough line [] = refl
five_or_six_enough line (x ∷ []) = refl
five_or_six_enough line (x ∷ y ∷ []) = refl
five_or_six_enough line (x ∷ y ∷ z ∷ []) = refl
five_or_six_enough line (x ∷ y ∷ z ∷ u ∷ []) = refl
five_or_six_enough line (x ∷ y ∷ z ∷ u ∷ v ∷ []) = refl
five_or_six_enough line (x ∷ y ∷ z ∷ u ∷ v ∷ w ∷ []) = refl
five_or_six_enough line (x ∷ y ∷ z ∷ u ∷ v ∷ w ∷ t ∷ rest) = refl

line_enough : (members : MemberList) (above : Above) (v : Verb) (words : List (List ℕ)) → line_by members above v (take 7 words) ≡ line_by members above v words
line_enough members above verb.Create words = two_or_three_enough (create members above) words
line_enough members above verb.Sync words = three_or_four_enough (sync members above) words
line_enough members above verb.Pull words = two_enough (pull members) words
line_enough members above verb.Join words = three_or_four_enough (join members above) words
line_enough members above verb.Name words = two_enough (name members above) words
line_enough members above verb.Forge words = five_or_six_enough (forge members above) words
line_enough members above verb.Raw words = two_enough (raw above) words
line_enough members above verb.Alter words = four_enough (alter above) words
line_enough members above verb.Cut words = three_enough (cut above) words
line_enough members above verb.Give words = two_enough (give members above) words
line_enough members above verb.Freeze words = two_enough (freeze members) words
line_enough members above verb.Publish words = two_enough (publish members) words
line_enough members above verb.Kept words = one_enough (show_kept members) words
line_enough members above verb.Show words = one_enough (show members) words
line_enough members above verb.Names words = one_enough (names members) words

-- a check after another gives the same where it does so at each value
bind_same : {A B : Type 0} (r : Result A Why) (f g : A → Result B Why) → ((x : A) → f x ≡ g x) → (r >>= f) ≡ (r >>= g)
bind_same (Ok x) f g same = same x
bind_same (Err why) f g same = refl

found_enough : (members : MemberList) (above : Above) (word : List ℕ) (words : List (List ℕ))
    → found_by members above word (take 7 words) ≡ found_by members above word words
found_enough members above word words =
    bind_same (ok_or (verb_of word) Word) _ _ (λ v. line_enough members above v words)

pub words_enough : (members : MemberList) (workers : ℕ) (above : Above) (words : List (List ℕ))
    → line_in members workers above (take MOST_WORDS words) ≡ line_in members workers above words
words_enough members workers above [] = refl
words_enough members workers above (word ∷ words) = rw (found_enough members above word words)
