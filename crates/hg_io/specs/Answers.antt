-- What an answer says of the file that was read, where the shelf tells it.
use Rattle.std.specs.Prelude.{◌≡◌, ℕ, ◌<◌, ◌≤◌, List, length, Option, Some, IfSome, IsSomeAnd, ⊤}
use Rattle.hg_io.specs.Files.{Files, content_of}
use Rattle.hg_io.specs.declared.reading.FileAnswer.{FileAnswer}
use Rattle.hg_io.specs.declared.reading.FileAnswer.TheVariants.{Bytes, Failed, TooLong}

-- the bytes are all of the file and no more than the limit, or the file has more
abbrev pub Answers : Option Files → List ℕ → ℕ → FileAnswer → Type 0
Answers holds name limit (Bytes bytes) = (length bytes ≤ limit) × IfSome holds (λ files. content_of files name ≡ Some bytes)
Answers holds name limit (TooLong n) = (n ≡ limit) × IfSome holds (λ files. IsSomeAnd (content_of files name) (λ bytes. limit < length bytes))
Answers holds name limit Failed = ⊤

-- the same of what is left of a file
abbrev pub AnswersLeft : Option (List ℕ) → ℕ → FileAnswer → Type 0
AnswersLeft left limit (Bytes bytes) = (length bytes ≤ limit) × IfSome left (λ rest. rest ≡ bytes)
AnswersLeft left limit (TooLong n) = (n ≡ limit) × IfSome left (λ rest. limit < length rest)
AnswersLeft left limit Failed = ⊤
