-- What is told of an answer, and the text that it is
use Rattle.std.specs.Prelude.{List, ℕ, ◌++◌}
use Rattle.hg_pieces.specs.Pieces.{piece_text}
use Rattle.hg_pieces.specs.declared.phrases.Phrase.{Phrase}

abbrev pub phrase_text : Phrase → List ℕ
phrase_text phrase = phrase.first.now ++ phrase.second.now ++ piece_text phrase.detail
