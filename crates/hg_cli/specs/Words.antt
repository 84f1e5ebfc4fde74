-- What the words of the command line come to before the program reads them
use Rattle.std.specs.Prelude.{Option, Some, None, Result, Ok, Err}
use Rattle.hg_top.specs.declared.status.NoWords.{NoWords}
use Rattle.hg_top.specs.declared.status.NoWords.TheVariants.{NotText, Memory}

-- the words that were found, or why there are none: one was no text, or memory ran out
abbrev pub words_in : {W E : Type 0} → Result (Option W) E → Result W NoWords
words_in (Ok (Some words)) = Ok words
words_in (Ok None) = Err NotText
words_in (Err e) = Err Memory
