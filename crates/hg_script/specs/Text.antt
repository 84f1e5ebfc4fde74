-- How it is told why a line is refused
use Rattle.std.specs.Prelude.{ℕ, List, codes}
use Rattle.hg_script.specs.declared.fault.Why.{Why}
use Rattle.hg_script.specs.declared.fault.Why.TheVariants.{Utf8, Word, Arity, Member, NoNode, Number, Payload, Label, DoubleLabel, NotFirst, First, Workers}

abbrev pub why_text : Why → List ℕ
why_text Utf8 = codes "utf8"
why_text Word = codes "word"
why_text Arity = codes "arity"
why_text Member = codes "member"
why_text NoNode = codes "no-node"
why_text Number = codes "number"
why_text Payload = codes "payload"
why_text Label = codes "label"
why_text DoubleLabel = codes "double-label"
why_text NotFirst = codes "not-first"
why_text First = codes "first"
why_text Workers = codes "workers"
