-- How the reasons are told for which a program of tests came to no end
use Rattle.std.specs.Prelude.{ℕ, List, codes}
use Rattle.hg_check.specs.declared.trouble.Trouble.{Trouble}
use Rattle.hg_check.specs.declared.trouble.Trouble.TheVariants.{Broken, Members, Memory, Outside, Program}

abbrev pub trouble_text : Trouble → List ℕ
trouble_text Broken = codes "broken"
trouble_text Members = codes "no members"
trouble_text Memory = codes "out of memory"
trouble_text Outside = codes "not read, or a line not written"
trouble_text Program = codes "another status"
