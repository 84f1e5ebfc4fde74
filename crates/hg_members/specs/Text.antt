-- How the faults of a member file are told
use Rattle.std.specs.Prelude.{ℕ, List, ◌++◌, codes}
use Rattle.std.specs.Fmt.{decimal, signed_decimal}
use Rattle.hg_members.specs.declared.fault.MemberFault.{MemberFault}
use Rattle.hg_members.specs.declared.fault.MemberFault.TheVariants.{NotToml, BadCoin, Count, BadName, DoubleName, BadSecret, BadBalance, BadNode, BadStake, SumTooLarge}

-- a fault of one member, by its number
abbrev pub of_member : List ℕ → ℕ → List ℕ
of_member word i = word ++ codes " " ++ decimal i

abbrev pub member_fault_text : MemberFault → List ℕ
member_fault_text NotToml = codes "not-toml"
member_fault_text (BadCoin c) = codes "coin " ++ signed_decimal c
member_fault_text (Count k) = codes "count " ++ decimal k
member_fault_text (BadName i) = of_member (codes "name") i
member_fault_text (DoubleName i) = of_member (codes "double-name") i
member_fault_text (BadSecret i) = of_member (codes "secret") i
member_fault_text (BadBalance i) = of_member (codes "balance") i
member_fault_text (BadNode i) = of_member (codes "node") i
member_fault_text (BadStake i) = of_member (codes "stake") i
member_fault_text SumTooLarge = codes "sum"
