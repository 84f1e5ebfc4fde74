use Rattle.std.proofs.Common.{◌≡◌, ◌++◌, All, map, take}
use Rattle.hg_storm.specs.Mails.{IsMailOf, pair_of, pairs_from}
use Rattle.hg_storm.proofs.mails.push_mails.Given as goal

abbrev pub invariant-others : goal.invariant-others
invariant-others l = record {
  each : All (IsMailOf l.joined) l.mails.items;
  pairs : map pair_of l.mails.items ≡ map pair_of l.initial.mails.items ++ pairs_from (take l.to-index l.circle) l.from;
}
