use Rattle.std.proofs.Common.{◌≡◌, All, map, take}
use Rattle.std.specs.List.{flat_map}
use Rattle.hg_storm.specs.Mails.{IsMailOf, pair_of, pairs_from}
use Rattle.hg_storm.proofs.mails.mails_of.Given as goal

abbrev pub invariant-senders : goal.invariant-senders
invariant-senders l = record {
  each : All (IsMailOf l.joined) l.mails.items;
  pairs : map pair_of l.mails.items ≡ flat_map (pairs_from l.circle) (take l.from-index l.circle);
}
