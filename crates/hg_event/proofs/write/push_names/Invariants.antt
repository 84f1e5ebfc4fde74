use Rattle.std.proofs.Common.{◌≡◌, ◌+◌, ◌*◌, ◌++◌, ◌≤◌, take, vec_capacity, vec_len}
use Rattle.std.specs.List.{concat}
use Rattle.hg_event.proofs.write.push_names.Given as goal

abbrev pub invariant-loop-name : goal.invariant-loop-name
invariant-loop-name l = record {
  bytes : l.body.items ≡ l.initial.body.items ++ concat (take l.name-index l.names);
  len : vec_len l.body ≤ vec_len l.initial.body + 48 * l.name-index;
  capacity : vec_capacity l.initial.body ≤ vec_capacity l.body;
}
