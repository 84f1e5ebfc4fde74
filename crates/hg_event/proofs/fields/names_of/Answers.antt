use Rattle.std.proofs.Common.{◌∙◌, ℕ, Ok, ap, arith, length-set, refl, rules, take}
use Rattle.hg_event.specs.Names.{lent_names}
use Rattle.hg_event.proofs.NameLists.{lent_more, read_all, read_fault, read_more, read_none}
use Rattle.hg_event.proofs.fields.names_of.Goals as goal

pub loop-place-init : goal.loop-place-init
loop-place-init c = record { read = read_none c.args.size c.args.len c.args.bytes.now; size = refl }

pub loop-place-preserved : goal.loop-place-preserved
loop-place-preserved c =
    let place = c.loop-place.place in
    record {
      read = read_more c.args.size c.args.len c.args.bytes.now place _ _ c.loop-place.rest.now (c.in_ok-name.name.now, c.in_ok-name.left.now) c.loop-place-test.true
          c.loop-place.invariant.read c.in_ok-name.ensures (lent_more c.loop-place.names place c.in_ok-name.name (omega arith));
      size = length-set c.loop-place.names place _ ∙ c.loop-place.invariant.size;
    }

pub returns-in_err-name : goal.returns-in_err-name
returns-in_err-name c =
    let e = read_fault c.args.size c.args.len c.args.bytes.now c.loop-place.place _ c.loop-place.rest.now _ c.loop-place-test.true c.loop-place.invariant.read c.in_err-name.ensures in
    rw e (search rules)

pub returns : goal.returns
returns c =
    read_all c.args.size c.args.len c.args.bytes.now c.loop-place.place _ c.loop-place.rest.now c.loop-place-test.false c.loop-place.invariant.read
    ∙ ap (λ (k : ℕ). Ok (lent_names (take k c.loop-place.names), c.loop-place.rest.now)) (omega arith)
