use Rattle.std.proofs.Common.{arith, ap, subst, [], ℕ, List, ◌++◌, ◌∙◌}
use Rattle.hg_wire.specs.declared.progress.Turn.{Turn}
use Rattle.hg_wire.specs.Outcome.{Faulty, Finished}
use Rattle.hg_wire.specs.Progress.{Into, Done, field, rest_of}
use Rattle.hg_wire.specs.Ears.{Turns}
use Rattle.hg_wire.specs.Views.{state_of}
use Rattle.hg_wire.proofs.Onward.{into_onward}
use Rattle.hg_wire.proofs.Stepping.{is_behind, left_behind, own_field, own_parts, own_rest, reads_done, reads_into, reads_wrong}
use Rattle.hg_wire.proofs.Took.{waits_open}
use Rattle.hg_wire.proofs.Turning.{open_waits}
use Rattle.hg_wire.proofs.hearing.step_within.Goals as goal

pub read_field-requires : goal.read_field-requires
read_field-requires c = waits_open (state_of c.args.h.now.progress) c.args.h.now.progress.stage c.args.h.now.pending.items c.requires.waits

pub returns-in-On-clause-steps : goal.returns-in-On-clause-steps
returns-in-On-clause-steps c =
    let s = state_of c.args.h.now.progress in
    let next = state_of c.read_field.new.progress in
    let pending = c.args.h.now.pending.items in
    let bytes = c.args.bytes.now in
    let rest = c.in-On.rest.now in
    let parts = own_parts pending bytes c.requires.empty (λ i. omega (arith, c.type_inv.bytes i)) in
    let turned = subst (λ (t : Turn). Turns c.args.h.now.progress c.read_field.new.progress bytes t) c.in-On.is c.in_ok-read_field.ensures.turns in
    let e = own_field s pending bytes (Finished (Into next) rest) c.requires.empty turned.0 in
    let left = left_behind s pending bytes bytes [] (Into next) rest parts c.requires.waits e in
    let is = own_rest pending bytes rest left in (
      ap (field next) c.requires.empty ∙ open_waits next next.stage turned.1,
      is_behind pending bytes bytes [] rest rest parts.split left is,
      λ more. ap (λ (t : List ℕ). rest_of next (t ++ (rest ++ more))) c.requires.empty ∙ reads_into s next pending bytes bytes [] rest rest parts e left is more,
    )

pub returns-in-On-clause-kept : goal.returns-in-On-clause-kept
returns-in-On-clause-kept c =
    let s = state_of c.args.h.now.progress in
    let turned = subst (λ (t : Turn). Turns c.args.h.now.progress c.read_field.new.progress c.args.bytes.now t) c.in-On.is c.in_ok-read_field.ensures.turns in
    (c.requires.empty, into_onward s s.stage c.args.bytes.now (state_of c.read_field.new.progress) c.in-On.rest.now turned.0)

pub returns-in-Whole-clause-steps : goal.returns-in-Whole-clause-steps
returns-in-Whole-clause-steps c =
    let s = state_of c.args.h.now.progress in
    let pending = c.args.h.now.pending.items in
    let bytes = c.args.bytes.now in
    let rest = c.in-Whole.rest.now in
    let parts = own_parts pending bytes c.requires.empty (λ i. omega (arith, c.type_inv.bytes i)) in
    let turned = subst (λ (t : Turn). Turns c.args.h.now.progress c.read_field.new.progress bytes t) c.in-Whole.is c.in_ok-read_field.ensures.turns in
    let e = own_field s pending bytes (Finished (Done c.in-Whole.message) rest) c.requires.empty turned.0 in
    let left = left_behind s pending bytes bytes [] (Done c.in-Whole.message) rest parts c.requires.waits e in
    let is = own_rest pending bytes rest left in (
      turned.1,
      is_behind pending bytes bytes [] rest rest parts.split left is,
      reads_done s c.in-Whole.message pending bytes bytes [] rest rest parts e left is,
    )

pub returns-in-Wrong-clause-steps : goal.returns-in-Wrong-clause-steps
returns-in-Wrong-clause-steps c =
    let s = state_of c.args.h.now.progress in
    let pending = c.args.h.now.pending.items in
    let bytes = c.args.bytes.now in
    let parts = own_parts pending bytes c.requires.empty (λ i. omega (arith, c.type_inv.bytes i)) in
    let turned = subst (λ (t : Turn). Turns c.args.h.now.progress c.read_field.new.progress bytes t) c.in-Wrong.is c.in_ok-read_field.ensures.turns in
    (turned.1, reads_wrong s pending bytes bytes [] c.in-Wrong.fault parts (own_field s pending bytes (Faulty c.in-Wrong.fault) c.requires.empty turned.0))
