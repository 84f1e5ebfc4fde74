use Rattle.std.proofs.Common.{arith, ap, subst, sym, ◌≡◌, ◌-◌, ◌≤◌, ℕ, List, ◌++◌, length, take, drop, append_assoc, ◌∙◌}
use Rattle.std.proofs.lemmas.List.{length-append, length-drop, length-take, take_all, take-append-drop}
use Rattle.hg_wire.specs.declared.progress.Progress.{Progress}
use Rattle.hg_wire.specs.declared.progress.Turn.{Turn}
use Rattle.hg_wire.specs.Outcome.{Unfinished}
use Rattle.hg_wire.specs.Grammar.{AreBytes}
use Rattle.hg_wire.specs.Progress.{Into, Done, field, rest_of}
use Rattle.hg_wire.specs.Ears.{Turns}
use Rattle.hg_wire.specs.Views.{state_of}
use Rattle.hg_wire.proofs.Most.{field_waits}
use Rattle.hg_wire.proofs.Onward.{into_onward}
use Rattle.hg_wire.proofs.Stepping.{Parts, is_behind, left_behind, reads_done, reads_into, reads_wrong}
use Rattle.hg_wire.proofs.Took.{waits_open}
use Rattle.hg_wire.proofs.Turning.{open_waits}
use Rattle.hg_wire.proofs.hearing.step_across.Goals as goal

pub overflow_sub-len : goal.overflow_sub-len
overflow_sub-len c =
    let few = field_waits (state_of c.args.h.now.progress) c.args.h.now.progress.stage c.args.h.now.pending.items c.requires in
    omega (arith, c.len.ensures, few)

pub read_field-requires : goal.read_field-requires
read_field-requires c = waits_open (state_of c.args.h.now.progress) c.args.h.now.progress.stage c.args.h.now.pending.items c.requires

pub overflow_sub-used : goal.overflow_sub-used
overflow_sub-used c =
    let s = state_of c.args.h.now.progress in
    let next = state_of c.read_field.new.progress in
    let pending = c.args.h.now.pending.items in
    let bytes = c.args.bytes.now in
    let part = take c.min-len.result bytes in
    let tail = drop c.min-len.result bytes in
    let grown = c.as_slice-pending.ensures.value ∙ c.in_ok-extend_from_slice.ensures.items in
    let parts : Parts pending bytes part tail = record { split = sym (take-append-drop c.min-len.result bytes); fit = subst (λ (t : List ℕ). AreBytes t) grown c.are_bytes.ensures } in
    let turned = subst (λ (t : Turn). Turns c.args.h.now.progress c.read_field.new.progress c.as_slice-pending.result.now t) c.in-On.is c.in_ok-read_field.ensures.turns in
    let left = left_behind s pending bytes part tail (Into next) c.in-On.rest.now parts c.requires (ap (field s) (sym grown) ∙ turned.0) in
    omega (arith, left.less, length-take c.min-len.result bytes)

pub overflow_sub-result : goal.overflow_sub-result
overflow_sub-result c =
    let s = state_of c.args.h.now.progress in
    let pending = c.args.h.now.pending.items in
    let bytes = c.args.bytes.now in
    let part = take c.min-len.result bytes in
    let tail = drop c.min-len.result bytes in
    let grown = c.as_slice-pending.ensures.value ∙ c.in_ok-extend_from_slice.ensures.items in
    let parts : Parts pending bytes part tail = record { split = sym (take-append-drop c.min-len.result bytes); fit = subst (λ (t : List ℕ). AreBytes t) grown c.are_bytes.ensures } in
    let turned = subst (λ (t : Turn). Turns c.args.h.now.progress c.read_field.new.progress c.as_slice-pending.result.now t) c.in-Whole.is c.in_ok-read_field.ensures.turns in
    let left = left_behind s pending bytes part tail (Done c.in-Whole.message) c.in-Whole.rest.now parts c.requires (ap (field s) (sym grown) ∙ turned.0) in
    omega (arith, left.less, length-take c.min-len.result bytes)

pub returns-in-Waits-clause-steps : goal.returns-in-Waits-clause-steps
returns-in-Waits-clause-steps c =
    let s = state_of c.args.h.now.progress in
    let pending = c.args.h.now.pending.items in
    let bytes = c.args.bytes.now in
    let part = take c.min-len.result bytes in
    let now = c.extend_from_slice.new.self.items in
    let grown : now ≡ pending ++ part = c.in_ok-extend_from_slice.ensures.items in
    let turned = subst (λ (t : Turn). Turns c.args.h.now.progress c.read_field.new.progress c.as_slice-pending.result.now t) c.in-Waits.is c.in_ok-read_field.ensures.turns in
    let e : field s (pending ++ part) ≡ Unfinished = ap (field s) (sym (c.as_slice-pending.ensures.value ∙ grown)) ∙ turned.0 in
    let few = field_waits s s.stage (pending ++ part) e in
    let enough : length bytes ≤ c.min-len.result = omega (arith, few, c.min-len.ensures, c.len.ensures, length-append pending part, length-take c.min-len.result bytes) in
    let all : part ≡ bytes = take_all c.min-len.result bytes enough in (
      ap (λ (p : Progress). field (state_of p) now) turned.1 ∙ ap (field s) grown ∙ e,
      λ more. ap (λ (p : Progress). rest_of (state_of p) (now ++ more)) turned.1 ∙ ap (λ (t : List ℕ). rest_of s (t ++ more)) grown
          ∙ ap (rest_of s) (append_assoc pending part more ∙ ap (λ (t : List ℕ). pending ++ (t ++ more)) all),
    )

pub returns-in-On-clause-steps : goal.returns-in-On-clause-steps
returns-in-On-clause-steps c =
    let s = state_of c.args.h.now.progress in
    let next = state_of c.read_field.new.progress in
    let pending = c.args.h.now.pending.items in
    let bytes = c.args.bytes.now in
    let part = take c.min-len.result bytes in
    let tail = drop c.min-len.result bytes in
    let rest = c.in-On.rest.now in
    let grown = c.as_slice-pending.ensures.value ∙ c.in_ok-extend_from_slice.ensures.items in
    let parts : Parts pending bytes part tail = record { split = sym (take-append-drop c.min-len.result bytes); fit = subst (λ (t : List ℕ). AreBytes t) grown c.are_bytes.ensures } in
    let turned = subst (λ (t : Turn). Turns c.args.h.now.progress c.read_field.new.progress c.as_slice-pending.result.now t) c.in-On.is c.in_ok-read_field.ensures.turns in
    let e = ap (field s) (sym grown) ∙ turned.0 in
    let left = left_behind s pending bytes part tail (Into next) rest parts c.requires e in
    let used = c.min-len.result - length rest in
    let behind = take (length bytes - used) (drop used bytes) in
    let part_len : c.min-len.result ≡ length part = omega (arith, length-take c.min-len.result bytes, c.min-len.ensures) in
    let is : behind ≡ drop (length part - length rest) bytes = take_all (length bytes - used) (drop used bytes) (omega (arith, length-drop used bytes)) ∙ ap (λ (n : ℕ). drop (n - length rest) bytes) part_len in (
      ap (field next) c.clear.ensures.items ∙ open_waits next next.stage turned.1,
      is_behind pending bytes part tail rest behind parts.split left is,
      λ more. ap (λ (t : List ℕ). rest_of next (t ++ (behind ++ more))) c.clear.ensures.items ∙ reads_into s next pending bytes part tail rest behind parts e left is more,
    )

pub returns-in-On-clause-kept : goal.returns-in-On-clause-kept
returns-in-On-clause-kept c =
    let s = state_of c.args.h.now.progress in
    let turned = subst (λ (t : Turn). Turns c.args.h.now.progress c.read_field.new.progress c.as_slice-pending.result.now t) c.in-On.is c.in_ok-read_field.ensures.turns in (
      c.clear.ensures.items,
      into_onward s s.stage c.as_slice-pending.result.now (state_of c.read_field.new.progress) c.in-On.rest.now turned.0,
      (take c.min-len.result c.args.bytes.now, ap (λ v. v.items) c.swap.ensures.y_after ∙ c.in_ok-extend_from_slice.ensures.items),
    )

pub returns-in-Whole-clause-steps : goal.returns-in-Whole-clause-steps
returns-in-Whole-clause-steps c =
    let s = state_of c.args.h.now.progress in
    let pending = c.args.h.now.pending.items in
    let bytes = c.args.bytes.now in
    let part = take c.min-len.result bytes in
    let tail = drop c.min-len.result bytes in
    let rest = c.in-Whole.rest.now in
    let grown = c.as_slice-pending.ensures.value ∙ c.in_ok-extend_from_slice.ensures.items in
    let parts : Parts pending bytes part tail = record { split = sym (take-append-drop c.min-len.result bytes); fit = subst (λ (t : List ℕ). AreBytes t) grown c.are_bytes.ensures } in
    let turned = subst (λ (t : Turn). Turns c.args.h.now.progress c.read_field.new.progress c.as_slice-pending.result.now t) c.in-Whole.is c.in_ok-read_field.ensures.turns in
    let e = ap (field s) (sym grown) ∙ turned.0 in
    let left = left_behind s pending bytes part tail (Done c.in-Whole.message) rest parts c.requires e in
    let used = c.min-len.result - length rest in
    let behind = take (length bytes - used) (drop used bytes) in
    let part_len : c.min-len.result ≡ length part = omega (arith, length-take c.min-len.result bytes, c.min-len.ensures) in
    let is : behind ≡ drop (length part - length rest) bytes = take_all (length bytes - used) (drop used bytes) (omega (arith, length-drop used bytes)) ∙ ap (λ (n : ℕ). drop (n - length rest) bytes) part_len in (
      turned.1,
      is_behind pending bytes part tail rest behind parts.split left is,
      reads_done s c.in-Whole.message pending bytes part tail rest behind parts e left is,
    )

pub returns-in-Wrong-clause-steps : goal.returns-in-Wrong-clause-steps
returns-in-Wrong-clause-steps c =
    let s = state_of c.args.h.now.progress in
    let pending = c.args.h.now.pending.items in
    let bytes = c.args.bytes.now in
    let part = take c.min-len.result bytes in
    let tail = drop c.min-len.result bytes in
    let grown = c.as_slice-pending.ensures.value ∙ c.in_ok-extend_from_slice.ensures.items in
    let parts : Parts pending bytes part tail = record { split = sym (take-append-drop c.min-len.result bytes); fit = subst (λ (t : List ℕ). AreBytes t) grown c.are_bytes.ensures } in
    let turned = subst (λ (t : Turn). Turns c.args.h.now.progress c.read_field.new.progress c.as_slice-pending.result.now t) c.in-Wrong.is c.in_ok-read_field.ensures.turns in
    (turned.1, reads_wrong s pending bytes part tail c.in-Wrong.fault parts (ap (field s) (sym grown) ∙ turned.0))
