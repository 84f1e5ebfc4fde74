use Rattle.std.proofs.Common.{rules, ◌≡◌, ◌+◌, length, refl, ◌∙◌, ap, subst, arith, length-drop}
use Rattle.std.specs.Prelude.{take}
use Rattle.std.proofs.lemmas.List.{take_rest}
use Rattle.hg_journal.specs.declared.errors.StoreError.TheVariants as store_error
use Rattle.hg_keep.specs.Keeping.{PutsAll}
use Rattle.hg_keep.proofs.StopLaws.{same_error}
use Rattle.hg_keep.proofs.WayLaws.{part_there, ok_no_error, no_other_error, puts_part, puts_part_some, puts_none, stops_part, stops_none}
use Rattle.hg_keep.proofs.putting.put_all.Goals as goal

pub returns-in_err-answers-clause-memory : goal.returns-in_err-answers-clause-memory
returns-in_err-answers-clause-memory g c memory v is = (v, is, (0, refl))

pub returns-in_err-answers-clause-stops : goal.returns-in_err-answers-clause-stops
returns-in_err-answers-clause-stops g c = stops_none g.V.Verifier.accepts (g.D.Disk.file c.args.disk.now) c.args.stored.now c.args.events.now c.requires.stored

pub parts-init : goal.parts-init
parts-init g c = record {
  there = c.requires.there;
  within = omega arith;
  room = search rules;
  puts = puts_none g.V.Verifier.accepts c.args.stored.now.node;
  few = omega arith;
  stored = c.requires.stored;
  stops = stops_none g.V.Verifier.accepts (g.D.Disk.file c.args.disk.now) c.args.stored.now c.args.events.now c.requires.stored;
  shown = refl;
  name = refl;
  started = c.requires.started;
  counts = λ other. omega arith;
}

pub returns-in_err-put_batch-clause-memory : goal.returns-in_err-put_batch-clause-memory
returns-in_err-put_batch-clause-memory g c memory =
    let now = c.parts in
    let e = c.in_err-put_batch.field-0.0 in
    let is_memory = same_error c.put_batch.result c.from_residual-in_err-put_batch.result e store_error.Memory c.in_err-put_batch.was c.from_residual-in_err-put_batch.ensures.1 memory in
    puts_part_some g.V.Verifier.accepts c.args.stored.now.node c.args.events.now _ now.done now.stored.node now.counts (take_rest c.args.events.now now.done) now.invariant.puts
    c.put_batch.new.self.node c.put_batch.new.answers.items (c.put_batch.ensures.puts (no_other_error c.put_batch.result store_error.Memory store_error.Disk (λ same. cc) is_memory))

pub returns-in_err-put_batch-clause-stops : goal.returns-in_err-put_batch-clause-stops
returns-in_err-put_batch-clause-stops g c =
    let now = c.parts in
    stops_part g.V.Verifier.accepts c.args.stored.now.node c.args.events.now _ now.done now.stored.node now.counts (take_rest c.args.events.now now.done) now.invariant.puts
    c.put_batch.new.self.node (g.D.Disk.file c.args.disk.now) (g.D.Disk.file now.disk) (g.D.Disk.file c.put_batch.new.disk) now.invariant.shown now.invariant.stops c.put_batch.ensures.stops

pub parts-preserved : goal.parts-preserved
parts-preserved g c =
    let accepts = g.V.Verifier.accepts in
    let now = c.parts in
    let answers = c.put_batch.new.answers.items in
    let front = c.put_batch.ensures.puts (ok_no_error c.put_batch.result c.in_ok-put_batch.field-0 store_error.Disk c.in_ok-put_batch.was) in
    let there = part_there accepts now.stored.node _ answers c.put_batch.new.self.node now.invariant.there front in
    let many : length answers ≡ c.len-done.result = search rules in
    record {
      there = there.0;
      within = omega (arith, there.1, ap length (take_rest c.args.events.now now.done), many, now.invariant.within, length-drop now.done c.args.events.now);
      room = search rules;
      puts = subst (λ n. PutsAll accepts (take (now.done + n) c.args.events.now) c.args.stored.now.node c.put_batch.new.self.node c.count_all.new.self) many
          (puts_part accepts c.args.stored.now.node c.args.events.now _ now.done now.stored.node now.counts (take_rest c.args.events.now now.done) now.invariant.puts c.put_batch.new.self.node answers c.count_all.new.self front (search rules));
      few = search rules;
      stored = c.put_batch.ensures.frame.stored;
      stops = stops_part accepts c.args.stored.now.node c.args.events.now _ now.done now.stored.node now.counts (take_rest c.args.events.now now.done) now.invariant.puts
          c.put_batch.new.self.node (g.D.Disk.file c.args.disk.now) (g.D.Disk.file now.disk) (g.D.Disk.file c.put_batch.new.disk) now.invariant.shown now.invariant.stops c.put_batch.ensures.stops;
      shown = c.put_batch.ensures.frame.frame.shown ∙ now.invariant.shown;
      name = c.put_batch.ensures.frame.name ∙ now.invariant.name;
      started = search rules;
      counts = search rules;
    }
