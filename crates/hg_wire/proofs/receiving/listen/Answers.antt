use Rattle.std.proofs.Common.{rules, subst, ◌+◌, drop, ap, sym, ◌∙◌, [], arith, length, take, ◌≤◌, ◌<◌, ℕ, List, ◌++◌}
use Rattle.std.proofs.lemmas.List.{append-nil, length-take, take-append-le}
use Rattle.hg_wire.specs.Ears.{Answers, GoesOn, means}
use Rattle.hg_io.specs.Bytes.{TakesOff}
use Rattle.hg_wire.specs.declared.message.Fed.{Fed}
use Rattle.hg_wire.specs.Outcome.{Finished}
use Rattle.hg_wire.proofs.Sources.{all_used, ended, more_read, read_none, read_on, receiving_more, receiving_none, receiving_short}
use Rattle.hg_wire.proofs.receiving.listen.Goals as goal

pub pieces-init : goal.pieces-init
pieces-init g c = record { so_far = receiving_none _ _; waits = c.requires.1 [] ∙ read_none c.requires.0; counts = omega arith }

pub returns-then-count-eq0-clause-received : goal.returns-then-count-eq0-clause-received
returns-then-count-eq0-clause-received g c =
    let r = ended (means c.args.ear.now) (means c.pieces.ear) _ _ _ c.pieces.at c.in-Ok.count c.read.new.buf c.pieces.invariant.so_far c.in-Ok.ensures.next c.if-count-eq0.true c.pieces.invariant.waits in
    (r.0, r.1, c.in-Ok.ensures.end c.if-count-eq0.true)

pub returns-then-count-eq0-clause-cause : goal.returns-then-count-eq0-clause-cause
returns-then-count-eq0-clause-cause g c = λ e. absurd cc

pub overflow_add-at : goal.overflow_add-at
overflow_add-at g c =
    let short = receiving_short c.requires.0 c.args.ear.now (means c.pieces.ear) _ _ c.pieces.at c.requires.1 c.pieces.invariant.so_far c.pieces.invariant.waits in
    omega (arith, short, c.in-Ok.ensures.within, c.min-room.ensures, length-take c.min-room.result c.pieces.buf)

pub pieces-smaller : goal.pieces-smaller
pieces-smaller g c =
    let short = receiving_short c.requires.0 c.args.ear.now (means c.pieces.ear) _ _ c.pieces.at c.requires.1 c.pieces.invariant.so_far c.pieces.invariant.waits in
    let some : 0 < c.in-Ok.count = search rules in
    omega (arith, short, some)

pub pieces-preserved : goal.pieces-preserved
pieces-preserved g c =
    let same = take-append-le c.in-Ok.count c.read.new.buf (drop c.min-room.result c.pieces.buf) c.in-Ok.ensures.within in
    let piece : List ℕ = take c.in-Ok.count (c.read.new.buf ++ drop c.min-room.result c.pieces.buf) in
    let taken = subst (λ (t : List ℕ). TakesOff (g.S.Source.left c.pieces.source) (g.S.Source.left c.read.new.self) t) (sym same) c.in-Ok.ensures.next in
    let goes = subst (λ (a : Fed). GoesOn c.pieces.ear c.feed.new.self piece a) c.in-More.is c.in_ok-feed.ensures.goes_on in
    let heard = subst (λ (a : Fed). Answers piece (means c.pieces.ear piece) a) c.in-More.is c.in_ok-feed.ensures.answers in
    record {
      so_far = receiving_more (means c.args.ear.now) (means c.pieces.ear) (means c.feed.new.self) _ _ _ c.pieces.at (c.pieces.at + c.in-Ok.count) piece c.pieces.invariant.so_far taken goes
          (omega (arith, ap length same, length-take c.in-Ok.count c.read.new.buf, c.in-Ok.ensures.within));
      waits = goes [] ∙ ap (means c.pieces.ear) (append-nil piece) ∙ heard;
      counts = omega (arith, c.in-Ok.ensures.counts, c.pieces.invariant.counts);
    }

pub returns-in-Whole-clause-received : goal.returns-in-Whole-clause-received
returns-in-Whole-clause-received g c =
    let same = take-append-le c.in-Ok.count c.read.new.buf (drop c.min-room.result c.pieces.buf) c.in-Ok.ensures.within in
    let piece : List ℕ = take c.in-Ok.count (c.read.new.buf ++ drop c.min-room.result c.pieces.buf) in
    let taken = subst (λ (t : List ℕ). TakesOff (g.S.Source.left c.pieces.source) (g.S.Source.left c.read.new.self) t) (sym same) c.in-Ok.ensures.next in
    let heard = subst (λ (a : Fed). Answers piece (means c.pieces.ear piece) a) c.in-Whole.is c.in_ok-feed.ensures.answers in
    let within : length piece ≤ c.wants.result = omega (arith, ap length same, length-take c.in-Ok.count c.read.new.buf, c.in-Ok.ensures.within, c.min-room.ensures, length-take c.min-room.result c.pieces.buf) in
    let all = all_used (means c.pieces.ear) piece c.wants.result c.in-Whole.field-1 c.in-Whole.message (λ rest e. c.wants.ensures.least piece rest c.in-Whole.message c.are_bytes.ensures e) within heard.1 in
    more_read (means c.args.ear.now) (means c.pieces.ear) _ _ _ c.pieces.at piece (Finished c.in-Whole.message []) c.pieces.invariant.so_far taken all

pub returns-in_err-feed-clause-read : goal.returns-in_err-feed-clause-read
returns-in_err-feed-clause-read g c =
    read_on (means c.args.ear.now) (means c.pieces.ear) _ _ _ c.pieces.at (take c.in-Ok.count c.read.new.buf) c.pieces.invariant.so_far c.in-Ok.ensures.next

pub returns-in-Whole-clause-read : goal.returns-in-Whole-clause-read
returns-in-Whole-clause-read g c =
    read_on (means c.args.ear.now) (means c.pieces.ear) _ _ _ c.pieces.at (take c.in-Ok.count c.read.new.buf) c.pieces.invariant.so_far c.in-Ok.ensures.next

pub returns-in-Refused-clause-read : goal.returns-in-Refused-clause-read
returns-in-Refused-clause-read g c =
    read_on (means c.args.ear.now) (means c.pieces.ear) _ _ _ c.pieces.at (take c.in-Ok.count c.read.new.buf) c.pieces.invariant.so_far c.in-Ok.ensures.next
