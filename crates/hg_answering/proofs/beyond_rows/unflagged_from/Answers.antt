use Rattle.std.proofs.Common.{◌+◌, ◌<◌, ◌∙◌, ◌++◌, ◌∷◌, [], ap, arith, length, List, ℕ, sym, subst}
use Rattle.std.specs.Global.{Vec}
use Rattle.hg_node.specs.Beyond.{bytes_at}
use Rattle.hg_node.proofs.FlagLaws.{bytes_read}
use Rattle.hg_answering.specs.Beyond.{BeginWith, beyond_before}
use Rattle.hg_answering.proofs.BeyondLaws.{none_before, none_begin, one_fails, one_kept, one_over, one_passes, told}
use Rattle.hg_answering.proofs.beyond_rows.unflagged_from.Goals.{then-not-flags-x, then-all-limit+in_ok-copied+in_ok-push, else-all-limit, else-not-flags-x}
use Rattle.hg_answering.proofs.beyond_rows.unflagged_from.Goals as goal

pub loop-x-init : goal.loop-x-init
loop-x-init c = (
  omega arith,
  subst (λ (xs : List (List ℕ)). BeginWith c.args.limit (beyond_before c.args.graph.now.graph.rows c.args.flags.now c.args.start c.args.start) 0 xs) (sym c.new-events.ensures.items)
      (none_begin c.args.limit (beyond_before c.args.graph.now.graph.rows c.args.flags.now c.args.start c.args.start) (none_before c.args.graph.now.graph.rows c.args.flags.now c.args.start)),
)

pub loop-x-preserved : goal.loop-x-preserved
loop-x-preserved c =
    let G = c.args.graph.now.graph.rows in
    let flags = c.args.flags.now in
    let start = c.args.start in
    let limit = c.args.limit in
    let x = c.loop-x.x in
    let begin = c.loop-x.invariant.1 in
    let few = c.loop-x.invariant.0 in
    let inside : x < length G = omega (arith, c.loop-x-test.true, c.len-x-end.ensures.value) in
    elim c.if-not-flags-x.branch [
      | then-not-flags-x w ↦ elim w.if-all-limit.branch [
        | then-all-limit+in_ok-copied+in_ok-push w' ↦ (
            let same = w.events-is ∙ w'.events-is in
            let bytes = w'.in_ok-copied.ensures ∙ bytes_read G x w'.bytes.result.now inside w'.bytes.ensures in
            let more = one_kept limit (beyond_before G flags start x) c.loop-x.all c.loop-x.events.items begin (beyond_before G flags start (x + 1)) (bytes_at G x) w'.push.new.self.items
            w'.if-all-limit.true (one_passes G flags start x c.loop-x.auto.x w.if-not-flags-x.true)
            (w'.in_ok-push.ensures.items ∙ ap (λ (b : List ℕ). c.loop-x.events.items ++ b ∷ []) bytes) in (
              omega (arith, few, w.all-is),
              told limit (beyond_before G flags start (x + 1)) w.all-is (ap (λ (v : Vec (List ℕ)). v.items) same) more,
            ))
        | else-all-limit w' ↦ (
            let same = w.events-is ∙ w'.events-is in (
              omega (arith, few, w.all-is),
              told limit (beyond_before G flags start (x + 1)) w.all-is (ap (λ (v : Vec (List ℕ)). v.items) same)
                  (one_over limit (beyond_before G flags start x) c.loop-x.all c.loop-x.events.items begin (beyond_before G flags start (x + 1)) (bytes_at G x)
                  w'.if-all-limit.false (one_passes G flags start x c.loop-x.auto.x w.if-not-flags-x.true)),
            ))
      ]
      | else-not-flags-x w ↦ ((
        omega (arith, few, w.all-is),
        told limit (beyond_before G flags start (x + 1)) w.all-is (ap (λ (v : Vec (List ℕ)). v.items) w.events-is)
            (subst (λ (xs : List (List ℕ)). BeginWith limit xs c.loop-x.all c.loop-x.events.items) (sym (one_fails G flags start x w.if-not-flags-x.false)) begin),
      ))
    ]
