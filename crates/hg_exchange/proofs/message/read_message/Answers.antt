use Rattle.std.proofs.Common.{◌∙◌, sym, subst, arith, drop}
use Rattle.hg_wire.specs.declared.message.Fed.{Fed}
use Rattle.hg_wire.specs.Ears.{Answers, means}
use Rattle.hg_exchange.proofs.MessageLaws.{ends_early, fits, is_whole, is_wrong, trails}
use Rattle.hg_exchange.proofs.message.read_message.Goals as goal

pub returns-in-More-clause-exact : goal.returns-in-More-clause-exact
returns-in-More-clause-exact c =
    let bytes = c.args.bytes.now in
    let ear = c.new-ear.result in
    let heard = subst (λ (a : Fed). Answers bytes (means ear bytes) a) c.in-More.is c.in_ok-feed.ensures.answers in
    ends_early c.args.want bytes (sym (c.new-ear.ensures.heard bytes) ∙ heard)

pub returns-then-used-bytes-clause-exact : goal.returns-then-used-bytes-clause-exact
returns-then-used-bytes-clause-exact c =
    let bytes = c.args.bytes.now in
    let ear = c.new-ear.result in
    let heard = subst (λ (a : Fed). Answers bytes (means ear bytes) a) c.in-Whole.is c.in_ok-feed.ensures.answers in
    trails c.args.want bytes c.in-Whole.message c.in-Whole.used c.if-used-bytes.true (sym (c.new-ear.ensures.heard bytes) ∙ heard.1)

pub returns-in-Whole-clause-exact : goal.returns-in-Whole-clause-exact
returns-in-Whole-clause-exact c =
    let bytes = c.args.bytes.now in
    let ear = c.new-ear.result in
    let heard = subst (λ (a : Fed). Answers bytes (means ear bytes) a) c.in-Whole.is c.in_ok-feed.ensures.answers in
    is_whole c.args.want bytes c.in-Whole.message c.in-Whole.used c.if-used-bytes.false (sym (c.new-ear.ensures.heard bytes) ∙ heard.1)

pub returns-in-Whole-clause-fits : goal.returns-in-Whole-clause-fits
returns-in-Whole-clause-fits c =
    let bytes = c.args.bytes.now in
    let ear = c.new-ear.result in
    let heard = subst (λ (a : Fed). Answers bytes (means ear bytes) a) c.in-Whole.is c.in_ok-feed.ensures.answers in
    fits c.args.want bytes c.in-Whole.message (drop c.in-Whole.used bytes) c.messages.ensures.found (λ i. omega (arith, c.type_inv.bytes i))
    (sym (c.new-ear.ensures.heard bytes) ∙ heard.1)

pub returns-clause-exact : goal.returns-clause-exact
returns-clause-exact c =
    let bytes = c.args.bytes.now in
    let ear = c.new-ear.result in
    let heard = subst (λ (a : Fed). Answers bytes (means ear bytes) a) c.in-Refused.is c.in_ok-feed.ensures.answers in
    is_wrong c.args.want bytes c.in-Refused.fault (sym (c.new-ear.ensures.heard bytes) ∙ heard)
