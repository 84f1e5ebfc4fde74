use Rattle.std.proofs.Common.{rules}
use Rattle.hg_io.specs.FileView.{with_piece}
use Rattle.hg_io.proofs.Going.{goes_on, told_after, weaker}
use Rattle.hg_journal.proofs.Fresh.{head_written, torn_head, torn_open}
use Rattle.hg_journal.proofs.making.write_head.Goals as goal

pub returns-in_err-put_down-2-clause-now : goal.returns-in_err-put_down-2-clause-now
returns-in_err-put_down-2-clause-now g c bytes told left may =
    let piece = c.closed_head-piece.result in
    let two = told_after (with_piece 1 piece) _ _ bytes c.in_ok-put_down.ensures.written told in
    torn_open c.args.head.now (search rules) _ left (head_written c.args.head.now (search rules) piece c.closed_head-piece.ensures bytes (c.requires.begun bytes told)) (c.put_down-2.ensures.torn _ two left may)

pub returns-in_err-put_down-2-clause-leaves : goal.returns-in_err-put_down-2-clause-leaves
returns-in_err-put_down-2-clause-leaves g c bytes told =
    let piece = c.closed_head-piece.result in
    let two = told_after (with_piece 1 piece) _ _ bytes c.in_ok-put_down.ensures.written told in
    goes_on (weaker (c.put_down.ensures.leaves bytes told) (λ left. torn_head c.args.head.now (search rules) piece c.closed_head-piece.ensures bytes left (c.requires.begun bytes told)))
    (weaker (c.put_down-2.ensures.leaves _ two) (λ left. torn_open c.args.head.now (search rules) _ left (head_written c.args.head.now (search rules) piece c.closed_head-piece.ensures bytes (c.requires.begun bytes told))))

pub returns-clause-now : goal.returns-clause-now
returns-clause-now g c bytes told left may =
    let piece = c.closed_head-piece.result in
    let two = told_after (with_piece 1 piece) _ _ bytes c.in_ok-put_down.ensures.written told in
    torn_open c.args.head.now (search rules) _ left (head_written c.args.head.now (search rules) piece c.closed_head-piece.ensures bytes (c.requires.begun bytes told)) (c.put_down-2.ensures.torn _ two left may)

pub returns-clause-leaves : goal.returns-clause-leaves
returns-clause-leaves g c bytes told =
    let piece = c.closed_head-piece.result in
    let two = told_after (with_piece 1 piece) _ _ bytes c.in_ok-put_down.ensures.written told in
    goes_on (weaker (c.put_down.ensures.leaves bytes told) (λ left. torn_head c.args.head.now (search rules) piece c.closed_head-piece.ensures bytes left (c.requires.begun bytes told)))
    (weaker (c.put_down-2.ensures.leaves _ two) (λ left. torn_open c.args.head.now (search rules) _ left (head_written c.args.head.now (search rules) piece c.closed_head-piece.ensures bytes (c.requires.begun bytes told))))
