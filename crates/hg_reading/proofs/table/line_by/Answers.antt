use Rattle.hg_reading.proofs.table.line_by.Goals as goal

pub returns-in_ok-pull-in-Pull-len2-clause-lawful : goal.returns-in_ok-pull-in-Pull-len2-clause-lawful
returns-in_ok-pull-in-Pull-len2-clause-lawful c = c.in_ok-pull-in-Pull-len2.ensures.lawful c.args.above.now

pub returns-in_ok-alter-in-Alter-len4-clause-lawful : goal.returns-in_ok-alter-in-Alter-len4-clause-lawful
returns-in_ok-alter-in-Alter-len4-clause-lawful c = c.in_ok-alter-in-Alter-len4.ensures.lawful c.args.members.now

pub returns-in_ok-cut-in-Cut-len3-clause-lawful : goal.returns-in_ok-cut-in-Cut-len3-clause-lawful
returns-in_ok-cut-in-Cut-len3-clause-lawful c = c.in_ok-cut-in-Cut-len3.ensures.lawful c.args.members.now

pub returns-in_ok-freeze-in-Freeze-len2-clause-lawful : goal.returns-in_ok-freeze-in-Freeze-len2-clause-lawful
returns-in_ok-freeze-in-Freeze-len2-clause-lawful c = c.in_ok-freeze-in-Freeze-len2.ensures.lawful c.args.above.now

pub returns-in_ok-publish-in-Publish-len2-clause-lawful : goal.returns-in_ok-publish-in-Publish-len2-clause-lawful
returns-in_ok-publish-in-Publish-len2-clause-lawful c = c.in_ok-publish-in-Publish-len2.ensures.lawful c.args.above.now

pub returns-in_ok-show_kept-in-Kept-len1-clause-lawful : goal.returns-in_ok-show_kept-in-Kept-len1-clause-lawful
returns-in_ok-show_kept-in-Kept-len1-clause-lawful c = c.in_ok-show_kept-in-Kept-len1.ensures.lawful c.args.above.now

pub returns-in_ok-show-in-Show-len1-clause-lawful : goal.returns-in_ok-show-in-Show-len1-clause-lawful
returns-in_ok-show-in-Show-len1-clause-lawful c = c.in_ok-show-in-Show-len1.ensures.lawful c.args.above.now

pub returns-in_ok-names-in-Names-len1-clause-lawful : goal.returns-in_ok-names-in-Names-len1-clause-lawful
returns-in_ok-names-in-Names-len1-clause-lawful c = c.in_ok-names-in-Names-len1.ensures.lawful c.args.above.now
