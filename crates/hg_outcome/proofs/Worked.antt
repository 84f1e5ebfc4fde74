-- Worked examples, computed: a node's block, and the report's text
use Rattle.std.proofs.Common.{◌≡◌, ℕ, true, List, [], ◌∷◌, ◌++◌, codes, refl}
use Rattle.std.specs.Fmt.{digits}
use Rattle.hg_life.specs.declared.answers.MakeAnswer.TheVariants as make_answer
use Rattle.hg_life.specs.declared.answers.SyncMade.TheVariants as sync_made
use Rattle.hg_outcome.specs.declared.outcome.OrderLine.{OrderLine}
use Rattle.hg_outcome.specs.declared.outcome.Printed.TheVariants as printed
use Rattle.hg_life.specs.declared.members.MemberEntry.{MemberEntry}
use Rattle.hg_life.specs.declared.pay.Effect.TheVariants as effect
use Rattle.hg_model.specs.Places.{weight_below, some_below, list_below, least_below, greatest_below, maximum_below, values_below, by_place, reaches}
use Rattle.hg_model.specs.Stakes.{total}
use Rattle.hg_model.specs.Links.{links, parents, self_parent, creator}
use Rattle.hg_model.specs.Ancestry.{is_ancestor, is_self_ancestor}
use Rattle.hg_model.specs.Forks.{is_fork, has_fork_below, has_fork, forkers}
use Rattle.hg_model.specs.Seeing.{sees, sees_through, strongly_sees}
use Rattle.hg_model.specs.Graph.{name_at}
use Rattle.hg_model.specs.Rounds.{round_of, is_witness, last_round}
use Rattle.hg_model.specs.Votes.{vote_of, decides}
use Rattle.hg_model.specs.Fame.{fame_of, fame_marks, is_closed, is_unique_famous}
use Rattle.hg_model.specs.Order.{coin_at, sig_at, time_at, sort_by, median, can_receive, round_received, consensus_time, whitening, ordered_in, last_closed, sequence_of}
use Rattle.hg_life.specs.Pay.{book_of}
use Rattle.hg_life.specs.Members.{listed}
use Rattle.hg_outcome.specs.Ledger.{block_of, marked_block}
use Rattle.hg_outcome.specs.Report.{printed_texts}
use Rattle.hg_model.proofs.Worked.{two_members}

abbrev pub entry : List ℕ → ℕ → MemberEntry
entry name balance = record { name = name; secret = 1 ∷ []; balance = balance; stake = 1; has_node = true }

abbrev pub two_line : ℕ → ℕ → ℕ → OrderLine
two_line creator sequence time =
    record { creator = creator; sequence = sequence; received = 2; time = time; effect = effect.Empty; name = time ∷ [] }

-- the second member's block
two_block : block_of (listed (entry (codes "A") 5 ∷ entry (codes "B") 6 ∷ []) 10) 1 two_members ≡ record {
  member = 1;
  events = 8;
  forkers = 0;
  greatest = 4;
  closed = 2;
  order = two_line 0 0 1 ∷ two_line 1 0 2 ∷ two_line 0 1 3 ∷ two_line 1 1 4 ∷ [];
  balances = 5 ∷ 6 ∷ [];
}
unfolding marked_block last_closed greatest_below last_round maximum_below sequence_of forkers has_fork book_of fame_marks fame_of least_below decides vote_of is_witness coin_at sig_at ordered_in whitening consensus_time median sort_by round_received can_receive is_closed is_unique_famous round_of strongly_sees sees_through sees has_fork_below is_fork is_ancestor is_self_ancestor total weight_below some_below list_below reaches by_place values_below parents self_parent creator links time_at name_at
two_block = refl

-- a first event, a sync with a peer without events, a node's block
texts : printed_texts (codes "A" ∷ codes "B" ∷ [])
    (printed.Create 1 (make_answer.Made 0)
    ∷ printed.Sync 12 (record { taken = 3; refused = 0; made = sync_made.PeerBare })
    ∷ printed.Block (record {
      member = 1;
      events = 8;
      forkers = 0;
      greatest = 4;
      closed = 2;
      order =
          record { creator = 0; sequence = 1; received = 2; time = 3; effect = effect.Empty; name = 171 ∷ 1 ∷ [] }
          ∷ record { creator = 1; sequence = 0; received = 2; time = 4; effect = effect.Unread; name = 171 ∷ 2 ∷ [] }
          ∷ record { creator = 1; sequence = 1; received = 2; time = 5; effect = effect.Paid 1 2; name = 171 ∷ 3 ∷ [] } ∷ [];
      balances = 100 ∷ 0 ∷ [];
    }) ∷ [])
    ≡ codes "1 create made 0" ++ 10 ∷ (codes "12 sync taken 3 refused 0 made none peer-bare" ++ 10 ∷ (
    codes "node B events 8 forkers 0 round 4 closed 2 ordered 3" ++ 10 ∷ (codes "1 A 1 round 2 time 3 -" ++ 10 ∷ (
    codes "2 B 0 round 2 time 4 unread" ++ 10 ∷ (codes "3 B 1 round 2 time 5 paid 1 of 2" ++ 10 ∷ (
    codes "balance A 100" ++ 10 ∷ (codes "balance B 0" ++ 10 ∷ [])))))))
unfolding digits
texts = refl
