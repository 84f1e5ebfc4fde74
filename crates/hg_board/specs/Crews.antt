-- What workers do with a seat: publish what a share of the witnesses decides
use Rattle.std.specs.Prelude.{◌≡◌, ℕ, Bool, List, ◌++◌, take, sum_by, Option, Some, None, slice_get}
use Rattle.std.specs.List.{AllByRecursion}
use Rattle.hg_model.specs.Shares.{Share, share_fame}
use Rattle.hg_model.specs.Fame.{mark_at}
use Rattle.hg_life.specs.History.{Change}
use Rattle.hg_life.specs.History.Change.{Took, Made, Marked}
use Rattle.hg_life.specs.NodeView.{NodeView, node_rows, node_links, node_marks}
use Rattle.hg_life.specs.Calls.{publish_answer}
use Rattle.hg_board.specs.Table.{node_at}
use Rattle.hg_board.specs.Seats.{SharedNode, SeatView}

-- the changes at these positions are publications of the share
abbrev pub AreMarks : Share → List Change → List ℕ → Type 0
AreMarks share h positions = AllByRecursion (λ q. (len : ℕ) × (slice_get h q ≡ Some (Marked len share))) positions

-- its calls added publications of the share alone
pub record OnlyMarks {V : Type 0} (share : Share) (old new : SeatView V) : Type 0 where
  pub more : List ℕ
  pub mine : new.mine ≡ old.mine ++ more
  pub marks : AreMarks share new.seen more

-- how many witnesses the node marks by a change
abbrev pub marked_by : {V : Type 0} → NodeView V → Option Change → ℕ
marked_by node None = 0
marked_by node (Some (Took row)) = 0
marked_by node (Some (Made row)) = 0
marked_by node (Some (Marked len share)) = publish_answer node len share

module _ {V : Type 0} (p : SharedNode V) where
  -- how many witnesses the changes at these positions marked
  abbrev pub marked_at : List Change → List ℕ → ℕ
  marked_at h positions = sum_by (λ q. marked_by (node_at p.start (take q h)) (slice_get h q)) positions

  -- and these marked so many witnesses
  pub record MarksOf (share : Share) (old new : SeatView V) (count : ℕ) : Type 0 where
    pub more : List ℕ
    pub mine : new.mine ≡ old.mine ++ more
    pub marks : AreMarks share new.seen more
    pub counted : count ≡ marked_at new.seen more

  -- each witness of the share that the graph of the old history decides has its mark in the new one
  abbrev pub MarksAll : Share → SeatView V → SeatView V → Type 0
  MarksAll share old new =
      let v = node_at p.start old.seen in
      (x : ℕ) (famous : Bool) → share_fame v.start.members v.start.coin (node_rows v) (node_links v) share x ≡ Some famous →
      mark_at (node_marks (node_at p.start new.seen)) x ≡ Some famous
