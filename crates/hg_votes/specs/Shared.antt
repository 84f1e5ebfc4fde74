-- Voters that are shared, and how rows are entered in them
use Rattle.std.specs.Prelude.{◌≡◌, length, vec_len, Bool, true, false, Result, Ok, Err}
use Rattle.std.specs.Global.{Vec}
use Rattle.std.specs.Arc.{arc_value}
use Rattle.hg_model.specs.declared.ballot.Ballot.{Ballot}
use Rattle.hg_model.specs.Prefix.{Graph}
use Rattle.hg_votes.specs.declared.holding.Holding.{Holding}
use Rattle.hg_votes.specs.declared.holding.Holding.TheVariants.{Own, Shared}
use Rattle.hg_votes.specs.Counting.{Entered, HoldsVoters}

-- the voters that are held
abbrev pub voters_in : Holding → Entered
voters_in (Own voters) = voters
voters_in (Shared voters) = arc_value voters

-- all rows of the graph are entered, and there is a ballot for each witness
pub record HasEntered (g : Graph) (new : Entered) (more : Vec Ballot) : Type 0 where
  pub voters : HoldsVoters g (length g.rows) new
  pub ballots : vec_len more ≡ length new.sets

-- nothing has changed
pub record AreLeft (old : Entered) (some : Vec Ballot) (new : Entered) (more : Vec Ballot) : Type 0 where
  pub voters : new ≡ old
  pub ballots : more.items ≡ some.items

-- the rows are entered where that is answered; otherwise, and after an error, nothing has changed
abbrev pub EntersOrLeaves : {E : Type 0} → Graph → Entered → Vec Ballot → Entered → Vec Ballot → Result Bool E → Type 0
EntersOrLeaves g old some new more (Ok true) = HasEntered g new more
EntersOrLeaves g old some new more (Ok false) = AreLeft old some new more
EntersOrLeaves g old some new more (Err e) = AreLeft old some new more
