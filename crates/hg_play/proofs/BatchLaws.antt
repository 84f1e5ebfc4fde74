-- Nodes of a world that were shared, and are a world again
use Rattle.std.proofs.Common.{◌≡◌, inl, inr, ℕ, zero, suc, ◌+◌, ◌<◌, ◌≤◌, List, [], length, take, drop, map, get_or, replicate, sym, refl, ap, ap₂, ◌∙◌, subst, arith}
use Rattle.std.specs.Prelude.{All}
use Rattle.std.proofs.Math.Seq.{take-add}
use Rattle.std.proofs.lemmas.Bool.{cases_lt, true≢false}
use Rattle.std.proofs.lemmas.List.Sums.{fold-append, fold_more}
use Rattle.std.proofs.lemmas.List.{ext_get_or, get_or-drop, get_or-map, get_or_past, length-map, take_all}
use Rattle.hg_outcome.specs.declared.outcome.Printed.{Printed}
use Rattle.hg_model.specs.declared.row.Row.{Row}
use Rattle.hg_life.specs.Members.{MemberList}
use Rattle.hg_model.specs.Shares.{whole}
use Rattle.hg_life.specs.Signing.{accepts_by}
use Rattle.hg_gossip.specs.Handing.{HeardView}
use Rattle.hg_gossip.specs.Known.{KeepsKnown}
use Rattle.hg_life.specs.NodeView.{NodeView, Start, node_rows}
use Rattle.hg_script.specs.declared.line.Part.{Part}
use Rattle.hg_script.specs.declared.line.Action.TheVariants as action
use Rattle.hg_script.specs.declared.line.Line.{Line}
use Rattle.hg_world.specs.World.{Secrets, Site, WorldView, no_site, node_at, nodes_of, new_world, site_of}
use Rattle.hg_life.specs.Workers.{worker_limit}
use Rattle.hg_world.specs.Parts.{AreOfOneList, no_node, nth_node, rows_of_each, unfrozen}
use Rattle.hg_board.specs.Table.{all_parts}
use Rattle.hg_board.specs.Seats.{SharedNode, SeatView}
use Rattle.hg_board.specs.Calls.{after_split, split_off}
use Rattle.hg_crowd.specs.Crowd.{AreSeats, AreStill, Each}
use Rattle.hg_crowd.specs.Workers.{AllAbsorb, AllMark, AreStarted, AreWhole, HasAll, HasAllMarks, HasMore, Worked}
use Rattle.hg_crowd.specs.Laws.{AreEnded, CallsBeside, IsSession}
use Rattle.hg_crowd.proofs.CrowdLaws.{all_back, all_started, all_worked, more_after_split, seats_started, split_off_all}
use Rattle.hg_crowd.proofs.EndLaws.{sessions_end, sessions_mark}
use Rattle.hg_crowd.proofs.ListLaws.{some_of}
use Rattle.hg_crowd.specs.Party.{PartyView, party_view}
use Rattle.hg_play.specs.Alike.{AreAlike, WorldsAlike}
use Rattle.hg_play.specs.Batch.{AllAreMarked, IsBatch, IsPlayed, PlaysBeside, PlaysNext, MatchesBatch, is_part}
use Rattle.hg_play.specs.Nodes.{MatchesLine, MatchesLines, seen_alone}
use Rattle.hg_play.specs.Play.{Stage, after_line, after_lines, end_steps, first_stage, play_steps, played_world, stage}
use Rattle.hg_play.proofs.HeardLaws.{node_by, nodes_length, rows_length, rows_nth}
use Rattle.hg_play.proofs.LikeLaws.{line_like, worlds_alike}
use Rattle.hg_play.proofs.WorldLaws.{made_in, play-steps, start_read, starts-new, starts-steps}
use Rattle.hg_play.specs.Heard.{KeepsNodes, nodes_by, rows_seen}
use Rattle.hg_play.specs.Lines.{IsLineBelow}
use Rattle.hg_world.specs.Steps.{after_steps}
use Rattle.hg_play.specs.Sites.{AreMadeWith, BeganWith, starts, starts_of}
use Rattle.hg_play.specs.Tape.{TapeView, no_tape}
use Rattle.hg_play.specs.Through.{AllOthersMark, AreNodes, AreSeen, IsOfRows, IsStageLike, IsStageOf, MatchesThrough, begun, node_seen}

-- the node of a place that was started with it is the node
same_node : (p : SharedNode Secrets) (s : SeatView Secrets) (v : NodeView Secrets) → p.start ≡ v → s.seen ≡ v.history → node_seen p s ≡ v
same_node p s v start seen = λ i. record { start = (start i).start; history = seen i }

-- the nodes of a world, by place
node_of : (w : WorldView) (m : ℕ) (d : NodeView Secrets) → m < length w.sites → get_or (nodes_of w) m d ≡ node_at w m
node_of w m d low = get_or-map (λ (site : Site). site.node) w.sites m no_site d low

-- the seats that were split off have seen the nodes with which the places were started
pub seen_first : (world w : WorldView) (nodes : List (NodeView Secrets)) (places : List (SharedNode Secrets)) (firsts : List (SeatView Secrets)) → nodes ≡ nodes_of world →
    AreStarted accepts_by nodes places firsts → WorldsAlike world w → AreSeen places (map split_off firsts) w
seen_first world w nodes places firsts is started alike =
    let long : length nodes ≡ length world.sites = ap length is ∙ length-map world.sites (λ (site : Site). site.node) in
    let split : length (map split_off firsts) ≡ length firsts = length-map firsts split_off in
    record {
      count = omega (arith, alike.count, long, split, started.seats_count);
      nodes = λ m p s low.
          let there : m < length firsts = omega (arith, low, split) in
          let inside : m < length nodes = omega (arith, there, started.seats_count) in
          let here : m < length world.sites = omega (arith, inside, long) in
          let v : NodeView Secrets = node_at world m in
          let first = started.each m v p s inside in
          let node : get_or nodes m v ≡ v = ap (λ (ns : List (NodeView Secrets)). get_or ns m v) is ∙ node_of world m v here in
          let seat : get_or (map split_off firsts) m s ≡ split_off (get_or firsts m s) = get_or-map split_off firsts m s s there in
          let same : node_seen (get_or places m p) (get_or (map split_off firsts) m s) ≡ v =
          same_node (get_or places m p) (get_or (map split_off firsts) m s) v (first.start ∙ node) (ap (λ (t : SeatView Secrets). t.seen) seat ∙ (first.seen ∙ ap (λ (u : NodeView Secrets). u.history) node)) in
          let other = alike.nodes m in
          subst (AreAlike (node_at w m)) (sym same) (record { start = sym other.start; rows = sym other.rows });
    }

-- nodes that ended so are alike with those that their seats have seen
module _ (new w : WorldView) (places : List (SharedNode Secrets)) (called : List (SeatView Secrets)) (ends : List (NodeView Secrets)) (is : new.sites ≡ unfrozen ends)
    (ended : AreEnded places called ends) (seen : AreSeen places called w) where
  long_new : length new.sites ≡ length ends
  long_new = ap length is ∙ length-map ends (λ (v : NodeView Secrets). site_of v (replicate worker_limit 0))

  node_new : (m : ℕ) → m < length ends → node_at new m ≡ nth_node ends m
  node_new m low =
      ap (λ (sites : List Site). (get_or sites m no_site).node) is
      ∙ ap (λ (s : Site). s.node) (get_or-map (λ (v : NodeView Secrets). site_of v (replicate worker_limit 0)) ends m no_node no_site low)

  ended_node : (m : ℕ) → m < length ends → AreAlike (node_at new m) (node_at w m)
  ended_node m low =
      let p : SharedNode Secrets = some_of places m (omega (arith, low, ended.shared_count)) in
      let s : SeatView Secrets = some_of called m (omega (arith, low, ended.called_count)) in
      let end = ended.each m p s no_node low in
      let other = seen.nodes m p s (omega (arith, low, ended.called_count)) in
      subst (λ (v : NodeView Secrets). AreAlike v (node_at w m)) (sym (node_new m low)) (record { start = end.start ∙ sym other.start; rows = end.rows ∙ sym other.rows })

  pub ended_alike : WorldsAlike new w
  ended_alike = record {
    count = omega (arith, long_new, seen.count, ended.called_count);
    nodes = λ m. elim (cases_lt m (length ends)) [
      | inl low ↦ ended_node m low
      | inr past ↦
          let first : node_at new m ≡ no_site.node = ap (λ (s : Site). s.node) (get_or_past new.sites m no_site (omega (arith, past, long_new))) in
          let second : node_at w m ≡ no_site.node = ap (λ (s : Site). s.node) (get_or_past w.sites m no_site (omega (arith, past, seen.count, ended.called_count))) in
          rw (first, second) record { start = refl; rows = refl }
    ];
  }

-- nodes that began as those of one list did
same_start : (nodes ends : List (NodeView Secrets)) → length ends ≡ length nodes → ((m : ℕ) → m < length ends → (nth_node ends m).start ≡ (nth_node nodes m).start) → AreOfOneList nodes → AreOfOneList ends
same_start nodes ends long starts of =
    let each = of.3 in (
      of.0,
      of.1,
      of.2,
      record {
        some = omega (arith, each.some, long);
        count = long ∙ each.count;
        each = λ m low.
            let was = each.each m (omega (arith, low, long)) in
            let same = starts m low in
            record {
              own = ap (λ (s : Start Secrets). s.own) same ∙ was.own;
              members = ap (λ (s : Start Secrets). s.members) same ∙ was.members;
              coin = ap (λ (s : Start Secrets). s.coin) same ∙ was.coin;
              keyed = ap (λ (s : Start Secrets). s.keys) same ∙ was.keyed;
            };
      },
    )

pub ends_of_one_list : (nodes : List (NodeView Secrets)) (places : List (SharedNode Secrets)) (called : List (SeatView Secrets)) (ends : List (NodeView Secrets)) →
    IsSession accepts_by nodes places called ends → AreOfOneList nodes → AreOfOneList ends
ends_of_one_list nodes places called ends run of =
    let ended = sessions_end Secrets accepts_by nodes places called ends run in
    let started = run.started in
    let long : length ends ≡ length nodes = omega (arith, ended.shared_count, started.shared_count) in
    same_start nodes ends long (λ m low.
    let p : SharedNode Secrets = some_of places m (omega (arith, low, ended.shared_count)) in
    let s : SeatView Secrets = some_of called m (omega (arith, low, ended.called_count)) in
    (ended.each m p s no_node low).start ∙ ap (λ (v : NodeView Secrets). v.start) (started.each m no_node p s (omega (arith, low, long))).start) of

-- what comes of a batch
pub batch_told : (members : MemberList) (lines : List Line) (world new : WorldView) (nodes : List (NodeView Secrets)) (places : List (SharedNode Secrets)) (called : List (SeatView Secrets)) (ends : List (NodeView Secrets))
    (t t_new : TapeView) → nodes ≡ nodes_of world → (run : IsSession accepts_by nodes places called ends) → new.sites ≡ unfrozen ends →
    MatchesThrough members lines places (map split_off run.firsts) t called t_new → MatchesBatch members lines world t new t_new
batch_told members lines world new nodes places called ends t t_new is run sites told = λ s at.
    let ended = sessions_end Secrets accepts_by nodes places called ends run in
    let alone : AllOthersMark places called = record {
      count = omega (arith, ended.shared_count, ended.called_count);
      each = λ m p seat low. (ended.each m p seat no_node (omega (arith, low, ended.shared_count))).others;
    } in
    let here : IsStageOf members places (map split_off run.firsts) t s = record {
      agrees = seen_first world s.world nodes places run.firsts is run.started at.agrees;
      begun = at.begun;
      taped = at.taped;
    } in
    let after = told alone s here in
    record {
      agrees = ended_alike new (after_lines members s lines).world places called ends sites ended after.agrees;
      begun = after.begun;
      taped = after.taped;
    }

pub batch_count : (world new : WorldView) (nodes : List (NodeView Secrets)) (places : List (SharedNode Secrets)) (called : List (SeatView Secrets)) (ends : List (NodeView Secrets)) → nodes ≡ nodes_of world →
    IsSession accepts_by nodes places called ends → new.sites ≡ unfrozen ends → length new.sites ≡ length world.sites
batch_count world new nodes places called ends is run sites =
    let ended = sessions_end Secrets accepts_by nodes places called ends run in
    let long : length nodes ≡ length world.sites = ap length is ∙ length-map world.sites (λ (site : Site). site.node) in
    let last : length new.sites ≡ length ends = ap length sites ∙ length-map ends (λ (v : NodeView Secrets). site_of v (replicate worker_limit 0)) in
    omega (arith, last, long, ended.shared_count, run.started.shared_count)

-- batches, one after the other, up to a line
pub record InBatches (members : MemberList) (lines : List Line) (first now : WorldView) (t : TapeView) (next : ℕ) : Type 0 where
  pub within : next ≤ length lines
  pub count : length now.sites ≡ length first.sites
  pub stage : IsStageLike members now t (after_lines members (first_stage members) (take next lines))

pub in_none : (members : MemberList) (lines : List Line) (first : WorldView) (t : TapeView) → first ≡ new_world members → t ≡ no_tape → InBatches members lines first first t 0
in_none members lines first t is none = record {
  within = omega arith;
  count = refl;
  stage = record {
    agrees = subst (λ (w : WorldView). WorldsAlike first w) is (worlds_alike first);
    begun = starts-new members;
    taped = none;
  };
}

pub in_next : (members : MemberList) (lines : List Line) (first now new : WorldView) (t t_new : TapeView) (next to : ℕ) →
    InBatches members lines first now t next → PlaysNext members lines next now t new t_new to → InBatches members lines first new t_new to
in_next members lines first now new t t_new next to so plays = record {
  within = plays.within;
  count = plays.count ∙ so.count;
  stage = plays.told (first_stage members) so.stage;
}

pub in_all : (members : MemberList) (lines : List Line) (first now : WorldView) (t : TapeView) (next : ℕ) → InBatches members lines first now t next → length lines ≤ next → IsPlayed members lines now t.printed
in_all members lines first now t next so past =
    let at = subst (λ (ls : List Line). IsStageLike members now t (after_lines members (first_stage members) ls)) (take_all next lines past) so.stage in
    record { world = at.agrees; pieces = ap (λ (u : TapeView). u.printed) at.taped }

-- the lines played next are those behind the ones before
after_more : (members : MemberList) (s : Stage) (lines : List Line) (from count : ℕ) →
    after_lines members s (take (from + count) lines) ≡ after_lines members (after_lines members s (take from lines)) (take count (drop from lines))
after_more members s lines from count = ap (λ (ls : List Line). after_lines members s ls) (take-add from count lines) ∙ fold-append (after_line members) s (take from lines) (take count (drop from lines))

-- a batch has its first line, if that may stand in one
batch_some : (rest : List Line) (count : ℕ) (d : Line) (p : Part) → IsBatch rest count → 0 < length rest → (get_or rest 0 d).action ≡ action.Part p → 0 < count
batch_some rest zero d p batch some is = absurd (true≢false (sym (ap is_part is) ∙ batch.stops d some (omega arith)))
batch_some rest (suc k) d p batch some is = omega arith

pub plays_batch : (members : MemberList) (lines rest : List Line) (line : Line) (p : Part) (from count : ℕ) (old new : WorldView) (t t_new : TapeView) →
    from < length lines → (get_or lines from line).action ≡ action.Part p → rest ≡ drop from lines → length rest + from ≡ length lines → IsBatch rest count → length new.sites ≡ length old.sites →
    MatchesBatch members (take count rest) old t new t_new → PlaysNext members lines from old t new t_new (from + count)
plays_batch members lines rest line p from count old new t t_new low part is_rest long batch same told =
    let from_here : from + 0 ≡ from = omega arith in
    let first : get_or rest 0 line ≡ get_or lines from line =
    ap (λ (ls : List Line). get_or ls 0 line) is_rest ∙ (get_or-drop from lines 0 line ∙ ap (λ (k : ℕ). get_or lines k line) from_here) in
    let some : 0 < count = batch_some rest count line p batch (omega (arith, low, long)) (ap (λ (l : Line). l.action) first ∙ part) in
    record {
      further = omega (arith, some);
      within = omega (arith, batch.within, long);
      count = same;
      told = λ s at.
          let behind : after_lines members s (take (from + count) lines) ≡ after_lines members (after_lines members s (take from lines)) (take count rest) =
          after_more members s lines from count ∙ ap (λ (ls : List Line). after_lines members (after_lines members s (take from lines)) (take count ls)) (sym is_rest) in
          subst (IsStageLike members new t_new) (sym behind) (told (after_lines members s (take from lines)) at);
    }

pub plays_line : (members : MemberList) (lines : List Line) (line : Line) (from : ℕ) (old new : WorldView) (t t_new : TapeView) → from < length lines → line ≡ get_or lines from line → IsOfRows line.action →
    length new.sites ≡ length old.sites → MatchesLine members line (seen_alone old) t (seen_alone new) t_new → PlaysNext members lines from old t new t_new (from + 1)
plays_line members lines line from old new t t_new low is of same told = record {
  further = omega arith;
  within = omega (arith, low);
  count = same;
  told = λ s at.
      let before = after_lines members s (take from lines) in
      let behind : after_lines members s (take (from + 1) lines) ≡ after_line members before line =
      fold_more (after_line members) s lines from line low ∙ ap (after_line members before) (sym is) in
      subst (IsStageLike members new t_new) (sym behind) (line_like members line old new t t_new of told before at);
}

-- the run that a batch is
abbrev pub the_run : (nodes : List (NodeView Secrets)) (shared places : List (SharedNode Secrets)) (firsts called lasts : List (SeatView Secrets)) (ends : List (NodeView Secrets)) → places ≡ shared →
    AreStarted accepts_by nodes shared firsts → CallsBeside accepts_by places firsts called lasts → AreWhole shared lasts ends → IsSession accepts_by nodes places called ends
the_run nodes shared places firsts called lasts ends same started calls whole = record {
  firsts = firsts;
  lasts = lasts;
  started = subst (λ (l : List (SharedNode Secrets)). AreStarted accepts_by nodes l firsts) (sym same) started;
  calls = calls;
  whole = subst (λ (l : List (SharedNode Secrets)). AreWhole l lasts ends) (sym same) whole;
}

-- seats that have all parts can be split
pub more_of_all : (many : ℕ) (firsts : List (SeatView Secrets)) → many < all_parts → All HasAll firsts → All (HasMore many) firsts
more_of_all many firsts few all = λ k s inside. omega (arith, all k s inside, few)

pub more_beside : (workers : ℕ) (places : List (SharedNode Secrets)) (firsts : List (SeatView Secrets)) (split : PartyView Secrets) → workers + 1 < all_parts → All HasAll firsts → split ≡ party_view places (map after_split firsts) →
    All (HasMore workers) split.seats
more_beside workers places firsts split few all is =
    subst (λ (v : PartyView Secrets). All (HasMore workers) v.seats) (sym is) (more_after_split workers firsts (more_of_all (workers + 1) firsts few all))

-- the seats that were split off can be called
pub own_nodes : (places : List (SharedNode Secrets)) (firsts : List (SeatView Secrets)) (own : PartyView Secrets) (known : List (List HeardView)) → own ≡ party_view places (map split_off firsts) →
    KeepsNodes (party_view places (map split_off firsts)) known → KeepsNodes own known
own_nodes places firsts own known is keeps = subst (λ (v : PartyView Secrets). KeepsNodes v known) (sym is) keeps

pub own_lines : (places : List (SharedNode Secrets)) (firsts : List (SeatView Secrets)) (own : PartyView Secrets) (lines : List Line) → own ≡ party_view places (map split_off firsts) → All (IsLineBelow (length firsts)) lines →
    All (IsLineBelow (length own.seats)) lines
own_lines places firsts own lines is low =
    let long : length own.seats ≡ length firsts = ap (λ (v : PartyView Secrets). length v.seats) is ∙ length-map firsts split_off in
    subst (λ (n : ℕ). All (IsLineBelow n) lines) (sym long) low

-- there is a seat of each
pub first_count : (places : List (SharedNode Secrets)) (firsts : List (SeatView Secrets)) (known : List (List HeardView)) → KeepsNodes (party_view places (map split_off firsts)) known → length firsts ≡ length places
first_count places firsts known keeps = omega (arith, length-map firsts split_off, keeps.nodes.seated.count)

-- workers beside the calls
module _ (places : List (SharedNode Secrets)) (firsts : List (SeatView Secrets)) (split own beside called back : PartyView Secrets) (split_is : split ≡ party_view places (map after_split firsts)) (own_is : own ≡ party_view places (map split_off firsts))
    (beside_same : beside.places ≡ split.places) (worked : Each Worked split.seats beside.seats) (called_same : called.places ≡ own.places) (still : AreStill own.seats called.seats) (absorbed : AllAbsorb accepts_by beside.places beside.seats called.seats back.seats) where
  beside_places : beside.places ≡ places
  beside_places = beside_same ∙ ap (λ (v : PartyView Secrets). v.places) split_is

  called_places : called.places ≡ places
  called_places = called_same ∙ ap (λ (v : PartyView Secrets). v.places) own_is

  worked_from : Each Worked (map after_split firsts) beside.seats
  worked_from = subst (λ (v : PartyView Secrets). Each Worked v.seats beside.seats) split_is worked

  still_from : AreStill (map split_off firsts) called.seats
  still_from = subst (λ (v : PartyView Secrets). AreStill v.seats called.seats) own_is still

  absorbed_there : AllAbsorb accepts_by places beside.seats called.seats back.seats
  absorbed_there = subst (λ (l : List (SharedNode Secrets)). AllAbsorb accepts_by l beside.seats called.seats back.seats) beside_places absorbed

  -- once the seats of the calls are back, there are all parts
  pub all_again : length firsts ≡ length places → All HasAll firsts → All HasAll back.seats
  all_again count all = all_back accepts_by places firsts beside.seats called.seats back.seats count all still_from worked_from absorbed_there

  -- what the calls and the workers left
  pub beside_played : (members : MemberList) (lines : List Line) (t t_new : TapeView) (known : List (List HeardView)) (lasts : PartyView Secrets) (count : ℕ) → back.places ≡ beside.places → lasts.places ≡ back.places →
      Each Worked back.seats lasts.seats → AllMark back.places whole back.seats lasts.seats → KeepsNodes called known → IsBatch lines count → MatchesThrough members (take count lines) own.places own.seats t called.seats t_new →
      PlaysBeside members lines (party_view places firsts) t lasts known t_new count
  beside_played members lines t t_new known lasts count back_same last_same again marked keeps batch told =
      let back_places : back.places ≡ places = back_same ∙ beside_places in
      record {
        places = last_same ∙ back_places;
        batch = batch;
        called = called.seats;
        calls = record {
          beside = beside.seats;
          back = back.seats;
          still = still_from;
          seats = subst (λ (l : List (SharedNode Secrets)). AreSeats accepts_by l called.seats) called_places keeps.nodes.seated;
          worked = worked_from;
          absorbed = absorbed_there;
          again = again;
        };
        marked = subst (λ (l : List (SharedNode Secrets)). AllMark l whole back.seats lasts.seats) back_places marked;
        heard = subst (λ (l : List (SharedNode Secrets)). KeepsKnown (rows_seen (party_view l called.seats)) known) called_places keeps.heard;
        told = subst (λ (v : PartyView Secrets). MatchesThrough members (take count lines) v.places v.seats t called.seats t_new) own_is told;
      }

-- seats that come back are those of the same nodes
pub back_in : (P : List (SharedNode Secrets)) (places : List (SharedNode Secrets)) (beside own back : PartyView Secrets) (seats called : List (SeatView Secrets)) → P ≡ places → beside ≡ party_view P seats → own ≡ party_view P called →
    AllAbsorb accepts_by beside.places beside.seats own.seats back.seats → AllAbsorb accepts_by places seats called back.seats
back_in P places beside own back seats called same beside_is own_is absorbed =
    subst (λ (l : List (SharedNode Secrets)). AllAbsorb accepts_by l seats called back.seats) same
    (subst (λ (v : PartyView Secrets). AllAbsorb accepts_by P seats v.seats back.seats) own_is
    (subst (λ (v : PartyView Secrets). AllAbsorb accepts_by v.places v.seats own.seats back.seats) beside_is absorbed))

-- all parts are there in the end
pub whole_again : (nodes : List (NodeView Secrets)) (shared places : List (SharedNode Secrets)) (firsts called lasts : List (SeatView Secrets)) → places ≡ shared → AreStarted accepts_by nodes shared firsts →
    CallsBeside accepts_by places firsts called lasts → All HasAll lasts
whole_again nodes shared places firsts called lasts same started calls =
    let count : length firsts ≡ length places = omega (arith, ap length same, started.shared_count, started.seats_count) in
    all_worked calls.back lasts calls.again
    (all_back accepts_by places firsts calls.beside called calls.back count (all_started accepts_by nodes shared firsts started) calls.still calls.worked calls.absorbed)

-- what the seats of the calls are
pub seats_own : (nodes : List (NodeView Secrets)) (shared places : List (SharedNode Secrets)) (firsts own : List (SeatView Secrets)) → places ≡ shared →
    AreStarted accepts_by nodes shared firsts → own ≡ map split_off firsts → AreSeats accepts_by places own
seats_own nodes shared places firsts own same started is =
    subst (λ (l : List (SharedNode Secrets)). AreSeats accepts_by l own) (sym same)
    (subst (AreSeats accepts_by shared) (sym is) (split_off_all accepts_by shared firsts (seats_started accepts_by nodes shared firsts started)))

-- they are of one list, as the nodes are with which they were started
pub nodes_own : (nodes : List (NodeView Secrets)) (shared places : List (SharedNode Secrets)) (firsts own : List (SeatView Secrets)) → places ≡ shared →
    AreStarted accepts_by nodes shared firsts → own ≡ map split_off firsts → AreOfOneList nodes → AreNodes places own
nodes_own nodes shared places firsts own same started is of =
    let long : length (begun shared) ≡ length shared = length-map shared (λ (p : SharedNode Secrets). p.start) in
    record {
      seated = seats_own nodes shared places firsts own same started is;
      one_list = subst (λ (l : List (SharedNode Secrets)). AreOfOneList (begun l)) (sym same)
          (same_start nodes (begun shared) (long ∙ started.shared_count) (λ m low.
          let low_shared : m < length shared = omega (arith, low, long) in
          let low_nodes : m < length nodes = omega (arith, low_shared, started.shared_count) in
          let p : SharedNode Secrets = some_of shared m low_shared in
          let s : SeatView Secrets = some_of firsts m (omega (arith, low_nodes, started.seats_count)) in
          ap (λ (v : NodeView Secrets). v.start) (get_or-map (λ (q : SharedNode Secrets). q.start) shared m p no_node low_shared ∙ (started.each m no_node p s low_nodes).start)) of);
    }

-- what the nodes had heard in the beginning, they have of the rows that the seats of the calls have seen
pub rows_begun : (nodes : List (NodeView Secrets)) (shared places : List (SharedNode Secrets)) (firsts own : List (SeatView Secrets)) → places ≡ shared → AreStarted accepts_by nodes shared firsts → own ≡ map split_off firsts →
    rows_of_each nodes ≡ rows_seen (party_view places own)
rows_begun nodes shared places firsts own same started own_is =
    let split : length (map split_off firsts) ≡ length firsts = length-map firsts split_off in
    let long : length (map split_off firsts) ≡ length shared = omega (arith, split, started.shared_count, started.seats_count) in
    let all : nodes ≡ nodes_by shared (map split_off firsts) =
    ext_get_or no_node nodes (nodes_by shared (map split_off firsts)) (omega (arith, nodes_length shared (map split_off firsts) long, split, started.seats_count)) (λ m low.
    let inside : m < length shared = omega (arith, low, started.shared_count) in
    let there : m < length firsts = omega (arith, low, started.seats_count) in
    let p : SharedNode Secrets = some_of shared m inside in
    let s : SeatView Secrets = some_of firsts m there in
    let first = started.each m no_node p s low in
    sym (node_by shared (map split_off firsts) m p s inside (omega (arith, there, split))
    ∙ same_node (get_or shared m p) (get_or (map split_off firsts) m s) (nth_node nodes m) first.start (ap (λ (t : SeatView Secrets). t.seen) (get_or-map split_off firsts m s s there) ∙ first.seen))) in
    ap (λ (vs : List (NodeView Secrets)). rows_of_each vs) all ∙ ap₂ (λ (ps : List (SharedNode Secrets)) (ss : List (SeatView Secrets)). rows_of_each (nodes_by ps ss)) (sym same) (sym own_is)

-- and in the end of their own
pub rows_ended : (nodes : List (NodeView Secrets)) (places : List (SharedNode Secrets)) (called : List (SeatView Secrets)) (ends : List (NodeView Secrets)) → IsSession accepts_by nodes places called ends →
    rows_seen (party_view places called) ≡ rows_of_each ends
rows_ended nodes places called ends run =
    let ended = sessions_end Secrets accepts_by nodes places called ends run in
    let long : length called ≡ length places = omega (arith, ended.shared_count, ended.called_count) in
    let many = length-map ends (λ (v : NodeView Secrets). node_rows v) in
    ext_get_or [] (rows_of_each (nodes_by places called)) (rows_of_each ends) (omega (arith, rows_length places called long, many, ended.called_count)) (λ k low.
    let there : k < length called = omega (arith, low, rows_length places called long) in
    let inside : k < length places = omega (arith, there, long) in
    let here : k < length ends = omega (arith, there, ended.called_count) in
    let p : SharedNode Secrets = some_of places k inside in
    let s : SeatView Secrets = some_of called k there in
    rows_nth (nodes_by places called) k (omega (arith, there, nodes_length places called long))
    ∙ (ap (λ (v : NodeView Secrets). node_rows v) (node_by places called k p s inside there) ∙ (sym (ended.each k p s no_node here).rows ∙ sym (rows_nth ends k here))))

-- there is a seat of each node of the world
pub first_sites : (world : WorldView) (nodes : List (NodeView Secrets)) (shared : List (SharedNode Secrets)) (firsts : List (SeatView Secrets)) → nodes ≡ nodes_of world → AreStarted accepts_by nodes shared firsts →
    length firsts ≡ length world.sites
first_sites world nodes shared firsts is started =
    let long : length nodes ≡ length world.sites = ap length is ∙ length-map world.sites (λ (site : Site). site.node) in
    omega (arith, long, started.seats_count)

-- the seats that are split off the first ones can be called
pub first_nodes : (nodes : List (NodeView Secrets)) (shared places : List (SharedNode Secrets)) (firsts : List (SeatView Secrets)) (known : List (List HeardView)) → places ≡ shared → AreStarted accepts_by nodes shared firsts →
    AreOfOneList nodes → KeepsKnown (rows_of_each nodes) known → KeepsNodes (party_view places (map split_off firsts)) known
first_nodes nodes shared places firsts known same started of keeps = record {
  nodes = nodes_own nodes shared places firsts (map split_off firsts) same started refl of;
  heard = subst (λ (rows : List (List Row)). KeepsKnown rows known) (rows_begun nodes shared places firsts (map split_off firsts) same started refl) keeps;
}

-- lines that were played by one thread
pub played_by_one : (members : MemberList) (lines : List Line) (world now : WorldView) (printed : List Printed) → world ≡ new_world members → MatchesLines (seen_alone world) (seen_alone now) members lines printed →
    IsPlayed members lines now printed
played_by_one members lines world now printed is told =
    let first = told tt world refl (ap starts_of is ∙ starts-new members) in
    record {
      world = subst (λ (w : WorldView). WorldsAlike now (after_lines members (stage w [] []) lines).world) is (subst (WorldsAlike now) first.1 (worlds_alike now));
      pieces = first.0 ∙ ap (λ (w : WorldView). (after_lines members (stage w [] []) lines).printed) is;
    }

-- once their nodes are settled, it is the world with which the play ends
pub world_played : (members : MemberList) (lines : List Line) (world now last : WorldView) (printed : List Printed) → world ≡ new_world members → MatchesLines (seen_alone world) (seen_alone now) members lines printed →
    last ≡ after_steps now (end_steps members (length members.entries)) → last ≡ played_world members lines
world_played members lines world now last printed is told settled =
    let first = told tt world refl (ap starts_of is ∙ starts-new members) in
    let after : now ≡ (after_lines members (first_stage members) lines).world = first.1 ∙ ap (λ (w : WorldView). (after_lines members (stage w [] []) lines).world) is in
    play-steps members lines last (settled ∙ ap (λ (w : WorldView). after_steps w (end_steps members (length members.entries))) after)

-- whose nodes began with these members
pub world_began : (members : MemberList) (lines : List Line) (last : WorldView) → last ≡ played_world members lines → BeganWith members last
world_began members lines last is = λ m inside.
    let begun : starts_of last ≡ starts members = ap starts_of is ∙ (starts-steps (new_world members) (play_steps members lines) ∙ starts-new members) in
    start_read members last m begun inside

pub world_made : (members : MemberList) (lines : List Line) (last : WorldView) → last ≡ played_world members lines → AreMadeWith members last
world_made members lines last is = λ m inside. made_in members m (node_at last m) (world_began members lines last is m inside)

-- all is marked in a world of nodes in which all is
pub batch_marked : (new : WorldView) (nodes : List (NodeView Secrets)) (places : List (SharedNode Secrets)) (called : List (SeatView Secrets)) (ends : List (NodeView Secrets)) → (run : IsSession accepts_by nodes places called ends) →
    new.sites ≡ unfrozen ends → AllMark places whole run.calls.back run.lasts → AllAreMarked new
batch_marked new nodes places called ends run is marked = λ m low.
    let long : length new.sites ≡ length ends = ap length is ∙ length-map ends (λ (v : NodeView Secrets). site_of v (replicate worker_limit 0)) in
    let inside : m < length ends = omega (arith, low, long) in
    let node : node_at new m ≡ nth_node ends m =
    ap (λ (sites : List Site). (get_or sites m no_site).node) is ∙ ap (λ (s : Site). s.node) (get_or-map (λ (v : NodeView Secrets). site_of v (replicate worker_limit 0)) ends m no_node no_site inside) in
    subst (λ (v : NodeView Secrets). HasAllMarks v) (sym node) (sessions_mark Secrets accepts_by nodes places called ends run marked m no_node inside)
