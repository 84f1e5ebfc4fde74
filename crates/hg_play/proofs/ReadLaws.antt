-- What a peer hands over, by what was read of it and of the taker; and what is heard once it has come
use Rattle.std.proofs.Common.{◌≡◌, ℕ, ◌+◌, ◌<◌, ◌≤◌, List, ◌++◌, length, get_or, take, drop, Result, Ok, sym, refl, ap, ◌∙◌, subst, arith}
use Rattle.std.specs.declared.sync.Arc.{Arc}
use Rattle.std.specs.Prelude.{IfOk}
use Rattle.std.proofs.lemmas.List.{length-map}
use Rattle.hg_model.specs.declared.row.Row.{Row}
use Rattle.hg_model.specs.Held.{lacking}
use Rattle.hg_life.specs.NodeView.{NodeView, node_rows}
use Rattle.hg_graph.specs.RowsWithRoom.{rows_of}
use Rattle.hg_gossip.specs.declared.gossip.Taken.{Taken}
use Rattle.hg_gossip.specs.Handing.{AreKnown, HeardView, Knows, LacksOf}
use Rattle.hg_gossip.specs.Known.{KeepsKnown, heard_by, nth_rows}
use Rattle.hg_board.specs.declared.copies.EventParcel.{EventParcel}
use Rattle.hg_board.specs.Copies.{AreLacked, IsParcelFrom}
use Rattle.hg_board.specs.Seats.{SharedNode, SeatView}
use Rattle.hg_crowd.specs.Party.{PartyView}
use Rattle.hg_crowd.proofs.ListLaws.{some_of}
use Rattle.hg_world.specs.World.{Secrets}
use Rattle.hg_world.specs.Parts.{nth_node}
use Rattle.hg_play.specs.declared.handing.Handed.{Handed}
use Rattle.hg_play.specs.Heard.{HandsOver, IsHanded, IsRead, KeepsNodes, KeepsNoted, TakesRows, nodes_seen, rows_seen}
use Rattle.hg_play.specs.Through.{AreHanded, AreNodes, node_seen, seen_shared}
use Rattle.hg_play.proofs.CallLaws.{IsDone}
use Rattle.hg_play.proofs.HandedLaws.{handed, handed_part}
use Rattle.hg_play.proofs.HeardLaws.{few_rows, handed_count, handed_lacks, handed_rows, known_still, node_by, rest_later, rows_here, rows_length, rows_more}
use Rattle.hg_play.proofs.NodesLaws.{kept_both, kept_same}
use Rattle.hg_play.proofs.SharedLaws.{same_at}

-- nothing was read
pub read_none : (v : PartyView Secrets) (k : ℕ) (IsFound : NodeView Secrets → Type 0) → AreNodes v.places v.seats → IsFound (nth_node (nodes_seen v) k) → IsRead k IsFound v v
read_none v k IsFound nodes found = record {
  nodes = nodes;
  kept = kept_same (seen_shared v);
  none = λ alone w agrees. agrees;
  found = found;
}

-- each of the nodes may take the rows of each
handed_at : (v : PartyView Secrets) (k : ℕ) → AreNodes v.places v.seats → k < length v.seats → AreHanded v.places (nth_rows (rows_seen v) k)
handed_at v k are low =
    let inside : k < length v.places = omega (arith, low, are.seated.count) in
    let d : SharedNode Secrets = some_of v.places k inside in
    let e : SeatView Secrets = some_of v.seats k low in
    let p : SharedNode Secrets = get_or v.places k d in
    let s : SeatView Secrets = get_or v.seats k e in
    let is : nth_rows (rows_seen v) k ≡ node_rows (node_seen p s) = rows_here v are k low ∙ ap (λ (u : NodeView Secrets). node_rows u) (node_by v.places v.seats k d e inside low) in
    subst (AreHanded v.places) (sym is) (handed v.places k p (node_seen p s) are.one_list inside (same_at v.places k d p inside) refl (are.seated.each k d e inside).node)

module _ (v0 v1 v2 : PartyView Secrets) (known : List (List HeardView)) (x y : ℕ) (keeps : KeepsNodes v0 known) (low_x : x < length v0.seats) (low_y : y < length v0.seats)
    (P Q : NodeView Secrets → Type 0) (first : IsRead x P v0 v1) where
  module _ (second : IsRead y Q v1 v2) where
    pub hands : {E : Type 0} (result : Result Handed E) → IfOk result (IsHanded v2 x y) → HandsOver x y result v0 v2
    hands result is = record {
      nodes = second.nodes;
      kept = kept_both first.kept second.kept;
      none = λ alone w agrees. second.none alone w (first.none (second.kept.back alone) w agrees);
      handed = is;
    }

    heard_first : KeepsKnown (rows_seen v1) known
    heard_first = known_still v0 v1 keeps.nodes first.kept known keeps.heard

    heard_second : KeepsKnown (rows_seen v2) known
    heard_second = known_still v1 v2 first.nodes second.kept known heard_first

    many : length v1.seats ≡ length v0.seats
    many = first.kept.count

    many_then : length v2.seats ≡ length v1.seats
    many_then = second.kept.count

    low_first : (k : ℕ) → k < length v0.seats → k < length v1.seats
    low_first k low = omega (arith, low, many)

    low_second : (k : ℕ) → k < length v0.seats → k < length v2.seats
    low_second k low = omega (arith, low, many, many_then)

    in_first : (k : ℕ) → k < length v0.seats → k < length (rows_seen v1)
    in_first k low = omega (arith, low_first k low, rows_length v1.places v1.seats first.nodes.seated.count)

    in_second : (k : ℕ) → k < length v0.seats → k < length (rows_seen v2)
    in_second k low = omega (arith, low_second k low, rows_length v2.places v2.seats second.nodes.seated.count)

    abbrev G1 : List Row
    G1 = nth_rows (rows_seen v1) x

    abbrev G2 : List Row
    G2 = nth_rows (rows_seen v2) x

    abbrev H1 : List Row
    H1 = nth_rows (rows_seen v1) y

    abbrev H2 : List Row
    H2 = nth_rows (rows_seen v2) y

    module _ (heard : HeardView) (heard_is : heard ≡ heard_by known x y) where
      knows_first : Knows G1 H1 heard
      knows_first = subst (Knows G1 H1) (sym heard_is) (heard_first.each x y (in_first x low_x) (in_first y low_y))

      knows_second : Knows G2 H2 heard
      knows_second = subst (Knows G2 H2) (sym heard_is) (heard_second.each x y (in_second x low_x) (in_second y low_y))

      module _ (parcel : EventParcel) (parcel_is : IsParcelFrom heard.len (nth_node (nodes_seen v2) y) parcel) where
        behind_is : rows_of parcel.events.items ≡ drop heard.len H2
        behind_is = parcel_is.events ∙ ap (drop heard.len) (sym (rows_here v2 second.nodes y (low_second y low_y)))

        behind_many : heard.len + length parcel.events.items ≡ length H2
        behind_many =
            handed_count H2 heard.len (heard.len + length parcel.events.items) (rows_of parcel.events.items) knows_second.within behind_is
            (ap (λ (k : ℕ). heard.len + k) (sym (length-map parcel.events.items (λ e. e.value))))

        -- so many rows are counted
        pub handed_few : heard.len + length parcel.events.items ≤ 1048576
        handed_few = omega (arith, behind_many, few_rows v2 second.nodes y (low_second y low_y), ap (λ (H : List Row). length H) (rows_here v2 second.nodes y (low_second y low_y)))

        pub is_handed : {A : Type 0} (refused : List (Arc Row A)) (all : Handed) → AreLacked heard.refused (nth_node (nodes_seen v1) x) refused → rows_of all.events.items ≡ rows_of refused ++ rows_of parcel.events.items →
            all.len ≡ heard.len + length parcel.events.items → all.last ≡ parcel.last → IsHanded v2 x y all
        is_handed refused all refused_are events_are len_is last_is =
            let refused_is : rows_of refused ≡ lacking G1 heard.refused =
            refused_are ∙ ap (λ (G : List Row). lacking G heard.refused) (sym (rows_here v1 first.nodes x (low_first x low_x))) in
            let rows : rows_of all.events.items ≡ lacking G1 (take heard.len H2) ++ drop heard.len H2 =
            events_are ∙ handed_rows G1 H1 H2 heard (rows_of refused) (rows_of parcel.events.items) knows_first (rows_more v1 v2 first.nodes second.kept y (low_first y low_y)) refused_is behind_is in
            record {
              rows = subst (AreHanded v2.places) (sym rows) (handed_part v2.places G1 H2 heard.len (handed_at v2 y second.nodes (low_second y low_y)));
              rest = record {
                count = len_is ∙ behind_many;
                lacks = subst (LacksOf G2 H2) (sym events_are)
                    (handed_lacks G1 G2 H2 heard (rows_of refused) (rows_of parcel.events.items) (rows_more v1 v2 first.nodes second.kept x (low_first x low_x)) knows_second refused_is behind_is);
              };
              last = last_is ∙ parcel_is.last;
            }

-- what is kept once rows came to x
pub taken_keeps : {E : Type 0} (v1 v2 : PartyView Secrets) (known : List (List HeardView)) (x : ℕ) (rows : List Row) (result : Result Taken E) → KeepsNodes v1 known → TakesRows x rows result v1 v2 → KeepsNodes v2 known
taken_keeps v1 v2 known x rows result keeps takes = record { nodes = takes.nodes; heard = known_still v1 v2 keeps.nodes takes.kept known keeps.heard }

pub hands_keep : {E : Type 0} (v0 v1 : PartyView Secrets) (known : List (List HeardView)) (x y : ℕ) (result : Result Handed E) → KeepsNodes v0 known → HandsOver x y result v0 v1 → KeepsNodes v1 known
hands_keep v0 v1 known x y result keeps hands = record { nodes = hands.nodes; heard = known_still v0 v1 keeps.nodes hands.kept known keeps.heard }

pub noted_keeps : {E : Type 0} (v1 v2 : PartyView Secrets) (known noted : List (List HeardView)) (x y : ℕ) (all : Handed) (result : Result Taken E) (counts : Taken) → KeepsNodes v1 known → x < length v1.seats → IsHanded v1 x y all →
    result ≡ Ok counts → TakesRows x (rows_of all.events.items) result v1 v2 → KeepsNoted known x y all.len (rows_of all.events.items) counts.refused noted → KeepsNodes v2 noted
noted_keeps {E} v1 v2 known noted x y all result counts keeps low is was takes note =
    let still = taken_keeps v1 v2 known x (rows_of all.events.items) result keeps takes in
    record {
      nodes = takes.nodes;
      heard = note (rows_seen v2) still.heard
          (λ other. rest_later (rows_seen v1) (rows_seen v2) x y all.len (rows_of all.events.items) (rows_more v1 v2 keeps.nodes takes.kept x low) (takes.others y (λ same. other (sym same))) is.rest)
          (subst (λ (r : Result Taken E). IfOk r (λ t. t.refused ≡ 0 → AreKnown (nth_rows (rows_seen v2) x) (rows_of all.events.items))) was takes.all);
    }

pub done_keeps : {A E : Type 0} (old new : PartyView Secrets) (known : List (List HeardView)) (result : Result A E) (Matches : A → Type 0) → KeepsNodes old known → IsDone old new result Matches → KeepsNodes new known
done_keeps old new known result Matches keeps done = record { nodes = done.nodes; heard = known_still old new keeps.nodes done.kept known keeps.heard }

-- who has a seat has heard of each
pub low_seat : (v w : PartyView Secrets) (k : ℕ) → v ≡ w → k < length w.seats → k < length v.seats
low_seat v w k is low = omega (arith, low, ap (λ (u : PartyView Secrets). length u.seats) is)

pub low_known : (v w : PartyView Secrets) (known : List (List HeardView)) (k : ℕ) → v ≡ w → KeepsNodes v known → k < length w.seats → k < length known
low_known v w known k is keeps low = omega (arith, low_seat v w k is low, keeps.heard.long, rows_length v.places v.seats keeps.nodes.seated.count)
