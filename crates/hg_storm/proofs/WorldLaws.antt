-- The nodes before the threads and after them, and the pulls and settlings behind
use Rattle.std.proofs.Common.{◌≡◌, inl, inr, ℕ, suc, Result, Ok, Err, ◌+◌, ◌<◌, ◌≤◌, List, [], ◌∷◌, ◌++◌, length, take, map, get_or, replicate, sym, refl, ap, ap₂, ◌∙◌, subst, zero-add, arith}
use Rattle.std.specs.Prelude.{All, OnOk, fold}
use Rattle.std.proofs.lemmas.List.{get_or-map, length-map, map_more, take_all}
use Rattle.std.proofs.lemmas.List.Elements.{All-from_recursion}
use Rattle.std.proofs.lemmas.List.FromFn.{get_or-map-range_with_len, length-map-range_with_len}
use Rattle.std.proofs.lemmas.List.Sums.{fold-append, fold_more}
use Rattle.hg_model.specs.Stakes.{Stakes}
use Rattle.hg_model.proofs.ListLaws.{all_list_below, length-list_below-le}
use Rattle.hg_life.specs.Members.{MemberList, IsMemberList, has_node, stakes_of}
use Rattle.hg_life.specs.NodeView.{NodeView, Start}
use Rattle.hg_life.specs.Signing.{accepts_by}
use Rattle.hg_life.specs.Workers.{worker_limit}
use Rattle.hg_board.specs.Seats.{SharedNode, SeatView}
use Rattle.hg_crowd.specs.Laws.{AreEnded}
use Rattle.hg_crowd.proofs.EndLaws.{sessions_end}
use Rattle.hg_crowd.proofs.ListLaws.{some_of}
use Rattle.hg_world.specs.declared.step.Step.{Step}
use Rattle.hg_world.specs.World.{Secrets, Site, WorldView, new_node, new_site, new_world, no_site, nodes_of, site_of}
use Rattle.hg_world.specs.Parts.{AreOfOneList, no_node, nth_node, unfrozen, world_of}
use Rattle.hg_world.specs.Steps.{RanSome, after_steps}
use Rattle.hg_world.specs.Syncs.{pull_steps}
use Rattle.hg_world.proofs.StepLaws.{steps_sites}
use Rattle.hg_storm.specs.declared.plan.Plan.{Plan}
use Rattle.hg_storm.specs.Drawing.{IsCircle, circle_of}
use Rattle.hg_storm.specs.Joins.{HasSession}
use Rattle.hg_storm.specs.Storm.{after_pull, after_pulls, after_settling, pulls_from, pulls_of, pulls_to, world_again}

-- ---- before the threads

module _ (members : MemberList) where
  abbrev count : ℕ
  count = length members.entries

  -- those that have nodes are members
  below : All (λ m. m < count) (circle_of members)
  below = All-from_recursion (λ m. m < count) (circle_of members) (all_list_below (λ m. m < count) (λ m. m) count (has_node members) (λ k low passes. low))

  pub is_circle : (plan : Plan) (n : ℕ) → IsMemberList members → plan.circle.items ≡ circle_of members → n ≡ count → IsCircle n plan
  is_circle plan n lawful is many =
      subst (λ (k : ℕ). IsCircle k plan) (sym many) (record {
        few = omega (arith, lawful.few, ap length is, length-list_below-le (λ m. m) count (has_node members));
        members = subst (All (λ m. m < count)) (sym is) below;
      })

  pub circle_members : (w : WorldView) (circle : List ℕ) → circle ≡ circle_of members → length w.sites ≡ count → All (λ k. k < length w.sites) circle
  circle_members w circle is many = subst (λ (n : ℕ). All (λ k. k < n) circle) (sym many) (subst (All (λ m. m < count)) (sym is) below)

  abbrev begun : List (NodeView Secrets)
  begun = nodes_of (new_world members)

  pub begun_count : length begun ≡ count
  begun_count = length-map (new_world members).sites (λ (s : Site). s.node) ∙ length-map-range_with_len (new_site members) 0 count

  begun_at : (m : ℕ) (d : NodeView Secrets) → m < length begun → get_or begun m d ≡ new_node members m
  begun_at m d inside =
      let long : length (new_world members).sites ≡ count = length-map-range_with_len (new_site members) 0 count in
      get_or-map (λ (s : Site). s.node) (new_world members).sites m no_site d (omega (arith, inside, begun_count, long))
      ∙ ap (λ (s : Site). s.node) (get_or-map-range_with_len (new_site members) 0 count m m no_site (omega (arith, inside, begun_count)) (zero-add m))

  -- each node has room for a row
  pub begun_room : (nodes : List (NodeView Secrets)) → nodes ≡ begun → All (λ (v : NodeView Secrets). 0 < v.start.limit) nodes
  begun_room nodes is = subst (All (λ (v : NodeView Secrets). 0 < v.start.limit)) (sym is) (λ m d inside. subst (λ (v : NodeView Secrets). 0 < v.start.limit) (sym (begun_at m d inside)) (omega arith))

  -- no node has a history
  pub begun_empty : (nodes : List (NodeView Secrets)) → nodes ≡ begun → All (λ (v : NodeView Secrets). v.history ≡ []) nodes
  begun_empty nodes is = subst (All (λ (v : NodeView Secrets). v.history ≡ [])) (sym is) (λ m d inside. ap (λ (v : NodeView Secrets). v.history) (begun_at m d inside))

-- ---- after the threads

module _ (nodes ends : List (NodeView Secrets)) (session : HasSession nodes ends) where
  ended : AreEnded session.places session.called ends
  ended = sessions_end Secrets accepts_by nodes session.places session.called ends session.run

  pub ends_count : length ends ≡ length nodes
  ends_count = omega (arith, ended.shared_count, session.run.started.shared_count)

  -- each node began as before
  same_start : (m : ℕ) → m < length ends → (nth_node ends m).start ≡ (nth_node nodes m).start
  same_start m low =
      let p : SharedNode Secrets = some_of session.places m (omega (arith, low, ended.shared_count)) in
      let s : SeatView Secrets = some_of session.called m (omega (arith, low, ended.called_count)) in
      (ended.each m p s no_node low).start ∙ ap (λ (v : NodeView Secrets). v.start) (session.run.started.each m no_node p s (omega (arith, low, ends_count))).start

  pub ends_of_one_list : AreOfOneList nodes → AreOfOneList ends
  ends_of_one_list of =
      let all = of.3 in (
        of.0,
        of.1,
        of.2,
        record {
          some = omega (arith, all.some, ends_count);
          count = ends_count ∙ all.count;
          each = λ m low.
              let was = all.each m (omega (arith, low, ends_count)) in
              let same = same_start m low in
              record {
                own = ap (λ (s : Start Secrets). s.own) same ∙ was.own;
                members = ap (λ (s : Start Secrets). s.members) same ∙ was.members;
                coin = ap (λ (s : Start Secrets). s.coin) same ∙ was.coin;
                keyed = ap (λ (s : Start Secrets). s.keys) same ∙ was.keyed;
              };
        },
      )

  -- where they were those of the members' new world
  module _ (members : MemberList) (lawful : IsMemberList members) (are : nodes ≡ nodes_of (new_world members)) where
    pub ends_many : length ends ≡ length members.entries
    ends_many = ends_count ∙ (ap length are ∙ begun_count members)

    pub ends_members : (circle : List ℕ) → circle ≡ circle_of members → All (λ m. m < length ends) circle
    ends_members circle is = subst (λ (n : ℕ). All (λ m. m < n) circle) (sym ends_many) (subst (All (λ m. m < length members.entries)) (sym is) (below members))

    -- they are the members' still
    pub ends_start : (m : ℕ) → m < length ends → (nth_node ends m).start ≡ (new_node members m).start
    ends_start m low =
        let begun_here : nth_node nodes m ≡ new_node members m =
        ap (λ (vs : List (NodeView Secrets)). nth_node vs m) are ∙ begun_at members m no_node (omega (arith, low, ends_many, begun_count members)) in
        same_start m low ∙ ap (λ (v : NodeView Secrets). v.start) begun_here

    pub world_count : (w : WorldView) → w.sites ≡ unfrozen ends → length w.sites ≡ length members.entries
    world_count w sites = ap length sites ∙ (length-map ends (λ (v : NodeView Secrets). site_of v (replicate worker_limit 0)) ∙ ends_many)

    -- and make a world of the same members
    pub ends_again : (w : WorldView) → w.sites ≡ unfrozen ends → w.members ≡ (nth_node ends 0).start.members → w.coin ≡ (nth_node ends 0).start.coin → w ≡ world_again members ends
    ends_again w sites stakes coin =
        let first = ends_start 0 (omega (arith, lawful.some, ends_many)) in
        ap (λ (n : Stakes). world_of n w.coin w.sites) (stakes ∙ ap (λ (s : Start Secrets). s.members) first)
        ∙ (ap (λ (c : ℕ). world_of (stakes_of members) c w.sites) (coin ∙ ap (λ (s : Start Secrets). s.coin) first)
        ∙ ap (world_of (stakes_of members) members.coin) sites)

-- the values of the first elements of a list, of one more, and of all
module _ {A B : Type 0} (f : A → B) (xs : List A) (i : ℕ) where
  pub mapped_more : (x : A) (y : B) (old new : List B) → i < length xs → x ≡ get_or xs i x → old ≡ map f (take i xs) → y ≡ f x → new ≡ old ++ y ∷ [] → new ≡ map f (take (i + 1) xs)
  mapped_more x y old new low read before is pushed = pushed ∙ (ap₂ (λ (l : List B) (z : B). l ++ z ∷ []) before (is ∙ ap f read) ∙ sym (map_more f xs i x low))

  pub mapped_all : (all : List B) → length xs ≤ i → all ≡ map f (take i xs) → all ≡ map f xs
  mapped_all all past is = is ∙ ap (map f) (take_all i xs past)

-- ---- pulls and settlings, one after the other

pub some_sites : (old new : WorldView) (steps : List Step) → RanSome old steps new → length new.sites ≡ length old.sites
some_sites old new steps (inl same) = ap (λ (w : WorldView). length w.sites) same
some_sites old new steps (inr ran) = ap (λ (w : WorldView). length w.sites) ran.after ∙ steps_sites old ran.first

pub all_sites : (old new : WorldView) (steps : List Step) → new ≡ after_steps old steps → length new.sites ≡ length old.sites
all_sites old new steps after = ap (λ (w : WorldView). length w.sites) after ∙ steps_sites old steps

pub pulls_sites : (w : WorldView) (pairs : List (ℕ × ℕ)) → length (after_pulls w pairs).sites ≡ length w.sites
pulls_sites w [] = refl
pulls_sites w (pair ∷ pairs) = pulls_sites (after_pull w pair) pairs ∙ steps_sites w (pull_steps w pair.0 pair.1)

-- one of these members is one still
pub member_read : (w now : WorldView) (ms : List ℕ) (i : ℕ) → All (λ k. k < length w.sites) ms → i < length ms → length now.sites ≡ length w.sites → get_or ms i 0 < length now.sites
member_read w now ms i all low same = omega (arith, all i 0 low, same)

still_members : (w now : WorldView) (ms : List ℕ) → length now.sites ≡ length w.sites → All (λ k. k < length w.sites) ms → All (λ k. k < length now.sites) ms
still_members w now ms same all = subst (λ (n : ℕ). All (λ k. k < n) ms) (sym same) all

-- one of the pulls more
pub pull_more : (f : ℕ → ℕ × ℕ) (ms : List ℕ) (i : ℕ) (w now new : WorldView) → i < length ms → now ≡ after_pulls w (take i (map f ms)) → new ≡ after_pull now (f (get_or ms i 0)) →
    new ≡ after_pulls w (take (i + 1) (map f ms))
pull_more f ms i w now new low before pulled =
    let pair : ℕ × ℕ = f (get_or ms i 0) in
    let here : pair ≡ get_or (map f ms) i pair = sym (get_or-map f ms i 0 pair low) in
    pulled ∙ (ap₂ after_pull before here ∙ sym (fold_more after_pull w (map f ms) i pair (omega (arith, low, length-map ms f))))

pub pull_all : (f : ℕ → ℕ × ℕ) (ms : List ℕ) (i : ℕ) (w new : WorldView) → length ms ≤ i → new ≡ after_pulls w (take i (map f ms)) → new ≡ after_pulls w (map f ms)
pull_all f ms i w new past is = is ∙ ap (after_pulls w) (take_all i (map f ms) (omega (arith, past, length-map ms f)))

-- one is settled more
pub settle_more : (ms : List ℕ) (i : ℕ) (w now new : WorldView) → i < length ms → now ≡ fold after_settling w (take i ms) → new ≡ after_settling now (get_or ms i 0) → new ≡ fold after_settling w (take (i + 1) ms)
settle_more ms i w now new low before settled =
    settled ∙ (ap (λ (u : WorldView). after_settling u (get_or ms i 0)) before ∙ sym (fold_more after_settling w ms i 0 low))

pub settle_all : (ms : List ℕ) (i : ℕ) (w new : WorldView) → length ms ≤ i → new ≡ fold after_settling w (take i ms) → new ≡ fold after_settling w ms
settle_all ms i w new past is = is ∙ ap (fold after_settling w) (take_all i ms past)

-- what follows of what an answer says
pub ok_then : {A E : Type 0} (result : Result A E) (P Q : Type 0) → (P → Q) → OnOk result P → OnOk result Q
ok_then (Ok x) P Q then is = then is
ok_then (Err e) P Q then is = tt

-- the first of these members and the others
module _ (w : WorldView) (ms : List ℕ) (first : ℕ) (rest : List ℕ) (is : ms ≡ first ∷ rest) (all : All (λ k. k < length w.sites) ms) where
  whole : All (λ k. k < length w.sites) (first ∷ rest)
  whole = subst (All (λ k. k < length w.sites)) is all

  pub first_member : first < length w.sites
  first_member = whole 0 first (omega arith)

  pub rest_members : All (λ k. k < length w.sites) rest
  rest_members k d low = whole (suc k) d (omega (arith, low))

  module _ (now : WorldView) (to : now ≡ after_pulls w (pulls_to first rest)) where
    same_sites : length now.sites ≡ length w.sites
    same_sites = ap (λ (u : WorldView). length u.sites) to ∙ pulls_sites w (pulls_to first rest)

    pub first_still : first < length now.sites
    first_still = omega (arith, first_member, same_sites)

    pub rest_still : All (λ k. k < length now.sites) rest
    rest_still = still_members w now rest same_sites rest_members

    -- both ways
    pub pulled_each : (new : WorldView) → new ≡ after_pulls now (pulls_from first rest) → new ≡ after_pulls w (pulls_of ms)
    pulled_each new from =
        from ∙ (ap (λ (u : WorldView). after_pulls u (pulls_from first rest)) to
        ∙ (sym (fold-append after_pull w (pulls_to first rest) (pulls_from first rest)) ∙ ap (λ (l : List ℕ). after_pulls w (pulls_of l)) (sym is)))

-- those that are members still once these pulled
pub pulled_members : (w now : WorldView) (ms : List ℕ) → now ≡ after_pulls w (pulls_of ms) → All (λ k. k < length w.sites) ms → All (λ k. k < length now.sites) ms
pulled_members w now ms is all = still_members w now ms (ap (λ (u : WorldView). length u.sites) is ∙ pulls_sites w (pulls_of ms)) all
