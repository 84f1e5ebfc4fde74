-- Worlds of which no worker has frozen any rows
use Rattle.std.proofs.Common.{◌≡◌, inl, inr, ℕ, ◌<◌, ◌≤◌, List, [], ◌∷◌, ◌++◌, length, map, get_or, replicate, sym, refl, ap, ◌∙◌, subst, append_assoc, zero-add, arith}
use Rattle.std.specs.Prelude.{All}
use Rattle.std.specs.List.{range_with_len}
use Rattle.std.proofs.lemmas.Bool.{cases_lt}
use Rattle.std.proofs.lemmas.List.{length-map, length-replicate, get_or-map, get_or-replicate, get_or_past}
use Rattle.std.proofs.lemmas.List.FromFn.{get_or-map-range_with_len, length-map-range_with_len}
use Rattle.hg_life.specs.Members.{MemberList, IsMemberList, stakes_of}
use Rattle.hg_model.specs.Places.{table}
use Rattle.hg_model.specs.Stakes.{Stakes, member_count}
use Rattle.hg_life.specs.Signing.{accepts_by, secrets_of}
use Rattle.hg_life.specs.NodeView.{NodeView, IsNode}
use Rattle.hg_life.proofs.MemberLaws.{length-stakes}
use Rattle.hg_gossip.specs.Handing.{HeardView}
use Rattle.hg_gossip.specs.Known.{KeepsKnown}
use Rattle.hg_world.specs.World.{Secrets, Site, WorldView, new_node, new_site, new_world, no_site, nodes_of, site_of}
use Rattle.hg_life.specs.Workers.{worker_limit}
use Rattle.hg_world.specs.Parts.{AreOfOneList, HasStart, IsWorld, KeepsParts, KeepsSite, nodes_in, no_node, nth_node, rows_of_each, unfrozen, world_of}

-- one more was moved from one list to another
pub moved : {A B : Type 0} (f : A → B) (before after : List A) (done more all : List B) (x : A) → before ≡ x ∷ after → more ≡ done ++ f x ∷ [] → done ++ map f before ≡ all → more ++ map f after ≡ all
moved {A} {B} f before after done more all x is pushed so_far =
    ap (λ (ys : List B). ys ++ map f after) pushed ∙ (append_assoc done (f x ∷ []) (map f after) ∙ (ap (λ (xs : List A). done ++ map f xs) (sym is) ∙ so_far))

-- no worker froze any
abbrev pub none_frozen : List ℕ
none_frozen = replicate worker_limit 0

no_lens : (k : ℕ) → get_or none_frozen k 0 ≡ 0
no_lens k = elim (cases_lt k worker_limit) [
  | inl low ↦ get_or-replicate worker_limit k 0 0 low
  | inr past ↦ get_or_past none_frozen k 0 (omega (arith, past, length-replicate {A = ℕ} worker_limit 0))
]

nodes_back : (nodes : List (NodeView Secrets)) → nodes_in (unfrozen nodes) ≡ nodes
nodes_back [] = refl
nodes_back (v ∷ nodes) = ap (λ (vs : List (NodeView Secrets)). v ∷ vs) (nodes_back nodes)

-- nodes of one list of members make a world
pub of_nodes : (n : Stakes) (c : ℕ) (nodes : List (NodeView Secrets)) (known : List (List HeardView)) (room : ℕ) → AreOfOneList nodes → All (IsNode accepts_by) nodes →
    n ≡ (nth_node nodes 0).start.members → c ≡ (nth_node nodes 0).start.coin → KeepsKnown (rows_of_each nodes) known → length nodes ≤ room → KeepsParts (world_of n c (unfrozen nodes)) known room
of_nodes n c nodes known room are all n_is c_is heard fits =
    let of_one = are.3 in
    let first = of_one.each 0 of_one.some in
    let node : IsNode accepts_by (nth_node nodes 0) = all 0 no_node of_one.some in
    let stakes : are.0 ≡ n = sym (n_is ∙ first.members) in
    let none : NodeView Secrets → Site = λ (v : NodeView Secrets). site_of v none_frozen in
    let many : length (unfrozen nodes) ≡ length nodes = length-map nodes none in
    let w : WorldView = world_of n c (unfrozen nodes) in
    record {
      few = omega (arith, node.few_members, of_one.count, ap member_count first.members, many);
      world = record {
        coin = omega (arith, node.coin, c_is);
        some = omega (arith, of_one.some, many);
        count = many ∙ (of_one.count ∙ ap member_count stakes);
        keys = are.2;
        sites = λ m low. (
            let inside : m < length nodes = omega (arith, low, many) in
            let start = of_one.each m inside in
            subst (KeepsSite w are.2 m) (sym (get_or-map none nodes m no_node no_site inside)) (record {
              is = record { own = start.own; members = start.members ∙ stakes; coin = start.coin ∙ sym (c_is ∙ first.coin); workers = length-replicate {A = ℕ} worker_limit 0 };
              keyed = start.keyed;
              node = all m no_node inside;
              frozen = λ k. omega (arith, no_lens k);
            }));
      };
      heard = subst (λ (vs : List (NodeView Secrets)). KeepsKnown (rows_of_each vs) known) (sym (nodes_back nodes)) heard;
      fits = omega (arith, fits, many);
    }

-- the nodes of a world are of one list of members
pub of_one_list : (w : WorldView) → IsWorld w → AreOfOneList (nodes_of w)
of_one_list w world =
    let many : length (nodes_of w) ≡ length w.sites = length-map w.sites (λ (s : Site). s.node) in (
      w.members,
      w.coin,
      world.keys,
      record {
        some = omega (arith, world.some, many);
        count = many ∙ world.count;
        each = λ m low. (
            let inside : m < length w.sites = omega (arith, low, many) in
            let site = world.sites m inside in
            subst (HasStart w.members w.coin world.keys m) (sym (get_or-map (λ (s : Site). s.node) w.sites m no_site no_node inside))
            (record { own = site.is.own; members = site.is.members; coin = site.is.coin; keyed = site.keyed }));
      },
    )

-- new nodes are of one list of members, and make the new world
module _ (members : MemberList) (nodes : List (NodeView Secrets)) (lawful : IsMemberList members) (are : nodes ≡ table (new_node members) (length members.entries)) where
  abbrev n : ℕ
  n = length members.entries

  many : length nodes ≡ n
  many = ap length are ∙ length-map-range_with_len (new_node members) 0 n

  new_at : (m : ℕ) → m < n → nth_node nodes m ≡ new_node members m
  new_at m low = ap (λ (vs : List (NodeView Secrets)). nth_node vs m) are ∙ get_or-map-range_with_len (new_node members) 0 n m m no_node low (zero-add m)

  pub new_list : AreOfOneList nodes
  new_list = (
    stakes_of members,
    members.coin,
    secrets_of members,
    record {
      some = omega (arith, lawful.some, many);
      count = many ∙ sym (length-stakes members);
      each = λ m low. subst (HasStart (stakes_of members) members.coin (secrets_of members) m) (sym (new_at m (omega (arith, low, many)))) (record { own = refl; members = refl; coin = refl; keyed = refl });
    },
  )

  sites_are : (places : List ℕ) → unfrozen (map (new_node members) places) ≡ map (new_site members) places
  sites_are [] = refl
  sites_are (m ∷ places) = ap (λ (rest : List Site). new_site members m ∷ rest) (sites_are places)

  pub new_is : (w : WorldView) → w.sites ≡ unfrozen nodes → w.members ≡ (nth_node nodes 0).start.members → w.coin ≡ (nth_node nodes 0).start.coin → w ≡ new_world members
  new_is w sites stakes coin =
      let first : nth_node nodes 0 ≡ new_node members 0 = new_at 0 (omega (arith, lawful.some)) in
      ap (λ (k : Stakes). world_of k w.coin w.sites) (stakes ∙ ap (λ (v : NodeView Secrets). v.start.members) first)
      ∙ (ap (λ (k : ℕ). world_of (stakes_of members) k w.sites) (coin ∙ ap (λ (v : NodeView Secrets). v.start.coin) first)
      ∙ ap (world_of (stakes_of members) members.coin) (sites ∙ (ap (λ (vs : List (NodeView Secrets)). unfrozen vs) are ∙ sites_are (range_with_len 0 n))))
