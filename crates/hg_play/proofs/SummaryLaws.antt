-- What is told of nodes: the names of an order, nodes that are settled one after the other, and the summary of all
use Rattle.std.proofs.Common.{inl, inr, true, false, not, ◌≡◌, ◌≢◌, ◌∙◌, ◌+◌, ◌<◌, ◌≤◌, ◌++◌, ℕ, zero, suc, take, append-nil, cond, Bool, List, [], ◌∷◌, length, get_or, slice_get, slice_set, Some, sym, refl, ap, ap₂, subst, add-one, append_assoc, arith}
use Rattle.std.specs.Prelude.{All}
use Rattle.std.specs.Str.{bytes_eq}
use Rattle.std.specs.List.{sum}
use Rattle.std.proofs.lemmas.Bool.{cases_Bool, cases_eq, cases_lt, true≢false}
use Rattle.std.proofs.lemmas.List.{get_or-set_other}
use Rattle.std.proofs.lemmas.Slice.Eq.{bytes_eq-Decides}
use Rattle.sha2.specs.Sha512.{sha384}
use Rattle.hg_model.specs.declared.row.Row.{Row}
use Rattle.hg_model.specs.declared.row.Placed.{Placed}
use Rattle.hg_model.specs.Forks.{forkers}
use Rattle.hg_model.specs.Graph.{name_at, name_in}
use Rattle.hg_model.specs.Links.{Link, links}
use Rattle.hg_model.specs.Places.{list_below}
use Rattle.hg_model.specs.Rounds.{last_round}
use Rattle.hg_model.specs.Shares.{whole}
use Rattle.hg_life.specs.declared.pay.Effect.{Effect}
use Rattle.hg_life.specs.Calls.{IsSettled}
use Rattle.hg_life.specs.Members.{MemberList, has_node, names_of}
use Rattle.hg_life.specs.NodeView.{IsNode, NodeView, book_kept, kept_of, last_closed_of, node_rows}
use Rattle.hg_life.specs.Signing.{Accepts, accepts_by}
use Rattle.hg_pay.proofs.OrderLaws.{many_effects}
use Rattle.hg_outcome.specs.declared.outcome.Block.{Block}
use Rattle.hg_outcome.specs.declared.outcome.NodeSummary.{NodeSummary}
use Rattle.hg_outcome.specs.declared.outcome.Outcome.{Outcome}
use Rattle.hg_outcome.specs.declared.outcome.Printed.{Printed}
use Rattle.hg_outcome.specs.declared.outcome.Printed.TheVariants as printed
use Rattle.hg_outcome.specs.Ledger.{order_lines}
use Rattle.hg_outcome.specs.Summary.{names_together, node_summary, pieces_told}
use Rattle.hg_script.specs.declared.line.Line.{Line}
use Rattle.hg_script.specs.Lawful.{IsLine}
use Rattle.hg_world.specs.declared.step.Step.{Step}
use Rattle.hg_world.specs.declared.step.Step.TheVariants.{Freeze}
use Rattle.hg_world.specs.Parts.{IsWorld}
use Rattle.hg_world.specs.Steps.{after_step, after_steps, node_published, settle_steps}
use Rattle.hg_world.specs.World.{Secrets, Site, WorldView, frozen_by, new_world, no_site, node_at, rows_at, site_at, site_of}
use Rattle.hg_play.specs.Alike.{WorldsAlike}
use Rattle.hg_play.specs.Batch.{IsPlayed}
use Rattle.hg_play.specs.Lines.{kept_block}
use Rattle.hg_play.specs.Nodes.{MatchesBlocks, seen_alone}
use Rattle.hg_play.specs.Outcomes.{kept_at, world_outcome}
use Rattle.hg_play.specs.Play.{IsSafePlay, after_lines, block_at, end_blocks, end_steps, end_steps_of, first_stage, summary}
use Rattle.hg_play.specs.Sites.{AreMadeWith, IsMadeWith, starts, starts_of}
use Rattle.hg_play.specs.Summaries.{IsSettledNode, IsWorldOf, SettledBelow, names_in, node_told, told_at}
use Rattle.hg_play.proofs.BlockLaws.{block_is, settled_is}
use Rattle.hg_play.proofs.LawfulLaws.{ends}
use Rattle.hg_play.proofs.LikeLaws.{starts_alike}
use Rattle.hg_play.proofs.PlayLaws.{lines_below}
use Rattle.hg_play.proofs.WorldLaws.{made_in, start_read, starts-lines, starts-new, starts-steps, starts_length}

-- ---- names

-- those of the first rows, and of one more
names_next : (G : List Row) (order : List Placed) (i : ℕ) (d : Placed) → i < length order
    → names_in G (take (suc i) order) ≡ names_in G (take i order) ++ name_at G (get_or order i d).place
names_next G [] i d lt = absurd (omega (arith, lt))
names_next G (p ∷ order) zero d lt = append-nil (name_at G p.place)
names_next G (p ∷ order) (suc i) d lt =
    ap (λ (xs : List ℕ). name_at G p.place ++ xs) (names_next G order i d (omega (arith, lt)))
    ∙ sym (append_assoc (name_at G p.place) (names_in G (take i order)) (name_at G (get_or order i d).place))

name_is : (G : List Row) (x : ℕ) (row : Row) → slice_get G x ≡ Some row → name_at G x ≡ row.name
unfolding name_at
name_is G x row at = ap name_in at

pub names_more : (G : List Row) (order : List Placed) (i : ℕ) (d : Placed) (row : Row) → i < length order → slice_get G (get_or order i d).place ≡ Some row
    → names_in G (take (i + 1) order) ≡ names_in G (take i order) ++ row.name
names_more G order i d row lt at =
    ap (λ k. names_in G (take k order)) (add-one i)
    ∙ (names_next G order i d lt ∙ ap (λ (name : List ℕ). names_in G (take i order) ++ name) (name_is G (get_or order i d).place row at))

-- names that are told not to differ are one
pub same_name : (a b : List ℕ) (differ : Bool) → differ ≡ not (bytes_eq a b) → differ ≡ false → a ≡ b
same_name a b differ told same = elim (cases_Bool (bytes_eq a b)) [
  | inl one ↦ (bytes_eq-Decides a b).0 one
  | inr other ↦ (let apart : not (bytes_eq a b) ≡ true = ap not other in absurd (true≢false (sym apart ∙ (sym told ∙ same))))
]

-- those of printed rows
names_of_lines : (G : List Row) (L : List Link) (order : List Placed) (effects : List Effect) → length effects ≡ length order → names_together (order_lines G L order effects) ≡ names_in G order
names_of_lines G L [] [] each = refl
names_of_lines G L [] (e ∷ effects) each = refl
names_of_lines G L (p ∷ order) [] each = absurd (omega (arith, each))
names_of_lines G L (p ∷ order) (e ∷ effects) each = ap (λ (xs : List ℕ). name_at G p.place ++ xs) (names_of_lines G L order effects (omega (arith, each)))

count_of_lines : (G : List Row) (L : List Link) (order : List Placed) (effects : List Effect) → length effects ≡ length order → length (order_lines G L order effects) ≡ length order
count_of_lines G L [] [] each = refl
count_of_lines G L [] (e ∷ effects) each = refl
count_of_lines G L (p ∷ order) [] each = absurd (omega (arith, each))
count_of_lines G L (p ∷ order) (e ∷ effects) each = ap suc (count_of_lines G L order effects (omega (arith, each)))

-- ---- what is told of a node is that of its block

told_is : {K : Type 0} (accepts : K → Accepts) (members : MemberList) (m : ℕ) (v : NodeView K) → IsMadeWith members v → IsNode accepts v → v.start.own ≡ m →
    node_told m v ≡ node_summary (kept_block members m v)
told_is {K} accepts members m v made node own =
    let G = node_rows v in
    let L = links G in
    let lines = order_lines G L (kept_of v) (book_kept v).effects in
    let each = many_effects v.start.balances G (kept_of v) in
    let block = block_is accepts members v v.start.own lines (length G) (forkers v.start.members L) (last_round v.start.members L) (last_closed_of v) (book_kept v).balances
    made node refl refl refl refl refl refl refl in
    ap₂ (λ (k : ℕ) (names : List ℕ).
    let told : NodeSummary = record {
      member = m;
      events = length G;
      forkers = forkers v.start.members L;
      greatest = last_round v.start.members L;
      closed = last_closed_of v;
      ordered = k;
      digest = sha384 names;
      total = sum (book_kept v).balances;
    } in
    told) (sym (count_of_lines G L (kept_of v) (book_kept v).effects each)) (sym (names_of_lines G L (kept_of v) (book_kept v).effects each))
    ∙ (ap (λ (k : ℕ).
    let told : NodeSummary = record {
      member = k;
      events = length G;
      forkers = forkers v.start.members L;
      greatest = last_round v.start.members L;
      closed = last_closed_of v;
      ordered = length lines;
      digest = sha384 (names_together lines);
      total = sum (book_kept v).balances;
    } in
    told) (sym own)
    ∙ (ap node_summary block ∙ ap (λ (k : ℕ). node_summary (kept_block members k v)) own))

told-append : (xs ys : List Printed) → pieces_told (xs ++ ys) ≡ pieces_told xs ++ pieces_told ys
told-append [] ys = refl
told-append (printed.Create line answer ∷ xs) ys = told-append xs ys
told-append (printed.Join line answer ∷ xs) ys = told-append xs ys
told-append (printed.Sync line report ∷ xs) ys = told-append xs ys
told-append (printed.Pull line taken refused ∷ xs) ys = told-append xs ys
told-append (printed.Give line answer ∷ xs) ys = told-append xs ys
told-append (printed.Freeze line len ∷ xs) ys = told-append xs ys
told-append (printed.Publish line count ∷ xs) ys = told-append xs ys
told-append (printed.Block b ∷ xs) ys = ap (λ (told : List NodeSummary). node_summary b ∷ told) (told-append xs ys)
told-append (printed.Names b ∷ xs) ys = told-append xs ys

-- so it is of the first nodes, and of one more
pub told_none : (members : MemberList) (w : WorldView) → [] ≡ list_below (told_at w) 0 (has_node members)
unfolding list_below
told_none members w = refl

pub told_more : (members : MemberList) (w : WorldView) (before told : List NodeSummary) (m : ℕ) → before ≡ list_below (told_at w) m (has_node members) → told ≡ before ++ cond (has_node members m) (told_at w m ∷ []) [] →
    told ≡ list_below (told_at w) (m + 1) (has_node members)
unfolding list_below
told_more members w before told m before_is told_is =
    rw add-one (told_is ∙ ap (λ (b : List NodeSummary). b ++ cond (has_node members m) (told_at w m ∷ []) []) before_is)

pub all_told : (members : MemberList) (w : WorldView) → IsWorld w → AreMadeWith members w → (n : ℕ) → n ≤ length w.sites →
    list_below (told_at w) n (has_node members) ≡ pieces_told (list_below (kept_at members w) n (has_node members))
unfolding list_below
all_told members w lawful made zero within = refl
all_told members w lawful made (suc n) within =
    ap₂ (λ (xs ys : List NodeSummary). xs ++ ys) (all_told members w lawful made n (omega (arith, within))) (last (has_node members n))
    ∙ sym (told-append (list_below (kept_at members w) n (has_node members)) (cond (has_node members n) (kept_at members w n ∷ []) []))
  where
    last : (b : Bool) → cond b (told_at w n ∷ []) [] ≡ pieces_told (cond b (kept_at members w n ∷ []) [])
    last true =
        let site = lawful.sites n (omega (arith, within)) in
        ap (λ (told : NodeSummary). told ∷ []) (told_is accepts_by members n (node_at w n) (made n (omega (arith, within))) site.node site.is.own)
    last false = refl

-- ---- nodes that are settled one after the other

pub settled_none : (members : MemberList) (w : WorldView) → SettledBelow members 0 w w
settled_none members w = record { done = λ k low node. absurd (omega (arith, low)); rest = λ k past. refl }

-- to settle a node leaves the others
still : (members : MemberList) (w : WorldView) (m k : ℕ) → k ≢ m → node_at (after_steps w (end_steps_of members m)) k ≡ node_at w k
still members w m k other = go (has_node members m)
  where
    go : (b : Bool) → node_at (after_steps w (cond b (settle_steps m) [])) k ≡ node_at w k
    go true =
        let v = after_step w (Freeze m 0) in
        let settled : Site = site_of (node_published (node_at v m) (frozen_by v m 0) whole) (site_at v m).frozen in
        let frozen : Site = site_of (node_at w m) (slice_set (site_at w m).frozen 0 (length (rows_at w m))) in
        ap (λ (s : Site). s.node) (get_or-set_other v.sites m k settled no_site other) ∙ ap (λ (s : Site). s.node) (get_or-set_other w.sites m k frozen no_site other)
    go false = refl

pub settled_next : (members : MemberList) (old now new : WorldView) (m : ℕ) → SettledBelow members m old now → new ≡ after_steps now (end_steps_of members m) →
    IsSettledNode members m now new → SettledBelow members (m + 1) old new
settled_next members old now new m so step settled =
    let same : (k : ℕ) → k ≢ m → node_at new k ≡ node_at now k = λ k other. ap (λ (w : WorldView). node_at w k) step ∙ still members now m k other in
    record {
      done = λ k low node. elim (cases_eq k m) [
        | inl here ↦ subst (λ (j : ℕ). IsSettled (node_at old j) (node_at new j)) (sym here)
            (subst (λ (v : NodeView Secrets). IsSettled v (node_at new m)) (so.rest m (omega arith)) (settled (subst (λ (j : ℕ). has_node members j ≡ true) here node)))
        | inr other ↦
            let lower : k < m = lower_than k m low other in
            subst (λ (v : NodeView Secrets). IsSettled (node_at old k) v) (sym (same k other)) (so.done k lower node)
      ];
      rest = λ k past. same k (above m k past) ∙ so.rest k (omega (arith, past));
    }
  where
    lower_than : (k m : ℕ) → k < m + 1 → k ≢ m → k < m
    lower_than k m low other = elim (cases_lt k m) [
      | inl lower ↦ lower
      | inr past ↦ (let here : k ≡ m = omega (arith, low, past) in absurd (other here))
    ]

    above : (m k : ℕ) → m + 1 ≤ k → k ≢ m
    above m k past = λ here. absurd (omega (arith, past, here))

blocks_same : {A : Type 0} (f g : ℕ → A) (n : ℕ) (test : ℕ → Bool) → ((m : ℕ) → m < n → test m ≡ true → f m ≡ g m) → list_below f n test ≡ list_below g n test
unfolding list_below
blocks_same f g zero test same = refl
blocks_same {A} f g (suc n) test same =
    ap₂ (λ (xs ys : List A). xs ++ ys) (blocks_same f g n test (λ m low is. same m (omega (arith, low)) is)) (last (test n) refl)
  where
    last : (b : Bool) → test n ≡ b → cond b (f n ∷ []) [] ≡ cond b (g n ∷ []) []
    last true is = ap (λ (x : A). x ∷ []) (same n (omega arith) is)
    last false is = refl

-- ---- the summary of all

-- what the world of a play is once its nodes are settled
pub record IsSummed (members : MemberList) (lines : List Line) (last : WorldView) : Type 0 where
  pub made : AreMadeWith members last
  pub count : length last.sites ≡ length members.entries
  pub told : world_outcome members last ≡ summary members lines
  pub safely : IsSafePlay members lines

pub played_sites : (members : MemberList) (lines : List Line) (world : WorldView) → WorldsAlike world (after_lines members (first_stage members) lines).world → length world.sites ≡ length members.entries
played_sites members lines world alike =
    let s = after_lines members (first_stage members) lines in
    alike.count ∙ starts_length members s.world (starts-lines members (first_stage members) lines ∙ starts-new members)

pub summed : (members : MemberList) (workers : ℕ) (lines : List Line) (world last : WorldView) → All (IsLine members workers) lines → IsWorld (new_world members) →
    WorldsAlike world (after_lines members (first_stage members) lines).world → last ≡ after_steps world (end_steps members (length members.entries)) → SettledBelow members (length members.entries) world last → IsWorld last →
    IsSummed members lines last
unfolding summary
summed members workers lines world last lawful new alike is settled is_last =
    let s = after_lines members (first_stage members) lines in
    let n = length members.entries in
    let tail = end_steps members n in
    let begun : starts_of world ≡ starts members = starts_alike world s.world alike ∙ (starts-lines members (first_stage members) lines ∙ starts-new members) in
    let begun_last : starts_of last ≡ starts members = ap starts_of is ∙ (starts-steps world tail ∙ begun) in
    let played : IsPlayed members lines world s.printed = record { world = alike; pieces = refl } in
    let shown : MatchesBlocks (seen_alone world) (seen_alone last) members [] (end_blocks members world) =
    λ alone w same. ((λ begun_w. ap (end_blocks members) same), is ∙ ap (λ (v : WorldView). after_steps v tail) same) in
    let e = ends members lines world last s.printed [] (end_blocks members world) new (lines_below members workers n lines refl lawful) played shown is_last in
    let blocks : list_below (kept_at members last) n (has_node members) ≡ end_blocks members world =
    blocks_same (kept_at members last) (block_at members world) n (has_node members) (λ m low node.
    ap (λ (b : Block). let p : Printed = printed.Block b in p)
    (settled_is members m (node_at world m) (node_at last m) (start_read members world m begun (omega (arith, low, starts_length members world begun))) (settled.done m low node))) in
    record {
      made = λ m low. made_in members m (node_at last m) (start_read members last m begun_last low);
      count = starts_length members last begun_last;
      told = ap (λ (pieces : List Printed). let o : Outcome = record { names = names_of members; printed = pieces } in o) (blocks ∙ e.shown);
      safely = e.safely;
    }
