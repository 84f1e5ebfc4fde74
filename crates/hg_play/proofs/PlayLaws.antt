-- Lines of a script that are played, and the blocks at the end
use Rattle.std.proofs.Common.{refl, ◌≡◌, cond, inl, inr, ℕ, ◌+◌, ◌<◌, true, false, List, [], ◌∷◌, ◌++◌, length, get_or, Option, slice_get, sym, ap, ap₂, ◌∙◌, subst, add-one, append_assoc}
use Rattle.std.specs.Prelude.{All}
use Rattle.std.specs.Option.{option_map_or}
use Rattle.std.proofs.lemmas.Bool.{true≢false, cases_lt}
use Rattle.std.proofs.lemmas.List.{append-nil}
use Rattle.std.proofs.lemmas.Option.{slice_get_past}
use Rattle.hg_life.specs.declared.members.MemberEntry.{MemberEntry}
use Rattle.hg_outcome.specs.declared.outcome.Printed.{Printed}
use Rattle.hg_life.specs.Members.{MemberList, has_node}
use Rattle.hg_model.specs.Places.{list_below}
use Rattle.hg_script.specs.declared.line.Line.{Line}
use Rattle.hg_script.specs.declared.line.Gossip.{Gossip}
use Rattle.hg_script.specs.declared.line.Gossip.TheVariants.{Create, Sync, Pull, Join, Give}
use Rattle.hg_script.specs.declared.line.Source.{Source}
use Rattle.hg_script.specs.declared.line.Source.TheVariants.{Last, Forged, Raw, Altered, Front}
use Rattle.hg_script.specs.declared.line.Part.TheVariants as part
use Rattle.hg_script.specs.declared.line.Action.{Action}
use Rattle.hg_script.specs.declared.line.Action.TheVariants as action
use Rattle.hg_script.specs.Lawful.{IsGossip, IsSource, IsLawful, IsLine}
use Rattle.hg_world.specs.World.{WorldView}
use Rattle.hg_play.specs.Lines.{IsBelow, IsGossipBelow, IsLineBelow, IsSourceBelow}
use Rattle.hg_play.specs.Outcomes.{kept_at, with_kept}
use Rattle.hg_play.specs.Play.{block_at}

-- what three things make is what others make that are the same
pub ap_three : {A B C D : Type 0} (f : A → B → C → D) {a a2 : A} {b b2 : B} {c c2 : C} → a ≡ a2 → b ≡ b2 → c ≡ c2 → f a b c ≡ f a2 b2 c2
ap_three f {a2 = a2} {c = c} p q r = ap₂ (λ x y. f x y c) p q ∙ ap (f a2 _) r

has_node_below : (entries : List MemberEntry) (m : ℕ) → option_map_or (λ (e : MemberEntry). e.has_node) (slice_get entries m) false ≡ true → m < length entries
has_node_below entries m has = elim (cases_lt m (length entries)) [
  | inl low ↦ low
  | inr past ↦ absurd (true≢false (sym has ∙ ap (λ (o : Option MemberEntry). option_map_or (λ (e : MemberEntry). e.has_node) o false) (slice_get_past entries m past)))
]

gossip_below : (members : MemberList) (g : Gossip) → IsGossip members g → IsGossipBelow (length members.entries) g
gossip_below members (Create m time payload) node = has_node_below members.entries m node.0
gossip_below members (Sync taker peer time payload) node = (has_node_below members.entries taker node.0, has_node_below members.entries peer node.1)
gossip_below members (Pull taker peer) node = (has_node_below members.entries taker node.0, has_node_below members.entries peer node.1)
gossip_below members (Join m others time payload) node = (has_node_below members.entries m node.0, node.2.1)
gossip_below members (Give m label) node = has_node_below members.entries m node

source_below : (members : MemberList) (s : Source) → IsSource members s → IsSourceBelow (length members.entries) s
source_below members (Last m) node = has_node_below members.entries m node
source_below members (Forged m parents time payload) fits = fits
source_below members (Raw bytes) node = tt
source_below members (Altered label at mask) node = tt
source_below members (Front label len) node = tt

action_below : (members : MemberList) (a : Action) → IsLawful members a → IsBelow (length members.entries) a
action_below members (action.Part (part.Gossip g)) lawful = gossip_below members g lawful
action_below members (action.Part (part.Label s)) lawful = source_below members s lawful
action_below members (action.Freeze m worker) lawful = (has_node_below members.entries m lawful.0, lawful.1)
action_below members (action.Publish m worker) lawful = (has_node_below members.entries m lawful.0, lawful.1)
action_below members (action.Kept m) lawful = has_node_below members.entries m lawful
action_below members (action.Show m) lawful = has_node_below members.entries m lawful
action_below members (action.Names m) lawful = has_node_below members.entries m lawful

-- lawful lines name members alone
pub lines_below : (members : MemberList) (workers N : ℕ) (lines : List Line) → N ≡ length members.entries → All (IsLine members workers) lines → All (IsLineBelow N) lines
lines_below members workers N lines long lawful = λ k d low. subst (λ (n : ℕ). IsBelow n (get_or lines k d).action) (sym long) (action_below members (get_or lines k d).action (lawful k d low).0)

-- one block more
pub block_more : (members : MemberList) (w : WorldView) (before now : List Printed) (m : ℕ) (printed : List Printed) →
    before ≡ now ++ list_below (block_at members w) m (has_node members) →
    printed ≡ before ++ cond (has_node members m) (block_at members w m ∷ []) [] →
    printed ≡ now ++ list_below (block_at members w) (m + 1) (has_node members)
unfolding list_below
block_more members w before now m printed before_is printed_is =
    let f = block_at members w in
    let test = has_node members in
    rw add-one
    (printed_is ∙ (ap (λ (b : List Printed). b ++ cond (test m) (f m ∷ []) []) before_is
    ∙ append_assoc now (list_below f m test) (cond (test m) (f m ∷ []) [])))

pub no_blocks : (members : MemberList) (w : WorldView) (now : List Printed) → now ≡ now ++ list_below (block_at members w) 0 (has_node members)
unfolding list_below
no_blocks members w now = sym (append-nil now)

-- the same of nodes as they are
pub kept_none : (members : MemberList) (w : WorldView) → [] ≡ list_below (kept_at members w) 0 (has_node members)
unfolding list_below
kept_none members w = refl

pub kept_more : (members : MemberList) (w : WorldView) (before printed : List Printed) (m : ℕ) → before ≡ list_below (kept_at members w) m (has_node members) → printed ≡ with_kept members w before m →
    printed ≡ list_below (kept_at members w) (m + 1) (has_node members)
unfolding list_below
kept_more members w before printed m before_is printed_is =
    rw add-one (printed_is ∙ ap (λ (b : List Printed). b ++ cond (has_node members m) (kept_at members w m ∷ []) []) before_is)
