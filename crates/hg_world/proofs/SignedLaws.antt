-- Events that a node accepts as signed: those of a node that began with the same members and keys
use Rattle.std.proofs.Common.{◌≡◌, ℕ, suc, ◌<◌, true, false, not, cond, Bool, List, [], ◌∷◌, length, get_or, sym, ap, ◌∙◌, subst, arith}
use Rattle.std.specs.List.{AllByRecursion, filter}
use Rattle.std.proofs.lemmas.List.{get_or_default}
use Rattle.hg_model.specs.declared.row.Row.{Row}
use Rattle.hg_model.specs.Held.{lacking, is_held}
use Rattle.hg_model.specs.Links.{no_row}
use Rattle.hg_model.specs.Stakes.{member_count}
use Rattle.hg_life.specs.Signing.{accepts_by}
use Rattle.hg_life.specs.Spelling.{body_of}
use Rattle.hg_life.specs.NodeView.{NodeView, Start, IsNode, node_rows, terms_of}
use Rattle.hg_model.proofs.LinkLaws.{creator-links, length-links}
use Rattle.hg_history.specs.Laws.{IsEvent}
use Rattle.hg_history.proofs.SoundLaws.{sound}
use Rattle.hg_world.specs.World.{Secrets, WorldView, node_at, rows_at}
use Rattle.hg_gossip.specs.Taking.{AreSigned, IsSigned}
use Rattle.hg_world.specs.Parts.{IsWorld}

pub all_filtered : (P : Row → Type 0) (keeps : Row → Bool) (rows : List Row) → AllByRecursion P rows → AllByRecursion P (filter keeps rows)
all_filtered P keeps [] all = tt
all_filtered P keeps (row ∷ rows) all = by (keeps row) (all_filtered P keeps rows all.1)
  where
    by : (b : Bool) → AllByRecursion P (filter keeps rows) → AllByRecursion P (cond b (row ∷ filter keeps rows) (filter keeps rows))
    by true then = (all.0, then)
    by false then = then

-- the rows of a node are so for the node
signed_events : (start : Start Secrets) (rows : List Row) → AllByRecursion (IsEvent (accepts_by start.keys)) rows →
    ((x : ℕ) → x < length rows → (get_or rows x no_row).creator < member_count start.members) → AreSigned accepts_by start rows
signed_events start [] events fit = tt
signed_events start (row ∷ rows) events fit = (
  record { fits = fit 0 (omega arith); signed = events.0.signed },
  signed_events start rows events.1 (λ x low. fit (suc x) (omega (arith, low))),
)

signed_own : (v : NodeView Secrets) → IsNode accepts_by v → AreSigned accepts_by v.start (node_rows v)
signed_own v node =
    let s = sound (terms_of accepts_by v.start) v.start.members v.start.coin v.start.own v.history node.coin node.history in
    signed_events v.start (node_rows v) s.events
    (λ x low. subst (λ (m : ℕ). m < member_count v.start.members) (creator-links (node_rows v) x (get_or (node_rows v) x no_row) low (get_or_default (node_rows v) x no_row (get_or (node_rows v) x no_row) low))
    (s.graph.shaped.members x (omega (arith, low, length-links (node_rows v)))))

-- and for one with the same members and keys
signed_alike : (a b : Start Secrets) (rows : List Row) → a.members ≡ b.members → a.keys ≡ b.keys → AreSigned accepts_by a rows → AreSigned accepts_by b rows
signed_alike a b [] members keys all = tt
signed_alike a b (row ∷ rows) members keys all = (
  record {
    fits = omega (arith, all.0.fits, ap member_count members);
    signed = subst (λ (k : Secrets). accepts_by k row.creator (body_of row) row.sig ≡ true) keys all.0.signed;
  },
  signed_alike a b rows members keys all.1,
)

-- so what a node of the world lacks of another's is signed for it
pub lacked_signed : (w : WorldView) (taker peer : ℕ) (rows : List Row) → IsWorld w → taker < length w.sites → peer < length w.sites → rows ≡ lacking (rows_at w taker) (rows_at w peer) →
    AreSigned accepts_by (node_at w taker).start rows
lacked_signed w taker peer rows world low_taker low_peer is =
    let t = world.sites taker low_taker in
    let p = world.sites peer low_peer in
    subst (AreSigned accepts_by (node_at w taker).start) (sym is)
    (all_filtered (IsSigned accepts_by (node_at w taker).start) (λ (row : Row). not (is_held (rows_at w taker) row.name)) (rows_at w peer)
    (signed_alike (node_at w peer).start (node_at w taker).start (rows_at w peer) (p.is.members ∙ sym t.is.members) (p.keyed ∙ sym t.keyed)
    (signed_own (node_at w peer) p.node)))
