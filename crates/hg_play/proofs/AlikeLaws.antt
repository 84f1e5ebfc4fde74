-- Steps need rows alone
use Rattle.std.proofs.Common.{◌≡◌, inl, inr, ℕ, List, [], ◌∷◌, ◌++◌, length, fold, map, Option, Some, None, append_assoc, Result, Ok, Err, sym, refl, ap, ap₂, ◌∙◌, subst, arith}
use Rattle.std.proofs.lemmas.Bool.{cases_eq, cases_lt}
use Rattle.std.proofs.lemmas.List.{append-nil, length-set, get_or-set_same, get_or-set_other, get_or_past}
use Rattle.hg_model.specs.declared.row.Row.{Row}
use Rattle.hg_life.specs.declared.answers.SyncMade.{SyncMade}
use Rattle.hg_life.specs.declared.answers.SyncReport.{SyncReport}
use Rattle.hg_model.specs.Held.{lacking}
use Rattle.hg_life.specs.Gossip.{made_in_sync}
use Rattle.hg_model.specs.Stakes.{Stakes}
use Rattle.hg_model.specs.Shares.{Share}
use Rattle.hg_life.specs.Signing.{accepts_by, signature_by}
use Rattle.hg_life.specs.declared.answers.ByteFault.{ByteFault}
use Rattle.hg_life.specs.declared.answers.PutAnswer.{PutAnswer}
use Rattle.hg_life.specs.Reading.{read_event}
use Rattle.hg_life.specs.Spelling.{body_bytes, spelling}
use Rattle.hg_life.specs.Verdict.{last_name, made_row, making, parents_on, row_verdict, verdict}
use Rattle.hg_life.specs.History.{Change, State, step, with_marks, with_row}
use Rattle.hg_life.specs.History.Change.{Took, Made, Marked}
use Rattle.hg_life.specs.NodeView.{NodeView, Start, node_rows, node_state, with_changes, terms_of}
use Rattle.hg_life.specs.Calls.{made_by, make_answer, make_body, make_changes, put_answer, put_changes, taken_by, taken_from}
use Rattle.hg_history.proofs.StateLaws.{replay-append}
use Rattle.hg_gossip.specs.declared.gossip.Taken.{Taken}
use Rattle.hg_gossip.specs.Gossip.{none_taken, with_answer}
use Rattle.hg_gossip.specs.Nodes.{Taking, lacked, take_event, taking, taking_of}
use Rattle.hg_world.specs.declared.step.Step.{Step}
use Rattle.hg_world.specs.declared.step.Step.TheVariants.{Make, Deliver, Freeze, Publish}
use Rattle.hg_world.specs.declared.step.Reply.TheVariants as reply
use Rattle.hg_world.specs.World.{Secrets, Site, WorldView, no_site, node_at, with_site}
use Rattle.hg_world.specs.Steps.{after_step, node_published, node_put, own_signature, putting_at}
use Rattle.hg_world.specs.Syncs.{last_made, made_after, make_steps, pull_steps, pulled}
use Rattle.hg_play.specs.Alike.{AnswersAlike, AreAlike, GossipAlike, MadeAlike, PutAlike, StayAlike, WorldsAlike}
use Rattle.hg_play.proofs.WorldLaws.{rows_published}

-- the rows that changes add
abbrev pub added : List Change → List Row
added [] = []
added (Took row ∷ h) = row ∷ added h
added (Made row ∷ h) = row ∷ added h
added (Marked len share ∷ h) = added h

rows_fold : (n : Stakes) (c : ℕ) (s : State) (h : List Change) → (fold (step n c) s h).rows ≡ s.rows ++ added h
rows_fold n c s [] = sym (append-nil s.rows)
rows_fold n c s (Took row ∷ h) = rows_fold n c (with_row n s row) h ∙ append_assoc s.rows (row ∷ []) (added h)
rows_fold n c s (Made row ∷ h) = rows_fold n c (with_row n s row) h ∙ append_assoc s.rows (row ∷ []) (added h)
rows_fold n c s (Marked len share ∷ h) = rows_fold n c (with_marks n c s len share) h

pub rows_changed : (v : NodeView Secrets) (es : List Change) → node_rows (with_changes v es) ≡ node_rows v ++ added es
rows_changed v es =
    ap (λ (s : State). s.rows) (replay-append v.start.members v.start.coin v.history es) ∙ rows_fold v.start.members v.start.coin (node_state v) es

-- the same changes leave nodes alike
changed_alike : (v u : NodeView Secrets) (es fs : List Change) → AreAlike v u → es ≡ fs → AreAlike (with_changes v es) (with_changes u fs)
changed_alike v u es fs alike same = record {
  start = alike.start;
  rows = rows_changed v es ∙ (ap₂ (λ (G : List Row) (hs : List Change). G ++ added hs) alike.rows same ∙ sym (rows_changed u fs));
}

-- what a function of start and rows gives
pub same_of : {A : Type 0} (f : Start Secrets → List Row → A) (v u : NodeView Secrets) → AreAlike v u → f v.start (node_rows v) ≡ f u.start (node_rows u)
same_of f v u alike = ap₂ f alike.start alike.rows

taken_same : (v u : NodeView Secrets) (read : Result Row ByteFault) → AreAlike v u → taken_from accepts_by v read ≡ taken_from accepts_by u read
taken_same v u (Err e) alike = refl
taken_same v u (Ok row) alike =
    ap (λ (a : PutAnswer). taken_by a row) (same_of (λ s G. row_verdict (terms_of accepts_by s) s.members s.own G row) v u alike)

put_alike : (v u : NodeView Secrets) (bytes : List ℕ) → AreAlike v u → PutAlike v u bytes
unfolding put_answer put_changes
put_alike v u bytes alike = (
  same_of (λ s G. verdict (terms_of accepts_by s) s.members s.own G bytes) v u alike,
  changed_alike v u (put_changes accepts_by v bytes) (put_changes accepts_by u bytes) alike (taken_same v u (read_event bytes) alike),
)

-- the signature, too, is one of start and rows
abbrev signed : Start Secrets → List Row → List (List ℕ) → ℕ → List ℕ → List ℕ
signed s G others time payload = signature_by s.keys s.own (body_bytes s.own (parents_on (last_name s.own G) others) time payload)

made_alike : (v u : NodeView Secrets) (others : List (List ℕ)) (time : ℕ) (payload : List ℕ) → AreAlike v u → MadeAlike v u others time payload
unfolding make_answer make_body make_changes
made_alike v u others time payload alike =
    let answer = λ (s : Start Secrets) (G : List Row). making s.limit s.own G others time payload (signed s G others time payload) in (
      same_of answer v u alike,
      changed_alike v u (make_changes v others time payload (own_signature v others time payload)) (make_changes u others time payload (own_signature u others time payload)) alike
          (same_of (λ s G. made_by (answer s G) (made_row s.own G others time payload (signed s G others time payload))) v u alike),
    )

published_alike : (v u : NodeView Secrets) (len : ℕ) (share : Share) → AreAlike v u → AreAlike (node_published v len share) u
published_alike v u len share alike = record { start = alike.start; rows = rows_published v len share ∙ alike.rows }

pub stay_alike : (v u : NodeView Secrets) → AreAlike v u → StayAlike v u
stay_alike v u alike = record {
  put = λ bytes. put_alike v u bytes alike;
  made = λ others time payload. made_alike v u others time payload alike;
  published = λ len share. published_alike v u len share alike;
  last = same_of (λ s G. last_name s.own G) v u alike;
}

-- another site in each of two worlds
site_alike : (w v : WorldView) (m : ℕ) (a b : Site) (k : ℕ) → WorldsAlike w v → AreAlike a.node b.node → AreAlike (node_at (with_site w m a) k) (node_at (with_site v m b) k)
site_alike w v m a b k alike nodes = elim (cases_eq k m) [
  | inl here ↦ elim (cases_lt k (length w.sites)) [
    | inl low ↦
        let first : node_at (with_site w m a) k ≡ a.node = rw here (ap (λ (s : Site). s.node) (get_or-set_same w.sites m a no_site (omega (arith, low, here)))) in
        let second : node_at (with_site v m b) k ≡ b.node = rw here (ap (λ (s : Site). s.node) (get_or-set_same v.sites m b no_site (omega (arith, low, here, alike.count)))) in
        rw (first, second) nodes
    | inr past ↦
        let first : node_at (with_site w m a) k ≡ no_site.node = ap (λ (s : Site). s.node) (get_or_past (with_site w m a).sites k no_site (omega (arith, past, length-set w.sites m a))) in
        let second : node_at (with_site v m b) k ≡ no_site.node = ap (λ (s : Site). s.node) (get_or_past (with_site v m b).sites k no_site (omega (arith, past, alike.count, length-set v.sites m b))) in
        rw (first, second) record { start = refl; rows = refl }
  ]
  | inr other ↦
      let first : node_at (with_site w m a) k ≡ node_at w k = ap (λ (s : Site). s.node) (get_or-set_other w.sites m k a no_site other) in
      let second : node_at (with_site v m b) k ≡ node_at v k = ap (λ (s : Site). s.node) (get_or-set_other v.sites m k b no_site other) in
      rw (first, second) (alike.nodes k)
]

sites_alike : (w v : WorldView) (m : ℕ) (a b : Site) → WorldsAlike w v → AreAlike a.node b.node → WorldsAlike (with_site w m a) (with_site v m b)
sites_alike w v m a b alike nodes = record {
  count = length-set w.sites m a ∙ (alike.count ∙ sym (length-set v.sites m b));
  nodes = λ k. site_alike w v m a b k alike nodes;
}

pub step_alike : (w v : WorldView) (step : Step) → WorldsAlike w v → WorldsAlike (after_step w step) (after_step v step) × AnswersAlike w v step
step_alike w v (Make m others time payload) alike =
    let made = made_alike (node_at w m) (node_at v m) others time payload (alike.nodes m) in
    (sites_alike w v m _ _ alike made.1, ap reply.Make made.0)
step_alike w v (Deliver m bytes) alike =
    let put = put_alike (node_at w m) (node_at v m) bytes (alike.nodes m) in
    (sites_alike w v m _ _ alike put.1, ap reply.Put put.0)
step_alike w v (Freeze m worker) alike =
    (sites_alike w v m _ _ alike (alike.nodes m), ap (λ (G : List Row). reply.Frozen (length G)) (alike.nodes m).rows)
step_alike w v (Publish m worker share) alike =
    let own = published_alike (node_at w m) (node_at v m) _ share (alike.nodes m) in
    let other = published_alike (node_at v m) (node_at v m) _ share (record { start = refl; rows = refl }) in
    (sites_alike w v m _ _ alike (record { start = own.start; rows = own.rows ∙ sym other.rows }), tt)

-- events that are taken, one after the other
abbrev pub TakenAlike : Taking Secrets → Taking Secrets → Type 0
TakenAlike a b = (a.counts ≡ b.counts) × AreAlike a.node b.node

pub taking_alike : (v u : NodeView Secrets) (t : Taken) (events : List (List ℕ)) → AreAlike v u →
    TakenAlike (fold (take_event accepts_by) (taking_of v t) events) (fold (take_event accepts_by) (taking_of u t) events)
taking_alike v u t [] alike = (refl, alike)
taking_alike v u t (bytes ∷ events) alike =
    let put = put_alike v u bytes alike in
    let more = taking_alike (node_put v bytes) (node_put u bytes) (with_answer t (putting_at v bytes)) events put.1 in
    subst (λ (a : PutAnswer). TakenAlike (fold (take_event accepts_by) (taking_of (node_put v bytes) (with_answer t (putting_at v bytes))) events)
    (fold (take_event accepts_by) (taking_of (node_put u bytes) (with_answer t a)) events)) put.0 more

pulled_alike : (w v : WorldView) (taker peer : ℕ) → WorldsAlike w v → TakenAlike (pulled w taker peer) (pulled v taker peer)
pulled_alike w v taker peer alike =
    let own = alike.nodes taker in
    let same : lacked (node_at w taker) (node_at w peer) ≡ lacked (node_at v taker) (node_at v peer) =
    ap₂ (λ (G H : List Row). map spelling (lacking G H)) own.rows (alike.nodes peer).rows in
    subst (λ (events : List (List ℕ)). TakenAlike (pulled w taker peer) (taking accepts_by (node_at v taker) events)) same
    (taking_alike (node_at w taker) (node_at v taker) none_taken (lacked (node_at w taker) (node_at w peer)) own)

made_after_alike : (v u : NodeView Secrets) (other : Option (List ℕ)) (time : ℕ) (payload : List ℕ) → AreAlike v u → made_after v other time payload ≡ made_after u other time payload
made_after_alike v u None time payload alike = refl
made_after_alike v u (Some name) time payload alike = ap made_in_sync (made_alike v u (name ∷ []) time payload alike).0

pub gossip_alike : (w v : WorldView) (taker peer : ℕ) → WorldsAlike w v → GossipAlike w v taker peer
gossip_alike w v taker peer alike =
    let pull : pull_steps w taker peer ≡ pull_steps v taker peer =
    ap₂ (λ (G H : List Row). map (λ (bytes : List ℕ). Deliver taker bytes) (map spelling (lacking G H))) (alike.nodes taker).rows (alike.nodes peer).rows in
    let last : last_made (node_at w peer) ≡ last_made (node_at v peer) = same_of (λ s G. last_name s.own G) (node_at w peer) (node_at v peer) (alike.nodes peer) in
    let both = pulled_alike w v taker peer alike in
    record {
      pull = pull;
      counts = both.0;
      sync = λ time payload. ap₂ (λ (steps : List Step) (other : Option (List ℕ)). steps ++ make_steps taker other time payload) pull last;
      report = λ time payload.
          ap₂ (λ (t : Taken) (made : SyncMade). let report : SyncReport = record { taken = t.taken; refused = t.refused; made = made } in report) both.0
          (made_after_alike (pulled w taker peer).node (pulled v taker peer).node (last_made (node_at w peer)) time payload both.1
          ∙ ap (λ (other : Option (List ℕ)). made_after (pulled v taker peer).node other time payload) last);
    }
