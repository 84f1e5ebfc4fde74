-- What is found at an earlier moment may be published later
use Rattle.std.proofs.Common.{◌≡◌, ℕ, Bool, true, false, List, [], ◌∷◌, ◌++◌, if◌then◌else◌, Result, Ok, Err, OnOk, OnErr, IfOk, sym, subst}
use Rattle.std.specs.List.{All}
use Rattle.std.proofs.lemmas.List.Elements.{All-push}
use Rattle.hg_model.specs.Links.{Link, links}
use Rattle.hg_model.specs.Prefix.{Graph}
use Rattle.hg_model.specs.Prefix.{graph_of}
use Rattle.hg_model.specs.Shares.{Speaks}
use Rattle.hg_frozen.specs.View.{FrozenView}
use Rattle.hg_life.specs.History.{Change}
use Rattle.hg_life.specs.declared.answers.MakeAnswer.{MakeAnswer}
use Rattle.hg_life.specs.Calls.{IsMaking, make_changes}
use Rattle.hg_life.specs.NodeView.{NodeView, IsNode, node_rows, with_changes, terms_of}
use Rattle.hg_life.specs.Signing.{Accepts}
use Rattle.hg_history.specs.Laws.{FoundLasts, LinksAreThoseOfTheRows}
use Rattle.check_graphs.specs.Moments.{IsFrozenOf, IsMomentOf}

pub speaks_later : {K : Type 0} (v w : NodeView K) (es : List Change) → w ≡ with_changes v es → FoundLasts → (fs : List FrozenView) → All (IsFrozenOf v) fs → All (IsFrozenOf w) fs
speaks_later {K} v w es grown lasts fs all = subst (λ (s : NodeView K). All (IsFrozenOf s) fs) (sym grown)
    (λ k d lt len share found speaks. lasts v.start.members v.start.coin v.history es len share found (all k d lt len share found speaks))

pub speaks_now : {K : Type 0} (accepts : K → Accepts) (v : NodeView K) (g : Graph) → IsNode accepts v → LinksAreThoseOfTheRows → g ≡ graph_of v.start.members v.start.coin (node_rows v) → IsMomentOf v g
speaks_now accepts v g node law same len share found speaks =
    let n = v.start.members in
    let c = v.start.coin in
    let G = node_rows v in
    let now : Speaks n c G (links G) len share found = subst (λ (h : Graph). Speaks h.members h.coin h.rows (links h.rows) len share found) same speaks in
    subst (λ (L : List Link). Speaks n c G L len share found) (sym (law (terms_of accepts v.start) n c v.start.own v.history node.coin node.history)) now

pub speaks_after : {K R E : Type 0} (v w : NodeView K) (es : List Change) (r : Result R E) → OnOk r (w ≡ with_changes v es) → OnErr r (w ≡ v) → FoundLasts →
    (fs : List FrozenView) → All (IsFrozenOf v) fs → All (IsFrozenOf w) fs
speaks_after v w es (Ok x) ok err lasts fs all = speaks_later v w es ok lasts fs all
speaks_after {K} v w es (Err e) ok err lasts fs all = subst (λ (s : NodeView K). All (IsFrozenOf s) fs) (sym err) all

pub speaks_made : {K E : Type 0} (accepts : K → Accepts) (v w : NodeView K) (others : List (List ℕ)) (time : ℕ) (payload : List ℕ) (r : Result MakeAnswer E) →
    IfOk r (λ answer. IsMaking accepts v others time payload answer w) → OnErr r (w ≡ v) → FoundLasts → (fs : List FrozenView) → All (IsFrozenOf v) fs → All (IsFrozenOf w) fs
speaks_made accepts v w others time payload (Ok answer) ok err lasts fs all = speaks_later v w (make_changes v others time payload ok.sig) ok.grown lasts fs all
speaks_made {K} accepts v w others time payload (Err e) ok err lasts fs all = subst (λ (s : NodeView K). All (IsFrozenOf s) fs) (sym err) all

pub all_pushed : {X : Type 0} (P : X → Type 0) (xs ys : List X) (x : X) (b : Bool) → ys ≡ (if b then xs ++ x ∷ [] else xs) → P x → All P xs → All P ys
all_pushed P xs ys x true is one all = subst (All P) (sym is) (All-push P xs x all one)
all_pushed P xs ys x false is one all = subst (All P) (sym is) all
