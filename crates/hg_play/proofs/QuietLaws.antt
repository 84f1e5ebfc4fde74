-- Lines that are played one after the other, and nothing is kept of what they print
use Rattle.std.proofs.Common.{◌≡◌, ◌∙◌, ◌+◌, ◌<◌, ℕ, suc, List, [], ◌∷◌, drop, length, take, get_or, sym, refl, ap, ap₂, subst, add-one, arith}
use Rattle.std.proofs.Math.Seq.{drop-cons}
use Rattle.std.proofs.lemmas.List.Sums.{fold_more}
use Rattle.hg_life.specs.Members.{MemberList}
use Rattle.hg_script.specs.declared.line.Action.{Action}
use Rattle.hg_script.specs.declared.line.Line.{Line}
use Rattle.hg_world.specs.World.{WorldView, new_world}
use Rattle.hg_world.specs.Steps.{after_steps}
use Rattle.hg_play.specs.Alike.{WorldsAlike}
use Rattle.hg_play.specs.Lines.{action_labels, action_steps}
use Rattle.hg_play.specs.Nodes.{IsStage, PlaysLine, seen_alone}
use Rattle.hg_play.specs.Play.{after_line, after_lines, first_stage, stage}
use Rattle.hg_play.specs.Sites.{starts, starts_of}
use Rattle.hg_play.specs.Summaries.{PlaysQuietly}
use Rattle.hg_play.specs.Tape.{TapeView, tape}
use Rattle.hg_play.proofs.LikeLaws.{worlds_alike}
use Rattle.hg_play.proofs.WorldLaws.{starts-lines, starts-new}

-- the first of what is left of a list
pub some_left : {X : Type 0} (xs rest : List X) (i : ℕ) (d : X) → rest ≡ drop i xs → i < length xs → 0 < length rest
some_left xs rest i d is lt = (let long : length rest ≡ length (get_or xs i d ∷ drop (suc i) xs) = ap length (is ∙ drop-cons xs i d lt) in omega (arith, long))

pub first_is : {X : Type 0} (xs rest rest_new : List X) (i : ℕ) (x : X) → rest ≡ drop i xs → i < length xs → rest ≡ x ∷ rest_new → x ≡ get_or xs i x
first_is xs rest rest_new i x is lt next = ap (λ l. get_or l 0 x) (sym next ∙ (is ∙ drop-cons xs i x lt))

pub others_are : {X : Type 0} (xs rest rest_new : List X) (i : ℕ) (x : X) → rest ≡ drop i xs → i < length xs → rest ≡ x ∷ rest_new → rest_new ≡ drop (i + 1) xs
others_are xs rest rest_new i x is lt next = ap (λ l. drop 1 l) (sym next ∙ (is ∙ drop-cons xs i x lt)) ∙ ap (λ k. drop k xs) (sym (add-one i))

-- the nodes and the labels after so many lines
abbrev pub QuietSoFar : MemberList → List Line → ℕ → WorldView → WorldView → List (List ℕ) → Type 0
QuietSoFar members lines i old now labels =
    starts_of old ≡ starts members → (let s = after_lines members (stage old [] []) (take i lines) in (now ≡ s.world) × (labels ≡ s.labels))

pub quiet_none : (members : MemberList) (lines : List Line) (w : WorldView) → QuietSoFar members lines 0 w w []
quiet_none members lines w = λ begun. (refl, refl)

pub quiet_more : (members : MemberList) (lines : List Line) (i : ℕ) (line : Line) (old now new : WorldView) (t t_new : TapeView) → i < length lines → line ≡ get_or lines i line → t.printed ≡ [] →
    QuietSoFar members lines i old now t.labels → PlaysLine members line now t new t_new → QuietSoFar members lines (i + 1) old new t_new.labels
quiet_more members lines i line old now new t t_new within is silent so_far told = λ begun.
    let first = stage old [] [] in
    let s = after_lines members first (take i lines) in
    let here = so_far begun in
    let begun_now : starts_of now ≡ starts members = ap starts_of here.0 ∙ (starts-lines members first (take i lines) ∙ begun) in
    let quiet = stage now t.labels [] in
    let at : IsStage members (seen_alone now) t quiet = record { agrees = refl; begun = begun_now; taped = ap (λ (pieces : List Rattle.hg_outcome.specs.declared.outcome.Printed.Printed). tape t.labels pieces) silent } in
    let then = told tt quiet at in
    let next : after_lines members first (take (i + 1) lines) ≡ after_line members s line =
    fold_more (after_line members) first lines i line within ∙ ap (after_line members s) (sym is) in (
      then.agrees
          ∙ (ap₂ (λ (w : WorldView) (labels : List (List ℕ)). after_steps w (action_steps w labels line.action)) here.0 here.1
          ∙ ap (λ (u : Rattle.hg_play.specs.Play.Stage). u.world) (sym next)),
      ap (λ (u : TapeView). u.labels) then.taped
          ∙ (ap₂ (λ (w : WorldView) (labels : List (List ℕ)). action_labels members w labels line.action) here.0 here.1
          ∙ ap (λ (u : Rattle.hg_play.specs.Play.Stage). u.labels) (sym next)),
    )

-- all of them, over the members' nodes
pub played_quietly : (members : MemberList) (lines : List Line) (old now : WorldView) → old ≡ new_world members → PlaysQuietly members lines old now →
    WorldsAlike now (after_lines members (first_stage members) lines).world
played_quietly members lines old now is told =
    let all : now ≡ (after_lines members (stage old [] []) lines).world = told (ap starts_of is ∙ starts-new members) in
    subst (λ (w : WorldView). WorldsAlike now (after_lines members (stage w [] []) lines).world) is (subst (WorldsAlike now) all (worlds_alike now))
