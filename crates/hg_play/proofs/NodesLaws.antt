-- What is told of many nodes, call by call, and of the nodes of one thread
use Rattle.std.proofs.Common.{inl, inr, ◌≡◌, ℕ, ◌+◌, ◌<◌, cond, List, [], ◌∷◌, ◌++◌, length, get_or, take, Result, Ok, Err, sym, refl, ap, ap₂, ◌∙◌, subst, add-one, arith}
use Rattle.std.specs.Prelude.{All, IfOk, OnErr, OnOk}
use Rattle.std.proofs.lemmas.List.Sums.{fold_more}
use Rattle.hg_outcome.specs.declared.outcome.Printed.{Printed}
use Rattle.hg_life.specs.Members.{MemberList, has_node}
use Rattle.hg_model.specs.Places.{list_below}
use Rattle.hg_script.specs.declared.line.Part.{Part}
use Rattle.hg_script.specs.declared.line.Action.{Action}
use Rattle.hg_script.specs.declared.line.Action.TheVariants as action
use Rattle.hg_script.specs.declared.line.Line.{Line}
use Rattle.hg_world.specs.declared.step.Step.{Step}
use Rattle.hg_world.specs.World.{WorldView}
use Rattle.hg_world.specs.Steps.{RanSome, after_steps, settle_steps}
use Rattle.hg_play.specs.Lines.{action_steps, action_tape, part_line}
use Rattle.hg_play.specs.Nodes.{IsKept, IsStage, NodesView, MatchesBlock, MatchesLine, MatchesLines, Matched, seen_alone}
use Rattle.hg_play.specs.Play.{after_line, after_lines, block_at, end_steps, stage}
use Rattle.hg_play.specs.Sites.{starts, starts_of}
use Rattle.hg_play.specs.Tape.{TapeView, no_tape}
use Rattle.hg_play.specs.Through.{MatchesParts}
use Rattle.hg_play.proofs.PlayLaws.{block_more, no_blocks}
use Rattle.hg_play.proofs.WorldLaws.{block_same, sites_length, starts-steps, starts_length, steps-append}

-- what calls keep, one after the other
pub kept_same : {N : Type 0} (v : NodesView N) → IsKept v v
kept_same v = record { since = λ earlier is. is; back = λ alone. alone; count = refl }

pub kept_both : {N : Type 0} {old now new : NodesView N} → IsKept old now → IsKept now new → IsKept old new
kept_both a b = record {
  since = λ earlier is. b.since earlier (a.since earlier is);
  back = λ alone. a.back (b.back alone);
  count = b.count ∙ a.count;
}

-- what is told of two calls, one after the other
pub told_both : {N : Type 0} (old now new : NodesView N) (first rest all : WorldView → List Step) (P Q R : WorldView → Type 0) → (new.Alone → now.Alone) →
    ((w : WorldView) → all w ≡ first w ++ rest (after_steps w (first w))) → ((w : WorldView) → P w → Q (after_steps w (first w)) → R w) →
    Matched old now first P → Matched now new rest Q → Matched old new all R
told_both old now new first rest all P Q R back steps is one two = λ alone w agrees.
    let a = one (back alone) w agrees in
    let b = two alone (after_steps w (first w)) a.1 in
    (is w a.0 b.0, subst new.Agrees (sym (ap (after_steps w) (steps w) ∙ steps-append w (first w) (rest (after_steps w (first w))))) b.1)

-- the nodes of one thread
pub kept_alone : (old new : WorldView) → length new.sites ≡ length old.sites → IsKept (seen_alone old) (seen_alone new)
kept_alone old new long = record { since = λ earlier is. tt; back = λ alone. tt; count = long }

pub kept_steps : (old new : WorldView) (steps : List Step) → new ≡ after_steps old steps → IsKept (seen_alone old) (seen_alone new)
kept_steps old new steps is = kept_alone old new (sites_length new old (ap starts_of is ∙ starts-steps old steps))

pub kept_or_same : {A E : Type 0} (result : Result A E) (old new : WorldView) (steps : List Step) → OnOk result (new ≡ after_steps old steps) → OnErr result (new ≡ old) →
    IsKept (seen_alone old) (seen_alone new)
kept_or_same (Ok a) old new steps ok err = kept_steps old new steps ok
kept_or_same (Err e) old new steps ok err = kept_steps old new [] err

pub told_alone : (old new : WorldView) (steps : WorldView → List Step) (IsSo : WorldView → Type 0) → IsSo old → new ≡ after_steps old (steps old) → Matched (seen_alone old) (seen_alone new) steps IsSo
told_alone old new steps IsSo so is = λ alone w same. subst (λ (v : WorldView). IsSo v × (new ≡ after_steps v (steps v))) same (so, is)

-- a line by what is told of its call
pub line_told : {N : Type 0} (old new : NodesView N) (members : MemberList) (line : Line) (a : Action) (t t_new : TapeView) → line.action ≡ a →
    Matched old new (λ w. action_steps w t.labels a) (λ w. starts_of w ≡ starts members → t_new ≡ action_tape members w t line.number a) → MatchesLine members line old t new t_new
line_told old new members line a t t_new action told = λ alone s is.
    let w = s.world in
    let here = told alone w is.agrees in
    let steps : action_steps w t.labels a ≡ action_steps w s.labels line.action =
    ap₂ (λ (u : TapeView) (b : Action). action_steps w u.labels b) is.taped (sym action) in
    record {
      agrees = subst (λ (steps : List Step). new.Agrees (after_steps w steps)) steps here.1;
      begun = starts-steps w (action_steps w s.labels line.action) ∙ is.begun;
      taped = here.0 is.begun ∙ ap₂ (λ (u : TapeView) (b : Action). action_tape members w u line.number b) is.taped (sym action);
    }

-- no lines so far
pub parts_none : {N : Type 0} (members : MemberList) (v : NodesView N) (t t_now : TapeView) → t_now ≡ t → MatchesParts members [] v t v t_now
parts_none members v t t_now same = λ alone s at. record {
  agrees = at.agrees;
  begun = at.begun;
  taped = same ∙ at.taped;
}

-- one line more
pub parts_more : {N : Type 0} (old now new : NodesView N) (members : MemberList) (lines : List Line) (i : ℕ) (line : Line) (t_old t t_new : TapeView) → i < length lines → line ≡ get_or lines i line → (new.Alone → now.Alone) →
    MatchesParts members (take i lines) old t_old now t → MatchesLine members line now t new t_new → MatchesParts members (take (i + 1) lines) old t_old new t_new
parts_more old now new members lines i line t_old t t_new within is back so_far told = λ alone s at.
    let before = after_lines members s (take i lines) in
    let next : after_lines members s (take (i + 1) lines) ≡ after_line members before line =
    fold_more (after_line members) s lines i line within ∙ ap (after_line members before) (sym is) in
    subst (IsStage members new t_new) (sym next) (told alone before (so_far (back alone) s at))

-- what is told of a call that answers
pub told_by : {A E : Type 0} (result : Result A E) (old new : WorldView) (steps : WorldView → List Step) (IsSo : A → WorldView → Type 0) (P : A → Type 0) →
    ((a : A) → P a → IsSo a old × (new ≡ after_steps old (steps old))) → IfOk result P → IfOk result (λ a. Matched (seen_alone old) (seen_alone new) steps (IsSo a))
told_by (Ok a) old new steps IsSo P says is = let so = says a is in told_alone old new steps (IsSo a) so.0 so.1
told_by (Err e) old new steps IsSo P says is = tt

pub told_call : {A E : Type 0} (result : Result A E) (old new : WorldView) (steps : WorldView → List Step) (IsSo : A → WorldView → Type 0) →
    IfOk result (λ a. IsSo a old) → OnOk result (new ≡ after_steps old (steps old)) → IfOk result (λ a. Matched (seen_alone old) (seen_alone new) steps (IsSo a))
told_call (Ok a) old new steps IsSo so is = told_alone old new steps (IsSo a) so is
told_call (Err e) old new steps IsSo so is = tt

-- what is kept by a call that may have done some of its steps
pub kept_some : {A E : Type 0} (result : Result A E) (old new : WorldView) (steps : List Step) (P : A → Type 0) → ((a : A) → P a → new ≡ after_steps old steps) →
    (some : List Step) → IfOk result P → OnErr result (RanSome old some new) → IsKept (seen_alone old) (seen_alone new)
kept_some (Ok a) old new steps P says some is err = kept_steps old new steps (says a is)
kept_some (Err e) old new steps P says some is (inl same) = kept_steps old new [] same
kept_some (Err e) old new steps P says some is (inr ran) = kept_steps old new ran.first ran.after

-- the blocks of the first so many nodes
abbrev pub BlocksSoFar : {N : Type 0} → MemberList → ℕ → NodesView N → NodesView N → List Printed → List Printed → Type 0
BlocksSoFar members m old now before printed =
    Matched old now (λ w. end_steps members m) (λ w. starts_of w ≡ starts members → printed ≡ before ++ list_below (block_at members w) m (has_node members))

pub blocks_none : {N : Type 0} (members : MemberList) (v : NodesView N) (printed : List Printed) → BlocksSoFar members 0 v v printed printed
blocks_none members v printed = λ alone w agrees. ((λ begun. no_blocks members w printed), agrees)

-- and of one more
pub blocks_more : {N : Type 0} (old now new : NodesView N) (members : MemberList) (m : ℕ) (before printed printed_new : List Printed) → m < length members.entries → (new.Alone → now.Alone) →
    BlocksSoFar members m old now before printed → MatchesBlock now new members m printed printed_new → BlocksSoFar members (m + 1) old new before printed_new
blocks_more old now new members m before printed printed_new low back so_far told =
    told_both old now new (λ w. end_steps members m) (λ w. cond (has_node members m) (settle_steps m) []) (λ w. end_steps members (m + 1))
    (λ w. starts_of w ≡ starts members → printed ≡ before ++ list_below (block_at members w) m (has_node members))
    (λ w. starts_of w ≡ starts members → printed_new ≡ printed ++ cond (has_node members m) (block_at members w m ∷ []) [])
    (λ w. starts_of w ≡ starts members → printed_new ≡ before ++ list_below (block_at members w) (m + 1) (has_node members))
    back (λ w. rw add-one refl)
    (λ w first rest begun.
    let v = after_steps w (end_steps members m) in
    let block : block_at members v m ≡ block_at members w m = block_same members w m m (omega (arith, low, starts_length members w begun)) in
    block_more members w printed before m printed_new (first begun)
    (rest (starts-steps w (end_steps members m) ∙ begun) ∙ ap (λ (b : Printed). printed ++ cond (has_node members m) (b ∷ []) []) block))
    so_far told

-- all of them, over a world
pub lines_told : {N : Type 0} (old now : NodesView N) (members : MemberList) (lines : List Line) (t : TapeView) → MatchesParts members lines old no_tape now t → MatchesLines old now members lines t.printed
lines_told old now members lines t told = λ alone w agrees begun.
    let at = told alone (stage w [] []) (record { agrees = agrees; begun = begun; taped = refl }) in
    (ap (λ (u : TapeView). u.printed) at.taped, at.agrees)

-- a line that does what may stand in a batch
pub part_is : (line : Line) (p : Part) → line.action ≡ action.Part p → part_line line.number p ≡ line
part_is line p is = λ i. record { number = line.number; action = sym is i }

-- lines that may be played may be later
pub lines_still : {N : Type 0} (Is : ℕ → Line → Type 0) (old now : NodesView N) → IsKept old now → (lines : List Line) (i : ℕ) (line : Line) → i < length lines → line ≡ get_or lines i line →
    All (Is old.count) lines → Is now.count line
lines_still Is old now kept lines i line low is each = subst (λ (n : ℕ). Is n line) (sym kept.count) (subst (Is old.count) (sym is) (each i line low))
