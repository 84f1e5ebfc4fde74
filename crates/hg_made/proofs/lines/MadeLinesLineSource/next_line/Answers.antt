use Rattle.std.proofs.Common.{◌≡◌, ◌∙◌, ◌+◌, ◌-◌, ◌<◌, ◌∷◌, ℕ, ap, ap₂, arith, length, sym}
use Rattle.hg_script.specs.declared.line.Action.TheVariants as action
use Rattle.hg_script.specs.declared.line.Gossip.{Gossip}
use Rattle.hg_script.specs.declared.line.Line.{Line}
use Rattle.hg_script.specs.declared.line.Part.TheVariants as part
use Rattle.hg_made.specs.Made.{MadeView, lines_from, lines_to_come, made_line, state_behind}
use Rattle.hg_made.proofs.MadeLaws.{first_from, length_from}
use Rattle.hg_made.proofs.lines.MadeLinesLineSource.next_line.Goals as goal

pub returns : goal.returns
returns c =
    let s = c.self.inside in
    let n = s.members in
    let x = s.draws in
    let j = s.made in
    let k = s.count - s.made in
    let long : length (lines_to_come c.args.self.now) ≡ k = ap (λ (v : MadeView). length (lines_to_come v)) (sym c.self.view_is) ∙ length_from n x j k in
    let some : 0 < k = omega (arith, c.requires, long) in
    let left : k - 1 ≡ s.count - (j + 1) = omega arith in
    let line_is = ap₂ (λ (number : ℕ) (gossip : Gossip). let line : Line = record { number = number; action = action.Part (part.Gossip gossip) } in line) (sym c.from.ensures) (sym c.in_ok-gossip.ensures.gossip) in
    ap lines_to_come (sym c.self.view_is)
    ∙ (first_from n x j k some
    ∙ (ap (λ (i : ℕ). made_line n x j ∷ lines_from n (state_behind n x j) (j + 1) i) left
    ∙ ap₂ (λ (line : Line) (state : ℕ). line ∷ lines_from n state (j + 1) (s.count - (j + 1))) line_is (sym c.in_ok-gossip.ensures.state)))
