use Rattle.std.proofs.Common.{◌≡◌, ◌∙◌, ◌+◌, ◌<◌, ◌≤◌, ◌++◌, ◌∷◌, [], ap, ap₂, max, refl, rules, sym, subst, arith, length, ℕ, List}
use Rattle.std.proofs.lemmas.List.{get_or_read_under}
use Rattle.hg_model.specs.Standings.{greatest_in}
use Rattle.hg_rounds.specs.Tabled.{AddsWeight, Tabled, list_at}
use Rattle.hg_rounds.proofs.WeightLaws.{adds_none, adds_opened, adds_stake, weighed_opened, weighed_set}
use Rattle.hg_rounds.proofs.CutLaws.{table_with, still_there}
use Rattle.hg_rounds.proofs.KeepLaws.{marked_not, marked_set, keeps_stayed, keeps_opened}
use Rattle.hg_rounds.proofs.table.RoundTable.add.Goals as goal
use Rattle.hg_rounds.proofs.table.RoundTable.add.Goals.{then-round-self, else-round-self, then-witness, else-witness}

pub invariant_of-self : goal.invariant_of-self
invariant_of-self c =
    let lists = c.self.inside.lists.items in
    let kept = c.self.invariant.lists_kept in
    let tops = c.self.invariant.tops_kept in
    let next = subst (λ k. c.args.round ≤ k + 1) (ap (λ (t : Tabled). greatest_in t.standings) (sym c.self.view_is) ∙ sym kept.greatest) c.requires.next in
    let long = kept.long in
    elim c.if-witness.branch [
      | then-witness w ↦
          (let read = get_or_read_under lists c.args.round (length lists) w.index_mut.result.now [] w.index_mut.ensures.value (omega arith) refl in
          let grown : w.push-count.new.self ≡ list_at lists c.args.round ++ length c.self.inside.rows.items ∷ [] =
          w.push-count.ensures.places ∙ ap₂ (λ (l : List ℕ) (k : ℕ). l ++ k ∷ []) read (search rules) in
          let most : w.max-self-inside.result ≡ max c.self.inside.longest (length w.push-count.new.self) =
          w.max-self-inside.ensures ∙ ap (max c.self.inside.longest) w.push-count.ensures.count in
          let marked = marked_set _ _ _ _ kept _ _ c.requires.first next _ _ w.if-witness.true grown most in
          elim c.if-round-self.branch [
            | then-round-self v ↦ rw (c.push.ensures, c.push-2.ensures, v.self-inside-is, v.push_reserved-then-round-self.ensures.items, v.push_reserved.ensures.items, w.self-inside-is) (table_with _ _ _ _ _ _ _ _ _ tops (keeps_opened _ _ _ _ kept _ _ c.requires.first next _ _ marked _ (rw w.self-inside-is at v.if-round-self.true) v.new.ensures) (weighed_opened _ _ _ _ (weighed_set _ _ _ _ _ c.self.invariant.weighed)) (omega arith) w.push-count.ensures.empty)
            | else-round-self v ↦ rw (c.push.ensures, c.push-2.ensures, v.self-inside-is, w.self-inside-is) (table_with _ _ _ _ _ _ _ _ _ tops (keeps_stayed _ _ _ _ kept _ _ c.requires.first next _ _ marked (rw w.self-inside-is at v.if-round-self.false)) (weighed_set _ _ _ _ _ c.self.invariant.weighed) next w.push-count.ensures.empty)
          ])
      | else-witness w ↦
          (let marked = marked_not _ _ _ _ kept _ _ c.requires.first next w.if-witness.false in
          elim c.if-round-self.branch [
            | then-round-self v ↦
                (let high = rw w.self-inside-is at v.if-round-self.true in
                rw (c.push.ensures, c.push-2.ensures, v.self-inside-is, v.push_reserved-then-round-self.ensures.items, v.push_reserved.ensures.items, w.self-inside-is) (table_with _ _ _ _ _ _ _ _ _ tops (keeps_opened _ _ _ _ kept _ _ c.requires.first next _ _ marked _ high v.new.ensures) (weighed_opened _ _ _ _ c.self.invariant.weighed) (still_there _ _ _ _ long (omega arith) c.self.invariant.there) c.self.invariant.empty))
            | else-round-self v ↦ rw (c.push.ensures, c.push-2.ensures, v.self-inside-is, w.self-inside-is) (table_with _ _ _ _ _ _ _ _ _ tops (keeps_stayed _ _ _ _ kept _ _ c.requires.first next _ _ marked (rw w.self-inside-is at v.if-round-self.false)) c.self.invariant.weighed (still_there _ _ _ _ long (omega arith) c.self.invariant.there) c.self.invariant.empty)
          ])
    ]

pub returns-clause-weights : goal.returns-clause-weights
returns-clause-weights c =
    let weights = c.self.inside.weights.items in
    let told = ap (λ (t : Tabled). t.weights) c.self.view_is in
    let kept = c.self.invariant.lists_kept in
    let next = subst (λ k. c.args.round ≤ k + 1) (ap (λ (t : Tabled). greatest_in t.standings) (sym c.self.view_is) ∙ sym kept.greatest) c.requires.next in
    let there : c.args.round < length weights = omega (arith, c.self.invariant.weighed, kept.long) in
    subst (λ old. AddsWeight c.args.round c.args.witness c.args.stake old c.if-round-self.self-inside.weights.items) told
    (elim c.if-witness.branch [
      | then-witness w ↦
          (let read = get_or_read_under weights c.args.round (length weights) w.index_mut-then-witness.result.now 0 w.index_mut-then-witness.ensures.value there refl in
          let adds = adds_stake c.args.round c.args.witness c.args.stake weights _ w.if-witness.true there (ap₂ (λ a b. a + b) read w.from.ensures) in
          elim c.if-round-self.branch [
            | then-round-self v ↦ rw (v.self-inside-is, v.push_reserved.ensures.items, w.self-inside-is) (adds_opened _ _ _ _ _ adds)
            | else-round-self v ↦ rw (v.self-inside-is, w.self-inside-is) adds
          ])
      | else-witness w ↦
          (let adds = adds_none c.args.round c.args.witness c.args.stake weights w.if-witness.false in
          elim c.if-round-self.branch [
            | then-round-self v ↦ rw (v.self-inside-is, v.push_reserved.ensures.items, w.self-inside-is) (adds_opened _ _ _ _ _ adds)
            | else-round-self v ↦ rw (v.self-inside-is, w.self-inside-is) adds
          ])
    ])
