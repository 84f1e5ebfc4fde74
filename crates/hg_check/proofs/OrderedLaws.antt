-- Orders that are equal, field by field
use Rattle.std.proofs.Common.{◌≡◌, ◌&&◌, ◌∙◌, ℕ, nat_eq, List, refl, ap}
use Rattle.std.specs.Cmp.Lexicographic.{pointwise}
use Rattle.std.specs.Bool.{Decides}
use Rattle.std.proofs.lemmas.Bool.Decides.{Decides-and, Decides-eqb}
use Rattle.std.proofs.lemmas.Slice.Eq.{slice_eq-Decides}
use Rattle.hg_check.specs.declared.ordered.Ordered.{Ordered}

pub same_decides : (a b : Ordered) → Decides (pointwise nat_eq a.name b.name && (nat_eq a.received b.received && nat_eq a.time b.time)) (a ≡ b)
same_decides a b =
    let d = Decides-and _ _ (slice_eq-Decides Decides-eqb a.name b.name _ refl) (Decides-and _ _ (Decides-eqb a.received b.received) (Decides-eqb a.time b.time)) in (
      λ t. ap (λ (x : List ℕ). record { name = x; received = a.received; time = a.time }) (d.0 t).0
          ∙ (ap (λ (x : ℕ). record { name = b.name; received = x; time = a.time }) (d.0 t).1.0
          ∙ ap (λ (x : ℕ). record { name = b.name; received = b.received; time = x }) (d.0 t).1.1),
      λ e. d.1 (ap (λ (x : Ordered). x.name) e, (ap (λ (x : Ordered). x.received) e, ap (λ (x : Ordered). x.time) e)),
    )
