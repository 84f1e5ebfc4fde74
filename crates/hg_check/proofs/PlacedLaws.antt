-- Placed rows that are equal, field by field
use Rattle.std.proofs.Common.{◌≡◌, ◌&&◌, ◌∙◌, ℕ, nat_eq, ap}
use Rattle.std.specs.Bool.{Decides}
use Rattle.std.proofs.lemmas.Bool.Decides.{Decides-and, Decides-eqb}
use Rattle.hg_model.specs.declared.row.Placed.{Placed}

pub same_decides : (a b : Placed) → Decides (nat_eq a.place b.place && (nat_eq a.received b.received && nat_eq a.time b.time)) (a ≡ b)
same_decides a b =
    let d = Decides-and _ _ (Decides-eqb a.place b.place) (Decides-and _ _ (Decides-eqb a.received b.received) (Decides-eqb a.time b.time)) in (
      λ t. ap (λ (x : ℕ). record { place = x; received = a.received; time = a.time }) (d.0 t).0
          ∙ (ap (λ (x : ℕ). record { place = b.place; received = x; time = a.time }) (d.0 t).1.0
          ∙ ap (λ (x : ℕ). record { place = b.place; received = b.received; time = x }) (d.0 t).1.1),
      λ e. d.1 (ap (λ (x : Placed). x.place) e, (ap (λ (x : Placed). x.received) e, ap (λ (x : Placed). x.time) e)),
    )
