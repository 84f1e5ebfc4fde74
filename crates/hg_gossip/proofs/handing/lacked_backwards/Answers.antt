use Rattle.std.proofs.Common.{◌≡◌, ◌∙◌, ◌+◌, ◌-◌, ap, sym, arith, drop, subst, List, ℕ}
use Rattle.std.specs.Prelude.{reverse}
use Rattle.std.proofs.lemmas.List.{drop_all}
use Rattle.hg_model.specs.Held.{lacking}
use Rattle.hg_life.specs.NodeView.{node_rows}
use Rattle.hg_gossip.specs.Handing.{AreInside, rows_at}
use Rattle.hg_gossip.proofs.HandLaws.{lacked_before}
use Rattle.hg_gossip.proofs.handing.lacked_backwards.Goals as goal

pub places-init : goal.places-init
places-init g c =
    let H = node_rows c.args.peer.now in (
      omega (arith, c.requires, c.rows-place.ensures),
      omega (arith, c.rows-place.ensures),
      ap (rows_at H) c.in_ok-places.ensures.items
          ∙ sym (ap (λ rows. reverse (lacking (node_rows c.args.taker.now) rows)) (drop_all c.rows-place.result H (omega (arith, c.rows-place.ensures)))),
      subst (λ (places : List ℕ). AreInside H places) (sym c.in_ok-places.ensures.items) tt,
    )

pub places-preserved : goal.places-preserved
places-preserved g c =
    let back : c.places.place ≡ c.places.place - 1 + 1 = omega (arith, c.places-test.true) in (
      omega (arith, c.places-test.true),
      omega (arith, c.places.invariant.1),
      lacked_before (node_rows c.args.taker.now) (node_rows c.args.peer.now) (c.places.place - 1) _ _ (omega (arith, c.places-test.true, c.places.invariant.1)) c.in_ok-push_unless_held.ensures.pushed
          (c.places.invariant.2 ∙ ap (λ n. reverse (lacking (node_rows c.args.taker.now) (drop n (node_rows c.args.peer.now)))) back),
      c.push_unless_held.ensures.inside,
    )
