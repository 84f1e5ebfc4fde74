-- Where all fame of a graph is published, the order is the graph's own
use Rattle.std.proofs.Common.{◌≡◌, ℕ, length, refl, sym, ap, ◌∙◌, subst, arith}
use Rattle.hg_model.specs.Links.{links}
use Rattle.hg_model.specs.Fame.{Marks, fame_marks}
use Rattle.hg_model.specs.Order.{coin_at, ordered, order_of}
use Rattle.hg_model.specs.Orders.{AreFame}
use Rattle.hg_model.specs.Prefix.{Graph}
use Rattle.hg_model.specs.Shares.{whole}
use Rattle.hg_model.proofs.LinkLaws.{length-links}
use Rattle.hg_life.specs.History.{news}
use Rattle.hg_life.specs.StateWords.{marks_by, state_by}
use Rattle.hg_history.proofs.SettleLaws.{HasNoNews, marks_are_all, published, share}
use Rattle.hg_kept.specs.Published.{Keeps, Published}
use Rattle.hg_proof.specs.Answers.{order_in}

-- marks to which all fame of the graph was added are its fame
all_marks : (g : Graph) (old new : Marks) → length old ≡ length g.rows → length new ≡ length g.rows → AreFame g.members g.coin g.rows new →
    new ≡ marks_by g old (length g.rows) whole → new ≡ fame_marks g.members g.coin (links g.rows) (coin_at g.rows)
all_marks g old new even_old even_new fame is =
    marks_are_all g.members g.coin (state_by g new) (record { links = length-links g.rows; marks = even_new }) refl 1 (omega arith) no_news fame
  where
    quiet : (k : ℕ) → k ≡ 0 → news g.members g.coin (state_by g new) (length g.rows) (share k 1) ≡ 0
    quiet k zero_is =
        subst (λ (j : ℕ). news g.members g.coin (state_by g new) (length g.rows) (share j 1) ≡ 0) (sym zero_is)
        (subst (λ (marks : Marks). news g.members g.coin (state_by g marks) (length g.rows) whole ≡ 0) (sym is)
        (published g.members g.coin (state_by g old) (length g.rows) whole (omega arith)))

    no_news : HasNoNews g.members g.coin (state_by g new) 1
    no_news = record { none = λ k low. quiet k (omega arith) }

-- so the order that is kept then is the graph's own
pub whole_order : (g : Graph) (old new : Published) → Keeps g old → Keeps g new → new.marks ≡ marks_by g old.marks (length g.rows) whole → new.order ≡ order_in g
unfolding order_of
whole_order g old new before after is =
    after.order ∙ ap (λ (marks : Marks). ordered g.members g.rows (links g.rows) marks) (all_marks g old.marks new.marks before.even after.even after.fame is)
