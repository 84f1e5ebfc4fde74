use Rattle.std.proofs.Common.{◌≡◌, ◌++◌, ◌∷◌, [], ◌∙◌, ℕ, List, length, sym, ap, subst}
use Rattle.hg_model.specs.declared.row.Row.{Row}
use Rattle.hg_model.specs.Links.{place_of}
use Rattle.hg_graph.specs.RowsWithRoom.{RowsWithRoom}
use Rattle.hg_graph.specs.Names.{hash_of}
use Rattle.hg_graph.specs.Names.{HoldsNames}
use Rattle.hg_graph.proofs.FoundLaws.{names_pushed}
use Rattle.hg_graph.proofs.store.RowStore.push.Goals as goal

pub invariant_of-self : goal.invariant_of-self
invariant_of-self c =
    let rows = c.self.inside.events.items in
    let hashes = c.self.inside.names.hashes in
    let row = c.args.event.value in
    let new = subst (λ (s : RowsWithRoom). place_of s.rows row.name ≡ length s.rows) (sym c.self.view_is) c.requires.new in
    let pushed = names_pushed rows hashes row c.self.invariant new in
    let is : c.row.result.now ≡ row = c.row.ensures.value ∙ c.deref.ensures in
    let hash_is : c.push.new.self.hashes ≡ hashes ++ hash_of row.name ∷ [] = c.push.ensures ∙ ap (λ (r : Row). hashes ++ hash_of r.name ∷ []) is in
    let rows_are : c.push-2.new.self.items ≡ rows ++ row ∷ [] = c.push-2.ensures ∙ ap (λ (r : Row). rows ++ r ∷ []) c.of.ensures in
    subst (λ (hs : List ℕ). HoldsNames c.push-2.new.self.items hs) (sym hash_is)
    (subst (λ (G : List Row). HoldsNames G (hashes ++ hash_of row.name ∷ [])) (sym rows_are) pushed)
