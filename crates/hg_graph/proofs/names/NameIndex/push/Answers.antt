use Rattle.std.proofs.Common.{◌≡◌, ◌<◌, ◌∙◌, ◌+◌, ◌++◌, ◌∷◌, [], ℕ, List, length, sym, ap, subst, arith}
use Rattle.hg_graph.specs.declared.names.HashedRow.{HashedRow}
use Rattle.hg_graph.specs.Names.{HashesWithRoom, Enters}
use Rattle.hg_graph.proofs.HashedLaws.{index_pushed, written_all}
use Rattle.hg_graph.proofs.names.NameIndex.push.Goals as goal

pub invariant_of-self : goal.invariant_of-self
invariant_of-self c =
    let heads = c.self.inside.heads in
    let hashed = c.self.inside.hashed.items in
    let hash : ℕ = c.hash_of-hash.result in
    let row : HashedRow = record { hash = hash; even = 0; odd = 0 } in
    let new = c.enter.new in
    let pushed = c.push_reserved.new.self in
    let room = ap (λ (s : HashesWithRoom). s.room) c.self.view_is in
    let one = c.requires in
    let free : length hashed < length heads.items = omega arith in
    let entered : Enters heads.items (hashed ++ row ∷ []) hash (length hashed + 1) new.heads new.hashed =
    subst (λ (n : ℕ). Enters heads.items (hashed ++ row ∷ []) hash n new.heads new.hashed) (omega arith)
    (rw (c.deref_mut.ensures.value, c.deref_mut-2.ensures.value, c.push_reserved.ensures.items) at c.enter.ensures.entered) in
    let long : length new.heads ≡ length heads.items = c.enter.ensures.len ∙ ap (λ (hs : List ℕ). length hs) c.deref_mut.ensures.value in
    let longer : length new.hashed ≡ pushed.len = entered.ways.long ∙ (ap (λ (es : List HashedRow). length es) (sym c.push_reserved.ensures.items) ∙ sym pushed.ok.0) in
    rw (written_all heads.len new.heads heads.items (long ∙ sym heads.ok.0), written_all pushed.len new.hashed pushed.items longer)
    (index_pushed heads.items hashed hash new.heads new.hashed free long c.self.invariant entered)
