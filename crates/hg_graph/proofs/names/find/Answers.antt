use Rattle.std.proofs.Common.{◌≡◌, ◌≢◌, ◌-◌, ◌/◌, ◌<◌, ◌∙◌, ℕ, length, slice_index, sym, ap, subst, inl, inr, arith}
use Rattle.std.proofs.lemmas.Bool.{true≢false}
use Rattle.hg_model.specs.Graph.{name_at}
use Rattle.hg_model.proofs.NameLaws.{bytes_eq-same, bytes_same}
use Rattle.hg_graph.specs.Names.{IsFound, bucket_of, hash_of}
use Rattle.hg_graph.proofs.NamedLaws.{name_read, row_read, named_found}
use Rattle.hg_graph.proofs.FoundLaws.{many_rows, found_first, other_hash, found_none}
use Rattle.hg_graph.proofs.WayLaws.{found_below, none_found, way_shorter}
use Rattle.hg_graph.proofs.names.find.Goals as goal
use Rattle.hg_graph.proofs.names.find.Goals.{else-hashed_row-hash-via-then-hashed_row-hash+else-eq, else-hashed_row-hash-via-else-hashed_row-hash}

pub down-init : goal.down-init
down-init c =
    let heads = c.args.heads.now in
    let hashed = c.args.hashed.now in
    let G = c.args.events.now.items in
    let name = c.args.name.now in
    let bucket : ℕ = c.bucket_of.result in
    let is : bucket ≡ bucket_of (length heads) (hash_of name) = c.bucket_of.ensures.value ∙ ap (bucket_of (length heads)) c.hash_of-hash.ensures in
    record {
      inside = c.requires.index.linked.later.first bucket;
      found = λ x low named. subst (λ b. IsFound hashed x (slice_index heads b) c.hash_of-hash.result) (sym is)
          (subst (λ h. IsFound hashed x (slice_index heads (bucket_of (length heads) (hash_of name))) h) (sym c.hash_of-hash.ensures)
          (found_first G hashed c.requires.names heads c.requires.index.linked name x low named));
    }

pub returns-then-eq : goal.returns-then-eq
returns-then-eq c =
    let G = c.args.events.now.items in
    let name = c.args.name.now in
    let x : ℕ = c.down.number - 1 in
    let low : x < length G = (let le = c.down.invariant.inside in let some = c.down-test.true in omega (arith, many_rows G c.args.hashed.now c.requires.names)) in
    let at = row_read G x c.index.result.now c.row.result.now low c.index.ensures c.row.ensures in
    sym (named_found G c.requires.names.distinct x c.row.result.now name at (bytes_same c.row.result.now.name name (sym c.eq.ensures ∙ c.if-eq.true)))

pub down-preserved : goal.down-preserved
down-preserved c =
    let hashed = c.args.hashed.now in
    let G = c.args.events.now.items in
    let name = c.args.name.now in
    let number : ℕ = c.down.number in
    let x : ℕ = number - 1 in
    let held = c.down.invariant in
    let some : 0 < number = c.down-test.true in
    let low : x < length G = (let le = held.inside in omega (arith, many_rows G hashed c.requires.names)) in
    let other : name_at G x ≢ name = elim c.else-hashed_row-hash.branch [
      | else-hashed_row-hash-via-then-hashed_row-hash+else-eq w ↦ (
          let here : name_at G x ≡ w.row.result.now.name = name_read G x w.row.result.now (row_read G x w.index.result.now w.row.result.now low w.index.ensures w.row.ensures) in
          λ is. true≢false (sym (bytes_eq-same w.row.result.now.name name (sym here ∙ is)) ∙ (sym w.eq.ensures ∙ w.if-eq.false)))
      | else-hashed_row-hash-via-else-hashed_row-hash w ↦ other_hash G hashed c.requires.names x name low (λ is. w.if-hashed_row-hash.false (is ∙ sym c.hash_of-hash.ensures))
    ] in
    record {
      inside = elim (c.requires.index.linked.later.below x c.down.digits) [
        | inl none ↦ omega (arith, none, c.next_below-number.ensures)
        | inr more ↦ omega (arith, more.1, c.next_below-number.ensures)
      ];
      found = λ y inside named.
          subst (λ n. IsFound hashed y n (c.down.digits / 2)) (sym c.next_below-number.ensures)
          (found_below hashed y number c.down.digits (held.found y inside named) (λ is. other (ap (name_at G) (omega arith) ∙ named)));
    }

pub down-smaller : goal.down-smaller
down-smaller c =
    let number : ℕ = c.down.number in
    let some = c.down-test.true in
    let is = c.next_below-number.ensures in
    way_shorter (length c.args.hashed.now) number c.next_below-number.result some c.down.invariant.inside
    (elim (c.requires.index.linked.later.below (number - 1) c.down.digits) [ inl none ↦ inl (is ∙ none) | inr more ↦ inr (omega (arith, more.0, is, some), omega (arith, more.1, is)) ])

pub returns : goal.returns
returns c =
    let G = c.args.events.now.items in
    sym (found_none G c.args.name.now (λ x low named. none_found c.args.hashed.now x c.down.digits
    (subst (λ n. IsFound c.args.hashed.now x n c.down.digits) (let last = c.down-test.false in omega arith) (c.down.invariant.found x low named))))
