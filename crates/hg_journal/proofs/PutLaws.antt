-- Events that are put one after the other.
use Rattle.std.proofs.Common.{◌≡◌, ℕ, ◌+◌, ◌<◌, List, [], ◌∷◌, ◌++◌, length, Option, Some, refl, sym, ◌∙◌, ap, ap₂, subst, arith, length-append}
use Rattle.std.proofs.lemmas.List.Sums.{fold_more}
use Rattle.std.specs.Prelude.{get_or, take}
use Rattle.hg_life.specs.Calls.{put_answer}
use Rattle.hg_life.specs.NodeView.{NodeView}
use Rattle.hg_life.specs.Signing.{Accepts}
use Rattle.hg_life.specs.declared.answers.PutAnswer.{PutAnswer}
use Rattle.hg_node.specs.Puts.{after_put}
use Rattle.hg_journal.specs.Staging.{ComesOfPuts, PutsFront, PutsTo, put_one, puts}
use Rattle.hg_journal.proofs.StagingLaws.{is_same}

module _ {K : Type 0} (accepts : K → Accepts) where
  pub puts_none : (there : Option (NodeView K)) (events : List (List ℕ)) (answers : List PutAnswer) → answers ≡ [] → PutsFront accepts there events answers there
  puts_none there events answers none v is =
      (v, is, subst (λ (l : List PutAnswer). PutsTo accepts v events l v) (sym none) (record { within = omega arith; node = refl; given = refl }))

  -- one event more
  puts_next : (v now : NodeView K) (events : List (List ℕ)) (i : ℕ) (bytes : List ℕ) (answers : List PutAnswer) → i < length events → bytes ≡ get_or events i bytes
      → now ≡ (puts accepts v (take i events)).0 → answers ≡ (puts accepts v (take i events)).1
      → puts accepts v (take (i + 1) events) ≡ (after_put accepts now bytes, answers ++ put_answer accepts now bytes ∷ [])
  puts_next v now events i bytes answers within at node given =
      let so = puts accepts v (take i events) in
      fold_more (put_one accepts) (v, []) events i bytes within
      ∙ ap (put_one accepts so) (sym at)
      ∙ ap₂ (λ (x : NodeView K) (a : List PutAnswer). put_one accepts (x, a) bytes) (sym node) (sym given)

  pub puts_more : (first now next : Option (NodeView K)) (events : List (List ℕ)) (bytes : List ℕ) (answers : List PutAnswer) (answer : PutAnswer)
      → length answers < length events → bytes ≡ get_or events (length answers) bytes → PutsFront accepts first events answers now
      → ((v : NodeView K) → now ≡ Some v → (answer ≡ put_answer accepts v bytes) × (next ≡ Some (after_put accepts v bytes)))
      → PutsFront accepts first events (answers ++ answer ∷ []) next
  puts_more first now next events bytes answers answer within at so_far put v is =
      let one = so_far v is in
      let came = put one.0 one.1 in
      let goes = puts_next v one.0 events (length answers) bytes answers within at one.2.node one.2.given in
      let size : length answers + 1 ≡ length (answers ++ answer ∷ []) = omega (arith, length-append answers (answer ∷ [])) in (
        after_put accepts one.0 bytes,
        came.1,
        record {
          within = omega (arith, within, size);
          node = ap (λ (x : NodeView K × List PutAnswer). x.0) (sym goes) ∙ ap (λ (n : ℕ). (puts accepts v (take n events)).0) size;
          given = ap (λ (a : PutAnswer). answers ++ a ∷ []) came.0
              ∙ ap (λ (x : NodeView K × List PutAnswer). x.1) (sym goes) ∙ ap (λ (n : ℕ). (puts accepts v (take n events)).1) size;
        },
      )

  -- the node that is there comes of the one that was by them
  pub puts_come : (old now : Option (NodeView K)) (events : List (List ℕ)) (answers : List PutAnswer) → PutsFront accepts old events answers now
      → (v w : NodeView K) → old ≡ Some v → now ≡ Some w → ComesOfPuts accepts events v w
  puts_come old now events answers front v w is there =
      let one = front v is in
      (length answers, one.2.within, is_same now w one.0 there one.1 ∙ one.2.node)
