use Rattle.std.proofs.Common.{◌≡◌, ℕ, ◌+◌, ◌-◌, List, [], ◌∷◌, ◌++◌, length, map, take, drop, replicate, vec_len, ◌∙◌, ap, sym, arith, length-append, length-drop, length-take}
use Rattle.std.proofs.lemmas.Grind.{div_ceil_times}
use Rattle.std.specs.Vec.{with_items}
use Rattle.std.proofs.lemmas.List.{with_items_is}
use Rattle.hg_votes.specs.declared.sets.Span.{Span}
use Rattle.hg_votes.specs.Slots.{words_in}
use Rattle.hg_votes.proofs.SetLaws.{set_pushed, words_marked}
use Rattle.hg_votes.proofs.sets.SlotSets.push_seen.Goals as goal

pub returns-clause-ok : goal.returns-clause-ok
returns-clause-ok g c =
    let old = c.self.inside.words.items in
    let start = c.len-start.result in
    let marked = c.mark_seen.new.words in
    let words = c.deref_mut.result.now in
    let held : vec_len c.self.inside.words ≡ length old = omega arith in
    let from : start ≡ length old = c.len-start.ensures ∙ held in
    let filled : words ≡ take (start + c.div_ceil.result) old ++ replicate (start + c.div_ceil.result - length old) 0 = c.deref_mut.ensures.value ∙ (c.in_ok-resize.ensures.items ∙ ap (λ (k : ℕ). take (start + c.div_ceil.result) old ++ replicate (start + c.div_ceil.result - k) 0) held) in
    let many : length words ≡ start + c.div_ceil.result = c.deref_mut.ensures.len ∙ c.in_ok-resize.ensures.len in
    let long : length marked ≡ c.div_ceil.result = omega (arith, c.mark_seen.ensures.len, length-take (length words - start) (drop start words), length-drop start words) in
    let to : c.len-end.result ≡ length (old ++ marked) = omega (arith, c.len-end.ensures, c.in_ok-resize.ensures.len, length-append old marked) in
    let written : List ℕ = take start words ++ (marked ++ drop (length words - start) (drop start words)) in
    let whole : written ≡ old ++ marked = words_marked old marked words start c.div_ceil.result from filled in
    let is : (with_items c.resize.new.self written).items ≡ old ++ marked =
    with_items_is c.resize.new.self written (omega (arith, ap (λ (ws : List ℕ). length ws) whole, to, c.len-end.ensures)) ∙ whole in
    let span : Span = record { start = start; end = c.len-end.result } in
    let times = div_ceil_times (length c.args.rows.now) 64 (omega arith) in
    let ceil = c.div_ceil.ensures in
    record {
      set = marked;
      grown = ap (map (words_in _)) (c.push_reserved.ensures.items ∙ ap (λ (spans : List Span). spans ++ span ∷ []) c.in_ok-reserve.ensures.items)
          ∙ (set_pushed old marked _ c.self.inside.spans.items start c.len-end.result c.self.invariant from is (to ∙ ap (λ (ws : List ℕ). length ws) (sym is))
          ∙ ap (λ (sets : List (List ℕ)). sets ++ marked ∷ []) c.self.view_is);
      is_set = record {
        slots = c.mark_seen.ensures.seen;
        few = omega (arith, times.1);
      };
    }
