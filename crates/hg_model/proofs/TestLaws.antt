-- What passes the test of a graph is a graph: so premises on graphs can be met by rows that are written out
use Rattle.std.proofs.Common.{◌≡◌, ℕ, ◌*◌, ◌<◌, Bool, true, not, ◌&&◌, List, length, sym, ◌∙◌, inl, inr, arith}
use Rattle.std.specs.Prelude.{nat_lt}
use Rattle.std.specs.Str.{bytes_eq}
use Rattle.std.proofs.lemmas.Bool.{and_parts, cases_Bool, cases_lt, ltb-true, not-true, not_from_false, true≢false}
use Rattle.hg_model.specs.declared.row.Row.{Row}
use Rattle.hg_model.specs.Places.{some_below}
use Rattle.hg_model.specs.Stakes.{Stakes, total}
use Rattle.hg_model.specs.Links.{Link, links}
use Rattle.hg_model.specs.Forks.{forking}
use Rattle.hg_model.specs.Graph.{name_at, have_few_others, IsGraph, is_shaped_at}
use Rattle.hg_model.proofs.PlacesLaws.{some_below_from}
use Rattle.hg_model.proofs.LinkLaws.{length-links}
use Rattle.hg_model.proofs.GraphLaws.{shaped_from_tests}
use Rattle.hg_model.proofs.NameLaws.{bytes_eq-same}

abbrev pub is_named_before : List Row → ℕ → Bool
is_named_before G x = some_below x (λ y. bytes_eq (name_at G y) (name_at G x))

-- the rows are a graph, as a test of rows that are written out
unfoldable pub is_graph : Stakes → List Row → Bool
is_graph n G =
    let L = links G in
    not (some_below (length G) (λ x. not (is_shaped_at n L x))) && not (some_below (length G) (is_named_before G))
    && have_few_others G && nat_lt (3 * forking n L) (total n)

passes_all : (n : ℕ) (test : ℕ → Bool) → not (some_below n (λ x. not (test x))) ≡ true → (x : ℕ) → x < n → test x ≡ true
passes_all n test none x inside = elim (cases_Bool (test x)) [
  | inl passes ↦ passes
  | inr fails ↦ (
      let found = some_below_from n (λ (k : ℕ). not (test k)) x inside (not_from_false (test x) fails) in
      absurd (true≢false (sym found ∙ not-true (some_below n (λ (k : ℕ). not (test k))) none)))
]

not_named_before : (G : List Row) → not (some_below (length G) (is_named_before G)) ≡ true → (x y : ℕ) → x < y → y < length G → name_at G x ≡ name_at G y → ⊥
not_named_before G none x y low inside same =
    let named = some_below_from y (λ (k : ℕ). bytes_eq (name_at G k) (name_at G y)) x low (bytes_eq-same (name_at G x) (name_at G y) same) in
    let found = some_below_from (length G) (is_named_before G) y inside named in
    true≢false (sym found ∙ not-true (some_below (length G) (is_named_before G)) none)

pub graph_from_test : (n : Stakes) (G : List Row) → is_graph n G ≡ true → IsGraph n G
unfolding is_graph
graph_from_test n G passes =
    let L : List Link = links G in
    let shape = not (some_below (length G) (λ x. not (is_shaped_at n L x))) in
    let names = not (some_below (length G) (is_named_before G)) in
    let one = and_parts (shape && names && have_few_others G) (nat_lt (3 * forking n L) (total n)) passes in
    let few = and_parts (shape && names) (have_few_others G) one.0 in
    let two = and_parts shape names few.0 in
    record {
      distinct = record {
        one = λ x y hx hy same. elim (cases_lt x y) [
          | inl low ↦ absurd (not_named_before G two.1 x y low hy same)
          | inr ge ↦ elim (cases_lt y x) [
            | inl low ↦ absurd (not_named_before G two.1 y x low hx (sym same))
            | inr le ↦ omega arith
          ]
        ];
      };
      few_others = few.1;
      shaped = shaped_from_tests n L (λ x inside. passes_all (length G) (is_shaped_at n L) two.0 x (rw (← length-links G) inside));
      few_forkers = ltb-true (3 * forking n L) (total n) one.1;
    }
