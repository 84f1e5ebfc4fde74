-- Rows with few other-parents: those of a longer list, of its front, and each of them
use Rattle.std.proofs.Common.{◌≡◌, inl, inr, ℕ, ◌<◌, Bool, true, ◌&&◌, List, [], ◌∷◌, ◌++◌, length, get_or, sym, refl, ◌∙◌}
use Rattle.std.proofs.lemmas.Bool.{and_from, and_parts, both_ways, cases_Bool}
use Rattle.std.proofs.lemmas.List.Folds.{list_all-append, list_all_at}
use Rattle.hg_model.specs.declared.row.Row.{Row}
use Rattle.hg_model.specs.Links.{has_few_others}
use Rattle.hg_model.specs.Graph.{have_few_others}
use Rattle.hg_model.proofs.PushLaws.{nobody}

abbrev is_few : Row → Bool
is_few row = has_few_others row.parents

pub few_push : (G : List Row) (row : Row) → have_few_others G ≡ true → has_few_others row.parents ≡ true → have_few_others (G ++ row ∷ []) ≡ true
few_push G row few last = list_all-append is_few G (row ∷ []) ∙ and_from (have_few_others G) (is_few row && true) few (and_from (is_few row) true last refl)

pub few_front : (G more : List Row) → have_few_others (G ++ more) ≡ true → have_few_others G ≡ true
few_front G more few = (and_parts (have_few_others G) (have_few_others more) (sym (list_all-append is_few G more) ∙ few)).0

pub few_at : (G : List Row) (x : ℕ) → have_few_others G ≡ true → x < length G → has_few_others (get_or G x nobody).parents ≡ true
few_at G x few inside = elim (cases_Bool (is_few (get_or G x nobody))) [
  | inl is ↦ is
  | inr is_not ↦ absurd (both_ways (have_few_others G) (list_all_at is_few G x nobody inside is_not) few)
]
