-- A watch that sees the rows of a sight without their other-parents
use Rattle.std.proofs.Common.{ℕ, ◌≡◌, ◌∙◌, ◌++◌, ◌∷◌, List, [], Option, ap, refl, sym, subst}
use Rattle.hg_model.specs.Stakes.{Stakes}
use Rattle.hg_model.specs.Links.{Link, first_place}
use Rattle.hg_model.specs.Shape.{Shape, FitsLink, link_of, place_list, shape_of, with_link}
use Rattle.hg_forks.specs.SelfLinks.{self_link_of, self_links, self_shape}
use Rattle.hg_forks.proofs.SelfLaws.{self_links_serve}

-- what fits the sight's rows fits the watch's
pub self_fits : (n : Stakes) (L : List Link) (m : ℕ) (parents : List ℕ) (self_place : Option ℕ) → place_list self_place ≡ first_place parents → FitsLink n L (link_of m parents) → FitsLink n (self_links L) (self_link_of m self_place)
self_fits n L m parents self_place is fits =
    subst (λ (ps : List ℕ). FitsLink n (self_links L) (record { creator = m; parents = ps })) (sym is) ((self_links_serve n L).fits (link_of m parents) fits)

-- a row that comes to the sight's comes to the watch's
pub self_push : (s : Shape) (m : ℕ) (parents : List ℕ) (self_place : Option ℕ) → place_list self_place ≡ first_place parents → with_link (self_shape s) (self_link_of m self_place) ≡ self_shape (with_link s (link_of m parents))
self_push s m parents self_place is =
    ap (shape_of s.members) (ap (λ (ps : List ℕ). self_links s.links ++ record { creator = m; parents = ps } ∷ []) is ∙ sym ((self_links_serve s.members s.links).push (link_of m parents)))

-- without rows
pub none_watched : (n : Stakes) → shape_of n [] ≡ self_shape (shape_of n [])
unfolding self_links
none_watched n = refl
