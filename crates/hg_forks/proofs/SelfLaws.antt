-- Forks need of a graph no other-parents
use Rattle.std.proofs.Common.{◌≡◌, ℕ, suc, ◌<◌, ◌≤◌, true, List, [], ◌∷◌, ◌++◌, length, Option, Some, None, IfSome, option_map, slice_get, refl, sym, ap, ◌∙◌, subst, arith}
use Rattle.std.proofs.lemmas.Bool.{true≢false}
use Rattle.std.proofs.lemmas.List.{map-append, length-map}
use Rattle.std.proofs.lemmas.Option.{slice_get-map}
use Rattle.hg_model.specs.Places.{has_place, some_below}
use Rattle.hg_model.specs.Stakes.{Stakes, member_count, stake_of}
use Rattle.hg_model.specs.Links.{Link, first_place, later_places, most_parents, parents_in, creator_in, parents, self_parent, creator}
use Rattle.hg_model.specs.Ancestry.{is_self_ancestor}
use Rattle.hg_model.specs.Forks.{is_fork, has_fork, forkers, forking}
use Rattle.hg_model.specs.Shape.{FitsLink}
use Rattle.hg_model.proofs.PlacesLaws.{some_below-same, weight_below-same}
use Rattle.hg_model.proofs.PushLaws.{first_of_places}
use Rattle.hg_model.proofs.ReachLaws.{has_place_first, reaches-same, none_there, one_there}
use Rattle.hg_model.proofs.ShapeLaws.{fits_alone}
use Rattle.hg_forks.specs.SelfLinks.{self_link, self_link_of, self_links, SelfLinksServe}
use Rattle.hg_forks.specs.Kept.{no_place}

pub length-self_place : (L : List Link) → length (self_links L) ≡ length L
unfolding self_links
length-self_place L = length-map L self_link

first_once : (ps : List ℕ) → first_place (first_place ps) ≡ first_place ps
first_once [] = refl
first_once (p ∷ ps) = refl

none_later : (ps : List ℕ) → later_places (first_place ps) ≡ []
none_later [] = refl
none_later (p ∷ ps) = refl

few_first : (ps : List ℕ) → length (first_place ps) ≤ most_parents
few_first [] = omega arith
few_first (p ∷ ps) = omega arith

module _ (L : List Link) where
  creator-self_place : (x : ℕ) → creator (self_links L) x ≡ creator L x
  unfolding creator self_links
  creator-self_place x = ap creator_in (slice_get-map self_link L x) ∙ either (slice_get L x)
    where
      either : (o : Option Link) → creator_in (option_map self_link o) ≡ creator_in o
      either None = refl
      either (Some link) = refl

  self_parent-self_place : (x : ℕ) → self_parent (self_links L) x ≡ self_parent L x
  unfolding self_parent parents self_links
  self_parent-self_place x = ap (λ o. first_place (parents_in o)) (slice_get-map self_link L x) ∙ either (slice_get L x)
    where
      either : (o : Option Link) → first_place (parents_in (option_map self_link o)) ≡ first_place (parents_in o)
      either None = refl
      either (Some link) = first_once link.parents

  is_self_ancestor-self_place : (x y : ℕ) → is_self_ancestor (self_links L) x y ≡ is_self_ancestor L x y
  unfolding is_self_ancestor
  is_self_ancestor-self_place x y = reaches-same (self_parent (self_links L)) (self_parent L) (suc x) (λ k h. self_parent-self_place k) x y (omega arith)

  is_fork-self_place : (m a b : ℕ) → is_fork (self_links L) m a b ≡ is_fork L m a b
  unfolding is_fork
  is_fork-self_place m a b = rw (creator-self_place a, creator-self_place b, is_self_ancestor-self_place a b, is_self_ancestor-self_place b a) refl

  has_fork-self_place : (m : ℕ) → has_fork (self_links L) m ≡ has_fork L m
  unfolding has_fork
  has_fork-self_place m =
      ap (λ k. some_below k (λ a. some_below k (λ b. is_fork (self_links L) m a b))) (length-self_place L)
      ∙ some_below-same (length L) (λ a. some_below (length L) (λ b. is_fork (self_links L) m a b)) (λ a. some_below (length L) (λ b. is_fork L m a b))
      (λ a ha. some_below-same (length L) (λ b. is_fork (self_links L) m a b) (λ b. is_fork L m a b) (λ b hb. is_fork-self_place m a b))

  forkers-self_place : (n : Stakes) → forkers n (self_links L) ≡ forkers n L
  unfolding forkers
  forkers-self_place n = weight_below-same (λ _. 1) (member_count n) (has_fork (self_links L)) (has_fork L) (λ m h. has_fork-self_place m)

  forking-self_place : (n : Stakes) → forking n (self_links L) ≡ forking n L
  unfolding forking
  forking-self_place n = weight_below-same (stake_of n) (member_count n) (has_fork (self_links L)) (has_fork L) (λ m h. has_fork-self_place m)

  fits-self_place : (n : Stakes) (link : Link) → FitsLink n L link → FitsLink n (self_links L) (self_link link)
  fits-self_place n link fits = record {
    member = fits.member;
    few = few_first link.parents;
    earlier = λ p h. (let low : p < length L = fits.earlier p (first_of_places link.parents p h) in omega (arith, length-self_place L));
    self_by_same = λ p h. creator-self_place p ∙ fits.self_by_same p (subst (λ ps. has_place ps p ≡ true) (first_once link.parents) h);
    others_by_others = λ p h. absurd (true≢false (sym (subst (λ ps. has_place ps p ≡ true) (none_later link.parents) h)));
  }

  push-self_place : (link : Link) → self_links (L ++ link ∷ []) ≡ self_links L ++ self_link link ∷ []
  unfolding self_links
  push-self_place link = map-append self_link L (link ∷ [])

pub self_links_serve : (n : Stakes) (L : List Link) → SelfLinksServe n L
self_links_serve n L = record {
  long = length-self_place L;
  push = push-self_place L;
  fits = fits-self_place L n;
  is_fork = is_fork-self_place L;
  has_fork = has_fork-self_place L;
  forkers = forkers-self_place L n;
  forking = forking-self_place L n;
}

-- a row on no self-parent fits where its creator is a member
pub fits_first : (n : Stakes) (L : List Link) (m : ℕ) → m < member_count n → FitsLink n L (self_link_of m None)
fits_first n L m member = fits_alone n L m member

-- a row on a row by its creator fits
pub fits_on_self : (n : Stakes) (L : List Link) (m self_place : ℕ) → m < member_count n → self_place < length L → creator L self_place ≡ m → FitsLink n L (self_link_of m (Some self_place))
fits_on_self n L m self_place member there by_m = record {
  member = member;
  few = omega arith;
  earlier = λ p h. (let same : self_place ≡ p = one_there self_place p h in omega arith);
  self_by_same = λ p h. subst (λ q. creator L q ≡ m) (one_there self_place p h) by_m;
  others_by_others = λ p h. absurd (none_there p h);
}

pub ruleset fits_self_links = (fits_first, fits_on_self)

-- the self-parent of a row that fits after these is below the number that stands for none
pub place_kept : (n : Stakes) (L : List Link) (m : ℕ) (self_parent_of : Option ℕ) → FitsLink n L (self_link_of m self_parent_of) → length L < no_place →
    IfSome self_parent_of (λ p. p < no_place)
place_kept n L m None fits short = tt
place_kept n L m (Some p) fits short = omega (arith, fits.earlier p (has_place_first p []))
