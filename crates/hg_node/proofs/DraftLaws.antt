-- What is wrong with an event before it is signed, by the places of its parents
use Rattle.std.proofs.Common.{◌≡◌, ℕ, ◌+◌, ◌<◌, cond, not, List, length, drop, get_or, map, Some, ap}
use Rattle.std.specs.Prelude.{option_map}
use Rattle.std.proofs.lemmas.List.{at_drop_more}
use Rattle.hg_model.specs.declared.row.Row.{Row}
use Rattle.hg_model.specs.Links.{place_of}
use Rattle.hg_life.specs.declared.answers.MakeFault.TheVariants as fault
use Rattle.hg_model.specs.Held.{is_held}
use Rattle.hg_life.specs.Verdict.{first_by, first_missing}
use Rattle.hg_arrival.proofs.PlaceLaws.{first_by-places}
use Rattle.hg_node.specs.Draft.{creator_fault}

-- who made the rows with these names is who made those at their places
pub creator_fault-places : (own : ℕ) (G : List Row) (others : List (List ℕ)) →
    creator_fault own G (map (place_of G) others) ≡ option_map (λ place. fault.OtherCreator place) (first_by G own others)
creator_fault-places own G others = ap (option_map (λ place. fault.OtherCreator place)) (first_by-places G own others)

pub ruleset creators_told = (creator_fault-places)

-- names that are looked up one by one
pub first_missing_at : (G : List Row) (names : List (List ℕ)) (i : ℕ) (d : List ℕ) → i < length names →
    first_missing G (drop i names) ≡ cond (not (is_held G (get_or names i d))) (Some (get_or names i d)) (first_missing G (drop (i + 1) names))
first_missing_at G names i d low = at_drop_more (first_missing G) names i d low

pub ruleset names_looked_up = (first_missing_at)
