-- The rows that a node makes are one chain, so a made row makes no fork
use Rattle.std.proofs.Common.{◌≡◌, ◌≢◌, ◌⊎◌, inl, inr, ℕ, zero, suc, ◌<◌, ◌≤◌, Bool, true, cond, eqb, List, [], ◌∷◌, ◌++◌, length, fold, Option, Some, None, option_map, slice_get, sym, refl, ap, ◌∙◌, subst, arith}
use Rattle.std.proofs.lemmas.Bool.{cases_Bool, cases_lt, cases_eq, both_ways, eq-eqb}
use Rattle.std.proofs.lemmas.List.{length_push}
use Rattle.hg_model.specs.declared.row.Row.{Row}
use Rattle.hg_model.specs.Stakes.{Stakes, member_count, stake_of}
use Rattle.hg_model.specs.Links.{links, creator}
use Rattle.hg_model.specs.Forks.{has_fork, forking}
use Rattle.hg_model.specs.Graph.{name_in, name_at, HasDistinctNames, IsShaped}
use Rattle.hg_life.specs.Verdict.{later_name, last_name}
use Rattle.hg_model.specs.Graph.{creator_at, creator_of_row}
use Rattle.hg_model.specs.Chains.{self_parent_name_in, self_parent_name, IsChain}
use Rattle.hg_model.proofs.ForkLaws.{has_fork_found, has_fork_from, is_fork_from}
use Rattle.hg_model.proofs.LinkLaws.{length-links}
use Rattle.hg_model.proofs.LongerLaws.{IsLonger, links-longer, creator-longer, is_self_ancestor-longer}
use Rattle.hg_model.proofs.PlacesLaws.{weight_below-le}
use Rattle.hg_model.proofs.PushLaws.{row_creator-links, slice_get-before, slice_get-last}
use Rattle.hg_prefix.proofs.ChainLaws.{no_fork}

-- the last name of a member is that of its last row

-- the fold ends with what it began with, or with the name of a row
fold_named : (m : ℕ) (name : Option (List ℕ)) (G : List Row) → (fold (later_name m) name G ≡ name) ⊎ ((p : ℕ) × (p < length G) × (fold (later_name m) name G ≡ Some (name_at G p)))
unfolding name_at
fold_named m name [] = inl refl
fold_named m name (row ∷ G) = elim (fold_named m (later_name m name row) G) [
  | inr later ↦ inr (suc later.0, (let low = later.1 in omega arith), later.2)
  | inl same ↦ elim (cases_Bool (eqb row.creator m)) [
    | inl own ↦ inr (0, omega arith, same ∙ ap (λ (b : Bool). cond b (Some row.name) name) own)
    | inr other ↦ inl (same ∙ ap (λ (b : Bool). cond b (Some row.name) name) other)
  ]
]

fold_from : (m : ℕ) (name : Option (List ℕ)) (G : List Row) (x : ℕ) → x < length G → creator_at G x ≡ m →
    (p : ℕ) × (x ≤ p) × (p < length G) × (fold (later_name m) name G ≡ Some (name_at G p))
unfolding name_at
fold_from m name [] x inside by = absurd (omega arith)
fold_from m name (row ∷ G) zero inside by = elim (fold_named m (later_name m name row) G) [
  | inr later ↦ (suc later.0, omega arith, (let low = later.1 in omega arith), later.2)
  | inl same ↦ (0, omega arith, omega arith, same ∙ ap (λ (b : Bool). cond b (Some row.name) name) (eq-eqb row.creator m by))
]
fold_from m name (row ∷ G) (suc x) inside by =
    let later = fold_from m (later_name m name row) G x (omega arith) by in
    (suc later.0, (let le = later.1 in omega arith), (let low = later.2 in omega arith), later.3)

-- from each row by the member on
pub last_from : (m : ℕ) (G : List Row) (x : ℕ) → x < length G → creator_at G x ≡ m → (p : ℕ) × (x ≤ p) × (p < length G) × (last_name m G ≡ Some (name_at G p))
last_from m G x inside by = fold_from m None G x inside by

-- chains

module _ (m : ℕ) (G : List Row) (row : Row) (chain : IsChain m G) (distinct : HasDistinctNames (G ++ row ∷ [])) where
  joined_before : (x y : ℕ) → x < y → y < length G → creator_at (G ++ row ∷ []) x ≡ m → creator_at (G ++ row ∷ []) y ≡ m →
      (p : ℕ) × (x ≤ p) × (p < y) × (self_parent_name (G ++ row ∷ []) y ≡ Some (name_at (G ++ row ∷ []) p))
  unfolding name_at
  joined_before x y low inside by_x by_y =
      let by_x' = sym (ap creator_of_row (slice_get-before G row x (omega arith))) ∙ by_x in
      let by_y' = sym (ap creator_of_row (slice_get-before G row y inside)) ∙ by_y in
      let p = chain.joined x y low inside by_x' by_y' in
      let p_low : p.0 < y = p.2 in (
        p.0,
        p.1,
        p.2,
        ap self_parent_name_in (slice_get-before G row y inside) ∙ (p.3 ∙ ap (λ (o : Option Row). Some (name_in o)) (sym (slice_get-before G row p.0 (omega arith)))),
      )

  -- a row by another leaves the chain
  pub chain_other : row.creator ≢ m → IsChain m (G ++ row ∷ [])
  chain_other by_other = record {
    distinct = distinct;
    joined = λ x y low inside by_x by_y. elim (cases_lt y (length G)) [
      | inl old ↦ joined_before x y low old by_x by_y
      | inr new ↦ (
          let at : y ≡ length G = omega (arith, length_push G row) in
          absurd (by_other (sym (ap creator_of_row (ap (slice_get (G ++ row ∷ [])) at ∙ slice_get-last G row)) ∙ by_y)))
    ];
  }

  -- a row after the member's last one goes on with it
  pub chain_own : option_map (λ names. names.0) row.parents ≡ last_name m G → IsChain m (G ++ row ∷ [])
  unfolding name_at
  chain_own after_last = record {
    distinct = distinct;
    joined = λ x y low inside by_x by_y. elim (cases_lt y (length G)) [
      | inl old ↦ joined_before x y low old by_x by_y
      | inr new ↦ (
          let at : y ≡ length G = omega (arith, length_push G row) in
          let inside_x : x < length G = omega arith in
          let p = last_from m G x inside_x (sym (ap creator_of_row (slice_get-before G row x inside_x)) ∙ by_x) in
          let p_low : p.0 < length G = p.2 in (
            p.0,
            p.1,
            omega arith,
            ap self_parent_name_in (ap (slice_get (G ++ row ∷ [])) at ∙ slice_get-last G row)
                ∙ (after_last ∙ (p.3 ∙ ap (λ (o : Option Row). Some (name_in o)) (sym (slice_get-before G row p.0 p_low)))),
          ))
    ];
  }

-- forks

module _ (n : Stakes) (G : List Row) (row : Row) (shaped : IsShaped n (links G)) where
  longer : IsLonger (links G) (links (G ++ row ∷ []))
  longer = links-longer n G (row ∷ []) shaped

  last_creator : creator (links (G ++ row ∷ [])) (length G) ≡ row.creator
  last_creator = row_creator-links (G ++ row ∷ []) (length G) ∙ ap creator_of_row (slice_get-last G row)

  within : (m x : ℕ) → m ≢ row.creator → x < length (links (G ++ row ∷ [])) → creator (links (G ++ row ∷ [])) x ≡ m → x < length (links G)
  within m x other inside by =
      let len = length-links G in
      let len' = length-links (G ++ row ∷ []) in
      elim (cases_eq x (length G)) [
        | inl same ↦ absurd (other (sym by ∙ (ap (creator (links (G ++ row ∷ []))) same ∙ last_creator)))
        | inr differ ↦ omega (arith, length_push G row)
      ]

  -- a row makes no fork of another member
  fork_before : (m : ℕ) → m ≢ row.creator → has_fork (links (G ++ row ∷ [])) m ≡ true → has_fork (links G) m ≡ true
  fork_before m other forks =
      let L = links G in
      let M = links (G ++ row ∷ []) in
      let f = has_fork_found M m forks in
      let a : ℕ = f.0 in
      let b : ℕ = f.1 in
      let inside_a = within m a other f.2 f.4.first in
      let inside_b = within m b other f.3 f.4.second in
      has_fork_from L m a b inside_a inside_b (is_fork_from L m a b (record {
        first = sym (creator-longer L M longer a inside_a) ∙ f.4.first;
        second = sym (creator-longer L M longer b inside_b) ∙ f.4.second;
        not_above = sym (is_self_ancestor-longer L M longer a b inside_a) ∙ f.4.not_above;
        not_below = sym (is_self_ancestor-longer L M longer b a inside_b) ∙ f.4.not_below;
      }))

  -- and where its creator's rows are one chain, none at all
  pub chain_forking : HasDistinctNames (G ++ row ∷ []) → IsShaped n (links (G ++ row ∷ [])) → IsChain row.creator (G ++ row ∷ []) → forking n (links (G ++ row ∷ [])) ≤ forking n (links G)
  unfolding forking
  chain_forking distinct shaped' chain =
      let U = G ++ row ∷ [] in
      let none = no_fork n row.creator U U distinct shaped' chain (λ u inside by. (u, inside, refl)) in
      weight_below-le (stake_of n) (member_count n) (has_fork (links U)) (has_fork (links G)) (λ m inside forks. elim (cases_eq m row.creator) [
        | inl own ↦ absurd (both_ways (has_fork (links U) row.creator) none (subst (λ k. has_fork (links U) k ≡ true) own forks))
        | inr other ↦ fork_before m other forks
      ])
