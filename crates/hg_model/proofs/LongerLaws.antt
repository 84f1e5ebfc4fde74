-- What longer lists of links keep
use Rattle.std.proofs.Common.{◌≡◌, ℕ, suc, ◌+◌, ◌<◌, ◌≤◌, Bool, cond, not, ◌&&◌, eqb, List, [], length, take, drop, subst, ◌++◌, Some, slice_get, get_or, sym, refl, ap, ap₂, ◌∙◌, arith, length-append}
use Rattle.std.proofs.lemmas.List.{get_or_append_left, take-append-drop}
use Rattle.std.proofs.lemmas.Option.{slice_get-get_or}
use Rattle.std.specs.List.{list_all}
use Rattle.hg_model.specs.declared.row.Row.{Row}
use Rattle.hg_model.specs.Places.{IsEarlier}
use Rattle.hg_model.specs.Stakes.{Stakes, member_count, stake_of, total}
use Rattle.hg_model.specs.Links.{Link, links, parents_in, creator_in, first_place, parents, self_parent, creator}
use Rattle.hg_model.specs.Ancestry.{is_ancestor, is_self_ancestor, some_ancestor}
use Rattle.hg_model.specs.Forks.{is_fork, has_fork_below}
use Rattle.hg_model.specs.Seeing.{sees, sees_through, strongly_sees, is_supermajority}
use Rattle.hg_model.specs.Rounds.{parent_round, is_witness_by, is_seen_witness, round_from, round_of, is_witness, stake_at, weight_of}
use Rattle.hg_model.specs.Votes.{is_voter, yes_votes, no_votes, vote_from, vote_of, decides}
use Rattle.hg_model.specs.Graph.{IsShaped}
use Rattle.hg_model.specs.Order.{row_sig, middle_bit, coin_at}
use Rattle.hg_model.proofs.PlacesLaws.{by_place-same, some_below-same, weight_below-same, weight_below-equal}
use Rattle.hg_model.proofs.ReachLaws.{reaches-same}
use Rattle.hg_model.proofs.LinkLaws.{length-links}
use Rattle.hg_model.proofs.PushLaws.{nobody, link_at, link_in-append, present_at}
use Rattle.hg_model.proofs.RoundLaws.{is_witness_by-same}

-- M begins with the links of L
pub record IsLonger (L M : List Link) : Type 0 where
  pub more : length L ≤ length M
  pub same : (x : ℕ) → x < length L → slice_get M x ≡ slice_get L x

pub slice_get-append : {A : Type 0} (xs ys : List A) (nothing : A) (x : ℕ) → x < length xs → slice_get (xs ++ ys) x ≡ slice_get xs x
slice_get-append xs ys nothing x h =
    slice_get-get_or (xs ++ ys) x nothing (omega (arith, length-append xs ys))
    ∙ (ap (λ a. Some a) (get_or_append_left xs ys nothing x h) ∙ sym (slice_get-get_or xs x nothing h))

pub longer-append : (L more : List Link) → IsLonger L (L ++ more)
longer-append L more = record {
  more = omega (arith, length-append L more);
  same = λ x h. slice_get-append L more (record { creator = 0; parents = [] }) x h;
}

pub longer-take : (L : List Link) (len : ℕ) → len ≤ length L → IsLonger (take len L) L
longer-take L len le = subst (λ M. IsLonger (take len L) M) (take-append-drop len L) (longer-append (take len L) (drop len L))

-- rows that come later leave the links of a shaped graph as they are
pub links-longer : (n : Stakes) (G more : List Row) → IsShaped n (links G) → IsLonger (links G) (links (G ++ more))
links-longer n G more s =
    let both = length-append G more in
    record {
      more = omega (arith, both, length-links G, length-links (G ++ more));
      same = λ x h.
          let inside : x < length G = omega (arith, length-links G) in
          link_at (G ++ more) x (omega arith)
          ∙ (ap (λ link. Some link) (rw (get_or_append_left G more nobody x inside) (link_in-append G more (get_or G x nobody) (present_at n G s x inside)))
          ∙ sym (link_at G x inside));
    }

pub coin_at-longer : (G more : List Row) (x : ℕ) → x < length G → coin_at (G ++ more) x ≡ coin_at G x
unfolding coin_at Rattle.hg_model.specs.Order.sig_at
coin_at-longer G more x h = ap (λ row. middle_bit (row_sig row)) (slice_get-append G more nobody x h)

pub coin_at-take : (G : List Row) (len x : ℕ) → x < length (take len G) → coin_at G x ≡ coin_at (take len G) x
coin_at-take G len x h =
    subst (λ (H : List Row). coin_at H x ≡ coin_at (take len G) x) (take-append-drop len G) (coin_at-longer (take len G) (drop len G) x h)

module _ (L M : List Link) (longer : IsLonger L M) where
  pub parents-longer : (x : ℕ) → x < length L → parents M x ≡ parents L x
  unfolding parents
  parents-longer x h = ap parents_in (longer.same x h)

  pub self_parent-longer : (x : ℕ) → x < length L → self_parent M x ≡ self_parent L x
  unfolding self_parent
  self_parent-longer x h = ap first_place (parents-longer x h)

  pub creator-longer : (x : ℕ) → x < length L → creator M x ≡ creator L x
  unfolding creator
  creator-longer x h = ap creator_in (longer.same x h)

  pub is_ancestor-longer : (x y : ℕ) → x < length L → is_ancestor M x y ≡ is_ancestor L x y
  unfolding is_ancestor
  is_ancestor-longer x y h = reaches-same (parents M) (parents L) (length L) parents-longer x y h

  pub is_self_ancestor-longer : (x y : ℕ) → x < length L → is_self_ancestor M x y ≡ is_self_ancestor L x y
  unfolding is_self_ancestor
  is_self_ancestor-longer x y h = reaches-same (self_parent M) (self_parent L) (length L) self_parent-longer x y h

  some_ancestor-longer : (x : ℕ) (one two : ℕ → Bool) → x < length L → ((y : ℕ) → y < length L → one y ≡ two y) → some_ancestor M x one ≡ some_ancestor L x two
  some_ancestor-longer x one two h same =
      some_below-same (suc x) (λ y. is_ancestor M x y && one y) (λ y. is_ancestor L x y && two y)
      (λ y hy. ap₂ (λ a b. a && b) (is_ancestor-longer x y h) (same y (omega arith)))

  is_fork-longer : (m a b : ℕ) → a < length L → b < length L → is_fork M m a b ≡ is_fork L m a b
  unfolding is_fork
  is_fork-longer m a b ha hb = rw (creator-longer a ha, creator-longer b hb, is_self_ancestor-longer a b ha, is_self_ancestor-longer b a hb) refl

  pub has_fork_below-longer : (x m : ℕ) → x < length L → has_fork_below M x m ≡ has_fork_below L x m
  unfolding has_fork_below
  has_fork_below-longer x m h =
      some_ancestor-longer x (λ a. some_ancestor M x (is_fork M m a)) (λ a. some_ancestor L x (is_fork L m a)) h
      (λ a ha. some_ancestor-longer x (is_fork M m a) (is_fork L m a) h (λ b hb. is_fork-longer m a b ha hb))

  pub sees-longer : (x y : ℕ) → x < length L → y < length L → sees M x y ≡ sees L x y
  unfolding sees
  sees-longer x y hx hy = rw (is_ancestor-longer x y hx, creator-longer y hy, has_fork_below-longer x (creator L y) hx) refl

  sees_through-longer : (x y m : ℕ) → x < length L → y < length L → sees_through M x y m ≡ sees_through L x y m
  unfolding sees_through
  sees_through-longer x y m hx hy =
      some_ancestor-longer x (λ z. eqb (creator M z) m && sees M z y) (λ z. eqb (creator L z) m && sees L z y) hx
      (λ z hz. rw (creator-longer z hz, sees-longer z y hz hy) refl)

  pub strongly_sees-longer : (n : Stakes) (x y : ℕ) → x < length L → y < length L → strongly_sees n M x y ≡ strongly_sees n L x y
  unfolding strongly_sees
  strongly_sees-longer n x y hx hy =
      ap (is_supermajority (total n)) (weight_below-same (stake_of n) (member_count n) (sees_through M x y) (sees_through L x y) (λ m hm. sees_through-longer x y m hx hy))

  module _ (n : Stakes) where
    -- events weigh what they weighed
    pub weight_of-longer : (x : ℕ) (one two : ℕ → Bool) → x ≤ length L → ((y : ℕ) → y < x → one y ≡ two y) → weight_of n M x one ≡ weight_of n L x two
    weight_of-longer x one two le same =
        weight_below-same (stake_at n M) x one two same
        ∙ weight_below-equal (stake_at n M) (stake_at n L) x two (λ y hy. ap (stake_of n) (creator-longer y (omega arith)))

    round_from-longer : (round : ℕ → ℕ) (x : ℕ) → x < length L → round_from n M round x ≡ round_from n L round x
    round_from-longer round x h =
        let r = parent_round round (parents L x) in
        rw (parents-longer x h)
        (ap (λ count. cond (is_supermajority (total n) count) (r + 1) r)
        (weight_of-longer x (is_seen_witness round n M r x) (is_seen_witness round n L r x) (omega arith)
        (λ y hy. rw (self_parent-longer y (omega arith), strongly_sees-longer n x y h (omega arith)) refl)))

    pub round_of-longer : (x : ℕ) → x < length L → round_of n M x ≡ round_of n L x
    unfolding round_of
    round_of-longer x h = by_place-same 0 (round_from n M) (round_from n L) (length L) round_from-longer x h

    module _ (e : IsEarlier (parents L)) where
      pub is_witness-longer : (x : ℕ) → x < length L → is_witness n M x ≡ is_witness n L x
      unfolding is_witness
      is_witness-longer x h =
          rw (self_parent-longer x h) refl
          ∙ is_witness_by-same n L e (round_of n M) (round_of n L) x (λ p hp. round_of-longer p (omega arith))

      is_voter-longer : (y w : ℕ) → y < length L → w < y → is_voter n M y w ≡ is_voter n L y w
      is_voter-longer y w hy hw =
          let witness : is_witness_by (round_of n M) M w ≡ is_witness_by (round_of n L) L w = unfold is_witness in is_witness-longer w (omega arith) in
          rw (witness, round_of-longer w (omega arith), round_of-longer y hy, strongly_sees-longer n y w hy (omega arith)) refl

      yes_votes-longer : (vote other : ℕ → Bool) (y : ℕ) → y < length L → ((w : ℕ) → w < y → vote w ≡ other w) → yes_votes n M vote y ≡ yes_votes n L other y
      yes_votes-longer vote other y hy same =
          weight_of-longer y (λ w. is_voter n M y w && vote w) (λ w. is_voter n L y w && other w) (omega arith)
          (λ w hw. ap₂ (λ a b. a && b) (is_voter-longer y w hy hw) (same w hw))

      no_votes-longer : (vote other : ℕ → Bool) (y : ℕ) → y < length L → ((w : ℕ) → w < y → vote w ≡ other w) → no_votes n M vote y ≡ no_votes n L other y
      no_votes-longer vote other y hy same =
          weight_of-longer y (λ w. is_voter n M y w && not (vote w)) (λ w. is_voter n L y w && not (other w)) (omega arith)
          (λ w hw. ap₂ (λ a b. a && not b) (is_voter-longer y w hy hw) (same w hw))

      module _ (c : ℕ) (one two : ℕ → Bool) (same_coin : (y : ℕ) → y < length L → two y ≡ one y) (x : ℕ) (hx : x < length L) where
        vote_from-longer : (vote : ℕ → Bool) (y : ℕ) → y < length L → vote_from n c M two x vote y ≡ vote_from n c L one x vote y
        vote_from-longer vote y hy =
            rw (yes_votes-longer vote vote y hy (λ w hw. refl), no_votes-longer vote vote y hy (λ w hw. refl), round_of-longer y hy, round_of-longer x hx, sees-longer y x hy hx, same_coin y hy) refl

        pub vote_of-longer : (y : ℕ) → y < length L → vote_of n c M two x y ≡ vote_of n c L one x y
        unfolding vote_of
        vote_of-longer y hy = by_place-same Rattle.std.specs.Prelude.false (vote_from n c M two x) (vote_from n c L one x) (length L) vote_from-longer y hy

        pub decides-longer : (y : ℕ) → y < length L → decides n c M two x y ≡ decides n c L one x y
        unfolding decides
        decides-longer y hy =
            let vote = vote_of n c M two x in
            let other = vote_of n c L one x in
            let same = λ (w : ℕ) (hw : w < y). vote_of-longer w (omega arith) in
            rw (yes_votes-longer vote other y hy same, no_votes-longer vote other y hy same, is_witness-longer y hy, round_of-longer y hy, round_of-longer x hx) refl
