-- A row of counts: its two parts, and the branches that it does not tell of
use Rattle.std.proofs.Common.{◌≡◌, ℕ, ◌+◌, ◌-◌, ◌<◌, ◌≤◌, ◌&&◌, ◌||◌, eqb, nat_lt, cond, max, true, false, Bool, List, [], ◌∷◌, length, get_or, slice_index, take, sym, ap, ap₂, ◌∙◌, inl, inr, arith, refl, subst}
use Rattle.std.specs.List.{list_all, list_any}
use Rattle.std.proofs.Math.Seq.{take-append_seam}
use Rattle.std.proofs.lemmas.Bool.{cases_lt, and_parts, and_from, or_cases, or_left, or_right, false_from_ne_true, ltb-true, lt-ltb, eqb-true, eq-eqb, ne_eqb, both_ways}
use Rattle.std.proofs.lemmas.Bool.Decides.{nat_tests}
use Rattle.std.proofs.lemmas.List.Folds.{list_all_at, list_all_more}
use Rattle.std.proofs.lemmas.List.{get_or_append_left, get_or-append_right, get_or_past, get_or-take, length-append, ext_get_or}
use Rattle.hg_model.specs.Places.{some_below, table}
use Rattle.hg_model.proofs.PlacesLaws.{some_below_from, some_below_found, some_below_next}
use Rattle.hg_model.proofs.ReachLaws.{bool_iff}
use Rattle.hg_branches.specs.Tails.{Tail, tail_at, place_count, place_width}
use Rattle.hg_branches.specs.Branches.{greatest_count}
use Rattle.hg_branches.specs.Table.{CountsWithRoom, is_own_row, rows_of}
use Rattle.hg_branches.specs.Columns.{count_in, counts_more, forks_anew, forks_on_own, joined_counts}
use Rattle.hg_branches.specs.Rows.{HasTail, joined_row}
use Rattle.hg_branches.proofs.NumberLaws.{row_known, row_long, number_read, number_tail}
use Rattle.hg_branches.proofs.TableLaws.{get_or-table_all, length-table}

module _ (lanes numbers : List ℕ) (own end : ℕ) where
  abbrev behind : List ℕ
  behind = table (place_count numbers own end) (place_width numbers own)

  pub joined_long : length (joined_row lanes numbers own end) ≡ length lanes + place_width numbers own
  joined_long = length-append lanes behind ∙ ap (λ k. length lanes + k) (length-table (place_count numbers own end) (place_width numbers own))

  pub joined_own : take (length lanes) (joined_row lanes numbers own end) ≡ lanes
  joined_own = take-append_seam lanes behind

  pub joined_lane : (b : ℕ) → b < length lanes → get_or (joined_row lanes numbers own end) b 0 ≡ get_or lanes b 0
  joined_lane b low = get_or_append_left lanes behind 0 b low

  -- no place behind counts
  place_none : (k : ℕ) → place_width numbers own ≤ k → place_count numbers own end k ≡ 0
  place_none k past =
      let none : get_or numbers k 0 ≡ 0 = get_or_past numbers k 0 (omega arith) in
      let off : eqb (k + 1) own ≡ false = ne_eqb (k + 1) own (omega arith) in
      ap₂ (λ n c. max n (cond c end 0)) none off

  pub joined_other : (b : ℕ) → length lanes ≤ b → get_or (joined_row lanes numbers own end) b 0 ≡ place_count numbers own end (b - length lanes)
  joined_other b past =
      get_or-append_right lanes behind (length lanes) b 0 refl past
      ∙ get_or-table_all (place_count numbers own end) (place_width numbers own) (b - length lanes) (place_none (b - length lanes))

  -- the two parts of a row make it
  pub joined_is : (members : ℕ) (row : List ℕ) → lanes ≡ take members row → length lanes ≡ members → HasTail members row numbers own end → joined_row lanes numbers own end ≡ row
  joined_is members row are long has =
      ext_get_or 0 (joined_row lanes numbers own end) row (joined_long ∙ (ap (λ k. k + place_width numbers own) long ∙ sym has.wide))
      (λ b _. elim (cases_lt b (length lanes)) [
        | inl low ↦ joined_lane b low ∙ (ap (λ l. get_or l b 0) are ∙ get_or-take members row b 0 (omega arith))
        | inr past ↦ joined_other b past ∙ (sym (has.each (b - length lanes)) ∙ ap (λ i. get_or row i 0) (let back : members + (b - length lanes) ≡ b = omega arith in back))
      ])

-- the tail of a row of a table
pub tail_had : (members : ℕ) (own : List ℕ) (tails : List Tail) (x : ℕ) → x < length tails →
    HasTail members (get_or (rows_of members own tails) x []) (tail_at tails x).numbers (tail_at tails x).own (x + 1)
tail_had members own tails x inside =
    let is = row_known members own tails x inside in
    record {
      each = λ k.
          let back : members + k - members ≡ k = omega arith in
          ap (λ r. get_or r (members + k) 0) is
          ∙ (number_read members own tails x (members + k)
          ∙ (number_tail members own tails x (members + k) (omega arith)
          ∙ ap (place_count (tail_at tails x).numbers (tail_at tails x).own (x + 1)) back));
      wide = ap length is ∙ row_long members own tails x;
    }

-- a row is no longer than the members' own branches where its tail tells of none
pub none_behind : (long members width : ℕ) → long ≡ members + width → eqb width 0 ≡ eqb long members
none_behind long members width is = grind (arith, nat_tests)

-- behind `b` no branch counts up to the next one that is told of
pub between_none : (lanes numbers : List ℕ) (own end b next : ℕ) → length lanes + length numbers ≤ b + 1 → (b + 1 < length lanes + own → next ≤ length lanes + own - 1) →
    (c : ℕ) → b < c → c < next → get_or (joined_row lanes numbers own end) c 0 ≡ 0
between_none lanes numbers own end b next listed to c past before =
    let none : get_or numbers (c - length lanes) 0 ≡ 0 = get_or_past numbers (c - length lanes) 0 (omega arith) in
    let off : eqb (c - length lanes + 1) own ≡ false = ne_eqb (c - length lanes + 1) own (λ same. (elim (cases_lt (b + 1) (length lanes + own)) [
      | inl less ↦ (let le = to less in absurd (omega arith))
      | inr more ↦ absurd (omega arith)
    ])) in
    joined_other lanes numbers own end c (omega arith) ∙ ap₂ (λ n t. max n (cond t end 0)) none off

-- a test that fails from `len` on passes below `len` or nowhere
pub some_below-longer : (len n : ℕ) (test : ℕ → Bool) → len ≤ n → ((k : ℕ) → len ≤ k → k < n → test k ≡ false) → some_below len test ≡ some_below n test
some_below-longer len n test le rest = bool_iff (some_below len test) (some_below n test)
    (λ h. (let k = some_below_found len test h in let low : k.0 < len = k.1 in some_below_from n test k.0 (omega arith) k.2))
    (λ h. (let k = some_below_found n test h in elim (cases_lt k.0 len) [
      | inl low ↦ some_below_from len test k.0 low k.2
      | inr past ↦ absurd (both_ways (test k.0) (rest k.0 past k.1) k.2)
    ]))

-- a test that passes at no place behind b up to the next one
pub some_below-next : (b next : ℕ) (test : ℕ → Bool) → b < next → ((c : ℕ) → b < c → c < next → test c ≡ false) → (some_below b test || test b) ≡ some_below next test
some_below-next b next test later none = sym (some_below_next b test) ∙ some_below-longer (b + 1) next test (omega arith) (λ c past before. none c (omega arith) before)

-- where the parents before and the next one count rows of the members' own branches alone, a new fork is the creator's
module _ (makers : List ℕ) (count other : ℕ → ℕ) (members : ℕ) (own : (m : ℕ) → m < members → slice_index makers m ≡ m) (all : members ≤ length makers)
    (none : (b : ℕ) → members ≤ b → count b ≡ 0) (none_other : (b : ℕ) → members ≤ b → other b ≡ 0) where
  -- a branch that counts is its maker's own
  counted_own : (counts : ℕ → ℕ) → ((b : ℕ) → members ≤ b → counts b ≡ 0) → (b m : ℕ) → 0 < counts b → slice_index makers b ≡ m → b ≡ m
  counted_own counts alone b m some made = elim (cases_lt b members) [
    | inl low ↦ sym (own b low) ∙ made
    | inr past ↦ absurd (omega (arith, alone b past))
  ]

  more_found : (counts rest : ℕ → ℕ) → ((b : ℕ) → members ≤ b → counts b ≡ 0) → (m : ℕ) → counts_more makers counts rest m ≡ true → rest m < counts m
  more_found counts rest alone m h =
      let b = some_below_found (length makers) (λ b. nat_lt (rest b) (counts b) && eqb (slice_index makers b) m) h in
      let parts = and_parts (nat_lt (rest b.0) (counts b.0)) (eqb (slice_index makers b.0) m) b.2 in
      let over : rest b.0 < counts b.0 = ltb-true (rest b.0) (counts b.0) parts.0 in
      let is : b.0 ≡ m = counted_own counts alone b.0 m (omega arith) (eqb-true (slice_index makers b.0) m parts.1) in
      subst (λ k. rest k < counts k) is over

  pub forks_own : (by m : ℕ) → forks_anew makers count other by m ≡ forks_on_own count other by m
  forks_own by m = bool_iff (forks_anew makers count other by m) (forks_on_own count other by m)
      (λ h.
      let parts = and_parts (eqb m by || counts_more makers count other m) (counts_more makers other count m) h in
      let over : count m < other m = more_found other count none_other m parts.1 in
      elim (or_cases (eqb m by) (counts_more makers count other m) parts.0) [
        | inl is ↦ and_from (nat_lt (count by) (other by)) (eqb m by)
            (subst (λ k. nat_lt (count k) (other k) ≡ true) (eqb-true m by is) (lt-ltb (count m) (other m) over)) is
        | inr more ↦ (let under : other m < count m = more_found count other none m more in absurd (omega arith))
      ])
      (λ h.
      let parts = and_parts (nat_lt (count by) (other by)) (eqb m by) h in
      let over : count by < other by = ltb-true (count by) (other by) parts.0 in
      let low : by < members = elim (cases_lt by members) [
        | inl low ↦ low
        | inr past ↦ absurd (omega (arith, none_other by past))
      ] in
      let is : m ≡ by = eqb-true m by parts.1 in
      and_from (eqb m by || counts_more makers count other m) (counts_more makers other count m)
      (or_left (eqb m by) (counts_more makers count other m) parts.1)
      (some_below_from (length makers) (λ b. nat_lt (count b) (other b) && eqb (slice_index makers b) m) by (omega arith)
      (and_from (nat_lt (count by) (other by)) (eqb (slice_index makers by) m) parts.0 (eq-eqb (slice_index makers by) m (own by low ∙ sym is)))))

-- such a row counts nothing behind them, nor do several
own_none : (t : CountsWithRoom) (x b : ℕ) → is_own_row t x ≡ true → t.members ≤ b → count_in t.rows x b ≡ 0
own_none t x b own past = get_or_past (get_or t.rows x []) b 0 (omega (arith, eqb-true (length (get_or t.rows x [])) t.members own))

greatest_none_behind : (t : CountsWithRoom) (ps : List ℕ) (b : ℕ) → list_all (is_own_row t) ps ≡ true → t.members ≤ b → greatest_count (count_in t.rows) ps b ≡ 0
greatest_none_behind t [] b own past = refl
greatest_none_behind t (p ∷ ps) b own past =
    let parts = and_parts (is_own_row t p) (list_all (is_own_row t) ps) own in
    omega (arith, own_none t p b parts.0 past, greatest_none_behind t ps b parts.1 past)

pub forks_on_own_rows : (t : CountsWithRoom) (makers : List ℕ) (own : (m : ℕ) → m < t.members → slice_index makers m ≡ m) (all : t.members ≤ length makers) (p : ℕ) (ps : List ℕ) (next by m : ℕ) →
    is_own_row t next ≡ true → is_own_row t p ≡ true → list_all (is_own_row t) ps ≡ true →
    forks_anew makers (joined_counts t.rows p ps) (count_in t.rows next) by m ≡ forks_on_own (joined_counts t.rows p ps) (count_in t.rows next) by m
forks_on_own_rows t makers own all p ps next by m own_next own_first own_others =
    forks_own makers (joined_counts t.rows p ps) (count_in t.rows next) t.members own all
    (λ b past. greatest_none_behind t (p ∷ ps) b (and_from (is_own_row t p) (list_all (is_own_row t) ps) own_first own_others) past) (λ b past. own_none t next b own_next past) by m

-- the members of whom one of these rows counts more than the other

counts_more-none : (makers : List ℕ) (other : ℕ → ℕ) (m : ℕ) → counts_more makers (λ b. 0) other m ≡ false
counts_more-none makers other m = false_from_ne_true (counts_more makers (λ b. 0) other m) (λ h.
    let b = some_below_found (length makers) (λ b. nat_lt (other b) 0 && eqb (slice_index makers b) m) h in
    let parts = and_parts (nat_lt (other b.0) 0) (eqb (slice_index makers b.0) m) b.2 in
    absurd (omega (arith, ltb-true (other b.0) 0 parts.0)))

counts_more-joined : (makers : List ℕ) (count rest other : ℕ → ℕ) (m : ℕ) → (counts_more makers count other m || counts_more makers rest other m) ≡ counts_more makers (λ b. max (count b) (rest b)) other m
counts_more-joined makers count rest other m =
    let test : (ℕ → ℕ) → ℕ → Bool = λ counts b. nat_lt (other b) (counts b) && eqb (slice_index makers b) m in
    let both : ℕ → ℕ = λ b. max (count b) (rest b) in
    let raised : (counts : ℕ → ℕ) → ((b : ℕ) → counts b ≤ both b) → counts_more makers counts other m ≡ true → counts_more makers both other m ≡ true = λ counts le h.
    (let b = some_below_found (length makers) (test counts) h in
    let parts = and_parts (nat_lt (other b.0) (counts b.0)) (eqb (slice_index makers b.0) m) b.2 in
    let over : other b.0 < counts b.0 = ltb-true (other b.0) (counts b.0) parts.0 in
    some_below_from (length makers) (test both) b.0 b.1 (and_from (nat_lt (other b.0) (both b.0)) (eqb (slice_index makers b.0) m) (lt-ltb (other b.0) (both b.0) (omega (arith, le b.0))) parts.1)) in
    bool_iff (counts_more makers count other m || counts_more makers rest other m) (counts_more makers both other m)
    (λ h. elim (or_cases (counts_more makers count other m) (counts_more makers rest other m) h) [
      | inl one ↦ raised count (λ b. omega arith) one
      | inr two ↦ raised rest (λ b. omega arith) two
    ])
    (λ h.
    let b = some_below_found (length makers) (test both) h in
    let parts = and_parts (nat_lt (other b.0) (both b.0)) (eqb (slice_index makers b.0) m) b.2 in
    let over : other b.0 < max (count b.0) (rest b.0) = ltb-true (other b.0) (both b.0) parts.0 in
    let found : (counts : ℕ → ℕ) → other b.0 < counts b.0 → counts_more makers counts other m ≡ true = λ counts less.
    some_below_from (length makers) (test counts) b.0 b.1 (and_from (nat_lt (other b.0) (counts b.0)) (eqb (slice_index makers b.0) m) (lt-ltb (other b.0) (counts b.0) less) parts.1) in
    elim (cases_lt (other b.0) (count b.0)) [
      | inl one ↦ or_left (counts_more makers count other m) (counts_more makers rest other m) (found count one)
      | inr not_one ↦ or_right (counts_more makers count other m) (counts_more makers rest other m) (found rest (omega arith))
    ])

pub counts_more-any : (makers : List ℕ) (count : ℕ → ℕ → ℕ) (ps : List ℕ) (other : ℕ → ℕ) (m : ℕ) → list_any (λ p. counts_more makers (count p) other m) ps ≡ counts_more makers (greatest_count count ps) other m
counts_more-any makers count [] other m = sym (counts_more-none makers other m)
counts_more-any makers count (p ∷ ps) other m =
    ap (λ t. counts_more makers (count p) other m || t) (counts_more-any makers count ps other m) ∙ counts_more-joined makers (count p) (greatest_count count ps) other m

-- such rows one after the other
pub own_steps_none : (t : CountsWithRoom) (rows : List ℕ) → list_all (is_own_row t) (take 0 rows) ≡ true
own_steps_none t rows = refl

pub own_steps_more : (t : CountsWithRoom) (rows : List ℕ) (i : ℕ) → i < length rows → is_own_row t (get_or rows i 0) ≡ true → list_all (is_own_row t) (take i rows) ≡ true →
    list_all (is_own_row t) (take (i + 1) rows) ≡ true
own_steps_more t rows i inside here before = list_all_more (is_own_row t) rows i 0 inside ∙ and_from (list_all (is_own_row t) (take i rows)) (is_own_row t (get_or rows i 0)) before here

pub own_steps_not : (t : CountsWithRoom) (rows : List ℕ) (i : ℕ) → i < length rows → is_own_row t (get_or rows i 0) ≡ false → list_all (is_own_row t) rows ≡ false
own_steps_not t rows i inside not_here = list_all_at (is_own_row t) rows i 0 inside not_here

pub ruleset own_steps = (own_steps_none, own_steps_more, own_steps_not)
