-- The form of a `pay:` word
use Rattle.std.proofs.Common.{◌≡◌, ℕ, ◌+◌, ◌<◌, ◌≤◌, true, false, leb, ltb, List, [], ◌∷◌, ◌++◌, length, get_or, drop, map, Result, Ok, Err, refl, sym, ap, ◌∙◌, append_assoc, add-one, arith, count_by, inl, inr}
use Rattle.std.proofs.Math.Bool.{and-false}
use Rattle.std.proofs.Math.Seq.{drop-cons}
use Rattle.std.proofs.lemmas.Bool.{cases_lt, le-leb, le-ltb, lt-leb, lt-ltb}
use Rattle.std.proofs.lemmas.List.{append-nil, drop_all}
use Rattle.std.specs.List.{list_all}
use Rattle.std.specs.Prelude.{◌&&◌}
use Rattle.std.proofs.lemmas.List.Folds.{list_all-map}
use Rattle.std.proofs.lemmas.List.Splits.{length-slice_split}
use Rattle.hg_life.specs.declared.pay.Transfer.{Transfer}
use Rattle.hg_life.specs.Members.{MemberList}
use Rattle.hg_life.specs.Pay.{transfer_limit}
use Rattle.hg_life.specs.Results.{◌>>=◌}
use Rattle.hg_script.specs.declared.fault.Why.{Why}
use Rattle.hg_script.specs.declared.fault.Why.TheVariants.{Payload}
use Rattle.hg_script.specs.Argument.{is_comma, parts_of}
use Rattle.hg_script.specs.Payload.{are_items, is_item, pay_in, pay_of}

pub few_parts : (text : List ℕ) (commas : ℕ) → commas ≡ count_by is_comma text → ltb commas 64 ≡ leb (length (parts_of text)) 64
few_parts text commas counted =
    let many : length (parts_of text) ≡ commas + 1 = length-slice_split is_comma text ∙ ap (λ n. n + 1) (sym counted) in
    elim (cases_lt commas 64) [
      | inl few ↦ lt-ltb commas 64 few ∙ sym (le-leb (length (parts_of text)) 64 (omega arith))
      | inr past ↦ le-ltb commas 64 past ∙ sym (lt-leb (length (parts_of text)) 64 (omega arith))
    ]

-- a text has one part at least
pub some_parts : (text : List ℕ) → 0 < length (parts_of text)
some_parts text = omega (arith, length-slice_split is_comma text)

-- ---- the form

pub pay_refused : {N : Type 0} (bytes : N → List ℕ) (members : MemberList) (text : List ℕ) (parts : List N) → map bytes parts ≡ parts_of text → list_all (λ part. is_item (bytes part)) parts ≡ false → pay_of members text ≡ Err Payload
pay_refused bytes members text parts are none =
    let each : list_all is_item (parts_of text) ≡ false = ap (list_all is_item) (sym are) ∙ list_all-map is_item bytes parts ∙ none in
    let whole : are_items text ≡ false = ap (λ b. leb (length (parts_of text)) transfer_limit && b) each ∙ and-false _ in
    rw whole

pub pay_taken : {N : Type 0} (bytes : N → List ℕ) (members : MemberList) (text : List ℕ) (parts : List N) → map bytes parts ≡ parts_of text → leb (length (parts_of text)) transfer_limit ≡ true
    → list_all (λ part. is_item (bytes part)) parts ≡ true → pay_in members (map bytes parts) ≡ pay_of members text
pay_taken bytes members text parts are few all =
    let each : list_all is_item (parts_of text) ≡ true = ap (list_all is_item) (sym are) ∙ list_all-map is_item bytes parts ∙ all in
    rw (few, each) (ap (pay_in members) are)
