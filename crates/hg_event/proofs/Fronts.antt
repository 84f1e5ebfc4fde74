-- The event at the front of some bytes is one whose bytes are followed by others.
use Rattle.std.proofs.Common.{◌≡◌, ℕ, Bool, cond, eqb, List, ◌++◌, length, Result, Ok, Err, refl, sym, ap, subst, ◌∙◌, append_assoc}
use Rattle.std.specs.Int.{w16, w64, to_be_bytes}
use Rattle.sha2.specs.Sha512.{sha384}
use Rattle.hg_model.specs.declared.row.Row.{Row}
use Rattle.hg_life.specs.declared.answers.ByteFault.{ByteFault}
use Rattle.hg_life.specs.declared.answers.ByteFault.TheVariants.{Trailing}
use Rattle.hg_life.specs.Spelling.{Spells, body_of, form_bytes, has_several, parent_bytes, payload_bytes, spelling}
use Rattle.hg_life.specs.Verdict.{signed_row}
use Rattle.hg_life.specs.Results.{◌>>=◌}
use Rattle.hg_life.specs.Reading.{bytes_field, form_field, number_field, parents_field, payload_field, read_event}
use Rattle.hg_event.specs.First.{read_first}
use Rattle.hg_event.proofs.Reading.{AreBytes, Took, bytes_again, bytes_took, eight_bytes, form_again, form_text, form_took, number_again, number_took, parents_again, parents_took, payload_again, payload_took, same_done, then_took, two_bytes, went_on}

-- the brackets of a spelling, and of what stands behind it
regrouped : (a b c d e f : List ℕ) → a ++ (b ++ (c ++ (d ++ (e ++ f)))) ≡ (a ++ (b ++ (c ++ (d ++ e)))) ++ f
regrouped a b c d e f = simp append_assoc

-- the last step of one reading, in the other's steps
last_step : {A B C : Type 0} (read : Result A ByteFault) (next : A → Result B ByteFault) (last : B → Result C ByteFault) (both : A → Result C ByteFault)
    → ((x : A) → both x ≡ (next x >>= last)) → (read >>= both) ≡ ((read >>= next) >>= last)
last_step (Ok x) next last both each = each x
last_step (Err fault) next last both each = refl

-- what all of the bytes spell, by what their front spells
abbrev pub ended : List ℕ → Row × List ℕ → Result Row ByteFault
ended bytes first = cond (eqb (length first.1) 0) (Ok (record first.0 { name = sha384 bytes })) (Err (Trailing (length first.1)))

pub read_event_first : (bytes : List ℕ) → read_event bytes ≡ (read_first bytes >>= ended bytes)
unfolding read_event read_first
read_event_first bytes =
    let size = length bytes in
    last_step (form_field size bytes) _ (ended bytes) _
    (λ form. last_step (number_field size w16 form.1) _ (ended bytes) _
    (λ creator. last_step (parents_field size form.0 creator.1) _ (ended bytes) _
    (λ parents. last_step (number_field size w64 parents.1) _ (ended bytes) _
    (λ time. last_step (payload_field size time.1) _ (ended bytes) _
    (λ payload. last_step (bytes_field size 64 payload.1) _ (ended bytes) _ (λ sig. refl))))))

-- bytes that begin with the spelling of a row
pub record Begins (bytes : List ℕ) (first : Row × List ℕ) : Type 0 where
  pub event : List ℕ
  pub spells : Spells event first.0
  pub whole : bytes ≡ event ++ first.1

-- what is read at the front is spelled so
pub first_begins : (bytes : List ℕ) (first : Row × List ℕ) → AreBytes bytes → read_first bytes ≡ Ok first → Begins bytes first
unfolding read_first body_of spelling
first_begins bytes first fit e =
    let size = length bytes in
    let a = went_on (form_field size bytes) _ first e in
    let b = went_on (number_field size w16 a.0.1) _ first a.2 in
    let c = went_on (parents_field size a.0.0 b.0.1) _ first b.2 in
    let d = went_on (number_field size w64 c.0.1) _ first c.2 in
    let p = went_on (payload_field size d.0.1) _ first d.2 in
    let s = went_on (bytes_field size 64 p.0.1) _ first p.2 in
    let made : Row = signed_row b.0.0 c.0.0 d.0.0 p.0.0 s.0.0 in
    let tf = form_took size bytes a.0 fit a.1 in
    let tb = number_took two_bytes size a.0.1 b.0 tf.left_fit b.1 in
    let tc = parents_took size a.0.0 b.0.1 c.0 tb.0.left_fit c.1 in
    let ta : Took bytes (form_bytes c.0.0) a.0.1 = subst (λ (several : Bool). Took bytes (form_text several) a.0.1) (sym tc.2) tf in
    let td = number_took eight_bytes size c.0.1 d.0 tc.0.left_fit d.1 in
    let tp = payload_took size d.0.1 p.0 td.0.left_fit p.1 in
    let ts = bytes_took size 64 p.0.1 s.0 tp.0.left_fit s.1 in
    let fields = then_took ta (then_took tb.0 (then_took tc.0 (then_took td.0 (then_took tp.0 ts.0.whole)))) in
    let whole : bytes ≡ spelling made ++ s.0.1 =
    fields ∙ regrouped (form_bytes c.0.0) (to_be_bytes w16 b.0.0) (parent_bytes c.0.0) (to_be_bytes w64 d.0.0) (payload_bytes p.0.0) (s.0.0 ++ s.0.1)
    ∙ sym (append_assoc (body_of made) s.0.0 s.0.1) in
    subst (Begins bytes) (same_done (made, s.0.1) first s.2)
    (record {
      event = spelling made;
      spells = record { sized = record { creator = tb.1; parents = tc.1; time = td.1; payload = tp.1; sig = ts.1 }; spelled = refl; named = refl };
      whole = whole;
    })

-- what is spelled so at the front is read
pub first_again : (event rest : List ℕ) (row : Row) → Spells event row → read_first (event ++ rest) ≡ Ok (row, rest)
unfolding read_first body_of spelling
first_again event rest row spells =
    let size = length (event ++ rest) in
    let has = spells.sized in
    let after_payload = row.sig ++ rest in
    let after_time = payload_bytes row.payload ++ after_payload in
    let after_parents = to_be_bytes w64 row.time ++ after_time in
    let after_creator = parent_bytes row.parents ++ after_parents in
    let after_front = to_be_bytes w16 row.creator ++ after_creator in
    let fields : event ++ rest ≡ form_bytes row.parents ++ after_front =
    ap (λ (b : List ℕ). b ++ rest) spells.spelled ∙ append_assoc (body_of row) row.sig rest
    ∙ sym (regrouped (form_bytes row.parents) (to_be_bytes w16 row.creator) (parent_bytes row.parents) (to_be_bytes w64 row.time) (payload_bytes row.payload) after_payload) in
    let several = has_several row.parents in
    let front : form_field size (event ++ rest) ≡ Ok (several, after_front) = ap (form_field size) fields ∙ form_again size several after_front in
    rw (
      front,
      number_again two_bytes size row.creator after_creator has.creator,
      parents_again size row.parents after_parents has.parents,
      number_again eight_bytes size row.time after_time has.time,
      payload_again size row.payload after_payload has.payload,
      bytes_again size 64 row.sig rest has.sig,
    ) (ap (λ (name : List ℕ). Ok (record row { name = name }, rest)) (sym (spells.named ∙ ap sha384 spells.spelled)))
