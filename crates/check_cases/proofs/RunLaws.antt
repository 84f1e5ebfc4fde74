-- An outcome that is the same as that of a run, and the line of a status
use Rattle.std.proofs.Common.{◌≡◌, ℕ, List, Option, Some, [], length, take, inl, inr, ◌⊎◌, sym, ◌∙◌, subst}
use Rattle.std.specs.Prelude.{String}
use Rattle.std.specs.Global.{Global}
use Rattle.std.proofs.Math.Seq.{take-length}
use Rattle.hg_io.specs.Bytes.{Appends, AppendsPart}
use Rattle.hg_io.specs.Faults.{Rose}
use Rattle.hg_io.specs.Files.{Files}
use Rattle.hg_check.specs.declared.outcome.Outcome.{Outcome}
use Rattle.hg_check.specs.Outcomes.{AreSame}
use Rattle.hg_top.specs.declared.status.Status.{Status}
use Rattle.hg_top.specs.Printing.{status_code, status_line}
use Rattle.check_cases.specs.Runs.{IsFrontOfLine, MayComeTo, MayEnd}

pub came : (words : List (String Global)) (files : Files) (status : Status) (written told : List ℕ) (wanted got : Outcome) →
    AreSame wanted got → got.status ≡ status_code status → got.stdout.now ≡ written → got.stderr.now ≡ told →
    MayEnd words files status written → IsFrontOfLine status told → MayComeTo words files wanted
came words files status written told wanted got same code wrote tells ends line = record {
  status = status;
  code = same.0 ∙ code;
  ends = subst (λ (bytes : List ℕ). MayEnd words files status bytes) (sym (same.1 ∙ wrote)) ends;
  told = subst (λ (bytes : List ℕ). IsFrontOfLine status bytes) (sym (same.2 ∙ tells)) line;
}

some_is : {A : Type 0} (x y : A) → (let a : Option A = Some x in a) ≡ Some y → x ≡ y
some_is x y same = cc

-- what was written to a sink that had nothing
pub front : (before : List ℕ) (told : List ℕ) (status : Status) (m n : ℕ) → before ≡ [] →
    Appends (Some before) (Some told) (status_line status) ⊎ (AppendsPart (Some before) (Some told) (status_line status) × Rose m n) →
    IsFrontOfLine status told
front before told status m n none (inl whole) =
    (length (status_line status), some_is told (status_line status) (subst (λ (held : List ℕ). Appends (Some held) (Some told) (status_line status)) none whole) ∙ sym (take-length (status_line status)))
front before told status m n none (inr part) =
    (part.0.0, some_is told (take part.0.0 (status_line status)) (subst (λ (held : List ℕ). Appends (Some held) (Some told) (take part.0.0 (status_line status))) none part.0.2))
