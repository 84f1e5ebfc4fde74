-- Where memory may be wanted
use Rattle.std.proofs.Common.{◌≡◌, ℕ, zero, suc, ◌<◌, List, ◌∷◌, length, Result, Ok, Err, sym, refl, subst, arith}
use Rattle.std.specs.Result.{IsErrAnd}
use Rattle.hg_model.specs.declared.row.Row.{Row}
use Rattle.hg_model.specs.declared.stop.Stop.{Stop}
use Rattle.hg_model.specs.declared.stop.Stop.TheVariants.{Memory, Fault}
use Rattle.hg_life.specs.Results.{◌>>=◌}
use Rattle.hg_proof.specs.declared.why.Why.{Why}
use Rattle.hg_proof.specs.Certificate.{Certificate}
use Rattle.hg_proof.specs.Reading.{Part, count_part, form_of, graph_part, magic_part, parts, row_part, rows_part}
use Rattle.hg_proof.specs.Want.{BeginsGraph, HasFirst, IfMemory, IsBegun, IsRead, OnMemory}
use Rattle.hg_proof.proofs.FormLaws.{went}

-- what was read stands in front
pub is_read : {A : Type 0} (part : Part A) (x : A × List ℕ) → part ≡ Ok x → IsRead part
is_read part x e = subst IsRead (sym e) tt

-- what is so is so where memory ran out
so_of : (stop : Stop Why) (Here IsSo : Type 0) → (Here → IsSo) → IfMemory stop Here → IfMemory stop IsSo
so_of Memory Here IsSo so want = so want
so_of (Fault why) Here IsSo so want = tt

pub so_anyhow : {A : Type 0} (result : Result A (Stop Why)) (IsSo : Type 0) → IsSo → OnMemory result IsSo
so_anyhow (Ok x) IsSo so = tt
so_anyhow (Err Memory) IsSo so = so
so_anyhow (Err (Fault why)) IsSo so = tt

pub so_then : {A : Type 0} (result : Result A (Stop Why)) (Here IsSo : Type 0) → (Here → IsSo) → OnMemory result Here → OnMemory result IsSo
so_then (Ok x) Here IsSo so want = tt
so_then (Err stop) Here IsSo so want = so_of stop Here IsSo so want

-- what ends one part ends all
pub so_handed : {B : Type 0} (stop : Stop Why) (Here IsSo : Type 0) → (Here → IsSo) → IfMemory stop Here →
    (result : Result B (Stop Why)) → IsErrAnd result (λ e. e ≡ stop) → OnMemory result IsSo
so_handed stop Here IsSo so want (Ok x) is = absurd is
so_handed stop Here IsSo so want (Err e) is = subst (λ (e : Stop Why). IfMemory e IsSo) (sym is) (so_of stop Here IsSo so want)

-- a fault is no want of memory
pub no_want : {B : Type 0} (why : Why) (IsSo : Type 0) (result : Result B (Stop Why)) → IsErrAnd result (λ e. e ≡ Fault why) → OnMemory result IsSo
no_want why IsSo (Ok x) is = absurd is
no_want why IsSo (Err e) is = subst (λ (e : Stop Why). IfMemory e IsSo) (sym is) tt

-- the first of the parts stands in front, once some were read, or where the next one stands and none was read before
pub first_read : (size i : ℕ) (bytes left : List ℕ) → ((0 < i) → IsRead (row_part size bytes)) → ((i ≡ 0) → left ≡ bytes) → IsRead (row_part size left) → IsRead (row_part size bytes)
first_read size zero bytes left begun start here = subst (λ (bytes : List ℕ). IsRead (row_part size bytes)) (start refl) here
first_read size (suc i) bytes left begun start here = begun (omega arith)

rows_first : (size k : ℕ) (bytes : List ℕ) (x : List Row × List ℕ) → rows_part size k bytes ≡ Ok x → HasFirst size k bytes
unfolding parts
rows_first size zero bytes x e = λ some. absurd (omega (arith, some))
rows_first size (suc k) bytes x e = λ some.
    let first = went (row_part size bytes) (λ first. parts (row_part size) k first.1 >>= λ others. Ok (first.0 ∷ others.0, others.1)) x e in
    is_read (row_part size bytes) first.0 first.1

-- a graph that was read is begun, and so is a certificate
pub graph_begun : (size : ℕ) (bytes : List ℕ) (x : List Row × List ℕ) → graph_part size bytes ≡ Ok x → BeginsGraph size bytes
unfolding graph_part
graph_begun size bytes x e =
    let count = went (count_part size bytes) (λ count. rows_part size count.0 count.1) x e in
    record { count = count.0; counted = count.1; first = rows_first size count.0.0 count.0.1 x count.2 }

pub form_begun : (bytes : List ℕ) (shown : Certificate) → form_of bytes ≡ Ok shown → IsBegun bytes
unfolding form_of
form_begun bytes shown e =
    let size = length bytes in
    let rest = went (magic_part size bytes) _ shown e in
    let graph = went (graph_part size rest.0) _ shown rest.2 in
    record { rest = rest.0; magic = rest.1; graph = graph_begun size rest.0 graph.0 graph.1 }

pub begun_at : (size : ℕ) (bytes rest : List ℕ) → size ≡ length bytes → magic_part size bytes ≡ Ok rest → BeginsGraph size rest → IsBegun bytes
begun_at size bytes rest is magic graph = record {
  rest = rest;
  magic = subst (λ (n : ℕ). magic_part n bytes ≡ Ok rest) is magic;
  graph = subst (λ (n : ℕ). BeginsGraph n rest) is graph;
}
