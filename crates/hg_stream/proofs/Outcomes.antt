-- What holds anyhow holds of each outcome; and of a file that tells no bytes there is nothing to show
use Rattle.std.proofs.Common.{Option, None}
use Rattle.std.specs.Prelude.{Result, Ok, Err, IfOk, OnOk, OnErr}
use Rattle.std.specs.Option.{ForSome}

pub none_told : {A : Type 0} (P : A → Type 0) → ForSome (let told : Option A = None in told) P
none_told P x found = absurd cc

pub any_ok : {T E : Type 0} (r : Result T E) (P : T → Type 0) → ((x : T) → P x) → IfOk r P
any_ok (Ok x) P all = all x
any_ok (Err e) P all = tt

pub at_ok : {T E : Type 0} (r : Result T E) {P : Type 0} → P → OnOk r P
at_ok (Ok x) p = p
at_ok (Err e) p = tt

pub at_err : {T E : Type 0} (r : Result T E) {P : Type 0} → P → OnErr r P
at_err (Ok x) p = tt
at_err (Err e) p = p
