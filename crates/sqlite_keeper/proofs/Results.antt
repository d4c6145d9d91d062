-- What is known of a result in each case.
use Rattle.std.proofs.Common.{Result, Ok, Err, IfOk, IfErr, OnOk, OnErr}

pub if_ok : {T E : Type 0} {P Q : T → Type 0} (r : Result T E) → ((x : T) → P x → Q x) → IfOk r P → IfOk r Q
if_ok (Ok x) f p = f x p
if_ok (Err e) f p = tt

pub if_err : {T E : Type 0} {P Q : E → Type 0} (r : Result T E) → ((x : E) → P x → Q x) → IfErr r P → IfErr r Q
if_err (Ok x) f p = tt
if_err (Err e) f p = f e p

pub on_ok : {T E P Q : Type 0} (r : Result T E) → (P → Q) → OnOk r P → OnOk r Q
on_ok (Ok x) f p = f p
on_ok (Err e) f p = tt

pub on_err : {T E P Q : Type 0} (r : Result T E) → (P → Q) → OnErr r P → OnErr r Q
on_err (Ok x) f p = tt
on_err (Err e) f p = f p

pub if_and : {T E : Type 0} (P Q : T → Type 0) (r : Result T E) → IfOk r P → IfOk r Q → IfOk r (λ x. P x × Q x)
if_and P Q (Ok x) p q = (p, q)
if_and P Q (Err e) p q = tt

pub if_and_err : {T E : Type 0} (P Q : E → Type 0) (r : Result T E) → IfErr r P → IfErr r Q → IfErr r (λ x. P x × Q x)
if_and_err P Q (Ok x) p q = tt
if_and_err P Q (Err e) p q = (p, q)
