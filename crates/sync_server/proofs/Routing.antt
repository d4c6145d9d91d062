-- A router with one plain route leads from that path alone.
use Rattle.std.proofs.Common.{◌≡◌, ◌∙◌, ◌<◌, ℕ, zero, suc, List, [], ◌∷◌, Option, Some, None, Bool, true, false, cond, ◌==◌, ◌&&◌, nat_lt, slice_index, refl, ap, sym, subst, arith}
use Rattle.std.specs.Str.{bytes_eq, IsUtf8}
use Rattle.std.specs.Prelude.{is_some, codes, ⊤}
use Rattle.std.proofs.lemmas.Slice.Eq.{bytes_eq-Decides}
use Rattle.std.proofs.lemmas.Str.{IsUtf8-from_ascii}
use Rattle.std.proofs.lemmas.Bool.{ltb-true}
use Rattle.matchit.specs.Rows.{RowsOf}
use Rattle.matchit.specs.Router.{RouteOf}
use Rattle.matchit.specs.Seek.{seek, param_step, or_else, has_slash, first}
use Rattle.sync_server.specs.Routes.{IsSyncRouter}

-- a pattern without a parameter, whose marks are above all bytes
abbrev IsPlain : List ℕ → Type 0
IsPlain [] = Unit {0}
IsPlain (x ∷ t) = ((x == 256) ≡ false) × ((x == 257) ≡ false) × IsPlain t

module _ {K : Type 0} where
  abbrev no_rows : RowsOf K
  no_rows = []

  rows_either : (b : Bool) (x y : ℕ × RowsOf K) → x.1 ≡ [] → y.1 ≡ [] → (cond b x y).1 ≡ []
  rows_either true x y e f = e
  rows_either false x y e f = f

  no_parameter : (path : List ℕ) → (param_step no_rows path).1 ≡ []
  unfolding param_step
  no_parameter path = rows_either (has_slash path) _ _ refl refl

  nowhere : (skip : ℕ) (path : List ℕ) → seek skip no_rows path ≡ None
  unfolding seek
  nowhere skip [] = refl
  nowhere (suc skip) (b ∷ path) = nowhere skip path
  nowhere zero (b ∷ path) = rw (nowhere 0 path, no_parameter (b ∷ path)) (ap (λ o. or_else o None) (nowhere _ path))

  or_nothing : (o : Option K) → or_else o None ≡ o
  or_nothing None = refl
  or_nothing (Some k) = refl

  next_byte : (e : Bool) (rows : RowsOf K) (path : List ℕ) (found : Option K) → seek 0 rows path ≡ found → seek 0 (cond e rows []) path ≡ cond e found None
  next_byte true rows path found h = h
  next_byte false rows path found h = nowhere 0 path

  both : (e b : Bool) (k : K) → cond e (cond b (Some k) None) None ≡ cond (e && b) (Some k) None
  both true b k = refl
  both false b k = refl

  one_route : (t : List ℕ) (k : K) (path : List ℕ) → IsPlain t → first ((t, k) ∷ []) path ≡ cond (bytes_eq t path) (Some k) None
  unfolding seek
  one_route [] k [] h = refl
  one_route [] k (b ∷ path) h = rw (nowhere 0 path, no_parameter (b ∷ path)) (ap (λ o. or_else o None) (nowhere _ path))
  one_route (x ∷ t) k [] h = refl
  one_route (x ∷ t) k (b ∷ path) h =
      rw (h.0, h.1, no_parameter (b ∷ path))
      (ap (λ o. or_else (seek 0 (cond (x == b) ((t, k) ∷ []) []) path) (or_else o None)) (nowhere _ path)
      ∙ or_nothing _ ∙ next_byte (x == b) ((t, k) ∷ []) path _ (one_route t k path h.2) ∙ both (x == b) (bytes_eq t path) k)

some_if : {K : Type 0} (b : Bool) (k : K) → is_some (cond b (Some k) None) ≡ b
some_if true k = refl
some_if false k = refl

same_bool : (a b : Bool) → (a ≡ true → b ≡ true) → (b ≡ true → a ≡ true) → a ≡ b
same_bool true b h k = sym (h refl)
same_bool false true h k = k refl
same_bool false false h k = refl

turned : (xs ys : List ℕ) → bytes_eq xs ys ≡ bytes_eq ys xs
turned xs ys = same_bool _ _ (λ t. (bytes_eq-Decides ys xs).1 (sym ((bytes_eq-Decides xs ys).0 t))) (λ t. (bytes_eq-Decides xs ys).1 (sym ((bytes_eq-Decides ys xs).0 t)))

-- the router of a sync leads from the path of a sync
pub leads_from : (rows : RowsOf (RouteOf ⊤)) (path : List ℕ) → IsSyncRouter rows → is_some (first rows path) ≡ bytes_eq path (codes "/sync/sync")
leads_from rows path h =
    rw h.1 (ap is_some (one_route (codes "/sync/sync") h.0 path (refl, refl, (refl, refl, (refl, refl, (refl, refl, (refl, refl, (refl, refl, (refl, refl, (refl, refl, (refl, refl, (refl, refl, tt))))))))))) ∙ some_if _ h.0)
    ∙ turned (codes "/sync/sync") path

abbrev AreSmall : List ℕ → Type 0
AreSmall [] = Unit {0}
AreSmall (b ∷ bs) = (nat_lt b 128 ≡ true) × AreSmall bs

all_small : (bs : List ℕ) → AreSmall bs → (i : ℕ) → slice_index bs i < 128
all_small [] h i = omega arith
all_small (b ∷ bs) h zero = ltb-true b 128 h.0
all_small (b ∷ bs) h (suc i) = all_small bs h.1 i

-- bytes that are no text are not that path
pub no_text : (path : List ℕ) → (IsUtf8 path → ⊥) → false ≡ bytes_eq path (codes "/sync/sync")
no_text path none = sym (by (bytes_eq path (codes "/sync/sync")) refl)
  where
    by : (b : Bool) → bytes_eq path (codes "/sync/sync") ≡ b → b ≡ false
    by true e = absurd (none (subst IsUtf8 (sym ((bytes_eq-Decides path (codes "/sync/sync")).0 e)) (IsUtf8-from_ascii (codes "/sync/sync") (all_small (codes "/sync/sync") (refl, (refl, (refl, (refl, (refl, (refl, (refl, (refl, (refl, (refl, tt))))))))))))))
    by false e = refl
