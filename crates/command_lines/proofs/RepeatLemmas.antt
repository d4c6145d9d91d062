-- What words that repeat, or that may be left out, are read as.
use Rattle.std.proofs.Common.{◌≡◌, ◌≢◌, ℕ, List, [], ◌∷◌, ◌++◌, map, Option, None, Some, ◌⊎◌, inl, inr, Ok, refl, ap, sym, subst, ◌∙◌, append_assoc, ℤ}
use Rattle.std.specs.List.{flat_map, AllByRecursion}
use Rattle.std.specs.Fmt.{signed_decimal}
use Rattle.std.proofs.lemmas.List.{append-nil}
use Rattle.field_merge.specs.Escapes.{unescaped}
use Rattle.command_lines.specs.declared.command.Command.{Command}
use Rattle.command_lines.specs.Forms.{Share, Wanted, word, may_end, some_texts, some_shares, if_read, amount_of, id_or_none, of_some, command_of}
use Rattle.command_lines.specs.FormLaws.{id_text, share_texts, IsShare, MakesOfTexts, MakesOfShares, FormsAreRead}
use Rattle.command_lines.proofs.Amounts.{amount_back, amount_written, id_back, id_written}
use Rattle.command_lines.proofs.FormLemmas.{Makes, makes_none, makes_read, read_makes}

module _ {A : Type 0} (made : List A → Command) where
  -- one or more have the command
  pub some_made : (xs : List A) → xs ≢ [] → of_some made xs ≡ Some (made xs)
  some_made [] h = absurd (h refl)
  some_made (x ∷ xs) h = refl

  pub made_some : (xs : List A) (c : Command) → of_some made xs ≡ Some c → (xs ≢ []) × (c ≡ made xs)
  made_some [] c e = absurd (cc)
  made_some (x ∷ xs) c e = let same : made (x ∷ xs) ≡ c = cc in (λ n. cc, sym same)

-- ---- texts

pub texts_make : (more texts : List (List ℕ)) (made : List (List ℕ) → Command) → texts ++ more ≢ [] → Makes (some_texts texts made) more (made (texts ++ more))
texts_make [] texts made h = some_made made texts (λ e. h (append-nil texts ∙ e)) ∙ ap (λ ts. Some (made ts)) (sym (append-nil texts))
texts_make (text ∷ more) texts made h =
    let same : (texts ++ text ∷ []) ++ more ≡ texts ++ text ∷ more = append_assoc texts (text ∷ []) more in
    subst (λ ts. Makes (some_texts (texts ++ text ∷ []) made) more (made ts)) same (texts_make more (texts ++ text ∷ []) made (λ e. h (sym same ∙ e)))

make_texts : (more texts : List (List ℕ)) (made : List (List ℕ) → Command) (c : Command) → Makes (some_texts texts made) more c → (texts ++ more ≢ []) × (c ≡ made (texts ++ more))
make_texts [] texts made c h =
    let one = made_some made texts c h in (λ e. one.0 (sym (append-nil texts) ∙ e), one.1 ∙ ap made (sym (append-nil texts)))
make_texts (text ∷ more) texts made c h =
    let same : (texts ++ text ∷ []) ++ more ≡ texts ++ text ∷ more = append_assoc texts (text ∷ []) more in
    let rest = make_texts more (texts ++ text ∷ []) made c h in
    (λ e. rest.0 (same ∙ e), rest.1 ∙ ap made same)

texts_read : (made : List (List ℕ) → Command) (last : ℕ) (ws : List (List ℕ)) (c : Command)
    → command_of (some_texts [] made) last ws ≡ Ok c → (texts : List (List ℕ)) × MakesOfTexts made ws texts c
texts_read made last ws c e =
    let read = read_makes ws (some_texts [] made) last c e in
    let told = make_texts (map unescaped ws) [] made c read.1 in
    (map unescaped ws, record { some = told.0; words = record { good = read.0; same = refl }; command = told.1 })

read_texts : (made : List (List ℕ) → Command) (last : ℕ) (ws : List (List ℕ)) (c : Command)
    → (texts : List (List ℕ)) × MakesOfTexts made ws texts c → command_of (some_texts [] made) last ws ≡ Ok c
read_texts made last ws c (texts, h) =
    makes_read ws (some_texts [] made) last c h.words.good
    (subst (λ ts. Makes (some_texts [] made) ts c) (sym h.words.same)
    (subst (Makes (some_texts [] made) texts) (sym h.command) (texts_make texts [] made h.some)))

-- ---- shares

-- behind the two texts of a share one more was read
behind_share : (shares : List Share) (made : List Share → Command) (n : ℤ) (id text : List ℕ) (more : List (List ℕ)) (c : Command) → amount_of text ≡ Some n
    → Makes (some_shares shares made) (text ∷ id ∷ more) c ≡ Makes (some_shares (shares ++ (n, id_or_none id) ∷ []) made) more c
behind_share shares made n id text more c e =
    ap (λ (o : Option ℤ). Makes (if_read (λ n. word (λ id. some_shares (shares ++ (n, id_or_none id) ∷ []) made)) o) (id ∷ more) c) e

pub shares_make : (more shares : List Share) (made : List Share → Command) → AllByRecursion IsShare more → shares ++ more ≢ []
    → Makes (some_shares shares made) (flat_map share_texts more) (made (shares ++ more))
shares_make [] shares made valid h = some_made made shares (λ e. h (append-nil shares ∙ e)) ∙ ap (λ ts. Some (made ts)) (sym (append-nil shares))
shares_make (share ∷ more) shares made valid h =
    let same : (shares ++ share ∷ []) ++ more ≡ shares ++ share ∷ more = append_assoc shares (share ∷ []) more in
    let one : (share.0, id_or_none (id_text share.1)) ≡ share = ap (λ (i : Option (List ℕ)). (share.0, i)) (id_back share.1 valid.0.id) in
    let P : Type 0 → Type 0 = λ t. t in
    subst P (sym (behind_share shares made share.0 (id_text share.1) (signed_decimal share.0) (flat_map share_texts more) (made (shares ++ share ∷ more)) (amount_back share.0 valid.0.amount)))
    (subst (λ (s : Share). Makes (some_shares (shares ++ s ∷ []) made) (flat_map share_texts more) (made (shares ++ share ∷ more))) (sym one)
    (subst (λ ts. Makes (some_shares (shares ++ share ∷ []) made) (flat_map share_texts more) (made ts)) same (shares_make more (shares ++ share ∷ []) made valid.1 (λ e. h (sym same ∙ e)))))

-- the texts are those of shares, of which the command is made behind those in front
record OfShares (made : List Share → Command) (texts : List (List ℕ)) (front more : List Share) (c : Command) : Type 0 where
  some : front ++ more ≢ []
  valid : AllByRecursion IsShare more
  same : texts ≡ flat_map share_texts more
  command : c ≡ made (front ++ more)

more_shares : (text id : List ℕ) (texts : List (List ℕ)) (shares : List Share) (made : List Share → Command) (c : Command) (o : Option ℤ) → amount_of text ≡ o
    → ((n : ℤ) → Makes (some_shares (shares ++ (n, id_or_none id) ∷ []) made) texts c → (more : List Share) × OfShares made texts (shares ++ (n, id_or_none id) ∷ []) more c)
    → Makes (if_read (λ n. word (λ id. some_shares (shares ++ (n, id_or_none id) ∷ []) made)) o) (id ∷ texts) c
    → (more : List Share) × OfShares made (text ∷ id ∷ texts) shares more c
more_shares text id texts shares made c None e on k = absurd (makes_none (id ∷ texts) c k)
more_shares text id texts shares made c (Some n) e on k =
    let share : Share = (n, id_or_none id) in
    let rest : (more : List Share) × OfShares made texts (shares ++ share ∷ []) more c = on n k in
    let same : (shares ++ share ∷ []) ++ rest.0 ≡ shares ++ share ∷ rest.0 = append_assoc shares (share ∷ []) rest.0 in
    let amount = amount_written text n e in
    let hyphen = id_written id in (
      share ∷ rest.0,
      record {
        some = λ e. rest.1.some (same ∙ e);
        valid = (record { amount = amount.0; id = hyphen.0 }, rest.1.valid);
        same = ap (λ t. t ∷ id ∷ texts) (sym amount.1) ∙ ap (λ t. signed_decimal n ∷ t ∷ texts) (sym hyphen.1) ∙ ap (λ ts. signed_decimal n ∷ id_text (id_or_none id) ∷ ts) rest.1.same;
        command = rest.1.command ∙ ap made same;
      },
    )

make_shares : (texts : List (List ℕ)) (shares : List Share) (made : List Share → Command) (c : Command) → Makes (some_shares shares made) texts c → (more : List Share) × OfShares made texts shares more c
make_shares [] shares made c h =
    let one = made_some made shares c h in
    ([], record { some = λ e. one.0 (sym (append-nil shares) ∙ e); valid = tt; same = refl; command = one.1 ∙ ap made (sym (append-nil shares)) })
make_shares (text ∷ []) shares made c h = absurd (none (amount_of text) h)
  where
    none : (o : Option ℤ) → Makes (if_read (λ n. word (λ id. some_shares (shares ++ (n, id_or_none id) ∷ []) made)) o) [] c → ⊥
    none None k = cc
    none (Some n) k = cc
make_shares (text ∷ id ∷ texts) shares made c h =
    more_shares text id texts shares made c (amount_of text) refl (λ n. make_shares texts (shares ++ (n, id_or_none id) ∷ []) made c) h

shares_read : (made : List Share → Command) (last : ℕ) (ws : List (List ℕ)) (c : Command)
    → command_of (some_shares [] made) last ws ≡ Ok c → (shares : List Share) × MakesOfShares made ws shares c
shares_read made last ws c e =
    let read = read_makes ws (some_shares [] made) last c e in
    let told = make_shares (map unescaped ws) [] made c read.1 in
    (told.0, record { some = told.1.some; valid = told.1.valid; words = record { good = read.0; same = told.1.same }; command = told.1.command })

read_shares : (made : List Share → Command) (last : ℕ) (ws : List (List ℕ)) (c : Command)
    → (shares : List Share) × MakesOfShares made ws shares c → command_of (some_shares [] made) last ws ≡ Ok c
read_shares made last ws c (shares, h) =
    makes_read ws (some_shares [] made) last c h.words.good
    (subst (λ ts. Makes (some_shares [] made) ts c) (sym h.words.same)
    (subst (Makes (some_shares [] made) (flat_map share_texts shares)) (sym h.command) (shares_make shares [] made h.valid h.some)))

-- ---- the end

may_end_read : (end c : Command) (next : List ℕ → Wanted) (last : ℕ) (ws : List (List ℕ))
    → command_of (may_end end next) last ws ≡ Ok c → ((ws ≡ []) × (c ≡ end)) ⊎ (command_of (word next) last ws ≡ Ok c)
may_end_read end c next last [] e = let same : end ≡ c = cc in inl (refl, sym same)
may_end_read end c next last (w ∷ ws) e = inr e

read_may_end : (end c : Command) (next : List ℕ → Wanted) (last : ℕ) (ws : List (List ℕ))
    → ((ws ≡ []) × (c ≡ end)) ⊎ (command_of (word next) last ws ≡ Ok c) → command_of (may_end end next) last ws ≡ Ok c
read_may_end end c next last [] (inl is) = ap (λ x. Ok x) (sym is.1)
read_may_end end c next last [] (inr read) = absurd (cc)
read_may_end end c next last (w ∷ ws) (inl is) = absurd (let none = is.0 in cc)
read_may_end end c next last (w ∷ ws) (inr read) = read

pub forms_read : FormsAreRead
forms_read = record {
  texts = λ made last ws c. (texts_read made last ws c, read_texts made last ws c);
  shares = λ made last ws c. (shares_read made last ws c, read_shares made last ws c);
  may_end = λ end c next last ws. (may_end_read end c next last ws, read_may_end end c next last ws);
}
