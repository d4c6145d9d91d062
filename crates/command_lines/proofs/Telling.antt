-- A command that is made of words is valid, and its texts are those of the words.
use Rattle.std.proofs.Common.{◌≡◌, ◌≢◌, ℕ, Bool, true, false, List, [], ◌∷◌, ◌++◌, Option, None, Some, is_none, Result, Ok, Err, refl, ap, sym, subst, ◌∙◌, append_assoc, ℤ}
use Rattle.std.specs.Prelude.{if◌then◌else◌}
use Rattle.std.specs.Fmt.{signed_decimal}
use Rattle.std.specs.List.{flat_map, AllByRecursion}
use Rattle.std.proofs.lemmas.List.{append-nil}
use Rattle.field_values.specs.declared.name.NameFault.{NameFault}
use Rattle.field_values.specs.declared.name.NamePart.TheVariants.{Dataset}
use Rattle.field_values.specs.Names.{IsName, name_fault}
use Rattle.field_values.proofs.NameLemmas.{name_without_fault}
use Rattle.hybrid_clock.specs.declared.stamp.Stamp.{Stamp}
use Rattle.hybrid_clock.specs.declared.stamp.StampFault.{StampFault}
use Rattle.hybrid_clock.specs.Reading.{read_stamp}
use Rattle.command_lines.specs.declared.command.Command.{Command}
use Rattle.command_lines.specs.Forms.{Share, Wanted, no_more, word, may_end, some_texts, some_shares, misfit, is_name, of_stamp, if_read, amount_of, id_or_none, ends, behind}
use Rattle.command_lines.specs.Commands.{IsCommand}
use Rattle.command_lines.specs.FormLaws.{share_texts, id_text, IsShare}
use Rattle.command_lines.specs.Written.{command_texts, CanBeWritten}
use Rattle.command_lines.proofs.Amounts.{amount_written, id_written}
use Rattle.command_lines.proofs.FormLemmas.{Makes}
use Rattle.command_lines.proofs.RepeatLemmas.{made_some}

-- the command is valid, and its words, which are these texts, can be written
pub record IsCommandOf (texts : List (List ℕ)) (c : Command) : Type 0 where
  pub same : command_texts c ≡ texts
  pub valid : IsCommand c
  pub can : CanBeWritten c

-- each command that is made here is one of the texts in front, and then those of the words
abbrev pub Tells : List (List ℕ) → Wanted → Type 0
Tells front misfit = Unit {0}
Tells front (no_more c) = IsCommandOf front c
Tells front (word next) = (text : List ℕ) → Tells (front ++ text ∷ []) (next text)
Tells front (may_end c next) = IsCommandOf front c × ((text : List ℕ) → Tells (front ++ text ∷ []) (next text))
Tells front (some_texts texts made) = (more : List (List ℕ)) → texts ++ more ≢ [] → IsCommandOf (front ++ more) (made (texts ++ more))
Tells front (some_shares shares made) = (more : List Share) → AllByRecursion IsShare more → shares ++ more ≢ [] → IsCommandOf (front ++ flat_map share_texts more) (made (shares ++ more))

-- the same of equal texts and commands
moved : (texts others : List (List ℕ)) (c d : Command) → texts ≡ others → c ≡ d → IsCommandOf texts c → IsCommandOf others d
moved texts others c d e f is = subst (IsCommandOf others) f (subst (λ ts. IsCommandOf ts c) e is)

tells_end : (wanted : Wanted) (front : List (List ℕ)) (c : Command) → Tells front wanted → ends wanted ≡ Some c → IsCommandOf front c
tells_end misfit front c h e = absurd (cc)
tells_end (no_more made) front c h e = let same : made ≡ c = cc in subst (IsCommandOf front) same h
tells_end (word next) front c h e = absurd (cc)
tells_end (may_end made next) front c h e = let same : made ≡ c = cc in subst (IsCommandOf front) same h.0
tells_end (some_texts texts made) front c h e =
    let some = made_some made texts c e in
    moved (front ++ []) front (made (texts ++ [])) c (append-nil front) (ap made (append-nil texts) ∙ sym some.1) (h [] (λ none. some.0 (sym (append-nil texts) ∙ none)))
tells_end (some_shares shares made) front c h e =
    let some = made_some made shares c e in
    moved (front ++ []) front (made (shares ++ [])) c (append-nil front) (ap made (append-nil shares) ∙ sym some.1) (h [] tt (λ none. some.0 (sym (append-nil shares) ∙ none)))

tells_behind : (wanted : Wanted) (front : List (List ℕ)) (text : List ℕ) → Tells front wanted → Tells (front ++ text ∷ []) (behind wanted text)
tells_behind misfit front text h = tt
tells_behind (no_more c) front text h = tt
tells_behind (word next) front text h = h text
tells_behind (may_end c next) front text h = h.1 text
tells_behind (some_texts texts made) front text h =
    λ more some. moved (front ++ text ∷ more) ((front ++ text ∷ []) ++ more) (made (texts ++ text ∷ more)) (made ((texts ++ text ∷ []) ++ more))
    (sym (append_assoc front (text ∷ []) more)) (ap made (sym (append_assoc texts (text ∷ []) more))) (h (text ∷ more) (λ none. some (append_assoc texts (text ∷ []) more ∙ none)))
tells_behind (some_shares shares made) front text h = by (amount_of text) refl
  where
    by : (o : Option ℤ) → amount_of text ≡ o → Tells (front ++ text ∷ []) (if_read (λ n. word (λ id. some_shares (shares ++ (n, id_or_none id) ∷ []) made)) o)
    by None e = tt
    by (Some n) e = λ id more valid some.
        let share : Share = (n, id_or_none id) in
        let amount = amount_written text n e in
        let hyphen = id_written id in
        let rest : List (List ℕ) = flat_map share_texts more in
        moved (front ++ signed_decimal n ∷ id_text (id_or_none id) ∷ rest) (((front ++ text ∷ []) ++ id ∷ []) ++ rest) (made (shares ++ share ∷ more)) (made ((shares ++ share ∷ []) ++ more))
        (ap (λ t. front ++ t ∷ id_text (id_or_none id) ∷ rest) amount.1
        ∙ ap (λ t. front ++ text ∷ t ∷ rest) hyphen.1
        ∙ sym (append_assoc front (text ∷ []) (id ∷ rest))
        ∙ sym (append_assoc (front ++ text ∷ []) (id ∷ []) rest))
        (ap made (sym (append_assoc shares (share ∷ []) more)))
        (h (share ∷ more) (record { amount = amount.0; id = hyphen.0 }, valid) (λ none. some (append_assoc shares (share ∷ []) more ∙ none)))

-- the command that texts make is one of them, behind those in front
pub texts_told : (texts front : List (List ℕ)) (wanted : Wanted) (c : Command) → Tells front wanted → Makes wanted texts c → IsCommandOf (front ++ texts) c
texts_told [] front wanted c h made = subst (λ ts. IsCommandOf ts c) (sym (append-nil front)) (tells_end wanted front c h made)
texts_told (text ∷ texts) front wanted c h made =
    subst (λ ts. IsCommandOf ts c) (append_assoc front (text ∷ []) texts)
    (texts_told texts (front ++ text ∷ []) (behind wanted text) c (tells_behind wanted front text h) made)

-- ---- of each form

pub tells_stamp : (read : Result Stamp StampFault) (front : List (List ℕ)) (text : List ℕ) (next : Stamp → Wanted) → read_stamp text ≡ read
    → ((s : Stamp) → read_stamp text ≡ Ok s → Tells front (next s)) → Tells front (of_stamp next read)
tells_stamp (Err fault) front text next e h = tt
tells_stamp (Ok s) front text next e h = h s e

-- a form: the word is of it, and was read as this
pub tells_form : {A : Type 0} (o : Option A) (front : List (List ℕ)) (text : List ℕ) (read : List ℕ → Option A) (next : A → Wanted) → read text ≡ o
    → ((a : A) → read text ≡ Some a → Tells front (next a)) → Tells front (if_read next o)
tells_form None front text read next e h = tt
tells_form (Some a) front text read next e h = h a e

none_is : (o : Option NameFault) → is_none o ≡ true → o ≡ None
none_is None e = refl
none_is (Some fault) e = absurd (cc)

pub tells_name : (front : List (List ℕ)) (text : List ℕ) (next : List ℕ → Wanted) → (IsName text → Tells front (next text)) → Tells front (if is_name text then next text else misfit)
tells_name front text next h = by (is_name text) refl
  where
    by : (is : Bool) → is_name text ≡ is → Tells front (if is then next text else misfit)
    by true e = h (name_without_fault Dataset text (none_is (name_fault Dataset text) e))
    by false e = tt
