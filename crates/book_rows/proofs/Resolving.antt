-- What ids resolve to under mappings.
use Rattle.std.proofs.Common.{◌≡◌, inl, inr, Option, Some, None, refl, sym, ap, ◌∙◌}
use Rattle.std.specs.Prelude.{unwrap_or}
use Rattle.std.specs.Option.{option_map}
use Rattle.std.specs.FinMap as map
use Rattle.finite_sums.specs.Maps.{Text, Texts}
use Rattle.book_rows.specs.Live.{target_of, mapped}
use Rattle.book_rows.specs.Laws.{HasTarget, StandsFor, Resolves}

no_some : {X P : Type 0} (x : X) → None ≡ Some x → P
no_some x h = absurd (cc)

some_none : {X P : Type 0} (x : X) → Some x ≡ None → P
some_none x h = absurd (cc)

some_is : {X : Type 0} (x y : X) → Some x ≡ Some y → x ≡ y
some_is x y e = cc

module _ {Row : Type 0} (target : Row → Option Text) (rows : Texts Row) where
  -- the target of a row of the id
  told : (id to : Text) (o : Option Row) → map.get rows id ≡ o → target_of target o ≡ Some to → HasTarget target rows id to
  told id to None e h = no_some to h
  told id to (Some row) e h = (row, e, h)

  tells : (id to : Text) → HasTarget target rows id to → target_of target (map.get rows id) ≡ Some to
  tells id to h = ap (target_of target) h.1 ∙ h.2

  stands : (id to : Text) (o : Option Text) → target_of target (map.get rows id) ≡ o → unwrap_or o id ≡ to → StandsFor target rows id to
  stands id to None e h = inr ((λ other k. no_some other (sym e ∙ tells id other k)), sym h)
  stands id to (Some t) e h = inl (told id to (map.get rows id) refl (e ∙ ap Some h))

  none_told : (id : Text) → ((other : Text) → HasTarget target rows id other → ⊥) → (o : Option Text) → target_of target (map.get rows id) ≡ o → target_of target (map.get rows id) ≡ None
  none_told id none None e = e
  none_told id none (Some t) e = absurd (none t (told id t (map.get rows id) refl e))

  stood : (id to : Text) → StandsFor target rows id to → mapped target rows id ≡ to
  stood id to (inl h) = ap (λ o. unwrap_or o id) (tells id to h)
  stood id to (inr h) = ap (λ o. unwrap_or o id) (none_told id h.0 (target_of target (map.get rows id)) refl) ∙ sym h.1

  some_there : (to : Text) (column : Option Text) → option_map (mapped target rows) column ≡ Some to → (id : Text) × (column ≡ Some id) × StandsFor target rows id to
  some_there to None h = no_some to h
  some_there to (Some id) h = (id, refl, stands id to (target_of target (map.get rows id)) refl (some_is _ _ h))

  none_there : (column : Option Text) → option_map (mapped target rows) column ≡ None → column ≡ None
  none_there None h = refl
  none_there (Some id) h = some_none _ h

  pub resolves : (column : Option Text) → Resolves target rows column (option_map (mapped target rows) column)
  resolves column = record {
    some = λ to. (some_there to column, λ h. ap (option_map (mapped target rows)) h.1 ∙ ap Some (stood h.0 to h.2));
    none = (none_there column, λ h. ap (option_map (mapped target rows)) h);
  }
