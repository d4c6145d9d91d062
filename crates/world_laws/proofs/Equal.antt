-- Whether two devices of a world have the same messages.
use Rattle.std.proofs.Common.{◌≡◌, ◌↔◌, ℕ, Bool, true, false, true≢false, eq-eqb, [], ◌∷◌, get_or, Option, None, Some, codes, refl, sym, ap, ap₂, ◌∙◌}
use Rattle.device_core.specs.Device.{State}
use Rattle.command_lines.specs.declared.reply.Reply.{Reply}
use Rattle.command_lines.specs.declared.reply.Reply.TheVariants.{Done, Refused}
use Rattle.sync_world.specs.World.{WorldState, device_of}
use Rattle.world_lines.specs.Laws.{SameLinesAreSameMessages}
use Rattle.world_lines.specs.Replies.{compared}
use Rattle.world_lines.specs.Session.{compare_at, have_same_lines}
use Rattle.world_laws.specs.Equal.{HaveMessages, AreThere, HaveSame, HaveOthers, told, lacking, EqualIsTold}

-- ---- replies that differ

abbrev is_done : Reply → Bool
is_done (Done lines) = true
is_done (Refused number code detail) = false

refused_done : {A : Type 0} (number : ℕ) (r : Reply) → is_done r ≡ true → lacking number ≡ r → A
refused_done number r done e = absurd (true≢false (sym done ∙ sym (ap is_done e)))

-- the digit that such a reply ends with
abbrev digit : Reply → ℕ
digit (Done (line ∷ lines)) = get_or line 6 0
digit other = 0

told_same : (b : Bool) → compared b ≡ Done (codes "equal 1" ∷ []) → b ≡ true
told_same true e = refl
told_same false e = absurd (true≢false (sym (eq-eqb 48 49 (ap digit e))))

told_other : (b : Bool) → compared b ≡ Done (codes "equal 0" ∷ []) → b ≡ false
told_other true e = absurd (true≢false (sym (eq-eqb 49 48 (ap digit e))))
told_other false e = refl

-- ---- two devices

module _ (law : SameLinesAreSameMessages) (w : WorldState) (one other : ℕ) where
  compares : (a b : Option State) → device_of w.devices one ≡ a → device_of w.devices other ≡ b → told w one other ≡ compare_at one other a b
  compares a b first second = ap₂ (compare_at one other) first second

  lines_same : HaveMessages w → (s t : State) → AreThere w one other s t → (have_same_lines s.messages t.messages ≡ true) ↔ (s.messages ≡ t.messages)
  lines_same valid s t there = law s.messages t.messages (valid one s there.first) (valid other t there.second)

  equal_so : HaveMessages w → told w one other ≡ Done (codes "equal 1" ∷ []) → HaveSame w one other
  equal_so valid e = by (device_of w.devices one) (device_of w.devices other) refl refl e
    where
      by : (a b : Option State) → device_of w.devices one ≡ a → device_of w.devices other ≡ b → compare_at one other a b ≡ Done (codes "equal 1" ∷ []) → HaveSame w one other
      by None b first second e = refused_done one (Done (codes "equal 1" ∷ [])) refl e
      by (Some s) None first second e = refused_done other (Done (codes "equal 1" ∷ [])) refl e
      by (Some s) (Some t) first second e =
          let there : AreThere w one other s t = record { first = first; second = second } in
          (s, t, there, (lines_same valid s t there).0 (told_same (have_same_lines s.messages t.messages) e))

  so_equal : HaveMessages w → HaveSame w one other → told w one other ≡ Done (codes "equal 1" ∷ [])
  so_equal valid h =
      let s = h.0 in
      let t = h.1 in
      compares (Some s) (Some t) h.2.first h.2.second ∙ ap compared ((lines_same valid s t h.2).1 h.3)

  differ_so : HaveMessages w → told w one other ≡ Done (codes "equal 0" ∷ []) → HaveOthers w one other
  differ_so valid e = by (device_of w.devices one) (device_of w.devices other) refl refl e
    where
      by : (a b : Option State) → device_of w.devices one ≡ a → device_of w.devices other ≡ b → compare_at one other a b ≡ Done (codes "equal 0" ∷ []) → HaveOthers w one other
      by None b first second e = refused_done one (Done (codes "equal 0" ∷ [])) refl e
      by (Some s) None first second e = refused_done other (Done (codes "equal 0" ∷ [])) refl e
      by (Some s) (Some t) first second e =
          let there : AreThere w one other s t = record { first = first; second = second } in
          let not_same : have_same_lines s.messages t.messages ≡ false = told_other (have_same_lines s.messages t.messages) e in
          (s, t, there, λ same. true≢false (sym ((lines_same valid s t there).1 same) ∙ not_same))

  so_differ : HaveMessages w → HaveOthers w one other → told w one other ≡ Done (codes "equal 0" ∷ [])
  so_differ valid h = compares (Some s) (Some t) h.2.first h.2.second ∙ by (have_same_lines s.messages t.messages) refl
    where
      s : State
      s = h.0

      t : State
      t = h.1

      by : (b : Bool) → have_same_lines s.messages t.messages ≡ b → compared (have_same_lines s.messages t.messages) ≡ Done (codes "equal 0" ∷ [])
      by true is = absurd (h.3 ((lines_same valid s t h.2).0 is))
      by false is = ap compared is

  pub equal_told : EqualIsTold w one other
  equal_told = record {
    same = refl;
    equal = λ valid. (equal_so valid, so_equal valid);
    differ = λ valid. (differ_so valid, so_differ valid);
    no_first = λ none. compares None (device_of w.devices other) none refl;
    no_second = λ s some none. compares (Some s) None some none;
  }
