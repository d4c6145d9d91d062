-- The fault that is told of a line is the first thing that is wrong with it.
use Rattle.std.proofs.Common.{◌≡◌, ◌≢◌, ℕ, List, [], ◌∷◌, length, Option, None, Some, Result, Ok, Err, arith, refl, sym, ap, subst, ◌∙◌}
use Rattle.std.specs.Prelude.{count_by, ◌==◌}
use Rattle.field_values.specs.declared.name.NameFault.{NameFault}
use Rattle.field_values.specs.Names.{FieldNames, AreNames, field_of, names_fault}
use Rattle.field_values.proofs.FaultLemmas.{faults_are_told_lem}
use Rattle.field_values.proofs.NameLemmas.{names_fault-none}
use Rattle.hybrid_clock.specs.declared.stamp.Stamp.{Stamp}
use Rattle.hybrid_clock.specs.declared.stamp.StampFault.{StampFault}
use Rattle.hybrid_clock.specs.Reading.{read_stamp}
use Rattle.hybrid_clock.proofs.TextFaults.{stamp_faults_are_told_lem}
use Rattle.field_merge.specs.declared.message.Message.{Message}
use Rattle.field_merge.specs.declared.line.LineFault.{LineFault}
use Rattle.field_merge.specs.declared.line.LineFault.TheVariants.{Columns, Escape, Stamp as BadStamp, Name as BadName}
use Rattle.field_merge.specs.Escapes.{bad_escape, unescaped}
use Rattle.field_merge.specs.Messages.{message_of}
use Rattle.field_merge.specs.Lines.{parts, with_names, with_stamp, of_parts, reading}
use Rattle.field_merge.specs.LineFaults.{StandsFor, IsFaultOfLine, LineFaultsAreTold}
use Rattle.field_merge.proofs.BadEscapes.{bad_found}
use Rattle.field_merge.proofs.LineLemmas.{length_of_parts, reading-columns}

-- another number of parts
told_columns : (line : List ℕ) (ps : List (List ℕ)) (bad : Option ℕ) (fault : LineFault) → parts line ≡ ps → length ps ≢ 5 → of_parts ps bad ≡ Err fault → IsFaultOfLine line fault
told_columns line ps bad fault cut other e =
    let same : Err (Columns (length ps)) ≡ Err fault = sym (reading-columns ps bad other) ∙ e in
    let is : Columns (length ps) ≡ fault = cc in
    subst (λ (f : LineFault). IsFaultOfLine line f) is (sym (ap length cut) ∙ length_of_parts line, other)

told_names : (line stamp : List ℕ) (names : FieldNames) (s : Stamp) (value : List ℕ) (found : Option NameFault) (fault : LineFault) → StandsFor line stamp names → read_stamp stamp ≡ Ok s → names_fault names ≡ found → with_names found s names value ≡ Err fault → IsFaultOfLine line fault
told_names line stamp names s value (Some why) fault stands read told e =
    let is : BadName why ≡ fault = cc in
    subst (λ (f : LineFault). IsFaultOfLine line f) is (stamp, names, s, stands, read, faults_are_told_lem.first names why told)
told_names line stamp names s value None fault stands read told e = absurd (cc)

told_stamp : (line stamp : List ℕ) (names : FieldNames) (value : List ℕ) (read : Result Stamp StampFault) (fault : LineFault) → StandsFor line stamp names → read_stamp stamp ≡ read → with_stamp read names value ≡ Err fault → IsFaultOfLine line fault
told_stamp line stamp names value (Err why) fault stands told e =
    let is : BadStamp why ≡ fault = cc in
    subst (λ (f : LineFault). IsFaultOfLine line f) is (stamp, names, stands, (stamp_faults_are_told_lem stamp why).0 told)
told_stamp line stamp names value (Ok s) fault stands told e = told_names line stamp names s value (names_fault names) fault stands told refl e

told_parts : (line : List ℕ) (ps : List (List ℕ)) (bad : Option ℕ) (fault : LineFault) → parts line ≡ ps → bad_escape line ≡ bad → of_parts ps bad ≡ Err fault → IsFaultOfLine line fault
told_parts line [] bad fault cut found e = told_columns line [] bad fault cut (λ n. absurd (omega (arith, n))) e
told_parts line (a ∷ []) bad fault cut found e = told_columns line (a ∷ []) bad fault cut (λ n. absurd (omega (arith, n))) e
told_parts line (a ∷ b ∷ []) bad fault cut found e = told_columns line (a ∷ b ∷ []) bad fault cut (λ n. absurd (omega (arith, n))) e
told_parts line (a ∷ b ∷ c ∷ []) bad fault cut found e = told_columns line (a ∷ b ∷ c ∷ []) bad fault cut (λ n. absurd (omega (arith, n))) e
told_parts line (a ∷ b ∷ c ∷ d ∷ []) bad fault cut found e = told_columns line (a ∷ b ∷ c ∷ d ∷ []) bad fault cut (λ n. absurd (omega (arith, n))) e
told_parts line (a ∷ b ∷ c ∷ d ∷ v ∷ []) (Some at) fault cut found e =
    let is : Escape at ≡ fault = cc in
    let four : count_by (λ b. b == 9) line ≡ 4 = (let five = ap length cut in let more = length_of_parts line in omega (arith, five, more)) in
    subst (λ (f : LineFault). IsFaultOfLine line f) is (four, bad_found line at found)
told_parts line (a ∷ b ∷ c ∷ d ∷ v ∷ []) None fault cut found e =
    let stands : StandsFor line (unescaped a) (field_of (unescaped b) (unescaped c) (unescaped d)) =
    record { first = a; dataset = b; row = c; column = d; value = v; cut = cut; good = found; as_stamp = refl; as_names = refl } in
    told_stamp line (unescaped a) (field_of (unescaped b) (unescaped c) (unescaped d)) (unescaped v) (read_stamp (unescaped a)) fault stands refl e
told_parts line (a ∷ b ∷ c ∷ d ∷ v ∷ f ∷ ps) bad fault cut found e = told_columns line (a ∷ b ∷ c ∷ d ∷ v ∷ f ∷ ps) bad fault cut (λ n. absurd (omega (arith, n))) e

-- a line with which nothing is wrong
read_whole : (line stamp : List ℕ) (names : FieldNames) (s : Stamp) → StandsFor line stamp names → read_stamp stamp ≡ Ok s → AreNames names → (m : Message) × (reading line ≡ Ok m) × (m.stamp ≡ s) × (m.field ≡ names)
read_whole line stamp names s is read named =
    let cut = is.cut in
    let good = is.good in
    let no_fault = names_fault-none names named in
    let taken : reading line ≡ with_stamp (read_stamp stamp) names (unescaped is.value) = rw (cut, good, is.as_stamp, is.as_names) refl in (
      message_of s names (unescaped is.value),
      taken ∙ rw (read, no_fault) refl,
      refl,
      refl,
    )

pub line_faults_are_told_lem : LineFaultsAreTold
line_faults_are_told_lem = record {
  first = λ line fault e. told_parts line (parts line) (bad_escape line) fault refl refl e;
  none = read_whole;
}
