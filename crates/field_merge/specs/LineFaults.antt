-- What is wrong with a line that is no message's.
use Rattle.std.specs.Prelude.{◌≡◌, ◌≢◌, ◌==◌, ◌+◌, ℕ, List, [], ◌∷◌, count_by, None, Ok, Err}
use Rattle.field_values.specs.Names.{FieldNames, AreNames, field_of}
use Rattle.field_values.specs.Laws.{IsFirstFault}
use Rattle.hybrid_clock.specs.declared.stamp.Stamp.{Stamp}
use Rattle.hybrid_clock.specs.Faults.{IsFaultOf}
use Rattle.hybrid_clock.specs.Reading.{read_stamp}
use Rattle.field_merge.specs.declared.message.Message.{Message}
use Rattle.field_merge.specs.declared.line.LineFault.{LineFault}
use Rattle.field_merge.specs.declared.line.LineFault.TheVariants.{Columns, Escape, Stamp as BadStamp, Name as BadName, NoMemory}
use Rattle.field_merge.specs.Escapes.{bad_escape, unescaped}
use Rattle.field_merge.specs.Lines.{parts, reading}
use Rattle.field_merge.specs.Laws.{IsBadEscape}

-- a line of five parts without a bad escape, whose first part stands for this text, and the next three for these names
pub record StandsFor (line stamp : List ℕ) (names : FieldNames) : Type 0 where
  pub first : List ℕ
  pub dataset : List ℕ
  pub row : List ℕ
  pub column : List ℕ
  pub value : List ℕ
  pub cut : parts line ≡ first ∷ dataset ∷ row ∷ column ∷ value ∷ []
  pub good : bad_escape line ≡ None
  pub as_stamp : stamp ≡ unescaped first
  pub as_names : names ≡ field_of (unescaped dataset) (unescaped row) (unescaped column)

-- what is wrong with a line, where nothing that is tested before it is: the number of parts, which is one more than that of its TABs; a bad escape, by the place of the first; the timestamp; the names
abbrev pub IsFaultOfLine : List ℕ → LineFault → Type 0
IsFaultOfLine line (Columns n) = (n ≡ count_by (λ b. b == 9) line + 1) × (n ≢ 5)
IsFaultOfLine line (Escape at) = (count_by (λ b. b == 9) line ≡ 4) × IsBadEscape line at
IsFaultOfLine line (BadStamp fault) = (stamp : List ℕ) × (names : FieldNames) × StandsFor line stamp names × IsFaultOf stamp fault
IsFaultOfLine line (BadName fault) = (stamp : List ℕ) × (names : FieldNames) × (s : Stamp) × StandsFor line stamp names × (read_stamp stamp ≡ Ok s) × IsFirstFault names fault
IsFaultOfLine line NoMemory = ⊥

-- which fault is told of a line
pub record LineFaultsAreTold : Type 0 where
  -- the fault is the first thing that is wrong with it
  pub first : (line : List ℕ) (fault : LineFault) → reading line ≡ Err fault → IsFaultOfLine line fault
  -- a line with which nothing is wrong is read as a message with its timestamp and its names
  pub none : (line stamp : List ℕ) (names : FieldNames) (s : Stamp) → StandsFor line stamp names → read_stamp stamp ≡ Ok s → AreNames names →
      (m : Message) × (reading line ≡ Ok m) × (m.stamp ≡ s) × (m.field ≡ names)
