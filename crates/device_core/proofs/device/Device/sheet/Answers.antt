use Rattle.std.proofs.Common.{◌≡◌, ◌∙◌, true, false, List, ap, sym, subst}
use Rattle.std.specs.Prelude.{flat_map}
use Rattle.std.specs.List.{AllByRecursion}
use Rattle.book_rows.specs.declared.rows.Rows.{Rows}
use Rattle.envelope_cells.specs.BudgetOf.{budget_of, groups_of}
use Rattle.envelope_cells.specs.NamesOf.{names_of}
use Rattle.envelope_cells.specs.SheetOf.{sheet_of}
use Rattle.envelope_cells.specs.declared.groups.BudgetGroup.{BudgetGroup}
use Rattle.envelope_cells.specs.declared.name.CellName.{CellName}
use Rattle.dirty_cells.specs.Stands.{is_covered}
use Rattle.field_merge.proofs.Members.{all_weaker}
use Rattle.device_core.specs.Books.{rows_of}
use Rattle.device_core.specs.Device.{DeviceState}
use Rattle.device_core.specs.Device as device
use Rattle.device_core.specs.Sheets.{told_of}
use Rattle.device_core.proofs.SheetCells.{names_are_of, told_sheet}
use Rattle.device_core.proofs.device.Device.sheet.Goals as goal

pub cells_of-requires : goal.cells_of-requires
cells_of-requires c =
    let grid = c.self.inside.grid in
    let month = c.args.month in
    let covered : is_covered grid month ≡ true = subst (λ (d : DeviceState). device.is_covered d month ≡ true) (sym c.self.view_is) c.requires.covered in
    let names : c.as_slice-2.result.now ≡ names_of c.in_ok-groups.groups month =
    c.as_slice-2.ensures ∙ c.in_ok-names.ensures ∙ ap (λ (gs : List BudgetGroup). names_of gs month) c.as_slice.ensures in
    subst (λ (ns : List CellName). AllByRecursion (λ name. is_covered grid name.month ≡ true) ns) (sym names)
    (all_weaker (λ (name : CellName). name.month ≡ month) (λ (name : CellName). is_covered grid name.month ≡ true) (λ name same. ap (is_covered grid) same ∙ covered)
    (names_of c.in_ok-groups.groups month) (names_are_of month c.in_ok-groups.groups))

pub returns : goal.returns
returns c =
    let month = c.args.month in
    let live : c.self.inside.spent ≡ false = ap (λ (d : DeviceState). d.spent) c.self.view_is ∙ c.requires.live in
    let stands = c.self.invariant live in
    let own = rows_of c.self.inside.known.log.messages in
    let rows : own ≡ rows_of c.args.self.now.state.messages = ap (λ (d : DeviceState). rows_of d.state.messages) c.self.view_is in
    let groups : c.in_ok-groups.groups ≡ groups_of own = c.in_ok-groups.ensures ∙ ap groups_of stands.right.book_right in
    let names : c.as_slice-2.result.now ≡ names_of (groups_of own) month =
    c.as_slice-2.ensures ∙ c.in_ok-names.ensures ∙ ap (λ (gs : List BudgetGroup). names_of gs month) (c.as_slice.ensures ∙ groups) in
    c.new.ensures ∙ c.in_ok-cells.ensures own stands.cells ∙ ap (flat_map (told_of (budget_of own))) names ∙ told_sheet own month (c.sheets_are_named.ensures own month)
    ∙ ap (λ (r : Rows). sheet_of (budget_of r) month) rows
