-- What the names of new payees stand for.
use Rattle.std.specs.Prelude.{◌≡◌}
use Rattle.std.specs.BTreeMap as tree
use Rattle.finite_sums.specs.Maps.{Text, text_cmp}
use Rattle.bank_import.specs.Drafts.{place_of}
use Rattle.bank_import.specs.declared.names.Names.TheInside.{Inside}

-- each name is found at its place, whatever the case of its letters
abbrev pub AreFound : Inside → Type 0
AreFound x = (key : Text) → tree.get text_cmp x.places key ≡ place_of x.list.items key
