-- The numbers of faults of literals.
use Rattle.std.specs.Prelude.{ℕ}
use Rattle.sig_text.specs.declared.faults.LitFault.{LitFault}
use Rattle.sig_text.specs.declared.faults.LitFault.TheVariants.{BadText, NotInCarrier, NotALabel}

-- the number that stands after the L of a printed fault
abbrev pub lit_fault_number : LitFault → ℕ
lit_fault_number BadText = 1
lit_fault_number NotInCarrier = 2
lit_fault_number NotALabel = 3
