-- The numbers of set faults.
use Rattle.std.specs.Prelude.{◌<◌}
use Rattle.std.proofs.Common.{arith}
use Rattle.tagset.specs.Answer.{fault_number}
use Rattle.tagset.specs.declared.SetFault.{SetFault}
use Rattle.tagset.specs.declared.SetFault.TheVariants.{Cut, Empty, Kind, Length, Many, Repeat}

-- 1 to 6
pub fault_numbers : (fault : SetFault) → (0 < fault_number fault) × (fault_number fault < 7)
fault_numbers (Cut k) = (omega arith, omega arith)
fault_numbers (Many k) = (omega arith, omega arith)
fault_numbers (Kind k) = (omega arith, omega arith)
fault_numbers (Length k) = (omega arith, omega arith)
fault_numbers Empty = (omega arith, omega arith)
fault_numbers (Repeat k) = (omega arith, omega arith)
