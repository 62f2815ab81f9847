-- A set is refused, and accepted, exactly when the rules say so.
use Rattle.std.specs.Prelude.{ℕ, List, ◌↔◌}
use Rattle.std.proofs.Common.{subst}
use Rattle.matching.specs.Kinds.{TagKind}
use Rattle.tagset.specs.Answer.{fault_values}
use Rattle.tagset.specs.Refusals.{RefusedAs}
use Rattle.tagset.specs.Laws.Exact.{refused_iff, numbered_as, FaultWith, as_fault}

-- EACH NUMBER OF THE TABLE IS A REFUSED SET'S, WITH ITS ENTRY, EXACTLY IF ITS ROW SAYS SO
pub refused_as_iff : (ks : List TagKind) (bytes : List ℕ) (number : ℕ) (values : List ℕ) → FaultWith ks bytes number values ↔ RefusedAs ks bytes number values
refused_as_iff ks bytes number values = (there, as_fault ks bytes number values)
  where
    there : FaultWith ks bytes number values → RefusedAs ks bytes number values
    there f =
        subst (λ (l : List ℕ). RefusedAs ks bytes number l) f.values_are
        (subst (λ (x : ℕ). RefusedAs ks bytes x (fault_values f.fault)) f.number_is
        (numbered_as ks bytes f.fault ((refused_iff ks bytes f.fault).0 f.refused)))
