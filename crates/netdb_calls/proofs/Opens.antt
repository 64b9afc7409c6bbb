-- What bytes open, by what reading them comes to.
use Rattle.std.proofs.Common.{◌≤◌, List, ℕ, Result, Ok, Err, IfOk, IfErr, length, subst, sym}
use Rattle.netlist_schema.specs.Design.{Design}
use Rattle.netlist_schema.specs.declared.limits.TheConstants.{MOST_FILE_BYTES}
use Rattle.edif_spec.specs.Files.{IsDesignFile, IsWrong}
use Rattle.edif_spec.specs.declared.file_fault.EdifFault.{EdifFault}
use Rattle.edif_file.specs.Reader.{Reader, WasFed}
use Rattle.edif_file.specs.Steps.{Says}
use Rattle.edif_file.specs.declared.no_design.NoDesign.{NoDesign}
use Rattle.netdb_calls.specs.Opening.{FailsBy, Opens, OpensDesign, OpensTo, OpensWrong}
use Rattle.netdb_calls.specs.declared.opened.Opened.{Opened}
use Rattle.call_status.specs.declared.status.Status.{Status}

-- what a reader says of whatever it was fed, said of these bytes
pub design_told : (reader : Reader) (bytes : List ℕ) (r : Result Design NoDesign) → WasFed reader bytes → length bytes ≤ MOST_FILE_BYTES
    → IfOk r (λ d. (fed : List ℕ) → WasFed reader fed → length fed ≤ MOST_FILE_BYTES → IsDesignFile fed d) → IfOk r (IsDesignFile bytes)
design_told reader bytes (Ok d) was short told = told bytes was short
design_told reader bytes (Err e) was short told = tt

pub fault_told : (reader : Reader) (bytes : List ℕ) (r : Result Design NoDesign) → WasFed reader bytes
    → IfErr r (λ e. (fed : List ℕ) → WasFed reader fed → Says (IsWrong fed) e) → IfErr r (Says (IsWrong bytes))
fault_told reader bytes (Ok d) was told = tt
fault_told reader bytes (Err e) was told = told bytes was

pub opens_design : (bytes : List ℕ) (design : Design) (r : Result (Opened × Status) Status) → length bytes ≤ MOST_FILE_BYTES → IsDesignFile bytes design
    → OpensDesign design r → Opens bytes r
opens_design bytes design (Ok (opened, status)) short means is =
    subst (λ (s : Status). OpensTo bytes opened s) (sym is.0)
    (record { design = design; means = means; desk = is.2.0; inside = is.2.1; begun = is.2.2; text = is.1 })
opens_design bytes design (Err status) short means is = subst (λ (s : Status). FailsBy bytes s) (sym is) short

pub opens_wrong : (bytes : List ℕ) (fault : EdifFault) (r : Result (Opened × Status) Status) → length bytes ≤ MOST_FILE_BYTES → IsWrong bytes fault
    → OpensWrong fault r → Opens bytes r
opens_wrong bytes fault (Ok (opened, status)) short wrong is =
    subst (λ (s : Status). OpensTo bytes opened s) (sym is.0) (record { fault = fault; wrong = wrong; inside = is.1; text = is.2 })
opens_wrong bytes fault (Err status) short wrong is = subst (λ (s : Status). FailsBy bytes s) (sym is) short
