-- What an answer for a file says where the tree means a design, and where a fault stands in it.
use Rattle.std.proofs.Common.{◌≡◌, refl, ap, ◌⊎◌, inl, inr, Result, Ok, Err}
use Rattle.edif_spelling_spec.specs.Tree.{Placed, bare}
use Rattle.edif_spec.specs.Design as design
use Rattle.edif_spec.specs.Means.{MeansFile}
use Rattle.edif_spec.specs.Stands.{Stands}
use Rattle.edif_spec.specs.declared.fault.MeaningFault.{MeaningFault}
use Rattle.edif_spec.proofs.FileFaultsApart.{stands_apart}
use Rattle.edif_spec.proofs.OnceFile.{file_once}
use Rattle.edif_parts.specs.Reading.{Answers}
use Rattle.edif_parts.specs.declared.error.EdifError.{EdifError}
use Rattle.edif_parts.specs.declared.error.EdifError.TheVariants as errors

pub meant_or_no_memory : (t : Placed) (d : design.Design) (r : Result design.Design EdifError) → Answers (λ x. MeansFile (bare t) x) (Stands t) r → MeansFile (bare t) d → (r ≡ Ok d) ⊎ (r ≡ Err errors.NoMemory)
meant_or_no_memory t d (Ok x) h m = inl (ap (λ v. Ok v) (file_once (bare t) x d h m))
meant_or_no_memory t d (Err errors.NoMemory) h m = inr refl
meant_or_no_memory t d (Err (errors.Fault f)) h m = absurd (stands_apart t d f m h)

pub no_design : (t : Placed) (f : MeaningFault) (d : design.Design) (r : Result design.Design EdifError) → Answers (λ x. MeansFile (bare t) x) (Stands t) r → Stands t f → r ≡ Ok d → ⊥
no_design t f d (Ok x) h s e = stands_apart t x f h s
no_design t f d (Err y) h s e = cc e
