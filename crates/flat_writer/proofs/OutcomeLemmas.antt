-- What holds of the outcome, by what holds of writing.
use Rattle.std.proofs.Common.{◌≡◌, refl}
use Rattle.std.specs.Prelude.{Result, Ok, Err, OnOk, OnErr}
use Rattle.netdb_outside.specs.declared.write_error.WriteError.{WriteError}
use Rattle.netdb_outside.specs.declared.write_error.WriteError.TheVariants as sink
use Rattle.flat_writer.specs.Outcome.{outcome_of}
use Rattle.flat_writer.specs.declared.error.FlatError.TheVariants.{NoTop, WriteFault}

pub not_topless : (r : Result (Unit {0}) WriteError) → outcome_of r ≡ Err NoTop → ⊥
not_topless (Ok done) is = cc
not_topless (Err sink.WriteFault) is = cc
not_topless (Err sink.NoMemory) is = cc

pub well_done : (r : Result (Unit {0}) WriteError) (P : Type 0) → OnOk r P → OnOk (outcome_of r) P
well_done (Ok done) P holds = holds
well_done (Err sink.WriteFault) P holds = tt
well_done (Err sink.NoMemory) P holds = tt

pub ill_done : (r : Result (Unit {0}) WriteError) (P : Type 0) → OnErr r P → OnErr (outcome_of r) P
ill_done (Ok done) P holds = tt
ill_done (Err sink.WriteFault) P holds = holds
ill_done (Err sink.NoMemory) P holds = holds

pub fault_has_cause : (r : Result (Unit {0}) WriteError) (P : Type 0) → (r ≡ Err sink.WriteFault → P) → outcome_of r ≡ Err WriteFault → P
fault_has_cause (Ok done) P cause is = absurd (cc)
fault_has_cause (Err sink.WriteFault) P cause is = cause refl
fault_has_cause (Err sink.NoMemory) P cause is = absurd (cc)
