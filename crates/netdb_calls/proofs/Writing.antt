-- What writing a text comes to, by the result of the call that writes it.
use Rattle.std.proofs.Common.{◌≡◌, ◌↔◌, List, ℕ, Option, None, Result, Ok, Err, IsErrOf, OnOk, OnErr, refl}
use Rattle.netlist_schema.specs.Design.{Design}
use Rattle.flat_writer.specs.declared.error.FlatError.{FlatError}
use Rattle.flat_writer.specs.declared.error.FlatError.TheVariants as flat
use Rattle.netdb_outside.specs.Outside.{Appends, AppendsFront}
use Rattle.netdb_outside.specs.declared.write_error.WriteError.{WriteError}
use Rattle.netdb_outside.specs.declared.write_error.WriteError.TheVariants as write
use Rattle.netdb_view.specs.Facts.{ViewFacts}
use Rattle.netdb_calls.specs.Texts.{Writes, WritesBelow, WritesText, status_of_flat, status_of_write}
use Rattle.call_status.specs.declared.status.Status.TheVariants as says
use Rattle.netdb_calls.specs.declared.texts.Kind.{Kind}
use Rattle.netdb_calls.specs.declared.texts.Kind.TheVariants as kind

pub written : (text : List ℕ) (old new : Option (List ℕ)) (r : Result (Unit {0}) WriteError)
    → OnOk r (Appends old new text) → OnErr r (AppendsFront old new text) → WritesText text old new (status_of_write r)
written text old new (Ok done) all front = all
written text old new (Err write.WriteFault) all front = front
written text old new (Err write.NoMemory) all front = front

pub fault_written : (r : Result (Unit {0}) WriteError) (P : Type 0) → (IsErrOf r write.WriteFault → P) → status_of_write r ≡ says.WriteFault → P
fault_written (Ok done) P cause is = absurd (cc)
fault_written (Err write.WriteFault) P cause is = cause refl
fault_written (Err write.NoMemory) P cause is = absurd (cc)

pub topped_written : (r : Result (Unit {0}) WriteError) (P : Type 0) → status_of_write r ≡ says.NoTop → P
topped_written (Ok done) P is = absurd (cc)
topped_written (Err write.WriteFault) P is = absurd (cc)
topped_written (Err write.NoMemory) P is = absurd (cc)

-- where a top is wanted
has_top : (d : Design) (r : Result (Unit {0}) FlatError) → ((r ≡ Err flat.NoTop) ↔ (d.top ≡ None)) → ¬ (r ≡ Err flat.NoTop) → ¬ (d.top ≡ None)
has_top d r top other none = other (top.1 none)

pub flattened : (d : Design) (text : List ℕ) (old new : Option (List ℕ)) (r : Result (Unit {0}) FlatError)
    → ((r ≡ Err flat.NoTop) ↔ (d.top ≡ None)) → (r ≡ Err flat.NoTop → new ≡ old)
    → OnOk r (Appends old new text) → OnErr r (AppendsFront old new text) → WritesBelow d text old new (status_of_flat r)
flattened d text old new (Ok done) top same all front = (has_top d (Ok done) top (λ is. cc), all)
flattened d text old new (Err flat.NoTop) top same all front = (top.0 refl, same refl)
flattened d text old new (Err flat.WriteFault) top same all front = (has_top d (Err flat.WriteFault) top (λ is. cc), front)
flattened d text old new (Err flat.NoMemory) top same all front = (has_top d (Err flat.NoMemory) top (λ is. cc), front)

pub fault_flattened : (r : Result (Unit {0}) FlatError) (P : Type 0) → (r ≡ Err flat.WriteFault → P) → status_of_flat r ≡ says.WriteFault → P
fault_flattened (Ok done) P cause is = absurd (cc)
fault_flattened (Err flat.NoTop) P cause is = absurd (cc)
fault_flattened (Err flat.WriteFault) P cause is = cause refl
fault_flattened (Err flat.NoMemory) P cause is = absurd (cc)

pub untopped_flattened : (r : Result (Unit {0}) FlatError) (P : Type 0) → (r ≡ Err flat.NoTop → P) → status_of_flat r ≡ says.NoTop → P
untopped_flattened (Ok done) P cause is = absurd (cc)
untopped_flattened (Err flat.NoTop) P cause is = cause refl
untopped_flattened (Err flat.WriteFault) P cause is = absurd (cc)
untopped_flattened (Err flat.NoMemory) P cause is = absurd (cc)

-- of a view each text is for use
pub never_wrong : (view : ViewFacts) (k : Kind) (old new : Option (List ℕ)) (P : Type 0) → Writes view k old new says.WrongUse → P
never_wrong view kind.Edif old new P wrote = absurd wrote
never_wrong view kind.Flat old new P wrote = absurd wrote
never_wrong view kind.Csv old new P wrote = absurd wrote
never_wrong view kind.Erc old new P wrote = absurd wrote
never_wrong view kind.Uses old new P wrote = absurd wrote
