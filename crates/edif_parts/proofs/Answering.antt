-- How an error of a reader is handed on.
use Rattle.std.proofs.Common.{◌≡◌, Result, Ok, Err, sym, subst}
use Rattle.std.specs.Result.{IsErrAnd}
use Rattle.edif_spec.specs.declared.fault.MeaningFault.{MeaningFault}
use Rattle.edif_parts.specs.Reading.{Answers, Names}
use Rattle.edif_parts.specs.declared.error.EdifError.{EdifError}
use Rattle.edif_parts.specs.declared.error.EdifError.TheVariants as errors

-- a fault of a part is one of the whole
pub names_more : (F G : MeaningFault → Type 0) (e : EdifError) → ((f : MeaningFault) → F f → G f) → Names F e → Names G e
names_more F G (errors.Fault f) n h = n f h
names_more F G errors.NoMemory n h = h

-- the error of a part is handed on
pub hand_on : {A : Type 0} (M : A → Type 0) (F G : MeaningFault → Type 0) (r : Result A EdifError) (e : EdifError) → IsErrAnd r (λ x. x ≡ e) → ((f : MeaningFault) → F f → G f) → Names F e → Answers M G r
hand_on M F G (Ok x) e h n a = absurd h
hand_on M F G (Err x) e h n a = let P : EdifError → Type 0 = λ v. Names G v in subst P (sym h) (names_more F G e n a)

-- what a part answers is what the whole does
pub answers_more : {A : Type 0} (M N : A → Type 0) (F G : MeaningFault → Type 0) (r : Result A EdifError) → ((x : A) → M x → N x) → ((f : MeaningFault) → F f → G f) → Answers M F r → Answers N G r
answers_more M N F G (Ok x) m n a = m x a
answers_more M N F G (Err e) m n a = names_more F G e n a
