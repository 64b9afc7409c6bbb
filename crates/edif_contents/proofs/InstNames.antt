-- The names of instances that differ, one more at a time.
use Rattle.std.proofs.Common.{◌≡◌, ℕ, zero, suc, ◌+◌, ◌<◌, ◌≤◌, List, [], ◌∷◌, ◌++◌, Some, length, drop, refl, sym, ap, ◌∙◌, subst, arith, length-append, append-nil}
use Rattle.std.specs.Prelude.{slice_get, slice_index_or}
use Rattle.std.specs.List.{Contains}
use Rattle.std.proofs.lemmas.Option.{slice_get_past}
use Rattle.netlist_schema.specs.Names.{AreDistinct}
use Rattle.netlist_schema.proofs.Lists.{drop_next, drop_past}
use Rattle.edif_spec.specs.Design as design
use Rattle.edif_spec.proofs.KnownValid.{regroup}
use Rattle.edif_parts.specs.Names.{ids}
use Rattle.edif_parts.proofs.NameLists.{ids_push}

-- what stands in the first of two lists, and at the start of the second
low : {A : Type 0} (xs ys : List A) (i : ℕ) (d : A) → i < length xs → slice_index_or (xs ++ ys) i d ≡ slice_index_or xs i d
low [] ys i d l = absurd (omega arith)
low (x ∷ xs) ys zero d l = refl
low (x ∷ xs) ys (suc i) d l = low xs ys i d (omega arith)

high : {A : Type 0} (xs ys : List A) (x d : A) → slice_index_or (xs ++ x ∷ ys) (length xs) d ≡ x
high [] ys x d = refl
high (y ∷ xs) ys x d = high xs ys x d

-- where all differ, one that stands behind others is none of them
not_before : {A : Type 0} (xs ys : List A) (x : A) → AreDistinct (xs ++ x ∷ ys) → ¬ Contains xs x
not_before xs ys x h c =
    let n : length (xs ++ x ∷ ys) ≡ length xs + suc (length ys) = length-append xs (x ∷ ys) in
    h c.0 (length xs) x c.1 (omega (arith, n)) (low xs (x ∷ ys) c.0 x c.1 ∙ c.2 ∙ sym (high xs ys x x))

-- the name of a further instance is not there yet
pub name_new : (insts : List design.Inst) (place : ℕ) (x : design.Inst) (ns : List (List ℕ × ℕ)) → slice_get insts place ≡ Some x → AreDistinct (design.inst_ids insts) → ids ns ++ design.inst_ids (drop place insts) ≡ design.inst_ids insts → ¬ Contains (ids ns) x.name.id
name_new insts place x ns at h whole =
    let P : List (List ℕ) → Type 0 = λ v. AreDistinct v in
    not_before (ids ns) (design.inst_ids (drop (place + 1) insts)) x.name.id (subst P (sym whole ∙ ap (λ v. ids ns ++ design.inst_ids v) (drop_next insts place x at)) h)

-- with it
pub one_named : (insts : List design.Inst) (place : ℕ) (x : design.Inst) (ns : List (List ℕ × ℕ)) (spot : ℕ) → slice_get insts place ≡ Some x → ids ns ++ design.inst_ids (drop place insts) ≡ design.inst_ids insts
    → ids (ns ++ (x.name.id, spot) ∷ []) ++ design.inst_ids (drop (place + 1) insts) ≡ design.inst_ids insts
one_named insts place x ns spot at whole =
    let rest = design.inst_ids (drop (place + 1) insts) in
    ap (λ v. v ++ rest) (ids_push ns x.name.id spot) ∙ regroup (ids ns) (x.name.id ∷ []) rest ∙ sym (ap (λ v. ids ns ++ design.inst_ids v) (drop_next insts place x at)) ∙ whole

-- with all of them
pub all_named : (insts : List design.Inst) (place : ℕ) (ns : List (List ℕ × ℕ)) → length insts ≤ place → ids ns ++ design.inst_ids (drop place insts) ≡ design.inst_ids insts → ids ns ≡ design.inst_ids insts
all_named insts place ns l whole = sym (append-nil (ids ns)) ∙ ap (λ v. ids ns ++ design.inst_ids v) (sym (drop_past insts place (slice_get_past insts place l))) ∙ whole
