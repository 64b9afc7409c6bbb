-- What a maker that was fed tokens has read, and what it answers at the end.
use Rattle.std.proofs.Common.{◌≡◌, ℕ, List, [], ◌∷◌, ◌++◌, Result, Ok, Err, None, Some, length, inl, inr, ⊎_elim, refl, sym, ap, ◌∙◌, arith, append-nil}
use Rattle.std.specs.Prelude.{IfOk, IfErr}
use Rattle.edif_spelling_spec.specs.Tree.{Placed}
use Rattle.edif_spelling_spec.specs.TreeFaults.{Lists, fault_at, tree_fault}
use Rattle.edif_spelling_spec.specs.Lent.{Gains}
use Rattle.edif_spelling_spec.specs.declared.token.Token.{Token}
use Rattle.edif_spelling_spec.specs.declared.tree_fault.TreeKind.TheVariants.{Unended}
use Rattle.edif_tree.specs.Making.{Level, HasRead, fault_from}
use Rattle.edif_tree.specs.Maker.{Maker, HaveNone, Finishes, IsHanded}
use Rattle.edif_tree.specs.Nodes.{IsAt, Table}
use Rattle.edif_tree.specs.TreeError.{Names}
use Rattle.edif_tree.specs.declared.errors.TreeError.{TreeError}
use Rattle.edif_tree.specs.declared.errors.TreeError.TheVariants.{NoMemory}
use Rattle.edif_tree.specs.declared.making.Making.{Making}
use Rattle.edif_tree.proofs.FaultSteps.{end_fault, empty_fault, no_fault}
use Rattle.edif_tree.proofs.ReadFaults.{is_file}

-- no tokens are left
pub none_left : (ts : List Token) → length ts ≡ 0 → ts ≡ []
none_left [] e = refl
none_left (t ∷ ts) e = absurd (omega arith)

-- tokens that were read have no fault, but that they may end too early
pub read_none : (making : Making) (ts : List Token) → HasRead making ts → HaveNone ts
read_none making ts h end = ⊎_elim
    (λ o. inr (whole ∙ o.faults [] end ∙ by o.levels))
    (λ k. inl (whole ∙ k.faults [] end ∙ no_fault end))
    h
  where
    whole : tree_fault ts end ≡ tree_fault (ts ++ []) end
    whole = ap (λ v. tree_fault v end) (sym (append-nil ts))

    by : (levels : List Level) → fault_from (length levels) [] end ≡ fault_at Unended end
    by [] = empty_fault end
    by (level ∷ levels) = end_fault (length levels) end

pub finishes : (fed : List Token) (end : ℕ) (making : Making) (result : Result Table TreeError) → HasRead making fed
    → IfOk result (λ made. (ts : List Token) → HasRead making ts → (tree_fault ts end ≡ None) × ((t : Placed) × IsAt made.rows made.root t × Lists ts t))
    → IfErr result (λ e. (ts : List Token) → HasRead making ts → Names e (tree_fault ts end)) → Finishes fed end result
finishes fed end making (Ok made) h ok at =
    let all = ok fed h in
    (all.0, (all.1.0, all.1.1, is_file fed end all.1.0 all.0 all.1.2))
finishes fed end making (Err e) h ok at = at fed h

-- a maker to which memory was refused
pub starved : (old new : Maker) → new.failed ≡ Some NoMemory → Gains IsHanded old new []
starved old new after handed h = inr (record { error = NoMemory; stopped = after; fault = λ rest end. tt })
