-- What follows a form, where one keyword alone may follow.
use Rattle.std.proofs.Common.{◌≡◌, ◌≤◌, List, [], ◌∷◌, ◌++◌, length, refl, ap, ◌∙◌, subst, true, false, arith}
use Rattle.std.specs.Prelude.{cond, ◌||◌}
use Rattle.std.specs.List.{AllByRecursion}
use Rattle.netlist_schema.proofs.Lists.{all_behind}
use Rattle.edif_spelling_spec.specs.Tree.{Placed, bare}
use Rattle.edif_spec.specs.Rows.{has_keyword}
use Rattle.edif_spec.specs.Faults.{those_of}
use Rattle.edif_spec.specs.declared.keyword.Keyword.{Keyword}
use Rattle.edif_spec.proofs.KnownForms.{only}

-- all of them are forms of that keyword
pub kept : (k : Keyword) (ts : List Placed) → AllByRecursion (λ u. (has_keyword k (bare u) || false) ≡ true) ts → those_of k ts ≡ ts
kept k [] h = refl
kept k (t ∷ ts) h = ap (λ b. cond b (t ∷ those_of k ts) (those_of k ts)) (only (has_keyword k (bare t)) h.0) ∙ ap (λ v. t ∷ v) (kept k ts h.1)

pub are_those : (k : Keyword) (ts : List Placed) → AllByRecursion (λ u. (has_keyword k (bare u) || false) ≡ true) ts → AllByRecursion (λ u. has_keyword k (bare u) ≡ true) ts
are_those k [] h = tt
are_those k (t ∷ ts) h = (only (has_keyword k (bare t)) h.0, are_those k ts h.1)

-- the first of them
pub first_has : (k : Keyword) (ts us : List Placed) (t : Placed) → ts ≡ t ∷ us → AllByRecursion (λ u. has_keyword k (bare u) ≡ true) ts → has_keyword k (bare t) ≡ true
first_has k ts us t e h = (subst (λ v. AllByRecursion (λ u. has_keyword k (bare u) ≡ true) v) e h).0

pub next_has : (k : Keyword) (ts before us rest : List Placed) (t : Placed) → ts ≡ before ++ us → us ≡ t ∷ rest → AllByRecursion (λ u. has_keyword k (bare u) ≡ true) ts → has_keyword k (bare t) ≡ true
next_has k ts before us rest t e f h =
    let P : Placed → Type 0 = λ u. has_keyword k (bare u) ≡ true in
    first_has k us rest t f (all_behind P before us (subst (λ v. AllByRecursion P v) e h))

-- and it alone, where there is one at most
pub one_alone : (ts us : List Placed) (t : Placed) → ts ≡ t ∷ us → length ts ≤ 1 → ts ≡ t ∷ []
one_alone ts [] t e l = e
one_alone ts (u ∷ us) t e l = let n = ap length e in absurd (omega (arith, n, l))
