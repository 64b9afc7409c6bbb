-- Where a path leads when it goes on, and what a net joins, as seen from the occurrence above it.
use Rattle.std.proofs.Common.{◌≡◌, ◌<◌, ℕ, zero, suc, List, [], ◌∷◌, ◌++◌, length, refl, sym, ap, subst, ◌∙◌, Option, Some, None, arith, append-nil}
use Rattle.std.specs.List.{Contains}
use Rattle.std.specs.Prelude.{slice_get, option_and_then, IsSome}
use Rattle.std.specs.Option.{option_map_or}
use Rattle.std.proofs.lemmas.Option.{none-some}
use Rattle.std.proofs.lemmas.Bool.{false≢true}
use Rattle.netlist_schema.specs.Design.{Design}
use Rattle.netlist_schema.specs.Hierarchy.{insts_at}
use Rattle.netlist_schema.specs.Types.{CellId, End, Inst, Net}
use Rattle.flat_spec.specs.Paths.{nets_at, cell_along, Reaches, at_path, at_root, net_of, IsNet, ends_at, Joins}
use Rattle.flat_spec.specs.declared.item.NetAt.{NetAt}

pub Some-same : {A : Type 0} {x y : A} (o : Option A) → o ≡ Some x → o ≡ Some y → x ≡ y
Some-same o p q = cc

pub and_then-parts : {A B : Type 0} (f : A → Option B) (o : Option A) (y : B) → option_and_then f o ≡ Some y
    → (x : A) × (o ≡ Some x) × (f x ≡ Some y)
and_then-parts f None y e = absurd (none-some y e)
and_then-parts f (Some x) y e = (x, refl, e)

-- the first step, and the way on from its cell
pub Reaches-parts : (d : Design) (c : CellId) (i : ℕ) (path : List ℕ) (end : CellId) → Reaches d c (i ∷ path) end
    → (inst : Inst) × (slice_get (insts_at d c) i ≡ Some inst) × Reaches d inst.of path end
Reaches-parts d c i path end e = and_then-parts (λ inst. cell_along d inst.of path) (slice_get (insts_at d c) i) end e

pub Reaches-cons : (d : Design) (c : CellId) (i : ℕ) (inst : Inst) (path : List ℕ) (end : CellId) → slice_get (insts_at d c) i ≡ Some inst
    → Reaches d inst.of path end → Reaches d c (i ∷ path) end
Reaches-cons d c i inst path end is on = ap (option_and_then (λ inst. cell_along d inst.of path)) is ∙ on

cell_along-append : (d : Design) (root : CellId) (path rest : List ℕ)
    → cell_along d root (path ++ rest) ≡ option_and_then (λ c. cell_along d c rest) (cell_along d root path)
cell_along-append d root [] rest = refl
cell_along-append d root (i ∷ path) rest = first (slice_get (insts_at d root) i) (λ c. cell_along-append d c path rest)
  where
    first : (o : Option Inst)
        → ((c : CellId) → cell_along d c (path ++ rest) ≡ option_and_then (λ c. cell_along d c rest) (cell_along d c path))
        → option_and_then (λ inst. cell_along d inst.of (path ++ rest)) o
        ≡ option_and_then (λ c. cell_along d c rest) (option_and_then (λ inst. cell_along d inst.of path) o)
    first None further = refl
    first (Some inst) further = further inst.of

-- behind a path that reaches a cell all is as it is below that cell
pub cell_along-below : (d : Design) (root c : CellId) (path rest : List ℕ) → Reaches d root path c
    → cell_along d root (path ++ rest) ≡ cell_along d c rest
cell_along-below d root c path rest at = cell_along-append d root path rest ∙ ap (option_and_then (λ c. cell_along d c rest)) at

-- a path goes on
pub Reaches-append : (d : Design) (root c end : CellId) (path rest : List ℕ) → Reaches d root path c → Reaches d c rest end
    → Reaches d root (path ++ rest) end
Reaches-append d root c end path rest at more = cell_along-below d root c path rest at ∙ more

-- the beginning of a path reaches some cell
pub Reaches-front : (d : Design) (root end : CellId) (path rest : List ℕ) → Reaches d root (path ++ rest) end
    → (c : CellId) × Reaches d root path c × Reaches d c rest end
Reaches-front d root end path rest whole =
    and_then-parts (λ c. cell_along d c rest) (cell_along d root path) end (sym (cell_along-append d root path rest) ∙ whole)

pub net_of-below : (d : Design) (root c : CellId) (path rest : List ℕ) (n : ℕ) → Reaches d root path c
    → net_of d root (at_path (path ++ rest) n) ≡ net_of d c (at_path rest n)
net_of-below d root c path rest n at =
    ap (option_and_then (λ k. slice_get (nets_at d k) n)) (cell_along-below d root c path rest at)

ends_at-below : (d : Design) (root c : CellId) (path rest : List ℕ) (n : ℕ) → Reaches d root path c
    → ends_at d root (at_path (path ++ rest) n) ≡ ends_at d c (at_path rest n)
ends_at-below d root c path rest n at = ap (λ o. option_map_or (λ (net : Net). net.ends) o []) (net_of-below d root c path rest n at)

-- a net joins what it joins as seen from below
pub Joins-outward : (d : Design) (root c : CellId) (path rest : List ℕ) (n : ℕ) (e : End) → Reaches d root path c
    → Joins d c (at_path rest n) e → Joins d root (at_path (path ++ rest) n) e
Joins-outward d root c path rest n e at j = rw (ends_at-below d root c path rest n at) j

pub Joins-inward : (d : Design) (root c : CellId) (path rest : List ℕ) (n : ℕ) (e : End) → Reaches d root path c
    → Joins d root (at_path (path ++ rest) n) e → Joins d c (at_path rest n) e
Joins-inward d root c path rest n e at j = rw (ends_at-below d root c path rest n at) at j

-- the same at the end of the path itself
pub Joins-outward_here : (d : Design) (root c : CellId) (path : List ℕ) (n : ℕ) (e : End) → Reaches d root path c
    → Joins d c (at_root n) e → Joins d root (at_path path n) e
Joins-outward_here d root c path n e at j =
    subst (λ p. Joins d root (at_path p n) e) (append-nil path) (Joins-outward d root c path [] n e at j)

pub Joins-inward_here : (d : Design) (root c : CellId) (path : List ℕ) (n : ℕ) (e : End) → Reaches d root path c
    → Joins d root (at_path path n) e → Joins d c (at_root n) e
Joins-inward_here d root c path n e at j =
    Joins-inward d root c path [] n e at (subst (λ p. Joins d root (at_path p n) e) (sym (append-nil path)) j)

-- what joins an end is a net
pub Joins-net : (d : Design) (root : CellId) (x : NetAt) (e : End) → Joins d root x e → IsNet d root x
Joins-net d root x e j = there (net_of d root x) j
  where
    there : (o : Option Net) → Contains (option_map_or (λ (net : Net). net.ends) o []) e → IsSome o
    there None j = absurd (omega arith)
    there (Some net) j = refl

pub slice_get-within : {A : Type 0} (xs : List A) (i : ℕ) → IsSome (slice_get xs i) → i < length xs
slice_get-within [] i is = absurd (false≢true is)
slice_get-within (x ∷ xs) zero is = omega arith
slice_get-within (x ∷ xs) (suc i) is = let below : i < length xs = slice_get-within xs i is in omega arith

pub slice_get-is : {A : Type 0} (xs : List A) (i : ℕ) → i < length xs → IsSome (slice_get xs i)
slice_get-is [] i within = absurd (omega arith)
slice_get-is (x ∷ xs) zero within = refl
slice_get-is (x ∷ xs) (suc i) within = let below : i < length xs = omega arith in slice_get-is xs i below

-- a net's path reaches a cell, and the net is one of its nets
pub IsNet-parts : (d : Design) (root : CellId) (x : NetAt) → IsNet d root x
    → (c : CellId) × Reaches d root x.path c × (x.net < length (nets_at d c))
IsNet-parts d root x is = there (cell_along d root x.path) is
  where
    there : (o : Option CellId) → IsSome (option_and_then (λ c. slice_get (nets_at d c) x.net) o)
        → (c : CellId) × (o ≡ Some c) × (x.net < length (nets_at d c))
    there None is = absurd (false≢true is)
    there (Some c) is = (c, refl, slice_get-within (nets_at d c) x.net is)

pub IsNet-from : (d : Design) (root c : CellId) (path : List ℕ) (n : ℕ) → Reaches d root path c → n < length (nets_at d c)
    → IsNet d root (at_path path n)
IsNet-from d root c path n at within =
    subst (λ o. IsSome (option_and_then (λ k. slice_get (nets_at d k) n) o)) (sym at) (slice_get-is (nets_at d c) n within)

-- what joins an end stands in an occurrence
pub Joins-reaches : (d : Design) (root : CellId) (x : NetAt) (e : End) → Joins d root x e → (c : CellId) × Reaches d root x.path c
Joins-reaches d root x e j = let parts = IsNet-parts d root x (Joins-net d root x e j) in (parts.0, parts.1)
