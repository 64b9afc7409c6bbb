-- In a design that a tree means, each placed cell is defined before the cell that places it.
use Rattle.std.proofs.Common.{◌≡◌, ℕ, zero, suc, List, [], ◌∷◌, ◌++◌, map, length, refl, ap, sym, ◌∙◌, subst, Bool, true, false, Option, Some, None}
use Rattle.std.specs.Prelude.{IsSome, cond, slice_get, option_map, unwrap_or, nat_eq, count_by, filter}
use Rattle.std.specs.List.{AllByRecursion}
use Rattle.std.specs.Option.{option_map_or}
use Rattle.edif_spelling_spec.specs.Tree.{Bare}
use Rattle.edif_spec.specs.Keyword.{same}
use Rattle.edif_spec.specs.Rows.{those, Each, Perhaps, EachAfter, Just}
use Rattle.edif_spec.specs.Means.{Found, Several, meant, equal, equal_or, only_place, first_place, MeansInst, MeansContents, MeansView, MeansCell, MeansLibrary, MeansFile, is_library}
use Rattle.edif_spec.specs.Defined.{AllAfter, DefinedBefore}
use Rattle.edif_spec.specs.declared.keyword.Keyword.TheVariants as keywords
use Rattle.netlist_schema.specs.Design.{insts_in}
use Rattle.edif_spec.specs.Design as design

first_there : (p : List ℕ → Bool) (ns : List (List ℕ)) (i : ℕ) → first_place p ns ≡ Some i → IsSome (slice_get ns i)
first_there p [] i e = absurd (cc e)
first_there p (n ∷ ns) i e = go (p n) i e (first_place p ns) refl (λ j f. first_there p ns j f)
  where
    go : (b : Bool) (i : ℕ) → cond b (Some 0) (option_map (λ j. suc j) (first_place p ns)) ≡ Some i → (o : Option ℕ) → first_place p ns ≡ o → ((j : ℕ) → first_place p ns ≡ Some j → IsSome (slice_get ns j)) → IsSome (slice_get (n ∷ ns) i)
    go true i e o f more = let w : 0 ≡ i = cc e in let P : ℕ → Type 0 = λ v. IsSome (slice_get (n ∷ ns) v) in subst P w refl
    go false i e None f more = let w : None ≡ Some i = sym (ap (option_map (λ j. suc j)) f) ∙ e in absurd (cc w)
    go false i e (Some j) f more = let w : Some (suc j) ≡ Some i = sym (ap (option_map (λ k. suc k)) f) ∙ e in let q : suc j ≡ i = cc w in let P : ℕ → Type 0 = λ v. IsSome (slice_get (n ∷ ns) v) in subst P q (more j f)

pub meant_there : (ns : List (List ℕ)) (n : List ℕ) (i : ℕ) → meant ns n ≡ Found i → IsSome (slice_get ns i)
meant_there ns n i e = go (first_place (equal n) ns) refl e
  where
    only : (c : ℕ) (o : Option ℕ) → first_place (same n) ns ≡ o → only_place c o ≡ Found i → IsSome (slice_get ns i)
    only c None f e = absurd (cc e)
    only c (Some j) f e = pick (nat_eq c 1) e
      where
        pick : (b : Bool) → cond b (Found j) Several ≡ Found i → IsSome (slice_get ns i)
        pick true e = let w : j ≡ i = cc e in first_there (same n) ns i (f ∙ ap Some w)
        pick false e = absurd (cc e)

    go : (o : Option ℕ) → first_place (equal n) ns ≡ o → equal_or o (only_place (count_by (same n) ns) (first_place (same n) ns)) ≡ Found i → IsSome (slice_get ns i)
    go (Some j) f e = let w : j ≡ i = cc e in first_there (equal n) ns i (f ∙ ap Some w)
    go None f e = only (count_by (same n) ns) (first_place (same n) ns) refl e

pub name_there : {A : Type 0} (f : A → List ℕ) (xs : List A) (i : ℕ) → IsSome (slice_get (map f xs) i) → IsSome (slice_get xs i)
name_there f [] i h = absurd (cc h)
name_there f (x ∷ xs) zero h = refl
name_there f (x ∷ xs) (suc i) h = name_there f xs i h

pub cell_there : (libs : List design.Lib) (id : design.CellId) → IsSome (slice_get (design.cell_ids libs id.lib.0) id.slot) → IsSome (design.cell_at libs id)
cell_there libs id h = go (slice_get libs id.lib.0) h
  where
    go : (o : Option design.Lib) → IsSome (slice_get (unwrap_or (option_map (λ x. map (λ (c : design.CellBody). c.name.id) x.cells) o) []) id.slot) → IsSome (slice_get (option_map_or (λ lib. lib.cells) o []) id.slot)
    go None h = absurd (cc h)
    go (Some l) h = name_there (λ (c : design.CellBody). c.name.id) l.cells id.slot h

pub insts_defined : (libs : List design.Lib) (own : Option ℕ) (ts : List Bare) (is : List design.Inst) → Each (MeansInst libs own) ts is → AllByRecursion (λ i. IsSome (design.cell_at libs i.of)) is
insts_defined libs own [] [] h = tt
insts_defined libs own [] (i ∷ is) h = absurd h
insts_defined libs own (t ∷ ts) [] h = absurd h
insts_defined libs own (t ∷ ts) (i ∷ is) h = (cell_there libs i.of (meant_there (design.cell_ids libs i.of.lib.0) h.0.of.cell.spelled i.of.slot h.0.of.cell.cell), insts_defined libs own ts is h.1)

pub contents_defined : (libs : List design.Lib) (own : Option ℕ) (c : design.CellBody) (ts : List Bare) (o : Option design.Contents) → Perhaps (MeansContents libs own c.ports) ts o → AllByRecursion (λ i. IsSome (design.cell_at libs i.of)) (insts_in o)
contents_defined libs own c [] None h = tt
contents_defined libs own c [] (Some x) h = absurd h
contents_defined libs own c (t ∷ []) None h = absurd h
contents_defined libs own c (t ∷ []) (Some x) h = insts_defined libs own (those keywords.Instance h.inner) x.insts h.insts
contents_defined libs own c (t ∷ u ∷ ts) o h = absurd h

pub view_defined : (libs : List design.Lib) (own : Option ℕ) (c : design.CellBody) (ts : List Bare) → Just (λ v b. MeansView libs own v b) ts c → AllByRecursion (λ i. IsSome (design.cell_at libs i.of)) (design.insts_of c)
view_defined libs own c [] h = absurd h
view_defined libs own c (t ∷ []) h = contents_defined libs own c (those keywords.Contents h.inner) c.contents h.contents
view_defined libs own c (t ∷ u ∷ ts) h = absurd h

each_after_all : {A : Type 0} (R : List A → Bare → A → Type 0) (P : List A → A → Type 0) (before : List A) (ts : List Bare) (xs : List A) → ((b : List A) (t : Bare) (x : A) → R b t x → P b x) → EachAfter R before ts xs → AllAfter P before xs
each_after_all R P before [] [] f h = tt
each_after_all R P before [] (x ∷ xs) f h = absurd h
each_after_all R P before (t ∷ ts) [] f h = absurd h
each_after_all R P before (t ∷ ts) (x ∷ xs) f h = (f before t x h.0, each_after_all R P (before ++ x ∷ []) ts xs f h.1)

pub defined_before : (t : Bare) (d : design.Design) → MeansFile t d → DefinedBefore d
defined_before t d h = each_after_all MeansLibrary (λ before l. AllAfter (λ cells c. AllByRecursion (λ i. IsSome (design.cell_at (before ++ record { head = l.head; cells = cells } ∷ []) i.of)) (design.insts_of c)) [] l.cells) [] (filter is_library h.inner) d.libs
    (λ before u l m. each_after_all (λ cells. MeansCell (before ++ record { head = l.head; cells = cells } ∷ []) (Some (length before))) (λ cells c. AllByRecursion (λ i. IsSome (design.cell_at (before ++ record { head = l.head; cells = cells } ∷ []) i.of)) (design.insts_of c)) [] (those keywords.Cell m.inner) l.cells
    (λ cells v c k. view_defined (before ++ record { head = l.head; cells = cells } ∷ []) (Some (length before)) c (those keywords.View k.inner) k.view) m.cells) h.libs
