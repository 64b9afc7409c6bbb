-- States while a path is gone along.
use Rattle.std.proofs.Common.{◌≡◌, ◌<◌, ◌≤◌, ◌+◌, zero, suc, inl, ⊎_elim, ℕ, arith, List, [], ◌∷◌, ◌++◌, length, take, drop, get_or, Option, Some, None, refl, sym, ap, subst, ◌∙◌}
use Rattle.std.specs.Option.{option_map}
use Rattle.std.proofs.lemmas.List.{take-append-drop, take_more}
use Rattle.netlist_schema.specs.Design.{Design, insts_in}
use Rattle.netlist_schema.specs.Types.{CellId, Contents, Inst}
use Rattle.edit_rules_spec.specs.Find.{inst_named}
use Rattle.edit_rules_spec.specs.Reading.{IsReached}
use Rattle.edit_rules_spec.specs.Seen.{contents_at}
use Rattle.edit_cells.specs.Parts.{IsInside}
use Rattle.edit_rules_spec.specs.Objects.{contents_object}
use Rattle.edit_cells.specs.State.{State, HasRead}
use Rattle.eco_reads.proofs.Paths.{end_more, end_of, end_reached, next, next_is, reached_more, reached_stop}
use Rattle.edit_cells.proofs.Growing.{grows_by_same}
use Rattle.eco_reads.proofs.Reading.{read_then}

-- a path was gone along, and what it reaches was read
pub record HasGone (s u : State) (top at : CellId) (path : List (List ℕ)) : Type 0 where
  pub read : HasRead s u (IsReached s.design top path)
  pub end : end_of s.design top path ≡ Some at

pub gone_nowhere : (s u : State) (top : CellId) → HasRead s u (IsInside top) → HasGone s u top top []
gone_nowhere s u top read = record { read = read; end = refl }

-- the last cell is looked into again
again : (s u v : State) (top at : CellId) (path : List (List ℕ)) → HasGone s u top at path → HasRead u v (IsInside at) → HasRead s v (IsReached s.design top path)
again s u v top at path gone read =
    read_then s u v (IsReached s.design top path) (IsInside at) (IsReached s.design top path) gone.read read
    (λ o. (
      λ is. ⊎_elim (λ (r : IsReached s.design top path o). r) (λ (i : o ≡ contents_object at). subst (IsReached s.design top path) (sym i) (end_reached s.design top at path gone.end)) is,
      λ is. inl is,
    ))

next_there : (s u : State) (top at : CellId) (path : List (List ℕ)) (step : List ℕ) (contents : Option Contents) (of : Option CellId) → HasGone s u top at path → contents ≡ contents_at u.design at → of ≡ option_map (λ inst. inst.of) (inst_named step (insts_in contents)) → next s.design at step ≡ of
next_there s u top at path step contents of gone inside is =
    sym (is ∙ ap (λ (c : Option Contents). option_map (λ (inst : Inst). inst.of) (inst_named step (insts_in c))) (inside ∙ ap (λ (d : Design). contents_at d at) gone.read.design) ∙ next_is s.design at step)

pub gone_more : (s u v w : State) (top at of : CellId) (path : List (List ℕ)) (step : List ℕ) (contents : Option Contents) → HasGone s u top at path → HasRead u v (IsInside at) → contents ≡ contents_at u.design at → Some of ≡ option_map (λ inst. inst.of) (inst_named step (insts_in contents)) → HasRead v w (IsInside of) → HasGone s w top of (path ++ step ∷ [])
gone_more s u v w top at of path step contents gone first inside is second =
    let there : next s.design at step ≡ Some of = next_there s u top at path step contents (Some of) gone inside is in
    record {
      read = read_then s v w (IsReached s.design top path) (IsInside of) (IsReached s.design top (path ++ step ∷ [])) (again s u v top at path gone first) second (λ o. reached_more s.design top at of path step o gone.end there);
      end = end_more s.design top at of path step gone.end there;
    }

pub gone_no_further : (s u v : State) (top at : CellId) (path rest : List (List ℕ)) (step : List ℕ) (contents : Option Contents) → HasGone s u top at path → HasRead u v (IsInside at) → contents ≡ contents_at u.design at → None ≡ option_map (λ inst. inst.of) (inst_named step (insts_in contents)) → HasRead s v (IsReached s.design top (path ++ step ∷ rest)) × (next s.design at step ≡ None)
gone_no_further s u v top at path rest step contents gone first inside is =
    let there : next s.design at step ≡ None = next_there s u top at path step contents None gone inside is in (
      (let before = again s u v top at path gone first in record {
        base = before.base;
        design = before.design;
        written = before.written;
        reads = grows_by_same s.reads v.reads (IsReached s.design top path) (IsReached s.design top (path ++ step ∷ rest)) before.reads (λ o. reached_stop s.design top at path rest step o gone.end there);
      }),
      there,
    )

-- a list that is gone through: what is passed, the item, and what is left
pub one_further : (xs : List (List ℕ)) (i : ℕ) (x : List ℕ) → i < length xs → x ≡ get_or xs i x → take (i + 1) xs ≡ take i xs ++ x ∷ []
one_further xs i x within is = take_more xs i x within ∙ ap (λ (y : List ℕ). take i xs ++ y ∷ []) (sym is)

front_append : (xs ys zs : List (List ℕ)) → (xs ++ ys) ++ zs ≡ xs ++ (ys ++ zs)
front_append [] ys zs = refl
front_append (x ∷ xs) ys zs = ap (λ (l : List (List ℕ)). x ∷ l) (front_append xs ys zs)

pub split_here : (xs : List (List ℕ)) (i : ℕ) (x : List ℕ) → i < length xs → x ≡ get_or xs i x → take i xs ++ x ∷ drop (i + 1) xs ≡ xs
split_here xs i x within is =
    sym (front_append (take i xs) (x ∷ []) (drop (i + 1) xs)) ∙ ap (λ (l : List (List ℕ)). l ++ drop (i + 1) xs) (sym (one_further xs i x within is)) ∙ take-append-drop (i + 1) xs

pub take_all : (xs : List (List ℕ)) (i : ℕ) → length xs ≤ i → take i xs ≡ xs
take_all [] i past = take_none i
  where
    take_none : (i : ℕ) → take {A = List ℕ} i [] ≡ []
    take_none zero = refl
    take_none (suc i) = refl
take_all (x ∷ xs) zero past = absurd (omega arith)
take_all (x ∷ xs) (suc i) past = ap (λ (l : List (List ℕ)). x ∷ l) (take_all xs i (omega arith))
