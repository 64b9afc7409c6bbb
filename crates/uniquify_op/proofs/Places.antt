-- Places in lists that go on.
use Rattle.std.proofs.Common.{◌≡◌, ◌<◌, ◌≤◌, ◌+◌, ℕ, zero, suc, Bool, true, false, cond, List, [], ◌∷◌, ◌++◌, length, Option, Some, None, refl, sym, ap, ◌∙◌}
use Rattle.std.specs.Prelude.{filter, slice_get, unwrap_or}
use Rattle.std.specs.Option.{option_map_or}
use Rattle.std.proofs.lemmas.Option.{slice_get_past}
use Rattle.netlist_schema.proofs.Lists.{get_front}
use Rattle.flat_spec.specs.Occurrences.{Occurrence}
use Rattle.edit_rules_spec.proofs.Edits.{last_of}
use Rattle.uniquify_copies.specs.declared.spot.Step.{Step}
use Rattle.uniquify_op.specs.Frames.{row_at}
use Rattle.uniquify_op.specs.Walks.{path_at}

pub row_at_more : (rows more : List (List Step)) (place : ℕ) → place < length rows → row_at (rows ++ more) place ≡ row_at rows place
row_at_more rows more place less = ap (λ (o : Option (List Step)). unwrap_or o []) (get_front rows more place less)

pub row_at_last : (rows : List (List Step)) (row : List Step) (place : ℕ) → place ≡ length rows → row_at (rows ++ row ∷ []) place ≡ row
row_at_last rows row place is = ap (λ (o : Option (List Step)). unwrap_or o []) (last_of rows row place is)

pub row_at_past : (rows : List (List Step)) (place : ℕ) → length rows ≤ place → row_at rows place ≡ []
row_at_past rows place past = ap (λ (o : Option (List Step)). unwrap_or o []) (slice_get_past rows place past)

pub path_at_more : (os more : List Occurrence) (number : ℕ) → number < length os → path_at (os ++ more) number ≡ path_at os number
path_at_more os more number less = ap (λ (o : Option Occurrence). option_map_or (λ x. x.path) o []) (get_front os more number less)

pub path_at_is : (os : List Occurrence) (number : ℕ) (o : Occurrence) → slice_get os number ≡ Some o → path_at os number ≡ o.path
path_at_is os number o at = ap (λ (x : Option Occurrence). option_map_or (λ y. y.path) x []) at

-- what is left by a filter passes it
pub filter_passes : {X : Type 0} (test : X → Bool) (xs : List X) (i : ℕ) (x : X) → slice_get (filter test xs) i ≡ Some x → test x ≡ true
filter_passes test [] i x at = cc
filter_passes {X} test (y ∷ ys) i x at = by (test y) refl i at (λ j there. filter_passes test ys j x there)
  where
    by : (b : Bool) → test y ≡ b → (j : ℕ) → slice_get (cond b (y ∷ filter test ys) (filter test ys)) j ≡ Some x → ((k : ℕ) → slice_get (filter test ys) k ≡ Some x → test x ≡ true) → test x ≡ true
    by true is zero there rest = let same : y ≡ x = cc in sym (ap test same) ∙ is
    by true is (suc j) there rest = rest j there
    by false is j there rest = rest j there

-- what block_at finds
pub block_found : (rows : List (List Step)) (row place : ℕ) (blocks : List Step) (step : Step) → slice_get rows row ≡ Some blocks → slice_get blocks place ≡ Some step → slice_get (row_at rows row) place ≡ Some step
block_found rows row place blocks step there at = ap (λ (o : Option (List Step)). slice_get (unwrap_or o []) place) there ∙ at

pub block_past : (rows : List (List Step)) (row place : ℕ) (blocks : List Step) → slice_get rows row ≡ Some blocks → length blocks ≤ place → slice_get (row_at rows row) place ≡ None
block_past rows row place blocks there past = ap (λ (o : Option (List Step)). slice_get (unwrap_or o []) place) there ∙ slice_get_past blocks place past

pub row_past : (rows : List (List Step)) (row place : ℕ) → length rows ≤ row → slice_get (row_at rows row) place ≡ None
row_past rows row place past = ap (λ (l : List Step). slice_get l place) (row_at_past rows row past)
