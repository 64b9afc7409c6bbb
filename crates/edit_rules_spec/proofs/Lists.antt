-- List lemmas: what holds of each, what is pairwise different, and lists with one item changed, dropped or left out.
use Rattle.std.proofs.Common.{◌≡◌, ◌≢◌, ℕ, zero, suc, ◌≤◌, Bool, true, false, arith, List, [], ◌∷◌, ◌++◌, length, Option, Some, None, refl, ap, map}
use Rattle.std.specs.Prelude.{cond, filter, remove}
use Rattle.std.specs.List.{All, AllPairs, AllByRecursion}
use Rattle.std.proofs.lemmas.List.Elements.{recursion_from_All, All-from_recursion}
use Rattle.std.proofs.lemmas.List.Kept.{AllPairs-cons}
use Rattle.netlist_schema.specs.Names.{AreDistinct}
use Rattle.netlist_schema.proofs.Lists.{all_append, all_behind}
use Rattle.edit_rules_spec.specs.Edit.{changed_at}

-- pairwise different, by cases on the list
abbrev pub Apart : {X : Type 0} → List X → Type 0
Apart [] = Unit {0}
Apart (x ∷ xs) = AllByRecursion (λ y. x ≢ y) xs × Apart xs

pub pairs_tail : {X : Type 0} (x : X) (xs : List X) → AllPairs (λ a b. a ≢ b) (x ∷ xs) → AllPairs (λ a b. a ≢ b) xs
pairs_tail x xs pairs = λ i j d below within. pairs (suc i) (suc j) d (omega arith) (omega arith)

pub pairs_head : {X : Type 0} (x : X) (xs : List X) → AllPairs (λ a b. a ≢ b) (x ∷ xs) → All (λ y. x ≢ y) xs
pairs_head x xs pairs = λ k d within. pairs 0 (suc k) d (omega arith) (omega arith)

pub apart_of : {X : Type 0} (xs : List X) → AreDistinct xs → Apart xs
apart_of [] pairs = tt
apart_of (x ∷ xs) pairs = (recursion_from_All (λ y. x ≢ y) xs (pairs_head x xs pairs), apart_of xs (pairs_tail x xs pairs))

pub distinct_of : {X : Type 0} (xs : List X) → Apart xs → AreDistinct xs
distinct_of [] apart = λ i j d below within. absurd (omega arith)
distinct_of (x ∷ xs) apart = AllPairs-cons (λ a b. a ≢ b) x xs (All-from_recursion (λ y. x ≢ y) xs apart.0) (distinct_of xs apart.1)

pub each_left : {X : Type 0} (P : X → Type 0) (xs ys : List X) → AllByRecursion P (xs ++ ys) → AllByRecursion P xs
each_left P [] ys all = tt
each_left P (x ∷ xs) ys all = (all.0, each_left P xs ys all.1)

pub length-changed_at : {X : Type 0} (f : X → X) (i : ℕ) (xs : List X) → length (changed_at f i xs) ≡ length xs
length-changed_at f i [] = refl
length-changed_at f zero (x ∷ xs) = refl
length-changed_at f (suc i) (x ∷ xs) = ap suc (length-changed_at f i xs)

pub each-changed_at : {X : Type 0} (P : X → Type 0) (f : X → X) → ((x : X) → P x → P (f x)) → (i : ℕ) (xs : List X) → AllByRecursion P xs → AllByRecursion P (changed_at f i xs)
each-changed_at P f keeps i [] all = all
each-changed_at P f keeps zero (x ∷ xs) all = (keeps x all.0, all.1)
each-changed_at P f keeps (suc i) (x ∷ xs) all = (all.0, each-changed_at P f keeps i xs all.1)

pub All-changed_at : {X : Type 0} (P : X → Type 0) (f : X → X) → ((x : X) → P x → P (f x)) → (i : ℕ) (xs : List X) → All P xs → All P (changed_at f i xs)
All-changed_at P f keeps i xs all = All-from_recursion P (changed_at f i xs) (each-changed_at P f keeps i xs (recursion_from_All P xs all))

-- dropping one of a list
pub each_drop : {X : Type 0} (P : X → Type 0) (i : ℕ) (xs : List X) → AllByRecursion P xs → AllByRecursion P (remove xs i)
each_drop P zero [] all = tt
each_drop P (suc i) [] all = tt
each_drop P zero (x ∷ xs) all = all.1
each_drop P (suc i) (x ∷ xs) all = (all.0, each_drop P i xs all.1)

pub apart_drop : {X : Type 0} (i : ℕ) (xs : List X) → Apart xs → Apart (remove xs i)
apart_drop zero [] apart = tt
apart_drop (suc i) [] apart = tt
apart_drop zero (x ∷ xs) apart = apart.1
apart_drop (suc i) (x ∷ xs) apart = (each_drop (λ y. x ≢ y) i xs apart.0, apart_drop i xs apart.1)

pub map_drop : {X Y : Type 0} (f : X → Y) (i : ℕ) (xs : List X) → map f (remove xs i) ≡ remove (map f xs) i
map_drop f zero [] = refl
map_drop f (suc i) [] = refl
map_drop f zero (x ∷ xs) = refl
map_drop f (suc i) (x ∷ xs) = ap (λ ys. f x ∷ ys) (map_drop f i xs)

pub length_drop : {X : Type 0} (i : ℕ) (xs : List X) → length (remove xs i) ≤ length xs
length_drop zero [] = omega arith
length_drop (suc i) [] = omega arith
length_drop zero (x ∷ xs) = omega arith
length_drop (suc i) (x ∷ xs) = let rest = length_drop i xs in omega arith

pub apart_right : {X : Type 0} (xs ys : List X) → Apart (xs ++ ys) → Apart ys
apart_right [] ys apart = apart
apart_right (x ∷ xs) ys apart = apart_right xs ys apart.1

-- the same beginning, and an end of which all that is said holds
pub apart_rest : {X : Type 0} (xs ys zs : List X) → Apart (xs ++ ys) → Apart zs → ((x : X) → AllByRecursion (λ y. x ≢ y) ys → AllByRecursion (λ y. x ≢ y) zs) → Apart (xs ++ zs)
apart_rest [] ys zs apart rest less = rest
apart_rest (x ∷ xs) ys zs apart rest less =
    (all_append (λ y. x ≢ y) xs zs (each_left (λ y. x ≢ y) xs ys apart.0) (less x (all_behind (λ y. x ≢ y) xs ys apart.0)), apart_rest xs ys zs apart.1 rest less)

pub All-drop : {X : Type 0} (P : X → Type 0) (i : ℕ) (xs : List X) → All P xs → All P (remove xs i)
All-drop P i xs all = All-from_recursion P (remove xs i) (each_drop P i xs (recursion_from_All P xs all))

-- leaving out some ends
pub each_filter : {X : Type 0} (P : X → Type 0) (keep : X → Bool) (xs : List X) → AllByRecursion P xs → AllByRecursion P (filter keep xs)
each_filter P keep [] all = tt
each_filter {X} P keep (x ∷ xs) all = kept (keep x) x (filter keep xs) all.0 (each_filter P keep xs all.1)
  where
    kept : (b : Bool) (x : X) (rest : List X) → P x → AllByRecursion P rest → AllByRecursion P (cond b (x ∷ rest) rest)
    kept true x rest here all = (here, all)
    kept false x rest here all = all

pub apart_filter : {X : Type 0} (keep : X → Bool) (xs : List X) → Apart xs → Apart (filter keep xs)
apart_filter keep [] apart = tt
apart_filter {X} keep (x ∷ xs) apart = kept (keep x) x (filter keep xs) (each_filter (λ y. x ≢ y) keep xs apart.0) (apart_filter keep xs apart.1)
  where
    kept : (b : Bool) (x : X) (rest : List X) → AllByRecursion (λ y. x ≢ y) rest → Apart rest → Apart (cond b (x ∷ rest) rest)
    kept true x rest here all = (here, all)
    kept false x rest here all = all

pub filter_both : {X : Type 0} (keep : X → Bool) (xs ys : List X) → filter keep (xs ++ ys) ≡ filter keep xs ++ filter keep ys
filter_both keep [] ys = refl
filter_both {X} keep (x ∷ xs) ys = kept (keep x) x (filter keep (xs ++ ys)) (filter keep xs) (filter keep ys) (filter_both keep xs ys)
  where
    kept : (b : Bool) (x : X) (all left right : List X) → all ≡ left ++ right → cond b (x ∷ all) all ≡ cond b (x ∷ left) left ++ right
    kept true x all left right same = ap (λ zs. x ∷ zs) same
    kept false x all left right same = same

pub length_filter : {X : Type 0} (keep : X → Bool) (xs : List X) → length (filter keep xs) ≤ length xs
length_filter keep [] = omega arith
length_filter {X} keep (x ∷ xs) = kept (keep x) (filter keep xs) (length_filter keep xs)
  where
    kept : (b : Bool) (rest : List X) → length rest ≤ length xs → length (cond b (x ∷ rest) rest) ≤ suc (length xs)
    kept true rest less = omega arith
    kept false rest less = omega arith

-- setting a property
pub found_key : (b : Bool) (i k : ℕ) (rest : Option ℕ) (P : Type 0) → (b ≡ true → i ≡ k → P) → (rest ≡ Some k → P) → cond b (Some i) rest ≡ Some k → P
found_key true i k rest P here later is = here refl (cc)
found_key false i k rest P here later is = later is

pub missing_key : (b : Bool) (i : ℕ) (rest : Option ℕ) → cond b (Some i) rest ≡ None → (b ≡ false) × (rest ≡ None)
missing_key true i rest is = cc
missing_key false i rest is = (refl, is)

pub apart_more : {X : Type 0} (xs : List X) (x : X) → AllByRecursion (λ y. y ≢ x) xs → Apart xs → Apart (xs ++ x ∷ [])
apart_more [] x new apart = (tt, tt)
apart_more (y ∷ ys) x new apart = (all_append (λ z. y ≢ z) ys (x ∷ []) apart.0 (new.0, tt), apart_more ys x new.1 apart.1)
