-- A fault that stands tells of what is there: what stands in a tree, and breaches of the row of a form.
use Rattle.std.proofs.Common.{◌≡◌, ℕ, zero, suc, ◌+◌, ◌<◌, List, [], ◌∷◌, ◌++◌, length, refl, ap, sym, subst, inl, inr, Bool, true, false, Option, Some, None, arith}
use Rattle.std.specs.Prelude.{IsTrue, cond, filter, drop, slice_get}
use Rattle.std.specs.List.{flat_map}
use Rattle.edif_spelling_spec.specs.Tree.{Bare, Placed, Form', Word', Integer', String', End, More, bare}
use Rattle.edif_spec.specs.Keyword.{row, FormRow, Takes, Skips, Choice, Follower, Many, One}
use Rattle.edif_spec.specs.Rows.{has_keyword, is_follower}
use Rattle.edif_spec.specs.Faults.{AtOne, AtTwo, place_of, arguments, followers, fixed_count, those_of, parts, Among, InPart, InForm, row_has, misplaced, token_kind, FixedFault, FollowerFault, second, SecondFault, Breaches, RowFault, renamed, name_of, is_size, arrayed, bus_name_of, may_be_array, first_name, defined, SameName, Repeats, Beyond, BeyondBits, declared_width}
use Rattle.edif_spec.specs.Stands.{AmongAfter}
use Rattle.edif_spec.specs.Told.{IsIn, IsUnder, IsFaulty, AreInOrder, AreTwo, IsLimitOf, ShareScope, Told, has_scope}
use Rattle.edif_spec.specs.Told as told
use Rattle.edif_spec.specs.declared.keyword.Keyword.{Keyword}
use Rattle.edif_spec.specs.declared.keyword.Keyword.TheVariants as keywords
use Rattle.edif_spec.specs.declared.fault.Kind.{Kind}
use Rattle.edif_spec.specs.declared.fault.Kind.TheVariants as kinds
use Rattle.edif_spec.specs.declared.fault.ClashKind.TheVariants as clashes
use Rattle.edif_spec.specs.declared.fault.MeaningFault.{MeaningFault}
use Rattle.edif_spec.specs.declared.fault.MeaningFault.TheVariants.{NotInProfile, At, Clash, OverLimit}

-- places of a list
pub one_there : {A : Type 0} (P : A → Type 0) (xs : List A) → AtOne P xs → (i : ℕ) × (x : A) × (slice_get xs i ≡ Some x) × P x
one_there P [] h = absurd h
one_there P (x ∷ xs) (inl h) = (0, x, refl, h)
one_there P (x ∷ xs) (inr h) = let w = one_there P xs h in (suc w.0, w.1, w.2, w.3)

two_there : {A : Type 0} (R : A → A → Type 0) (xs : List A) → AtTwo R xs → (i : ℕ) × (j : ℕ) × (x : A) × (y : A) × (slice_get xs i ≡ Some x) × (slice_get xs j ≡ Some y) × R x y × (i < j)
two_there R [] h = absurd h
two_there R (x ∷ xs) (inl h) = let w = one_there (R x) xs h in (0, suc w.0, x, w.1, refl, w.2, w.3, omega arith)
two_there R (x ∷ xs) (inr h) = let w = two_there R xs h in let l = w.7 in (suc w.0, suc w.1, w.2, w.3, w.4, w.5, w.6, omega (arith, l))

-- one and two of a part of a list
pub one_map : {A : Type 0} (P Q : A → Type 0) (xs : List A) → ((x : A) → P x → Q x) → AtOne P xs → AtOne Q xs
one_map P Q [] f h = h
one_map P Q (x ∷ xs) f (inl h) = inl (f x h)
one_map P Q (x ∷ xs) f (inr h) = inr (one_map P Q xs f h)

one_filtered : {A : Type 0} (p : A → Bool) (P : A → Type 0) (xs : List A) → AtOne P (filter p xs) → AtOne (λ x. (p x ≡ true) × P x) xs
one_filtered p P [] h = h
one_filtered p P (x ∷ xs) h = go (p x) refl h (λ k. one_filtered p P xs k)
  where
    go : (b : Bool) → p x ≡ b → AtOne P (cond b (x ∷ filter p xs) (filter p xs)) → (AtOne P (filter p xs) → AtOne (λ y. (p y ≡ true) × P y) xs) → AtOne (λ y. (p y ≡ true) × P y) (x ∷ xs)
    go true e (inl k) more = inl (e, k)
    go true e (inr k) more = inr (more k)
    go false e k more = inr (more k)

two_filtered : {A : Type 0} (p : A → Bool) (R : A → A → Type 0) (xs : List A) → AtTwo R (filter p xs) → AtTwo (λ x y. (p x ≡ true) × (p y ≡ true) × R x y) xs
two_filtered p R [] h = h
two_filtered p R (x ∷ xs) h = go (p x) refl h (λ k. two_filtered p R xs k)
  where
    go : (b : Bool) → p x ≡ b → AtTwo R (cond b (x ∷ filter p xs) (filter p xs)) → (AtTwo R (filter p xs) → AtTwo (λ y z. (p y ≡ true) × (p z ≡ true) × R y z) xs) → AtTwo (λ y z. (p y ≡ true) × (p z ≡ true) × R y z) (x ∷ xs)
    go true e (inl k) more = inl (one_map (λ y. (p y ≡ true) × R x y) (λ y. (p x ≡ true) × (p y ≡ true) × R x y) xs (λ y m. (e, m.0, m.1)) (one_filtered p (R x) xs k))
    go true e (inr k) more = inr (more k)
    go false e k more = inr (more k)

two_dropped : {A : Type 0} (R : A → A → Type 0) (n : ℕ) (xs : List A) → AtTwo R (drop n xs) → AtTwo R xs
two_dropped R zero xs h = h
two_dropped R (suc n) [] h = h
two_dropped R (suc n) (x ∷ xs) h = inr (two_dropped R n xs h)

-- two arguments of a form behind the first ones, with a property each
pub two_arguments : (r t : Placed) (n : ℕ) (p : Bare → Bool) (R : Placed → Placed → Type 0) → IsIn r t → AtTwo R (filter (λ u. p (bare u)) (drop n (arguments t)))
    → (a : Placed) × (b : Placed) × (o : AreInOrder r a b) × (p (bare a) ≡ true) × (p (bare b) ≡ true) × R a b × (o.holder ≡ t)
two_arguments r t n p R h b =
    let Q : Placed → Placed → Type 0 = λ x y. (p (bare x) ≡ true) × (p (bare y) ≡ true) × R x y in
    let w = two_there Q (arguments t) (two_dropped Q n (arguments t) (two_filtered (λ u. p (bare u)) R (drop n (arguments t)) b)) in
    (w.2, w.3, record { holder = t; inside = h; at_a = w.0; at_b = w.1; there_a = w.4; there_b = w.5; order = w.7 }, w.6.0, w.6.1, w.6.2, refl)

pub former_in : (r a b : Placed) → AreInOrder r a b → IsIn r a
former_in r a b h = told.argument h.holder a h.at_a h.inside h.there_a

pub latter_in : (r a b : Placed) → AreInOrder r a b → IsIn r b
latter_in r a b h = told.argument h.holder b h.at_b h.inside h.there_b

pub in_drop : {A : Type 0} (n : ℕ) (xs : List A) (i : ℕ) (x : A) → slice_get (drop n xs) i ≡ Some x → (j : ℕ) × (slice_get xs j ≡ Some x)
in_drop zero xs i x e = (i, e)
in_drop (suc n) [] i x e = (i, e)
in_drop (suc n) (y ∷ ys) i x e = let w = in_drop n ys i x e in (suc w.0, w.1)

pub in_filter : (p : Placed → Bool) (xs : List Placed) (i : ℕ) (x : Placed) → slice_get (filter p xs) i ≡ Some x → (j : ℕ) × (slice_get xs j ≡ Some x) × (p x ≡ true)
in_filter p [] i x e = absurd (cc e)
in_filter p (y ∷ ys) i x e = go (p y) refl i e (λ k g. in_filter p ys k x g)
  where
    go : (b : Bool) → p y ≡ b → (i : ℕ) → slice_get (cond b (y ∷ filter p ys) (filter p ys)) i ≡ Some x → ((k : ℕ) → slice_get (filter p ys) k ≡ Some x → (j : ℕ) × (slice_get ys j ≡ Some x) × (p x ≡ true)) → (j : ℕ) × (slice_get (y ∷ ys) j ≡ Some x) × (p x ≡ true)
    go false h i e more = let w = more i e in (suc w.0, w.1, w.2)
    go true h zero e more = let s : y ≡ x = cc e in (0, e, subst (λ v. p v ≡ true) s h)
    go true h (suc i) e more = let w = more i e in (suc w.0, w.1, w.2)

-- a list of nodes that stand in the tree and have the property
abbrev pub Inside : Placed → (Placed → Type 0) → List Placed → Type 0
Inside r Q xs = (i : ℕ) (x : Placed) → slice_get xs i ≡ Some x → IsIn r x × Q x

pub under_in : (r : Placed) (k : Keyword) (u : Placed) → IsUnder r k u → IsIn r u
under_in r k u h = told.argument h.holder u h.at h.inside h.there

pub inside_followers : (r : Placed) (p : Bare → Bool) (k : Keyword) (t : Placed) → IsIn r t → Inside r (λ u. p (bare u) ≡ true) (filter (λ u. p (bare u)) (followers k t))
inside_followers r p k t h i x e =
    let w = in_filter (λ u. p (bare u)) (followers k t) i x e in
    let v = in_drop (fixed_count (row k)) (arguments t) w.0 x w.1 in
    (told.argument t x v.0 h v.1, w.2)

pub inside_parts : (r : Placed) (k j : Keyword) (t : Placed) → IsIn r t → Inside r (λ u. IsTrue (has_keyword j (bare u))) (parts k j t)
inside_parts r k j t h = inside_followers r (has_keyword j) k t h

inside_append : (r : Placed) (Q : Placed → Type 0) (xs ys : List Placed) → Inside r Q xs → Inside r Q ys → Inside r Q (xs ++ ys)
inside_append r Q [] ys h k i x e = k i x e
inside_append r Q (z ∷ xs) ys h k zero x e = h 0 x e
inside_append r Q (z ∷ xs) ys h k (suc i) x e = inside_append r Q xs ys (λ j y g. h (suc j) y g) k i x e

pub inside_flat : (r : Placed) (P Q : Placed → Type 0) (g : Placed → List Placed) (ts : List Placed) → Inside r P ts → ((u : Placed) → IsIn r u → P u → Inside r Q (g u)) → Inside r Q (flat_map g ts)
inside_flat r P Q g [] h k i x e = absurd (cc e)
inside_flat r P Q g (t ∷ ts) h k i x e = inside_append r Q (g t) (flat_map g ts) (let w = h 0 t refl in k t w.0 w.1) (λ j y f. inside_flat r P Q g ts (λ j y e. h (suc j) y e) k j y f) i x e

-- parts of a form
part_told : (r : Placed) (k : Keyword) (i : ℕ) (F : Placed → MeaningFault → Type 0) (t : Placed) (f : MeaningFault) → IsIn r t → IsTrue (has_keyword k (bare t)) → ((u : Placed) → IsUnder r k u → F u f → Told r f) → InPart i F t f → Told r f
part_told r k i F t f h w c b = c b.0 (record { holder = t; inside = h; keyword = w; at = i; there = b.1 }) b.2

pub form_told : (r : Placed) (i : ℕ) (j : Keyword) (F : Placed → MeaningFault → Type 0) (t : Placed) (f : MeaningFault) → IsIn r t → ((u : Placed) → IsIn r u → IsTrue (has_keyword j (bare u)) → F u f → Told r f) → InForm i j F t f → Told r f
form_told r i j F t f h c b = c b.0 (told.argument t b.0 i h b.1) b.2 b.3

pub among_told : (r : Placed) (Q : Placed → Type 0) (F : Placed → MeaningFault → Type 0) (ts : List Placed) (f : MeaningFault) → Inside r Q ts → ((u : Placed) → IsIn r u → Q u → F u f → Told r f) → Among F ts f → Told r f
among_told r Q F ts f h c b = let w = one_there (λ u. F u f) ts b in let v = h w.0 w.1 w.2 in c w.1 v.0 v.1 w.3

pub after_told : {A : Type 0} (r : Placed) (Q : Placed → Type 0) (means : List A → Bare → A → Type 0) (F : List A → Placed → MeaningFault → Type 0) (before : List A) (ts : List Placed) (f : MeaningFault) → Inside r Q ts
    → ((before : List A) (u : Placed) → IsIn r u → Q u → F before u f → Told r f) → AmongAfter means F before ts f → Told r f
after_told r Q means F before [] f h c b = absurd b
after_told r Q means F before (t ∷ ts) f h c (inl b) = let w = h 0 t refl in c before t w.0 w.1 b
after_told r Q means F before (t ∷ ts) f h c (inr b) = after_told r Q means F (before ++ b.0 ∷ []) ts f (λ i x e. h (suc i) x e) c b.2

-- what a form defines stands in it
renamed_in : (r t : Placed) (n : List ℕ × ℕ) (ts : List Placed) → arguments t ≡ ts → IsIn r t → renamed ts ≡ Some n → IsIn r (Word' n.1 n.0)
renamed_in r t n (Word' p w ∷ String' q s ∷ []) a h e =
    let d : (w, p) ≡ n = cc e in
    subst (λ (v : List ℕ × ℕ). IsIn r (Word' v.1 v.0)) d (told.argument t (Word' p w) 0 h (ap (λ v. slice_get v 0) a))
renamed_in r t n [] a h e = absurd (cc e)
renamed_in r t n (Form' p ts ∷ us) a h e = absurd (cc e)
renamed_in r t n (Integer' p z ∷ us) a h e = absurd (cc e)
renamed_in r t n (String' p s ∷ us) a h e = absurd (cc e)
renamed_in r t n (Word' p w ∷ []) a h e = absurd (cc e)
renamed_in r t n (Word' p w ∷ Form' q ts ∷ us) a h e = absurd (cc e)
renamed_in r t n (Word' p w ∷ Word' q m ∷ us) a h e = absurd (cc e)
renamed_in r t n (Word' p w ∷ Integer' q z ∷ us) a h e = absurd (cc e)
renamed_in r t n (Word' p w ∷ String' q s ∷ u ∷ us) a h e = absurd (cc e)

name_in : (r t : Placed) (n : List ℕ × ℕ) → IsIn r t → name_of t ≡ Some n → IsIn r (Word' n.1 n.0)
name_in r (Word' q w) n h e = let s : (w, q) ≡ n = cc e in subst (λ (v : List ℕ × ℕ). IsIn r (Word' v.1 v.0)) s h
name_in r (Integer' q z) n h e = absurd (cc e)
name_in r (String' q z) n h e = absurd (cc e)
name_in r (Form' q ts) n h e = go (has_keyword keywords.Rename (bare (Form' q ts))) e
  where
    go : (b : Bool) → cond {A = Option (List ℕ × ℕ)} b (renamed (arguments (Form' q ts))) None ≡ Some n → IsIn r (Word' n.1 n.0)
    go true f = renamed_in r (Form' q ts) n (arguments (Form' q ts)) refl h f
    go false f = absurd (cc f)

arrayed_in : (r t : Placed) (n : List ℕ × ℕ) (ts : List Placed) → arguments t ≡ ts → IsIn r t → arrayed ts ≡ Some n → IsIn r (Word' n.1 n.0)
arrayed_in r t n (u ∷ Integer' p z ∷ []) a h e = go (is_size z) e
  where
    go : (b : Bool) → cond {A = Option (List ℕ × ℕ)} b (name_of u) None ≡ Some n → IsIn r (Word' n.1 n.0)
    go true f = name_in r u n (told.argument t u 0 h (ap (λ v. slice_get v 0) a)) f
    go false f = absurd (cc f)
arrayed_in r t n [] a h e = absurd (cc e)
arrayed_in r t n (u ∷ []) a h e = absurd (cc e)
arrayed_in r t n (u ∷ Form' q ts ∷ us) a h e = absurd (cc e)
arrayed_in r t n (u ∷ Word' q m ∷ us) a h e = absurd (cc e)
arrayed_in r t n (u ∷ String' q s ∷ us) a h e = absurd (cc e)
arrayed_in r t n (u ∷ Integer' q y ∷ v ∷ us) a h e = absurd (cc e)

bus_name_in : (r t : Placed) (n : List ℕ × ℕ) → IsIn r t → bus_name_of t ≡ Some n → IsIn r (Word' n.1 n.0)
bus_name_in r t n h e = go (has_keyword keywords.Array (bare t)) e
  where
    go : (b : Bool) → cond {A = Option (List ℕ × ℕ)} b (arrayed (arguments t)) (name_of t) ≡ Some n → IsIn r (Word' n.1 n.0)
    go true f = arrayed_in r t n (arguments t) refl h f
    go false f = name_in r t n h f

first_in : (r t : Placed) (n : List ℕ × ℕ) (array : Bool) (ts : List Placed) → arguments t ≡ ts → IsIn r t → first_name array ts ≡ Some n → IsIn r (Word' n.1 n.0)
first_in r t n array [] a h e = absurd (cc e)
first_in r t n true (u ∷ ts) a h e = bus_name_in r u n (told.argument t u 0 h (ap (λ v. slice_get v 0) a)) e
first_in r t n false (u ∷ ts) a h e = name_in r u n (told.argument t u 0 h (ap (λ v. slice_get v 0) a)) e

pub defined_in : (r t : Placed) (name : List ℕ) (p : ℕ) → IsIn r t → defined t ≡ Some (name, p) → IsIn r (Word' p name)
defined_in r t name p h e = first_in r t (name, p) (may_be_array (bare t)) (arguments t) refl h e

pub at_fault : (r : Placed) (f g : MeaningFault) → f ≡ g → Told r g → Told r f
at_fault r f g e h = subst (λ v. Told r v) (sym e) h

pub repeats_told : (r t : Placed) (n : ℕ) (p : Bare → Bool) (f : MeaningFault) → IsIn r t → ((a b : Placed) → p (bare a) ≡ true → p (bare b) ≡ true → ShareScope a b) → Repeats (filter (λ u. p (bare u)) (drop n (arguments t))) f → Told r f
repeats_told r t n p f h share b =
    let w = two_arguments r t n p (SameName f) h b in
    let s = w.5 in
    at_fault r f (Clash clashes.Duplicate s.2 s.1) s.5 (s.0, inl (defined_in r w.0 s.0 s.1 (former_in r w.0 w.1 w.2) s.3), inl (defined_in r w.1 s.0 s.2 (latter_in r w.0 w.1 w.2) s.4), told.same_forms w.0 w.1 w.2 (share w.0 w.1 w.3 w.4) s.3 s.4)

-- the same for the forms of one keyword behind the fixed arguments
pub parts_again : (r : Placed) (k j : Keyword) (t : Placed) (f : MeaningFault) → IsIn r t → IsTrue (has_scope j) → Repeats (parts k j t) f → Told r f
parts_again r k j t f h s b = repeats_told r t (fixed_count (row k)) (has_keyword j) f h (λ a b x y. inl (j, s, x, y)) b

pub beyond_told : (r : Placed) (Q : Placed → Type 0) (limit : ℕ) (ts : List Placed) (f : MeaningFault) → Inside r Q ts → ((u : Placed) → Q u → IsLimitOf limit u) → Beyond limit ts f → Told r f
beyond_told r Q limit ts f h l b = let v = h limit b.0 b.1 in at_fault r f (OverLimit limit (place_of b.0)) b.2 (b.0, refl, v.0, l b.0 v.1)

pub bits_told : (r : Placed) (Q : Placed → Type 0) (limit before : ℕ) (ts : List Placed) (f : MeaningFault) → Inside r Q ts → ((u : Placed) → Q u → IsLimitOf limit u) → BeyondBits limit before ts f → Told r f
bits_told r Q limit before [] f h l b = absurd b
bits_told r Q limit before (t ∷ ts) f h l (inl b) = let v = h 0 t refl in at_fault r f (OverLimit limit (place_of t)) b.2 (t, refl, v.0, l t v.1)
bits_told r Q limit before (t ∷ ts) f h l (inr b) = bits_told r Q limit (before + declared_width t) ts f (λ i x e. h (suc i) x e) l b

-- a breach of a row
token_told : (k : Keyword) (r u : Placed) → IsUnder r k u → IsFaulty (token_kind k) r u
token_told keywords.EdifVersion r u h = h
token_told keywords.EdifLevel r u h = inl h
token_told keywords.KeywordLevel r u h = inr h
token_told keywords.Edif r u h = under_in r keywords.Edif u h
token_told keywords.KeywordMap r u h = under_in r keywords.KeywordMap u h
token_told keywords.Library r u h = under_in r keywords.Library u h
token_told keywords.External r u h = under_in r keywords.External u h
token_told keywords.Technology r u h = under_in r keywords.Technology u h
token_told keywords.Cell r u h = under_in r keywords.Cell u h
token_told keywords.CellType r u h = under_in r keywords.CellType u h
token_told keywords.View r u h = under_in r keywords.View u h
token_told keywords.ViewType r u h = under_in r keywords.ViewType u h
token_told keywords.Interface r u h = under_in r keywords.Interface u h
token_told keywords.Port r u h = under_in r keywords.Port u h
token_told keywords.Array r u h = under_in r keywords.Array u h
token_told keywords.Direction r u h = under_in r keywords.Direction u h
token_told keywords.Designator r u h = under_in r keywords.Designator u h
token_told keywords.Owner r u h = under_in r keywords.Owner u h
token_told keywords.Contents r u h = under_in r keywords.Contents u h
token_told keywords.Instance r u h = under_in r keywords.Instance u h
token_told keywords.Net r u h = under_in r keywords.Net u h
token_told keywords.Joined r u h = under_in r keywords.Joined u h
token_told keywords.PortRef r u h = under_in r keywords.PortRef u h
token_told keywords.Member r u h = under_in r keywords.Member u h
token_told keywords.InstanceRef r u h = under_in r keywords.InstanceRef u h
token_told keywords.LibraryRef r u h = under_in r keywords.LibraryRef u h
token_told keywords.ViewRef r u h = under_in r keywords.ViewRef u h
token_told keywords.CellRef r u h = under_in r keywords.CellRef u h
token_told keywords.Property r u h = under_in r keywords.Property u h
token_told keywords.Boolean r u h = under_in r keywords.Boolean u h
token_told keywords.Integer r u h = under_in r keywords.Integer u h
token_told keywords.Number r u h = under_in r keywords.Number u h
token_told keywords.String r u h = under_in r keywords.String u h
token_told keywords.Design r u h = under_in r keywords.Design u h
token_told keywords.Rename r u h = under_in r keywords.Rename u h
token_told keywords.Status r u h = under_in r keywords.Status u h
token_told keywords.Comment r u h = under_in r keywords.Comment u h
token_told keywords.UserData r u h = under_in r keywords.UserData u h
token_told keywords.True r u h = under_in r keywords.True u h
token_told keywords.False r u h = under_in r keywords.False u h
token_told keywords.E r u h = under_in r keywords.E u h
token_told keywords.Path r u h = under_in r keywords.Path u h

told_at : (kind : Kind) (r u : Placed) → IsFaulty kind r u → Told r (At kind (place_of u))
told_at kind r u h = (u, refl, h)

misplaced_told : (kind : Kind) (k : Keyword) (r u : Placed) → IsUnder r k u → IsFaulty kind r u → Told r (misplaced kind (row k) u)
misplaced_told kind k r (Form' p (More (Word' q name) ts)) h g = go (row_has (row k) (bare u)) refl
  where
    u : Placed
    u = Form' p (More (Word' q name) ts)

    go : (b : Bool) → row_has (row k) (bare u) ≡ b → Told r (cond b (At kinds.BadForm p) (NotInProfile name p))
    go true e = (u, refl, under_in r k u h)
    go false e = told.under k q ts h e
misplaced_told kind k r (Form' p (More (Form' q us) ts)) h g = (Form' p (More (Form' q us) ts), refl, under_in r k (Form' p (More (Form' q us) ts)) h)
misplaced_told kind k r (Form' p (More (Integer' q z) ts)) h g = (Form' p (More (Integer' q z) ts), refl, under_in r k (Form' p (More (Integer' q z) ts)) h)
misplaced_told kind k r (Form' p (More (String' q z) ts)) h g = (Form' p (More (String' q z) ts), refl, under_in r k (Form' p (More (String' q z) ts)) h)
misplaced_told kind k r (Form' p End) h g = (Form' p End, refl, under_in r k (Form' p End) h)
misplaced_told kind k r (Word' p w) h g = (Word' p w, refl, g)
misplaced_told kind k r (Integer' p z) h g = (Integer' p z, refl, g)
misplaced_told kind k r (String' p z) h g = (String' p z, refl, g)

-- each of the list is an argument of the form
abbrev Arguments : Placed → List Placed → Type 0
Arguments t xs = (i : ℕ) (x : Placed) → slice_get xs i ≡ Some x → (j : ℕ) × (slice_get (arguments t) j ≡ Some x)

under_there : (r t : Placed) (k : Keyword) (u : Placed) → IsIn r t → IsTrue (has_keyword k (bare t)) → (j : ℕ) × (slice_get (arguments t) j ≡ Some u) → IsUnder r k u
under_there r t k u h w v = record { holder = t; inside = h; keyword = w; at = v.0; there = v.1 }

pub fixed_told : (r : Placed) (wrong : Placed → MeaningFault) (t : Placed) (choices : List (List Choice)) (ts : List Placed) (f : MeaningFault) → IsIn r t → Arguments t ts
    → ((u : Placed) → (j : ℕ) × (slice_get (arguments t) j ≡ Some u) → Told r (wrong u)) → FixedFault wrong (place_of t) choices ts f → Told r f
fixed_told r wrong t [] ts f h a c b = absurd b
fixed_told r wrong t (cs ∷ choices) [] f h a c b = at_fault r f (At kinds.BadForm (place_of t)) b (t, refl, h)
fixed_told r wrong t (cs ∷ choices) (u ∷ ts) f h a c (inl b) = at_fault r f (wrong u) b.1 (c u (a 0 u refl))
fixed_told r wrong t (cs ∷ choices) (u ∷ ts) f h a c (inr b) = fixed_told r wrong t choices ts f h (λ i x e. a (suc i) x e) c b

pub follower_told : (r : Placed) (wrong : Placed → MeaningFault) (t : Placed) (fs : List Follower) (n : ℕ) (f : MeaningFault)
    → ((u : Placed) → (j : ℕ) × (slice_get (arguments t) j ≡ Some u) → Told r (wrong u)) → FollowerFault wrong fs (drop n (arguments t)) f → Told r f
follower_told r wrong t fs n f c b =
    let w = one_there (λ u. (is_follower fs (bare u) ≡ false) × (f ≡ wrong u)) (drop n (arguments t)) b in
    at_fault r f (wrong w.1) w.3.1 (c w.1 (in_drop n (arguments t) w.0 w.1 w.2))

two_told : (r t : Placed) (k : Keyword) (n : ℕ) (f : MeaningFault) → IsIn r t → AtTwo (λ a b. f ≡ second k a b) (those_of k (drop n (arguments t))) → (a : Placed) × (b : Placed) × (f ≡ second k a b) × AreTwo r k a b
two_told r t k n f h b = let w = two_arguments r t n (has_keyword k) (λ a b. f ≡ second k a b) h b in (w.0, w.1, w.5, (w.2, w.3, w.4))

later_in : (r : Placed) (k : Keyword) (a b : Placed) → AreTwo r k a b → Told r (At kinds.BadForm (place_of b))
later_in r k a b h = (b, refl, latter_in r a b h.0)

second_named : (k : Keyword) (r a b : Placed) → AreTwo r k a b → Told r (second k a b)
second_named keywords.View r a b h = (a, b, refl, refl, h)
second_named keywords.Design r a b h = (a, b, refl, refl, h)
second_named keywords.Edif r a b h = later_in r keywords.Edif a b h
second_named keywords.EdifVersion r a b h = later_in r keywords.EdifVersion a b h
second_named keywords.EdifLevel r a b h = later_in r keywords.EdifLevel a b h
second_named keywords.KeywordMap r a b h = later_in r keywords.KeywordMap a b h
second_named keywords.KeywordLevel r a b h = later_in r keywords.KeywordLevel a b h
second_named keywords.Library r a b h = later_in r keywords.Library a b h
second_named keywords.External r a b h = later_in r keywords.External a b h
second_named keywords.Technology r a b h = later_in r keywords.Technology a b h
second_named keywords.Cell r a b h = later_in r keywords.Cell a b h
second_named keywords.CellType r a b h = later_in r keywords.CellType a b h
second_named keywords.ViewType r a b h = later_in r keywords.ViewType a b h
second_named keywords.Interface r a b h = later_in r keywords.Interface a b h
second_named keywords.Port r a b h = later_in r keywords.Port a b h
second_named keywords.Array r a b h = later_in r keywords.Array a b h
second_named keywords.Direction r a b h = later_in r keywords.Direction a b h
second_named keywords.Designator r a b h = later_in r keywords.Designator a b h
second_named keywords.Owner r a b h = later_in r keywords.Owner a b h
second_named keywords.Contents r a b h = later_in r keywords.Contents a b h
second_named keywords.Instance r a b h = later_in r keywords.Instance a b h
second_named keywords.Net r a b h = later_in r keywords.Net a b h
second_named keywords.Joined r a b h = later_in r keywords.Joined a b h
second_named keywords.PortRef r a b h = later_in r keywords.PortRef a b h
second_named keywords.Member r a b h = later_in r keywords.Member a b h
second_named keywords.InstanceRef r a b h = later_in r keywords.InstanceRef a b h
second_named keywords.LibraryRef r a b h = later_in r keywords.LibraryRef a b h
second_named keywords.ViewRef r a b h = later_in r keywords.ViewRef a b h
second_named keywords.CellRef r a b h = later_in r keywords.CellRef a b h
second_named keywords.Property r a b h = later_in r keywords.Property a b h
second_named keywords.Boolean r a b h = later_in r keywords.Boolean a b h
second_named keywords.Integer r a b h = later_in r keywords.Integer a b h
second_named keywords.Number r a b h = later_in r keywords.Number a b h
second_named keywords.String r a b h = later_in r keywords.String a b h
second_named keywords.Rename r a b h = later_in r keywords.Rename a b h
second_named keywords.Status r a b h = later_in r keywords.Status a b h
second_named keywords.Comment r a b h = later_in r keywords.Comment a b h
second_named keywords.UserData r a b h = later_in r keywords.UserData a b h
second_named keywords.True r a b h = later_in r keywords.True a b h
second_named keywords.False r a b h = later_in r keywords.False a b h
second_named keywords.E r a b h = later_in r keywords.E a b h
second_named keywords.Path r a b h = later_in r keywords.Path a b h

second_told : (r t : Placed) (n : ℕ) (fs : List Follower) (f : MeaningFault) → IsIn r t → SecondFault fs (drop n (arguments t)) f → Told r f
second_told r t n [] f h b = absurd b
second_told r t n (Many k ∷ fs) f h b = second_told r t n fs f h b
second_told r t n (One k ∷ fs) f h (inl b) = let w = two_told r t k n f h b in at_fault r f (second k w.0 w.1) w.2 (second_named k r w.0 w.1 w.3)
second_told r t n (One k ∷ fs) f h (inr b) = second_told r t n fs f h b

pub row_told : (r : Placed) (k : Keyword) (t : Placed) (f : MeaningFault) → IsIn r t → IsTrue (has_keyword k (bare t)) → RowFault k t f → Told r f
row_told r k t f h w b = go (row k) refl b
  where
    go : (v : FormRow) → row k ≡ v → Breaches (token_kind k) v t f → Told r f
    go Skips e b = absurd b
    go (Takes choices fs) e (inl b) = fixed_told r (misplaced (token_kind k) (Takes choices fs)) t choices (arguments t) f h (λ i x g. (i, g))
        (λ u j. let n = under_there r t k u h w j in subst (λ v. Told r (misplaced (token_kind k) v u)) e (misplaced_told (token_kind k) k r u n (token_told k r u n))) b
    go (Takes choices fs) e (inr (inl b)) = follower_told r (misplaced kinds.BadForm (Takes choices fs)) t fs (length choices) f
        (λ u j. let n = under_there r t k u h w j in subst (λ v. Told r (misplaced kinds.BadForm v u)) e (misplaced_told kinds.BadForm k r u n (under_in r k u n))) b
    go (Takes choices fs) e (inr (inr b)) = second_told r t (length choices) fs f h b
