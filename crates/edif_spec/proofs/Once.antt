-- A tree means one design at most.
use Rattle.std.proofs.Common.{◌≡◌, ℕ, ℤ, pos, List, [], ◌∷◌, ◌++◌, length, refl, ap, sym, ◌∙◌, subst, inl, inr, Bool, true, false, Option, Some, None, arith}
use Rattle.std.specs.Prelude.{IsTrue}
use Rattle.edif_spelling_spec.specs.Tree.{Bare, form, word, integer, string, trees, items, Form'}
use Rattle.edif_spec.specs.Keyword.{spelling_of, same, row, FormRow, Takes, Skips}
use Rattle.edif_spec.specs.Rows.{those, is_one_of, FitsRow, IsFormOf, Each, Perhaps, EachAfter}
use Rattle.edif_spec.specs.Means.{MeansName, MeansText, MeansBoolean, MeansNumber, MeansValue, MeansProperty, MeansProperties, MeansDirection, MeansBusName, MeansPort}
use Rattle.edif_spec.specs.declared.keyword.Keyword.{Keyword}
use Rattle.edif_spec.specs.declared.keyword.Keyword.TheVariants as keywords
use Rattle.edif_spec.specs.Canonical.{direction_word}
use Rattle.edif_spec.specs.Design as design
use Rattle.netlist_schema.specs.declared.cell.Direction.TheVariants as directions
use Rattle.netlist_schema.specs.declared.property.Num.TheVariants as numbers
use Rattle.netlist_schema.specs.declared.property.Value.TheVariants as values
use Rattle.netlist_schema.proofs.Lists.{zip_length}
use Rattle.edif_spec.proofs.Groups.{agree, same_left}

pub items_trees : (ts : List Bare) → items (trees ts) ≡ ts
items_trees [] = refl
items_trees (t ∷ ts) = ap (λ v. t ∷ v) (items_trees ts)

arguments_of : Bare → List Bare
arguments_of (Form' p ts) = items ts
arguments_of t = []

pub same_arguments : (a b : List Bare) → form a ≡ form b → a ≡ b
unfolding arguments_of
same_arguments a b e = sym (items_trees a) ∙ (ap arguments_of e ∙ items_trees b)

same_split : {A : Type 0} (a b x y : List A) → length a ≡ length b → a ++ x ≡ b ++ y → (a ≡ b) × (x ≡ y)
same_split [] [] x y l e = (refl, e)
same_split [] (d ∷ b) x y l e = absurd (omega arith)
same_split (c ∷ a) [] x y l e = absurd (omega arith)
same_split (c ∷ a) (d ∷ b) x y l e = let n : length a ≡ length b = omega arith in let r : (a ≡ b) × (x ≡ y) = same_split a b x y n (cc e) in let f : c ≡ d = cc e in ((cc), r.1)

fixed_length : (r : FormRow) (f g i j : List Bare) → FitsRow r f i → FitsRow r g j → length f ≡ length g
fixed_length Skips f g i j h k = ap length (h ∙ sym k)
fixed_length (Takes cs fs) f g i j h k = sym (zip_length (λ cs t. IsTrue (is_one_of cs t)) cs f h.0) ∙ zip_length (λ cs t. IsTrue (is_one_of cs t)) cs g k.0

-- a form has its fixed arguments and its followers in one way
pub one_form : (k : Keyword) (t : Bare) (f g i j : List Bare) → IsFormOf k t f i → IsFormOf k t g j → (f ≡ g) × (i ≡ j)
one_form k t f g i j h n =
    let e : word h.spelled ∷ (f ++ i) ≡ word n.spelled ∷ (g ++ j) = same_arguments (word h.spelled ∷ (f ++ i)) (word n.spelled ∷ (g ++ j)) (sym h.is ∙ n.is) in
    same_split f g i j (fixed_length (row k) f g i j h.fits n.fits) (cc e)

-- and one keyword
pub one_keyword : (k j : Keyword) (t : Bare) (f g x y : List Bare) → IsFormOf k t f x → IsFormOf j t g y → agree k j ≡ true
one_keyword k j t f g x y h n =
    let e : word h.spelled ∷ (f ++ x) ≡ word n.spelled ∷ (g ++ y) = same_arguments (word h.spelled ∷ (f ++ x)) (word n.spelled ∷ (g ++ y)) (sym h.is ∙ n.is) in
    let w : h.spelled ≡ n.spelled = cc e in
    sym (same_left h.spelled (spelling_of k) (spelling_of j) h.keyword) ∙ (ap (λ v. same v (spelling_of j)) w ∙ n.keyword)

pub each_once : {A : Type 0} (R : Bare → A → Type 0) → ((t : Bare) (x y : A) → R t x → R t y → x ≡ y) → (ts : List Bare) (xs ys : List A) → Each R ts xs → Each R ts ys → xs ≡ ys
each_once R f [] [] [] h k = refl
each_once R f [] [] (y ∷ ys) h k = absurd k
each_once R f [] (x ∷ xs) ys h k = absurd h
each_once R f (t ∷ ts) [] ys h k = absurd h
each_once R f (t ∷ ts) (x ∷ xs) [] h k = absurd k
each_once R f (t ∷ ts) (x ∷ xs) (y ∷ ys) h k = let e : x ≡ y = f t x y h.0 k.0 in let r : xs ≡ ys = each_once R f ts xs ys h.1 k.1 in cc

pub perhaps_once : {A : Type 0} (R : Bare → A → Type 0) → ((t : Bare) (x y : A) → R t x → R t y → x ≡ y) → (ts : List Bare) (o p : Option A) → Perhaps R ts o → Perhaps R ts p → o ≡ p
perhaps_once R f [] None None h k = refl
perhaps_once R f [] None (Some y) h k = absurd k
perhaps_once R f [] (Some x) p h k = absurd h
perhaps_once R f (t ∷ []) None p h k = absurd h
perhaps_once R f (t ∷ []) (Some x) None h k = absurd k
perhaps_once R f (t ∷ []) (Some x) (Some y) h k = ap Some (f t x y h k)
perhaps_once R f (t ∷ u ∷ ts) o p h k = absurd h

pub each_after_once : {A : Type 0} (R : List A → Bare → A → Type 0) → ((b : List A) (t : Bare) (x y : A) → R b t x → R b t y → x ≡ y) → (b : List A) (ts : List Bare) (xs ys : List A) → EachAfter R b ts xs → EachAfter R b ts ys → xs ≡ ys
each_after_once R f b [] [] [] h k = refl
each_after_once R f b [] [] (y ∷ ys) h k = absurd k
each_after_once R f b [] (x ∷ xs) ys h k = absurd h
each_after_once R f b (t ∷ ts) [] ys h k = absurd h
each_after_once {A} R f b (t ∷ ts) (x ∷ xs) [] h k = absurd k
each_after_once {A} R f b (t ∷ ts) (x ∷ xs) (y ∷ ys) h k =
    let e : x ≡ y = f b t x y h.0 k.0 in
    let P : A → Type 0 = λ v. EachAfter R (b ++ v ∷ []) ts ys in
    let r : xs ≡ ys = each_after_once R f (b ++ x ∷ []) ts xs ys h.1 (subst P (sym e) k.1) in cc

-- rows
pub back : (P : Bare → Type 0) {a b : Bare} → a ≡ b → P b → P a
back P e h = subst P (sym e) h

pub lists_back : (P : List Bare → Type 0) {a b : List Bare} → a ≡ b → P b → P a
lists_back P e h = subst P (sym e) h

-- two forms of different keywords are two
pub other_keyword : (k j : Keyword) (t : Bare) (f g x y : List Bare) → agree k j ≡ false → IsFormOf k t f x → IsFormOf j t g y → ⊥
other_keyword k j t f g x y e h n = let b : agree k j ≡ true = one_keyword k j t f g x y h n in absurd (cc)

pub word_no_form : (k : Keyword) (t : Bare) (w : List ℕ) (f x : List Bare) → t ≡ word w → IsFormOf k t f x → ⊥
word_no_form k t w f x e h = let c : form (word h.spelled ∷ (f ++ x)) ≡ word w = sym h.is ∙ e in absurd (cc)

integer_no_form : (k : Keyword) (t : Bare) (z : ℤ) (f x : List Bare) → t ≡ integer z → IsFormOf k t f x → ⊥
integer_no_form k t z f x e h = let c : form (word h.spelled ∷ (f ++ x)) ≡ integer z = sym h.is ∙ e in absurd (cc)

pub name_once : (t : Bare) (x y : design.Name) → MeansName t x → MeansName t y → x ≡ y
name_once t x y (inl h) (inl k) = let w : word x.id ≡ word y.id = sym h.0 ∙ k.0 in let e : x.id ≡ y.id = cc w in let f : x.shown ≡ y.shown = h.1 ∙ sym k.1 in λ i. record { id = e i; shown = f i }
name_once t x y (inl h) (inr k) = absurd (word_no_form keywords.Rename t x.id (word y.id ∷ string k.0 ∷ []) [] h.0 k.1)
name_once t x y (inr h) (inl k) = absurd (word_no_form keywords.Rename t y.id (word x.id ∷ string h.0 ∷ []) [] k.0 h.1)
name_once t x y (inr h) (inr k) =
    let e = one_form keywords.Rename t (word x.id ∷ string h.0 ∷ []) (word y.id ∷ string k.0 ∷ []) [] [] h.1 k.1 in
    let w : word x.id ∷ string h.0 ∷ [] ≡ word y.id ∷ string k.0 ∷ [] = e.0 in
    let a : x.id ≡ y.id = cc w in
    let b : h.0 ≡ k.0 = cc w in
    let f : x.shown ≡ y.shown = h.2 ∙ (ap Some b ∙ sym k.2) in
    λ i. record { id = a i; shown = f i }

pub text_once : (k : Keyword) (t : Bare) (x y : List ℕ) → MeansText k t x → MeansText k t y → x ≡ y
text_once k t x y h n = let e = one_form k t (string x ∷ []) (string y ∷ []) [] [] h n in let f : string x ∷ [] ≡ string y ∷ [] = e.0 in cc f

boolean_once : (t : Bare) (x y : Bool) → MeansBoolean t x → MeansBoolean t y → x ≡ y
boolean_once t true true h k = refl
boolean_once t false false h k = refl
boolean_once t true false h k = absurd (other_keyword keywords.True keywords.False t [] [] [] [] refl h k)
boolean_once t false true h k = absurd (other_keyword keywords.False keywords.True t [] [] [] [] refl h k)

number_once : (t : Bare) (x y : design.Num) → MeansNumber t x → MeansNumber t y → x ≡ y
number_once t (numbers.Int a) (numbers.Int b) h k = let w : integer a ≡ integer b = sym h ∙ k in let e : a ≡ b = cc w in ap (λ v. numbers.Int v) e
number_once t (numbers.Int a) (numbers.Scaled m x) h k = absurd (integer_no_form keywords.E t a (integer m ∷ integer x ∷ []) [] h k.0)
number_once t (numbers.Scaled m x) (numbers.Int a) h k = absurd (integer_no_form keywords.E t a (integer m ∷ integer x ∷ []) [] k h.0)
number_once t (numbers.Scaled m x) (numbers.Scaled n y) h k =
    let e = one_form keywords.E t (integer m ∷ integer x ∷ []) (integer n ∷ integer y ∷ []) [] [] h.0 k.0 in
    let w : integer m ∷ integer x ∷ [] ≡ integer n ∷ integer y ∷ [] = e.0 in let a : m ≡ n = cc w in let b : x ≡ y = cc w in cc

pub first_of : {a b : Bare} → a ∷ [] ≡ b ∷ [] → a ≡ b
first_of e = cc e

value_once : (t : Bare) (x y : design.Value) → MeansValue t x → MeansValue t y → x ≡ y
value_once t (values.Boolean a) (values.Boolean b) h k =
    let e = one_form keywords.Boolean t (h.0 ∷ []) (k.0 ∷ []) [] [] h.1 k.1 in
    ap (λ v. values.Boolean v) (boolean_once h.0 a b h.2 (back (λ v. MeansBoolean v b) (first_of e.0) k.2))
value_once t (values.Integer a) (values.Integer b) h k =
    let e = one_form keywords.Integer t (integer a ∷ []) (integer b ∷ []) [] [] h k in let w : integer a ∷ [] ≡ integer b ∷ [] = e.0 in let f : a ≡ b = cc w in ap (λ v. values.Integer v) f
value_once t (values.Number a) (values.Number b) h k =
    let e = one_form keywords.Number t (h.0 ∷ []) (k.0 ∷ []) [] [] h.1 k.1 in
    ap (λ v. values.Number v) (number_once h.0 a b h.2 (back (λ v. MeansNumber v b) (first_of e.0) k.2))
value_once t (values.Text a) (values.Text b) h k = ap (λ v. values.Text v) (text_once keywords.String t a b h k)
value_once t (values.Boolean a) (values.Integer b) h k = absurd (other_keyword keywords.Boolean keywords.Integer t (h.0 ∷ []) (integer b ∷ []) [] [] refl h.1 k)
value_once t (values.Boolean a) (values.Number b) h k = absurd (other_keyword keywords.Boolean keywords.Number t (h.0 ∷ []) (k.0 ∷ []) [] [] refl h.1 k.1)
value_once t (values.Boolean a) (values.Text b) h k = absurd (other_keyword keywords.Boolean keywords.String t (h.0 ∷ []) (string b ∷ []) [] [] refl h.1 k)
value_once t (values.Integer a) (values.Boolean b) h k = absurd (other_keyword keywords.Integer keywords.Boolean t (integer a ∷ []) (k.0 ∷ []) [] [] refl h k.1)
value_once t (values.Integer a) (values.Number b) h k = absurd (other_keyword keywords.Integer keywords.Number t (integer a ∷ []) (k.0 ∷ []) [] [] refl h k.1)
value_once t (values.Integer a) (values.Text b) h k = absurd (other_keyword keywords.Integer keywords.String t (integer a ∷ []) (string b ∷ []) [] [] refl h k)
value_once t (values.Number a) (values.Boolean b) h k = absurd (other_keyword keywords.Number keywords.Boolean t (h.0 ∷ []) (k.0 ∷ []) [] [] refl h.1 k.1)
value_once t (values.Number a) (values.Integer b) h k = absurd (other_keyword keywords.Number keywords.Integer t (h.0 ∷ []) (integer b ∷ []) [] [] refl h.1 k)
value_once t (values.Number a) (values.Text b) h k = absurd (other_keyword keywords.Number keywords.String t (h.0 ∷ []) (string b ∷ []) [] [] refl h.1 k)
value_once t (values.Text a) (values.Boolean b) h k = absurd (other_keyword keywords.String keywords.Boolean t (string a ∷ []) (k.0 ∷ []) [] [] refl h k.1)
value_once t (values.Text a) (values.Integer b) h k = absurd (other_keyword keywords.String keywords.Integer t (string a ∷ []) (integer b ∷ []) [] [] refl h k)
value_once t (values.Text a) (values.Number b) h k = absurd (other_keyword keywords.String keywords.Number t (string a ∷ []) (k.0 ∷ []) [] [] refl h k.1)

-- a field of a row that is the meaning of those of a keyword
pub perhaps_same : {A : Type 0} (R : Bare → A → Type 0) → ((t : Bare) (x y : A) → R t x → R t y → x ≡ y) → (k : Keyword) (i j : List Bare) (o p : Option A) → i ≡ j → Perhaps R (those k i) o → Perhaps R (those k j) p → o ≡ p
perhaps_same R f k i j o p e h n = perhaps_once R f (those k i) o p h (lists_back (λ v. Perhaps R (those k v) p) e n)

pub each_same : {A : Type 0} (R : Bare → A → Type 0) → ((t : Bare) (x y : A) → R t x → R t y → x ≡ y) → (k : Keyword) (i j : List Bare) (xs ys : List A) → i ≡ j → Each R (those k i) xs → Each R (those k j) ys → xs ≡ ys
each_same R f k i j xs ys e h n = each_once R f (those k i) xs ys h (lists_back (λ v. Each R (those k v) ys) e n)

pub property_once : (t : Bare) (p q : design.Property) → MeansProperty t p → MeansProperty t q → p ≡ q
property_once t p q h k =
    let e = one_form keywords.Property t (h.key_part ∷ h.value_part ∷ []) (k.key_part ∷ k.value_part ∷ []) h.inner k.inner h.form k.form in
    let w : h.key_part ∷ h.value_part ∷ [] ≡ k.key_part ∷ k.value_part ∷ [] = e.0 in
    let a : h.key_part ≡ k.key_part = cc w in
    let b : h.value_part ≡ k.value_part = cc w in
    let key : p.key ≡ q.key = name_once h.key_part p.key q.key h.key (back (λ v. MeansName v q.key) a k.key) in
    let value : p.value ≡ q.value = value_once h.value_part p.value q.value h.value (back (λ v. MeansValue v q.value) b k.value) in
    let owner : p.owner ≡ q.owner = perhaps_same (MeansText keywords.Owner) (text_once keywords.Owner) keywords.Owner h.inner k.inner p.owner q.owner e.1 h.owner k.owner in
    λ i. record { key = key i; value = value i; owner = owner i }

pub properties_once : (i j : List Bare) (ps qs : List design.Property) → i ≡ j → MeansProperties i ps → MeansProperties j qs → ps ≡ qs
properties_once i j ps qs e h k = each_same MeansProperty property_once keywords.Property i j ps qs e h k

direction_once : (t : Bare) (x y : design.Direction) → MeansDirection t x → MeansDirection t y → x ≡ y
direction_once t x y h k =
    let e = one_form keywords.Direction t (word h.0 ∷ []) (word k.0 ∷ []) [] [] h.1 k.1 in
    let w : word h.0 ∷ [] ≡ word k.0 ∷ [] = e.0 in
    let f : h.0 ≡ k.0 = cc w in
    words x y (sym (same_left h.0 (direction_word x) (direction_word y) h.2) ∙ (ap (λ v. same v (direction_word y)) f ∙ k.2))
  where
    words : (x y : design.Direction) → same (direction_word x) (direction_word y) ≡ true → x ≡ y
    words directions.Input directions.Input b = refl
    words directions.Output directions.Output b = refl
    words directions.Inout directions.Inout b = refl
    words directions.Input directions.Output b = absurd (cc b)
    words directions.Input directions.Inout b = absurd (cc b)
    words directions.Output directions.Input b = absurd (cc b)
    words directions.Output directions.Inout b = absurd (cc b)
    words directions.Inout directions.Input b = absurd (cc b)
    words directions.Inout directions.Output b = absurd (cc b)

array_no_name : (t : Bare) (x : design.Name) (n : ℕ) (u : Bare) → MeansName t x → IsFormOf keywords.Array t (u ∷ integer (pos n) ∷ []) [] → ⊥
array_no_name t x n u (inl h) k = word_no_form keywords.Array t x.id (u ∷ integer (pos n) ∷ []) [] h.0 k
array_no_name t x n u (inr h) k = other_keyword keywords.Rename keywords.Array t (word x.id ∷ string h.0 ∷ []) (u ∷ integer (pos n) ∷ []) [] [] refl h.1 k

pub port_name_once : (t : Bare) (x y : design.Name) (o p : Option ℕ) → MeansBusName t x o → MeansBusName t y p → (x ≡ y) × (o ≡ p)
port_name_once t x y None None h k = (name_once t x y h k, refl)
port_name_once t x y (Some m) (Some n) h k =
    let e = one_form keywords.Array t (h.0 ∷ integer (pos m) ∷ []) (k.0 ∷ integer (pos n) ∷ []) [] [] h.1 k.1 in
    let w : h.0 ∷ integer (pos m) ∷ [] ≡ k.0 ∷ integer (pos n) ∷ [] = e.0 in
    let a : h.0 ≡ k.0 = cc w in
    let b : m ≡ n = cc w in
    (name_once h.0 x y h.2 (back (λ v. MeansName v y) a k.2), ap Some b)
port_name_once t x y None (Some n) h k = absurd (array_no_name t x n k.0 h k.1)
port_name_once t x y (Some n) None h k = absurd (array_no_name t y n h.0 k h.1)

pub port_once : (t : Bare) (p q : design.Port) → MeansPort t p → MeansPort t q → p ≡ q
port_once t p q h k =
    let e = one_form keywords.Port t (h.name_part ∷ []) (k.name_part ∷ []) h.inner k.inner h.form k.form in
    let n = port_name_once h.name_part p.name q.name p.array q.array h.name (back (λ v. MeansBusName v q.name q.array) (first_of e.0) k.name) in
    let d : p.direction ≡ q.direction = perhaps_same MeansDirection direction_once keywords.Direction h.inner k.inner p.direction q.direction e.1 h.direction k.direction in
    let s : p.designator ≡ q.designator = perhaps_same (MeansText keywords.Designator) (text_once keywords.Designator) keywords.Designator h.inner k.inner p.designator q.designator e.1 h.designator k.designator in
    let ps : p.properties ≡ q.properties = properties_once h.inner k.inner p.properties q.properties e.1 h.properties k.properties in
    λ i. record { name = n.0 i; array = n.1 i; direction = d i; designator = s i; properties = ps i }
