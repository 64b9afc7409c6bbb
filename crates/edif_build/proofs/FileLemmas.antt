-- The form of a file: its design, its libraries and its top.
use Rattle.std.proofs.Common.{◌≡◌, ℕ, zero, suc, ◌+◌, ◌<◌, ◌≤◌, List, [], ◌∷◌, ◌++◌, map, length, take, drop, refl, ap, sym, ◌∙◌, subst, inl, inr, Bool, true, false, Option, Some, None, arith, append-nil, add-one}
use Rattle.std.specs.Prelude.{IsTrue, cond, slice_get, ◌||◌}
use Rattle.std.proofs.lemmas.Option.{slice_get_within}
use Rattle.std.proofs.lemmas.List.{length-map}
use Rattle.edif_spelling_spec.specs.Tree.{Bare, Placed, bare}
use Rattle.edif_spec.specs.Keyword.{row}
use Rattle.edif_spec.specs.Rows.{EachAfter, has_keyword}
use Rattle.edif_spec.specs.Means.{MeansLibrary, is_library}
use Rattle.edif_spec.specs.Faults.{AtTwo, arguments, fixed_count, followers, place_of, those_of}
use Rattle.edif_spec.specs.Stands.{DesignFault, Stands, before_the_design, libraries}
use Rattle.edif_spec.specs.Stands as stands
use Rattle.edif_spec.specs.declared.keyword.Keyword.TheVariants as keywords
use Rattle.edif_spec.specs.declared.fault.ClashKind.TheVariants.{SecondDesign}
use Rattle.edif_spec.specs.declared.fault.MeaningFault.{MeaningFault}
use Rattle.edif_spec.specs.declared.fault.MeaningFault.TheVariants.{Clash}
use Rattle.edif_spec.proofs.FileFaultsApart.{front_after}
use Rattle.edif_spec.proofs.KnownForms.{form_choice}
use Rattle.edif_spec.proofs.Once.{each_after_once}
use Rattle.edif_spec.proofs.OnceFile.{library_once}
use Rattle.edif_tree.specs.Nodes as nodes
use Rattle.edif_tree.specs.Handles.{all}
use Rattle.edif_build.specs.Files.{DesignAt, FollowersFail, HasFixed, ReadFollowers, ReadRoot, SecondDesigns}
use Rattle.edif_grammar.specs.Forms.{Fails, HasParts}
use Rattle.edif_contents.specs.Known.{KnownLibs}
use Rattle.edif_build.specs.Libraries.{FailsIn, LibsAre, LibsFail}
use Rattle.edif_build.specs.Notes.{ReadTop}
use Rattle.edif_grammar.specs.declared.lent.Form.{Form}
use Rattle.edif_build.specs.declared.top.Top.{Top}
use Rattle.edif_grammar.proofs.FormLemmas.{fit_edif, own}
use Rattle.edif_grammar.proofs.KeywordLemmas.{breach, fits_as, keyword_is, one_keyword}
use Rattle.edif_parts.proofs.NameLists.{none_distinct}
use Rattle.edif_grammar.proofs.Misplaced.{place_is}
use Rattle.edif_parts.proofs.Steps.{those_here, those_keep, those_skip}

-- the design so far
abbrev pub FoundSo : List Placed → ℕ → Option ℕ → Type 0
FoundSo ts i None = those_of keywords.Design (take i ts) ≡ []
FoundSo ts i (Some j) = (t : Placed) × (slice_get ts j ≡ Some t) × (those_of keywords.Design (take j ts) ≡ []) × (those_of keywords.Design (take i ts) ≡ t ∷ []) × (j < i)

-- those before the next form, and it
taken : (ts : List Placed) (i : ℕ) (t : Placed) → slice_get ts i ≡ Some t → take (suc i) ts ≡ take i ts ++ t ∷ []
taken [] i t g = absurd (cc g)
taken (u ∷ ts) zero t g = let w : u ≡ t = cc g in ap (λ v. v ∷ []) w
taken (u ∷ ts) (suc i) t g = ap (λ v. u ∷ v) (taken ts i t g)

parted_at : (ts : List Placed) (i : ℕ) (t : Placed) → slice_get ts i ≡ Some t → ts ≡ take i ts ++ t ∷ drop (suc i) ts
parted_at [] i t g = absurd (cc g)
parted_at (u ∷ ts) zero t g = let w : u ≡ t = cc g in ap (λ v. v ∷ ts) w
parted_at (u ∷ ts) (suc i) t g = ap (λ v. u ∷ v) (parted_at ts i t g)

pub design_skipped : (ts : List Placed) (i : ℕ) (t : Placed) (o : Option ℕ) → slice_get ts i ≡ Some t → has_keyword keywords.Design (bare t) ≡ false → FoundSo ts i o → FoundSo ts (suc i) o
design_skipped ts i t None g n h = ap (those_of keywords.Design) (taken ts i t g) ∙ those_skip keywords.Design (take i ts) t n ∙ h
design_skipped ts i t (Some j) g n h = let l : j < i = h.4 in (h.0, h.1, h.2, ap (those_of keywords.Design) (taken ts i t g) ∙ those_skip keywords.Design (take i ts) t n ∙ h.3, omega (arith, l))

pub design_here : (ts : List Placed) (i : ℕ) (t : Placed) → slice_get ts i ≡ Some t → has_keyword keywords.Design (bare t) ≡ true → FoundSo ts i None → FoundSo ts (suc i) (Some i)
design_here ts i t g h e = (t, g, e, ap (those_of keywords.Design) (taken ts i t g) ∙ those_keep keywords.Design (take i ts) t h ∙ ap (λ v. v ++ t ∷ []) e, omega arith)

pub design_again : (ts : List Placed) (i j place earlier : ℕ) (t u : Placed) → slice_get ts i ≡ Some t → has_keyword keywords.Design (bare t) ≡ true → FoundSo ts i (Some j) → slice_get ts j ≡ Some u → place ≡ nodes.place_of t → earlier ≡ nodes.place_of u
    → SecondDesigns ts (Clash SecondDesign place earlier)
design_again ts i j place earlier t u g k h n p q =
    let w : those_of keywords.Design ts ≡ h.0 ∷ t ∷ those_of keywords.Design (drop (suc i) ts) = ap (those_of keywords.Design) (parted_at ts i t g) ∙ those_here keywords.Design (take i ts) (drop (suc i) ts) t k ∙ ap (λ v. v ++ t ∷ those_of keywords.Design (drop (suc i) ts)) h.3 in
    let same : u ≡ h.0 = (let e : Some u ≡ Some h.0 = sym n ∙ h.1 in cc e) in
    let a : place ≡ place_of t = p ∙ place_is t in
    let b : earlier ≡ place_of h.0 = q ∙ place_is u ∙ ap place_of same in
    let P : List Placed → Type 0 = λ v. AtTwo (λ x y. Clash SecondDesign place earlier ≡ Clash SecondDesign (place_of y) (place_of x)) v in
    subst P (sym w) (inl (inl (λ j. Clash SecondDesign (a j) (b j))))

-- where a design was found, there is a form
pub found_below : (ts : List Placed) (i j : ℕ) → FoundSo ts i (Some j) → j < length ts
found_below ts i j h = slice_get_within ts j h.0 h.1

pub design_at : (ts : List Placed) (i : ℕ) (o : Option ℕ) → take i ts ≡ ts → FoundSo ts i o → DesignAt ts o
design_at ts i None e h = ap (those_of keywords.Design) (sym e) ∙ h
design_at ts i (Some j) e h = (h.0, h.1, h.2, ap (those_of keywords.Design) (sym e) ∙ h.3)

-- the form at the root
edif_choice : (b : Bool) → (((b || false) || false) || false) ≡ true → b ≡ true
edif_choice true h = refl
edif_choice false h = absurd (cc h)

pub root_is : (t : Placed) (p : Form) → HasParts None t p → ReadRoot t p
root_is t p h =
    let k : has_keyword keywords.Edif (bare t) ≡ true = edif_choice (has_keyword keywords.Edif (bare t)) h.fits.allowed in
    let e : p.keyword ≡ keywords.Edif = keyword_is None p.keyword keywords.Edif t h.fits k in
    record { fits = fits_as None p.keyword keywords.Edif t h.fits k; fixed = h.fixed ∙ ap (λ v. take (fixed_count (row v)) (arguments t)) e; inner = h.inner ∙ ap (λ v. followers v t) e }

pub root_fails : (t : Placed) (f : MeaningFault) → Fails None t f → Stands t f
root_fails t f h = go (has_keyword keywords.Edif (bare t)) refl
  where
    go : (b : Bool) → has_keyword keywords.Edif (bare t) ≡ b → Stands t f
    go true e = stands.in_file e (stands.edif_row (breach None keywords.Edif t f refl e h))
    go false e = elim h [ inl b ↦ stands.no_file e b.1 | inr b ↦ absurd (cc (sym e ∙ edif_choice (has_keyword keywords.Edif (bare t)) b.3)) ]

pub second_stands : (t : Placed) (f : MeaningFault) → IsTrue (has_keyword keywords.Edif (bare t)) → SecondDesigns (followers keywords.Edif t) f → Stands t f
second_stands t f k b = stands.in_file k (stands.edif_row (inr (inr (inl b))))

at_most_one : (ts : List Placed) (o : Option ℕ) → DesignAt ts o → length (those_of keywords.Design ts) ≤ 1
at_most_one ts None h = let l : length (those_of keywords.Design ts) ≡ 0 = ap length h in omega (arith, l)
at_most_one ts (Some i) h = let l : length (those_of keywords.Design ts) ≡ 1 = ap length h.3 in omega (arith, l)

pub fixed_has : (t : Placed) (p : Form) (o : Option ℕ) → ReadRoot t p → DesignAt (followers keywords.Edif t) o → HasFixed t (all p.fixed)
fixed_has t p o r d =
    let f = fit_edif t (own None keywords.Edif t r.fits) (at_most_one (followers keywords.Edif t) o d) in
    record {
      a = f.a;
      b = f.b;
      x = f.x;
      y = f.y;
      at_a = f.at_a;
      at_b = f.at_b;
      at_x = f.at_x;
      at_y = f.at_y;
      is_a = f.is_a;
      is_b = form_choice keywords.EdifVersion f.b f.is_b;
      is_x = form_choice keywords.EdifLevel f.x f.is_x;
      is_y = form_choice keywords.KeywordMap f.y f.is_y;
      form = f.form;
      are = r.fixed ∙ f.fixed;
    }

-- what stands before the design
front_of : (ts : List Placed) (i : ℕ) (t : Placed) → slice_get ts i ≡ Some t → has_keyword keywords.Design (bare t) ≡ true → those_of keywords.Design (take i ts) ≡ [] → before_the_design ts ≡ take i ts
front_of [] i t g h e = absurd (cc g)
front_of (u ∷ ts) zero t g h e = let w : u ≡ t = cc g in let k : has_keyword keywords.Design (bare u) ≡ true = ap (λ v. has_keyword keywords.Design (bare v)) w ∙ h in ap (λ b. cond b [] (u ∷ before_the_design ts)) k
front_of (u ∷ ts) (suc i) t g h e = go (has_keyword keywords.Design (bare u)) refl e (λ d. front_of ts i t g h d)
  where
    go : (b : Bool) → has_keyword keywords.Design (bare u) ≡ b → cond b (u ∷ those_of keywords.Design (take i ts)) (those_of keywords.Design (take i ts)) ≡ [] → (those_of keywords.Design (take i ts) ≡ [] → before_the_design ts ≡ take i ts) → before_the_design (u ∷ ts) ≡ u ∷ take i ts
    go true k e f = absurd (cc e)
    go false k e f = ap (λ b. cond b [] (u ∷ before_the_design ts)) k ∙ ap (λ v. u ∷ v) (f e)

-- the design is a design
in_designs : (ts : List Placed) (t : Placed) (us : List Placed) → those_of keywords.Design ts ≡ t ∷ us → has_keyword keywords.Design (bare t) ≡ true
in_designs [] t us e = absurd (cc e)
in_designs (u ∷ ts) t us e = go (has_keyword keywords.Design (bare u)) refl e (λ d. in_designs ts t us d)
  where
    go : (b : Bool) → has_keyword keywords.Design (bare u) ≡ b → cond b (u ∷ those_of keywords.Design ts) (those_of keywords.Design ts) ≡ t ∷ us → (those_of keywords.Design ts ≡ t ∷ us → has_keyword keywords.Design (bare t) ≡ true) → has_keyword keywords.Design (bare t) ≡ true
    go true k e f = let w : u ≡ t = cc e in let P : Placed → Type 0 = λ v. has_keyword keywords.Design (bare v) ≡ true in subst P w k
    go false k e f = f e

pub is_design : (ts : List Placed) (i : ℕ) (d : DesignAt ts (Some i)) → has_keyword keywords.Design (bare d.0) ≡ true
is_design ts i d = in_designs ts d.0 [] d.3

-- and no library
no_library : (t : Bare) → has_keyword keywords.Design t ≡ true → is_library t ≡ false
no_library t h = go (has_keyword keywords.Library t) refl (has_keyword keywords.External t) refl
  where
    go : (a : Bool) → has_keyword keywords.Library t ≡ a → (b : Bool) → has_keyword keywords.External t ≡ b → is_library t ≡ false
    go true e b f = let w : keywords.Library ≡ keywords.Design = one_keyword keywords.Library keywords.Design t e h in absurd (cc w)
    go false e true f = let w : keywords.External ≡ keywords.Design = one_keyword keywords.External keywords.Design t f h in absurd (cc w)
    go false e false f = (λ i. e i || f i)

parted : (ts : List Placed) (i : ℕ) (t : Placed) → slice_get ts i ≡ Some t → is_library (bare t) ≡ false → libraries ts ≡ libraries (take i ts) ++ libraries (drop (suc i) ts)
parted [] i t g n = absurd (cc g)
parted (u ∷ ts) zero t g n = let w : u ≡ t = cc g in let k : is_library (bare u) ≡ false = ap (λ v. is_library (bare v)) w ∙ n in ap (λ b. cond b (u ∷ libraries ts) (libraries ts)) k
parted (u ∷ ts) (suc i) t g n = go (is_library (bare u)) (parted ts i t g n)
  where
    go : (b : Bool) → libraries ts ≡ libraries (take i ts) ++ libraries (drop (suc i) ts) → cond b (u ∷ libraries ts) (libraries ts) ≡ cond b (u ∷ libraries (take i ts)) (libraries (take i ts)) ++ libraries (drop (suc i) ts)
    go true e = ap (λ v. u ∷ v) e
    go false e = e

-- the libraries round the design
pub libraries_round : (ts : List Placed) (i : ℕ) → DesignAt ts (Some i) → libraries ts ≡ libraries (take i ts) ++ libraries (drop (i + 1) ts)
libraries_round ts i d = parted ts i d.0 d.1 (no_library (bare d.0) (is_design ts i d)) ∙ ap (λ n. libraries (take i ts) ++ libraries (drop n ts)) (sym (add-one i))

pub libraries_front : (ts : List Placed) (i : ℕ) → DesignAt ts (Some i) → libraries (before_the_design ts) ≡ libraries (take i ts)
libraries_front ts i d = ap libraries (front_of ts i d.0 d.1 (is_design ts i d) d.2)

-- faults there
pub fails_all : (us : List Placed) (f : MeaningFault) → FailsIn LibsFail us f → LibsFail us f
fails_all us f b = let P : List Placed → Type 0 = λ v. LibsFail v f in subst P (append-nil us) (b [])

pub fails_front : (ts : List Placed) (i : ℕ) (f : MeaningFault) → DesignAt ts (Some i) → FailsIn LibsFail (libraries (take i ts)) f → FollowersFail ts f
fails_front ts i f d b = let P : List Placed → Type 0 = λ v. LibsFail v f in inl (subst P (sym (libraries_round ts i d)) (b (libraries (drop (i + 1) ts))))

pub fails_back : (ts : List Placed) (i : ℕ) (f : MeaningFault) → DesignAt ts (Some i) → FailsIn LibsFail (libraries (take i ts) ++ libraries (drop (i + 1) ts)) f → FollowersFail ts f
fails_back ts i f d b = let P : List Placed → Type 0 = λ v. LibsFail v f in inl (subst P (sym (libraries_round ts i d)) (fails_all (libraries (take i ts) ++ libraries (drop (i + 1) ts)) f b))

pub fails_design : (ts : List Placed) (i : ℕ) (before : KnownLibs) (f : MeaningFault) → (d : DesignAt ts (Some i)) → LibsAre (libraries (take i ts)) before → DesignFault before.libs d.0 f → FollowersFail ts f
fails_design ts i before f d h b =
    let P : List Placed → Type 0 = λ v. LibsAre v before in
    inr (before, subst P (sym (libraries_front ts i d)) h, d.0, ap (λ v. slice_get v 0) d.3, b)

-- the libraries before the design are the first of all
first_libs : (us vs : List Placed) (before known : KnownLibs) → LibsAre us before → LibsAre (us ++ vs) known → before.libs ≡ take (length us) known.libs
first_libs us vs before known h k =
    let P : List Bare → Type 0 = λ v. EachAfter MeansLibrary [] v known.libs in
    let e : map bare (us ++ vs) ≡ map bare us ++ map bare vs = both us in
    let f = front_after MeansLibrary [] (map bare us) (map bare vs) known.libs (subst P e k.mean) in
    let n : length (map bare us) ≡ length us = length-map us bare in
    each_after_once MeansLibrary library_once [] (map bare us) before.libs (take (length us) known.libs) h.mean (let Q : ℕ → Type 0 = λ v. EachAfter MeansLibrary [] (map bare us) (take v known.libs) in subst Q n f)
  where
    both : (us : List Placed) → map bare (us ++ vs) ≡ map bare us ++ map bare vs
    both [] = refl
    both (u ∷ us) = ap (λ v. bare u ∷ v) (both us)

pub followers_read : (ts : List Placed) (i : ℕ) (before known : KnownLibs) (x : Top) → (d : DesignAt ts (Some i)) → LibsAre (libraries (take i ts)) before → ReadTop before.libs d.0 x → LibsAre (libraries (take i ts) ++ libraries (drop (i + 1) ts)) known
    → ReadFollowers ts known (Some x)
followers_read ts i before known x d h r k =
    let P : List Placed → Type 0 = λ v. LibsAre v known in
    let Q : List Placed → Type 0 = λ v. LibsAre v before in
    let R : List Placed → Type 0 = λ v. before.libs ≡ take (length v) known.libs in
    let e = sym (libraries_front ts i d) in
    record {
      libs = subst P (sym (libraries_round ts i d)) k;
      top = (d.0, before, d.3, subst Q e h, subst R e (first_libs (libraries (take i ts)) (libraries (drop (i + 1) ts)) before known h k), r);
    }

-- what is wrong with the followers is wrong with the file
pub followers_stand : (t : Placed) (f : MeaningFault) → IsTrue (has_keyword keywords.Edif (bare t)) → FollowersFail (followers keywords.Edif t) f → Stands t f
followers_stand t f k (inl (inl b)) = stands.in_file k (stands.edif_library b)
followers_stand t f k (inl (inr (inl b))) = stands.in_file k (stands.library_again b)
followers_stand t f k (inl (inr (inr b))) = stands.in_file k (stands.many_libraries b)
followers_stand t f k (inr b) = stands.in_file k (stands.edif_design (record { libs = b.0.libs; means = b.1.mean; first = b.2; there = b.3; fault = b.4 }))

-- no libraries yet
pub no_libraries : (known : KnownLibs) → known ≡ record { libs = []; lib_names = []; cell_names = [] } → LibsAre [] known
no_libraries known e =
    let P : KnownLibs → Type 0 = λ v. LibsAre [] v in
    subst P (sym e) (record { mean = tt; sound = tt; define = tt; names = refl; distinct = none_distinct; count = omega arith })
