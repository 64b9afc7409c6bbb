-- Followers in groups, each of one keyword: what those of a keyword are, and whether a row allows them.
use Rattle.std.proofs.Common.{◌≡◌, ℕ, List, [], ◌∷◌, ◌++◌, refl, ap, sym, ◌∙◌, subst, Bool, true, false, arith, append-nil}
use Rattle.std.specs.Prelude.{IsTrue, cond, ◌&&◌, ◌||◌, filter, nat_eq}
use Rattle.std.specs.List.{list_all, AllByRecursion}
use Rattle.std.proofs.lemmas.Bool.Decides.{nat_tests}
use Rattle.std.proofs.lemmas.List.Elements.{filter-append}
use Rattle.std.specs.Char.{to_ascii_lowercase}
use Rattle.edif_spelling_spec.specs.Tree.{Bare, Form', Word', Integer', String', End, More}
use Rattle.edif_spec.specs.Rows.{has_keyword, those, is_follower}
use Rattle.edif_spec.specs.Keyword.{Follower, Many, One, same, spelling_of}
use Rattle.edif_spec.specs.declared.keyword.Keyword.{Keyword}
use Rattle.edif_spec.proofs.Both.{both, and_true}
use Rattle.edif_spec.proofs.Followers.{both_pass}

abbrev pub joined : List (Keyword × List Bare) → List Bare
joined [] = []
joined (g ∷ []) = g.1
joined (g ∷ h ∷ gs) = g.1 ++ joined (h ∷ gs)

abbrev pub Grouped : List (Keyword × List Bare) → Type 0
Grouped gs = AllByRecursion (λ g. IsTrue (list_all (has_keyword g.0) g.1)) gs

abbrev pub agree : Keyword → Keyword → Bool
agree j k = same (spelling_of j) (spelling_of k)

joined_cons : (g : Keyword × List Bare) (gs : List (Keyword × List Bare)) → joined (g ∷ gs) ≡ g.1 ++ joined gs
joined_cons g [] = sym (append-nil g.1)
joined_cons g (h ∷ gs) = refl

same_byte : (x y z : ℕ) → nat_eq x y ≡ true → nat_eq x z ≡ nat_eq y z
same_byte x y z h = let e : x ≡ y = grind (arith, nat_tests) in ap (λ v. nat_eq v z) e

pub same_left : (a b c : List ℕ) → same a b ≡ true → same a c ≡ same b c
same_left [] [] c h = refl
same_left [] (y ∷ b) c h = absurd (cc h)
same_left (x ∷ a) [] c h = absurd (cc h)
same_left (x ∷ a) (y ∷ b) [] h = refl
same_left (x ∷ a) (y ∷ b) (z ∷ c) h = let t = both (nat_eq (to_ascii_lowercase x) (to_ascii_lowercase y)) (same a b) h in
    ap (λ v. v && same a c) (same_byte (to_ascii_lowercase x) (to_ascii_lowercase y) (to_ascii_lowercase z) t.0) ∙ ap (λ v. nat_eq (to_ascii_lowercase y) (to_ascii_lowercase z) && v) (same_left a b c t.1)

pub keyword_of_group : (k j : Keyword) (t : Bare) → has_keyword k t ≡ true → has_keyword j t ≡ agree k j
keyword_of_group k j (Form' p End) h = absurd (cc h)
keyword_of_group k j (Form' p (More (Form' q us) ts)) h = absurd (cc h)
keyword_of_group k j (Form' p (More (Word' q name) ts)) h = same_left name (spelling_of k) (spelling_of j) h
keyword_of_group k j (Form' p (More (Integer' q z) ts)) h = absurd (cc h)
keyword_of_group k j (Form' p (More (String' q s) ts)) h = absurd (cc h)
keyword_of_group k j (Word' p name) h = absurd (cc h)
keyword_of_group k j (Integer' p z) h = absurd (cc h)
keyword_of_group k j (String' p s) h = absurd (cc h)

those_group : (k j : Keyword) (ts : List Bare) → IsTrue (list_all (has_keyword k) ts) → those j ts ≡ cond (agree k j) ts []
those_group k j [] h = go (agree k j)
  where
    go : (b : Bool) → (let none : List Bare = [] in none ≡ cond b none none)
    go true = refl
    go false = refl
those_group k j (t ∷ ts) h =
    let f = both (has_keyword k t) (list_all (has_keyword k) ts) h in
    ap (λ b. cond b (t ∷ those j ts) (those j ts)) (keyword_of_group k j t f.0) ∙ (ap (λ v. cond (agree k j) (t ∷ v) v) (those_group k j ts f.1) ∙ go (agree k j))
  where
    go : (b : Bool) → cond b (t ∷ cond b ts []) (cond b ts []) ≡ cond b (t ∷ ts) []
    go true = refl
    go false = refl

pub those_joined : (j : Keyword) (gs : List (Keyword × List Bare)) → Grouped gs → those j (joined gs) ≡ joined (filter (λ g. agree g.0 j) gs)
those_joined j [] h = refl
those_joined j (g ∷ gs) h =
    ap (those j) (joined_cons g gs) ∙ (filter-append (has_keyword j) g.1 (joined gs)
    ∙ (ap (λ v. v ++ those j (joined gs)) (those_group g.0 j g.1 h.0) ∙ (ap (λ v. cond (agree g.0 j) g.1 [] ++ v) (those_joined j gs h.1) ∙ go (agree g.0 j))))
  where
    rest : List (Keyword × List Bare)
    rest = filter (λ f. agree f.0 j) gs

    go : (b : Bool) → cond b g.1 [] ++ joined rest ≡ joined (cond b (g ∷ rest) rest)
    go true = sym (joined_cons g rest)
    go false = refl

-- a row allows the keyword of a group
abbrev pub allows : List Follower → Keyword → Bool
allows [] k = false
allows (Many j ∷ fs) k = agree k j || allows fs k
allows (One j ∷ fs) k = agree k j || allows fs k

follows_if : (fs : List Follower) (k : Keyword) (t : Bare) → has_keyword k t ≡ true → is_follower fs t ≡ allows fs k
follows_if [] k t h = refl
follows_if (Many j ∷ fs) k t h = ap (λ b. b || is_follower fs t) (keyword_of_group k j t h) ∙ ap (λ b. agree k j || b) (follows_if fs k t h)
follows_if (One j ∷ fs) k t h = ap (λ b. b || is_follower fs t) (keyword_of_group k j t h) ∙ ap (λ b. agree k j || b) (follows_if fs k t h)

group_follows : (fs : List Follower) (k : Keyword) (ts : List Bare) → allows fs k ≡ true → IsTrue (list_all (has_keyword k) ts) → IsTrue (list_all (is_follower fs) ts)
group_follows fs k [] a h = refl
group_follows fs k (t ∷ ts) a h = let f = both (has_keyword k t) (list_all (has_keyword k) ts) h in and_true (is_follower fs t) (list_all (is_follower fs) ts) (follows_if fs k t f.0 ∙ a) (group_follows fs k ts a f.1)

pub joined_follows : (fs : List Follower) (gs : List (Keyword × List Bare)) → IsTrue (list_all (λ g. allows fs g.0) gs) → Grouped gs → IsTrue (list_all (is_follower fs) (joined gs))
joined_follows fs [] a h = refl
joined_follows fs (g ∷ gs) a h = let f = both (allows fs g.0) (list_all (λ g. allows fs g.0) gs) a in
    let P : List Bare → Type 0 = λ v. IsTrue (list_all (is_follower fs) v) in
    subst P (sym (joined_cons g gs)) (both_pass (is_follower fs) g.1 (joined gs) (group_follows fs g.0 g.1 f.0 h.0) (joined_follows fs gs f.1 h.1))
