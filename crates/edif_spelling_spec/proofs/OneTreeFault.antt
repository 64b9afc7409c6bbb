-- What stands as the first tree fault of some tokens is the one that they have.
use Rattle.std.proofs.Common.{◌≡◌, ℕ, ◌⊎◌, inl, inr, ⊎_elim, List, [], ◌∷◌, ◌++◌, Option, None, Some, refl, sym, ap, ◌∙◌, subst, append_assoc, append-nil}
use Rattle.edif_spelling_spec.specs.TreeFaults.{IsWhole, GoesOn, IsNamed, IsFaultyToken, IsFirstFault, TreeFault, fault_at, tree_fault}
use Rattle.edif_spelling_spec.specs.declared.token.Token.{Token}
use Rattle.edif_spelling_spec.specs.declared.token.TokenKind.{TokenKind}
use Rattle.edif_spelling_spec.specs.declared.token.TokenKind.TheVariants.{LeftParen, RightParen}
use Rattle.edif_spelling_spec.specs.declared.tree_fault.TreeKind.{TreeKind}
use Rattle.edif_spelling_spec.specs.declared.tree_fault.TreeKind.TheVariants.{NotForm, ExtraClose, TooDeep, Trailing, Unended}
use Rattle.edif_spelling_spec.proofs.TreeFaultLemmas.{tree_of_none, none_of_tree}
use Rattle.edif_spelling_spec.proofs.FirstTreeFault.{fault_stands}

-- two ways to cut a list at an element are one, or one cut comes first
abbrev Cuts : List Token → Token → List Token → Token → Type 0
Cuts xs x ys y = ((xs ≡ ys) × (x ≡ y)) ⊎ (((mid : List Token) × (ys ≡ xs ++ x ∷ mid)) ⊎ ((mid : List Token) × (xs ≡ ys ++ y ∷ mid)))

cuts : (xs ys : List Token) (x y : Token) (a b : List Token) → xs ++ x ∷ a ≡ ys ++ y ∷ b → Cuts xs x ys y
cuts [] [] x y a b e = (let same : x ≡ y = cc e in inl (refl, same))
cuts [] (z ∷ ys) x y a b e = (let same : z ≡ x = cc e in inr (inl (ys, ap (λ v. v ∷ ys) same)))
cuts (z ∷ xs) [] x y a b e = (let same : z ≡ y = cc e in inr (inr (xs, ap (λ v. v ∷ xs) same)))
cuts (w ∷ xs) (z ∷ ys) x y a b e =
    let same : w ≡ z = cc e in
    let rest : xs ++ x ∷ a ≡ ys ++ y ∷ b = cc e in
    ⊎_elim
    (λ s. inl (ap (λ v. v ∷ xs) same ∙ ap (λ v. z ∷ v) s.0, s.1))
    (λ o. ⊎_elim
    (λ l. inr (inl (l.0, ap (λ v. v ∷ ys) (sym same) ∙ ap (λ v. w ∷ v) l.1)))
    (λ r. inr (inr (r.0, ap (λ v. v ∷ xs) same ∙ ap (λ v. z ∷ v) r.1)))
    o)
    (cuts xs ys x y a b rest)

-- a front of tokens that go on goes on
front_goes_on : (front more tokens : List Token) → tokens ≡ front ++ more → GoesOn tokens → GoesOn front
front_goes_on front more tokens e g =
    let W : List Token → Type 0 = IsWhole in
    (more ++ g.0, subst W (ap (λ v. v ++ g.0) e ∙ append_assoc front more g.0) g.1)

whole_goes_on : (tokens : List Token) → IsWhole tokens → GoesOn tokens
whole_goes_on tokens w = (let W : List Token → Type 0 = IsWhole in ([], subst W (sym (append-nil tokens)) w))

no_more : (before : List Token) (token : Token) (mid tokens : List Token) → tokens ≡ before ++ token ∷ mid → (GoesOn (before ++ token ∷ []) → ⊥) → GoesOn tokens → ⊥
no_more before token mid tokens e stops g = stops (front_goes_on (before ++ token ∷ []) mid tokens (e ∙ sym (append_assoc before (token ∷ []) mid)) g)

empty_not_whole : (before : List Token) → before ≡ [] → IsWhole before → ⊥
unfolding tree_fault
empty_not_whole before e w =
    let W : List Token → Type 0 = IsWhole in
    let h : IsWhole [] = subst W e w in
    let none : tree_fault [] 0 ≡ None = none_of_tree [] 0 h.0 h.1 in cc

two_kinds : (kind : TokenKind) → kind ≡ LeftParen → kind ≡ RightParen → ⊥
two_kinds kind l r = let both = sym l ∙ r in cc

-- a token has one fault where these stand before it
one_name : (a b : TreeKind) (before : List Token) (kind : TokenKind) → IsNamed a before kind → IsNamed b before kind → a ≡ b
one_name NotForm NotForm before kind h k = refl
one_name NotForm ExtraClose before kind h k = absurd (h.2 k.1)
one_name NotForm TooDeep before kind h k = absurd (k.0 h.0)
one_name NotForm Trailing before kind h k = absurd (empty_not_whole before h.0 k.0)
one_name NotForm Unended before kind h k = absurd k
one_name ExtraClose NotForm before kind h k = absurd (k.2 h.1)
one_name ExtraClose ExtraClose before kind h k = refl
one_name ExtraClose TooDeep before kind h k = absurd (two_kinds kind k.2 h.1)
one_name ExtraClose Trailing before kind h k = absurd (k.1 h.1)
one_name ExtraClose Unended before kind h k = absurd k
one_name TooDeep NotForm before kind h k = absurd (h.0 k.0)
one_name TooDeep ExtraClose before kind h k = absurd (two_kinds kind h.2 k.1)
one_name TooDeep TooDeep before kind h k = refl
one_name TooDeep Trailing before kind h k = absurd (h.1 k.0)
one_name TooDeep Unended before kind h k = absurd k
one_name Trailing NotForm before kind h k = absurd (empty_not_whole before k.0 h.0)
one_name Trailing ExtraClose before kind h k = absurd (h.1 k.1)
one_name Trailing TooDeep before kind h k = absurd (k.1 h.0)
one_name Trailing Trailing before kind h k = refl
one_name Trailing Unended before kind h k = absurd k
one_name Unended b before kind h k = absurd h

fault_same : (f g : TreeFault) → f.kind ≡ g.kind → f.place ≡ g.place → Some f ≡ Some g
fault_same f g k p = ap (λ v. fault_at v f.place) k ∙ ap (λ v. fault_at g.kind v) p

token_same : (tokens : List Token) (f g : TreeFault) → IsFaultyToken tokens f → IsFaultyToken tokens g → Some f ≡ Some g
token_same tokens f g h k = ⊎_elim
    (λ s.
    let K : List Token → Type 0 = λ v. IsNamed f.kind v k.token.kind in
    let L : Token → Type 0 = λ v. IsNamed f.kind h.before v.kind in
    let named : IsNamed f.kind k.before k.token.kind = subst K s.0 (subst L s.1 h.named) in
    fault_same f g (one_name f.kind g.kind k.before k.token.kind named k.named) (h.place ∙ (ap (λ t. t.place) s.1 ∙ sym k.place)))
    (λ o. ⊎_elim
    (λ l. absurd (no_more h.before h.token l.0 k.before l.1 h.stops k.goes_on))
    (λ r. absurd (no_more k.before k.token r.0 h.before r.1 k.stops h.goes_on))
    o)
    (cuts h.before k.before h.token k.token h.after k.after (sym h.parts ∙ k.parts))

token_no_end : (tokens : List Token) (f : TreeFault) → IsFaultyToken tokens f → GoesOn tokens → ⊥
token_no_end tokens f h g = no_more h.before h.token h.after tokens h.parts h.stops g

first_same : (tokens : List Token) (end : ℕ) (f g : TreeFault) → IsFirstFault tokens end f → IsFirstFault tokens end g → Some f ≡ Some g
first_same tokens end f g a b = ⊎_elim
    (λ h. ⊎_elim (λ k. token_same tokens f g h k) (λ k. absurd (token_no_end tokens f h k.goes_on)) b)
    (λ h. ⊎_elim (λ k. absurd (token_no_end tokens g k h.goes_on)) (λ k. fault_same f g (h.kind ∙ sym k.kind) (h.place ∙ sym k.place)) b)
    a

no_first : (tokens : List Token) (end : ℕ) (fault : TreeFault) → IsWhole tokens → IsFirstFault tokens end fault → ⊥
no_first tokens end fault w h = ⊎_elim (λ t. token_no_end tokens fault t (whole_goes_on tokens w)) (λ e. e.unended w) h

found_is : (tokens : List Token) (end : ℕ) (fault : TreeFault) (found : Option TreeFault) → tree_fault tokens end ≡ found → IsFirstFault tokens end fault → found ≡ Some fault
found_is tokens end fault None e h = absurd (no_first tokens end fault (tree_of_none tokens end e) h)
found_is tokens end fault (Some g) e h = first_same tokens end g fault (fault_stands tokens end g e) h

pub standing_is_fault : (tokens : List Token) (end : ℕ) (fault : TreeFault) → IsFirstFault tokens end fault → tree_fault tokens end ≡ Some fault
standing_is_fault tokens end fault h = found_is tokens end fault (tree_fault tokens end) refl h
