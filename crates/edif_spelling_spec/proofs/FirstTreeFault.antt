-- The first tree fault stands where the tokens can't go on to a file, and what stands so is the first.
use Rattle.std.proofs.Common.{◌≡◌, ℕ, zero, suc, Bool, true, false, ◌⊎◌, inl, inr, ⊎_elim, List, [], ◌∷◌, ◌++◌, None, Some, refl, sym, ap, ◌∙◌, subst, append_assoc, ltb, cond}
use Rattle.std.proofs.lemmas.Bool.{cond-true}
use Rattle.edif_spelling_spec.specs.TreeFaults.{token_at, IsWhole, GoesOn, IsNamed, IsFaultyToken, IsFirstFault, TreeFault, fault_at, fault_behind, fault_inside, fault_within, fault_first, tree_fault}
use Rattle.edif_spelling_spec.specs.declared.token.Token.{Token}
use Rattle.edif_spelling_spec.specs.declared.token.TokenKind.{TokenKind}
use Rattle.edif_spelling_spec.specs.declared.token.TokenKind.TheVariants.{LeftParen, RightParen, Word, Integer, String}
use Rattle.edif_spelling_spec.specs.declared.tree_fault.TreeKind.{TreeKind}
use Rattle.edif_spelling_spec.specs.declared.tree_fault.TreeKind.TheVariants.{NotForm, ExtraClose, TooDeep, Trailing, Unended}
use Rattle.edif_spelling_spec.proofs.TreeFaultLemmas.{no_behind, not_deep, tree_of_none, none_of_tree}

-- what a token is called where these tokens stand before it and behind an open form
abbrev pub NamedFrom : ℕ → TreeKind → List Token → TokenKind → Type 0
NamedFrom opened NotForm before kind = ⊥
NamedFrom opened ExtraClose before kind = (fault_within opened before 0 ≡ None) × (kind ≡ RightParen)
NamedFrom opened TooDeep before kind = (fault_within opened before 0 ≡ None → ⊥) × (kind ≡ LeftParen)
NamedFrom opened Trailing before kind = (fault_within opened before 0 ≡ None) × (kind ≡ RightParen → ⊥)
NamedFrom opened Unended before kind = ⊥

-- a faulty token, and a faulty end, behind so many open forms
pub record TokenFrom (opened : ℕ) (tokens : List Token) (fault : TreeFault) : Type 0 where
  pub before : List Token
  pub token : Token
  pub after : List Token
  pub parts : tokens ≡ before ++ token ∷ after
  pub goes_on : (more : List Token) × (fault_within opened (before ++ more) 0 ≡ None)
  pub stops : (more : List Token) → fault_within opened (before ++ token ∷ more) 0 ≡ None → ⊥
  pub named : NamedFrom opened fault.kind before token.kind
  pub place : fault.place ≡ token.place

pub record EndFrom (opened : ℕ) (tokens : List Token) (end : ℕ) (fault : TreeFault) : Type 0 where
  pub goes_on : (more : List Token) × (fault_within opened (tokens ++ more) 0 ≡ None)
  pub unended : fault_within opened tokens 0 ≡ None → ⊥
  pub kind : fault.kind ≡ Unended
  pub place : fault.place ≡ end

abbrev pub FirstFrom : ℕ → List Token → ℕ → TreeFault → Type 0
FirstFrom opened tokens end fault = TokenFrom opened tokens fault ⊎ EndFrom opened tokens end fault

-- a token in front that opens or closes a form, or does neither
named_before : (opened then : ℕ) (token : Token) (kind : TreeKind) (before : List Token) (k : TokenKind) → ((ts : List Token) → fault_within opened (token ∷ ts) 0 ≡ fault_within then ts 0) → NamedFrom then kind before k → NamedFrom opened kind (token ∷ before) k
named_before opened then token NotForm before k step h = h
named_before opened then token ExtraClose before k step h = (step before ∙ h.0, h.1)
named_before opened then token TooDeep before k step h = (λ e. h.0 (sym (step before) ∙ e), h.1)
named_before opened then token Trailing before k step h = (step before ∙ h.0, h.1)
named_before opened then token Unended before k step h = h

token_before : (opened then : ℕ) (token : Token) (tokens : List Token) (fault : TreeFault) → ((ts : List Token) → fault_within opened (token ∷ ts) 0 ≡ fault_within then ts 0) → TokenFrom then tokens fault → TokenFrom opened (token ∷ tokens) fault
token_before opened then token tokens fault step h = record {
  before = token ∷ h.before;
  token = h.token;
  after = h.after;
  parts = ap (λ v. token ∷ v) h.parts;
  goes_on = (h.goes_on.0, step (h.before ++ h.goes_on.0) ∙ h.goes_on.1);
  stops = λ more e. h.stops more (sym (step (h.before ++ h.token ∷ more)) ∙ e);
  named = named_before opened then token fault.kind h.before h.token.kind step h.named;
  place = h.place;
}

end_before : (opened then : ℕ) (token : Token) (tokens : List Token) (end : ℕ) (fault : TreeFault) → ((ts : List Token) → fault_within opened (token ∷ ts) 0 ≡ fault_within then ts 0) → EndFrom then tokens end fault → EndFrom opened (token ∷ tokens) end fault
end_before opened then token tokens end fault step h = record {
  goes_on = (h.goes_on.0, step (tokens ++ h.goes_on.0) ∙ h.goes_on.1);
  unended = λ e. h.unended (sym (step tokens) ∙ e);
  kind = h.kind;
  place = h.place;
}

first_before : (opened then : ℕ) (token : Token) (tokens : List Token) (end : ℕ) (fault : TreeFault) → ((ts : List Token) → fault_within opened (token ∷ ts) 0 ≡ fault_within then ts 0) → FirstFrom then tokens end fault → FirstFrom opened (token ∷ tokens) end fault
first_before opened then token tokens end fault step h = ⊎_elim (λ t. inl (token_before opened then token tokens fault step t)) (λ e. inr (end_before opened then token tokens end fault step e)) h

-- so many `)` close so many forms
closed_run : (opened : ℕ) → (more : List Token) × (fault_within opened more 0 ≡ None)
unfolding fault_within
closed_run zero = ([], refl)
closed_run (suc outer) = (let inner = closed_run outer in (token_at RightParen 0 ∷ inner.0, inner.1))

-- the fault itself, from the equation that gives it
same_fault : (kind : TreeKind) (place : ℕ) (fault : TreeFault) → fault_at kind place ≡ Some fault → (kind ≡ fault.kind) × (place ≡ fault.place)
same_fault kind place fault e =
    let s : TreeFault = record { kind = kind; place = place } in
    let inner : s ≡ fault = cc e in
    (ap (λ f. f.kind) inner, ap (λ f. f.place) inner)

-- a faulty token that comes first
here : (opened : ℕ) (token : Token) (tokens : List Token) (kind : TreeKind) (fault : TreeFault) → fault_at kind token.place ≡ Some fault
    → ((more : List Token) → fault_within opened (token ∷ more) 0 ≡ None → ⊥) → NamedFrom opened kind [] token.kind → TokenFrom opened (token ∷ tokens) fault
here opened token tokens kind fault e stops named =
    let same = same_fault kind token.place fault e in
    let N : TreeKind → Type 0 = λ k. NamedFrom opened k [] token.kind in
    record { before = []; token = token; after = tokens; parts = refl; goes_on = closed_run opened; stops = stops; named = subst N same.0 named; place = sym same.1 }

-- a token behind the file's form
behind_here : (kind : TokenKind) (place : ℕ) (tokens : List Token) (fault : TreeFault) → fault_behind kind place ≡ Some fault → TokenFrom 0 (token_at kind place ∷ tokens) fault
unfolding fault_within
behind_here RightParen place tokens fault e = here 0 (token_at RightParen place) tokens ExtraClose fault e (λ more n. no_behind RightParen place n) (refl, refl)
behind_here LeftParen place tokens fault e = here 0 (token_at LeftParen place) tokens Trailing fault e (λ more n. no_behind LeftParen place n) (refl, (λ n. cc))
behind_here (Word x) place tokens fault e = here 0 (token_at (Word x) place) tokens Trailing fault e (λ more n. no_behind (Word x) place n) (refl, (λ n. cc))
behind_here (Integer x) place tokens fault e = here 0 (token_at (Integer x) place) tokens Trailing fault e (λ more n. no_behind (Integer x) place n) (refl, (λ n. cc))
behind_here (String x) place tokens fault e = here 0 (token_at (String x) place) tokens Trailing fault e (λ more n. no_behind (String x) place n) (refl, (λ n. cc))

-- an end in a form
end_here : (outer end : ℕ) (fault : TreeFault) → fault_at Unended end ≡ Some fault → EndFrom (suc outer) [] end fault
unfolding fault_within
end_here outer end fault e =
    let same = same_fault Unended end fault e in
    record { goes_on = closed_run (suc outer); unended = λ n. (cc); kind = sym same.0; place = sym same.1 }

-- a `(` that begins level 257, or none
left_first : (outer place : ℕ) (tokens : List Token) (end : ℕ) (fault : TreeFault) → ((opened : ℕ) → fault_within opened tokens end ≡ Some fault → FirstFrom opened tokens end fault)
    → (b : Bool) → ltb (suc outer) 256 ≡ b → cond b (fault_within (suc (suc outer)) tokens end) (fault_at TooDeep place) ≡ Some fault → FirstFrom (suc outer) (token_at LeftParen place ∷ tokens) end fault
unfolding fault_within
left_first outer place tokens end fault inner true l e =
    first_before (suc outer) (suc (suc outer)) (token_at LeftParen place) tokens end fault
    (λ ts. cond-true (ltb (suc outer) 256) (fault_within (suc (suc outer)) ts 0) (fault_at TooDeep place) l) (inner (suc (suc outer)) e)
left_first outer place tokens end fault inner false l e =
    inl (here (suc outer) (token_at LeftParen place) tokens TooDeep fault e
    (λ more n. let both = sym l ∙ (not_deep (ltb (suc outer) 256) place (fault_within (suc (suc outer)) more 0) n).0 in cc) ((λ n. cc), refl))

inside_first : (outer : ℕ) (kind : TokenKind) (place : ℕ) (tokens : List Token) (end : ℕ) (fault : TreeFault) → ((opened : ℕ) → fault_within opened tokens end ≡ Some fault → FirstFrom opened tokens end fault)
    → fault_inside outer kind place (λ opened. fault_within opened tokens end) ≡ Some fault → FirstFrom (suc outer) (token_at kind place ∷ tokens) end fault
unfolding fault_within
inside_first outer LeftParen place tokens end fault inner e = left_first outer place tokens end fault inner (ltb (suc outer) 256) refl e
inside_first outer RightParen place tokens end fault inner e = first_before (suc outer) outer (token_at RightParen place) tokens end fault (λ ts. refl) (inner outer e)
inside_first outer (Word x) place tokens end fault inner e = first_before (suc outer) (suc outer) (token_at (Word x) place) tokens end fault (λ ts. refl) (inner (suc outer) e)
inside_first outer (Integer x) place tokens end fault inner e = first_before (suc outer) (suc outer) (token_at (Integer x) place) tokens end fault (λ ts. refl) (inner (suc outer) e)
inside_first outer (String x) place tokens end fault inner e = first_before (suc outer) (suc outer) (token_at (String x) place) tokens end fault (λ ts. refl) (inner (suc outer) e)

within_first : (tokens : List Token) (end : ℕ) (fault : TreeFault) (opened : ℕ) → fault_within opened tokens end ≡ Some fault → FirstFrom opened tokens end fault
unfolding fault_within
within_first [] end fault zero e = absurd (cc e)
within_first (token ∷ tokens) end fault zero e = inl (behind_here token.kind token.place tokens fault e)
within_first [] end fault (suc outer) e = inr (end_here outer end fault e)
within_first (token ∷ tokens) end fault (suc outer) e = inside_first outer token.kind token.place tokens end fault (within_first tokens end fault) e

-- the file's form as a whole
whole : (tokens : List Token) → tree_fault tokens 0 ≡ None → IsWhole tokens
whole tokens e = tree_of_none tokens 0 e

no_whole : (tokens : List Token) (fault : TreeFault) → tree_fault tokens 0 ≡ Some fault → IsWhole tokens → ⊥
no_whole tokens fault e h = let none = sym (none_of_tree tokens 0 h.0 h.1) ∙ e in cc

named_first : (place : ℕ) (kind : TreeKind) (before : List Token) (k : TokenKind) → NamedFrom 1 kind before k → IsNamed kind (token_at LeftParen place ∷ before) k
unfolding tree_fault
named_first place NotForm before k h = absurd h
named_first place ExtraClose before k h = (inr (whole (token_at LeftParen place ∷ before) h.0), h.1)
named_first place TooDeep before k h = ((λ e. cc), (λ w. h.0 (none_of_tree (token_at LeftParen place ∷ before) 0 w.0 w.1)), h.1)
named_first place Trailing before k h = (whole (token_at LeftParen place ∷ before) h.0, h.1)
named_first place Unended before k h = absurd h

form_first : (place : ℕ) (tokens : List Token) (end : ℕ) (fault : TreeFault) → FirstFrom 1 tokens end fault → IsFirstFault (token_at LeftParen place ∷ tokens) end fault
unfolding tree_fault
form_first place tokens end fault h =
    let left : Token = token_at LeftParen place in
    ⊎_elim
    (λ t. inl (record {
      before = left ∷ t.before;
      token = t.token;
      after = t.after;
      parts = ap (λ v. left ∷ v) t.parts;
      goes_on = (t.goes_on.0, whole (left ∷ (t.before ++ t.goes_on.0)) t.goes_on.1);
      stops = λ g.
          (let W : List Token → Type 0 = λ v. IsWhole (left ∷ v) in
          let w : IsWhole (left ∷ (t.before ++ t.token ∷ g.0)) = subst W (append_assoc t.before (t.token ∷ []) g.0) g.1 in
          t.stops g.0 (none_of_tree (left ∷ (t.before ++ t.token ∷ g.0)) 0 w.0 w.1));
      named = named_first place fault.kind t.before t.token.kind t.named;
      place = t.place;
    }))
    (λ e. inr (record {
      goes_on = (e.goes_on.0, whole (left ∷ (tokens ++ e.goes_on.0)) e.goes_on.1);
      unended = λ w. e.unended (none_of_tree (left ∷ tokens) 0 w.0 w.1);
      kind = e.kind;
      place = e.place;
    }))
    h

-- tokens that nothing stands before go on
nothing_goes_on : GoesOn []
unfolding tree_fault fault_within
nothing_goes_on = (token_at LeftParen 0 ∷ token_at RightParen 0 ∷ [], whole (token_at LeftParen 0 ∷ token_at RightParen 0 ∷ []) refl)

-- a first token that is no `(`
other_first : (token : Token) (tokens : List Token) (kind : TreeKind) (fault : TreeFault) → fault_at kind token.place ≡ Some fault
    → ((more : List Token) → tree_fault (token ∷ more) 0 ≡ None → ⊥) → IsNamed kind [] token.kind → IsFaultyToken (token ∷ tokens) fault
other_first token tokens kind fault e stops named =
    let same = same_fault kind token.place fault e in
    let N : TreeKind → Type 0 = λ k. IsNamed k [] token.kind in
    record { before = []; token = token; after = tokens; parts = refl; goes_on = nothing_goes_on; stops = λ g. stops g.0 (none_of_tree (token ∷ g.0) 0 g.1.0 g.1.1); named = subst N same.0 named; place = sym same.1 }

first_first : (kind : TokenKind) (place : ℕ) (tokens : List Token) (end : ℕ) (fault : TreeFault) → fault_first kind place (fault_within 1 tokens end) ≡ Some fault → IsFirstFault (token_at kind place ∷ tokens) end fault
unfolding tree_fault
first_first LeftParen place tokens end fault e = form_first place tokens end fault (within_first tokens end fault 1 e)
first_first RightParen place tokens end fault e = inl (other_first (token_at RightParen place) tokens ExtraClose fault e (λ more n. cc) (inl refl, refl))
first_first (Word x) place tokens end fault e = inl (other_first (token_at (Word x) place) tokens NotForm fault e (λ more n. cc) (refl, (λ n. cc), (λ n. cc)))
first_first (Integer x) place tokens end fault e = inl (other_first (token_at (Integer x) place) tokens NotForm fault e (λ more n. cc) (refl, (λ n. cc), (λ n. cc)))
first_first (String x) place tokens end fault e = inl (other_first (token_at (String x) place) tokens NotForm fault e (λ more n. cc) (refl, (λ n. cc), (λ n. cc)))

pub fault_stands : (tokens : List Token) (end : ℕ) (fault : TreeFault) → tree_fault tokens end ≡ Some fault → IsFirstFault tokens end fault
unfolding tree_fault
fault_stands [] end fault e =
    let same = same_fault Unended end fault e in
    inr (record { goes_on = nothing_goes_on; unended = no_whole [] (record { kind = Unended; place = 0 }) refl; kind = sym same.0; place = sym same.1 })
fault_stands (token ∷ tokens) end fault e = first_first token.kind token.place tokens end fault e
