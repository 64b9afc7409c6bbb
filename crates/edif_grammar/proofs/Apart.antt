-- A form fits or fails, and not both.
use Rattle.std.proofs.Common.{◌≡◌, sym, ◌∙◌, subst, inl, inr, true, false, Option}
use Rattle.edif_spelling_spec.specs.Tree.{Placed, bare}
use Rattle.edif_spec.specs.Faults.{RowFault}
use Rattle.edif_spec.specs.declared.keyword.Keyword.{Keyword}
use Rattle.edif_grammar.specs.Forms.{Fails, Fits, HasOwnKind, fault_of, row_above}
use Rattle.edif_grammar.specs.declared.lent.Breach.{Breach}
use Rattle.edif_grammar.specs.declared.lent.Breach.TheVariants as breaches
use Rattle.edif_grammar.proofs.KeywordLemmas.{one_keyword, with_keyword}

no_own : (b : Breach) → HasOwnKind (fault_of b) → ⊥
no_own (breaches.NotInProfile keyword place) h = h
no_own (breaches.BadForm place) h = h

pub apart : (parent : Option Keyword) (k : Keyword) (t : Placed) (b : Breach) → Fails parent t (fault_of b) → Fits parent k t → ⊥
apart parent k t b (inl h) f = let w : false ≡ true = sym h.0 ∙ (with_keyword (row_above parent) k (bare t) f.keyword ∙ f.allowed) in cc w
apart parent k t b (inr h) f =
    let P : Keyword → Type 0 = λ v. RowFault v t (fault_of b) in
    no_own b (f.breaches (fault_of b) (subst P (one_keyword h.0 k (bare t) h.1 f.keyword) h.2))
