-- Stems that are equal, and what is kept of them.
use Rattle.std.proofs.Common.{◌≡◌, ℕ, true, refl, sym, ◌∙◌, eq-eqb}
use Rattle.std.specs.Prelude.{◌&&◌, ◌==◌, unwrap_or}
use Rattle.std.specs.BTreeMap.{get_by, is_at}
use Rattle.std.specs.Cmp.Lexicographic.{slice_cmp, texts_ties}
use Rattle.std.specs.Cmp.{unsigned_tied}
use Rattle.std.specs.Ordering.{is_eq, nat_cmp, ordering_then}
use Rattle.std.specs.declared.cmp.Ordering.{Ordering}
use Rattle.std.specs.declared.cmp.Ordering.TheVariants.{Less, Equal, Greater}
use Rattle.std.proofs.lemmas.Bool.{and_from, and_parts, eqb-true}
use Rattle.flat_spec.proofs.TestLemmas.{same_path}
use Rattle.uniquify_copies.specs.Known.{next_of, stem_cmp}
use Rattle.uniquify_copies.specs.declared.namer.Namer.{Namer}
use Rattle.uniquify_copies.specs.declared.numbers.Stem.{Stem}

pub is_eq-then : (a b : Ordering) → is_eq (ordering_then a b) ≡ (is_eq a && is_eq b)
is_eq-then Less b = refl
is_eq-then Equal b = refl
is_eq-then Greater b = refl

pub number_at : (a b : ℕ) → is_at (nat_cmp a) b ≡ (a == b)
number_at a b = unsigned_tied a b

pub stem_at : (s q : Stem) → s.lib ≡ q.lib → s.letters.items ≡ q.letters.items → is_at (stem_cmp s) q ≡ true
stem_at s q lib letters =
    is_eq-then (nat_cmp s.lib q.lib) (slice_cmp nat_cmp s.letters.items q.letters.items)
    ∙ and_from _ _ (number_at s.lib q.lib ∙ eq-eqb s.lib q.lib lib)
    (sym (texts_ties s.letters.items q.letters.items) ∙ (same_path s.letters.items q.letters.items).1 letters)

pub at_stem : (s q : Stem) → is_at (stem_cmp s) q ≡ true → (s.lib ≡ q.lib) × (s.letters.items ≡ q.letters.items)
at_stem s q is =
    let parts = and_parts _ _ (sym (is_eq-then (nat_cmp s.lib q.lib) (slice_cmp nat_cmp s.letters.items q.letters.items)) ∙ is) in
    (eqb-true s.lib q.lib (sym (number_at s.lib q.lib) ∙ parts.0), (same_path s.letters.items q.letters.items).0 (texts_ties s.letters.items q.letters.items ∙ parts.1))

pub next_same : (namer : Namer) (s q : Stem) → s.lib ≡ q.lib → s.letters.items ≡ q.letters.items → next_of namer s ≡ next_of namer q
next_same namer s q lib letters =
    λ i. unwrap_or (get_by (λ (k : Stem). ordering_then (nat_cmp (lib i) k.lib) (slice_cmp nat_cmp (letters i) k.letters.items)) namer.numbers) 1
