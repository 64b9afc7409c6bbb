-- The words of a tree, and the keywords beside them.
use Rattle.std.proofs.Common.{◌≡◌, ◌<◌, ℕ, zero, suc, Bool, true, false, not, if◌then◌else◌, nat_eq, List, [], ◌∷◌, ◌++◌, length, map, get_or, Option, None, Some, refl, sym, ap, ◌∙◌, arith}
use Rattle.std.specs.Prelude.{slice_get, option_map}
use Rattle.std.specs.List.{list_any}
use Rattle.std.specs.Cmp.Lexicographic.{nat_list_eq_equiv, pointwise, same_text}
use Rattle.std.proofs.lemmas.List.{map-append}
use Rattle.std.proofs.lemmas.Map.Keys.{any_passes_from_place}
use Rattle.indexmap.specs.IndexSet.{insert_key}
use Rattle.edif_spec.specs.Keyword.{keyword}
use Rattle.edif_spec.specs.declared.keyword.Keyword.{Keyword}
use Rattle.edif_tree.specs.Keywords.{seen_keyword}
use Rattle.edif_tree.specs.Nodes.{Seen, NodeRow, Stores, shape_of}
use Rattle.edif_tree.specs.declared.stored.StoredKind.{StoredKind}
use Rattle.edif_tree.specs.declared.stored.StoredKind.TheVariants as kinds
use Rattle.edif_tree.proofs.NodeLemmas.{read_got}

-- a word that is there, and one that is not
pub words_kept : (name : List ℕ) (old new : List (List ℕ)) (is_new : Bool) → is_new ≡ not (list_any (pointwise nat_eq name) old) → new ≡ insert_key (pointwise nat_eq) old name → is_new ≡ false → new ≡ old
words_kept name old new is_new e h f = by (list_any (pointwise nat_eq name) old) (sym e ∙ f) h
  where
    by : (b : Bool) → not b ≡ false → new ≡ (if b then old else old ++ name ∷ []) → new ≡ old
    by true n h = h
    by false n h = absurd (cc n)

pub words_added : (name : List ℕ) (old new : List (List ℕ)) (is_new : Bool) → is_new ≡ not (list_any (pointwise nat_eq name) old) → new ≡ insert_key (pointwise nat_eq) old name → is_new ≡ true → new ≡ old ++ name ∷ []
words_added name old new is_new e h f = by (list_any (pointwise nat_eq name) old) (sym e ∙ f) h
  where
    by : (b : Bool) → not b ≡ true → new ≡ (if b then old else old ++ name ∷ []) → new ≡ old ++ name ∷ []
    by true n h = absurd (cc n)
    by false n h = h

-- a word that is found at a place is there, so adding it leaves the words
pub word_found : (name : List ℕ) (words : List (List ℕ)) (at : ℕ) → slice_get words at ≡ Some name → words ≡ insert_key (pointwise nat_eq) words name
word_found name words at h = ap (λ b. if b then words else words ++ name ∷ []) (sym (any_passes_from_place (pointwise nat_eq name) words at name h (nat_list_eq_equiv.refl name)))

-- the word that is read where a word was put is that word
pub word_put : (name x : List ℕ) (new : List (List ℕ)) (at : ℕ) → (k : List ℕ) × (slice_get new at ≡ Some k) × (pointwise nat_eq name k ≡ true) → x ≡ get_or new at x → x ≡ name
word_put name x new at h e = e ∙ read_got x h.0 new at h.1 ∙ sym (same_text name h.0 (sym h.2))

-- the keywords of the words, with one more
pub keywords_grow : (name : List ℕ) (old new : List (List ℕ)) (ks more : List (Option Keyword)) (found : Option Keyword) → ks ≡ map keyword old → more ≡ ks ++ found ∷ [] → found ≡ keyword name → new ≡ old ++ name ∷ [] → more ≡ map keyword new
keywords_grow name old new ks more found h m f e = m ∙ ap (λ v. v ++ found ∷ []) h ∙ ap (λ v. map keyword old ++ v ∷ []) f ∙ sym (map-append keyword old (name ∷ [])) ∙ ap (map keyword) (sym e)

-- the keyword of the word at a place
pub keyword_read : (words : List (List ℕ)) (ks : List (Option Keyword)) (at : ℕ) (k : Option Keyword) → ks ≡ map keyword words → at < length words → k ≡ get_or ks at k → option_map keyword (slice_get words at) ≡ Some k
keyword_read words ks at k h l e = by words at l k (e ∙ ap (λ v. get_or v at k) h)
  where
    by : (words : List (List ℕ)) (at : ℕ) → at < length words → (k : Option Keyword) → k ≡ get_or (map keyword words) at k → option_map keyword (slice_get words at) ≡ Some k
    by [] at l k e = absurd (omega arith)
    by (x ∷ words) zero l k e = ap Some (sym e)
    by (x ∷ words) (suc at) l k e = by words at (omega arith) k e

pub keyword_got : (words : List (List ℕ)) (at : ℕ) (k : Option Keyword) → at < length words → option_map keyword (slice_get words at) ≡ Some k → keyword (get_or words at []) ≡ k
keyword_got [] at k l e = absurd (omega arith)
keyword_got (x ∷ words) zero k l e = cc e
keyword_got (x ∷ words) (suc at) k l e = keyword_got words at k (omega arith) e

-- the keyword of a node that is seen so
pub keyword_seen : (o : Option NodeRow) (s : Seen) → option_map (λ (r : NodeRow). r.shape) o ≡ Some s → option_map (λ (r : NodeRow). seen_keyword r.shape) o ≡ Some (seen_keyword s)
keyword_seen None s e = absurd (cc e)
keyword_seen (Some r) s e = let w : r.shape ≡ s = cc e in ap (λ v. Some (seen_keyword v)) w

-- what is no word has none
pub no_word : (s : Stores) (kind : StoredKind) → ((at : ℕ) → kind ≡ kinds.Word at → ⊥) → seen_keyword (shape_of s kind) ≡ None
no_word s (kinds.Form at) n = refl
no_word s (kinds.Word at) n = absurd (n at refl)
no_word s (kinds.Integer at) n = refl
no_word s (kinds.String at) n = refl
