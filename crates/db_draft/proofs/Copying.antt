-- Layers that are copied.
use Rattle.std.proofs.Common.{◌≡◌, ℕ, suc, arith, ◌+◌, List, [], ◌∷◌, ◌++◌, map, take, Option, Some, None, refl, sym, ap, subst, ◌∙◌, slice_get, Global}
use Rattle.std.specs.Prelude.{MatchOption, IsSomeAnd, option_map}
use Rattle.std.specs.Arc.{arc_value}
use Rattle.std.specs.BTreeMap.{BTreeMap, IsClone, get, is_at}
use Rattle.std.specs.Ordering.{nat_cmp}
use Rattle.std.specs.declared.sync.Arc.{Arc}
use Rattle.std.proofs.lemmas.Map.Entries.{lookup_clone}
use Rattle.netlist_schema.specs.Types.{CellBody, Lib}
use Rattle.netlist_schema.proofs.Lists.{take_next}
use Rattle.db_draft.specs.Drafts.{AllSuit, AreSameLayers}
use Rattle.db_draft.specs.Layers.{over_of, IsSameLayer}
use Rattle.db_draft.specs.declared.layer.Layer.{Layer}
use Rattle.db_draft.proofs.Putting.{same_over, suits_same}

abbrev Shared : Type 0
Shared = Arc CellBody Global

same_value : (o p : Option Shared) → MatchOption o (p ≡ None) (λ v. IsSomeAnd p (λ w. arc_value w ≡ arc_value v)) → option_map arc_value p ≡ option_map arc_value o
same_value None p is = ap (option_map arc_value) is
same_value (Some v) None is = absurd is
same_value (Some v) (Some w) is = ap (λ b. Some b) is

pub same_bodies : (m n : BTreeMap ℕ Shared) → IsClone (λ x y. y ≡ x) (λ v w. arc_value w ≡ arc_value v) m n → (slot : ℕ) → option_map arc_value (get nat_cmp n slot) ≡ option_map arc_value (get nat_cmp m slot)
same_bodies m n is slot = same_value (get nat_cmp m slot) (get nat_cmp n slot) (lookup_clone (λ x y. y ≡ x) (λ v w. arc_value w ≡ arc_value v) (is_at (nat_cmp slot)) (λ x y same. ap (is_at (nat_cmp slot)) same) m.entries n.entries is)

same_more : (olds news : List Layer) (old new : Layer) → AreSameLayers olds news → IsSameLayer old new → AreSameLayers (olds ++ old ∷ []) (news ++ new ∷ [])
same_more [] [] old new all is = (is, tt)
same_more [] (n ∷ news) old new all is = absurd all
same_more (o ∷ olds) [] old new all is = absurd all
same_more (o ∷ olds) (n ∷ news) old new all is = (all.0, same_more olds news old new all.1 is)

pub same_next : (layers : List Layer) (k : ℕ) (old new : Layer) (made more : List Layer) → slice_get layers k ≡ Some old → AreSameLayers (take k layers) made → IsSameLayer old new → more ≡ made ++ new ∷ [] → AreSameLayers (take (k + 1) layers) more
same_next layers k old new made more found all is same =
    let next : suc k ≡ k + 1 = omega arith in
    subst (λ (ls : List Layer). AreSameLayers (take (k + 1) layers) ls) (sym same)
    (subst (λ (ls : List Layer). AreSameLayers ls (made ++ new ∷ [])) (sym (take_next layers k old found) ∙ ap (λ n. take n layers) next) (same_more (take k layers) made old new all is))

pub same_overs : (olds news : List Layer) → AreSameLayers olds news → map over_of news ≡ map over_of olds
same_overs [] [] all = refl
same_overs [] (n ∷ news) all = absurd all
same_overs (o ∷ olds) [] all = absurd all
same_overs (o ∷ olds) (n ∷ news) all = λ i. same_over o n all.0 i ∷ same_overs olds news all.1 i

pub suit_copied : (libs : List Lib) (olds news : List Layer) → AreSameLayers olds news → AllSuit libs olds → AllSuit libs news
suit_copied [] [] [] all suits = tt
suit_copied [] [] (n ∷ news) all suits = absurd all
suit_copied [] (o ∷ olds) news all suits = absurd suits
suit_copied (l ∷ libs) [] news all suits = absurd suits
suit_copied (l ∷ libs) (o ∷ olds) [] all suits = absurd all
suit_copied (l ∷ libs) (o ∷ olds) (n ∷ news) all suits = (suits_same l o n all.0 suits.0, suit_copied libs olds news all.1 suits.1)
