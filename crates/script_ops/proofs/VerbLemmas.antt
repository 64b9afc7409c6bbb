-- A word is one verb at most, and each verb is in the table.
use Rattle.std.proofs.Common.{◌≡◌, ◌≢◌, ◌∙◌, List, ℕ, [], ◌∷◌, None, Some, refl, sym, ap}
use Rattle.std.specs.Prelude.{Option, if◌then◌else◌}
use Rattle.edif_spec.specs.Means.{equal}
use Rattle.script_ops.specs.Verbs.{all_verbs, verb_word, NoneIs}
use Rattle.script_ops.specs.declared.verbs.Bare.TheVariants as bare
use Rattle.script_ops.specs.declared.verbs.Inside.TheVariants as inside
use Rattle.script_ops.specs.declared.verbs.OpVerb.TheVariants as ops
use Rattle.script_ops.specs.declared.verbs.Verb.{Verb}
use Rattle.script_ops.specs.declared.verbs.Verb.TheVariants as verbs

-- the first of the verbs that the word is
abbrev first_of : List ℕ → List Verb → Option Verb
first_of word [] = None
first_of word (v ∷ vs) = if equal word (verb_word v) then Some v else first_of word vs

itself : (v : Verb) → first_of (verb_word v) all_verbs ≡ Some v
itself verbs.Begin = refl
itself verbs.PinAt = refl
itself verbs.Walk = refl
itself (verbs.Alone bare.Commit) = refl
itself (verbs.Alone bare.Abandon) = refl
itself (verbs.Alone bare.Pin) = refl
itself (verbs.Alone bare.Release) = refl
itself (verbs.Alone bare.Collect) = refl
itself (verbs.Operation ops.ShowCell) = refl
itself (verbs.Operation (ops.InCell inside.ShowNet)) = refl
itself (verbs.Operation (ops.InCell inside.ShowInst)) = refl
itself (verbs.Operation (ops.InCell inside.AddNet)) = refl
itself (verbs.Operation (ops.InCell inside.DropNet)) = refl
itself (verbs.Operation (ops.InCell inside.DropInst)) = refl
itself (verbs.Operation (ops.InCell inside.Ungroup)) = refl
itself (verbs.Operation ops.AddCell) = refl
itself (verbs.Operation ops.AddInst) = refl
itself (verbs.Operation ops.Join) = refl
itself (verbs.Operation ops.Cut) = refl
itself (verbs.Operation ops.SetProp) = refl
itself (verbs.Operation ops.SetNote) = refl
itself (verbs.Operation ops.DropNote) = refl
itself (verbs.Operation ops.Uniquify) = refl
itself (verbs.Operation ops.UniquePath) = refl

pub one_verb : (a b : Verb) → verb_word a ≡ verb_word b → a ≡ b
one_verb a b e = let same : Some a ≡ Some b = sym (itself a) ∙ ap (λ w. first_of w all_verbs) e ∙ itself b in cc (same)

-- a word that is none of the table is no verb
pub none_is : (word : List ℕ) → NoneIs word all_verbs → (v : Verb) → word ≢ verb_word v
none_is word n verbs.Begin = n.0
none_is word n (verbs.Operation ops.ShowCell) = n.1.0
none_is word n (verbs.Operation (ops.InCell inside.ShowNet)) = n.1.1.0
none_is word n (verbs.Operation (ops.InCell inside.ShowInst)) = n.1.1.1.0
none_is word n (verbs.Operation ops.AddCell) = n.1.1.1.1.0
none_is word n (verbs.Operation (ops.InCell inside.AddNet)) = n.1.1.1.1.1.0
none_is word n (verbs.Operation (ops.InCell inside.DropNet)) = n.1.1.1.1.1.1.0
none_is word n (verbs.Operation ops.AddInst) = n.1.1.1.1.1.1.1.0
none_is word n (verbs.Operation (ops.InCell inside.DropInst)) = n.1.1.1.1.1.1.1.1.0
none_is word n (verbs.Operation ops.Join) = n.1.1.1.1.1.1.1.1.1.0
none_is word n (verbs.Operation ops.Cut) = n.1.1.1.1.1.1.1.1.1.1.0
none_is word n (verbs.Operation ops.SetProp) = n.1.1.1.1.1.1.1.1.1.1.1.0
none_is word n (verbs.Operation ops.SetNote) = n.1.1.1.1.1.1.1.1.1.1.1.1.0
none_is word n (verbs.Operation ops.DropNote) = n.1.1.1.1.1.1.1.1.1.1.1.1.1.0
none_is word n (verbs.Operation ops.Uniquify) = n.1.1.1.1.1.1.1.1.1.1.1.1.1.1.0
none_is word n (verbs.Operation ops.UniquePath) = n.1.1.1.1.1.1.1.1.1.1.1.1.1.1.1.0
none_is word n (verbs.Operation (ops.InCell inside.Ungroup)) = n.1.1.1.1.1.1.1.1.1.1.1.1.1.1.1.1.0
none_is word n (verbs.Alone bare.Commit) = n.1.1.1.1.1.1.1.1.1.1.1.1.1.1.1.1.1.0
none_is word n (verbs.Alone bare.Abandon) = n.1.1.1.1.1.1.1.1.1.1.1.1.1.1.1.1.1.1.0
none_is word n (verbs.Alone bare.Pin) = n.1.1.1.1.1.1.1.1.1.1.1.1.1.1.1.1.1.1.1.0
none_is word n verbs.PinAt = n.1.1.1.1.1.1.1.1.1.1.1.1.1.1.1.1.1.1.1.1.0
none_is word n verbs.Walk = n.1.1.1.1.1.1.1.1.1.1.1.1.1.1.1.1.1.1.1.1.1.0
none_is word n (verbs.Alone bare.Release) = n.1.1.1.1.1.1.1.1.1.1.1.1.1.1.1.1.1.1.1.1.1.1.0
none_is word n (verbs.Alone bare.Collect) = n.1.1.1.1.1.1.1.1.1.1.1.1.1.1.1.1.1.1.1.1.1.1.1.0
