-- Bytes that are a design file, and what may be wrong with them.
use Rattle.std.proofs.Common.{◌≡◌, ◌≤◌, List, length, None, sym, subst}
use Prim.Native.Nat.{ℕ}
use Rattle.netlist_schema.specs.declared.limits.TheConstants.{MOST_FILE_BYTES}
use Rattle.edif_spelling_spec.specs.Lexing.{tokens, lex_fault}
use Rattle.edif_spelling_spec.specs.Tree.{Placed, bare}
use Rattle.edif_spelling_spec.specs.TreeFaults.{IsFile}
use Rattle.edif_spelling_spec.proofs.PlacedListings.{spelled_file, file_spells, one_placed}
use Rattle.edif_spelling_spec.proofs.SpelledTokens.{spelled_is_read}
use Rattle.edif_spelling_spec.proofs.TreeFaultLemmas.{none_of_tree}
use Rattle.edif_spelling_spec.specs.Tree.{listing}
use Rattle.edif_spec.specs.Design.{Design}
use Rattle.edif_spec.specs.Means.{MeansFile}
use Rattle.edif_spec.proofs.FileFaultsApart.{stands_apart}
use Rattle.edif_spec.specs.Arranged.{arranged, canonical_text}
use Rattle.edif_spec.specs.Canonical.{tree_of}
use Rattle.edif_spec.proofs.OnceFile.{file_once}
use Rattle.edif_spec.proofs.ReadBack.{meant_stays, text_meant_back, text_spelled_back}
use Rattle.edif_spelling_spec.specs.Tree.{Bare}
use Rattle.edif_spelling_spec.proofs.SpelledTokens.{same_tree}
use Rattle.edif_spec.specs.Files.{IsDesignFile, IsWrong, ReadsBack}
use Rattle.edif_spec.specs.declared.file_fault.EdifFault.{EdifFault}
use Rattle.edif_spec.specs.declared.file_fault.EdifFault.TheVariants.{Lex, Tree, Meaning}

-- bytes whose tokens are those of a tree that means a design
pub file_of : (bytes : List ℕ) (t : Placed) (d : Design) → length bytes ≤ MOST_FILE_BYTES → lex_fault bytes ≡ None → IsFile (tokens bytes) t → MeansFile (bare t) d → IsDesignFile bytes d
file_of bytes t d size none file means = record { size = size; tree = bare t; spelled = file_spells bytes t none file; means = means }

-- nothing is wrong with a design file
pub not_wrong : (bytes : List ℕ) (d : Design) (fault : EdifFault) → IsDesignFile bytes d → IsWrong bytes fault → ⊥
not_wrong bytes d (Lex kind place) h wrong = let read = spelled_is_read bytes (listing h.tree) h.spelled.tokens in absurd (cc (read.0, wrong))
not_wrong bytes d (Tree kind place) h wrong =
    let read = spelled_file bytes h.tree h.spelled in
    let none = none_of_tree (tokens bytes) (length bytes) read.0 read.1 in
    absurd (cc (none, wrong.1))
not_wrong bytes d (Meaning fault) h wrong =
    let read = spelled_file bytes h.tree h.spelled in
    let same : read.0 ≡ wrong.1.0 = one_placed (tokens bytes) read.0 wrong.1.0 read.1.listed wrong.1.1.listed in
    let P : Placed → Type 0 = λ t. MeansFile (bare t) d in
    let means : MeansFile (bare read.0) d = subst (λ b. MeansFile b d) (sym read.2) h.means in
    stands_apart wrong.1.0 d fault (subst P same means) wrong.1.2

-- the text of a design that a file means reads back as the design
pub reads_back : (bytes : List ℕ) (d : Design) → IsDesignFile bytes d → ReadsBack (canonical_text d) d
reads_back bytes d file =
    let P : Design → Type 0 = λ e. MeansFile (tree_of (arranged d)) e in
    (tree_of (arranged d), text_spelled_back d file.means.valid, subst P (meant_stays file.tree d file.means) (text_meant_back d file.means.valid))

-- bytes are a design file of one design at most
pub one_design : (bytes : List ℕ) (d e : Design) → IsDesignFile bytes d → IsDesignFile bytes e → d ≡ e
one_design bytes d e file other =
    let same : other.tree ≡ file.tree = same_tree bytes other.tree file.tree other.spelled file.spelled in
    let P : Bare → Type 0 = λ t. MeansFile t e in
    file_once file.tree d e file.means (subst P same other.means)
