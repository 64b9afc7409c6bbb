use Rattle.std.proofs.Common.{ap, sym, ◌∙◌, Some, [], get_or}
use Rattle.std.specs.Prelude.{slice_get}
use Rattle.edif_tree.specs.Nodes.{WordOf, Stores, shape_of}
use Rattle.edif_tree.specs.declared.stored.StoredKind.TheVariants as kinds
use Rattle.edif_tree.proofs.NodeLemmas.{looked}
use Rattle.edif_tree.proofs.WordLemmas.{keyword_got, keyword_seen, no_word}
use Rattle.edif_tree.proofs.rows.Rows.keyword.Goals as goal

pub keyword-requires : goal.keyword-requires
keyword-requires c =
    let s : Stores = record { arguments = c.self.inside.arguments.lists; words = c.self.inside.words; integers = c.self.inside.integers.items; strings = c.self.inside.strings } in
    (looked s c.self.inside.nodes.items c.args.self.now c.args.id.0 c.index.result.now (kinds.Word c.in-Word.at) c.self.view_is c.requires c.index.ensures (sym c.unpack.ensures ∙ c.in-Word.is) c.self.invariant).within

pub returns-in-Word : goal.returns-in-Word
returns-in-Word c =
    let s : Stores = record { arguments = c.self.inside.arguments.lists; words = c.self.inside.words; integers = c.self.inside.integers.items; strings = c.self.inside.strings } in
    let at = looked s c.self.inside.nodes.items c.args.self.now c.args.id.0 c.index.result.now (kinds.Word c.in-Word.at) c.self.view_is c.requires c.index.ensures (sym c.unpack.ensures ∙ c.in-Word.is) c.self.invariant in
    keyword_seen (slice_get c.args.self.now c.args.id.0) (WordOf (get_or c.self.inside.words c.in-Word.at [])) at.shape
    ∙ ap Some (keyword_got c.self.inside.words c.in-Word.at c.keyword.result at.within c.keyword.ensures)

pub returns-in_default : goal.returns-in_default
returns-in_default c =
    let s : Stores = record { arguments = c.self.inside.arguments.lists; words = c.self.inside.words; integers = c.self.inside.integers.items; strings = c.self.inside.strings } in
    let kind = c.unpack.result in
    let at = looked s c.self.inside.nodes.items c.args.self.now c.args.id.0 c.index.result.now kind c.self.view_is c.requires c.index.ensures (sym c.unpack.ensures) c.self.invariant in
    keyword_seen (slice_get c.args.self.now c.args.id.0) (shape_of s kind) at.shape ∙ ap Some (no_word s kind c.in_default.not-Word)
