-- The keyword that stands at a node.
use Rattle.std.specs.Prelude.{Option, None}
use Rattle.edif_spelling_spec.specs.Tree.{Placed, Form', Word', More}
use Rattle.edif_spec.specs.Keyword.{keyword}
use Rattle.edif_spec.specs.declared.keyword.Keyword.{Keyword}
use Rattle.edif_tree.specs.Nodes.{Seen, WordOf}

-- the keyword that a word spells which is seen so
abbrev pub seen_keyword : Seen → Option Keyword
seen_keyword (WordOf name) = keyword name
seen_keyword _ = None

-- the keyword that a word spells
abbrev pub word_keyword : Placed → Option Keyword
word_keyword (Word' p name) = keyword name
word_keyword _ = None

-- the keyword of a form: that of the word that it begins with
abbrev pub form_keyword : Placed → Option Keyword
form_keyword (Form' p (More t ts)) = word_keyword t
form_keyword _ = None
