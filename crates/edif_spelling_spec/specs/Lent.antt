-- Tokens whose names and strings are lent, and what takes them.
use Rattle.std.specs.Prelude.{List, ◌++◌}
use Rattle.netlist_schema.specs.Ident.{IsIdentifier}
use Rattle.edif_spelling_spec.specs.declared.token.Token.{Token}
use Rattle.edif_spelling_spec.specs.declared.token.TokenKind.{TokenKind}
use Rattle.edif_spelling_spec.specs.declared.token.TokenKind.TheVariants as kinds
use Rattle.edif_spelling_spec.specs.declared.lent.LentKind.{LentKind}
use Rattle.edif_spelling_spec.specs.declared.lent.LentKind.TheVariants as lent

-- what the token is
abbrev pub kind_of : LentKind → TokenKind
kind_of lent.LeftParen = kinds.LeftParen
kind_of lent.RightParen = kinds.RightParen
kind_of (lent.Word name) = kinds.Word name.now
kind_of (lent.Integer value) = kinds.Integer value
kind_of (lent.String text) = kinds.String text.now

-- a name that is lent is an identifier
abbrev pub IsNamed : LentKind → Type 0
IsNamed (lent.Word name) = IsIdentifier name.now
IsNamed _ = Unit {0}

-- just these tokens were taken in between
abbrev pub Gains : {S : Type 0} → (S → List Token → Type 0) → S → S → List Token → Type 0
Gains took old new ts = (before : List Token) → took old before → took new (before ++ ts)
