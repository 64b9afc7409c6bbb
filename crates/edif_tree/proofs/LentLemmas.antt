-- What holds of a token that is lent by what it is.
use Rattle.std.proofs.Common.{◌≡◌, ap, refl, sym}
use Rattle.edif_spelling_spec.specs.Lent.{kind_of}
use Rattle.edif_spelling_spec.specs.declared.lent.LentKind.{LentKind}
use Rattle.edif_spelling_spec.specs.declared.lent.LentKind.TheVariants as lent
use Rattle.edif_spelling_spec.specs.TreeFaults.{token_at}
use Rattle.edif_spelling_spec.specs.declared.token.Token.{Token}
use Rattle.edif_spelling_spec.specs.declared.token.TokenKind.{TokenKind}
use Rattle.edif_spelling_spec.specs.declared.token.TokenKind.TheVariants.{LeftParen, RightParen}

pub not_left : (kind : LentKind) → (kind ≡ lent.LeftParen → ⊥) → kind_of kind ≡ LeftParen → ⊥
not_left lent.LeftParen n e = n refl
not_left lent.RightParen n e = cc
not_left (lent.Word name) n e = cc
not_left (lent.Integer value) n e = cc
not_left (lent.String text) n e = cc

pub not_right : (kind : LentKind) → (kind ≡ lent.RightParen → ⊥) → kind_of kind ≡ RightParen → ⊥
not_right lent.LeftParen n e = cc
not_right lent.RightParen n e = n refl
not_right (lent.Word name) n e = cc
not_right (lent.Integer value) n e = cc
not_right (lent.String text) n e = cc

-- a token is its kind at its place
pub same_token : (token : Token) (kind : TokenKind) → token.kind ≡ kind → token_at kind token.place ≡ token
same_token token kind e = ap (λ k. token_at k token.place) (sym e)
