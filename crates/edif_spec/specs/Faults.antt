-- What may be wrong with a form by itself: breaches of its row, names that repeat, limits. Places are the numbers beside the nodes.
use Rattle.std.specs.Prelude.{◌≡◌, ℕ, ◌+◌, ◌<◌, ◌≤◌, ◌⊎◌, ℤ, pos, negsuc, List, [], ◌∷◌, length, filter, drop, replicate, Bool, true, false, ◌&&◌, ◌||◌, nat_le, Option, Some, None, IsTrue, slice_get, if◌then◌else◌}
use Rattle.std.specs.List.{list_any, flat_map}
use Rattle.netlist_schema.specs.declared.limits.TheConstants.{MOST_WIDTH}
use Rattle.edif_spelling_spec.specs.Tree.{Bare, Placed, Form', Word', Integer', String', More, bare, items}
use Rattle.edif_spec.specs.Keyword.{row, FormRow, Takes, Skips, Choice, Follower, Many, One}
use Rattle.edif_spec.specs.Rows.{has_keyword, is_one_of, is_follower}
use Rattle.edif_spec.specs.declared.keyword.Keyword.{Keyword}
use Rattle.edif_spec.specs.declared.keyword.Keyword.TheVariants as keywords
use Rattle.edif_spec.specs.declared.fault.Kind.{Kind}
use Rattle.edif_spec.specs.declared.fault.Kind.TheVariants.{BadForm, BadVersion, BadLevel}
use Rattle.edif_spec.specs.declared.fault.ClashKind.TheVariants.{SecondView, SecondDesign, Duplicate}
use Rattle.edif_spec.specs.declared.fault.MeaningFault.{MeaningFault}
use Rattle.edif_spec.specs.declared.fault.MeaningFault.TheVariants.{NotInProfile, At, Clash, OverLimit}

-- one of the list has the property
abbrev pub AtOne : {A : Type 0} → (A → Type 0) → List A → Type 0
AtOne P [] = ⊥
AtOne P (x ∷ xs) = P x ⊎ AtOne P xs

-- two of the list, the earlier one first, stand in the relation
abbrev pub AtTwo : {A : Type 0} → (A → A → Type 0) → List A → Type 0
AtTwo R [] = ⊥
AtTwo R (x ∷ xs) = AtOne (R x) xs ⊎ AtTwo R xs

-- where a node stands: a form at its `(`, a token at its first byte
abbrev pub place_of : Placed → ℕ
place_of (Form' p ts) = p
place_of (Word' p name) = p
place_of (Integer' p z) = p
place_of (String' p text) = p

-- what stands behind the keyword of a form
abbrev pub arguments : Placed → List Placed
arguments (Form' p (More t ts)) = items ts
arguments _ = []

-- how many fixed arguments a row has
abbrev pub fixed_count : FormRow → ℕ
fixed_count Skips = 0
fixed_count (Takes choices fs) = length choices

-- what stands behind the fixed arguments of a form with this keyword
abbrev pub followers : Keyword → Placed → List Placed
followers k t = drop (fixed_count (row k)) (arguments t)

-- the forms with one keyword, in order
abbrev pub those_of : Keyword → List Placed → List Placed
those_of k ts = filter (λ u. has_keyword k (bare u)) ts

-- the followers with one keyword of a form
abbrev pub parts : Keyword → Keyword → Placed → List Placed
parts k j t = those_of j (followers k t)

-- the fault is in one of these
abbrev pub Among : (Placed → MeaningFault → Type 0) → List Placed → MeaningFault → Type 0
Among F ts f = AtOne (λ u. F u f) ts

-- the fault is in the argument at this place of the form
abbrev pub InPart : ℕ → (Placed → MeaningFault → Type 0) → Placed → MeaningFault → Type 0
InPart i F t f = (u : Placed) × (slice_get (arguments t) i ≡ Some u) × F u f

-- the fault is in the argument at this place of the form, which is a form of this keyword
abbrev pub InForm : ℕ → Keyword → (Placed → MeaningFault → Type 0) → Placed → MeaningFault → Type 0
InForm i k F t f = (u : Placed) × (slice_get (arguments t) i ≡ Some u) × IsTrue (has_keyword k (bare u)) × F u f

-- the row has such an argument somewhere
abbrev pub row_has : FormRow → Bare → Bool
row_has Skips t = false
row_has (Takes choices fs) t = list_any (λ cs. is_one_of cs t) choices || is_follower fs t

-- An argument that may not stand where it does: a form whose keyword the row does not have is outside the profile; any other
-- form, with or without a keyword, is a bad form; and a token is wrong in the way of its row.
abbrev pub misplaced : Kind → FormRow → Placed → MeaningFault
misplaced kind r (Form' p (More (Word' q name) ts)) = if row_has r (bare (Form' p (More (Word' q name) ts))) then At BadForm p else NotInProfile name p
misplaced kind r (Form' p ts) = At BadForm p
misplaced kind r t = At kind (place_of t)

-- how a token in the place of a fixed argument is wrong
abbrev pub token_kind : Keyword → Kind
token_kind keywords.EdifVersion = BadVersion
token_kind keywords.EdifLevel = BadLevel
token_kind keywords.KeywordLevel = BadLevel
token_kind _ = BadForm

-- a fixed argument that is missing, at the form; or one that is none of its choices
abbrev pub FixedFault : (Placed → MeaningFault) → ℕ → List (List Choice) → List Placed → MeaningFault → Type 0
FixedFault wrong place [] ts f = ⊥
FixedFault wrong place (cs ∷ choices) [] f = f ≡ At BadForm place
FixedFault wrong place (cs ∷ choices) (t ∷ ts) f = ((is_one_of cs (bare t) ≡ false) × (f ≡ wrong t)) ⊎ FixedFault wrong place choices ts f

-- an argument that may not follow
abbrev pub FollowerFault : (Placed → MeaningFault) → List Follower → List Placed → MeaningFault → Type 0
FollowerFault wrong fs ts f = AtOne (λ t. (is_follower fs (bare t) ≡ false) × (f ≡ wrong t)) ts

-- a second form where one is allowed
abbrev pub second : Keyword → Placed → Placed → MeaningFault
second keywords.View a b = Clash SecondView (place_of b) (place_of a)
second keywords.Design a b = Clash SecondDesign (place_of b) (place_of a)
second _ a b = At BadForm (place_of b)

-- a second form of one that the row allows once
abbrev pub SecondFault : List Follower → List Placed → MeaningFault → Type 0
SecondFault [] ts f = ⊥
SecondFault (Many k ∷ fs) ts f = SecondFault fs ts f
SecondFault (One k ∷ fs) ts f = AtTwo (λ a b. f ≡ second k a b) (those_of k ts) ⊎ SecondFault fs ts f

-- the form breaches the row
abbrev pub Breaches : Kind → FormRow → Placed → MeaningFault → Type 0
Breaches kind Skips t f = ⊥
Breaches kind (Takes choices fs) t f = FixedFault (misplaced kind (Takes choices fs)) (place_of t) choices (arguments t) f
    ⊎ (FollowerFault (misplaced BadForm (Takes choices fs)) fs (drop (length choices) (arguments t)) f
    ⊎ SecondFault fs (drop (length choices) (arguments t)) f)

-- the form breaches the row of its keyword
abbrev pub RowFault : Keyword → Placed → MeaningFault → Type 0
RowFault k t f = Breaches (token_kind k) (row k) t f

-- the identifier that a rename has before its text, and the identifier's place
abbrev pub renamed : List Placed → Option (List ℕ × ℕ)
renamed (Word' p name ∷ String' q text ∷ []) = Some (name, p)
renamed _ = None

-- the identifier of a name definition, and its place: an identifier by itself, or that of a rename
abbrev pub name_of : Placed → Option (List ℕ × ℕ)
name_of (Word' p name) = Some (name, p)
name_of t = if has_keyword keywords.Rename (bare t) then renamed (arguments t) else None

-- a size that the array of a port or of a net may have
abbrev pub is_size : ℤ → Bool
is_size (pos n) = nat_le 1 n && nat_le n MOST_WIDTH
is_size (negsuc n) = false

-- the identifier of the name definition that an array has before its size, and the identifier's place
abbrev pub arrayed : List Placed → Option (List ℕ × ℕ)
arrayed (t ∷ Integer' p size ∷ []) = if is_size size then name_of t else None
arrayed _ = None

-- the same of the name of a port or of a net: a name definition, or an array
abbrev pub bus_name_of : Placed → Option (List ℕ × ℕ)
bus_name_of t = if has_keyword keywords.Array (bare t) then arrayed (arguments t) else name_of t

-- a port and a net may have the name of an array
abbrev pub may_be_array : Bare → Bool
may_be_array t = has_keyword keywords.Port t || has_keyword keywords.Net t

-- the identifier of the first argument as a name, which may be that of an array or not
abbrev pub first_name : Bool → List Placed → Option (List ℕ × ℕ)
first_name array [] = None
first_name true (t ∷ ts) = bus_name_of t
first_name false (t ∷ ts) = name_of t

-- the identifier that a form defines, and its place: that of its first argument, where this is a name definition
abbrev pub defined : Placed → Option (List ℕ × ℕ)
defined t = first_name (may_be_array (bare t)) (arguments t)

-- two definitions of one name, at the identifier of the later one
abbrev pub SameName : MeaningFault → Placed → Placed → Type 0
SameName f a b = (name : List ℕ) × (p : ℕ) × (q : ℕ) × (defined a ≡ Some (name, p)) × (defined b ≡ Some (name, q)) × (f ≡ Clash Duplicate q p)

-- a name is defined twice among these forms
abbrev pub Repeats : List Placed → MeaningFault → Type 0
Repeats ts f = AtTwo (SameName f) ts

-- there are more forms than the limit, at the first one beyond it
abbrev pub Beyond : ℕ → List Placed → MeaningFault → Type 0
Beyond limit ts f = (u : Placed) × (slice_get ts limit ≡ Some u) × (f ≡ OverLimit limit (place_of u))

-- a size counts where a port may have it, any other as 1
abbrev pub counted : ℕ → ℕ
counted size = if nat_le 1 size && nat_le size MOST_WIDTH then size else 1

-- the size of an array, 1 for any other name
abbrev pub width_with : Bool → Option Placed → ℕ
width_with true (Some (Integer' p (pos size))) = counted size
width_with _ _ = 1

-- the bits that the name of a port, or the nets that the name of a net, gives it as it is written
abbrev pub width_of : Placed → ℕ
width_of t = width_with (has_keyword keywords.Array (bare t)) (slice_get (arguments t) 1)

-- the same of a first argument, 1 where there is none
abbrev pub first_width : Option Placed → ℕ
first_width None = 1
first_width (Some u) = width_of u

-- the bits of a port, or the nets of the row of a net, as it is written
abbrev pub declared_width : Placed → ℕ
declared_width t = first_width (slice_get (arguments t) 0)

-- the forms, each as often as it counts
abbrev pub repeated : (Placed → ℕ) → List Placed → List Placed
repeated count ts = flat_map (λ t. replicate (count t) t) ts

-- two equal names of a list of names with places, at the later one
abbrev pub SameOfTwo : MeaningFault → List ℕ × ℕ → List ℕ × ℕ → Type 0
SameOfTwo f a b = (a.0 ≡ b.0) × (f ≡ Clash Duplicate b.1 a.1)

-- with so many bits before, the bits of these ports pass the limit, at the first port that passes it
abbrev pub BeyondBits : ℕ → ℕ → List Placed → MeaningFault → Type 0
BeyondBits limit before [] f = ⊥
BeyondBits limit before (t ∷ ts) f = ((before ≤ limit) × (limit < before + declared_width t) × (f ≡ OverLimit limit (place_of t))) ⊎ BeyondBits limit (before + declared_width t) ts f
