-- The file of a name, looked for from the front.
use Rattle.std.proofs.Common.{◌≡◌, ◌<◌, ◌+◌, ℕ, zero, suc, Bool, true, false, List, [], ◌∷◌, length, get_or, drop, refl, ap, sym, ◌∙◌, Some, arith, cond, add-one}
use Rattle.std.specs.Prelude.{option_map, find}
use Rattle.std.specs.Str.{bytes_eq}
use Rattle.netdb_outside.specs.Outside.{file_named}
use Rattle.netdb_outside.specs.MemFiles.{bytes_at, named}
use Rattle.netdb_outside.specs.declared.mem_files.NamedFile.{NamedFile}

-- the file at the front has the name, or those behind it are looked through
front : List NamedFile → List ℕ → NamedFile → Bool → Type 0
front files name file b = option_map (λ f. f.1) (cond b (Some (file.name, file.bytes)) (find (λ f. bytes_eq f.0 name) (named files))) ≡ cond b (Some file.bytes) (file_named (named files) name)

at_front : (files : List NamedFile) (name : List ℕ) (file : NamedFile) (b : Bool) → front files name file b
unfolding front
at_front files name file true = refl
at_front files name file false = refl

pub name_found : (files : List NamedFile) (name : List ℕ) (i : ℕ) (file : NamedFile) → i < length files → file ≡ get_or files i file → true ≡ bytes_eq file.name name → file_named (named (drop i files)) name ≡ Some (bytes_at files i)
unfolding front
name_found [] name i file below is same = absurd (omega arith)
name_found (f ∷ files) name zero file below is same =
    at_front files name f (bytes_eq f.name name) ∙ ap (λ b. cond b (Some f.bytes) (file_named (named files) name)) (ap (λ x. bytes_eq x.name name) (sym is) ∙ sym same)
name_found (f ∷ files) name (suc i) file below is same = name_found files name i file (omega arith) is same

passed : (files : List NamedFile) (name : List ℕ) (i : ℕ) (file : NamedFile) → i < length files → file ≡ get_or files i file → false ≡ bytes_eq file.name name → file_named (named (drop i files)) name ≡ file_named (named (drop (suc i) files)) name
unfolding front
passed [] name i file below is other = absurd (omega arith)
passed (f ∷ files) name zero file below is other =
    at_front files name f (bytes_eq f.name name) ∙ ap (λ b. cond b (Some f.bytes) (file_named (named files) name)) (ap (λ x. bytes_eq x.name name) (sym is) ∙ sym other)
passed (f ∷ files) name (suc i) file below is other = passed files name i file (omega arith) is other

pub name_passed : (files : List NamedFile) (name : List ℕ) (i : ℕ) (file : NamedFile) → i < length files → file ≡ get_or files i file → false ≡ bytes_eq file.name name → file_named (named (drop i files)) name ≡ file_named (named (drop (i + 1) files)) name
name_passed files name i file below is other = rw add-one (passed files name i file below is other)
