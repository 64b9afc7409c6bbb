-- Files that were read, and files that were refused.
use Rattle.std.proofs.Common.{◌≡◌, ◌≤◌, ◌<◌, ◌+◌, inl, inr, List, [], ◌∷◌, ◌++◌, length, get_or, take, drop, Option, None, Some, refl, ap, sym, ◌∙◌, subst, arith, length-append, String, string_bytes, Global}
use Prim.Native.Nat.{ℕ, zero, suc}
use Rattle.std.specs.Prelude.{Bool, false, is_ok, is_err, if◌then◌else◌, IfSome, IsSomeAnd, IfOk, IfErr, MatchResult, Result, Ok, Err}
use Rattle.std.proofs.lemmas.Grind.{take_at_read}
use Rattle.std.proofs.lemmas.List.{drop_all, length-map, length-take-le, map-append}
use Rattle.netlist_schema.specs.declared.limits.TheConstants.{MOST_FILE_BYTES}
use Rattle.netdb_outside.specs.Contents.{IsReadWhole}
use Rattle.netdb_outside.specs.Outside.{Folder, SameFiles, file_named}
use Rattle.edif_spec.specs.Design.{Design}
use Rattle.script_run_spec.specs.Scripts.{all_steps}
use Rattle.script_spec.specs.ScriptText.{Parts, steps_of}
use Rattle.script_spec.specs.declared.script.Step.{Step}
use Rattle.edif_spec.specs.Files.{IsDesignFile}
use Rattle.edif_spec.proofs.BytesLemmas.{reads_back}
use Rattle.netdb_spec.specs.Command.{spelled}
use Rattle.netdb_spec.specs.Counts.{CountsReading}
use Rattle.netdb_spec.specs.Refusals.{IsBad, RefusesDesign, RefusesScript, RefusesScripts}
use Rattle.netdb_spec.specs.Steps.{IsNoDesign, IsNoScript, status_of}
use Rattle.netdb_spec.specs.Told.{AreRead, IsBadScript, IsFile, IsLastRead, IsRead, IsReadThrough, IsScriptFile}
use Rattle.script_spec.specs.declared.limits.TheConstants.{MOST_SCRIPT_BYTES}
use Rattle.netdb_spec.specs.declared.status.Status.{Status}
use Rattle.netdb_spec.specs.declared.status.Status.TheVariants as status

-- ---- one file

-- what holds of the bytes that were read holds of the file
pub some_file : (told : Option Folder) (name bytes : List ℕ) (P : List ℕ → Type 0) → IfSome told (λ folder. IsReadWhole folder name bytes) → P bytes → IsFile told name P
some_file None name bytes P h p = tt
some_file (Some folder) name bytes P h p = rw h.0 p

pub read_through : (told : Option Folder) (name bytes : List ℕ) (limit : ℕ) → length bytes ≤ limit → IfSome told (λ folder. IsReadWhole folder name bytes) → IsReadThrough told name limit
read_through None name bytes limit size h = tt
read_through (Some folder) name bytes limit size h = rw h.0 (h.1 ∙ sym (drop_all (limit + 1) bytes (omega (arith, size))))

-- so is that of bytes that were read
pub report_through : (told : Option Folder) (name : List ℕ) (limit : ℕ) (r : Result (List ℕ) Status) → IfOk r (λ bytes. (length bytes ≤ limit) × IfSome told (λ folder. IsReadWhole folder name bytes))
    → IfOk r (λ _. IsReadThrough told name limit)
report_through told name limit (Ok bytes) h = read_through told name bytes limit h.0 h.1
report_through told name limit (Err result) h = tt

-- a file stays as it is
pub stays : (old new : Option Folder) (name : List ℕ) (P : List ℕ → Type 0) → SameFiles old new → IsFile old name P → IsFile new name P
stays None None name P same h = tt
stays None (Some folder) name P same h = absurd (cc same)
stays (Some folder) None name P same h = tt
stays (Some folder) (Some other) name P same h = let files : other.files ≡ folder.files = cc same in subst (λ fs. IsSomeAnd (file_named fs name) P) (sym files) h

-- ---- counts

-- no fault was counted
pub none_counted : (old new : ℕ) (result : Status) → ((word : ℕ) → result ≡ status.ReadFault word → ⊥) → new ≡ old → CountsReading old new result
none_counted old new result none same = record { fault = λ word is. absurd (none word is); first = λ behind. same; never_falls = omega (arith, same) }

-- ---- the design file

pub was_read : (told : Option Folder) (name bytes : List ℕ) (d : Design) → IfSome told (λ folder. IsReadWhole folder name bytes) → IsDesignFile bytes d → IsRead told name d
was_read told name bytes d h file = record {
  valid = file.means.valid;
  reads_back = reads_back bytes d file;
  file = some_file told name bytes (λ (b : List ℕ). IsDesignFile b d) h file;
}

pub refused_bytes : (told : Option Folder) (name bytes : List ℕ) (result : Status) → length bytes ≤ MOST_FILE_BYTES → IfSome told (λ folder. IsReadWhole folder name bytes)
    → IsNoDesign bytes result → RefusesDesign told name result
refused_bytes told name bytes status.Ok size read h = absurd h
refused_bytes told name bytes status.Usage size read h = absurd h
refused_bytes told name bytes (status.Missing word) size read h = absurd h
refused_bytes told name bytes (status.ReadFault word) size read h = absurd h
refused_bytes told name bytes status.WriteFault size read h = absurd h
refused_bytes told name bytes (status.BadEdif fault) size read h = (some_file told name bytes (IsBad fault) read (size, h), read_through told name bytes MOST_FILE_BYTES size read)
refused_bytes told name bytes (status.BadScript word line) size read h = absurd h
refused_bytes told name bytes (status.TooLarge word) size read h = absurd h
refused_bytes told name bytes status.NoTop size read h = absurd h
refused_bytes told name bytes status.LogFull size read h = absurd h
refused_bytes told name bytes status.NoMemory size read h = tt

-- the design that was read from the file with these bytes, or why none was
pub design_read : (told : Option Folder) (name bytes : List ℕ) (r : Result Design Status) → length bytes ≤ MOST_FILE_BYTES → IfSome told (λ folder. IsReadWhole folder name bytes)
    → MatchResult r (IsDesignFile bytes) (IsNoDesign bytes)
    → IfOk r (λ d. IsRead told name d × IsReadThrough told name MOST_FILE_BYTES) × IfErr r (RefusesDesign told name)
design_read told name bytes (Ok d) size read h = ((was_read told name bytes d read h, read_through told name bytes MOST_FILE_BYTES size read), tt)
design_read told name bytes (Err result) size read h = (tt, refused_bytes told name bytes result size read h)

-- reading bytes that were all taken counts no fault
pub design_counted : (old new : ℕ) (bytes : List ℕ) (r : Result Design Status) → MatchResult r (IsDesignFile bytes) (IsNoDesign bytes) → new ≡ old → CountsReading old new (status_of r)
design_counted old new bytes (Ok d) h same = none_counted old new status.Ok (λ word is. absurd (cc is)) same
design_counted old new bytes (Err result) h same = none_counted old new result (λ word is. (let N : Status → Type 0 = IsNoDesign bytes in subst N is h)) same

-- ---- scripts

pub refused_text : (told : Option Folder) (name bytes : List ℕ) (at : ℕ) (result : Status) → length bytes ≤ MOST_SCRIPT_BYTES → IfSome told (λ folder. IsReadWhole folder name bytes)
    → IsNoScript bytes at result → RefusesScript told name at result
refused_text told name bytes at status.Ok size read h = absurd h
refused_text told name bytes at status.Usage size read h = absurd h
refused_text told name bytes at (status.Missing word) size read h = absurd h
refused_text told name bytes at (status.ReadFault word) size read h = absurd h
refused_text told name bytes at status.WriteFault size read h = absurd h
refused_text told name bytes at (status.BadEdif fault) size read h = absurd h
refused_text told name bytes at (status.BadScript word line) size read h = (h.0, some_file told name bytes (IsBadScript line) read (size, h.1), read_through told name bytes MOST_SCRIPT_BYTES size read)
refused_text told name bytes at (status.TooLarge word) size read h = absurd h
refused_text told name bytes at status.NoTop size read h = absurd h
refused_text told name bytes at status.LogFull size read h = absurd h
refused_text told name bytes at status.NoMemory size read h = tt

-- the script that was read from the file with this text, or why none was
pub script_read : (told : Option Folder) (name bytes : List ℕ) (at : ℕ) (r : Result Parts Status) → length bytes ≤ MOST_SCRIPT_BYTES → IfSome told (λ folder. IsReadWhole folder name bytes)
    → MatchResult r (λ script. IsScriptFile bytes (steps_of script.lines)) (IsNoScript bytes at)
    → IfOk r (λ script. IsFile told name (λ b. IsScriptFile b (steps_of script.lines)) × IsReadThrough told name MOST_SCRIPT_BYTES) × IfErr r (RefusesScript told name at)
script_read told name bytes at (Ok script) size read h =
    ((some_file told name bytes (λ (b : List ℕ). IsScriptFile b (steps_of script.lines)) read h, read_through told name bytes MOST_SCRIPT_BYTES size read), tt)
script_read told name bytes at (Err result) size read h = (tt, refused_text told name bytes at result size read h)

-- scripts stay as they are
pub all_stay : (old new : Option Folder) (names : List (List ℕ)) (scripts : List (List Step)) → SameFiles old new → AreRead old names scripts → AreRead new names scripts
all_stay old new [] [] same h = tt
all_stay old new [] (steps ∷ scripts) same h = absurd h
all_stay old new (name ∷ names) [] same h = absurd h
all_stay old new (name ∷ names) (steps ∷ scripts) same h = (stays old new name (λ bytes. IsScriptFile bytes steps) same h.0, all_stay old new names scripts same h.1)

-- one script more
pub one_more : (told : Option Folder) (names : List (List ℕ)) (scripts : List (List Step)) (name : List ℕ) (steps : List Step)
    → AreRead told names scripts → IsFile told name (λ bytes. IsScriptFile bytes steps) → AreRead told (names ++ name ∷ []) (scripts ++ steps ∷ [])
one_more told [] [] name steps h k = (k, tt)
one_more told [] (other ∷ scripts) name steps h k = absurd h
one_more told (other ∷ names) [] name steps h k = absurd h
one_more told (other ∷ names) (others ∷ scripts) name steps h k = (h.0, one_more told names scripts name steps h.1 k)

-- the file behind those that were read is refused
pub refused_behind : (told : Option Folder) (names : List (List ℕ)) (scripts : List (List Step)) (name : List ℕ) (rest : List (List ℕ)) (at : ℕ) (result : Status)
    → AreRead told names scripts → RefusesScript told name (at + length names) result → RefusesScripts told (names ++ name ∷ rest) at result
refused_behind told [] [] name rest at result h k = let e : at + 0 ≡ at = omega arith in inl (subst (λ n. RefusesScript told name n result) e k)
refused_behind told [] (steps ∷ scripts) name rest at result h k = absurd h
refused_behind told (other ∷ names) [] name rest at result h k = absurd h
refused_behind told (other ∷ names) (steps ∷ scripts) name rest at result h k =
    let e : at + length (other ∷ names) ≡ at + 1 + length names = omega arith in
    inr (steps, h.0, refused_behind told names scripts name rest (at + 1) result h.1 (subst (λ n. RefusesScript told name n result) e k))

-- ---- one script after the other

-- the last of a list that ends in one
snoc_last : (xs ys : List (List ℕ)) (x y : List ℕ) → xs ++ x ∷ [] ≡ ys ++ y ∷ [] → x ≡ y
snoc_last [] [] x y e = ap (λ ws. get_or ws 0 []) e
snoc_last [] (b ∷ ys) x y e = absurd (omega (arith, ap length e, length-append ys (y ∷ [])))
snoc_last (a ∷ xs) [] x y e = absurd (omega (arith, ap length e, length-append xs (x ∷ [])))
snoc_last (a ∷ xs) (b ∷ ys) x y e = snoc_last xs ys x y (ap (λ ws. drop 1 ws) e)

last_of : (told : Option Folder) (names : List (List ℕ)) (name : List ℕ) → IsReadThrough told name MOST_SCRIPT_BYTES → IsLastRead told (names ++ name ∷ [])
last_of told names name read front last is = subst (λ n. IsReadThrough told n MOST_SCRIPT_BYTES) (snoc_last names front name last is) read

-- the names up to a place and the one there
pub names_up_to : (names : List (String Global)) (i : ℕ) (name : String Global) → i < length names → name ≡ get_or names i name → spelled (take (i + 1) names) ≡ spelled (take i names) ++ string_bytes name ∷ []
names_up_to names i name less is =
    ap spelled (take_at_read names i name less).1
    ∙ (map-append string_bytes (take i names) (get_or names i name ∷ []) ∙ ap (λ n. spelled (take i names) ++ string_bytes n ∷ []) (sym is))

-- one script more was read
pub read_one_more : (old new : Option Folder) (names : List (String Global)) (i : ℕ) (name : String Global) (scripts : List Parts) (script : Parts) → i < length names → name ≡ get_or names i name
    → SameFiles old new → AreRead old (spelled (take i names)) (all_steps scripts)
    → IsFile new (string_bytes name) (λ bytes. IsScriptFile bytes (steps_of script.lines)) × IsReadThrough new (string_bytes name) MOST_SCRIPT_BYTES
    → AreRead new (spelled (take (i + 1) names)) (all_steps (scripts ++ script ∷ [])) × IsLastRead new (spelled (take (i + 1) names))
read_one_more old new names i name scripts script less is same read one =
    let up = names_up_to names i name less is in
    let all : all_steps (scripts ++ script ∷ []) ≡ all_steps scripts ++ steps_of script.lines ∷ [] = map-append (λ (s : Parts). steps_of s.lines) scripts (script ∷ []) in (
      subst (λ (x : List (List ℕ) × List (List Step)). AreRead new x.0 x.1) (λ j. (sym up j, sym all j))
          (one_more new (spelled (take i names)) (all_steps scripts) (string_bytes name) (steps_of script.lines) (all_stay old new (spelled (take i names)) (all_steps scripts) same read) one.0),
      subst (IsLastRead new) (sym up) (last_of new (spelled (take i names)) (string_bytes name) one.1),
    )

-- the names before a place, the one there, and those behind it
parted : (names : List (String Global)) (i : ℕ) (name : String Global) → i < length names → names ≡ take i names ++ get_or names i name ∷ drop (suc i) names
parted [] i name less = absurd (omega (arith, less))
parted (other ∷ names) zero name less = refl
parted (other ∷ names) (suc i) name less = ap (λ (rest : List (String Global)). other ∷ rest) (parted names i name (omega (arith, less)))

pub names_parted : (names : List (String Global)) (i : ℕ) (name : String Global) → i < length names → name ≡ get_or names i name
    → spelled names ≡ spelled (take i names) ++ string_bytes name ∷ spelled (drop (suc i) names)
names_parted names i name less is =
    ap spelled (parted names i name less)
    ∙ (map-append string_bytes (take i names) (get_or names i name ∷ drop (suc i) names) ∙ ap (λ n. spelled (take i names) ++ string_bytes n ∷ spelled (drop (suc i) names)) (sym is))

-- the script at a place is refused
pub refused_at : (old new : Option Folder) (names : List (String Global)) (i : ℕ) (name : String Global) (scripts : List Parts) (first : ℕ) (result : Status) → i < length names → name ≡ get_or names i name
    → SameFiles old new → AreRead old (spelled (take i names)) (all_steps scripts) → RefusesScript new (string_bytes name) (i + first) result → RefusesScripts new (spelled names) first result
refused_at old new names i name scripts first result less is same read refused =
    let front = spelled (take i names) in
    let rest = spelled (drop (suc i) names) in
    let count : length front ≡ i = length-map (take i names) string_bytes ∙ length-take-le i names (omega (arith, less)) in
    let at : i + first ≡ first + length front = omega (arith, count) in
    let parts : spelled names ≡ front ++ string_bytes name ∷ rest = names_parted names i name less is in
    subst (λ (ns : List (List ℕ)). RefusesScripts new ns first result) (sym parts)
    (refused_behind new front (all_steps scripts) (string_bytes name) rest first result (all_stay old new front (all_steps scripts) same read)
    (subst (λ (n : ℕ). RefusesScript new (string_bytes name) n result) at refused))

-- a push that was not refused
pub pushed : {A E : Type 0} (r : Result A E) (items old : List Parts) (script : Parts) (refused : Bool) → items ≡ (if is_ok r then old ++ script ∷ [] else old) → refused ≡ is_err r → refused ≡ false
    → items ≡ old ++ script ∷ []
pushed (Ok x) items old script refused all is well = all
pushed (Err e) items old script refused all is well = absurd (cc (sym well ∙ is))

pub pushed_count : {A E : Type 0} (r : Result A E) (new old place : ℕ) (refused : Bool) → new ≡ (if is_ok r then old + 1 else old) → refused ≡ is_err r → refused ≡ false → old ≡ place → new ≡ place + 1
pushed_count (Ok x) new old place refused all is well same = all ∙ ap (λ n. n + 1) same
pushed_count (Err e) new old place refused all is well same = absurd (cc (sym well ∙ is))
