-- The text of a path, its names with `/` between them, reads as the path: the parts are the names again, and each is
-- entered. Nothing here is about how a text is read in the code.
use Rattle.std.proofs.Common.{◌≡◌, ℕ, ◌+◌, ◌-◌, ◌<◌, ◌≤◌, ◌==◌, true, false, ◌||◌, if◌then◌else◌, List, [], ◌∷◌, ◌++◌, length, take, Ok}
use Rattle.std.proofs.Common.{Err, refl, sym, ap, ◌∙◌, arith, append_assoc, length-append}
use Rattle.std.specs.List.{All}
use Rattle.std.proofs.lemmas.Bool.{lt-ltb}
use Rattle.std.proofs.lemmas.List.{append-nil}
use Rattle.std.proofs.lemmas.List.Elements.{All-head, All-tail, All-weaker}
use Rattle.std.proofs.lemmas.List.Sums.{AllPass-from_list_all}
use Rattle.std.proofs.lemmas.List.Splits.{slice_split_none, slice_split_at}
use Rattle.llb_wire.specs.CallResults.{◌>>=◌}
use Rattle.llb_tree.specs.declared.fault.TreeFault.TheVariants.{BadName}
use Rattle.llb_tree.specs.Path.{is_name, is_name_byte, IsPath, below, enter, follow, parts_of, path_of, joined, ReadsBack}
use Rattle.llb_tree.proofs.NameTests.{passes_tests, no_slash}

abbrev Named : List ℕ → Type 0
Named name = is_name name ≡ true

-- a name leads one down
enter_name : (path : List (List ℕ)) (name : List ℕ) → is_name name ≡ true → length path < 128 → enter path name ≡ Ok (path ++ name ∷ [])
enter_name path name is room =
    let tests = passes_tests name is in
    (λ i. if tests.some i || tests.dot i then
    Ok path else (if tests.dots i then Ok (take (length path - 1) path) else ((if is i then Ok name else Err BadName) >>= below path)))
    ∙ ap (λ b. if b then Ok (path ++ name ∷ []) else Err BadName) (lt-ltb _ _ room)

follow_names : (path names : List (List ℕ)) → All Named names → length path + length names ≤ 128 → follow path names ≡ Ok (path ++ names)
follow_names path [] all room = ap Ok (sym (append-nil path))
follow_names path (name ∷ names) all room =
    ap (λ r. r >>= λ next. follow next names) (enter_name path name (All-head Named name names all) (omega arith))
    ∙ follow_names (path ++ name ∷ []) names (All-tail Named name names all) (omega (arith, length-append path (name ∷ [])))
    ∙ ap Ok (append_assoc path (name ∷ []) names)

by_byte : (name : List ℕ) → is_name name ≡ true → All (λ b. (b == 47) ≡ false) name
by_byte name is = All-weaker (λ b. is_name_byte b ≡ true) (λ b. (b == 47) ≡ false) no_slash name
    (AllPass-from_list_all is_name_byte name (passes_tests name is).plain)

-- the parts of names with `/` between them are the names
pub parts_joined : (name : List ℕ) (names : List (List ℕ)) → All Named (name ∷ names) → parts_of (joined (name ∷ names)) ≡ name ∷ names
parts_joined name [] all = slice_split_none (λ b. b == 47) name (by_byte name (All-head Named name [] all))
parts_joined name (other ∷ names) all =
    slice_split_at (λ b. b == 47) name 47 (joined (other ∷ names)) (by_byte name (All-head Named name (other ∷ names) all)) refl
    ∙ ap (λ parts. name ∷ parts) (parts_joined other names (All-tail Named name (other ∷ names) all))

reads : (path : List (List ℕ)) → IsPath path → path_of (joined path) ≡ Ok path
reads [] is = refl
reads (name ∷ names) is = ap (follow []) (parts_joined name names is.named) ∙ follow_names [] (name ∷ names) is.named (omega (arith, is.short))

-- a path's names with `/` between them read as the path, with a `/` before them or without
pub reads_back : (path : List (List ℕ)) → IsPath path → ReadsBack path
reads_back path is = record { relative = reads path is; absolute = reads path is }
