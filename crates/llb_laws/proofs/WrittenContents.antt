-- What a program writes without the byte that begins tokens is related to itself, where each content without that byte is.
use Rattle.std.proofs.Common.{◌≡◌, ℕ, suc, ◌<◌, true, false, ◌||◌, ◌⊎◌, ◌==◌, List, [], ◌∷◌, ◌++◌, Option, Some, None, refl, sym, ap, subst, ◌∙◌}
use Rattle.std.proofs.Common.{inl, inr, arith, get_or, nat_lt, cond, Bool, ◌+◌, ◌/◌}
use Rattle.std.specs.Prelude.{IsAscii, codes, unwrap_or}
use Rattle.std.specs.Str.{is_utf8}
use Rattle.std.specs.FinMap as finite
use Rattle.std.proofs.Math.Utf8.{encode, encodes, next, scalar, scalars, scalar_cases}
use Rattle.std.proofs.lemmas.Str.{IsUtf8-from_is_utf8}
use Rattle.std.specs.List.{All, flat_map, list_any}
use Rattle.std.proofs.lemmas.Bool.{agree_below_at, and_parts, cases_lt, ltb-true, ne_eqb, or_parts}
use Rattle.std.proofs.lemmas.List.{get_or_past}
use Rattle.std.proofs.lemmas.List.Elements.{All-nil, All-cons, All-head, All-tail, All-map}
use Rattle.llb_ops.specs.declared.file_op.ActionKind.{ActionKind}
use Rattle.llb_ops.specs.declared.file_op.ActionKind.TheVariants as kind
use Rattle.llb_ops.specs.declared.exec.Meta.{Meta}
use Rattle.llb_ops.specs.declared.merge.MergeInput.{MergeInput}
use Rattle.llb_ops.specs.declared.op.Kind.{Kind}
use Rattle.llb_ops.specs.declared.op.Kind.TheVariants as op
use Rattle.hex.specs.Hex.{lower_digits}
use Rattle.hex.proofs.HexLemmas.{IsAscii-encode_with}
use Rattle.sha2.specs.Sha256.{sha256}
use Rattle.llb_wire.specs.Digest.{digits_of}
use Rattle.llb_tree.specs.Path.{is_name}
use Rattle.llb_tree.specs.Tree.{TreeMap, is_dir}
use Rattle.llb_applet.specs.declared.directory_and_variables.Setting.{Setting}
use Rattle.llb_applet.specs.declared.command.Command.{Command}
use Rattle.llb_applet.specs.declared.command.Command.TheVariants as command
use Rattle.llb_applet.specs.declared.joined_commands.Joined.{Joined}
use Rattle.llb_applet.specs.Commands.{line, line_of, listed}
use Rattle.llb_loader.specs.declared.graph.Vertex.{Vertex}
use Rattle.llb_model.specs.Program.{MicroStep, ReadLocal, Act, LayInput, Run, all_and, runs_of, setting_of, steps_of, program_of}
use Rattle.llb_laws.specs.AlikeTrees.{RelatesBody}
use Rattle.llb_laws.specs.ContentLaws.{has_mark, digests, step_digests, writes_mark, body_has_mark, step_writes_mark}
use Rattle.llb_laws.proofs.AlikeTreesWithNames.{Texts, Writes}
use Rattle.llb_laws.proofs.PathsOfNames.{inside_named}

-- ---- contents without the byte

pub unmarked_both : (a c : List ℕ) → has_mark a ≡ false → has_mark c ≡ false → has_mark (a ++ c) ≡ false
unmarked_both [] c first second = second
unmarked_both (b ∷ a) c first second =
    ap (λ t. t || has_mark (a ++ c)) (or_parts (b == 255) (has_mark a) first).0 ∙ unmarked_both a c (or_parts (b == 255) (has_mark a) first).1 second

ascii_unmarked : (a : List ℕ) → IsAscii a → has_mark a ≡ false
ascii_unmarked [] ascii = refl
ascii_unmarked (b ∷ a) ascii =
    ap (λ t. t || has_mark a) (ne_eqb b 255 (λ e. omega (arith, e, ascii 0))) ∙ ascii_unmarked a (λ i. ascii (suc i))

-- a digit of the table, and 0, which is read past its end
digit_ascii : (k : ℕ) → get_or lower_digits k 0 < 128
digit_ascii k = elim (cases_lt k 16) [
  | inl below ↦ ltb-true (get_or lower_digits k 0) 128 (agree_below_at (λ k. nat_lt (get_or lower_digits k 0) 128) (λ _. true) 16 k refl below)
  | inr past ↦ subst (λ v. v < 128) (sym (get_or_past lower_digits k 0 past)) (omega arith)
]

-- the line of a digest
pub digest_unmarked : (a : List ℕ) → has_mark (line (digits_of a)) ≡ false
digest_unmarked a =
    unmarked_both (digits_of a) (10 ∷ []) (ascii_unmarked (digits_of a) (IsAscii-encode_with lower_digits (sha256 a) digit_ascii)) refl

-- ---- listings

byte_unmarked : (b : ℕ) (a : List ℕ) → b < 255 → has_mark a ≡ false → has_mark (b ∷ a) ≡ false
byte_unmarked b a below rest = ap (λ t. t || has_mark a) (ne_eqb b 255 (λ e. omega (arith, e, below))) ∙ rest

either_unmarked : (t : Bool) (a c : List ℕ) → (t ≡ true → has_mark a ≡ false) → has_mark c ≡ false → has_mark (cond t a c) ≡ false
either_unmarked true a c first second = first refl
either_unmarked false a c first second = second

-- the bytes of a character
encode_unmarked : (c : ℕ) → c < 1114112 → has_mark (encode c) ≡ false
unfolding encode
encode_unmarked c top =
    let last : (x : ℕ) → has_mark (next x ∷ []) ≡ false = λ x. byte_unmarked (next x) [] (omega arith) refl in
    let lasts : (x y : ℕ) → has_mark (next x ∷ next y ∷ []) ≡ false = λ x y. byte_unmarked (next x) (next y ∷ []) (omega arith) (last y) in
    either_unmarked (nat_lt c 128) (c ∷ []) _ (λ t. let below = ltb-true c 128 t in byte_unmarked c [] (omega (arith, below)) refl)
    (either_unmarked (nat_lt c 2048) ((192 + c / 64) ∷ next c ∷ []) _
    (λ t. let below = ltb-true c 2048 t in byte_unmarked (192 + c / 64) (next c ∷ []) (omega (arith, below)) (last c))
    (either_unmarked (nat_lt c 65536) ((224 + c / 4096) ∷ next (c / 64) ∷ next c ∷ []) _
    (λ t. let below = ltb-true c 65536 t in byte_unmarked (224 + c / 4096) (next (c / 64) ∷ next c ∷ []) (omega (arith, below)) (lasts (c / 64) c))
    (byte_unmarked (240 + c / 262144) (next (c / 4096) ∷ next (c / 64) ∷ next c ∷ []) (omega (arith, top))
    (byte_unmarked (next (c / 4096)) (next (c / 64) ∷ next c ∷ []) (omega arith) (lasts (c / 64) c)))))

scalar_below : (c : ℕ) → scalar c ≡ true → c < 1114112
scalar_below c is = elim (scalar_cases c is) [ inl low ↦ omega (arith, low) | inr high ↦ high.1 ]

encodes_unmarked : (cs : List ℕ) → scalars cs ≡ true → has_mark (encodes cs) ≡ false
encodes_unmarked [] are = refl
encodes_unmarked (c ∷ cs) are =
    unmarked_both (encode c) (encodes cs) (encode_unmarked c (scalar_below c (and_parts (scalar c) (scalars cs) are).0))
    (encodes_unmarked cs (and_parts (scalar c) (scalars cs) are).1)

utf8_unmarked : (a : List ℕ) → is_utf8 a ≡ true → has_mark a ≡ false
utf8_unmarked a is = let utf8 = IsUtf8-from_is_utf8 a is in subst (λ b. has_mark b ≡ false) utf8.1.1 (encodes_unmarked utf8.0 utf8.1.0)

abbrev pub IsName : List ℕ → Type 0
IsName name = is_name name ≡ true

pub a_name : (n : List ℕ) → is_name n ≡ true → IsName n
a_name n is = is

name_unmarked : (a : List ℕ) → IsName a → has_mark a ≡ false
name_unmarked a is = utf8_unmarked a (and_parts _ (is_utf8 a) is).1

-- names in UTF-8, each with a line end
listed_unmarked : (t : TreeMap) (p names : List (List ℕ)) → All IsName names → has_mark (listed t p names) ≡ false
listed_unmarked t p [] all = refl
listed_unmarked t p (name ∷ names) all =
    unmarked_both (line_of t p name) (listed t p names)
    (unmarked_both (name ++ slash) (10 ∷ [])
    (unmarked_both name slash (name_unmarked name (All-head IsName name names all)) (slash_unmarked (is_dir (finite.get t (p ++ name ∷ []))))) refl)
    (listed_unmarked t p names (All-tail IsName name names all))
  where
    slash : List ℕ
    slash = cond (is_dir (finite.get t (p ++ name ∷ []))) (codes "/") []

    slash_unmarked : (b : Bool) → has_mark (cond b (codes "/") []) ≡ false
    slash_unmarked true = refl
    slash_unmarked false = refl

-- ---- where commands begin

-- the cwd of a command has only names
abbrev IsInNames : MicroStep → Type 0
IsInNames (Run s c ends) = All IsName s.cwd
IsInNames ReadLocal = Unit {0}
IsInNames (Act a) = Unit {0}
IsInNames (LayInput i) = Unit {0}

runs_in : (s : Setting) → All IsName s.cwd → (cs : List Joined) → All IsInNames (runs_of s cs)
runs_in s cwd [] = All-nil IsInNames
runs_in s cwd (c ∷ cs) = All-cons IsInNames (Run s c (all_and cs)) (runs_of s cs) cwd (runs_in s cwd cs)

setting_in : (m : Option Meta) → All IsName (setting_of m).cwd
setting_in (Some m) = inside_named IsName a_name m.cwd
setting_in None = All-nil IsName

steps_in : (k : Option Kind) (script : Option (List Joined)) → All IsInNames (steps_of k script)
steps_in (Some (op.Source s)) script = All-cons IsInNames ReadLocal [] tt (All-nil IsInNames)
steps_in (Some (op.File f)) script = All-map IsInNames Act f.actions (λ k d l. tt)
steps_in (Some (op.Merge m)) script = All-map IsInNames (λ (i : MergeInput). LayInput i.input) m.inputs (λ k d l. tt)
steps_in (Some (op.Exec x)) script = runs_in (setting_of x.meta) (setting_in x.meta) (unwrap_or script [])
steps_in (Some (op.Build b)) script = All-nil IsInNames
steps_in (Some (op.Diff d)) script = All-nil IsInNames
steps_in None script = All-nil IsInNames

-- ---- steps

module _ (R : List ℕ → List ℕ → Type 0) (itself : (a : List ℕ) → has_mark a ≡ false → R a a) where
  -- the digests of related contents are related
  abbrev pub Digests : Type 0
  Digests = (a b : List ℕ) → R a b → R (line (digits_of a)) (line (digits_of b))

  relates_texts : (s : Setting) (c : Command) → writes_mark s c ≡ false → (digests c ≡ false) ⊎ Digests → Texts IsName R s c
  relates_texts s (command.Write path word) none digest = itself (line word) none
  relates_texts s (command.Append path word) none digest = itself (line word) none
  relates_texts s (command.Envfile out) none digest = itself (flat_map line s.env) none
  relates_texts s (command.Listing path out) none digest = λ t p names all. itself (listed t p names) (listed_unmarked t p names all)
  relates_texts s (command.Sha256 path out) none (inl not) = absurd cc
  relates_texts s (command.Sha256 path out) none (inr digest) = digest
  relates_texts s command.True none digest = tt
  relates_texts s command.False none digest = tt
  relates_texts s (command.Mkdir parents path) none digest = tt
  relates_texts s (command.Rm path) none digest = tt
  relates_texts s (command.Cp from to) none digest = tt
  relates_texts s (command.Concat out parts) none digest = tt
  relates_texts s (command.Chmod mode path) none digest = tt
  relates_texts s (command.Test kind path) none digest = tt

  relates_body : (a : Option ActionKind) → body_has_mark a ≡ false → RelatesBody R a
  relates_body (Some (kind.MkFile m)) none = itself m.body none
  relates_body (Some (kind.MkDir m)) none = tt
  relates_body (Some (kind.Copy c)) none = tt
  relates_body (Some (kind.Rm r)) none = tt
  relates_body None none = tt

  relates_step : (m : MicroStep) → IsInNames m → step_writes_mark m ≡ false → (step_digests m ≡ false) ⊎ Digests → Writes IsName R m
  relates_step ReadLocal cwd none digest = tt
  relates_step (Act a) cwd none digest = relates_body a.kind none
  relates_step (LayInput i) cwd none digest = tt
  relates_step (Run s c ends) cwd none digest = (cwd, relates_texts s c.command none digest)

  relates_each : (steps : List MicroStep) → All IsInNames steps → list_any step_writes_mark steps ≡ false
      → (list_any step_digests steps ≡ false) ⊎ Digests → All (Writes IsName R) steps
  relates_each [] cwds none digest = All-nil (Writes IsName R)
  relates_each (m ∷ steps) cwds none digest =
      let here = or_parts (step_writes_mark m) (list_any step_writes_mark steps) none in
      All-cons (Writes IsName R) m steps (relates_step m (All-head IsInNames m steps cwds) here.0 (first digest))
      (relates_each steps (All-tail IsInNames m steps cwds) here.1 (rest digest))
    where
      first : (list_any step_digests (m ∷ steps) ≡ false) ⊎ Digests → (step_digests m ≡ false) ⊎ Digests
      first (inl not) = inl (or_parts (step_digests m) (list_any step_digests steps) not).0
      first (inr digest) = inr digest

      rest : (list_any step_digests (m ∷ steps) ≡ false) ⊎ Digests → (list_any step_digests steps ≡ false) ⊎ Digests
      rest (inl not) = inl (or_parts (step_digests m) (list_any step_digests steps) not).1
      rest (inr digest) = inr digest

  -- a program that writes no such byte, and makes no digest unless the digests of related contents are related
  pub relates_steps : (x : Vertex) → list_any step_writes_mark (program_of x).steps ≡ false
      → (list_any step_digests (program_of x).steps ≡ false) ⊎ Digests → All (Writes IsName R) (program_of x).steps
  relates_steps x none digest = relates_each (program_of x).steps (steps_in x.op.kind x.script) none digest
