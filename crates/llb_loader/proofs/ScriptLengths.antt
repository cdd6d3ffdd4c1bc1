-- How many commands a script has: fewer than twice the bytes of an entry, since its text is no longer than that.
use Rattle.std.proofs.Common.{◌≡◌, ℕ, ◌+◌, ◌<◌, ◌≤◌, ◌^◌, ◌==◌, Bool, true, false, cond, List, [], ◌∷◌, ◌++◌, Option, Some, None, inl, inr}
use Rattle.std.proofs.Common.{Result, Ok, Err, length, map, unwrap_or, get_or, refl, sym, ◌∙◌, ap, arith}
use Rattle.std.proofs.lemmas.Bool.{cases_lt}
use Rattle.std.proofs.lemmas.List.{length-map, get_or_past}
use Rattle.std.proofs.lemmas.List.Sums.{count_by-le-length, length-filter}
use Rattle.std.proofs.lemmas.List.Elements.{All-get_or}
use Rattle.std.proofs.lemmas.List.Splits.{length-slice_split}
use Rattle.std.specs.List.{All}
use Rattle.std.specs.Result.{result_ok}
use Rattle.llb_wire.specs.CallResults.{◌>>=◌}
use Rattle.llb_wire.proofs.RuleComposition.{bind_ok}
use Rattle.llb_ops.specs.declared.exec.Meta.{Meta}
use Rattle.llb_ops.specs.OpsWithinLimits.{IsMetaOptWithin}
use Rattle.llb_ops.specs.Limits.{entry_limit}
use Rattle.llb_applet.specs.declared.joined_commands.Joined.{Joined}
use Rattle.llb_applet.specs.declared.fault.ScriptFault.{ScriptFault}
use Rattle.llb_applet.specs.declared.joined_commands.Join.{Join}
use Rattle.llb_applet.specs.declared.joined_commands.Join.TheVariants.{Then}
use Rattle.llb_applet.specs.Words.{Word, parts_of, placed, is_word, words_of, join_of, bad_place_of, Call, first_call, at_word, calls_from, calls_of}
use Rattle.llb_applet.specs.Scripts.{joined}
use Rattle.llb_applet.specs.Scripts as script
use Rattle.llb_applet.specs.Calls.{command_of}
use Rattle.llb_loader.specs.Scripts.{commands_in}

length_placed : (at : ℕ) (parts : List (List ℕ)) → length (placed at parts) ≡ length parts
length_placed at [] = refl
length_placed at (part ∷ parts) = let e = length_placed (at + length part + 1) parts in omega (arith, e)

-- words make at most one call more than there are words
calls_at_most : (words : List (List ℕ)) (join : Join) (call : List (List ℕ)) → length (calls_from words join call) ≤ length words + 1
calls_at_most [] join call = omega arith
calls_at_most (w ∷ ws) join call = by_word (join_of w) (λ next. calls_at_most ws next []) (calls_at_most ws join (call ++ w ∷ []))
  where
    by_word : (o : Option Join) → ((next : Join) → length (calls_from ws next []) ≤ length ws + 1)
        → length (calls_from ws join (call ++ w ∷ [])) ≤ length ws + 1
        → length (at_word join call w o (λ j c. calls_from ws j c)) ≤ length (w ∷ ws) + 1
    by_word (Some next) ends goes_on = let few = ends next in omega (arith, few)
    by_word None ends goes_on = omega (arith, goes_on)

-- a text has at most two calls more than bytes
calls_few : (text : List ℕ) → length (calls_of text) ≤ length text + 2
calls_few text =
    let parts = length-slice_split (λ b. b == 32) text in
    let spaces = count_by-le-length (λ b. b == 32) text in
    let all = length_placed 0 (parts_of text) in
    let words = length-filter is_word (placed 0 (parts_of text)) in
    let some = count_by-le-length is_word (placed 0 (parts_of text)) in
    let bytes = length-map (words_of text) (λ (w : Word). w.bytes) in
    let calls = calls_at_most (map (λ (w : Word). w.bytes) (words_of text)) Then [] in
    omega (arith, parts, spaces, all, words, some, bytes, calls)

-- each call is one command
commands_each : (number : ℕ) (calls : List Call) (cs : List Joined) → script.commands_of number calls ≡ Ok cs → length cs ≡ length calls
commands_each number [] cs e = let s : [] ≡ cs = cc in ap length (sym s)
commands_each number (call ∷ calls) cs e =
    let c = bind_ok (command_of number call.words) (λ c. script.commands_of (number + 1) calls >>= λ cs. Ok (joined call.join c ∷ cs)) cs e in
    let r = bind_ok (script.commands_of (number + 1) calls) (λ cs. Ok (joined call.join c.0 ∷ cs)) cs c.2 in
    let s : joined call.join c.0 ∷ r.0 ≡ cs = (let x = r.2 in cc) in
    let l = commands_each (number + 1) calls r.0 r.1 in
    ap length (sym s) ∙ omega (arith, l)

text_short : (o : Option ℕ) (text : List ℕ) (cs : List Joined) → length text ≤ entry_limit → script.commands_unless o text ≡ Ok cs → length cs < 2 ^ 25
text_short (Some place) text cs short e = absurd cc
text_short None text cs short e =
    let l = commands_each 0 (calls_of text) cs e in
    let few = calls_few text in
    omega (arith, l, few, short)

nth_short : (args : List (List ℕ)) (k : ℕ) → All (λ a. length a ≤ entry_limit) args → length (get_or args k []) ≤ entry_limit
nth_short args k all = elim (cases_lt k (length args)) [
  | inl l ↦ All-get_or (λ a. length a ≤ entry_limit) args k [] l all
  | inr g ↦ (let e = ap length (get_or_past args k [] g) in omega (arith, e))
]

-- a script whose words are no longer than an entry has fewer than 2^25 commands
pub script_short : (args : List (List ℕ)) (cs : List Joined) → All (λ a. length a ≤ entry_limit) args → script.script_of args ≡ Ok cs → length cs < 2 ^ 25
script_short args cs all e = by_shell (script.is_shell args) e
  where
    by_shell : (b : Bool) → cond b (script.commands_in (get_or args 2 [])) (script.commands_of 0 (first_call args ∷ [])) ≡ Ok cs → length cs < 2 ^ 25
    by_shell true e = text_short (bad_place_of (get_or args 2 [])) (get_or args 2 []) cs (nth_short args 2 all) e
    by_shell false e = let l = commands_each 0 (first_call args ∷ []) cs e in omega (arith, l)

-- a meta that is within the limits has fewer than 2^25 commands
pub commands_short : (meta : Option Meta) → IsMetaOptWithin meta → length (unwrap_or (commands_in meta) []) < 2 ^ 25
commands_short None w = omega arith
commands_short (Some m) w = by_result (script.script_of m.args) (λ cs e. script_short m.args cs w.short e)
  where
    by_result : (r : Result (List Joined) ScriptFault) → ((cs : List Joined) → r ≡ Ok cs → length cs < 2 ^ 25) → length (unwrap_or (result_ok r) []) < 2 ^ 25
    by_result (Ok cs) f = f cs refl
    by_result (Err x) f = omega arith
