-- Gathers the words of calls from a text, part by part: how a part changes the final result.
use Rattle.std.proofs.Common.{◌≡◌, ℕ, ◌+◌, ◌==◌, Bool, true, false, cond, ◌||◌, List, [], ◌∷◌, ◌++◌, length, map, filter, not, Result, Ok}
use Rattle.std.proofs.Common.{Err, Option, Some, None, is_some, is_ok, refl, sym, ap, ◌∙◌, ne_eqb, arith}
use Rattle.std.specs.List.{flat_map}
use Rattle.std.proofs.lemmas.Bool.{false≢true}
use Rattle.llb_wire.specs.CallResults.{◌>>=◌}
use Rattle.llb_applet.specs.declared.fault.ScriptFault.{ScriptFault}
use Rattle.llb_applet.specs.declared.command.Command.{Command}
use Rattle.llb_applet.specs.declared.joined_commands.Join.{Join}
use Rattle.llb_applet.specs.declared.joined_commands.Join.TheVariants.{Then}
use Rattle.llb_applet.specs.declared.joined_commands.Joined.{Joined}
use Rattle.llb_applet.specs.declared.script.Reading.{Reading}
use Rattle.llb_applet.specs.CallResults.{is_memory, names_word, Gives, MemoryLast}
use Rattle.llb_applet.specs.Words.{Word, placed, is_word, join_of, is_separator, parts_of, call_by, at_word, calls_from, calls_of}
use Rattle.llb_applet.specs.Calls.{command_of}
use Rattle.llb_applet.specs.Scripts.{joined, commands_of}
use Rattle.llb_applet.specs.CallReading.{some_word, behind, verdict, judged, Refuses, JudgesCall, ahead, with_call}

-- ---- the words of parts

-- the words of parts, without their places
pub words_in : (at : ℕ) (parts : List (List ℕ)) → map (λ w. w.bytes) (filter is_word (placed at parts)) ≡ flat_map some_word parts
words_in at [] = refl
words_in at (part ∷ parts) = first (length part == 0) ∙ ap (λ ws. some_word part ++ ws) (words_in (at + length part + 1) parts)
  where
    rest : List Word
    rest = filter is_word (placed (at + length part + 1) parts)

    first : (none : Bool) → map (λ (w : Word). w.bytes) (cond (not none) (record { place = at; bytes = part } ∷ rest) rest)
        ≡ cond none [] (part ∷ []) ++ map (λ (w : Word). w.bytes) rest
    first true = refl
    first false = refl

some_separator : (part : List ℕ) (next : Join) → join_of part ≡ Some next → some_word part ≡ part ∷ []
some_separator [] next is = let none : None ≡ Some next = is in absurd cc
some_separator (b ∷ bs) next is = ap (λ none. cond none [] ((b ∷ bs) ∷ [])) (ne_eqb (length (b ∷ bs)) 0 (omega arith))

pub some_other : (part : List ℕ) → (length part == 0) ≡ false → some_word part ≡ part ∷ []
some_other part is = ap (λ none. cond none [] (part ∷ [])) is

-- ---- the calls of words

-- a word is a separator if it has a join
pub separates : (o : Option Join) → is_some o ≡ true → (next : Join) × (o ≡ Some next)
separates (Some next) is = (next, refl)
separates None is = absurd (false≢true is)

-- a word that is no separator has no join
pub separates_not : (o : Option Join) → is_some o ≡ false → o ≡ None
separates_not (Some next) is = absurd (false≢true (sym is))
separates_not None is = refl

-- a separator ends the current call
at_separator : (join next : Join) (call : List (List ℕ)) (part : List ℕ) (rest : List (List ℕ)) → join_of part ≡ Some next
    → calls_from (some_word part ++ rest) join call ≡ call_by join call ∷ calls_from rest next []
at_separator join next call part rest is =
    ap (λ ws. calls_from (ws ++ rest) join call) (some_separator part next is)
    ∙ ap (λ o. at_word join call part o (λ j c. calls_from rest j c)) is

-- any other word is added to the current call
pub at_other : (join : Join) (call : List (List ℕ)) (part : List ℕ) (rest : List (List ℕ)) → join_of part ≡ None → (length part == 0) ≡ false
    → calls_from (some_word part ++ rest) join call ≡ calls_from rest join (call ++ part ∷ [])
at_other join call part rest is some =
    ap (λ ws. calls_from (ws ++ rest) join call) (some_other part some)
    ∙ ap (λ o. at_word join call part o (λ j c. calls_from rest j c)) is

-- the calls of a text are those of its parts' words
pub calls_in : (text : List ℕ) → calls_from (flat_map some_word (parts_of text)) Then [] ≡ calls_of text
calls_in text = ap (λ ws. calls_from ws Then []) (sym (words_in 0 (parts_of text)))

-- ---- the first fault of the calls

module _ {A B : Type 0} (f : A → Result B ScriptFault) where
  verdict_on : (r : Result A ScriptFault) (s : Result (Unit {0}) ScriptFault) → verdict r ≡ Ok tt → ((x : A) → verdict (f x) ≡ s) → verdict (r >>= f) ≡ s
  verdict_on (Ok x) s e each = each x
  verdict_on (Err d) s e each = absurd cc

  verdict_stops : (r : Result A ScriptFault) (e : ScriptFault) → verdict r ≡ Err e → verdict (r >>= f) ≡ Err e
  verdict_stops (Ok x) e is = absurd cc
  verdict_stops (Err d) e is = is

  names_stops : (r : Result A ScriptFault) → names_word (verdict r) ≡ true → names_word (verdict (r >>= f)) ≡ true
  names_stops (Ok x) is = absurd (false≢true is)
  names_stops (Err d) is = is

verdict_more : (c : Joined) (r : Result (List Joined) ScriptFault) → verdict (r >>= λ cs. Ok (c ∷ cs)) ≡ verdict r
verdict_more c (Ok cs) = refl
verdict_more c (Err e) = refl

-- the join of the current call makes no difference to the first fault
any_join : (join other : Join) (words : List (List ℕ)) (number : ℕ) (call : List (List ℕ))
    → verdict (commands_of number (calls_from words join call)) ≡ verdict (commands_of number (calls_from words other call))
any_join join other words number call = on_words words call
  where
    either : (r : Result Command ScriptFault) (s : Result (List Joined) ScriptFault)
        → verdict (r >>= λ c. s >>= λ cs. Ok (joined join c ∷ cs)) ≡ verdict (r >>= λ c. s >>= λ cs. Ok (joined other c ∷ cs))
    either (Ok c) (Ok cs) = refl
    either (Ok c) (Err e) = refl
    either (Err e) s = refl

    by_word : (w : List ℕ) (ws : List (List ℕ)) (call : List (List ℕ)) (o : Option Join)
        → verdict (commands_of number (calls_from ws join (call ++ w ∷ []))) ≡ verdict (commands_of number (calls_from ws other (call ++ w ∷ [])))
        → verdict (commands_of number (at_word join call w o (λ j c. calls_from ws j c)))
        ≡ verdict (commands_of number (at_word other call w o (λ j c. calls_from ws j c)))
    by_word w ws call (Some next) goes_on = either (command_of number call) (commands_of (number + 1) (calls_from ws next []))
    by_word w ws call None goes_on = goes_on

    on_words : (words : List (List ℕ)) (call : List (List ℕ))
        → verdict (commands_of number (calls_from words join call)) ≡ verdict (commands_of number (calls_from words other call))
    on_words [] call = either (command_of number call) (Ok [])
    on_words (w ∷ ws) call = by_word w ws call (join_of w) (on_words ws (call ++ w ∷ []))

module _ (number : ℕ) (call : List (List ℕ)) (part : List ℕ) (rest : List (List ℕ)) (next : Join) (is : join_of part ≡ Some next) where
  ended : judged number call (some_word part ++ rest) ≡ verdict (command_of number call
      >>= λ c. commands_of (number + 1) (calls_from rest next []) >>= λ cs. Ok (joined Then c ∷ cs))
  ended = ap (λ calls. verdict (commands_of number calls)) (at_separator Then next call part rest is)

  -- if the separator ends a call that makes a command, the first fault is that of the calls after it
  judged_after : verdict (command_of number call) ≡ Ok tt → judged number call (some_word part ++ rest) ≡ judged (number + 1) [] rest
  judged_after right =
      ended
      ∙ verdict_on _ (command_of number call) _ right (λ c. verdict_more (joined Then c) _)
      ∙ any_join next Then rest (number + 1) []

  -- if the separator ends a faulty call, the fault of this call is the first fault of all calls
  stopped_at : (e : ScriptFault) → Refuses e (verdict (command_of number call)) → Refuses e (judged number call (some_word part ++ rest))
  stopped_at e refuses = record {
    known = λ k. ended ∙ verdict_stops _ (command_of number call) e (refuses.known k);
    last = λ m. ap names_word ended ∙ names_stops _ (command_of number call) (refuses.last m);
  }

module _ (number : ℕ) (call : List (List ℕ)) (part : List ℕ) (rest : List (List ℕ)) (is : is_separator part ≡ true) where
  -- `judged_after` and `stopped_at`, given only that the word is a separator, and not which one
  pub judged_on : verdict (command_of number call) ≡ Ok tt → judged number call (some_word part ++ rest) ≡ judged (number + 1) [] rest
  judged_on right = let (next, names) = separates (join_of part) is in judged_after number call part rest next names right

  pub judged_stops : (e : ScriptFault) → Refuses e (verdict (command_of number call)) → Refuses e (judged number call (some_word part ++ rest))
  judged_stops e refuses = let (next, names) = separates (join_of part) is in stopped_at number call part rest next names e refuses

-- where no words are left, only the current call remains to be checked
pub judged_last : (number : ℕ) (call : List (List ℕ)) → judged number call [] ≡ verdict (command_of number call)
judged_last number call = single (command_of number call)
  where
    single : (r : Result Command ScriptFault) → verdict (r >>= λ c. Ok (joined Then c ∷ [])) ≡ verdict r
    single (Ok c) = refl
    single (Err e) = refl

-- ---- the final result

-- before there is any command, the result is that of the rest alone
pub behind_none : (r : Result (List Joined) ScriptFault) → behind [] r ≡ r
behind_none (Ok more) = refl
behind_none (Err e) = refl

-- where no words are left, the result is the commands so far and the command of the current call
pub ahead_last : (reading : Reading) → ahead reading [] ≡ with_call reading
ahead_last reading = single (command_of (length reading.commands.items) reading.words.items)
  where
    single : (r : Result Command ScriptFault)
        → behind reading.commands.items (r >>= λ c. Ok (joined reading.join c ∷ [])) ≡ (r >>= λ c. Ok (reading.commands.items ++ joined reading.join c ∷ []))
    single (Ok c) = refl
    single (Err e) = refl

or_right : (a b : Bool) → b ≡ true → (a || b) ≡ true
or_right true b is = refl
or_right false b is = is

-- a refusal with `Memory` comes only where the rule has no refusal, or one that holds a text
pub refuses_last : (e : ScriptFault) (rule : Result (Unit {0}) ScriptFault) → Refuses e rule → is_memory e ≡ true → (is_ok rule || names_word rule) ≡ true
refuses_last e rule refuses m = or_right (is_ok rule) (names_word rule) (refuses.last m)

module _ (number : ℕ) (call : List (List ℕ)) (rule : Result (Unit {0}) ScriptFault) (is : judged number call [] ≡ rule) where
  -- where no word is left, the judgement of the last call is what the rule gives
  pub gives_last : (r : Result (Unit {0}) ScriptFault) → JudgesCall r number call → Gives (λ _. tt) r rule
  gives_last (Ok _) judges = sym is ∙ judged_last number call ∙ judges
  gives_last (Err e) judges = λ known. sym is ∙ judged_last number call ∙ judges.known known

  -- where no word is left, the check of the last call fails with `Memory` only if the rule has no fault, or one that holds a text
  pub memory_last : (r : Result (Unit {0}) ScriptFault) → JudgesCall r number call → MemoryLast r rule
  memory_last (Ok _) judges = tt
  memory_last (Err e) judges = λ m. or_right (is_ok rule) (names_word rule) (ap names_word (sym is ∙ judged_last number call) ∙ judges.last m)
