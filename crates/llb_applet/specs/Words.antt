-- The words of a script's text with their positions, and the first bad position of a text that is no list of calls with a separator
-- between each two calls. A position is counted in bytes from 0.
use Rattle.std.specs.Prelude.{ℕ, ◌+◌, ◌==◌, nat_le, Bool, false, ◌&&◌, ◌||◌, not, if◌then◌else◌, List, [], ◌∷◌, ◌++◌, length, map, filter}
use Rattle.std.specs.Prelude.{Option, Some, None, is_some, option_map, codes}
use Rattle.std.specs.List.{slice_split, position, list_any}
use Rattle.std.specs.Option.{option_or}
use Rattle.llb_applet.specs.declared.joined_commands.Join.{Join}
use Rattle.llb_applet.specs.declared.joined_commands.Join.TheVariants.{Then, And, Or}
use Rattle.llb_applet.specs.Applets.{spells}

-- a word, and the position of its first byte
pub record Word : Type 0 where
  pub place : ℕ
  pub bytes : List ℕ

-- the parts of a text between its spaces; some parts may be empty
abbrev pub parts_of : List ℕ → List (List ℕ)
parts_of = slice_split (λ b. b == 32)

-- the parts of a text with one byte between each two parts, each with the position of its first byte; the first part is at position `at`
abbrev pub placed : ℕ → List (List ℕ) → List Word
placed at [] = []
placed at (part ∷ parts) = record { place = at; bytes = part } ∷ placed (at + length part + 1) parts

-- whether a part is a word: it is not empty
abbrev pub is_word : Word → Bool
is_word w = not (length w.bytes == 0)

-- the words of a text: the parts that are not empty
abbrev pub words_of : List ℕ → List Word
words_of text = filter is_word (placed 0 (parts_of text))

-- the join of the call that follows this word, if the word is a separator; nothing for any other word
abbrev pub join_of : List ℕ → Option Join
join_of word =
    if spells (codes ";") word then Some Then
    else (if spells (codes "&&") word then Some And
    else (if spells (codes "||") word then Some Or else None))

-- whether a word is `;`, `&&` or `||`
abbrev pub is_separator : List ℕ → Bool
is_separator word = is_some (join_of word)

-- whether words may contain this byte: a digit, a letter, one of `_ - . / , : + @ % =`, or a byte of a character past ASCII
abbrev pub is_word_byte : ℕ → Bool
is_word_byte b =
    (nat_le 48 b && nat_le b 57) || (nat_le 65 b && nat_le b 90) || (nat_le 97 b && nat_le b 122)
    || list_any (λ c. c == b) (codes "_-./,:+@%=") || nat_le 128 b

-- the position of the first bad byte in a word, if there is one: 0 in a separator with no call before it; in a word that is no separator,
-- the position of the first byte that words may not have
abbrev pub bad_in : Bool → List ℕ → Option ℕ
bad_in called word = if is_separator word then (if called then None else Some 0) else position (λ b. not (is_word_byte b)) word

-- whether the last word belongs to a call, after one more part of the text: false after a separator, true after any other word, `called` after an empty part
abbrev pub called_after : Bool → List ℕ → Bool
called_after called part = if length part == 0 then called else not (is_separator part)

-- the first bad position among words, in a text of `end` bytes; `called` says whether the word before them belongs to a call. The last
-- word of the text has to belong to a call; if it does not, the bad position is `end`.
abbrev pub bad_place : ℕ → Bool → List Word → Option ℕ
bad_place end called [] = if called then None else Some end
bad_place end called (w ∷ ws) = option_or (option_map (λ k. w.place + k) (bad_in called w.bytes)) (bad_place end (not (is_separator w.bytes)) ws)

-- the first bad position of a text; nothing if the text is a list of calls with a separator between each two calls
abbrev pub bad_place_of : List ℕ → Option ℕ
bad_place_of text = bad_place (length text) false (words_of text)

-- a call: its join and its words
pub record Call : Type 0 where
  pub join : Join
  pub words : List (List ℕ)

-- a call with this join and these words
abbrev pub call_by : Join → List (List ℕ) → Call
call_by join words = record { join = join; words = words }

-- the call with these words as the first call of a script; the first call always runs
abbrev pub first_call : List (List ℕ) → Call
first_call words = call_by Then words

-- the current and the later calls, given the next word: a separator ends the current call and begins a new call; any other word is added to the current call
abbrev pub at_word : Join → List (List ℕ) → List ℕ → Option Join → (Join → List (List ℕ) → List Call) → List Call
at_word join call word (Some next) rest = call_by join call ∷ rest next []
at_word join call word None rest = rest join (call ++ word ∷ [])

-- the current call and the calls after it, given the current call's join, its words so far, and the words that remain
abbrev pub calls_from : List (List ℕ) → Join → List (List ℕ) → List Call
calls_from [] join call = call_by join call ∷ []
calls_from (word ∷ words) join call = at_word join call word (join_of word) (λ next begun. calls_from words next begun)

-- the calls of a text
abbrev pub calls_of : List ℕ → List Call
calls_of text = calls_from (map (λ w. w.bytes) (words_of text)) Then []
