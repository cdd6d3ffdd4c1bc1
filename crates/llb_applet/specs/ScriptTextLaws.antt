-- Two facts about the texts of scripts. If a text has no bad position, its calls are valid, and the text written for these calls is read as the same
-- commands. If every separator of a text is `&&`, its calls are the lists of words between the separators.
use Rattle.std.specs.Prelude.{◌≡◌, ℕ, ◌==◌, Bool, true, false, ◌&&◌, ◌||◌, not, IsTrue, List, [], ◌∷◌, ◌++◌, length, map, codes}
use Rattle.std.specs.List.{list_all, join_with_byte, slice_split}
use Rattle.llb_applet.specs.declared.joined_commands.Join.{Join}
use Rattle.llb_applet.specs.declared.joined_commands.Join.TheVariants.{Then, And, Or}
use Rattle.llb_applet.specs.Applets.{spells}
use Rattle.llb_applet.specs.Words.{words_of, is_separator, Call, is_word_byte, calls_of}
use Rattle.llb_applet.specs.Scripts.{commands_in}

-- whether a word has at least one byte, and only bytes that words may have
abbrev pub is_plain_word : List ℕ → Bool
is_plain_word word = not (length word == 0) && list_all is_word_byte word

-- whether a call has at least one word, and only words that pass `is_plain_word`
abbrev pub is_call : Call → Bool
is_call call = not (length call.words == 0) && list_all is_plain_word call.words

-- the separator before a call with this join
abbrev pub separator : Join → List ℕ
separator Then = codes ";"
separator And = codes "&&"
separator Or = codes "||"

-- the words of the calls after a text's first call, with a separator before the words of each call
abbrev pub after_separators : List Call → List (List ℕ)
after_separators [] = []
after_separators (call ∷ calls) = separator call.join ∷ call.words ++ after_separators calls

-- the words of calls, with a separator between each two calls
abbrev pub with_separators : List Call → List (List ℕ)
with_separators [] = []
with_separators (call ∷ calls) = call.words ++ after_separators calls

-- the text of calls: their words and separators, one after another, with one space between them
abbrev pub text_of : List Call → List ℕ
text_of calls = join_with_byte 32 (with_separators calls)

-- each call of the text is valid (`is_call`), and the text that is written for these calls is read as the same commands
pub record IsShellText (text : List ℕ) : Type 0 where
  pub calls : IsTrue (list_all is_call (calls_of text))
  pub again : commands_in (text_of (calls_of text)) ≡ commands_in text

-- whether a word is `&&`
abbrev pub is_and : List ℕ → Bool
is_and word = spells (codes "&&") word

-- the words of a text, without their positions
abbrev pub texts_of : List ℕ → List (List ℕ)
texts_of text = map (λ w. w.bytes) (words_of text)

-- whether none of these words is a separator other than `&&`
abbrev pub only_ands : List (List ℕ) → Bool
only_ands words = list_all (λ w. not (is_separator w) || is_and w) words

-- whether a call with this join runs whatever the last status is: true for the first call of a script and for each call after `;`
abbrev pub follows_all : Join → Bool
follows_all Then = true
follows_all And = false
follows_all Or = false

-- whether a call with this join runs only if the last status is 0, as each call after `&&` does
abbrev pub follows_success : Join → Bool
follows_success And = true
follows_success Then = false
follows_success Or = false

-- whether the first call, if there is one, runs whatever the last status is, and each other call is joined by `And`
abbrev pub joined_by_ands : List Call → Bool
joined_by_ands [] = true
joined_by_ands (call ∷ calls) = follows_all call.join && list_all (λ (c : Call). follows_success c.join) calls

-- the calls of the text are the lists of words between the words `&&` of the text, and each call but the first is joined by `And`
pub record IsSplitAtAnds (text : List ℕ) : Type 0 where
  pub calls : map (λ (c : Call). c.words) (calls_of text) ≡ slice_split is_and (texts_of text)
  pub joins : joined_by_ands (calls_of text) ≡ true
