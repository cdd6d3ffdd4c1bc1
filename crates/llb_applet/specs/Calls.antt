-- The command that the words of a call make. The first word has to be the name of an applet, and the other words have to fit one of this applet's forms.
use Rattle.std.specs.Prelude.{◌≡◌, ℕ, true, false, if◌then◌else◌, List, [], ◌∷◌, length, drop, Option, Some, None, option_map}
use Rattle.std.specs.Prelude.{option_and_then, Result, Err, codes, slice_index_or}
use Rattle.std.specs.Option.{ok_or, option_or}
use Rattle.llb_applet.specs.declared.fault.ScriptFault.{ScriptFault}
use Rattle.llb_applet.specs.declared.fault.ScriptFault.TheVariants.{NoApplet, Usage}
use Rattle.llb_applet.specs.declared.command.Kind.{Kind}
use Rattle.llb_applet.specs.declared.command.Kind.TheVariants.{Something, File, Dir}
use Rattle.llb_applet.specs.declared.command.Command.{Command}
use Rattle.llb_applet.specs.declared.command.Command.TheVariants as command
use Rattle.llb_applet.specs.declared.applet.Applet.{Applet}
use Rattle.llb_applet.specs.declared.applet.Applet.TheVariants.{True, False, Mkdir, Rm, Write, Append, Cp, Concat, Chmod, Test, Listing, Envfile, Sha256}
use Rattle.llb_applet.specs.Applets.{spells, applet_of}
use Rattle.llb_tree.specs.ModeTexts.{mode_of}

-- the bytes of a word
abbrev Word : Type 0
Word = List ℕ

-- the word of a list that has exactly one word; nothing for any other list
abbrev pub alone : List Word → Option Word
alone [] = None
alone (a ∷ []) = Some a
alone (a ∷ b ∷ ws) = None

-- the words of a list that has exactly two words; nothing for any other list
abbrev pub pair : List Word → Option (Word × Word)
pair [] = None
pair (a ∷ []) = None
pair (a ∷ b ∷ []) = Some (a, b)
pair (a ∷ b ∷ c ∷ ws) = None

-- the command c, if the list of the words after the applet's name is empty; else nothing
abbrev pub no_words : List Word → Command → Option Command
no_words [] c = Some c
no_words (w ∷ ws) c = None

-- the command that f makes of a word, if the list has exactly one word
abbrev pub one_word : List Word → (Word → Command) → Option Command
one_word ws f = option_map f (alone ws)

-- the command that f makes of two words, if the list has exactly two words
abbrev pub two_words : List Word → (Word → Word → Option Command) → Option Command
two_words ws f = option_and_then (λ p. f p.0 p.1) (pair ws)

-- the kind of entry that `test` asks for by its option: `Something` for `-e`, `File` for `-f`, `Dir` for `-d`; nothing for any other word
abbrev pub kind_of : Word → Option Kind
kind_of word =
    if spells (codes "-e") word then Some Something
    else (if spells (codes "-f") word then Some File
    else (if spells (codes "-d") word then Some Dir else None))

-- the command `concat`, whose first word is its output and whose other words, at least one, are its inputs; nothing if there are fewer than two words
abbrev pub concat_of : List Word → Option Command
concat_of [] = None
concat_of (out ∷ []) = None
concat_of (out ∷ a ∷ ws) = Some (command.Concat out (a ∷ ws))

-- the command of an applet with these words after its name, if the words are in one of the applet's forms
abbrev pub form : Applet → List Word → Option Command
form True ws = no_words ws command.True
form False ws = no_words ws command.False
form Mkdir ws = option_or (one_word ws (λ path. command.Mkdir false path))
    (two_words ws (λ option path. if spells (codes "-p") option then Some (command.Mkdir true path) else None))
form Rm ws = one_word ws (λ path. command.Rm path)
form Write ws = two_words ws (λ path word. Some (command.Write path word))
form Append ws = two_words ws (λ path word. Some (command.Append path word))
form Cp ws = two_words ws (λ from to. Some (command.Cp from to))
form Concat ws = concat_of ws
form Chmod ws = two_words ws (λ mode path. option_map (λ m. command.Chmod m path) (mode_of mode))
form Test ws = two_words ws (λ kind path. option_map (λ k. command.Test k path) (kind_of kind))
form Listing ws = two_words ws (λ path out. Some (command.Listing path out))
form Envfile ws = one_word ws (λ out. command.Envfile out)
form Sha256 ws = two_words ws (λ path out. Some (command.Sha256 path out))

-- the list has `count` words, and `word` is the first of these words, or an empty word if the list is empty
pub record IsFront (words : List Word) (count : ℕ) (word : Word) : Type 0 where
  pub counted : count ≡ length words
  pub first : word ≡ slice_index_or words 0 []

-- the command of a call, given the applet that the first word names, if any: `NoApplet` without an applet, `Usage` if the other words fit no form of the applet
abbrev pub command_by : ℕ → List Word → Option Applet → Result Command ScriptFault
command_by number call None = Err (NoApplet (slice_index_or call 0 []))
command_by number call (Some applet) = ok_or (form applet (drop 1 call)) (Usage number)

-- the command of the call with this number; a fault if the first word is no applet's name, or if the other words fit none of this applet's forms
abbrev pub command_of : ℕ → List Word → Result Command ScriptFault
command_of number call = command_by number call (applet_of (slice_index_or call 0 []))
