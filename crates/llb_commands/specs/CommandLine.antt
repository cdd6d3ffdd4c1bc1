-- The command line of the program, as it is described to `clap`, and what the words of a command line ask for.
use Rattle.std.specs.Prelude.{◌≡◌, ◌≢◌, ◌⊎◌, ◌==◌, ℕ, nat_lt, pos, Bool, true, false, not, if◌then◌else◌, List, [], ◌++◌, length, map, find, codes}
use Rattle.std.specs.Prelude.{Option, Some, None, is_some, option_map, option_and_then, unwrap_or, Result, Ok, Err}
use Rattle.std.specs.Borrow.{Bor}
use Rattle.std.specs.List.{position_or_len, before_first, after_first}
use Rattle.std.specs.Str.Parse.{digits_value, without_leading_plus}
use Rattle.llb_session.specs.declared.request.Looks.{Looks}
use Rattle.llb_session.specs.declared.request.Looks.TheVariants.{Refused, Allowed}
use Rattle.llb_wire.specs.TextComparison.{is_text}
use Rattle.llb_commands.specs.Faults.{TellsLine}
use Rattle.clap.specs.Words.{App, Kinds, Row, Rule, Text, all_of, first_of, new_app, new_rule, one_of, with_rule, with_subcommand}
use Rattle.clap.specs.ValueTests.{is_unsigned_in}
use Rattle.clap.specs.declared.builder.action.ArgAction.TheVariants.{Append, Set, SetTrue}
use Rattle.clap.specs.declared.builder.value_parser.ValueParser.TheVariants.{Signed}
use Rattle.clap.specs.declared.error.kind.ErrorKind.{ErrorKind}
use Rattle.clap.specs.declared.error.kind.ErrorKind.TheVariants.{OutOfMemory}
use Rattle.llb_commands.specs.declared.command_line_words.Command.{Command}
use Rattle.llb_commands.specs.declared.command_line_words.Command.TheVariants.{Run, Show, Step, Assemble, Disassemble}
use Rattle.llb_commands.specs.declared.command_line_words.Line.{Line}
use Rattle.llb_commands.specs.declared.command_line_words.Shows.{Shows}
use Rattle.llb_commands.specs.declared.command_line_words.Shows.TheVariants.{Graph, Findings, Plan, Matches, Ops, Agrees, Several}
use Rattle.llb_commands.specs.declared.command_line_words.Local.{Local}
use Rattle.llb_commands.specs.declared.command_line_words.WordsFault.{WordsFault}
use Rattle.llb_commands.specs.declared.command_line_words.WordsFault.TheVariants.{Words, Memory}

-- `clap`'s description of the program (an app), without commands: it reads the words after the program's name, and has a version but no command `help`
abbrev pub base_app : App
base_app = record {
  top = record (new_app (codes "llbm")).top { has_version = true; no_binary_name = true; disable_help_subcommand = true };
  subs = [];
}

-- the rule by which `clap` reads the words for local sources: any number of words
abbrev pub local_rule : Rule
local_rule = record (new_rule (codes "local")) { action = Some Append; value_names = 1 }

-- the rule by which `clap` reads the word that names the file of the definition: exactly one word
abbrev pub file_rule : Rule
file_rule = record (new_rule (codes "file")) { action = Some Set; required = true; value_names = 1 }

-- the rule by which `clap` reads the option `--workers`: a number below 2^32
abbrev pub workers_rule : Rule
workers_rule = record (new_rule (codes "workers")) {
  long = Some (codes "workers");
  action = Some Set;
  value_names = 1;
  parser = Some (Signed (pos 0) (pos 4294967295));
}

-- the rule by which `clap` reads the option `--looks`, which takes no value
abbrev pub looks_rule : Rule
looks_rule = record (new_rule (codes "looks")) { long = Some (codes "looks"); action = Some SetTrue }

-- the rule by which `clap` reads the option `--ends`, which takes no value
abbrev pub ends_rule : Rule
ends_rule = record (new_rule (codes "ends")) { long = Some (codes "ends"); action = Some SetTrue }

-- the rule by which `clap` reads the option `--findings`, which takes no value
abbrev pub findings_rule : Rule
findings_rule = record (new_rule (codes "findings")) { long = Some (codes "findings"); action = Some SetTrue }

-- the rule by which `clap` reads the option `--plan`, which takes no value
abbrev pub plan_rule : Rule
plan_rule = record (new_rule (codes "plan")) { long = Some (codes "plan"); action = Some SetTrue }

-- the rule by which `clap` reads the option `--matches`: the file of the older definition
abbrev pub matches_rule : Rule
matches_rule = record (new_rule (codes "matches")) { long = Some (codes "matches"); action = Some Set; value_names = 1 }

-- the rule by which `clap` reads the option `--ops`, which takes no value
abbrev pub ops_rule : Rule
ops_rule = record (new_rule (codes "ops")) { long = Some (codes "ops"); action = Some SetTrue }

-- the rule by which `clap` reads the option `--agrees`: the file of the newer tree
abbrev pub agrees_rule : Rule
agrees_rule = record (new_rule (codes "agrees")) { long = Some (codes "agrees"); action = Some Set; value_names = 1 }

-- the rule by which `clap` reads the options `--older`, each with a local source and the file of its older tree
abbrev pub older_rule : Rule
older_rule = record (new_rule (codes "local")) { long = Some (codes "older"); action = Some Append; value_names = 1 }

-- `clap`'s description of the command `run`
abbrev pub run_app : App
run_app = with_rule (with_rule (new_app (codes "run")) workers_rule) local_rule

-- `clap`'s description of the command `show` with the options that need no tree
abbrev pub show_options_app : App
show_options_app = with_rule (with_rule (with_rule (with_rule (new_app (codes "show")) findings_rule) plan_rule) matches_rule) ops_rule

-- `clap`'s description of the command `show`
abbrev pub show_app : App
show_app = with_rule (with_rule show_options_app agrees_rule) older_rule

-- `clap`'s description of the command `step` with its options alone
abbrev pub step_options_app : App
step_options_app = with_rule (with_rule (with_rule (new_app (codes "step")) workers_rule) looks_rule) ends_rule

-- `clap`'s description of the command `step`: the word for the file comes before the words for local sources
abbrev pub step_app : App
step_app = with_rule (with_rule step_options_app file_rule) local_rule

-- the given app with one more command, which takes no words
abbrev pub with_plain : App → Text → App
with_plain app name = with_subcommand app (new_app name).top

-- `clap`'s description of the program with the commands `run`, `show` and `step`
abbrev pub graph_app : App
graph_app = with_subcommand (with_subcommand (with_subcommand base_app run_app.top) show_app.top) step_app.top

-- `clap`'s description of the program: `run` takes workers and local sources, `step` takes these, a file, whether it answers looks and whether an empty line
-- ends each reply, `show` takes what it prints in place of the graph and local sources, and the other commands take no words
abbrev pub llbm_app : App
llbm_app = with_plain (with_plain graph_app (codes "asm")) (codes "dis")

-- the name of a command
abbrev pub name_of : Command → Text
name_of Run = codes "run"
name_of Show = codes "show"
name_of Step = codes "step"
name_of Assemble = codes "asm"
name_of Disassemble = codes "dis"

-- a text is the name of a command
abbrev pub IsName : Text → Type 0
IsName name = (name ≡ codes "run") ⊎ ((name ≡ codes "show") ⊎ ((name ≡ codes "step") ⊎ ((name ≡ codes "asm") ⊎ (name ≡ codes "dis"))))

-- the byte `=`
abbrev pub is_equals : ℕ → Bool
is_equals b = b == 61

-- the name before the first `=` of a word and the file after it; nothing if the word has no `=`
abbrev pub split_word : Text → Option (Text × Text)
split_word word = if nat_lt (position_or_len is_equals word) (length word) then Some (before_first is_equals word, after_first is_equals word) else None

-- the name and the file of a local source
abbrev pub named_file : Local → Option (Text × Text)
named_file l = Some (l.name.now, l.file.now)

-- the local sources are made from the words, in their order: each word has a `=`, and is split at its first `=` into a name and a file
abbrev pub AreSplit : List Text → List Local → Type 0
AreSplit words locals = map split_word words ≡ map named_file locals

-- whether a word has no `=`
abbrev pub is_unsplit : Text → Bool
is_unsplit word = not (is_some (split_word word))

-- the word is the first word that has no `=`
abbrev pub IsUnsplit : List Text → Text → Type 0
IsUnsplit words word = find is_unsplit words ≡ Some word

-- the name of the command in the matches of `clap` (what `clap` found in the words); `run` if no command is named
abbrev pub named : Option (Text × List Row) → Text
named None = codes "run"
named (Some p) = p.0

-- the words for local sources among the matches
abbrev pub local_words : List Row → List Text
local_words rows = unwrap_or (all_of (codes "local") rows) []

-- the words for local sources among the matches of the named command; none if no command is named
abbrev pub named_local_words : Option (Text × List Row) → List Text
named_local_words None = []
named_local_words (Some p) = local_words p.1

-- the number below 2^32 that a text spells in decimal digits, with or without a plus before them; nothing for any other text
abbrev pub number_of : Text → Option ℕ
number_of text = if is_unsigned_in 0 4294967295 text then Some (digits_value 10 (without_leading_plus text)) else None

-- The number of workers is the number in the words; if the words have no number, it is 1 for `run` and 2 for `step`. For any other command it is 1. The only
-- number after a hyphen that `clap` accepts is 0 (`--workers=-0`), which `clap` hands on without the hyphen.
abbrev pub IsWorkers : Command → List Row → ℕ → Type 0
IsWorkers Run rows n = n ≡ unwrap_or (option_and_then number_of (one_of (codes "workers") rows)) 1
IsWorkers Step rows n = n ≡ unwrap_or (option_and_then number_of (one_of (codes "workers") rows)) 2
IsWorkers _ rows n = n ≡ 1

-- the looks that a flag allows, given the text that `clap` has for the flag: `true` if the words have it, and else `false`
abbrev pub looks_by : Option Text → Looks
looks_by None = Refused
looks_by (Some text) = if is_text text (codes "true") then Allowed else Refused

-- looks are allowed if the words of `step` have the option `--looks`; for any other command they are refused
abbrev pub IsLooks : Command → List Row → Looks → Type 0
IsLooks Step rows looks = looks ≡ looks_by (first_of (codes "looks") rows)
IsLooks _ rows looks = looks ≡ Refused

-- whether a flag is set, given the text that `clap` has for the flag: `true` if the words have it, and else `false`
abbrev pub is_set : Option Text → Bool
is_set None = false
is_set (Some text) = is_text text (codes "true")

-- an empty line ends each reply if the words of `step` have the option `--ends`; for any other command it does not
abbrev pub IsEnds : Command → List Row → Bool → Type 0
IsEnds Step rows ends = ends ≡ is_set (first_of (codes "ends") rows)
IsEnds _ rows ends = ends ≡ false

-- what `show` prints, by whether the words have the options `--findings`, `--plan`, `--matches`, `--ops` and `--agrees`, and any words for local sources
abbrev pub shows_by : Bool → Bool → Bool → Bool → Bool → Bool → Shows
shows_by false false false false false false = Graph
shows_by true false false false false false = Findings
shows_by false true false false false false = Plan
shows_by false false true false false false = Matches
shows_by false false false true false false = Ops
shows_by false false false false true true = Agrees
shows_by _ _ _ _ _ _ = Several

-- the words of `show` have no option, or the one by which it prints this, or are refused (`Several`); for any other command what `show` prints is the text of
-- the graph
abbrev pub IsShows : Command → List Row → Shows → Type 0
IsShows Show rows shows =
    shows ≡ shows_by (is_set (first_of (codes "findings") rows)) (is_set (first_of (codes "plan") rows)) (is_some (first_of (codes "matches") rows))
    (is_set (first_of (codes "ops") rows)) (is_some (first_of (codes "agrees") rows)) (is_some (all_of (codes "local") rows))
IsShows _ rows shows = shows ≡ Graph

-- the first of two texts, if there is one, or else the second
abbrev pub either : Option Text → Option Text → Option Text
either (Some text) other = Some text
either None other = other

-- the file is the file that the words of `step` name, or that of the older definition, or else that of the newer tree, that the words of `show` name; for any
-- other command there is no file
abbrev pub IsFile : Command → List Row → Option (Bor Text) → Type 0
IsFile Step rows file = option_map (λ w. w.now) file ≡ first_of (codes "file") rows
IsFile Show rows file = option_map (λ w. w.now) file ≡ either (first_of (codes "matches") rows) (first_of (codes "agrees") rows)
IsFile _ rows file = file ≡ None

-- the line has the command of this name, and the number of workers, the looks, the ends of replies, what `show` prints, the file and the local sources that
-- are in these matches of `clap`
pub record SaysCommand (name : Text) (rows : List Row) (line : Line) : Type 0 where
  pub command : name_of line.command ≡ name
  pub workers : IsWorkers line.command rows line.workers
  pub looks : IsLooks line.command rows line.looks
  pub ends : IsEnds line.command rows line.ends
  pub shows : IsShows line.command rows line.shows
  pub file : IsFile line.command rows line.file
  pub locals : AreSplit (local_words rows) line.locals

-- the matches that `clap` found for the subcommand that the words name; none if they name no subcommand
abbrev pub matches_named : Option (Text × List Row) → List Row
matches_named None = []
matches_named (Some p) = p.1

-- the `Line` has what `clap` found in the words: a command with its matches; if `clap` found no command, `run` with one worker and no local sources
abbrev pub Says : Option (Text × List Row) → Line → Type 0
Says met line = SaysCommand (named met) (matches_named met) line

-- What a refusal says of the words. The fault `Words` without a word: `clap` refuses the words. `Words` with a word: `clap` accepts the words, but this word is
-- the first among the words for local sources that has no `=`. `Memory`: nothing.
abbrev pub Refuses : Kinds → List Text → WordsFault → Type 0
Refuses kinds words (Words None) = kinds ≢ []
Refuses kinds words (Words (Some w)) = (kinds ≡ []) × IsUnsplit words w.now
Refuses kinds words Memory = Unit {0}

-- what the result of reading the words says of them: if it is a `Line`, `clap` accepts the words; if it is a fault, the cause is as `Refuses` says
abbrev pub IsByWords : Kinds → List Text → Result Line WordsFault → Type 0
IsByWords kinds words (Ok line) = kinds ≡ []
IsByWords kinds words (Err e) = Refuses kinds words e

-- the fault is `Words` with the first word that has no `=`, or `Memory`
abbrev pub RefusesWord : List Text → WordsFault → Type 0
RefusesWord words (Words None) = ⊥
RefusesWord words (Words (Some w)) = IsUnsplit words w.now
RefusesWord words Memory = Unit {0}

-- the fault for a refusal by `clap` of this kind: `Memory` if the kind is `OutOfMemory`, else `Words` without a word
abbrev pub IsFaultOfKind : ErrorKind → WordsFault → Type 0
IsFaultOfKind kind (Words None) = kind ≢ OutOfMemory
IsFaultOfKind kind (Words (Some w)) = ⊥
IsFaultOfKind kind Memory = kind ≡ OutOfMemory

-- the text that follows the word `fault` in the line for refused words
abbrev pub words_text : WordsFault → List ℕ
words_text (Words None) = codes "183"
words_text (Words (Some word)) = codes "183 " ++ word.now
words_text Memory = codes "184"

-- the exit status for refused words: 2, or 3 if memory was refused
abbrev pub words_status : WordsFault → ℕ
words_status (Words w) = 2
words_status Memory = 3

-- the line of the fault is written, and the status is the fault's; or the line could not be written, and the status is 3
abbrev pub TellsWords : Option (List ℕ) → Option (List ℕ) → WordsFault → ℕ → Type 0
TellsWords err err' e = TellsLine err err' (words_text e) (words_status e)
