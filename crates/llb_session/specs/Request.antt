-- What a line of a session asks for. The line is one or more words, with one space between each two words and no space at either end. `command_in` is the
-- grammar of commands, which every session has; `look_in` is the grammar of looks, which are requests only of a session that allows them.
use Rattle.std.specs.Prelude.{ℕ, ◌^◌, ◌==◌, nat_lt, Bool, if◌then◌else◌, List, length, codes, Option, Some, None, option_map}
use Rattle.std.specs.List.{position_or_len, before_first, after_first}
use Rattle.std.specs.Str.{is_utf8}
use Rattle.llb_wire.specs.Decimal.{magnitude, below}
use Rattle.llb_wire.specs.TextComparison.{is_text, then_in}
use Rattle.llb_events.specs.declared.event.Event.TheVariants.{Claim, Step, Settle, Cancel}
use Rattle.llb_stepper.specs.declared.stop.Break.TheVariants.{Claims, Settles, Fails}
use Rattle.llb_session.specs.declared.request.Look.{Look}
use Rattle.llb_session.specs.declared.request.Look.TheVariants as look
use Rattle.llb_session.specs.declared.request.Looks.{Looks}
use Rattle.llb_session.specs.declared.request.Looks.TheVariants.{Refused, Allowed}
use Rattle.llb_session.specs.declared.request.Request.{Request}
use Rattle.llb_session.specs.declared.request.Request.TheVariants as ask

-- whether a byte is a space
abbrev pub is_space : ℕ → Bool
is_space b = b == 32

-- the word before the first space of a text, and the text after that space; nothing if there is no space
abbrev pub parted : List ℕ → Option (List ℕ × List ℕ)
parted text = if nat_lt (position_or_len is_space text) (length text) then Some (before_first is_space text, after_first is_space text) else None

-- the number below 2^32 that a text spells in decimal digits; nothing for any other text
abbrev pub number_in : List ℕ → Option ℕ
number_in text = then_in (magnitude text) (below (2 ^ 32))

-- the two numbers that a text spells with a space between them; nothing for any other text
abbrev pub pair_in : List ℕ → Option (ℕ × ℕ)
pair_in text = then_in (parted text) (λ p. then_in (number_in p.0) (λ a. option_map (λ b. (a, b)) (number_in p.1)))

-- ---- commands

-- the command that a line of one word spells, if any
abbrev pub alone : List ℕ → Option Request
alone word =
    if is_text word (codes "clear") then Some ask.Clear
    else if is_text word (codes "next") then Some ask.Next
    else if is_text word (codes "go") then Some ask.Go
    else if is_text word (codes "back") then Some ask.Back
    else if is_text word (codes "status") then Some ask.Status
    else if is_text word (codes "quit") then Some ask.Quit
    else None

-- the command of a line `break claim V` or `break settle V`, given the second word and the text after it: a breakpoint at vertex V
abbrev pub break_at : List ℕ → List ℕ → Option Request
break_at word rest =
    if is_text word (codes "claim") then option_map (λ v. ask.Break (Claims v)) (number_in rest)
    else if is_text word (codes "settle") then option_map (λ v. ask.Break (Settles v)) (number_in rest)
    else None

-- the command of a line `break ..`, given the text after `break`
abbrev pub break_in : List ℕ → Option Request
break_in rest = if is_text rest (codes "fail") then Some (ask.Break Fails) else then_in (parted rest) (λ p. break_at p.0 p.1)

-- the command that a line of two or more words spells, given its first word and the text after this word
abbrev pub word_with_rest : List ℕ → List ℕ → Option Request
word_with_rest word rest =
    if is_text word (codes "break") then break_in rest
    else if is_text word (codes "claim") then option_map (λ (p : ℕ × ℕ). ask.Event (Claim p.0 p.1)) (pair_in rest)
    else if is_text word (codes "step") then option_map (λ w. ask.Event (Step w)) (number_in rest)
    else if is_text word (codes "settle") then option_map (λ w. ask.Event (Settle w)) (number_in rest)
    else if is_text word (codes "cancel") then option_map (λ w. ask.Event (Cancel w)) (number_in rest)
    else if is_text word (codes "tree") then option_map (λ (p : ℕ × ℕ). ask.Tree p.0 p.1) (pair_in rest)
    else None

-- the command that a text spells, given the text and, if the text has more than one word, its first word and the text after this word
abbrev pub by_words : List ℕ → Option (List ℕ × List ℕ) → Option Request
by_words line None = alone line
by_words line (Some p) = word_with_rest p.0 p.1

-- the command that a text spells, if any
abbrev pub command_in : List ℕ → Option Request
command_in line = by_words line (parted line)

-- ---- looks

-- the look that a line of one word spells, if any
abbrev pub look_alone : List ℕ → Option Look
look_alone word =
    if is_text word (codes "caches") then Some look.Caches
    else if is_text word (codes "graph") then Some look.Graph
    else if is_text word (codes "digests") then Some look.Digests
    else None

-- the look of a line `work W` or `work W I`, for worker W and its tree I, given the text after `work` and the number that this text spells, if any
abbrev pub work_by : List ℕ → Option ℕ → Option Look
work_by rest (Some w) = Some (look.Work w)
work_by rest None = option_map (λ (p : ℕ × ℕ). look.WorkTree p.0 p.1) (pair_in rest)

-- the look of a line `work ..`, given the text after `work`
abbrev pub work_in : List ℕ → Option Look
work_in rest = work_by rest (number_in rest)

-- the look that a line of two or more words spells, given its first word and the text after this word
abbrev pub look_with_rest : List ℕ → List ℕ → Option Look
look_with_rest word rest =
    if is_text word (codes "work") then work_in rest
    else if is_text word (codes "cache") then option_map (λ (p : ℕ × ℕ). look.Cache p.0 p.1) (pair_in rest)
    else if is_text word (codes "why") then option_map (λ (p : ℕ × ℕ). look.Why p.0 p.1) (pair_in rest)
    else None

-- the look that a text spells, given the text and, if the text has more than one word, its first word and the text after this word
abbrev pub look_by_words : List ℕ → Option (List ℕ × List ℕ) → Option Look
look_by_words line None = look_alone line
look_by_words line (Some p) = look_with_rest p.0 p.1

-- the look that a text spells, if any
abbrev pub look_in : List ℕ → Option Look
look_in line = look_by_words line (parted line)

-- ---- requests

-- the command if there is one, else the look
abbrev pub or_look : Option Request → Option Look → Option Request
or_look (Some r) l = Some r
or_look None l = option_map (λ (x : Look). ask.Look x) l

-- the request that a text spells, if any: a command, or a look if looks are allowed
abbrev pub asked_in : Looks → List ℕ → Option Request
asked_in Refused line = command_in line
asked_in Allowed line = or_look (command_in line) (look_in line)

-- the request that a line spells, if any; a line that is not UTF-8 spells none
abbrev pub request_in : Looks → List ℕ → Option Request
request_in looks line = if is_utf8 line then asked_in looks line else None
