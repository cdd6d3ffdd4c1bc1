-- The words that the matches have for an argument, read off their rows.
use Rattle.std.proofs.Common.{◌≡◌, ◌≢◌, ◌⊎◌, inl, inr, ◌∙◌, List, [], ◌∷◌, map, refl, ap, sym, subst, true, false, cond, Option, Some, None}
use Rattle.std.proofs.Common.{option_map}
use Rattle.std.specs.Prelude.{find, Result, Ok, Err}
use Rattle.std.specs.Result.{IsErrAnd}
use Rattle.std.specs.Str.{bytes_eq}
use Rattle.clap.specs.Facts.{Entry}
use Rattle.clap.specs.Walk.{row_of}
use Rattle.clap.specs.Words.{IsAmong, Kinds, Row, Text, all_of, matched_of, raw_values, rows_of}
use Rattle.clap.specs.declared.error.kind.ErrorKind.{ErrorKind}
use Rattle.clap.specs.declared.error.kind.ErrorKind.TheVariants.{OutOfMemory}
use Rattle.clap.specs.declared.parser.matches.Found.{Found}
use Rattle.llb_commands.specs.CommandLine.{named_local_words, local_words, Refuses, RefusesWord, IsFaultOfKind}
use Rattle.llb_commands.specs.HelpPages.{HasPage, IsByWordsWithPage, named_first, page_for}
use Rattle.llb_commands.specs.declared.command_line_words.Line.{Line}
use Rattle.llb_commands.specs.declared.command_line_words.Refusal.{Refusal}
use Rattle.llb_commands.specs.declared.command_line_words.WordsFault.{WordsFault}
use Rattle.llb_commands.specs.declared.command_line_words.WordsFault.TheVariants.{Words, Memory}

abbrev words_at : Text → List Entry → Option (List Text)
words_at id es = option_map raw_values (option_map (λ e. e.1) (find (λ e. bytes_eq e.0.now id) es))

by_entries : (id : Text) (es : List Entry) → words_at id es ≡ all_of id (map row_of es)
by_entries id [] = refl
by_entries id (e ∷ es) =
    elim (bytes_eq e.0.now id) as (λ b. option_map raw_values (option_map (λ e. e.1) (cond b (Some e) (find (λ e. bytes_eq e.0.now id) es)))
    ≡ option_map (λ (r : Row). r.values) (cond b (Some (row_of e)) (find (λ (r : Row). bytes_eq r.id id) (map row_of es)))) [
      | true ↦ refl
      | false ↦ by_entries id es
    ]

-- the words that the matches have for an argument are those that its row has
pub words_in_rows : (f : Found) (id : Text) → option_map raw_values (matched_of f id) ≡ all_of id (rows_of f)
words_in_rows f id = by_entries id f.entries.items

-- the words for local sources are in the rows of the subcommand
pub own_words : (met : Option (Text × List Row)) (rows : List Row) → Some rows ≡ option_map (λ (p : Text × List Row). p.1) met → local_words rows
    ≡ named_local_words met
own_words None rows is = absurd cc
own_words (Some p) rows is = let same : rows ≡ p.1 = cc in ap local_words same

-- where `clap` takes the words, a fault refuses one of them, or memory; no page follows it
no_page : (kinds : Kinds) (locals words : List Text) (fault : WordsFault) (page : Text)
    → kinds ≡ [] → RefusesWord locals fault → page ≡ [] → Refuses kinds locals fault × HasPage kinds words fault page
no_page kinds locals words (Words None) page none refuses empty = absurd refuses
no_page kinds locals words (Words (Some w)) page none refuses empty = ((none, refuses), empty)
no_page kinds locals words Memory page none refuses empty = (tt, empty)

pub by_word : (kinds : Kinds) (locals words : List Text) (fault : WordsFault) (r : Result Line Refusal)
    → kinds ≡ [] → RefusesWord locals fault → IsErrAnd r (λ e. (e.fault ≡ fault) × (e.page.now ≡ [])) → IsByWordsWithPage kinds locals words r
by_word kinds locals words fault (Ok line) none refuses is = absurd is
by_word kinds locals words fault (Err e) none refuses is =
    no_page kinds locals words e.fault e.page.now none (subst (RefusesWord locals) (sym is.0) refuses) is.1

some_kind : (kinds : Kinds) (k : ErrorKind) → IsAmong k kinds → kinds ≢ []
some_kind [] k among = absurd among
some_kind (x ∷ xs) k among = λ e. absurd cc

-- where clap refuses the words, the page is the one for the kind of its refusal
pub by_clap : (kinds : Kinds) (locals words : List Text) (k : ErrorKind) (fault : WordsFault) (page : Text)
    → (k ≡ OutOfMemory) ⊎ IsAmong k kinds → IsFaultOfKind k fault → page ≡ page_for k (named_first words)
    → Refuses kinds locals fault × HasPage kinds words fault page
by_clap kinds locals words k (Words None) page (inl memory) other is = absurd (other memory)
by_clap kinds locals words k (Words None) page (inr among) other is = (some_kind kinds k among, (k, among, is))
by_clap kinds locals words k (Words (Some w)) page has other is = absurd other
by_clap kinds locals words k Memory page has memory is = (tt, is ∙ ap (λ j. page_for j (named_first words)) memory)
