-- The text of the entries that were read is written, or a prefix of it.
use Rattle.std.proofs.Common.{◌≡◌, ℕ, List, [], refl, sym}
use Rattle.std.proofs.KnownBytes.{Appends-kept}
use Rattle.std.proofs.lemmas.List.{append-nil}
use Rattle.std.specs.Prelude.{Option, Ok, IfSome}
use Rattle.std.specs.Io.KnownBytes.{Keeps}
use Rattle.llb_ops.specs.Definition.{definition_of}
use Rattle.llb_asm.specs.DisassembledText.{Formed, plain_text}
use Rattle.llb_commands.specs.Assembly.{IsTextBy, IsOut, IsPartOut}
use Rattle.llb_commands.specs.CallStreams.{Stream, IsPartWritten, IsWritten}
use Rattle.llb_commands.proofs.RunOutput.{some_map, stream}

module _ (Are : List (List ℕ) → List Formed → Type 0) (left : Option (List ℕ)) (entries : List (List ℕ)) (read : IfSome left (λ bytes. definition_of bytes
    ≡ Ok entries)) (xs : List Formed) (are : Are entries xs) where
  comes : (bytes : List ℕ) → definition_of bytes ≡ Ok entries → IsTextBy Are bytes (plain_text xs)
  comes bytes is = record { entries = entries; read = is; forms = xs; are = are; same = refl }

  -- a prefix is written
  pub part : (output : Stream) → IsPartWritten output (plain_text xs) → IfSome left (IsPartOut (IsTextBy Are) output)
  part output some =
      some_map (λ bytes. definition_of bytes ≡ Ok entries) (IsPartOut (IsTextBy Are) output) left (λ bytes is. (plain_text xs, comes bytes is, some)) read

  module _ (out out' last : Option (List ℕ)) (all : IsWritten (stream out out') (plain_text xs)) (keeps : Keeps out' last) where
    kept : IsWritten (stream out last) (plain_text xs)
    kept = Appends-kept out out' last (plain_text xs) all keeps

    -- all of it is written
    pub whole : IfSome left (IsOut (IsTextBy Are) (stream out last))
    whole = some_map (λ bytes. definition_of bytes ≡ Ok entries) (IsOut (IsTextBy Are) (stream out last)) left
        (λ bytes is. (plain_text xs, comes bytes is, kept)) read

    -- as all of the text is written, a prefix of it is
    pub unflushed : IfSome left (IsPartOut (IsTextBy Are) (stream out last))
    unflushed = part (stream out last) (plain_text xs, [], sym (append-nil (plain_text xs)), kept)
