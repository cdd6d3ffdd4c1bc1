-- The text of a digest.
use Rattle.std.specs.Prelude.{ℕ, List, ◌++◌, codes}
use Rattle.sha2.specs.Sha256.{sha256}
use Rattle.hex.specs.Hex.{encode_lower}

-- the 64 hexadecimal digits of the SHA-256 of bytes
abbrev pub digits_of : List ℕ → List ℕ
digits_of bytes = encode_lower (sha256 bytes)

-- the text of the digest of bytes: `sha256:` and the 64 hexadecimal digits of the SHA-256 of the bytes
abbrev pub digest_text : List ℕ → List ℕ
digest_text bytes = codes "sha256:" ++ digits_of bytes
