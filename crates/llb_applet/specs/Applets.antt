-- The applets (the thirteen small commands that a script can call), and their names.
use Rattle.std.specs.Prelude.{ℕ, nat_eq, Bool, List, [], ◌∷◌, Option, find, codes}
use Rattle.std.specs.Cmp.Lexicographic.{pointwise}
use Rattle.llb_applet.specs.declared.applet.Applet.{Applet}
use Rattle.llb_applet.specs.declared.applet.Applet.TheVariants.{True, False, Mkdir, Rm, Write, Append, Cp, Concat, Chmod, Test, Listing, Envfile, Sha256}

-- whether a word is exactly these bytes
abbrev pub spells : List ℕ → List ℕ → Bool
spells this word = pointwise nat_eq word this

-- the name by which a call asks for an applet
abbrev pub name_of : Applet → List ℕ
name_of True = codes "true"
name_of False = codes "false"
name_of Mkdir = codes "mkdir"
name_of Rm = codes "rm"
name_of Write = codes "write"
name_of Append = codes "append"
name_of Cp = codes "cp"
name_of Concat = codes "concat"
name_of Chmod = codes "chmod"
name_of Test = codes "test"
name_of Listing = codes "listing"
name_of Envfile = codes "envfile"
name_of Sha256 = codes "sha256"

-- all applets
abbrev pub applets : List Applet
applets = True ∷ False ∷ Mkdir ∷ Rm ∷ Write ∷ Append ∷ Cp ∷ Concat ∷ Chmod ∷ Test ∷ Listing ∷ Envfile ∷ Sha256 ∷ []

-- the applet of this name, if there is one
abbrev pub applet_of : List ℕ → Option Applet
applet_of word = find (λ a. spells (name_of a) word) applets
