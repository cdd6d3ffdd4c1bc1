-- A class as contracts see it: its items in order, and whether it excludes them.
use Rattle.std.specs.Prelude.{Bool, List}
use Rattle.llb_glob.specs.declared.class.Span.{Span}

-- a class: its items, and whether it excludes; a class that excludes matches exactly the characters that are in none of its items
pub record ClassValue : Type 0 where
  pub excludes : Bool
  pub spans : List Span
