-- What each step of laying one tree over another returns, for a node, for a list of children, or for a list of pieces (a piece has some children of a node).
use Rattle.std.specs.Prelude.{◌≡◌, ◌<◌, ◌^◌, ℕ, zero, suc, true, false, List, [], ◌∷◌, map, Option, Some, None, is_some, Vec}
use Rattle.std.specs.declared.alloc.Global.{Global}
use Rattle.std.specs.FinMap as finite
use Rattle.llb_tree.specs.Path.{name_cmp}
use Rattle.llb_tree.specs.Tree.{TreeMap, Entry}
use Rattle.llb_tree.specs.Nodes.{AreSorted, Pairs, child, look_in, name_of, pair_of, rows_in}
use Rattle.llb_tree.specs.ModeAndOwner.{MetaValue}
use Rattle.llb_tree.specs.Overlay.{SettingsValue, is_mode, laid_meta, over, over_at}
use Rattle.llb_tree.specs.declared.node.Child.{Child}
use Rattle.llb_tree.specs.declared.node.Piece.{Piece}

-- the tree t after each of its entries gets the mode, the user and the group that the settings `w` set; what `w` does not set stays
abbrev pub dress : SettingsValue → TreeMap → TreeMap
dress w t = finite.from_entries (map (λ (e : List (List ℕ) × Entry). (e.0, over w None e.1)) (finite.entries t))

-- a child, with each entry of the child's tree changed as `dress` says; the child's name stays
abbrev pub dress_pair : SettingsValue → List ℕ × TreeMap → List ℕ × TreeMap
dress_pair w k = (k.0, dress w k.1)

-- laying the children `upper` over the children `old` makes the children `new`
pub record Lays (w : SettingsValue) (upper old new : List Child) : Type 0 where
  pub sorted : AreSorted new
  pub children : (m : List ℕ) (q : List (List ℕ)) → look_in (child m new) q ≡ over_at w (look_in (child m old)) (look_in (child m upper)) q

-- t is the tree of an upper child, laid over the tree of the lower child with the same name, or over nothing if no lower child has that name
abbrev pub IsOver : SettingsValue → List Child → Child → TreeMap → Type 0
IsOver w old upper t = (q : List (List ℕ)) → finite.get t q ≡ over_at w (look_in (child (name_of upper) old)) (finite.get upper.node) q

-- `made` is the upper child, laid over the lower child with the same name, or over nothing if no lower child has that name
pub record IsLaid (w : SettingsValue) (old : List Child) (upper made : Child) : Type 0 where
  pub named : name_of made ≡ name_of upper
  pub laid : (q : List (List ℕ)) → finite.get made.node q ≡ over_at w (look_in (child (name_of upper) old)) (finite.get upper.node) q

-- for each upper child there is one child in the result, in the same order: the upper child after laying, as `IsLaid` says
abbrev pub AreLaid : SettingsValue → List Child → List Child → List Child → Type 0
AreLaid w old [] [] = Unit {0}
AreLaid w old [] (k ∷ made) = ⊥
AreLaid w old (u ∷ upper) [] = ⊥
AreLaid w old (u ∷ upper) (k ∷ made) = IsLaid w old u k × AreLaid w old upper made

-- for each upper piece there is one new piece; its children are the children of the upper piece after laying, as `AreLaid` says
abbrev pub PiecesLaid : SettingsValue → List Child → List Piece → List Piece → Type 0
PiecesLaid w old [] [] = Unit {0}
PiecesLaid w old [] (p ∷ made) = ⊥
PiecesLaid w old (u ∷ upper) [] = ⊥
PiecesLaid w old (u ∷ upper) (p ∷ made) = AreLaid w old (rows_in u) (rows_in p) × PiecesLaid w old upper made

-- the settings `w` leave each upper entry its own mode and owner, whatever the lower tree has at the entry's path
pub record TakesWhole (w : SettingsValue) : Type 0 where
  pub own : (m : MetaValue) → laid_meta w m ≡ m
  pub upper : w.keeps ≡ false

-- the settings leave each upper entry as it is (`TakesWhole`), and the new children are the upper children, unchanged
pub record StandWhole (w : SettingsValue) (upper new : List Child) : Type 0 where
  pub settings : TakesWhole w
  pub same : map pair_of new ≡ map pair_of upper

-- each name of the lower children is also a name of an upper child
abbrev pub Covers : List Child → List Child → Type 0
Covers upper lower = (n : List ℕ) → is_some (child n lower) ≡ true → is_some (child n upper) ≡ true

-- one of the children `kids` has the name n, and each name of the children `more` is the name of one of `kids`
pub record HasLater (n : List ℕ) (kids more : List Child) : Type 0 where
  pub here : is_some (child n kids) ≡ true
  pub later : Covers kids more

-- the new list of children, if one was made; else the old list `ks`
abbrev pub those : Option (Vec Child Global) → List Child → List Child
those None ks = ks
those (Some made) ks = made.items

-- the new list of pieces, if one was made; else the old list `ps`
abbrev pub those_pieces : Option (Vec Piece Global) → List Piece → List Piece
those_pieces None ps = ps
those_pieces (Some made) ps = made.items

-- the children with tree t in place of the tree of the child at position i
abbrev pub written : ℕ → TreeMap → Pairs → Pairs
written i t [] = []
written zero t (k ∷ ks) = (k.0, t) ∷ ks
written (suc i) t (k ∷ ks) = k ∷ written i t ks

-- the children `old` after other children are put among them, one by one: each replaces the child with the same name, or is inserted if there is none
abbrev pub puts : Pairs → Pairs → Pairs
puts [] old = old
puts (k ∷ ks) old = puts ks (finite.put name_cmp k.0 k.1 old)

-- the owner, if one is given, has at most 32 bits
abbrev pub owner_fits : Option ℕ → Type 0
owner_fits None = Unit {0}
owner_fits (Some owner) = owner < 2 ^ 32

-- the mode, if given, is at most 4095, and each owner, if given, has at most 32 bits
pub record AreSettings (w : SettingsValue) : Type 0 where
  pub mode : is_mode w.mode ≡ true
  pub uid : owner_fits w.uid
  pub gid : owner_fits w.gid
