-- Exchanges of pieces: they are kept by appending, and a program that makes no digest writes what is related to itself.
use Rattle.std.proofs.Common.{◌≡◌, ℕ, zero, suc, Bool, true, false, ◌||◌, ◌⊎◌, List, [], ◌∷◌, ◌++◌, Option, Some, None, refl, sym, ap, subst, ◌∙◌}
use Rattle.std.proofs.Common.{inl, inr, append_assoc, arith}
use Rattle.std.specs.List.{All, Contains, flat_map, list_any}
use Rattle.std.proofs.lemmas.List.{append-nil}
use Rattle.std.proofs.lemmas.List.Elements.{All-append}
use Rattle.llb_ops.specs.declared.file_op.ActionKind.{ActionKind}
use Rattle.llb_ops.specs.declared.file_op.ActionKind.TheVariants as kind
use Rattle.llb_applet.specs.declared.directory_and_variables.Setting.{Setting}
use Rattle.llb_applet.specs.declared.command.Command.{Command}
use Rattle.llb_applet.specs.declared.command.Command.TheVariants as command
use Rattle.llb_applet.specs.Commands.{line, listed}
use Rattle.llb_loader.specs.Graph.{Numbered, IsGraph}
use Rattle.llb_model.specs.Program.{MicroStep, ReadLocal, Act, LayInput, Run, program_of}
use Rattle.llb_laws.specs.AlikeTrees.{IsKept, RelatesTexts, RelatesBody, RelatesStep}
use Rattle.llb_laws.specs.ContentLaws.{digests, step_digests, AreExchanged, HandsOnUndigested, HandsContentsOn}
use Rattle.llb_laws.proofs.AnyNames.{hands_on}

-- ---- what a program writes, where each content is related to itself

module _ (R : List ℕ → List ℕ → Type 0) (itself : (a : List ℕ) → R a a) where
  relates_texts : (s : Setting) (c : Command) → digests c ≡ false → RelatesTexts R s c
  relates_texts s (command.Write path word) none = itself (line word)
  relates_texts s (command.Append path word) none = itself (line word)
  relates_texts s (command.Listing path out) none = λ t p names. itself (listed t p names)
  relates_texts s (command.Envfile out) none = itself (flat_map line s.env)
  relates_texts s (command.Sha256 path out) none = absurd cc
  relates_texts s command.True none = tt
  relates_texts s command.False none = tt
  relates_texts s (command.Mkdir parents path) none = tt
  relates_texts s (command.Rm path) none = tt
  relates_texts s (command.Cp from to) none = tt
  relates_texts s (command.Concat out parts) none = tt
  relates_texts s (command.Chmod mode path) none = tt
  relates_texts s (command.Test kind path) none = tt

  relates_body : (a : Option ActionKind) → RelatesBody R a
  relates_body (Some (kind.MkFile m)) = itself m.body
  relates_body (Some (kind.MkDir m)) = tt
  relates_body (Some (kind.Copy c)) = tt
  relates_body (Some (kind.Rm r)) = tt
  relates_body None = tt

  relates_step : (m : MicroStep) → step_digests m ≡ false → RelatesStep R m
  relates_step ReadLocal none = tt
  relates_step (Act a) none = relates_body a.kind
  relates_step (LayInput i) none = tt
  relates_step (Run s c ends) none = relates_texts s c.command none

  pub relates_steps : (steps : List MicroStep) → list_any step_digests steps ≡ false → All (RelatesStep R) steps
  relates_steps [] none k d l = absurd (omega (arith, l))
  relates_steps (m ∷ steps) none zero d l = relates_step m (first (step_digests m) (list_any step_digests steps) none)
    where
      first : (a b : Bool) → (a || b) ≡ false → a ≡ false
      first true b e = absurd cc
      first false b e = refl
  relates_steps (m ∷ steps) none (suc k) d l = relates_steps steps (second (step_digests m) (list_any step_digests steps) none) k d (omega (arith, l))
    where
      second : (a b : Bool) → (a || b) ≡ false → b ≡ false
      second true b e = absurd cc
      second false b e = e

-- ---- exchanges

flat_map-append : {A : Type 0} (f : A → List ℕ) (xs ys : List A) → flat_map f (xs ++ ys) ≡ flat_map f xs ++ flat_map f ys
flat_map-append f [] ys = refl
flat_map-append f (x ∷ xs) ys = ap (λ zs. f x ++ zs) (flat_map-append f xs ys) ∙ sym (append_assoc (f x) (flat_map f xs) (flat_map f ys))

module _ (pairs : List (List ℕ × List ℕ)) where
  abbrev IsPiece : List ℕ × List ℕ → Type 0
  IsPiece p = (p.0 ≡ p.1) ⊎ Contains pairs p

  one_piece : (a : List ℕ) → All IsPiece ((a, a) ∷ [])
  one_piece a zero d l = inl refl
  one_piece a (suc k) d l = absurd (omega (arith, l))

  pub exchanged_itself : (a : List ℕ) → AreExchanged pairs a a
  exchanged_itself a = record { pieces = (a, a) ∷ []; each = one_piece a; first = sym (append-nil a); second = sym (append-nil a) }

  pub exchanged_kept : IsKept (AreExchanged pairs)
  exchanged_kept = record {
    empty = exchanged_itself [];
    appended = λ a b c d h k. record {
      pieces = h.pieces ++ k.pieces;
      each = All-append IsPiece h.pieces k.pieces h.each k.each;
      first = (λ i. h.first i ++ k.first i) ∙ sym (flat_map-append (λ p. p.0) h.pieces k.pieces);
      second = (λ i. h.second i ++ k.second i) ∙ sym (flat_map-append (λ p. p.1) h.pieces k.pieces);
    };
  }

-- no relation that relates each content to itself, is kept by appending and has the pairs is narrower
pub exchanged_least : (pairs : List (List ℕ × List ℕ)) (R : List ℕ → List ℕ → Type 0) → IsKept R → ((a : List ℕ) → R a a)
    → ((p : List ℕ × List ℕ) → Contains pairs p → R p.0 p.1) → (a b : List ℕ) → AreExchanged pairs a b → R a b
exchanged_least pairs R kept itself has a b h =
    subst (λ x. R x b) (sym h.first) (subst (λ y. R (flat_map (λ p. p.0) h.pieces) y) (sym h.second) (by_pieces h.pieces h.each))
  where
    piece : (p : List ℕ × List ℕ) → (p.0 ≡ p.1) ⊎ Contains pairs p → R p.0 p.1
    piece p (inl same) = subst (R p.0) same (itself p.0)
    piece p (inr there) = has p there

    by_pieces : (ps : List (List ℕ × List ℕ)) → All (λ p. (p.0 ≡ p.1) ⊎ Contains pairs p) ps → R (flat_map (λ p. p.0) ps) (flat_map (λ p. p.1) ps)
    by_pieces [] each = kept.empty
    by_pieces (p ∷ ps) each =
        kept.appended p.0 p.1 (flat_map (λ q. q.0) ps) (flat_map (λ q. q.1) ps) (piece p (each 0 p (omega arith)))
        (by_pieces ps (λ k d l. each (suc k) d (omega (arith, l))))

-- ---- the laws where no digest is made

-- a relation that relates each content to itself is handed on, if no digest is made
pub hands_on_undigested : (R : List ℕ → List ℕ → Type 0) → IsKept R → ((a : List ℕ) → R a a) → (g : Numbered) → IsGraph g → HandsOnUndigested R g
hands_on_undigested R kept itself g graph ls ms v none sources =
    hands_on R kept g graph ls ms v (λ k x before there. relates_steps R itself (program_of x).steps (none k x before there)) sources

pub hands_contents_on : (g : Numbered) → IsGraph g → HandsContentsOn g
hands_contents_on g graph pairs = hands_on_undigested (AreExchanged pairs) (exchanged_kept pairs) (exchanged_itself pairs) g graph
